-- The number of the test of mark bytes: each two lists and count have one.
use Prim.Native.Nat.{ℕ, ◌*◌, ◌≤◌, ◌<◌}
use mathlib.Core.Path.{◌≡◌, refl, ap}
use mathlib.Core.Bool.{Bool, true, false}
use mir.Val.{bool_byte}
use mathlib.Core.List.{List}
use mathlib.Core.Logic.{◌⊎◌, ⊎_elim}
use native.Mathlib.Omega.{arith}
use lib.ListN.{length}
use Rattle.definitions.specs.Marks.{MarksCompared}
use Rattle.definitions.proofs.Marks.{compared_unique}
use Rattle.capi.specs.Numbers.{low_byte}
use Rattle.capi.specs.Marks.{said_number, MarksAs, too_few, compared}

enough : {count : ℕ} (xs ys : List ℕ) → (length xs < count) ⊎ (length ys < count) → count ≤ length xs → count ≤ length ys → ⊥
enough xs ys few h g = ⊎_elim (λ l. omega arith) (λ l. omega arith) few

-- 256 × whether they differ.
pub compared_by : {count number : ℕ} {xs ys : List ℕ} (says : Bool) → count ≤ length xs → count ≤ length ys → MarksCompared count xs ys says → number ≡ bool_byte says → MarksAs count xs ys (low_byte * number)
compared_by true h g c e = rw e (compared h g c)
compared_by false h g c e = rw e (compared h g c)

pub marks_as_unique : {count : ℕ} {xs ys : List ℕ} {m n : ℕ} → MarksAs count xs ys m → MarksAs count xs ys n → m ≡ n
marks_as_unique (too_few f) (too_few g) = refl
marks_as_unique {xs = xs} {ys} (too_few f) (compared h g c) = absurd (enough xs ys f h g)
marks_as_unique {xs = xs} {ys} (compared h g c) (too_few f) = absurd (enough xs ys f h g)
marks_as_unique (compared h g c) (compared i j d) = ap said_number (compared_unique c d)
