-- The number of elements of which something holds: there is one, and how it grows with the list.
use Prim.Native.Nat.{ℕ, suc, ◌+◌}
use mathlib.Core.Path.{◌≡◌, refl, ap, sym, subst}
use mathlib.Core.Logic.{◌↔◌}
use mathlib.Core.List.{List, [], ◌∷◌, ◌++◌, map}
use native.Mathlib.Omega.{arith}
use native.Mathlib.Nat.{zero-add}
use Rattle.definitions.specs.Census.{Counted, nothing, holds, holds_not, OneNumber}

-- There is one such number.
pub counted_unique : {A : Type 0} {P : A → Type 0} {xs : List A} {j k : ℕ} → Counted P xs j → Counted P xs k → j ≡ k
counted_unique nothing nothing = refl
counted_unique (holds p c) (holds q d) = ap suc (counted_unique c d)
counted_unique (holds p c) (holds_not q d) = absurd (q p)
counted_unique (holds_not p c) (holds q d) = absurd (p q)
counted_unique (holds_not p c) (holds_not q d) = counted_unique c d

pub one_number : OneNumber
one_number A P xs j k c d = counted_unique c d

-- Of two lists one behind the other.
pub counted_append : {A : Type 0} {P : A → Type 0} {xs ys : List A} {j k : ℕ} → Counted P xs j → Counted P ys k → Counted P (xs ++ ys) (j + k)
counted_append {P = P} {k = k} nothing d = subst (Counted P _) (sym (zero-add k)) d
counted_append {P = P} (holds p c) d = subst (Counted P _) (omega arith) (holds p (counted_append c d))
counted_append (holds_not p c) d = holds_not p (counted_append c d)

-- What holds of each element.
pub data Each {A : Type 0} (P : A → Type 0) : List A → Type 0 where
  no_more : Each P []
  one_more : {x : A} {xs : List A} → P x → Each P xs → Each P (x ∷ xs)

pub each_append : {A : Type 0} {P : A → Type 0} {xs ys : List A} → Each P xs → Each P ys → Each P (xs ++ ys)
each_append no_more f = f
each_append (one_more p e) f = one_more p (each_append e f)

pub each_map : {A B : Type 0} {P : A → Type 0} {Q : B → Type 0} (f : A → B) {xs : List A} → ((x : A) → P x → Q (f x)) → Each P xs → Each Q (map f xs)
each_map f h no_more = no_more
each_map f h (one_more p e) = one_more (h _ p) (each_map f h e)

-- The number is the same of f's elements, where what is counted is the same.
pub counted_map : {A B : Type 0} {P : A → Type 0} {Q : B → Type 0} (f : A → B) {xs : List A} {k : ℕ} → Each (λ x. P x ↔ Q (f x)) xs → Counted P xs k → Counted Q (map f xs) k
counted_map f no_more nothing = nothing
counted_map f (one_more h e) (holds p c) = holds (h.0 p) (counted_map f e c)
counted_map f (one_more h e) (holds_not p c) = holds_not (λ q. p (h.1 q)) (counted_map f e c)

-- None, where it holds of none.
pub counted_none : {A : Type 0} {P : A → Type 0} {xs : List A} → Each (λ x. P x → ⊥) xs → Counted P xs 0
counted_none no_more = nothing
counted_none (one_more h e) = holds_not h (counted_none e)
