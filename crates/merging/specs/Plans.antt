-- Plans as the code holds them: stamps as offset numbers in an array of 32, blank behind the last; the shift as minutes back.
use Rattle.std.specs.Prelude.{ℕ, ◌≡◌, Bool, true, false, not, List, [], ◌∷◌, map, ltb, get_or, ℤ, pos, neg_ℤ}
use Rattle.base.specs.Filled.{Filled}
use Rattle.definitions.specs.Limits.{signed_bytes, stride, merged_most, refused_room, refused_form, refused_shift, refused_rule}
use Rattle.definitions.specs.Tropical.{Trop, fin, plus, larger}
use Rattle.definitions.specs.Bytes.{nums_at, first}
use Rattle.definitions.specs.Offset.{trop_of, off}
use Rattle.definitions.specs.Merging.{plan_fits}
use Rattle.definitions.specs.Problem.{Point}
use Rattle.duality.specs.System.{System, Solves}
use Rattle.policy_iteration.specs.Tables.{high}

-- The offset numbers of the first stamps in the bytes of a plan.
unfoldable pub numbers_in : List ℕ → ℕ → List ℕ
numbers_in s count = map off (nums_at signed_bytes count s 0)

-- The first of refusals 7 and 12 that applies to two plans and a buffer of `room` bytes, 0 where none does.
unfoldable pub plans_judged : ℕ → List ℕ → List ℕ → ℕ → ℕ
plans_judged n a b room =
    first
    (record { applies = ltb room merged_most; number = refused_room }
    ∷ record { applies = not (plan_fits n a); number = refused_form }
    ∷ record { applies = not (plan_fits n b); number = refused_form }
    ∷ [])

-- The first of refusals 24 and 25 that applies, 0 where none does.
abbrev pub pair_judged : Bool → Bool → ℕ
pair_judged forward keep = first (record { applies = forward; number = refused_shift } ∷ record { applies = not keep; number = refused_rule } ∷ [])

-- The shift that moves a plan so many minutes back.
abbrev pub back_by : ℕ → ℤ
back_by back = neg_ℤ (pos back)

-- The later of a first stamp and a second moved back.
abbrev pub later_of : ℕ → ℕ → ℕ → Trop
later_of back one other = larger (trop_of one) (plus (trop_of other) (fin (back_by back)))

-- The first stamps as low numbers, the form in which rows are tested, then blanks.
abbrev pub LowPlan : List ℕ → ℕ → List ℕ → Type 0
LowPlan stamps count x = Filled (λ j v. high v ≡ get_or stamps j 0) stride count x

-- The point solves the system, or does not.
pub record Stand (s : System) (x : Point) (r : Bool) : Type 0 where
  pub yes : r ≡ true → Solves s x
  pub no : r ≡ false → Solves s x → ⊥
