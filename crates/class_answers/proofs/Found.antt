-- What the trials find by a look is the class and the least span of every problem in the tables.
use Prim.Native.Nat.{ℕ, ◌+◌, ◌-◌, ◌<◌}
use mathlib.Core.Path.{subst}
use mathlib.Core.Logic.{◌↔◌, ⊎_elim}
use mathlib.Core.List.{List}
use native.Mathlib.Omega.{arith}
use lib.IntN.{ℤ}
use Rattle.base.proofs.Numbers.{nat_le_or_lt}
use Rattle.definitions.specs.Limits.{signed_half, lead_limit, span_limit}
use Rattle.definitions.specs.Problem.{Problem, Attainable}
use Rattle.definitions.specs.Offset.{trop_of}
use Rattle.definitions.specs.Solved as Solved
use Rattle.definitions.proofs.Offset.{trop_zero, trop_fin}
use Rattle.duality.proofs.Classes.{infeasible_exactly, unbounded_exactly, optimal_exactly}
use Rattle.search.specs.Trials.{whole_of, top_offset, lowest_offset, Trialled, PossibleBy, FoundBy}
use Rattle.search.proofs.Trials.{least_trialled, below_trialled}
use Rattle.look.specs.declared.greatest.Look.{Look}
use Rattle.look.specs.Frames.{Coefficients, Held}
use Rattle.look.specs.Look.{Looked}
use Rattle.look.proofs.Tables.{held_within}
use Rattle.policy_iteration.specs.Tables.{pick_of}
use Rattle.class_answers.proofs.Shared.{enough, below_whole, top_trialled, lowest_trialled, blocked_unattainable}

module _ {n m : ℕ} {left right : List ℕ} {l : Look} (c : Coefficients n m left right) (look : Looked n m left right l) (p : Problem) (q : Held p n m left right) where
  -- As the definitions have it.
  pub looked_found : {class span trials : ℕ} → FoundBy l.second class span trials → Solved.Found p class (trop_of span) trials
  looked_found (FoundBy.none h) = rw trop_zero (Solved.infeasible ((infeasible_exactly p lead_limit span_limit (held_within q c) (enough q c)).1
      (blocked_unattainable p (whole_of top_offset) l.start (pick_of l.picks) ((look.decided p q).impossible top_offset top_trialled h))))
  looked_found (FoundBy.bottomless h) = rw trop_zero (Solved.unbounded ((unbounded_exactly p lead_limit span_limit (held_within q c) (enough q c)).1
      ((look.decided p q).possible lowest_offset lowest_trialled h)))
  looked_found (FoundBy.least {span = span} h) =
      let some : 0 < span = omega (arith, h.lowest) in
      rw (trop_fin span some) (Solved.optimal ((optimal_exactly p (whole_of span)).1 (
        (look.decided p q).possible span (least_trialled h) h.possible,
        subst (λ (t : ℤ). Attainable p t → ⊥) (below_whole span some)
            (blocked_unattainable p (whole_of (span - 1)) l.start (pick_of l.picks) ((look.decided p q).impossible (span - 1) (below_trialled h) h.impossible)),
      )))

  -- A trial says of t what document 01 means by possible.
  pub looked_possible : (t : ℕ) → Trialled t → PossibleBy l.second t ↔ Attainable p (whole_of t)
  looked_possible t b = (
    λ h. (look.decided p q).possible t b h,
    λ a. ⊎_elim
        (λ (h : PossibleBy l.second t). h)
        (λ (h : t + l.second < signed_half + signed_half).
        absurd (blocked_unattainable p (whole_of t) l.start (pick_of l.picks) ((look.decided p q).impossible t b (λ z. omega arith)) a))
        (nat_le_or_lt (signed_half + signed_half) (t + l.second)),
  )
