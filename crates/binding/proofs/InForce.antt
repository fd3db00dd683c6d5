-- No rule that the tool names is suspended: document 02, 2.5 and 2.10. A reached moment that picks a suspended rule makes the answer not
-- certified, and the tool names rules of accepted answers alone.
use Prim.Native.Nat.{ℕ, suc, ◌<◌}
use mathlib.Core.Path.{◌≡◌, subst}
use mathlib.Core.Bool.{true}
use mathlib.Core.List.{List, []}
use native.Mathlib.Omega.{arith}
use lib.ListN.{length, get_or}
use Rattle.definitions.specs.ProblemRecord.{suspended, problem_of}
use Rattle.definitions.specs.Verdict.{Accepted, optimal, unbounded, infeasible, answer_for}
use Rattle.definitions.specs.Reasons as Reasons
use Rattle.definitions.specs.Reasons.{Behind, Reasoned}
use Rattle.selection.proofs.Suspended.{rule_lifted}
use Rattle.binding.proofs.Listing.{listed_stands}

-- The rules that the tool names.
unfoldable pub named : Reasons.Reasons → List ℕ
named (Reasons.refused k) = []
named (Reasons.of_none rules) = rules
named (Reasons.of_least rules round) = rules

pub named_in_force : {p a : List ℕ} {r : Reasons.Reasons} → Reasoned p a r → (k i : ℕ) → k < length (named r) → get_or (named r) k 0 ≡ suc i → suspended p i ≡ true → ⊥
unfolding named
named_in_force (Reasons.turned_away e) k i h d s = omega arith
named_in_force (Reasons.uncertified e n) k i h d s = omega arith
named_in_force (Reasons.bottomless e c n) k i h d s = omega arith
named_in_force {p} {a} (Reasons.none {rules} e c n listed) k i h d s = go c
  where
    go : Accepted (problem_of p) (answer_for p a) → ⊥
    go (optimal t _ _) = omega arith
    go (unbounded t _ _ _) = omega arith
    go (infeasible t f) =
        let b = subst (Behind (problem_of p) (answer_for p a)) d (listed_stands listed k h).has in
        ((rule_lifted p i s).not_certified _ _ b.moment b.reached b.picked).1 f
named_in_force {p} {a} (Reasons.least {rules} {round} e c n listed r) k i h d s = go c
  where
    go : Accepted (problem_of p) (answer_for p a) → ⊥
    go (optimal t u f) =
        let b = subst (Behind (problem_of p) (answer_for p a)) d (listed_stands listed k h).has in
        ((rule_lifted p i s).not_certified _ _ b.moment b.reached b.picked).0 _ _ f
    go (unbounded t _ _ _) = omega arith
    go (infeasible t _) = omega arith
