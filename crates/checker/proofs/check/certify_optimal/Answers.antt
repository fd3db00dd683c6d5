use Rattle.std.proofs.Common.{◌≡◌, true, false, sym, ◌∙◌, arith}
use Rattle.closed_walks.proofs.Holding.{laid_holds}
use Rattle.plan_tests.proofs.Sides.{low_small}
use Rattle.checker.proofs.Acceptance.{optimal_broken, optimal_other, optimal_picks, optimal_at, optimal_started}
use Rattle.checker.proofs.check.certify_optimal.Goals as goal
use Rattle.checker.proofs.check.certify_optimal.Goals.{then-keeps_rules, else-keeps_rules}

pub lower_point-x-requires : goal.lower_point-x-requires
lower_point-x-requires c = (c.requires.0, omega (arith, c.args.rows.now.laid.n_most))

pub keeps_rules-requires : goal.keeps_rules-requires
keeps_rules-requires c = low_small c.requires.0 c.lower_point-x.ensures

pub value_is-requires : goal.value_is-requires
value_is-requires c = (low_small c.requires.0 c.lower_point-x.ensures, omega (arith, c.requires.3.near.hi))

pub certify_variables-requires : goal.certify_variables-requires
certify_variables-requires c = let s = c.requires.3 in
    (record { some = omega (arith, s.near.lo s.some); near = record { hi = omega (arith, s.near.hi); lo = λ h. omega (arith, s.near.lo s.some) } }, c.requires.2, c.start_marks.ensures.flags)

pub returns-then-value_is : goal.returns-then-value_is
returns-then-value_is c = λ z e. elim c.if-keeps_rules.branch [
  | then-keeps_rules w ↦
      let low = c.lower_point-x.ensures in
      optimal_started c.start_marks.ensures (optimal_picks (laid_holds c.args.rows.now.laid) _ c.requires.1 (c.keeps_rules.ensures _ c.requires.0 low) w.if-keeps_rules.true
      (w.value_is.ensures _ z c.requires.0 low e) (sym w.value-is ∙ c.if-value_is.true) (optimal_at c.requires.3 e (λ y f. c.certify_variables.ensures y f)))
  | else-keeps_rules w ↦ let no : false ≡ true = sym w.if-keeps_rules.false ∙ sym w.value-is ∙ c.if-value_is.true in cc
]

pub returns-else-value_is : goal.returns-else-value_is
returns-else-value_is c = λ z e. elim c.if-keeps_rules.branch [
  | then-keeps_rules w ↦
      rw c.if-value_is.false (optimal_other (laid_holds c.args.rows.now.laid) _ (w.value_is.ensures _ z c.requires.0 c.lower_point-x.ensures e) (sym w.value-is ∙ c.if-value_is.false))
  | else-keeps_rules w ↦
      rw c.if-value_is.false (optimal_broken (laid_holds c.args.rows.now.laid) _ (c.keeps_rules.ensures _ c.requires.0 c.lower_point-x.ensures) w.if-keeps_rules.false)
]
