-- Demand 3 for every checker function that judges as document 01 says, and one that does.
use Rattle.definitions.specs.Demands.{Checker, CheckerJudges, CheckerRefuses, AcceptsExactly, NeverBroken, LeastExactly, NoneExactly, BottomlessExactly}
use Rattle.checker.proofs.Accepting as Accepting
use Rattle.checker.proofs.Soundness.{least_sound, none_sound, bottomless_sound}
use Rattle.checker.proofs.Completeness.{least_complete, none_complete, bottomless_complete}

-- What demand 3 asks of the checker by itself.
pub record CheckerDemand (check : Checker) : Type 0 where
  pub judges : CheckerJudges check
  pub refuses : CheckerRefuses check
  pub accepts_exactly : AcceptsExactly check
  pub never_broken : NeverBroken check
  pub least_exactly : LeastExactly check
  pub none_exactly : NoneExactly check
  pub bottomless_exactly : BottomlessExactly check

module _ (check : Checker) (judges : CheckerJudges check) where
  -- A plan that fits, keeps every rule and has a whole span is accepted with some table exactly when it is least.
  pub least_exactly : LeastExactly check
  least_exactly p b w x s f feasible v = (least_sound check judges p b w x s f, least_complete check judges p b w x s f feasible v)

  -- Some table is accepted for none exactly when no plan has a span below plus infinity.
  pub none_exactly : NoneExactly check
  none_exactly p b w = (none_sound check judges p b w, none_complete check judges p b w)

  -- Some table is accepted for bottomless exactly when spans fall below every whole number.
  pub bottomless_exactly : BottomlessExactly check
  bottomless_exactly p b w = (bottomless_sound check judges p b w, bottomless_complete check judges p b w)

  pub checker_demand : CheckerDemand check
  checker_demand = record {
    judges = judges;
    refuses = Accepting.checker_refuses check judges;
    accepts_exactly = Accepting.accepts_exactly check judges;
    never_broken = Accepting.never_broken check judges;
    least_exactly = least_exactly;
    none_exactly = none_exactly;
    bottomless_exactly = bottomless_exactly;
  }
