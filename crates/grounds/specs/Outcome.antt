-- What the tool's functions answer, in the words of the definitions.
use Rattle.std.specs.Prelude.{ℕ, ◌≤◌, ◌≡◌, List, ◌⊎◌, get_or, Option, Some, None, Result, Ok, Err}
use Rattle.definitions.specs.Limits.{highest_n, highest_m, lead_limit, class_optimal, class_infeasible}
use Rattle.definitions.specs.Problem.{Problem}
use Rattle.definitions.specs.AnswerRecord.{Answer}
use Rattle.definitions.specs.ProblemRecord.{problem_of}
use Rattle.definitions.specs.Verdict.{Accepted, point_of, strategy_of, check_refusal, answer_for}
use Rattle.definitions.specs.Reasons as Definitions
use Rattle.definitions.specs.Reasons.{RulesBehind, Round, of_none, of_least}
use Rattle.records.specs.declared.refusal.Refusal.{Refusal}
use Rattle.records.specs.Refusals.{number_of}
use Rattle.records.specs.Decoded.{Near}
use Rattle.answer_reader.specs.declared.answer.Head.{Head}
use Rattle.checker.specs.Outcome.{Formed, Meant}
use Rattle.grounds.specs.Tables.{RightHeld}
use Rattle.grounds.specs.declared.reasons.Grounds.{Grounds}

-- Document 02's answer for each case: the rules behind none; the rules and the round behind least; refused with the number.
abbrev pub told_by : List ℕ → Option (List ℕ) → Definitions.Reasons
told_by rules None = of_none rules
told_by rules (Some round) = of_least rules round

abbrev pub reasons_of : Result Grounds Refusal → Definitions.Reasons
reasons_of (Ok g) = told_by g.rules g.round
reasons_of (Err r) = Definitions.refused (number_of r)

-- The checker accepts the answer in the bytes a, of this class, for the problem in the bytes p.
pub record Passed (p a : List ℕ) (class : ℕ) : Type 0 where
  pub none : check_refusal p a ≡ 0
  pub accepted : Accepted (problem_of p) (answer_for p a)
  pub class_is : (answer_for p a).class ≡ class

-- The same, and the class is least or none.
pub record Founded (p a : List ℕ) : Type 0 where
  pub none : check_refusal p a ≡ 0
  pub accepted : Accepted (problem_of p) (answer_for p a)
  pub some : ((answer_for p a).class ≡ class_optimal) ⊎ ((answer_for p a).class ≡ class_infeasible)

-- An accepted answer of class 1 or 3, as the readers give it: the right table of the problem, and the answer's head, stamps and picks.
pub record Certifies (p : Problem) (a : Answer) (right stamps picks : List ℕ) (n m : ℕ) (head : Head) : Type 0 where
  pub n_most : n ≤ highest_n
  pub m_most : m ≤ highest_m
  pub held : RightHeld p right n m
  pub near : (k : ℕ) → Near lead_limit (get_or right k 0)
  pub formed : Formed n m head stamps picks
  pub meant : Meant a head stamps picks
  pub accepted : Accepted p a
  pub some : (head.class ≡ class_optimal) ⊎ (head.class ≡ class_infeasible)

-- There are a problem and an answer of which this holds.
pub record Certified (right stamps picks : List ℕ) (n m : ℕ) (head : Head) : Type 0 where
  pub problem : Problem
  pub answer : Answer
  pub certifies : Certifies problem answer right stamps picks n m head

-- What is told of an accepted answer of class 1 or 3: the rules, and for class 1 the round.
pub data Tells (p : Problem) (a : Answer) : Definitions.Reasons → Type 0 where
  none : {rules : List ℕ} → a.class ≡ class_infeasible → RulesBehind p a rules → Tells p a (of_none rules)
  least :
      {rules round : List ℕ} → a.class ≡ class_optimal → RulesBehind p a rules
      → Round p (point_of a.stamps) (strategy_of a.picks) a.start round → Tells p a (of_least rules round)
