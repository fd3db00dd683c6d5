-- The engine's answer, on tables.
use Rattle.std.specs.Prelude.{ℕ, ◌+◌, ◌≤◌, ◌<◌, ◌≡◌, true, List, map, length, get_or, take, replicate}
use Rattle.base.specs.Filled.{Filled}
use Rattle.definitions.specs.Limits.{stamp_limit, signed_full, table_rows, stride}
use Rattle.definitions.specs.Problem.{Problem}
use Rattle.definitions.specs.Certificate.{Second}
use Rattle.definitions.specs.Bytes.{blank_or_within}
use Rattle.definitions.specs.Offset.{trop_of}
use Rattle.definitions.specs.AnswerRecord.{Answer, stamp_count, pick_count}
use Rattle.definitions.specs.Solved.{Answers}
use Rattle.duality.specs.System.{Solves, Meets, system_at}
use Rattle.duality.specs.Values.{difference}
use Rattle.records.specs.Decoded.{Decoded}
use Rattle.records.specs.Classes.{class_number}
use Rattle.records.specs.declared.class.Class.TheVariants.{Optimal, Unbounded}
use Rattle.reach.specs.Marks.{Flags, Anchored, AnchoredAnd}
use Rattle.reach.specs.Spreading.{MarksOf}
use Rattle.policy_iteration.specs.Tables.{point_of}
use Rattle.search.specs.Trials.{whole_of, lowest_offset, FoundBy}
use Rattle.search.specs.declared.search.Found.{Found}
use Rattle.look.specs.Frames.{Copied, Held, Raised, Ready}
use Rattle.pick_tables.specs.Shown.{VariablePicks, InducedRows, RowPicks}
use Rattle.class_answers.specs.declared.answer.Answer as Tables
use Rattle.class_answers.specs.declared.answer.Tried.{Tried}
use Rattle.look.specs.declared.greatest.Look.{Look}
use Rattle.look.specs.Look.{Looks, Looked}
use Rattle.look.specs.Point.{PointFor}
use Rattle.look.specs.SecondList.{SecondIs}

-- Stamps: each value less that of variable 0.
abbrev pub Stamps : List ℕ → ℕ → List ℕ → Type 0
Stamps point n out = Filled (λ j v. trop_of v ≡ difference (trop_of (get_or point j 0)) (trop_of (get_or point 0 0))) stride n out

-- The marks of a start of class 1 or 3: 0 the anchor's, another those of the objective's right coefficients.
pub record StartMarks (row : List ℕ) (start : ℕ) (r : List ℕ) : Type 0 where
  pub flags : Flags r
  pub anchored : start ≡ 0 → Anchored r
  pub second : (start ≡ 0 → ⊥) → MarksOf row stride r

-- The picks of a strategy of variables, as far as its start reaches.
pub record ShownPicks (n m : ℕ) (right : List ℕ) (start : ℕ) (picks out : List ℕ) : Type 0 where
  pub row : List ℕ
  pub begin : List ℕ
  pub copied : Copied right m stride row
  pub marks : StartMarks row start begin
  pub shown : VariablePicks right picks begin (n + 1) (m + 1) out

-- A point that shows t possible: it is finite at variable 0 and at a variable of the second list, it solves the system at t, its stamps
-- (each value less that of variable 0) have class 1's form, and past the variables it is blank.
pub record PointAt (p : Problem) (t : ℕ) (x : List ℕ) : Type 0 where
  pub finite : 0 < get_or x 0 0
  pub second : Meets (system_at p (whole_of t)) (Second p) (point_of x)
  pub solves : Solves (system_at p (whole_of t)) (point_of x)
  pub stamps : (k : ℕ) → blank_or_within stamp_limit (difference (point_of x k) (point_of x 0)) ≡ true
  pub rest : (k : ℕ) → p.n < k → get_or x k 0 ≡ 0

-- The answer in these fields: stamps and picks are cut to the counts of the class.
abbrev pub answer_in : ℕ → ℕ → ℕ → ℕ → ℕ → List ℕ → List ℕ → Answer
answer_in n m class span start stamps picks = record {
  class = class;
  span = trop_of span;
  start = start;
  stamps = map trop_of (take (stamp_count class n) stamps);
  picks = take (pick_count class n m) picks;
}

-- ---- the answer, which is one

-- The plan of a least span: the stamps of the point that the policy iteration ends with at that span.
pub record PlanOf (n m : ℕ) (left right : List ℕ) (span : ℕ) (stamps : List ℕ) : Type 0 where
  pub table : List ℕ
  pub point : List ℕ
  pub raised : Raised right m span stride table
  pub point_is : PointFor n m left table point
  pub stamps_are : Stamps point (n + 1) stamps

-- What shows a bottomless span: the rows' picks of the largest terms at the point of the lowest trial, and the first variable of the second
-- list that has a value there.
pub record SavedBy (n m : ℕ) (left right : List ℕ) (start : ℕ) (picks : List ℕ) : Type 0 where
  pub table : List ℕ
  pub point : List ℕ
  pub targets : List ℕ
  pub row : List ℕ
  pub begin : List ℕ
  pub second : ℕ
  pub raised : Raised right m lowest_offset stride table
  pub point_is : PointFor n m left table point
  pub induced : InducedRows table point (n + 1) (m + 1) targets
  pub copied : Copied right m stride row
  pub second_is : SecondIs row point (n + 1) second
  pub begin_is : AnchoredAnd second begin
  pub shown : RowPicks left targets begin (n + 1) (m + 1) picks
  pub start_is : start ≡ second + 1

-- The answer, field by field: class, span and trials by the look's second side, then each class's own.
pub record Given (n m : ℕ) (left right : List ℕ) (a : Tables.Answer) : Type 0 where
  pub look : Look
  pub looks : Looks n m left right look
  pub found : FoundBy look.second (class_number a.class) a.span a.trials
  pub blocked : (a.class ≡ Unbounded → ⊥) → (a.start ≡ look.start) × ShownPicks n m right look.start look.picks a.picks
  pub saved : a.class ≡ Unbounded → SavedBy n m left right a.start a.picks
  pub planned : a.class ≡ Optimal → PlanOf n m left right a.span a.stamps
  pub unplanned : (a.class ≡ Optimal → ⊥) → a.stamps ≡ replicate stride 0

-- What is known once the trials are made: the frame is ready, the look is one at its tables, and the trials found by it what they do.
pub record ByTrials (t : Tried) : Type 0 where
  pub ready : Ready t.frame.now
  pub looked : Looked t.frame.now.n t.frame.now.m t.frame.now.left.now t.frame.now.right.now t.look.now
  pub found_by : FoundBy t.look.now.second (class_number t.found.class) t.found.span t.found.trials

-- An answer of every problem that the tables hold, with what the trials found.
pub record AnswerOf (n m : ℕ) (left right : List ℕ) (found : Found) (a : Tables.Answer) : Type 0 where
  pub class_is : a.class ≡ found.class
  pub span_is : a.span ≡ found.span
  pub trials_is : a.trials ≡ found.trials
  pub stamps_size : length a.stamps ≡ stride
  pub picks_size : length a.picks ≡ table_rows
  pub stamps_most : (j : ℕ) → get_or a.stamps j 0 < signed_full
  pub picks_most : (j : ℕ) → get_or a.picks j 0 ≤ table_rows
  pub given : Given n m left right a
  pub answers : (p : Problem) → Held p n m left right
      → Answers p (class_number a.class) (trop_of a.span) a.trials (answer_in n m (class_number a.class) a.span a.start a.stamps a.picks)

abbrev pub ShowsTried : Tried → Tables.Answer → Type 0
ShowsTried t a = AnswerOf t.frame.now.n t.frame.now.m t.frame.now.left.now t.frame.now.right.now t.found a

-- The answer of the problem in the tables.
pub record Answered (n m : ℕ) (left right : List ℕ) (a : Tables.Answer) : Type 0 where
  pub given : Given n m left right a
  pub answers : (p : Problem) → Decoded p left right → p.n ≡ n → p.m ≡ m
      → Answers p (class_number a.class) (trop_of a.span) a.trials (answer_in n m (class_number a.class) a.span a.start a.stamps a.picks)
