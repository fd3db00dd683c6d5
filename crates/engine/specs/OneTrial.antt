-- A problem in bytes under way, one trial at a time: what is kept of it, what a trial leaves, and its answer.
use Rattle.std.specs.Prelude.{ℕ, ◌+◌, ◌<◌, ◌≡◌, ◌↔◌, List, length, replicate, Some, None, Result, Ok}
use Rattle.definitions.specs.Limits.{stride}
use Rattle.definitions.specs.Tropical.{Trop}
use Rattle.definitions.specs.Problem.{Attainable}
use Rattle.definitions.specs.Bytes.{Bytes}
use Rattle.definitions.specs.Offset.{trop_of}
use Rattle.definitions.specs.ProblemRecord.{problem_of, n_field, m_field}
use Rattle.definitions.specs.AnswerRecord as Records
use Rattle.definitions.specs.AnswerRecord.{answer_size, answer_bytes, written}
use Rattle.definitions.specs.Desk.{desk_refusal, WithinDesk}
use Rattle.definitions.specs.Solved as Definitions
use Rattle.definitions.specs.Solved.{Answers}
use Rattle.records.specs.declared.refusal.Refusal.{Refusal}
use Rattle.records.specs.Classes.{class_number}
use Rattle.records.specs.Refusals.{refused_by}
use Rattle.problem_records.specs.Tables.{left_table, right_table}
use Rattle.search.specs.Trials.{whole_of, Trialled, PossibleBy}
use Rattle.search.specs.Underway.{class_word, at_start, span_of, Underway, Tried}
use Rattle.search.specs.declared.search.Found.{Found}
use Rattle.look.specs.declared.greatest.Look.{Look}
use Rattle.look.specs.Frames.{Coefficients}
use Rattle.look.specs.Look.{Looked}
use Rattle.class_answers.specs.declared.answer.Answer as Tables
use Rattle.class_answers.specs.Answered.{answer_in, AnswerOf}
use Rattle.engine.specs.declared.one_trial.Pending.{Pending}
use Rattle.engine.specs.declared.solve.Answered.{Answered}
use Rattle.engine.specs.Packing.{Packable, PackedCells}
use Rattle.engine.specs.Outcome.{Gives}

-- No trial is made, and no look.
abbrev pub fresh : ℕ → ℕ → Pending
fresh n m = record { n = n; m = m; search = at_start; kept = record { start = 0; second = 0; picks = replicate stride 0 } }

-- Its class, 0 while it is open, and its span, as an offset number.
abbrev pub class_in : Pending → ℕ
class_in p = class_word p.search.class

abbrev pub span_in : Pending → ℕ
span_in p = span_of p.search

-- The tables of the problem in the bytes.
pub record TablesOf (s : List ℕ) (n m : ℕ) (left right : List ℕ) : Type 0 where
  pub bytes : Bytes s
  pub n_is : n ≡ n_field s
  pub m_is : m ≡ m_field s
  pub left_is : left ≡ left_table s
  pub right_is : right ≡ right_table s
  pub coefficients : Coefficients n m left right

-- The look is one at the problem in the bytes.
abbrev pub LookedAt : List ℕ → Look → Type 0
LookedAt s k = Looked (n_field s) (m_field s) (left_table s) (right_table s) k

-- An answer that shows what the trials found is kept in the place of a look: its start, and its stamps and picks in cells.
pub record AnswerKept (s : List ℕ) (second : ℕ) (found : Found) (r : Look) : Type 0 where
  pub answer : Tables.Answer
  pub shows : AnswerOf (n_field s) (m_field s) (left_table s) (right_table s) found answer
  pub start_is : r.start ≡ answer.start
  pub second_is : r.second ≡ second
  pub packed : PackedCells answer.stamps answer.picks stride r.picks

-- The bytes are a problem that the desk takes, with this n and m.
pub record Of (s : List ℕ) (p : Pending) : Type 0 where
  pub within : WithinDesk s
  pub n_is : p.n ≡ n_field s
  pub m_is : p.m ≡ m_field s
  pub size : length p.kept.picks ≡ stride

-- A problem in the bytes under way; from the first trial on its look is made.
pub record PendingFor (s : List ℕ) (p : Pending) : Type 0 where
  pub of : Of s p
  pub underway : Underway p.kept.second p.search
  pub looked : 0 < p.search.made → LookedAt s p.kept

-- A problem begun: the first of its refusals, or the problem of which no trial is made.
pub record BegunFor (s : List ℕ) (r : Result Pending Refusal) : Type 0 where
  pub refused_is : refused_by r ≡ desk_refusal s
  pub begun : (p : Pending) → r ≡ Ok p → PendingFor s p
  pub fresh_is : (p : Pending) → r ≡ Ok p → p ≡ fresh (n_field s) (m_field s)

-- The look at a problem; one that was made stays.
pub record LookFor (s : List ℕ) (p : Pending) (k : Look) : Type 0 where
  pub bytes : Bytes s
  pub looked : LookedAt s k
  pub stays : 0 < p.search.made → k ≡ p.kept

-- The answer of a problem with these stamps and picks.
abbrev pub answer_with : List ℕ → Pending → List ℕ → List ℕ → Records.Answer
answer_with s p stamps picks = answer_in (n_field s) (m_field s) (class_in p) (span_in p) p.kept.start stamps picks

-- A problem that is answered: the answer that the engine gives for it, whose stamps and picks the cells hold.
pub record AnsweredFor (s : List ℕ) (p : Pending) : Type 0 where
  pub of : Of s p
  pub closed : p.search.class ≡ None → ⊥
  pub stamps : List ℕ
  pub picks : List ℕ
  pub packable : Packable stamps picks
  pub packed : PackedCells stamps picks stride p.kept.picks
  pub answers : Answers (problem_of s) (class_in p) (trop_of (span_in p)) p.search.made (answer_with s p stamps picks)
  pub gives : Gives s (answer_with s p stamps picks)

-- A problem that goes on after one trial more: its class and span ask for more still.
pub record Onward (s : List ℕ) (own : ℕ) (r : Pending) : Type 0 where
  pub pending : PendingFor s r
  pub made_is : r.search.made ≡ own + 1
  pub more : (class trials : ℕ) (span : Trop) → Definitions.Found (problem_of s) class span trials → own + 1 < trials

-- What one trial leaves: document 01's next was made, by what the look found, which says of each t whether it is possible; the problem goes on, or is answered at the last trial that
-- its class and span ask for.
pub record TrialFor (s : List ℕ) (p r : Pending) : Type 0 where
  pub n_same : r.n ≡ p.n
  pub m_same : r.m ≡ p.m
  pub stays : 0 < p.search.made → r.kept.second ≡ p.kept.second
  pub trial : Tried r.kept.second p.search r.search
  pub possible : (t : ℕ) → Trialled t → PossibleBy r.kept.second t ↔ Attainable (problem_of s) (whole_of t)
  pub goes_on : r.search.class ≡ None → Onward s p.search.made r
  pub ends : (r.search.class ≡ None → ⊥) → AnsweredFor s r × (r.search.made ≡ p.search.made + 1)

-- Some problem is answered.
pub record IsAnswered (p : Pending) : Type 0 where
  pub problem : List ℕ
  pub bytes : Bytes problem
  pub answered : AnsweredFor problem p

-- The record of the answer stands at the buffer's start, every byte after it is as it was.
pub record HandedOver (p : Pending) (before : List ℕ) (r : Answered) (after : List ℕ) : Type 0 where
  pub class_is : p.search.class ≡ Some r.class
  pub span_is : r.span ≡ span_in p
  pub trials_is : r.trials ≡ p.search.made
  pub size_is : r.size ≡ answer_size (class_number r.class) p.n p.m
  pub record_stands : (s : List ℕ) (a : AnsweredFor s p) → after ≡ written before (answer_bytes (n_field s) (answer_with s p a.stamps a.picks))
