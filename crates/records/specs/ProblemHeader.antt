-- What reading a problem's header answers: the layout, or the refusal. Document 01, "What is turned away", 1 to 5, document 02, 2.1, 2.10.
use Rattle.std.specs.Prelude.{◌≡◌, ℕ, ◌<◌, List, true, false, Option, Some, None, Result}
use Rattle.definitions.specs.Limits.{signed_full, short_full, problem_kind, questions_kind, states_kind}
use Rattle.definitions.specs.Bytes.{Outcome}
use Rattle.definitions.specs.ProblemRecord as Problems
use Rattle.definitions.specs.ProblemRecord.{length_field, kind_field, n_field, m_field, count_field, leads_place, questions_asked, known_kind}
use Rattle.records.specs.declared.problem.Kind.{Kind}
use Rattle.records.specs.declared.problem.Kind.TheVariants.{Problem, Questions, States}
use Rattle.records.specs.declared.problem.Kinds.{Kinds}
use Rattle.records.specs.declared.problem.Fields.{Fields}
use Rattle.records.specs.declared.problem.Layout.{Layout}
use Rattle.records.specs.declared.refusal.Refusal.{Refusal}
use Rattle.records.specs.Refusals.{outcome_by}

-- The kinds in the code's struct.
abbrev pub kinds_in : Kinds → Problems.Kinds
kinds_in k = record { several = k.several; states = k.states }

-- The number of a kind in a record.
abbrev pub kind_number : Kind → ℕ
kind_number Problem = problem_kind
kind_number Questions = questions_kind
kind_number States = states_kind

-- The kind with a number, where it is known.
abbrev pub Knows : Problems.Kinds → ℕ → Option Kind → Type 0
Knows kinds number (Some kind) = (number ≡ kind_number kind) × (known_kind kinds number ≡ true)
Knows kinds number None = known_kind kinds number ≡ false

-- The definitions' layout in the code's struct.
abbrev pub layout_in : Layout → Problems.Layout
layout_in l = record { kind = kind_number l.kind; n = l.n; m = l.m; leads = l.leads; questions = l.questions }

-- The layout of a header with these numbers.
abbrev pub layout_by : ℕ → ℕ → ℕ → ℕ → Problems.Layout
layout_by kind n m count = record { kind = kind; n = n; m = m; leads = leads_place kind m; questions = questions_asked kind count }

-- The numbers are those of the first bytes, and fit their fields.
pub record FieldsAt (s : List ℕ) (f : Fields) : Type 0 where
  pub length_is : f.length ≡ length_field s
  pub kind_is : f.kind ≡ kind_field s
  pub n_is : f.n ≡ n_field s
  pub m_is : f.m ≡ m_field s
  pub count_is : f.count ≡ count_field s
  pub length_small : f.length < signed_full
  pub count_small : f.count < short_full
  pub m_small : f.m < short_full

-- Document 01's result for each case: the layout, or the number of the refusal.
abbrev pub header_of : Result Layout Refusal → Outcome Problems.Layout
header_of r = outcome_by layout_in r
