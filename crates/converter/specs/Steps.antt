-- What the steps of converting ask and leave, and the converter's answer in the words of the definitions.
use Rattle.std.specs.Prelude.{ℕ, suc, ◌+◌, ◌*◌, ◌-◌, ◌≤◌, ◌≡◌, List, ◌++◌, length, Result}
use Rattle.definitions.specs.Limits.{highest_n, highest_m, most_questions, length_bytes, short_bytes, signed_bytes, kind_place, m_place, problem_header, questions_header, questions_leads}
use Rattle.definitions.specs.Bytes.{le, Outcome}
use Rattle.definitions.specs.ProblemRecord.{converter_kinds, kind_field, n_field, m_field, count_field, leads_place, questions_asked, header_refusal}
use Rattle.definitions.specs.Questions.{part}
use Rattle.records.specs.declared.problem.Layout.{Layout}
use Rattle.records.specs.declared.refusal.Refusal.{Refusal}
use Rattle.records.specs.Refusals.{outcome_by}

-- The largest record, 18,188 bytes: kind 3 with 31 moments, 63 rules and 8 questions.
abbrev pub record_most : ℕ
record_most = questions_header + signed_bytes * questions_leads

-- The papers' result for each case: the size of the record, or the number of the refusal.
abbrev pub conversion_of : Result ℕ Refusal → Outcome ℕ
conversion_of r = outcome_by (λ size. size) r

-- The layout is the record's, within the limits, and the record has its size.
pub record Stored (s : List ℕ) (l : Layout) : Type 0 where
  pub none : header_refusal converter_kinds s (length s) ≡ 0
  pub n_is : l.n ≡ n_field s
  pub m_is : l.m ≡ m_field s
  pub leads_is : l.leads ≡ leads_place (kind_field s) (m_field s)
  pub questions_is : l.questions ≡ questions_asked (kind_field s) (count_field s)
  pub n_most : l.n ≤ highest_n
  pub m_most : l.m ≤ highest_m
  pub questions_most : l.questions ≤ most_questions
  pub leads_least : problem_header ≤ l.leads
  pub leads_most : l.leads ≤ questions_header
  pub size_is : length s ≡ l.leads + 2 * signed_bytes * (suc l.n * (l.m + l.questions))

-- What stands before the leads of the converted record, with its length field and its m.
abbrev pub head_left : List ℕ → ℕ → ℕ → List ℕ
head_left s long m =
    le length_bytes long
    ++ (part s kind_place (m_place - kind_place)
    ++ (le short_bytes m
    ++ part s problem_header (leads_place (kind_field s) (m_field s) - problem_header)))
