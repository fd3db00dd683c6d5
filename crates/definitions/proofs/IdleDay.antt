-- The idle day (document 02, 2.9): its bytes; it is within the layout; no bytes read as this problem already; its least span is 0.
use Prim.Native.Nat.{ℕ, ◌<◌}
use mathlib.Core.Path.{◌≡◌, refl}
use mathlib.Core.List.{List, [], ◌∷◌}
use native.Mathlib.Omega.{arith}
use lib.ListN.{length}
use lib.IntN.{pos}
use lib.Signed.{≤ℤ_refl}
use borrow.Author.Tests.{lt-ltb}
use Rattle.definitions.specs.Limits.{problem_kind, questions_kind, problem_header}
use Rattle.definitions.specs.Tropical.{fin, plus, larger, largest}
use Rattle.definitions.specs.Problem.{Optimal, value, side, minus, between}
use Rattle.definitions.specs.Bytes.{some_below, Bytes, num_at, nums_at, le, fields, signed, trop_field, field_of, trop_at, all, blank_or_within}
use Rattle.definitions.specs.ProblemRecord.{Kinds, AsksOne, WithinLayout, WithinLayouts, idle, meant, problem_of, problem_bytes, header_bytes, row_bytes, rows_bytes, list_of, refusal_for, header_refusal, header_judged, leads_of, kind_field, n_field, m_field}
use Rattle.definitions.specs.AnswerRecord.{answer_refusal, answer_header_refusal, answer_header_judged}
use Rattle.definitions.specs.Verdict.{check_refusal}
use Rattle.definitions.specs.Programs.{cut_place, problem_part, answer_part}
use Rattle.definitions.proofs.Bytes.{bytes_tested}

-- ---- the record

pub idle_bytes : problem_bytes idle ≡ 14 ∷ 0 ∷ 0 ∷ 0 ∷ 1 ∷ 0 ∷ 0 ∷ 0 ∷ 0 ∷ 0 ∷ 0 ∷ 0 ∷ 0 ∷ 0 ∷ 0 ∷ 0 ∷ 0 ∷ 0 ∷ []
unfolding idle problem_bytes header_bytes rows_bytes row_bytes list_of field_of fields le
idle_bytes = refl

-- It is what no bytes mean;
pub meant_none : (p : List ℕ) → length p ≡ 0 → meant p ≡ problem_bytes idle
meant_none [] e = refl
meant_none (b ∷ p) e = absurd (omega arith)

-- other bytes mean themselves,
pub meant_some : (p : List ℕ) → 0 < length p → meant p ≡ p
meant_some [] h = absurd (omega arith)
meant_some (b ∷ p) h = refl

-- and all are bytes again.
pub meant_bytes : (p : List ℕ) → Bytes p → Bytes (meant p)
unfolding all
meant_bytes [] b = rw idle_bytes (bytes_tested _ refl)
meant_bytes (x ∷ p) b = b

-- ---- it is within the layout

pub idle_within : WithinLayout (meant [])
unfolding refusal_for header_refusal header_judged leads_of num_at nums_at all blank_or_within trop_field signed some_below
idle_within = rw idle_bytes refl

pub idle_within_both : WithinLayouts (meant [])
unfolding refusal_for header_refusal header_judged leads_of num_at nums_at all blank_or_within trop_field signed some_below
idle_within_both = rw idle_bytes refl

-- ---- no bytes read as it already, since bytes past the end read as 0

pub none_idle : problem_of [] ≡ idle
unfolding problem_of idle trop_at trop_field signed num_at
none_idle = refl

-- The n and m that the answer's reader is handed.
pub idle_n : n_field (meant []) ≡ 0
unfolding num_at
idle_n = rw idle_bytes refl

pub idle_m : m_field (meant []) ≡ 0
unfolding num_at
idle_m = rw idle_bytes refl

pub idle_kind : kind_field (meant []) ≡ problem_kind
unfolding num_at
idle_kind = rw idle_bytes refl

pub idle_asks : AsksOne (meant [])
idle_asks = rw idle_kind refl

-- Several questions are asked by the bytes themselves.
pub several_meant : (p : List ℕ) → kind_field p ≡ questions_kind → meant p ≡ p
unfolding num_at
several_meant [] k = absurd (omega arith)
several_meant (b ∷ p) k = refl

pub several_itself : (p : List ℕ) → kind_field (meant p) ≡ questions_kind → meant p ≡ p
several_itself [] k = absurd (omega (arith, idle_kind))
several_itself (b ∷ p) k = refl

-- ---- refusal 1 remains for 1 to 9 bytes, whatever they are

pub short_refused : (kinds : Kinds) (p : List ℕ) → 0 < length p → length p < problem_header → refusal_for kinds (meant p) ≡ 1
unfolding refusal_for header_refusal header_judged
short_refused kinds p some h = rw (meant_some p some, lt-ltb (length p) problem_header h)

-- ---- "whose answer is least 0"

pub idle_least : Optimal (problem_of (meant [])) (pos 0)
unfolding problem_of trop_at trop_field signed num_at side value minus largest larger plus
idle_least = rw idle_bytes (record {
  point = λ j. fin (pos 0);
  feasible = record { anchored = refl; keeps = λ i h. absurd (omega arith) };
  counts = record { second = record { whole = pos 0; is = refl } };
  value_is = refl;
  least = λ y f c. rw f.anchored (between (≤ℤ_refl (pos 0)));
})

-- ---- the verdict program on no input

-- Both parts are empty: the problem is the idle day, and 8 is the first refusal that applies.
pub no_input : check_refusal (meant (problem_part [])) (answer_part []) ≡ 8
unfolding check_refusal answer_refusal answer_header_refusal answer_header_judged cut_place problem_part answer_part
no_input = rw (idle_within, idle_n, idle_m) refl
