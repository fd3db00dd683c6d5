-- Problems of an older layout, whose leads lay within a smaller limit: what stays of them. Document 02, 2.2: "Class and least span
-- of an older problem do not move". What a problem means, its classes and its least span know no limit (Problem, `problem_of`); the
-- trials that decide them do.
use Rattle.std.specs.Prelude.{ℕ, ◌*◌, ◌≤◌, ◌<◌, ◌≡◌, true, not, List, [], ◌∷◌, ◌↔◌, length, ℤ, pos, negsuc, nat_abs}
use Rattle.definitions.specs.Limits.{questions_kind, stride, top_trial, lowest_trial, refused_state, refused_lead, refused_silent}
use Rattle.definitions.specs.Bytes.{all, blank_or_within, first, or_else}
use Rattle.definitions.specs.Problem.{Problem, Attainable, Optimal, Unbounded, Infeasible}
use Rattle.definitions.specs.ProblemRecord.{Kinds, engine_kinds, checker_kinds, state_refused, kind_field, count_field, leads_of, silent_refused, header_refusal, refusal_for, WithinLayout, problem_of}
use Rattle.definitions.specs.Questions.{alone}

-- The limit of leads before: ±10,080.
abbrev pub older_lead_limit : ℕ
older_lead_limit = 10080

-- Every lead of a record is blank or within ±limit.
abbrev pub LeadsWithin : ℕ → List ℕ → Type 0
LeadsWithin limit s = all (blank_or_within limit) (leads_of s) ≡ true

-- The first refusal that applied to a record in a layout with this limit of leads, 0 where none did.
unfoldable pub refusal_before : ℕ → Kinds → List ℕ → ℕ
refusal_before limit kinds s =
    or_else (header_refusal kinds s (length s))
    (first
    (record { applies = state_refused s; number = refused_state }
    ∷ record { applies = not (all (blank_or_within limit) (leads_of s)); number = refused_lead }
    ∷ record { applies = silent_refused s; number = refused_silent }
    ∷ []))

-- The limit of spans by a limit of leads, and the two outer trials: 645,120 and −645,121 before.
abbrev pub spans_by : ℕ → ℕ
spans_by limit = 2 * stride * limit

abbrev pub top_by : ℕ → ℤ
top_by limit = pos (spans_by limit)

abbrev pub lowest_by : ℕ → ℤ
lowest_by limit = negsuc (spans_by limit)

-- What stays of a problem. The outer trials say of it what they said: possible at the top one exactly when it was at the older,
-- and so at the lowest. By the older ones none and bottomless are as they are defined, and a least span lies where it lay.
pub record Stays (limit : ℕ) (p : Problem) : Type 0 where
  pub top : Attainable p (top_by limit) ↔ Attainable p top_trial
  pub lowest : Attainable p (lowest_by limit) ↔ Attainable p lowest_trial
  pub none : Infeasible p ↔ (Attainable p (top_by limit) → ⊥)
  pub bottomless : Unbounded p ↔ Attainable p (lowest_by limit)
  pub least : (z : ℤ) → Optimal p z → nat_abs z ≤ spans_by limit

-- Of every record whose leads lie within an older limit: the same refusal, or none, applies to it. And of every problem that was
-- within that layout: it is within this one, and stays; so does each of several questions.
abbrev pub OlderStay : ℕ → Type 0
OlderStay limit =
    ((kinds : Kinds) (s : List ℕ) → LeadsWithin limit s → refusal_for kinds s ≡ refusal_before limit kinds s)
    × ((s : List ℕ) → refusal_before limit checker_kinds s ≡ 0 → WithinLayout s × Stays limit (problem_of s))
    × ((s : List ℕ) → kind_field s ≡ questions_kind → refusal_before limit engine_kinds s ≡ 0 → (q : ℕ) → q < count_field s
    → WithinLayout (alone s q) × Stays limit (problem_of (alone s q)))
