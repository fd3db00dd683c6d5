-- The converter: a stored problem without its rules that say nothing. Document 02, 2.6. "It takes kinds 1 and 3 alone, also later."
use Rattle.std.specs.Prelude.{ℕ, zero, suc, ◌-◌, ◌≤◌, ◌<◌, ◌≡◌, cond, ◌⊎◌, List, [], ◌∷◌, ◌++◌, ltb, length}
use Rattle.definitions.specs.Limits.{length_bytes, short_bytes, kind_place, m_place, states_kind, problem_header, refused_short, refused_length, refused_kind, refused_lead, refused_silent, refused_room}
use Rattle.definitions.specs.Bytes.{Bytes, le, first, or_else, Outcome, outcome}
use Rattle.definitions.specs.ProblemRecord.{kind_field, n_field, m_field, count_field, leads_place, questions_asked, record_size, row_place, converter_kinds, header_refusal, lead_refused, refusal_for, record_refusal, blank_left, problem_of, WithinLayouts}
use Rattle.definitions.specs.Questions.{part, rows_size, asking}
use Rattle.definitions.specs.AnswerRecord.{written}
use Rattle.definitions.specs.Programs.{refused_line}
use Rattle.definitions.specs.Selection.{left_below, SameClass}

-- The first of refusals 1 to 6 and 15 that applies to the bytes, as the engine gives them to a record, 0 where none does; never 17. No bytes
-- are no idle day here and get 1 (2.9).
unfoldable pub stored_refusal : List ℕ → ℕ
stored_refusal s = or_else (header_refusal converter_kinds s (length s)) (first (record { applies = lead_refused s; number = refused_lead } ∷ []))

-- "Drops these rules and closes up the numbers": of the first k rules, how many stay, and their rows in their order.
abbrev pub rules_left : List ℕ → ℕ → ℕ
rules_left s k = left_below (blank_left s) k

unfoldable pub rows_left : List ℕ → ℕ → List ℕ
rows_left s zero = []
rows_left s (suc k) =
    rows_left s k ++ cond (blank_left s k) [] (part s (row_place (leads_place (kind_field s) (m_field s)) (n_field s) k) (rows_size (n_field s) 1))

-- The size of the converted record.
abbrev pub converted_size : List ℕ → ℕ
converted_size s = record_size (kind_field s) (n_field s) (rules_left s (m_field s)) (count_field s)

-- The rows of the questions.
abbrev pub question_rows : List ℕ → List ℕ
question_rows s =
    part s (row_place (leads_place (kind_field s) (m_field s)) (n_field s) (m_field s)) (rows_size (n_field s) (questions_asked (kind_field s) (count_field s)))

-- The converted record: the length that fits; kind and n as they stand; how many rules stay; what stands between m and the leads (of
-- kind 3 the count); the rules that stay, then the questions, as they stand.
unfoldable pub converted : List ℕ → List ℕ
converted s =
    le length_bytes (converted_size s - length_bytes)
    ++ (part s kind_place (m_place - kind_place)
    ++ (le short_bytes (rules_left s (m_field s))
    ++ (part s problem_header (leads_place (kind_field s) (m_field s) - problem_header)
    ++ (rows_left s (m_field s)
    ++ question_rows s))))

-- 1 to 6 and 15, "then 7 where the lent buffer is shorter than the record to be written".
unfoldable pub convert_refusal : List ℕ → ℕ → ℕ
convert_refusal s room = or_else (stored_refusal s) (first (record { applies = ltb room (converted_size s); number = refused_room } ∷ []))

-- What the converter answers for bytes and a lent buffer, the refusal or the size of the record, and the buffer afterwards: as it was
-- where the bytes are refused; else the record stands at its start, and every byte after it is as it was.
pub record Converts (s before : List ℕ) (r : Outcome ℕ) (after : List ℕ) : Type 0 where
  pub result : r ≡ outcome (convert_refusal s (length before)) (converted_size s)
  pub untouched : 0 < convert_refusal s (length before) → after ≡ before
  pub record_is : convert_refusal s (length before) ≡ 0 → after ≡ written before (converted s)

-- "Gives 1 to 6 and 15 as the engine does", of every string of bytes read as a record: to the kinds that it takes it gives the engine's refusal
-- (which is never 20, of kind 5 alone), but for 17, where it gives none. Kind 5 gets 3 behind 1 and 2; and no bytes get 1, also where they
-- mean the idle day for the engine (2.9).
pub record RefusesAlike : Type 0 where
  pub as_the_engine : (s : List ℕ) → (kind_field s ≡ states_kind → ⊥) → (record_refusal s ≡ refused_silent → ⊥) → stored_refusal s ≡ record_refusal s
  pub silent_taken : (s : List ℕ) → (kind_field s ≡ states_kind → ⊥) → record_refusal s ≡ refused_silent → stored_refusal s ≡ 0
  pub states_not_taken :
      (s : List ℕ) → kind_field s ≡ states_kind
      → ((record_refusal s ≤ refused_length → 0 < record_refusal s → stored_refusal s ≡ record_refusal s)
      × ((record_refusal s ≡ 0) ⊎ (refused_length < record_refusal s) → stored_refusal s ≡ refused_kind))
  pub no_bytes : stored_refusal [] ≡ refused_short

-- What the convert program puts out: the converted record, or the line of the refusal.
pub data ConvertOutput (input : List ℕ) : List ℕ → Type 0 where
  refusal : {k : ℕ} → stored_refusal input ≡ suc k → ConvertOutput input (refused_line (suc k))
  stored : stored_refusal input ≡ 0 → ConvertOutput input (converted input)

-- What holds of the converted record: it is within the layout of the engine, so that no rule says nothing; "class and least span of each
-- question are the same before and after"; converting again changes nothing.
pub record ConvertedWell (s : List ℕ) : Type 0 where
  pub within : WithinLayouts (converted s)
  pub same_kind : kind_field (converted s) ≡ kind_field s
  pub same_questions : questions_asked (kind_field (converted s)) (count_field (converted s)) ≡ questions_asked (kind_field s) (count_field s)
  pub same_class : (q : ℕ) → q < questions_asked (kind_field s) (count_field s) → SameClass (problem_of (asking s q)) (problem_of (asking (converted s) q))
  pub once : converted (converted s) ≡ converted s

-- It holds of every record that is not refused; and one that the engine takes, of kind 1 or 3 and at least ten bytes, stays as it is.
pub record ConversionKeeps : Type 0 where
  pub well : (s : List ℕ) → Bytes s → stored_refusal s ≡ 0 → ConvertedWell s
  pub stays : (s : List ℕ) → Bytes s → refusal_for converter_kinds s ≡ 0 → converted s ≡ s
