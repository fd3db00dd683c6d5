-- The problem record: its size, its refusals, what its bytes mean, and a problem as bytes. Document 01, "Records"
-- and "What is turned away", 1 to 6; document 02, 2.1, 2.6, 2.9 and 2.10.
use Rattle.std.specs.Prelude.{ℕ, zero, suc, ◌+◌, ◌*◌, ◌-◌, ◌≡◌, Bool, true, false, not, cond, ◌&&◌, ◌||◌, List, [], ◌∷◌, ◌++◌, map, eqb, ltb, leb, length, pos}
use Rattle.definitions.specs.Limits.{highest_n, highest_m, lead_limit, length_bytes, short_bytes, signed_bytes, kind_place, n_place, m_place, count_place, problem_kind, questions_kind, states_kind, state_in_force, state_suspended, most_questions, problem_header, questions_header, states_place, refused_short, refused_length, refused_kind, refused_limits, refused_count, refused_size, refused_state, refused_lead, refused_silent, signed_half}
use Rattle.definitions.specs.Tropical.{Trop, bot, fin}
use Rattle.definitions.specs.Problem.{Problem}
use Rattle.definitions.specs.Bytes.{num_at, nums_at, le, fields, trop_field, field_of, trop_at, all, some_below, blank_or_within, Clause, first, or_else, Outcome, outcome}

-- Size of a problem record of one question: 10 + 8 × (n + 1) × (m + 1).
abbrev pub problem_size : ℕ → ℕ → ℕ
problem_size n m = problem_header + 2 * signed_bytes * (suc n * suc m)

-- Fields of the header: length, kind, n, m; and the count of questions, which a record of kind 3 has after m.
abbrev pub length_field : List ℕ → ℕ
length_field s = num_at length_bytes s 0

abbrev pub kind_field : List ℕ → ℕ
kind_field s = num_at short_bytes s kind_place

abbrev pub n_field : List ℕ → ℕ
n_field s = num_at short_bytes s n_place

abbrev pub m_field : List ℕ → ℕ
m_field s = num_at short_bytes s m_place

abbrev pub count_field : List ℕ → ℕ
count_field s = num_at short_bytes s count_place

-- By the questions: of several, kind 3, or of one. A kind that an entry does not know is refused before it is asked.
abbrev pub by_questions : {A : Type 0} → ℕ → A → A → A
by_questions kind of-several of_one = cond (eqb kind questions_kind) of-several of_one

-- By the states: a record that has them, kind 5, or another.
abbrev pub by_states : {A : Type 0} → ℕ → A → A → A
by_states kind with-states without = cond (eqb kind states_kind) with-states without

-- Where the leads start, behind a header with the count of questions, with the states of m rules, or with neither.
abbrev pub leads_place : ℕ → ℕ → ℕ
leads_place kind m = by_questions kind questions_header (by_states kind (states_place + short_bytes * m) problem_header)

-- A record asks one question.
abbrev pub AsksOne : List ℕ → Type 0
AsksOne s = eqb (kind_field s) questions_kind ≡ false

-- How many questions follow the rules.
abbrev pub questions_asked : ℕ → ℕ → ℕ
questions_asked kind count = by_questions kind count 1

-- Size of a problem record: what stands before the leads, and 8 × (n + 1) bytes for each rule and each question.
abbrev pub record_size : ℕ → ℕ → ℕ → ℕ → ℕ
record_size kind n m count = leads_place kind m + 2 * signed_bytes * (suc n * (m + questions_asked kind count))

-- The leads of a problem record in their order: for each row n + 1 left leads, then n + 1 right leads.
unfoldable pub leads_of : List ℕ → List Trop
leads_of s =
    map trop_field
    (nums_at signed_bytes (2 * (suc (n_field s) * (m_field s + questions_asked (kind_field s) (count_field s)))) s (leads_place (kind_field s) (m_field s)))

-- The place of a row, in a record of n + 1 variables whose leads start at `start`.
abbrev pub row_place : ℕ → ℕ → ℕ → ℕ
row_place start n i = start + 2 * signed_bytes * (i * suc n)

-- The kinds that an entry knows beside kind 1: whether kind 3, several questions, and whether kind 5, states of rules.
pub record Kinds : Type 0 where
  pub several : Bool
  pub states : Bool

abbrev pub known_kind : Kinds → ℕ → Bool
known_kind kinds kind =
    eqb kind problem_kind || ((kinds.several && eqb kind questions_kind) || (kinds.states && eqb kind states_kind))

-- Those of the engine and the problem reader: 1, 3 and 5; of the checker: 1 and 5; of the converter: 1 and 3, "also later"; the desk "knows
-- no kind but 1".
abbrev pub engine_kinds : Kinds
engine_kinds = record { several = true; states = true }

abbrev pub checker_kinds : Kinds
checker_kinds = record { several = false; states = true }

abbrev pub converter_kinds : Kinds
converter_kinds = record { several = true; states = false }

abbrev pub desk_kinds : Kinds
desk_kinds = record { several = false; states = false }

-- n is above its limit, 31, or m above its, 63.
abbrev pub above_limits : ℕ → ℕ → Bool
above_limits n m = ltb highest_n n || ltb highest_m m

-- Refusal 4: n or m is above its limit.
abbrev pub limits_refused : ℕ → ℕ → Clause
limits_refused n m = record { applies = above_limits n m; number = refused_limits }

-- A record of kind 3 that reaches to the end of its count asks no question, or more than 8.
abbrev pub wrong_count : ℕ → ℕ → ℕ → Bool
wrong_count size kind count = eqb kind questions_kind && (leb questions_header size && (eqb count 0 || ltb most_questions count))

-- Refusals 4, 15 and 5 on numbers: the size, and the header's kind, n, m and count.
abbrev pub counts_refused : ℕ → ℕ → ℕ → ℕ → ℕ → List Clause
counts_refused size kind n m count =
    limits_refused n m
    ∷ record { applies = wrong_count size kind count; number = refused_count }
    ∷ record { applies = not (eqb size (record_size kind n m count)); number = refused_size }
    ∷ []

-- The first of refusals 1 to 5 and 15 on numbers: the size, and the header's length, kind, n, m and count.
unfoldable pub header_judged : Kinds → ℕ → ℕ → ℕ → ℕ → ℕ → ℕ → ℕ
header_judged kinds size length kind n m count =
    first
    (record { applies = ltb size problem_header; number = refused_short }
    ∷ record { applies = not (eqb (length + length_bytes) size); number = refused_length }
    ∷ record { applies = not (known_kind kinds kind); number = refused_kind }
    ∷ counts_refused size kind n m count)

-- Refusals 1 to 5 and 15 concern the first bytes of a problem and its size.
unfoldable pub header_refusal : Kinds → List ℕ → ℕ → ℕ
header_refusal kinds s size = header_judged kinds size (length_field s) (kind_field s) (n_field s) (m_field s) (count_field s)

-- The state of rule i, counted from 0, of a record of kind 5.
abbrev pub state_field : List ℕ → ℕ → ℕ
state_field s i = num_at short_bytes s (states_place + short_bytes * i)

-- It is neither 0 nor 1.
abbrev pub wrong_state : List ℕ → ℕ → Bool
wrong_state s i = not (eqb (state_field s i) state_suspended || eqb (state_field s i) state_in_force)

-- Refusal 20: a state other than 0 or 1.
abbrev pub state_refused : List ℕ → Bool
state_refused s = eqb (kind_field s) states_kind && some_below (wrong_state s) (m_field s)

-- Refusal 6: a lead is neither blank nor within ±20,160.
abbrev pub lead_refused : List ℕ → Bool
lead_refused s = not (all (blank_or_within lead_limit) (leads_of s))

-- Each of `count` leads from a place on is blank, −2,147,483,648.
abbrev pub run_blank : List ℕ → ℕ → ℕ → Bool
run_blank s count at = all (eqb signed_half) (nums_at signed_bytes count s at)

-- Row i, counted from 0, has an all-blank left list.
abbrev pub blank_left : List ℕ → ℕ → Bool
blank_left s i = run_blank s (suc (n_field s)) (row_place (leads_place (kind_field s) (m_field s)) (n_field s) i)

-- Refusal 17: a rule has an all-blank left list, in force or suspended. (A question may have one.)
abbrev pub silent_refused : List ℕ → Bool
silent_refused s = some_below (blank_left s) (m_field s)

-- The first of refusals 1 to 4, 15, 5, 20, 6 and 17 that applies to a problem, 0 where none does, in an entry that knows these kinds.
unfoldable pub refusal_for : Kinds → List ℕ → ℕ
refusal_for kinds s =
    or_else (header_refusal kinds s (length s))
    (first
    (record { applies = state_refused s; number = refused_state }
    ∷ record { applies = lead_refused s; number = refused_lead }
    ∷ record { applies = silent_refused s; number = refused_silent }
    ∷ []))

-- Where one question is asked for, and where several may be.
abbrev pub problem_refusal : List ℕ → ℕ
problem_refusal s = refusal_for checker_kinds s

abbrev pub record_refusal : List ℕ → ℕ
record_refusal s = refusal_for engine_kinds s

-- A problem of one question is within the layout if no refusal that concerns the problem applies to it; a record of one question
-- or several.
abbrev pub WithinLayout : List ℕ → Type 0
WithinLayout s = problem_refusal s ≡ 0

abbrev pub WithinLayouts : List ℕ → Type 0
WithinLayouts s = record_refusal s ≡ 0

-- What a problem's header tells: its kind, n and m, where its leads start, and how many questions follow its rules.
pub record Layout : Type 0 where
  pub kind : ℕ
  pub n : ℕ
  pub m : ℕ
  pub leads : ℕ
  pub questions : ℕ

abbrev pub layout_of : List ℕ → Layout
layout_of s = record {
  kind = kind_field s;
  n = n_field s;
  m = m_field s;
  leads = leads_place (kind_field s) (m_field s);
  questions = questions_asked (kind_field s) (count_field s);
}

-- What a problem's header, its first bytes and its size, gives: the layout, or the first of refusals 1 to 5 and 15.
unfoldable pub header_outcome : Kinds → List ℕ → ℕ → Outcome Layout
header_outcome kinds s size = outcome (header_refusal kinds s size) (layout_of s)

-- What a whole problem gives: its layout, or the first of refusals 1 to 6, 15, 17 and 20.
unfoldable pub problem_outcome : Kinds → List ℕ → Outcome Layout
problem_outcome kinds s = outcome (refusal_for kinds s) (layout_of s)

-- Places of the leads, where they start at `start`: row i has its left leads first, then its right leads, anchor first.
abbrev pub left_from : ℕ → ℕ → ℕ → ℕ → ℕ
left_from start n i j = row_place start n i + signed_bytes * j

abbrev pub right_from : ℕ → ℕ → ℕ → ℕ → ℕ
right_from start n i j = row_place start n i + signed_bytes * suc n + signed_bytes * j

-- Those of kind 1.
abbrev pub left_place : ℕ → ℕ → ℕ → ℕ
left_place n i j = left_from problem_header n i j

abbrev pub right_place : ℕ → ℕ → ℕ → ℕ
right_place n i j = right_from problem_header n i j

-- Row i is a suspended rule (document 02, 2.10). The question has no state.
abbrev pub suspended : List ℕ → ℕ → Bool
suspended s i = eqb (kind_field s) states_kind && (ltb i (m_field s) && eqb (state_field s i) state_suspended)

-- The lead of row i at a place: the row of a suspended rule is blank on both sides.
abbrev pub lead_of : List ℕ → ℕ → ℕ → Trop
lead_of s i at = cond (suspended s i) bot (trop_at s at)

-- The problem that the bytes of a record mean; of several questions, with the first.
unfoldable pub problem_of : List ℕ → Problem
problem_of s =
    record {
      n = n_field s;
      m = m_field s;
      left = λ i j. lead_of s i (left_from (leads_place (kind_field s) (m_field s)) (n_field s) i j);
      right = λ i j. lead_of s i (right_from (leads_place (kind_field s) (m_field s)) (n_field s) i j);
    }

-- f 0, …, f (k − 1) as a list.
unfoldable pub list_of {ℓ} : {A : Type ℓ} → (ℕ → A) → ℕ → List A
list_of f zero = []
list_of f (suc k) = list_of f k ++ (f k ∷ [])

-- One row of a problem as bytes: its left leads, then its right leads.
unfoldable pub row_bytes : Problem → ℕ → List ℕ
row_bytes p i =
    fields signed_bytes (map field_of (list_of (p.left i) (suc p.n)))
    ++ fields signed_bytes (map field_of (list_of (p.right i) (suc p.n)))

-- The first k rows as bytes.
unfoldable pub rows_bytes : Problem → ℕ → List ℕ
rows_bytes p zero = []
rows_bytes p (suc k) = rows_bytes p k ++ row_bytes p k

-- The header of a problem of kind 1: its length, kind, n and m.
unfoldable pub header_bytes : ℕ → ℕ → List ℕ
header_bytes n m =
    (le length_bytes (problem_size n m - length_bytes) ++ le short_bytes problem_kind) ++ (le short_bytes n ++ le short_bytes m)

-- A problem as its record.
unfoldable pub problem_bytes : Problem → List ℕ
problem_bytes p = header_bytes p.n p.m ++ rows_bytes p (suc p.m)

-- The idle day (document 02, 2.9): n = m = 0 and both anchor leads 0.
unfoldable pub idle : Problem
idle = record { n = 0; m = 0; left = λ i j. fin (pos 0); right = λ i j. fin (pos 0) }

-- "No bytes at all now mean the problem with n = m = 0 and both anchor leads 0": the record that is meant by the bytes handed over.
abbrev pub meant : List ℕ → List ℕ
meant [] = problem_bytes idle
meant (b ∷ s) = b ∷ s
