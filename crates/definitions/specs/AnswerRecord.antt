-- The answer record: its fields, sizes by class, refusals, and its bytes. Document 01, "Records" and "What is turned
-- away", 4 and 7 to 13; document 02, 2.4.
use Rattle.std.specs.Prelude.{ℕ, suc, ◌+◌, ◌*◌, ◌-◌, Bool, true, false, not, cond, ◌&&◌, ◌||◌, List, [], ◌∷◌, ◌++◌, map, eqb, ltb, leb, length, nat_abs}
use Rattle.definitions.specs.Limits.{span_limit, stamp_limit, length_bytes, short_bytes, signed_bytes, class_place, span_place, start_place, answer_kind, class_optimal, class_unbounded, class_infeasible, answer_header, answer_most, refused_room, refused_answer_short, refused_answer_length, refused_answer_class, refused_answer_size, refused_form, refused_pick}
use Rattle.definitions.specs.Tropical.{Trop, bot, fin}
use Rattle.definitions.specs.Bytes.{num_at, nums_at, le, fields, trop_field, field_of, trop_at, put, all, whole_within, blank_or_within, Clause, first, or_else, Outcome, outcome}
use Rattle.definitions.specs.ProblemRecord.{limits_refused, length_field, kind_field, n_field}

-- The fields of an answer: class, span, start, and by class stamps and picks.
pub record Answer : Type 0 where
  pub class : ℕ
  pub span : Trop
  pub start : ℕ
  pub stamps : List Trop
  pub picks : List ℕ

-- The class is 1, 2 or 3.
abbrev pub known_class : ℕ → Bool
known_class class = eqb class class_optimal || (eqb class class_unbounded || eqb class class_infeasible)

-- What a class number gives: for least, for bottomless, for none, and for a number that is no class.
abbrev pub by_class : {A : Type 0} → ℕ → A → A → A → A → A
by_class class least bottomless none no_class =
    cond (eqb class class_optimal) least
    (cond (eqb class class_unbounded) bottomless
    (cond (eqb class class_infeasible) none no_class))

-- How many stamps an answer of this class has: n + 1 for least, else none.
abbrev pub stamp_count : ℕ → ℕ → ℕ
stamp_count class n = by_class class (suc n) 0 0 0

-- How many picks: one a row for bottomless, one a moment for least and none.
abbrev pub pick_count : ℕ → ℕ → ℕ → ℕ
pick_count class n m = by_class class (suc n) (suc m) (suc n) 0

-- The highest pick: 1 + a moment's number for bottomless, m + 1, the question, for least and none.
abbrev pub highest_pick : ℕ → ℕ → ℕ → ℕ
highest_pick class n m = by_class class (suc m) (suc n) (suc m) 0

-- Sizes: 16 + 6 (n + 1), 16 + 2 (m + 1), 16 + 2 (n + 1).
abbrev pub answer_size : ℕ → ℕ → ℕ → ℕ
answer_size class n m = answer_header + signed_bytes * stamp_count class n + short_bytes * pick_count class n m

-- ---- form

-- The number is whole and 0.
unfoldable pub is_zero : Trop → Bool
is_zero bot = false
is_zero (fin z) = eqb (nat_abs z) 0

unfoldable pub is_blank : Trop → Bool
is_blank bot = true
is_blank (fin z) = false

-- A start of the class: 0 or 1 for least and none; for bottomless 1 + the number of a moment, so 1 to n + 1.
abbrev pub start_fits : ℕ → ℕ → ℕ → Bool
start_fits class start n = by_class class (leb start 1) (ltb 0 start && leb start (suc n)) (leb start 1) false

-- The span's form: whole and within ±1,290,240 for least, blank for bottomless and none.
unfoldable pub span_fits : ℕ → Trop → Bool
span_fits class span = by_class class (whole_within span_limit span) (is_blank span) (is_blank span) false

-- The stamps' form: stamp 0 is 0, the others are blank or within ±6,000,000. Classes 2 and 3 have none.
unfoldable pub stamps_fit : List Trop → Bool
stamps_fit [] = true
stamps_fit (anchor ∷ others) = is_zero anchor && all (blank_or_within stamp_limit) others

-- No pick is above its highest value.
unfoldable pub picks_fit : ℕ → List ℕ → Bool
picks_fit highest picks = all (λ pick. leb pick highest) picks

-- Refusals 12 and 13, the same for bytes and for fields handed to the writer.
unfoldable pub form_refusal : Answer → ℕ → ℕ → ℕ
form_refusal a n m =
    first
    (record { applies = not (span_fits a.class a.span && stamps_fit a.stamps); number = refused_form }
    ∷ record { applies = not (picks_fit (highest_pick a.class n m) a.picks); number = refused_pick }
    ∷ [])

-- As many stamps and as many picks as the class has: on numbers, and of an answer.
abbrev pub counts_fit_is : ℕ → ℕ → ℕ → ℕ → ℕ → Bool
counts_fit_is class stamps picks n m = eqb stamps (stamp_count class n) && eqb picks (pick_count class n m)

unfoldable pub right_counts : Answer → ℕ → ℕ → Bool
right_counts a n m = counts_fit_is a.class (length a.stamps) (length a.picks) n m

-- ---- bytes

-- Fields of an answer's header after length, kind and n: class, span and start. Stamps and picks follow.
abbrev pub class_field : List ℕ → ℕ
class_field s = num_at short_bytes s class_place

abbrev pub span_field : List ℕ → Trop
span_field s = trop_at s span_place

abbrev pub start_field : List ℕ → ℕ
start_field s = num_at short_bytes s start_place

-- The answer that the bytes mean, read with the problem's n and m.
unfoldable pub answer_of : List ℕ → ℕ → ℕ → Answer
answer_of s n m =
    record {
      class = class_field s;
      span = span_field s;
      start = start_field s;
      stamps = map trop_field (nums_at signed_bytes (stamp_count (class_field s) n) s answer_header);
      picks = nums_at short_bytes (pick_count (class_field s) n m) s (answer_header + signed_bytes * stamp_count (class_field s) n);
    }

-- An answer as its record, with the problem's n: length, kind, n, class, span, start, stamps, picks.
unfoldable pub answer_bytes : ℕ → Answer → List ℕ
answer_bytes n a =
    (le length_bytes ((answer_header + signed_bytes * length a.stamps + short_bytes * length a.picks) - length_bytes)
    ++ (le short_bytes answer_kind ++ (le short_bytes n ++ (le short_bytes a.class ++ (le signed_bytes (field_of a.span) ++ le short_bytes a.start)))))
    ++ (fields signed_bytes (map field_of a.stamps) ++ fields short_bytes a.picks)

-- ---- refusals

-- The first of refusals 4 and 8 to 11 on numbers: the size, the header's length, kind, n, class and start, and the problem's n and m. The
-- start is judged by the problem's n.
unfoldable pub answer_header_judged : ℕ → ℕ → ℕ → ℕ → ℕ → ℕ → ℕ → ℕ → ℕ
answer_header_judged size length kind own class start n m =
    first
    (limits_refused n m
    ∷ record { applies = ltb size answer_header; number = refused_answer_short }
    ∷ record { applies = not (eqb (length + length_bytes) size); number = refused_answer_length }
    ∷ record { applies = not (eqb kind answer_kind && (known_class class && start_fits class start n)); number = refused_answer_class }
    ∷ record { applies = not (eqb own n && eqb size (answer_size class n m)); number = refused_answer_size }
    ∷ [])

-- Refusals 4 and 8 to 11 concern the first bytes of an answer, its size, and the problem's n and m.
unfoldable pub answer_header_refusal : List ℕ → ℕ → ℕ → ℕ → ℕ
answer_header_refusal s size n m = answer_header_judged size (length_field s) (kind_field s) (n_field s) (class_field s) (start_field s) n m

-- The first of refusals 4 and 8 to 13 that applies to an answer read with the problem's n and m, 0 where none does.
unfoldable pub answer_refusal : List ℕ → ℕ → ℕ → ℕ
answer_refusal s n m = or_else (answer_header_refusal s (length s) n m) (form_refusal (answer_of s n m) n m)

-- What an answer's header, its first bytes and its size, gives: class, span and start, or the first of refusals 4 and 8 to 11.
unfoldable pub answer_header_outcome : List ℕ → ℕ → ℕ → ℕ → Outcome (ℕ × Trop × ℕ)
answer_header_outcome s size n m = outcome (answer_header_refusal s size n m) (class_field s, span_field s, start_field s)

-- What a whole answer gives: class, span and start, or the first of refusals 4 and 8 to 13.
unfoldable pub answer_outcome : List ℕ → ℕ → ℕ → Outcome (ℕ × Trop × ℕ)
answer_outcome s n m = outcome (answer_refusal s n m) (class_field s, span_field s, start_field s)

-- Refusal 7: the answer buffer, of `room` bytes, is shorter than the largest answer.
abbrev pub room_refused : ℕ → Clause
room_refused room = record { applies = ltb room answer_most; number = refused_room }

-- The first of refusals 4, 7, 10 and 11 on numbers: class and start, how many stamps and picks, the problem's n and m, and the
-- buffer's size. Stamps or picks in another count than the class has get 11.
unfoldable pub writer_judged : ℕ → ℕ → ℕ → ℕ → ℕ → ℕ → ℕ → ℕ
writer_judged class start stamps picks n m room =
    first
    (limits_refused n m
    ∷ room_refused room
    ∷ record { applies = not (known_class class && start_fits class start n); number = refused_answer_class }
    ∷ record { applies = not (counts_fit_is class stamps picks n m); number = refused_answer_size }
    ∷ [])

-- The first of refusals 4, 7 and 10 to 13 that applies to fields handed to the writer with n, m and a buffer of `room`
-- bytes, 0 where none does.
unfoldable pub writer_refusal : Answer → ℕ → ℕ → ℕ → ℕ
writer_refusal a n m room =
    or_else (writer_judged a.class a.start (length a.stamps) (length a.picks) n m room) (form_refusal a n m)

-- What the writer gives: the record's size, or the first of its refusals.
unfoldable pub writer_outcome : Answer → ℕ → ℕ → ℕ → Outcome ℕ
writer_outcome a n m room = outcome (writer_refusal a n m room) (answer_size a.class n m)

-- The buffer once the writer is done: the record, and after it every byte as it was.
unfoldable pub written : List ℕ → List ℕ → List ℕ
written buffer bytes = put buffer 0 bytes
