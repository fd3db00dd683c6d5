-- Refusals at their edges, and the order in which they are looked at, as facts of the definitions: each list of bytes, or
-- of fields, with its number. The lines that are printed, and document 01's numbers that no list shows.
use Prim.Native.Nat.{ℕ}
use mathlib.Core.Path.{◌≡◌, refl}
use mathlib.Core.Bool.{false}
use mathlib.Core.List.{List, [], ◌∷◌, ◌++◌, map}
use lib.IntN.{pos, negsuc}
use Rattle.definitions.specs.Limits.{kept_bytes, top_trial, lowest_trial, problem_most, states_most, answer_most, census_most}
use Rattle.definitions.specs.Tropical.{bot, fin}
use Rattle.definitions.specs.Bytes.{num_at, nums_at, le, signed, trop_field, trop_at, all, some_below, blank_or_within, whole_within}
use Rattle.definitions.specs.ProblemRecord.{checker_kinds, header_refusal, header_judged, problem_refusal, leads_of, refusal_for, header_bytes}
use Rattle.definitions.specs.Questions.{alone}
use Rattle.definitions.specs.Bisection.{trials_infeasible, trials_unbounded}
use Rattle.definitions.specs.Verdict.{Verdict, accepted, refused, check_refusal}
use Rattle.definitions.specs.Solved.{engine_refusal}
use Rattle.definitions.specs.Programs.{verdict_line, class_words, refused_line, decimal, digits, whole_decimal, span_decimal, text_refused, text_not_certified, text_accepted, text_least, text_bottomless, text_none}
use Rattle.definitions.specs.Conversion.{convert_refusal, stored_refusal}
use Rattle.definitions.specs.Census.{census_refusal, census_total}
use Rattle.definitions.specs.Examples.{example_a}
use Rattle.definitions.specs.AnswerRecord.{Answer, stamp_count, pick_count, highest_pick, answer_header_refusal, answer_header_judged, answer_refusal, answer_of, writer_refusal, writer_judged, right_counts, form_refusal, span_fits, stamps_fit, picks_fit, is_zero, is_blank}

-- A problem's bytes and its refusal.
record Damaged : Type 0 where
  number : ℕ
  bytes : List ℕ

problems : List Damaged
problems =
    -- empty
    record { number = 1; bytes = [] } ∷
    -- nine bytes
    record { number = 1; bytes = (6 ∷ 0 ∷ 0 ∷ 0 ∷ 1 ∷ 0 ∷ 0 ∷ 0 ∷ 0 ∷ []) } ∷
    -- length one short
    record { number = 2; bytes = (13 ∷ 0 ∷ 0 ∷ 0 ∷ 1 ∷ 0 ∷ 0 ∷ 0 ∷ 0 ∷ 0 ∷ 5 ∷ 0 ∷ 0 ∷ 0 ∷ 2 ∷ 0 ∷ 0 ∷ 0 ∷ []) } ∷
    -- length and kind wrong
    record { number = 2; bytes = (13 ∷ 0 ∷ 0 ∷ 0 ∷ 2 ∷ 0 ∷ 0 ∷ 0 ∷ 0 ∷ 0 ∷ 5 ∷ 0 ∷ 0 ∷ 0 ∷ 2 ∷ 0 ∷ 0 ∷ 0 ∷ []) } ∷
    -- kind 2
    record { number = 3; bytes = (14 ∷ 0 ∷ 0 ∷ 0 ∷ 2 ∷ 0 ∷ 0 ∷ 0 ∷ 0 ∷ 0 ∷ 5 ∷ 0 ∷ 0 ∷ 0 ∷ 2 ∷ 0 ∷ 0 ∷ 0 ∷ []) } ∷
    -- kind wrong and n 32
    record { number = 3; bytes = (14 ∷ 0 ∷ 0 ∷ 0 ∷ 0 ∷ 0 ∷ 32 ∷ 0 ∷ 0 ∷ 0 ∷ 5 ∷ 0 ∷ 0 ∷ 0 ∷ 2 ∷ 0 ∷ 0 ∷ 0 ∷ []) } ∷
    -- n 32
    record { number = 4; bytes = (14 ∷ 0 ∷ 0 ∷ 0 ∷ 1 ∷ 0 ∷ 32 ∷ 0 ∷ 0 ∷ 0 ∷ 5 ∷ 0 ∷ 0 ∷ 0 ∷ 2 ∷ 0 ∷ 0 ∷ 0 ∷ []) } ∷
    -- m 64
    record { number = 4; bytes = (14 ∷ 0 ∷ 0 ∷ 0 ∷ 1 ∷ 0 ∷ 0 ∷ 0 ∷ 64 ∷ 0 ∷ 5 ∷ 0 ∷ 0 ∷ 0 ∷ 2 ∷ 0 ∷ 0 ∷ 0 ∷ []) } ∷
    -- size of n = 0 with n = 1
    record { number = 5; bytes = (14 ∷ 0 ∷ 0 ∷ 0 ∷ 1 ∷ 0 ∷ 1 ∷ 0 ∷ 0 ∷ 0 ∷ 5 ∷ 0 ∷ 0 ∷ 0 ∷ 2 ∷ 0 ∷ 0 ∷ 0 ∷ []) } ∷
    -- size and a lead wrong
    record { number = 5; bytes = (14 ∷ 0 ∷ 0 ∷ 0 ∷ 1 ∷ 0 ∷ 0 ∷ 0 ∷ 1 ∷ 0 ∷ 193 ∷ 78 ∷ 0 ∷ 0 ∷ 2 ∷ 0 ∷ 0 ∷ 0 ∷ []) } ∷
    -- lead 20,161
    record { number = 6; bytes = (14 ∷ 0 ∷ 0 ∷ 0 ∷ 1 ∷ 0 ∷ 0 ∷ 0 ∷ 0 ∷ 0 ∷ 193 ∷ 78 ∷ 0 ∷ 0 ∷ 2 ∷ 0 ∷ 0 ∷ 0 ∷ []) } ∷
    -- lead −20,161, right
    record { number = 6; bytes = (14 ∷ 0 ∷ 0 ∷ 0 ∷ 1 ∷ 0 ∷ 0 ∷ 0 ∷ 0 ∷ 0 ∷ 5 ∷ 0 ∷ 0 ∷ 0 ∷ 63 ∷ 177 ∷ 255 ∷ 255 ∷ []) } ∷
    -- leads ±20,160
    record { number = 0; bytes = (14 ∷ 0 ∷ 0 ∷ 0 ∷ 1 ∷ 0 ∷ 0 ∷ 0 ∷ 0 ∷ 0 ∷ 192 ∷ 78 ∷ 0 ∷ 0 ∷ 64 ∷ 177 ∷ 255 ∷ 255 ∷ []) } ∷
    -- a rule with a blank left list
    record { number = 17; bytes = (22 ∷ 0 ∷ 0 ∷ 0 ∷ 1 ∷ 0 ∷ 0 ∷ 0 ∷ 1 ∷ 0 ∷ 0 ∷ 0 ∷ 0 ∷ 128 ∷ 2 ∷ 0 ∷ 0 ∷ 0 ∷ 5 ∷ 0 ∷ 0 ∷ 0 ∷ 2 ∷ 0 ∷ 0 ∷ 0 ∷ []) } ∷
    -- such a rule, and a lead of the question wrong
    record { number = 6; bytes = (22 ∷ 0 ∷ 0 ∷ 0 ∷ 1 ∷ 0 ∷ 0 ∷ 0 ∷ 1 ∷ 0 ∷ 0 ∷ 0 ∷ 0 ∷ 128 ∷ 2 ∷ 0 ∷ 0 ∷ 0 ∷ 193 ∷ 78 ∷ 0 ∷ 0 ∷ 2 ∷ 0 ∷ 0 ∷ 0 ∷ []) } ∷
    -- blank are the rule's right list and the question's first
    record { number = 0; bytes = (22 ∷ 0 ∷ 0 ∷ 0 ∷ 1 ∷ 0 ∷ 0 ∷ 0 ∷ 1 ∷ 0 ∷ 2 ∷ 0 ∷ 0 ∷ 0 ∷ 0 ∷ 0 ∷ 0 ∷ 128 ∷ 0 ∷ 0 ∷ 0 ∷ 128 ∷ 2 ∷ 0 ∷ 0 ∷ 0 ∷ []) } ∷
    -- kind 5, a suspended rule and one in force
    record { number = 0; bytes = (34 ∷ 0 ∷ 0 ∷ 0 ∷ 5 ∷ 0 ∷ 0 ∷ 0 ∷ 2 ∷ 0 ∷ 0 ∷ 0 ∷ 1 ∷ 0 ∷ 7 ∷ 0 ∷ 0 ∷ 0 ∷ 2 ∷ 0 ∷ 0 ∷ 0 ∷ 1 ∷ 0 ∷ 0 ∷ 0 ∷ 2 ∷ 0 ∷ 0 ∷ 0 ∷ 5 ∷ 0 ∷ 0 ∷ 0 ∷ 2 ∷ 0 ∷ 0 ∷ 0 ∷ []) } ∷
    -- kind 5 with the size of kind 1
    record { number = 5; bytes = (22 ∷ 0 ∷ 0 ∷ 0 ∷ 5 ∷ 0 ∷ 0 ∷ 0 ∷ 1 ∷ 0 ∷ 2 ∷ 0 ∷ 7 ∷ 0 ∷ 0 ∷ 0 ∷ 2 ∷ 0 ∷ 0 ∷ 0 ∷ 5 ∷ 0 ∷ 0 ∷ 0 ∷ 2 ∷ 0 ∷ []) } ∷
    -- state 2, and a lead of the question wrong
    record { number = 20; bytes = (24 ∷ 0 ∷ 0 ∷ 0 ∷ 5 ∷ 0 ∷ 0 ∷ 0 ∷ 1 ∷ 0 ∷ 2 ∷ 0 ∷ 7 ∷ 0 ∷ 0 ∷ 0 ∷ 2 ∷ 0 ∷ 0 ∷ 0 ∷ 193 ∷ 78 ∷ 0 ∷ 0 ∷ 2 ∷ 0 ∷ 0 ∷ 0 ∷ []) } ∷
    -- state 65,535
    record { number = 20; bytes = (24 ∷ 0 ∷ 0 ∷ 0 ∷ 5 ∷ 0 ∷ 0 ∷ 0 ∷ 1 ∷ 0 ∷ 255 ∷ 255 ∷ 7 ∷ 0 ∷ 0 ∷ 0 ∷ 2 ∷ 0 ∷ 0 ∷ 0 ∷ 5 ∷ 0 ∷ 0 ∷ 0 ∷ 2 ∷ 0 ∷ 0 ∷ 0 ∷ []) } ∷
    -- a suspended rule with a wrong lead
    record { number = 6; bytes = (24 ∷ 0 ∷ 0 ∷ 0 ∷ 5 ∷ 0 ∷ 0 ∷ 0 ∷ 1 ∷ 0 ∷ 0 ∷ 0 ∷ 193 ∷ 78 ∷ 0 ∷ 0 ∷ 2 ∷ 0 ∷ 0 ∷ 0 ∷ 5 ∷ 0 ∷ 0 ∷ 0 ∷ 2 ∷ 0 ∷ 0 ∷ 0 ∷ []) } ∷
    -- a suspended rule with a blank left list
    record { number = 17; bytes = (24 ∷ 0 ∷ 0 ∷ 0 ∷ 5 ∷ 0 ∷ 0 ∷ 0 ∷ 1 ∷ 0 ∷ 0 ∷ 0 ∷ 0 ∷ 0 ∷ 0 ∷ 128 ∷ 2 ∷ 0 ∷ 0 ∷ 0 ∷ 5 ∷ 0 ∷ 0 ∷ 0 ∷ 2 ∷ 0 ∷ 0 ∷ 0 ∷ []) } ∷
    -- kind 5 with no rules
    record { number = 0; bytes = (14 ∷ 0 ∷ 0 ∷ 0 ∷ 5 ∷ 0 ∷ 0 ∷ 0 ∷ 0 ∷ 0 ∷ 5 ∷ 0 ∷ 0 ∷ 0 ∷ 2 ∷ 0 ∷ 0 ∷ 0 ∷ []) } ∷
    -- one left lead of two is blank in rule 1, both in rule 2
    record { number = 17; bytes = (54 ∷ 0 ∷ 0 ∷ 0 ∷ 1 ∷ 0 ∷ 1 ∷ 0 ∷ 2 ∷ 0 ∷ 0 ∷ 0 ∷ 0 ∷ 128 ∷ 5 ∷ 0 ∷ 0 ∷ 0 ∷ 0 ∷ 0 ∷ 0 ∷ 128 ∷ 0 ∷ 0 ∷ 0 ∷ 128 ∷ 0 ∷ 0 ∷ 0 ∷ 128 ∷ 0 ∷ 0 ∷ 0 ∷ 128 ∷ 3 ∷ 0 ∷ 0 ∷ 0 ∷ 0 ∷ 0 ∷ 0 ∷ 128 ∷ 0 ∷ 0 ∷ 0 ∷ 0 ∷ 0 ∷ 0 ∷ 0 ∷ 0 ∷ 0 ∷ 0 ∷ 0 ∷ 0 ∷ 0 ∷ 0 ∷ 0 ∷ 0 ∷ []) } ∷
    []

problems_refused : map (λ d. problem_refusal d.bytes) problems ≡ map (λ d. d.number) problems
unfolding problems refusal_for header_refusal header_judged leads_of num_at nums_at all some_below blank_or_within trop_field signed
problems_refused = refl

-- A problem's first bytes, its size, and the refusal of its header.
record Counted : Type 0 where
  number : ℕ
  size : ℕ
  bytes : List ℕ

headers : List Counted
headers =
    -- m 63
    record { number = 0; size = 522; bytes = (6 ∷ 2 ∷ 0 ∷ 0 ∷ 1 ∷ 0 ∷ 0 ∷ 0 ∷ 63 ∷ 0 ∷ []) } ∷
    -- m 64
    record { number = 4; size = 530; bytes = (14 ∷ 2 ∷ 0 ∷ 0 ∷ 1 ∷ 0 ∷ 0 ∷ 0 ∷ 64 ∷ 0 ∷ []) } ∷
    -- n 31 and m 63, 16,394 bytes
    record { number = 0; size = 16394; bytes = (6 ∷ 64 ∷ 0 ∷ 0 ∷ 1 ∷ 0 ∷ 31 ∷ 0 ∷ 63 ∷ 0 ∷ []) } ∷
    -- kind 5 with n 31 and m 63, 16,520 bytes
    record { number = 0; size = 16520; bytes = (132 ∷ 64 ∷ 0 ∷ 0 ∷ 5 ∷ 0 ∷ 31 ∷ 0 ∷ 63 ∷ 0 ∷ []) } ∷
    -- kind 3
    record { number = 3; size = 24; bytes = (20 ∷ 0 ∷ 0 ∷ 0 ∷ 3 ∷ 0 ∷ 0 ∷ 0 ∷ 0 ∷ 0 ∷ []) } ∷
    -- n 32
    record { number = 4; size = 274; bytes = (14 ∷ 1 ∷ 0 ∷ 0 ∷ 1 ∷ 0 ∷ 32 ∷ 0 ∷ 0 ∷ 0 ∷ []) } ∷
    []

headers_refused : map (λ d. header_refusal checker_kinds d.bytes d.size) headers ≡ map (λ d. d.number) headers
unfolding headers header_refusal header_judged num_at
headers_refused = refl

-- An answer's bytes, read with n and m, and its refusal.
record Misread : Type 0 where
  number : ℕ
  n : ℕ
  m : ℕ
  bytes : List ℕ

answers : List Misread
answers =
    -- n 32
    record { number = 4; n = 32; m = 0; bytes = [] } ∷
    -- m 64
    record { number = 4; n = 0; m = 64; bytes = [] } ∷
    -- fifteen bytes
    record { number = 8; n = 0; m = 0; bytes = (18 ∷ 0 ∷ 0 ∷ 0 ∷ 4 ∷ 0 ∷ 0 ∷ 0 ∷ 1 ∷ 0 ∷ 3 ∷ 0 ∷ 0 ∷ 0 ∷ 0 ∷ []) } ∷
    -- length one long
    record { number = 9; n = 0; m = 0; bytes = (19 ∷ 0 ∷ 0 ∷ 0 ∷ 4 ∷ 0 ∷ 0 ∷ 0 ∷ 1 ∷ 0 ∷ 3 ∷ 0 ∷ 0 ∷ 0 ∷ 0 ∷ 0 ∷ 0 ∷ 0 ∷ 0 ∷ 0 ∷ 1 ∷ 0 ∷ []) } ∷
    -- length and kind wrong
    record { number = 9; n = 0; m = 0; bytes = (19 ∷ 0 ∷ 0 ∷ 0 ∷ 1 ∷ 0 ∷ 0 ∷ 0 ∷ 1 ∷ 0 ∷ 3 ∷ 0 ∷ 0 ∷ 0 ∷ 0 ∷ 0 ∷ 0 ∷ 0 ∷ 0 ∷ 0 ∷ 1 ∷ 0 ∷ []) } ∷
    -- kind 1
    record { number = 10; n = 0; m = 0; bytes = (18 ∷ 0 ∷ 0 ∷ 0 ∷ 1 ∷ 0 ∷ 0 ∷ 0 ∷ 1 ∷ 0 ∷ 3 ∷ 0 ∷ 0 ∷ 0 ∷ 0 ∷ 0 ∷ 0 ∷ 0 ∷ 0 ∷ 0 ∷ 1 ∷ 0 ∷ []) } ∷
    -- class 0
    record { number = 10; n = 0; m = 0; bytes = (18 ∷ 0 ∷ 0 ∷ 0 ∷ 4 ∷ 0 ∷ 0 ∷ 0 ∷ 0 ∷ 0 ∷ 3 ∷ 0 ∷ 0 ∷ 0 ∷ 0 ∷ 0 ∷ 0 ∷ 0 ∷ 0 ∷ 0 ∷ 1 ∷ 0 ∷ []) } ∷
    -- class 4 and n 1
    record { number = 10; n = 0; m = 0; bytes = (18 ∷ 0 ∷ 0 ∷ 0 ∷ 4 ∷ 0 ∷ 1 ∷ 0 ∷ 4 ∷ 0 ∷ 3 ∷ 0 ∷ 0 ∷ 0 ∷ 0 ∷ 0 ∷ 0 ∷ 0 ∷ 0 ∷ 0 ∷ 1 ∷ 0 ∷ []) } ∷
    -- kind 2
    record { number = 10; n = 0; m = 0; bytes = (18 ∷ 0 ∷ 0 ∷ 0 ∷ 2 ∷ 0 ∷ 0 ∷ 0 ∷ 1 ∷ 0 ∷ 3 ∷ 0 ∷ 0 ∷ 0 ∷ 0 ∷ 0 ∷ 0 ∷ 0 ∷ 0 ∷ 0 ∷ 1 ∷ 0 ∷ []) } ∷
    -- start 2 for least, and n 1
    record { number = 10; n = 0; m = 0; bytes = (18 ∷ 0 ∷ 0 ∷ 0 ∷ 4 ∷ 0 ∷ 1 ∷ 0 ∷ 1 ∷ 0 ∷ 3 ∷ 0 ∷ 0 ∷ 0 ∷ 2 ∷ 0 ∷ 0 ∷ 0 ∷ 0 ∷ 0 ∷ 1 ∷ 0 ∷ []) } ∷
    -- start 2 for none
    record { number = 10; n = 0; m = 0; bytes = (14 ∷ 0 ∷ 0 ∷ 0 ∷ 4 ∷ 0 ∷ 0 ∷ 0 ∷ 3 ∷ 0 ∷ 0 ∷ 0 ∷ 0 ∷ 128 ∷ 2 ∷ 0 ∷ 1 ∷ 0 ∷ []) } ∷
    -- start 0 for bottomless, and a pick too many
    record { number = 10; n = 0; m = 0; bytes = (16 ∷ 0 ∷ 0 ∷ 0 ∷ 4 ∷ 0 ∷ 0 ∷ 0 ∷ 2 ∷ 0 ∷ 0 ∷ 0 ∷ 0 ∷ 128 ∷ 0 ∷ 0 ∷ 0 ∷ 0 ∷ 0 ∷ 0 ∷ []) } ∷
    -- start n + 2 for bottomless, where the record's own n is 1
    record { number = 10; n = 0; m = 0; bytes = (14 ∷ 0 ∷ 0 ∷ 0 ∷ 4 ∷ 0 ∷ 1 ∷ 0 ∷ 2 ∷ 0 ∷ 0 ∷ 0 ∷ 0 ∷ 128 ∷ 2 ∷ 0 ∷ 0 ∷ 0 ∷ []) } ∷
    -- start n + 1 for bottomless, where the record's own n is 0
    record { number = 11; n = 1; m = 0; bytes = (14 ∷ 0 ∷ 0 ∷ 0 ∷ 4 ∷ 0 ∷ 0 ∷ 0 ∷ 2 ∷ 0 ∷ 0 ∷ 0 ∷ 0 ∷ 128 ∷ 2 ∷ 0 ∷ 0 ∷ 0 ∷ []) } ∷
    -- start 1 for least
    record { number = 0; n = 0; m = 0; bytes = (18 ∷ 0 ∷ 0 ∷ 0 ∷ 4 ∷ 0 ∷ 0 ∷ 0 ∷ 1 ∷ 0 ∷ 3 ∷ 0 ∷ 0 ∷ 0 ∷ 1 ∷ 0 ∷ 0 ∷ 0 ∷ 0 ∷ 0 ∷ 1 ∷ 0 ∷ []) } ∷
    -- start 1 for none
    record { number = 0; n = 0; m = 0; bytes = (14 ∷ 0 ∷ 0 ∷ 0 ∷ 4 ∷ 0 ∷ 0 ∷ 0 ∷ 3 ∷ 0 ∷ 0 ∷ 0 ∷ 0 ∷ 128 ∷ 1 ∷ 0 ∷ 0 ∷ 0 ∷ []) } ∷
    -- start n + 1 for bottomless
    record { number = 0; n = 1; m = 0; bytes = (14 ∷ 0 ∷ 0 ∷ 0 ∷ 4 ∷ 0 ∷ 1 ∷ 0 ∷ 2 ∷ 0 ∷ 0 ∷ 0 ∷ 0 ∷ 128 ∷ 2 ∷ 0 ∷ 0 ∷ 0 ∷ []) } ∷
    -- n 1 for a problem with n 0
    record { number = 11; n = 0; m = 0; bytes = (18 ∷ 0 ∷ 0 ∷ 0 ∷ 4 ∷ 0 ∷ 1 ∷ 0 ∷ 1 ∷ 0 ∷ 3 ∷ 0 ∷ 0 ∷ 0 ∷ 0 ∷ 0 ∷ 0 ∷ 0 ∷ 0 ∷ 0 ∷ 1 ∷ 0 ∷ []) } ∷
    -- a pick too many, a span too large
    record { number = 11; n = 0; m = 0; bytes = (20 ∷ 0 ∷ 0 ∷ 0 ∷ 4 ∷ 0 ∷ 0 ∷ 0 ∷ 1 ∷ 0 ∷ 1 ∷ 176 ∷ 19 ∷ 0 ∷ 0 ∷ 0 ∷ 0 ∷ 0 ∷ 0 ∷ 0 ∷ 1 ∷ 0 ∷ 1 ∷ 0 ∷ []) } ∷
    -- span 1,290,241
    record { number = 12; n = 0; m = 0; bytes = (18 ∷ 0 ∷ 0 ∷ 0 ∷ 4 ∷ 0 ∷ 0 ∷ 0 ∷ 1 ∷ 0 ∷ 1 ∷ 176 ∷ 19 ∷ 0 ∷ 0 ∷ 0 ∷ 0 ∷ 0 ∷ 0 ∷ 0 ∷ 1 ∷ 0 ∷ []) } ∷
    -- span −1,290,241
    record { number = 12; n = 0; m = 0; bytes = (18 ∷ 0 ∷ 0 ∷ 0 ∷ 4 ∷ 0 ∷ 0 ∷ 0 ∷ 1 ∷ 0 ∷ 255 ∷ 79 ∷ 236 ∷ 255 ∷ 0 ∷ 0 ∷ 0 ∷ 0 ∷ 0 ∷ 0 ∷ 1 ∷ 0 ∷ []) } ∷
    -- blank span for least
    record { number = 12; n = 0; m = 0; bytes = (18 ∷ 0 ∷ 0 ∷ 0 ∷ 4 ∷ 0 ∷ 0 ∷ 0 ∷ 1 ∷ 0 ∷ 0 ∷ 0 ∷ 0 ∷ 128 ∷ 0 ∷ 0 ∷ 0 ∷ 0 ∷ 0 ∷ 0 ∷ 1 ∷ 0 ∷ []) } ∷
    -- stamp 0 is 1
    record { number = 12; n = 0; m = 0; bytes = (18 ∷ 0 ∷ 0 ∷ 0 ∷ 4 ∷ 0 ∷ 0 ∷ 0 ∷ 1 ∷ 0 ∷ 3 ∷ 0 ∷ 0 ∷ 0 ∷ 0 ∷ 0 ∷ 1 ∷ 0 ∷ 0 ∷ 0 ∷ 1 ∷ 0 ∷ []) } ∷
    -- stamp 0 blank
    record { number = 12; n = 0; m = 0; bytes = (18 ∷ 0 ∷ 0 ∷ 0 ∷ 4 ∷ 0 ∷ 0 ∷ 0 ∷ 1 ∷ 0 ∷ 3 ∷ 0 ∷ 0 ∷ 0 ∷ 0 ∷ 0 ∷ 0 ∷ 0 ∷ 0 ∷ 128 ∷ 1 ∷ 0 ∷ []) } ∷
    -- stamp 6,000,001, and a pick too high
    record { number = 12; n = 1; m = 0; bytes = (24 ∷ 0 ∷ 0 ∷ 0 ∷ 4 ∷ 0 ∷ 1 ∷ 0 ∷ 1 ∷ 0 ∷ 3 ∷ 0 ∷ 0 ∷ 0 ∷ 0 ∷ 0 ∷ 0 ∷ 0 ∷ 0 ∷ 0 ∷ 129 ∷ 141 ∷ 91 ∷ 0 ∷ 1 ∷ 0 ∷ 9 ∷ 0 ∷ []) } ∷
    -- stamp −6,000,001
    record { number = 12; n = 1; m = 0; bytes = (24 ∷ 0 ∷ 0 ∷ 0 ∷ 4 ∷ 0 ∷ 1 ∷ 0 ∷ 1 ∷ 0 ∷ 3 ∷ 0 ∷ 0 ∷ 0 ∷ 0 ∷ 0 ∷ 0 ∷ 0 ∷ 0 ∷ 0 ∷ 127 ∷ 114 ∷ 164 ∷ 255 ∷ 1 ∷ 0 ∷ 1 ∷ 0 ∷ []) } ∷
    -- whole span for bottomless
    record { number = 12; n = 0; m = 0; bytes = (14 ∷ 0 ∷ 0 ∷ 0 ∷ 4 ∷ 0 ∷ 0 ∷ 0 ∷ 2 ∷ 0 ∷ 0 ∷ 0 ∷ 0 ∷ 0 ∷ 1 ∷ 0 ∷ 0 ∷ 0 ∷ []) } ∷
    -- whole span for none
    record { number = 12; n = 0; m = 0; bytes = (14 ∷ 0 ∷ 0 ∷ 0 ∷ 4 ∷ 0 ∷ 0 ∷ 0 ∷ 3 ∷ 0 ∷ 0 ∷ 0 ∷ 0 ∷ 0 ∷ 0 ∷ 0 ∷ 0 ∷ 0 ∷ []) } ∷
    -- pick m + 2
    record { number = 13; n = 0; m = 0; bytes = (18 ∷ 0 ∷ 0 ∷ 0 ∷ 4 ∷ 0 ∷ 0 ∷ 0 ∷ 1 ∷ 0 ∷ 3 ∷ 0 ∷ 0 ∷ 0 ∷ 0 ∷ 0 ∷ 0 ∷ 0 ∷ 0 ∷ 0 ∷ 2 ∷ 0 ∷ []) } ∷
    -- pick n + 2 for bottomless
    record { number = 13; n = 0; m = 1; bytes = (16 ∷ 0 ∷ 0 ∷ 0 ∷ 4 ∷ 0 ∷ 0 ∷ 0 ∷ 2 ∷ 0 ∷ 0 ∷ 0 ∷ 0 ∷ 128 ∷ 1 ∷ 0 ∷ 0 ∷ 0 ∷ 2 ∷ 0 ∷ []) } ∷
    -- pick m + 2 for none
    record { number = 13; n = 1; m = 0; bytes = (16 ∷ 0 ∷ 0 ∷ 0 ∷ 4 ∷ 0 ∷ 1 ∷ 0 ∷ 3 ∷ 0 ∷ 0 ∷ 0 ∷ 0 ∷ 128 ∷ 0 ∷ 0 ∷ 0 ∷ 0 ∷ 2 ∷ 0 ∷ []) } ∷
    -- span and stamp at their limits
    record { number = 0; n = 1; m = 0; bytes = (24 ∷ 0 ∷ 0 ∷ 0 ∷ 4 ∷ 0 ∷ 1 ∷ 0 ∷ 1 ∷ 0 ∷ 0 ∷ 176 ∷ 19 ∷ 0 ∷ 0 ∷ 0 ∷ 0 ∷ 0 ∷ 0 ∷ 0 ∷ 128 ∷ 114 ∷ 164 ∷ 255 ∷ 1 ∷ 0 ∷ 1 ∷ 0 ∷ []) } ∷
    -- span −1,290,240, a blank stamp
    record { number = 0; n = 1; m = 0; bytes = (24 ∷ 0 ∷ 0 ∷ 0 ∷ 4 ∷ 0 ∷ 1 ∷ 0 ∷ 1 ∷ 0 ∷ 0 ∷ 80 ∷ 236 ∷ 255 ∷ 0 ∷ 0 ∷ 0 ∷ 0 ∷ 0 ∷ 0 ∷ 0 ∷ 0 ∷ 0 ∷ 128 ∷ 0 ∷ 0 ∷ 1 ∷ 0 ∷ []) } ∷
    -- pick n + 1 for bottomless
    record { number = 0; n = 0; m = 1; bytes = (16 ∷ 0 ∷ 0 ∷ 0 ∷ 4 ∷ 0 ∷ 0 ∷ 0 ∷ 2 ∷ 0 ∷ 0 ∷ 0 ∷ 0 ∷ 128 ∷ 1 ∷ 0 ∷ 0 ∷ 0 ∷ 1 ∷ 0 ∷ []) } ∷
    -- pick m + 1 for none
    record { number = 0; n = 0; m = 1; bytes = (14 ∷ 0 ∷ 0 ∷ 0 ∷ 4 ∷ 0 ∷ 0 ∷ 0 ∷ 3 ∷ 0 ∷ 0 ∷ 0 ∷ 0 ∷ 128 ∷ 0 ∷ 0 ∷ 2 ∷ 0 ∷ []) } ∷
    []

answers_refused_lem : map (λ d. answer_refusal d.bytes d.n d.m) answers ≡ map (λ d. d.number) answers
unfolding answers answer_refusal answer_header_refusal answer_header_judged answer_of form_refusal span_fits stamps_fit picks_fit is_zero is_blank num_at nums_at all blank_or_within whole_within trop_field trop_at signed
answers_refused_lem = refl

-- Fields handed to the writer with n, m and the room of the buffer, and their refusal.
record Unfit : Type 0 where
  number : ℕ
  n : ℕ
  m : ℕ
  room : ℕ
  answer : Answer

handed : List Unfit
handed =
    record { number = 4; n = 32; m = 0; room = 207; answer = record { class = 0; span = bot; start = 0; stamps = []; picks = [] } } ∷
    record { number = 4; n = 0; m = 64; room = 208; answer = record { class = 1; span = fin (pos 3); start = 0; stamps = fin (pos 0) ∷ []; picks = 1 ∷ [] } } ∷
    record { number = 7; n = 0; m = 0; room = 207; answer = record { class = 0; span = bot; start = 0; stamps = []; picks = [] } } ∷
    record { number = 10; n = 0; m = 0; room = 208; answer = record { class = 0; span = bot; start = 0; stamps = []; picks = [] } } ∷
    record { number = 10; n = 0; m = 0; room = 208; answer = record { class = 4; span = bot; start = 0; stamps = []; picks = [] } } ∷
    record { number = 10; n = 0; m = 0; room = 208; answer = record { class = 65537; span = fin (pos 3); start = 0; stamps = fin (pos 0) ∷ []; picks = 1 ∷ [] } } ∷
    record { number = 10; n = 0; m = 0; room = 208; answer = record { class = 1; span = fin (pos 3); start = 2; stamps = []; picks = 1 ∷ [] } } ∷
    record { number = 10; n = 0; m = 0; room = 208; answer = record { class = 2; span = bot; start = 0; stamps = []; picks = 0 ∷ [] } } ∷
    record { number = 10; n = 1; m = 0; room = 208; answer = record { class = 2; span = bot; start = 3; stamps = []; picks = 0 ∷ [] } } ∷
    record { number = 10; n = 0; m = 0; room = 208; answer = record { class = 3; span = bot; start = 65537; stamps = []; picks = 0 ∷ [] } } ∷
    record { number = 0; n = 1; m = 0; room = 208; answer = record { class = 2; span = bot; start = 2; stamps = []; picks = 0 ∷ [] } } ∷
    record { number = 11; n = 0; m = 0; room = 208; answer = record { class = 1; span = bot; start = 0; stamps = []; picks = 1 ∷ [] } } ∷
    record { number = 11; n = 0; m = 0; room = 208; answer = record { class = 1; span = fin (pos 3); start = 0; stamps = fin (pos 0) ∷ []; picks = 1 ∷ 1 ∷ [] } } ∷
    record { number = 11; n = 0; m = 0; room = 208; answer = record { class = 2; span = bot; start = 1; stamps = fin (pos 0) ∷ []; picks = 0 ∷ [] } } ∷
    record { number = 11; n = 0; m = 1; room = 208; answer = record { class = 2; span = bot; start = 1; stamps = []; picks = 0 ∷ [] } } ∷
    record { number = 11; n = 1; m = 0; room = 208; answer = record { class = 3; span = fin (pos 0); start = 0; stamps = []; picks = 0 ∷ [] } } ∷
    record { number = 12; n = 0; m = 0; room = 208; answer = record { class = 1; span = fin (pos 1290241); start = 0; stamps = fin (pos 0) ∷ []; picks = 9 ∷ [] } } ∷
    record { number = 12; n = 0; m = 0; room = 208; answer = record { class = 1; span = fin (pos 4294967299); start = 0; stamps = fin (pos 0) ∷ []; picks = 1 ∷ [] } } ∷
    record { number = 12; n = 0; m = 0; room = 208; answer = record { class = 1; span = fin (pos 3); start = 0; stamps = fin (pos 1) ∷ []; picks = 1 ∷ [] } } ∷
    record { number = 12; n = 1; m = 0; room = 208; answer = record { class = 1; span = fin (pos 3); start = 0; stamps = fin (pos 0) ∷ fin (pos 6000001) ∷ []; picks = 1 ∷ 1 ∷ [] } } ∷
    record { number = 12; n = 0; m = 0; room = 208; answer = record { class = 2; span = fin (pos 0); start = 1; stamps = []; picks = 0 ∷ [] } } ∷
    record { number = 13; n = 0; m = 0; room = 208; answer = record { class = 1; span = fin (pos 3); start = 0; stamps = fin (pos 0) ∷ []; picks = 2 ∷ [] } } ∷
    record { number = 13; n = 0; m = 0; room = 208; answer = record { class = 3; span = bot; start = 0; stamps = []; picks = 65537 ∷ [] } } ∷
    record { number = 13; n = 0; m = 1; room = 208; answer = record { class = 2; span = bot; start = 1; stamps = []; picks = 0 ∷ 2 ∷ [] } } ∷
    record { number = 0; n = 0; m = 0; room = 208; answer = record { class = 1; span = fin (pos 3); start = 0; stamps = fin (pos 0) ∷ []; picks = 1 ∷ [] } } ∷
    record { number = 0; n = 0; m = 1; room = 208; answer = record { class = 2; span = bot; start = 1; stamps = []; picks = 0 ∷ 1 ∷ [] } } ∷
    record { number = 0; n = 1; m = 0; room = 209; answer = record { class = 3; span = bot; start = 0; stamps = []; picks = 0 ∷ 1 ∷ [] } } ∷
    []

handed_refused : map (λ d. writer_refusal d.answer d.n d.m d.room) handed ≡ map (λ d. d.number) handed
unfolding handed writer_refusal writer_judged right_counts form_refusal span_fits stamps_fit picks_fit is_zero is_blank all blank_or_within whole_within
handed_refused = refl

-- The engine looks at the problem before the room, the checker at the problem before the answer.
engine_order : engine_refusal [] 0 ≡ 1
unfolding engine_refusal refusal_for header_refusal header_judged num_at
engine_order = refl

check_order : check_refusal [] [] ≡ 1
unfolding check_refusal refusal_for header_refusal header_judged num_at
check_order = refl

-- A's problem with a buffer of 207 bytes, and with one of 208.
engine_room : map (engine_refusal example_a.problem) (207 ∷ 208 ∷ []) ≡ 7 ∷ 0 ∷ []
unfolding engine_refusal refusal_for header_refusal header_judged leads_of num_at nums_at all some_below blank_or_within trop_field signed example_a
engine_room = refl

-- Two questions over no rules, 5 − 2 and 7 − 4, with buffers of 208, 415 and 416 bytes.
two_questions : List ℕ
two_questions =
    24 ∷ 0 ∷ 0 ∷ 0 ∷ 3 ∷ 0 ∷ 0 ∷ 0 ∷ 0 ∷ 0 ∷ 2 ∷ 0 ∷ 5 ∷ 0 ∷ 0 ∷ 0 ∷ 2 ∷ 0 ∷ 0 ∷ 0 ∷ 7 ∷ 0 ∷ 0 ∷ 0 ∷ 4 ∷ 0 ∷ 0 ∷ 0 ∷ []

questions_room : map (engine_refusal two_questions) (208 ∷ 415 ∷ 416 ∷ []) ≡ 7 ∷ 7 ∷ 0 ∷ []
unfolding engine_refusal refusal_for header_refusal header_judged leads_of num_at nums_at all some_below blank_or_within trop_field signed two_questions
questions_room = refl

-- Each of them alone, as a problem of kind 1.
questions_alone : map (alone two_questions) (0 ∷ 1 ∷ [])
    ≡ (14 ∷ 0 ∷ 0 ∷ 0 ∷ 1 ∷ 0 ∷ 0 ∷ 0 ∷ 0 ∷ 0 ∷ 5 ∷ 0 ∷ 0 ∷ 0 ∷ 2 ∷ 0 ∷ 0 ∷ 0 ∷ [])
    ∷ (14 ∷ 0 ∷ 0 ∷ 0 ∷ 1 ∷ 0 ∷ 0 ∷ 0 ∷ 0 ∷ 0 ∷ 7 ∷ 0 ∷ 0 ∷ 0 ∷ 4 ∷ 0 ∷ 0 ∷ 0 ∷ []) ∷ []
unfolding alone header_bytes num_at le two_questions
questions_alone = refl

-- The converter does not take no bytes for the idle day.
no_bytes_converted : convert_refusal [] 0 ≡ 1
unfolding convert_refusal stored_refusal header_refusal header_judged num_at
no_bytes_converted = refl

-- ---- lines

-- A verdict and the line of it.
record Line : Type 0 where
  verdict : Verdict
  text : List ℕ

lines : List Line
lines =
    -- B: `accepted bottomless`
    record { verdict = accepted 2 bot; text = 97 ∷ 99 ∷ 99 ∷ 101 ∷ 112 ∷ 116 ∷ 101 ∷ 100 ∷ 32 ∷ 98 ∷ 111 ∷ 116 ∷ 116 ∷ 111 ∷ 109 ∷ 108 ∷ 101 ∷ 115 ∷ 115 ∷ 10 ∷ [] } ∷
    -- C: `accepted none`
    record { verdict = accepted 3 bot; text = 97 ∷ 99 ∷ 99 ∷ 101 ∷ 112 ∷ 116 ∷ 101 ∷ 100 ∷ 32 ∷ 110 ∷ 111 ∷ 110 ∷ 101 ∷ 10 ∷ [] } ∷
    -- M: `not certified`
    record { verdict = refused 14; text = 110 ∷ 111 ∷ 116 ∷ 32 ∷ 99 ∷ 101 ∷ 114 ∷ 116 ∷ 105 ∷ 102 ∷ 105 ∷ 101 ∷ 100 ∷ 10 ∷ [] } ∷
    -- `refused 8`
    record { verdict = refused 8; text = 114 ∷ 101 ∷ 102 ∷ 117 ∷ 115 ∷ 101 ∷ 100 ∷ 32 ∷ 56 ∷ 10 ∷ [] } ∷
    -- `refused 13`
    record { verdict = refused 13; text = 114 ∷ 101 ∷ 102 ∷ 117 ∷ 115 ∷ 101 ∷ 100 ∷ 32 ∷ 49 ∷ 51 ∷ 10 ∷ [] } ∷
    -- `accepted least -1290240`
    record { verdict = accepted 1 (fin (negsuc 1290239)); text = 97 ∷ 99 ∷ 99 ∷ 101 ∷ 112 ∷ 116 ∷ 101 ∷ 100 ∷ 32 ∷ 108 ∷ 101 ∷ 97 ∷ 115 ∷ 116 ∷ 32 ∷ 45 ∷ 49 ∷ 50 ∷ 57 ∷ 48 ∷ 50 ∷ 52 ∷ 48 ∷ 10 ∷ [] } ∷
    -- `accepted least 0`
    record { verdict = accepted 1 (fin (pos 0)); text = 97 ∷ 99 ∷ 99 ∷ 101 ∷ 112 ∷ 116 ∷ 101 ∷ 100 ∷ 32 ∷ 108 ∷ 101 ∷ 97 ∷ 115 ∷ 116 ∷ 32 ∷ 48 ∷ 10 ∷ [] } ∷
    []

lines_printed : map (λ l. verdict_line l.verdict) lines ≡ map (λ l. l.text) lines
unfolding lines verdict_line class_words refused_line decimal digits whole_decimal span_decimal text_refused text_not_certified text_accepted text_least text_bottomless text_none
lines_printed = refl

-- ---- numbers that document 01 gives and no list above shows

-- How many bytes the programs keep, the two outer trials, and the trials of none and of bottomless.
kept_20000 : kept_bytes ≡ 20000
kept_20000 = refl

outer_trials : (top_trial ≡ pos 1290240) × (lowest_trial ≡ negsuc 1290240)
outer_trials = (refl, refl)

outer_counts : (trials_infeasible ≡ 1) × (trials_unbounded ≡ 2)
outer_counts = (refl, refl)

-- The largest problem, of kind 1 and of kind 5, and the largest answer.
largest_records : (problem_most ≡ 16394) × (states_most ≡ 16520) × (answer_most ≡ 208)
largest_records = (refl, refl, refl)

-- A census (document 02, 2.14): w is 0, or above 20,160; n is 32, or m 64; the total is 65,536, and the next one above it.
census_edges :
    map (λ w. census_refusal 0 0 w) (0 ∷ 20161 ∷ 1 ∷ 127 ∷ 128 ∷ []) ++ (census_refusal 32 0 1 ∷ census_refusal 0 64 1 ∷ [])
    ≡ 27 ∷ 27 ∷ 0 ∷ 0 ∷ 27 ∷ 27 ∷ 27 ∷ []
unfolding census_refusal
census_edges = refl

census_65536 : (census_most ≡ 65536) × (census_total 0 0 127 ≡ 65536)
census_65536 = (refl, refl)

-- A number that is no class has no stamps and no picks, fits no span, and has no words.
no_class : (stamp_count 4 31 ≡ 0) × (pick_count 4 31 63 ≡ 0) × (highest_pick 4 31 63 ≡ 0) × (span_fits 4 bot ≡ false) × (class_words 4 bot ≡ [])
unfolding span_fits class_words
no_class = (refl, refl, refl, refl, refl)
