-- Facts of merging (document 02, 2.13) at its edges: shifts of 64 bits, stamps at their limit, and the order of its refusals.
use Prim.Native.Nat.{ℕ, ◌-◌}
use mathlib.Core.Path.{◌≡◌, refl, sym}
use mathlib.Core.Bool.{Bool, true, false, false≢true}
use mathlib.Core.List.{List, [], ◌∷◌, map}
use native.Mathlib.Omega.{arith}
use lib.ListN.{length}
use lib.IntN.{ℤ, pos, negsuc, neg_ℤ}
use Rattle.definitions.specs.Limits.{stamp_limit, word_half, word_values, merged_most}
use Rattle.definitions.specs.Tropical.{Trop, bot, fin, whole_least, plus, larger, largest, ◌⊑◌}
use Rattle.definitions.specs.Problem.{side}
use Rattle.definitions.specs.Bytes.{num_at, nums_at, signed, trop_field, trop_at, all, some_below, blank_or_within, Outcome, refusal}
use Rattle.definitions.specs.ProblemRecord.{refusal_for, header_refusal, header_judged, leads_of, problem_of}
use Rattle.definitions.specs.AnswerRecord.{stamps_fit, is_zero}
use Rattle.definitions.specs.Verdict.{point_of}
use Rattle.definitions.specs.Examples.{example_e}
use Rattle.definitions.specs.Merging.{plan_fits, shift_of, above_zero, early, some_early, merge_refusal, BothKeep, Merges, turned_away, rule_broken, too_early, stamps}

-- 0, −1, the lowest and the highest number of 64 bits.
pub no_shift : shift_of 0 ≡ pos 0
unfolding shift_of
no_shift = refl

pub one_back : shift_of (word_values - 1) ≡ negsuc 0
unfolding shift_of
one_back = refl

pub lowest_shift : shift_of word_half ≡ negsuc (word_half - 1)
unfolding shift_of
lowest_shift = refl

pub highest_shift : shift_of (word_half - 1) ≡ pos (word_half - 1)
unfolding shift_of
highest_shift = refl

-- 0 is a shift, 1 is none.
pub zero_taken : above_zero (pos 0) ≡ false
unfolding above_zero
zero_taken = refl

pub one_refused : above_zero (pos 1) ≡ true
unfolding above_zero
one_refused = refl

-- A stamp at the limit is early enough, one minute less is too early; blank is no early minute.
pub least_stamp : early (fin (neg_ℤ (pos stamp_limit))) ≡ false
unfolding early
least_stamp = refl

pub minute_too_early : early (fin (negsuc stamp_limit)) ≡ true
unfolding early
minute_too_early = refl

pub blank_never_early : early bot ≡ false
unfolding early
blank_never_early = refl

-- ---- the order of the refusals: the problem's, 7, 12, 24, 25, 26

-- The stamps of 32 moments.
pub room_128 : merged_most ≡ 128
room_128 = refl

-- Plans of two moments: one that keeps E's rule, moment 1 at 30, and one that breaks it, without moment 1.
kept : List ℕ
kept = 0 ∷ 0 ∷ 0 ∷ 0 ∷ 30 ∷ 0 ∷ 0 ∷ 0 ∷ []

broken : List ℕ
broken = 0 ∷ 0 ∷ 0 ∷ 0 ∷ 0 ∷ 0 ∷ 0 ∷ 128 ∷ []

-- A problem, two plans, a shift and the room of the buffer, and the refusal.
record Unmerged : Type 0 where
  number : ℕ
  problem : List ℕ
  one : List ℕ
  other : List ℕ
  shift : ℤ
  room : ℕ

unmerged : List Unmerged
unmerged =
    -- all is wrong
    record { number = 1; problem = []; one = []; other = []; shift = pos 1; room = 127 } ∷
    -- all but the problem
    record { number = 7; problem = example_e.problem; one = []; other = []; shift = pos 1; room = 127 } ∷
    -- all but the problem and the room: the first plan is no plan, or the second
    record { number = 12; problem = example_e.problem; one = []; other = kept; shift = pos 1; room = 128 } ∷
    record { number = 12; problem = example_e.problem; one = broken; other = 0 ∷ kept; shift = pos 1; room = 128 } ∷
    -- the shift is above 0, and the first plan breaks the rule
    record { number = 24; problem = example_e.problem; one = broken; other = kept; shift = pos 1; room = 128 } ∷
    -- the same with no shift: 25 and 26 are left
    record { number = 0; problem = example_e.problem; one = broken; other = kept; shift = pos 0; room = 128 } ∷
    []

merging_order : map (λ d. merge_refusal d.problem d.one d.other d.shift d.room) unmerged ≡ map (λ d. d.number) unmerged
unfolding unmerged kept broken example_e merge_refusal plan_fits above_zero stamps_fit is_zero refusal_for header_refusal header_judged leads_of num_at nums_at all some_below blank_or_within trop_field signed
merging_order = refl

-- The second plan 7,000,000 minutes earlier: its moment 1 is then too early.
abbrev long_back : ℤ
long_back = neg_ℤ (pos 7000000)

-- Whatever else is wrong, these refuse nothing before 25.
passed : (before : List ℕ) → length before ≡ 128 → merge_refusal example_e.problem broken kept long_back (length before) ≡ 0
unfolding kept broken example_e merge_refusal plan_fits above_zero stamps_fit is_zero refusal_for header_refusal header_judged leads_of num_at nums_at all some_below blank_or_within trop_field signed
passed before l = rw l refl

above_blank : {x : Trop} {z : ℤ} → fin z ⊑ x → x ≡ bot → ⊥
above_blank (whole_least h) e = let n : ◌≡◌ {A = Bool} true false = cc in false≢true (sym n)

rule_breaks : BothKeep example_e.problem broken kept → ⊥
unfolding kept broken example_e problem_of side largest larger plus trop_at trop_field num_at nums_at signed point_of
rule_breaks b = above_blank (b.0 0 (omega arith)) refl

-- A plan breaks a rule and a merged stamp is too early: 25.
rule_before_early :
    {before after : List ℕ} {r : Outcome ℕ} → length before ≡ 128 → Merges example_e.problem broken kept long_back before r after
    → (r ≡ refusal 25) × (some_early 1 broken kept long_back ≡ true)
unfolding kept broken some_below early nums_at num_at trop_field signed point_of larger plus
rule_before_early {before} l (turned_away e) = absurd (omega (arith, e, passed before l))
rule_before_early l (rule_broken e b) = (refl, refl)
rule_before_early l (too_early e b h) = absurd (rule_breaks b)
rule_before_early l (stamps e b h) = absurd (rule_breaks b)

-- Without the rule it gets 26: n = 1, no rules, the question of E.
ruleless : List ℕ
ruleless = 22 ∷ 0 ∷ 0 ∷ 0 ∷ 1 ∷ 0 ∷ 1 ∷ 0 ∷ 0 ∷ 0 ∷ 0 ∷ 0 ∷ 0 ∷ 128 ∷ 0 ∷ 0 ∷ 0 ∷ 0 ∷ 0 ∷ 0 ∷ 0 ∷ 0 ∷ 0 ∷ 0 ∷ 0 ∷ 128 ∷ []

ruleless_passed : (before : List ℕ) → length before ≡ 128 → merge_refusal ruleless broken kept long_back (length before) ≡ 0
unfolding kept broken ruleless merge_refusal plan_fits above_zero stamps_fit is_zero refusal_for header_refusal header_judged leads_of num_at nums_at all some_below blank_or_within trop_field signed
ruleless_passed before l = rw l refl

stamp_refused : {before after : List ℕ} {r : Outcome ℕ} → length before ≡ 128 → Merges ruleless broken kept long_back before r after → r ≡ refusal 26
unfolding kept broken ruleless problem_of some_below early nums_at num_at trop_field signed point_of larger plus
stamp_refused {before} l (turned_away e) = absurd (omega (arith, e, ruleless_passed before l))
stamp_refused l (rule_broken e b) = absurd (b (λ i h. absurd (omega arith), λ i h. absurd (omega arith)))
stamp_refused l (too_early e b h) = refl
stamp_refused l (stamps e b h) = absurd (false≢true (sym h))
