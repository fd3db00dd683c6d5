-- What the reader gives has the form of its class and means the answer in the bytes.
use Prim.Native.Nat.{ℕ, suc, ◌+◌, ◌≤◌, ◌<◌}
use mathlib.Core.Path.{◌≡◌, sym, ◌∙◌}
use mathlib.Core.Bool.{true, and-eq-true_iff}
use mathlib.Core.List.{List, [], ◌∷◌}
use mathlib.Core.Logic.{⊎_elim}
use native.Mathlib.Omega.{arith}
use lib.Dec.{leb}
use lib.ListN.{length, get_or, length-map, get_or-eq_default}
use borrow.Author.Tests.{leb-true, eqb-true}
use Rattle.base.proofs.Numbers.{nat_le_or_lt}
use Rattle.definitions.specs.Limits.{signed_half, stamp_limit, span_limit}
use Rattle.definitions.specs.Tropical.{Trop, bot}
use Rattle.definitions.specs.Bytes.{Bytes, all, blank_or_within, whole_within}
use Rattle.definitions.specs.Offset.{trop_of}
use Rattle.definitions.specs.AnswerRecord.{is_zero, stamps_fit, picks_fit, span_fits, stamp_count, highest_pick, class_field, span_field, start_field, answer_of, answer_refusal, answer_outcome}
use Rattle.definitions.specs.Verdict.{point_of, strategy_of}
use Rattle.definitions.proofs.Bytes.{all_true, length_nums_at}
use Rattle.definitions.proofs.Offset.{zero_offset, whole_offset}
use Rattle.definitions.proofs.AnswerFits.{AnswerFits, answer_fits}
use Rattle.definitions.proofs.RoundTrip.{stamps_within}
use Rattle.answer_reader.specs.declared.answer.Head.{Head}
use Rattle.std.specs.Prelude.{Result, Ok}
use Rattle.records.specs.declared.refusal.Refusal.{Refusal}
use Rattle.records.proofs.Refusing.{was_ok}
use Rattle.records.specs.Decoded.{Near}
use Rattle.answer_reader.specs.AnswerReading.{told_by, head_of, HeadAt, AnswerRead}
use Rattle.records.proofs.Near.{near_within}
use Rattle.answer_reader.proofs.Heads.{told_head}
use Rattle.answer_reader.proofs.Meaning.{stamps_point_lem, picks_strategy}
use Rattle.checker.specs.Outcome.{Span, Meant, Formed}

-- ---- what the reader answers

pub record HeadRead (s : List ℕ) (n m : ℕ) (head : Head) : Type 0 where
  pub none : answer_refusal s n m ≡ 0
  pub is : HeadAt s head

pub head_read : (s : List ℕ) (n m : ℕ) {read : Result Head Refusal} {head : Head} → head_of read ≡ answer_outcome s n m → read ≡ Ok head → HeadRead s n m head
unfolding answer_outcome
head_read s n m e f =
    let r = was_ok told_by (answer_refusal s n m) (class_field s, span_field s, start_field s) e f in
    record { none = r.0; is = told_head r.1 }

-- ---- stamps and picks

-- An empty place is blank.
pub within_at : (limit : ℕ) (xs : List Trop) → all (blank_or_within limit) xs ≡ true → (j : ℕ) → blank_or_within limit (get_or xs j bot) ≡ true
unfolding blank_or_within
within_at limit xs e j = ⊎_elim
    (λ (h : length xs ≤ j). rw (get_or-eq_default xs bot h))
    (λ (h : j < length xs). (all_true (blank_or_within limit) bot xs).0 e j h)
    (nat_le_or_lt (length xs) j)

pub picks_at : (highest : ℕ) (xs : List ℕ) → picks_fit highest xs ≡ true → (j : ℕ) → get_or xs j 0 ≤ highest
unfolding picks_fit
picks_at highest xs e j = ⊎_elim
    (λ (h : length xs ≤ j). rw (get_or-eq_default xs 0 h) (omega arith))
    (λ (h : j < length xs). leb-true (get_or xs j 0) highest ((all_true (λ pick. leb pick highest) 0 xs).0 e j h))
    (nat_le_or_lt (length xs) j)

first_zero : (xs : List Trop) → 0 < length xs → stamps_fit xs ≡ true → is_zero (get_or xs 0 bot) ≡ true
unfolding stamps_fit
first_zero [] h e = absurd (omega arith)
first_zero (x ∷ xs) h e = ((and-eq-true_iff _ _).0 e).0

span_near : (k : ℕ) → whole_within span_limit (trop_of k) ≡ true → Span k
span_near k e =
    let both = (and-eq-true_iff (leb signed_half (k + span_limit)) (leb k (signed_half + span_limit))).0 (rw (whole_offset span_limit k (omega arith)) at e) in
    let lo : signed_half ≤ k + span_limit = leb-true _ _ both.0 in
    let hi : k ≤ signed_half + span_limit = leb-true _ _ both.1 in
    record { some = omega arith; near = record { hi = hi; lo = λ _. lo } }

module _ {s : List ℕ} {n m : ℕ} {read_as : Result Head Refusal} {stamps-before stamps picks-before picks : List ℕ} (bytes : Bytes s)
    (read : AnswerRead s n m read_as stamps-before stamps picks-before picks) {head : Head} (right : HeadRead s n m head) where
  fits : AnswerFits s n m
  fits = (answer_fits s n m).0 right.none

  pub read_means : Meant (answer_of s n m) head stamps picks
  unfolding answer_of
  read_means = record {
    class_is = sym right.is.class_is;
    span_is = sym right.is.span_is;
    start_is = sym right.is.start_is;
    point_is = stamps_point_lem read right.none bytes;
    strategy_is = picks_strategy read right.none;
  }

  stamp_near : (j : ℕ) → Near stamp_limit (get_or stamps j 0)
  unfolding point_of
  stamp_near j = near_within stamp_limit (get_or stamps j 0) (omega arith)
      (rw (stamps_point_lem read right.none bytes j) (within_at stamp_limit (answer_of s n m).stamps (stamps_within (answer_of s n m).stamps fits.form.stamps_fit_lem) j))

  first_stamp : head.class ≡ 1 → get_or stamps 0 0 ≡ signed_half
  unfolding point_of answer_of
  first_stamp e =
      let c : class_field s ≡ 1 = sym right.is.class_is ∙ e in
      let count : stamp_count (class_field s) n ≡ suc n = rw c in
      let some : 0 < length (answer_of s n m).stamps = rw (length-map, length_nums_at, count) (omega arith) in
      let z : is_zero (trop_of (get_or stamps 0 0)) ≡ true = rw (stamps_point_lem read right.none bytes 0) (first_zero (answer_of s n m).stamps some fits.form.stamps_fit_lem) in
      eqb-true (get_or stamps 0 0) signed_half (sym (zero_offset (get_or stamps 0 0)) ∙ z)

  whole_span : head.class ≡ 1 → Span head.span
  unfolding answer_of span_fits
  whole_span e =
      let c : class_field s ≡ 1 = sym right.is.class_is ∙ e in
      span_near head.span (rw right.is.span_is (rw c at fits.form.span_fits_is))

  pub read_formed : Formed n m head stamps picks
  unfolding strategy_of answer_of
  read_formed = record {
    class_known = rw right.is.class_is fits.class_known;
    start_fits_is = rw (right.is.class_is, right.is.start_is) fits.start_fits_is;
    stamped = record { length_is = (read.stamps_read right.none).width_is; near = stamp_near };
    picked = record {
      length_is = (read.picks_read right.none).width_is;
      none_above = λ j. rw (picks_strategy read right.none j, right.is.class_is) (picks_at (highest_pick (class_field s) n m) (answer_of s n m).picks fits.form.picks_fit_lem j);
    };
    anchored = first_stamp;
    whole_span = whole_span;
  }
