-- Numbers copied to the first of the lent places, and what reading then gives.
use Prim.Native.Nat.{ℕ, zero, suc, ◌+◌, ◌≤◌, ◌<◌}
use mathlib.Core.Path.{◌≡◌, refl, sym, subst, ◌∙◌}
use mathlib.Core.List.{List, ◌++◌}
use native.Mathlib.Omega.{arith}
use native.Mathlib.Nat.{zero-add}
use lib.ListN.{length, get_or, take, drop, set}
use Rattle.std.specs.Prelude.{Result, Ok, Err}
use Rattle.definitions.specs.Limits.{signed_bytes, span_place}
use Rattle.definitions.specs.Bytes.{Bytes, put, num_at}
use Rattle.definitions.specs.AnswerRecord.{answer_refusal, answer_outcome, answer_of, class_field, span_field, start_field}
use Rattle.definitions.proofs.Offset.{off_bound, trop_of_injective}
use Rattle.definitions.proofs.AnswerFits.{answer_fits}
use Rattle.definitions.proofs.RoundTrip.{class_most, start_most}
use Rattle.definitions.proofs.Put.{put_more, put_front}
use Rattle.records.specs.declared.refusal.Refusal.{Refusal}
use Rattle.records.specs.Refusals.{number_of}
use Rattle.records.proofs.Refusing.{number_range, was_ok, was_err}
use Rattle.answer_reader.specs.declared.answer.Head.{Head}
use Rattle.answer_reader.specs.AnswerReading.{AnswerRead, told_by, span_number, head_in}
use Rattle.answer_reader.proofs.Heads.{told_head}
use Rattle.answer_reader.proofs.Judging.{span_meant}
use Rattle.capi.specs.Numbers.{ReadsAs, PlacesAs, stamp_places, pick_places, head_number, low_byte, low_quarter, low_half}

-- Numbers copied to the front of the places.
pub front_put : {from now : List ℕ} {count : ℕ} (to : List ℕ) → now ≡ from → length from ≡ count → now ++ drop count to ≡ put to 0 from
front_put {from} to e f = rw (e, ← f) (sym (put_front to from))

-- One number more copied.
pub copied_more : (before from : List ℕ) (i : ℕ) → i < length from → length from ≤ length before → {now : List ℕ} → now ≡ put before 0 (take i from)
    → set now i (get_or from i 0) ≡ put before 0 (take (i + 1) from)
copied_more before from i h room e =
    rw e (subst (λ (k : ℕ). set (put before 0 (take i from)) k (get_or from i 0) ≡ put before 0 (take (i + 1) from)) (zero-add i) (put_more before 0 from i h (omega arith)))

pub both_lent : (number : ℕ) (stamps picks stamps-before picks-before : List ℕ) {stamps-after picks-after : List ℕ} → stamp_places ≤ length stamps-before
    → pick_places ≤ length picks-before → stamps-after ≡ put stamps-before 0 stamps
    → picks-after ≡ put picks-before 0 picks → PlacesAs number stamps picks stamps-before picks-before number stamps-after picks-after
both_lent number stamps picks stamps-before picks-before h g e f = rw (e, f) (PlacesAs.lent h g)

-- ---- the reader's result

-- What the reader gave of an answer that it took.
pub record Taken (s : List ℕ) (n m : ℕ) (head : Head) : Type 0 where
  pub none : answer_refusal s n m ≡ 0
  pub class_is : class_field s ≡ head.class
  pub span_is : span_number s ≡ head.span
  pub start_is : start_field s ≡ head.start

pub taken : {s : List ℕ} {n m : ℕ} {read : Result Head Refusal} {head : Head} {stamps-before stamps picks-before picks : List ℕ}
    → Bytes s → AnswerRead s n m read stamps-before stamps picks-before picks → read ≡ Ok head → Taken s n m head
unfolding answer_outcome answer_of
taken {s} {n} {m} {head = head} b r e =
    let h = was_ok told_by (answer_refusal s n m) (class_field s, span_field s, start_field s) r.answered e in
    let a = told_head h.1 in
    record {
      none = h.0;
      class_is = sym a.class_is;
      span_is = trop_of_injective (span_number s) head.span (span_meant b n m ∙ sym a.span_is);
      start_is = sym a.start_is;
    }

-- Its class, start and span are small.
pub taken_small : {s : List ℕ} {n m : ℕ} {head : Head} → Taken s n m head → (head.class < low_byte) × (head.start < low_quarter) × (head.span < low_half)
taken_small {s} {n} {m} t =
    let f = (answer_fits s n m).0 t.none in (
      omega (arith, class_most (class_field s) f.class_known, t.class_is),
      omega (arith, start_most (class_field s) (start_field s) n f.start_fits_is, f.n_most, t.start_is),
      omega (arith, off_bound (num_at signed_bytes s span_place), t.span_is),
    )

-- Its number is that of the fields in the bytes.
taken_number : {s : List ℕ} {n m : ℕ} {head : Head} → Taken s n m head → head_number (head_in s) ≡ head_number head
taken_number t = rw (t.class_is, t.span_is, t.start_is) refl

pub reads_fields : {s : List ℕ} {n m : ℕ} {read : Result Head Refusal} {head : Head} {stamps-own stamps picks-own picks : List ℕ}
    → Bytes s → AnswerRead s n m read stamps-own stamps picks-own picks → read ≡ Ok head
    → {stamps-before picks-before stamps-after picks-after : List ℕ} {number : ℕ}
    → PlacesAs (head_number head) stamps picks stamps-before picks-before number stamps-after picks-after
    → ReadsAs s n m stamps-before picks-before number stamps-after picks-after
reads_fields b r e (PlacesAs.too_few h) = ReadsAs.too_few (taken b r e).none h
reads_fields {s} {n} {m} {stamps = stamps} {picks = picks} b r e {stamps-before} {picks-before} (PlacesAs.lent f g) =
    let t = taken b r e in
    subst (λ (k : ℕ). ReadsAs s n m stamps-before picks-before k (put stamps-before 0 stamps) (put picks-before 0 picks)) (taken_number t)
    (ReadsAs.read t.none f g (r.stamps_read t.none) (r.picks_read t.none))

pub reads_refused : {s : List ℕ} {n m : ℕ} {read : Result Head Refusal} {k : Refusal} {stamps-own stamps picks-own picks : List ℕ}
    → AnswerRead s n m read stamps-own stamps picks-own picks → read ≡ Err k → (stamps-before picks-before : List ℕ)
    → ReadsAs s n m stamps-before picks-before (number_of k) stamps-before picks-before
unfolding answer_outcome
reads_refused {s} {n} {m} {k = k} r e stamps-before picks-before =
    let h = was_err told_by (answer_refusal s n m) (class_field s, span_field s, start_field s) r.answered e in
    go (number_of k) h.0 (number_range k).0
  where
    go : (j : ℕ) → answer_refusal s n m ≡ j → 0 < j → ReadsAs s n m stamps-before picks-before j stamps-before picks-before
    go zero h some = absurd (omega arith)
    go (suc j) h some = ReadsAs.turned_away h
