-- The answer whose body the reader judges, and what the reader answers.
use Rattle.std.proofs.Common.{◌≡◌, ℕ, zero, suc, ◌+◌, ◌≤◌, ◌<◌, ◌&&◌, List, [], ◌∷◌, map, length, take, eqb, Result, Ok, Err, refl, ap₂, sym, ◌∙◌, arith}
use borrow.Author.Tests.{eqb-true}
use Rattle.definitions.specs.Limits.{highest_n, highest_m, length_bytes, signed_bytes, signed_full, span_place, answer_kind, answer_header}
use Rattle.definitions.specs.Bytes.{Bytes, num_at, trop_field, trop_at, or_else}
use Rattle.definitions.specs.Offset.{trop_of, off}
use Rattle.definitions.specs.ProblemRecord.{length_field, kind_field, n_field}
use Rattle.definitions.specs.AnswerRecord.{known_class, start_fits, answer_size, form_refusal, stamp_count, pick_count, class_field, answer_of, span_field, start_field, answer_header_refusal, answer_header_judged, answer_header_outcome, answer_refusal, answer_outcome}
use Rattle.definitions.proofs.Bytes.{num_at_bound, Below, nums_at_below}
use Rattle.definitions.proofs.Offset.{trop_off}
use Rattle.definitions.proofs.Refusals.{limits_clause, enough_clause, equal_clause, both_clause}
use Rattle.records.specs.declared.refusal.Refusal.{Refusal}
use Rattle.records.specs.Refusals.{number_of}
use Rattle.records.proofs.Refusing.{number_range, outcome_ok, outcome_err, was_ok, was_err}
use Rattle.answer_reader.specs.Fields.{fields_of, Padded, body_of, stamps_at, picks_at, stamps_of, picks_of}
use Rattle.answer_reader.specs.AnswerReading.{told_by, span_number, head_of, HeadAt, AnswerRead}
use Rattle.answer_reader.specs.declared.answer.Head.{Head}
use Rattle.answer_reader.proofs.Heads.{head_told, told_head}
use Rattle.answer_reader.proofs.ByClass.{stamps_most, picks_most}
use Rattle.answer_reader.proofs.Passing.{stamps_at_length, picks_at_length}
use Rattle.answer_reader.proofs.Padding.{padded_take}

-- ---- the answer in bytes

-- Offset numbers of fields stand for what the fields stand for.
pub trops_off : (xs : List ℕ) → Below signed_full xs → map trop_of (map off xs) ≡ map trop_field xs
trops_off [] b = refl
trops_off (x ∷ xs) b = ap₂ ◌∷◌ (trop_off x (b.below 0 (omega arith))) (trops_off xs (record { below = λ i h. b.below (suc i) (omega arith) }))

module _ {s : List ℕ} (bytes : Bytes s) (n m : ℕ) where
  -- The stamps that the reader gives stand for the answer's.
  pub stamps_meant : map trop_of (stamps_of s n) ≡ (answer_of s n m).stamps
  unfolding stamps_of stamps_at answer_of
  stamps_meant = trops_off _ (nums_at_below signed_bytes (stamp_count (class_field s) n) answer_header bytes)

  -- The span that the reader gives stands for the answer's.
  pub span_meant : trop_of (span_number s) ≡ (answer_of s n m).span
  unfolding answer_of trop_at
  span_meant = trop_off (num_at signed_bytes s span_place) (num_at_bound signed_bytes span_place bytes)

  -- The body that the reader judges is the answer that the bytes mean.
  pub body_meant : {head : Head} → HeadAt s head → body_of s head n m ≡ answer_of s n m
  unfolding answer_of stamps_of picks_at
  body_meant a =
      rw a.class_is (λ i. record { class = class_field s; span = a.span_is i; start = a.start_is i; stamps = stamps_meant i; picks = (answer_of s n m).picks })

-- The picks that the reader gives are the answer's.
pub picks_meant : (s : List ℕ) (n m : ℕ) → picks_of s n m ≡ (answer_of s n m).picks
unfolding picks_of picks_at answer_of
picks_meant s n m = refl

-- ---- the reader's outcomes

-- The header is right, and gave this class, span and start.
pub record HeadRight (s : List ℕ) (n m : ℕ) (head : Head) : Type 0 where
  pub header : answer_header_refusal s (length s) n m ≡ 0
  pub is : HeadAt s head
  pub n_most : n ≤ highest_n
  pub m_most : m ≤ highest_m
  pub size_is : length s ≡ answer_size head.class n m

pub head_right : (s : List ℕ) (n m : ℕ) {read : Result Head Refusal} {head : Head} → head_of read ≡ answer_header_outcome s (length s) n m → read ≡ Ok head
    → HeadRight s n m head
unfolding answer_header_outcome answer_header_refusal answer_header_judged
head_right s n m e f =
    let h = was_ok told_by (answer_header_refusal s (length s) n m) (class_field s, span_field s, start_field s) e f in
    let a = (limits_clause n m _ _).0 h.0 in
    let b = (enough_clause (length s) answer_header _ _).0 a.1 in
    let c = (equal_clause (length_field s + length_bytes) (length s) _ _).0 b.1 in
    let d = (both_clause (eqb (kind_field s) answer_kind) (known_class (class_field s) && start_fits (class_field s) (start_field s) n) _ _).0 c.1 in
    let g = (both_clause (eqb (n_field s) n) (eqb (length s) (answer_size (class_field s) n m)) _ _).0 d.1 in
    let at = told_head h.1 in
    record {
      header = h.0;
      is = at;
      n_most = a.0.0;
      m_most = a.0.1;
      size_is = rw at.class_is (eqb-true (length s) (answer_size (class_field s) n m) g.0.1);
    }

-- The first of two refusals counts, where there is one.
pub first_counts : (a b : ℕ) → 0 < a → a ≡ or_else a b
first_counts zero b h = absurd (omega arith)
first_counts (suc a) b h = refl

-- What is refused.
refused : (s : List ℕ) (n m : ℕ) (r : Refusal) {stamps picks : List ℕ} → number_of r ≡ answer_refusal s n m → AnswerRead s n m (Err r) stamps stamps picks picks
unfolding answer_outcome
refused s n m r same =
    let some = number_range r in
    record {
      answered = outcome_err told_by r (class_field s, span_field s, start_field s) same;
      kept = λ h. (refl, refl);
      stamps_read = λ h. absurd (omega arith);
      picks_read = λ h. absurd (omega arith);
    }

-- The header is refused.
pub read_turned_away : (s : List ℕ) (n m : ℕ) {read : Result Head Refusal} {r : Refusal} {stamps picks : List ℕ} → head_of read ≡ answer_header_outcome s (length s) n m → read ≡ Err r
    → AnswerRead s n m (Err r) stamps stamps picks picks
unfolding answer_header_outcome answer_refusal
read_turned_away s n m {r = r} e f =
    let p = was_err told_by (answer_header_refusal s (length s) n m) (class_field s, span_field s, start_field s) e f in
    refused s n m r (sym p.0 ∙ first_counts (answer_header_refusal s (length s) n m) _ p.1)

module _ {s : List ℕ} (bytes : Bytes s) {n m : ℕ} {head : Head} (right : HeadRight s n m head) {i j : ℕ} {stamps picks : List ℕ} (a : i ≡ stamp_count head.class n)
    (b : j ≡ pick_count head.class n m) (p : Padded 32 (stamps_at s i) stamps) (q : Padded 64 (picks_at s i j) picks) where
  -- Once the header is right, the body's refusal is the answer's.
  body_judged : form_refusal (fields_of head (take i stamps) (take j picks)) n m ≡ answer_refusal s n m
  unfolding answer_refusal
  body_judged =
      let x : take i stamps ≡ stamps_at s i = rw stamps_at_length at (padded_take p (rw stamps_at_length (omega (arith, stamps_most head.class n right.n_most)))) in
      let y : take j picks ≡ picks_at s i j = rw picks_at_length at (padded_take q (rw picks_at_length (omega (arith, picks_most head.class n m right.n_most right.m_most)))) in
      rw (x, y, a, b, right.header, body_meant bytes n m right.is) refl

  -- The body is refused.
  pub read_refused : {r : Refusal} {stamps-before picks-before : List ℕ} → number_of r ≡ form_refusal (fields_of head (take i stamps) (take j picks)) n m
      → AnswerRead s n m (Err r) stamps-before stamps-before picks-before picks-before
  read_refused {r} e = refused s n m r (e ∙ body_judged)

  -- The answer is read.
  pub read_done : {stamps-before picks-before : List ℕ} → 0 ≡ form_refusal (fields_of head (take i stamps) (take j picks)) n m
      → AnswerRead s n m (Ok head) stamps-before stamps picks-before picks
  unfolding answer_outcome stamps_of picks_of
  read_done e =
      let same : answer_refusal s n m ≡ 0 = sym (e ∙ body_judged) in
      record {
        answered = outcome_ok told_by head (class_field s, span_field s, start_field s) same (head_told right.is);
        kept = λ r. absurd (r same);
        stamps_read = λ r. rw (a, right.is.class_is) at p;
        picks_read = λ r. rw (a, b, right.is.class_is) at q;
      }
