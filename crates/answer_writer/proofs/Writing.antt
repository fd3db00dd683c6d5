-- Laws of writing: the low bytes of a number, runs of fields put one after the other, the refusals in the code's order.
use Rattle.std.proofs.Common.{◌≡◌, ℕ, zero, suc, ◌+◌, ◌*◌, ◌-◌, ◌/◌, ◌%◌, ◌^◌, ◌≤◌, ◌<◌, true, List, [], ◌∷◌, ◌++◌, map, length, get_or, take, Ok, Err, refl, sym, ap, ap₂, ◌∙◌, ⊎_elim, append_assoc, add-one, length-append, length-take-le, arith}
use Rattle.std.proofs.lemmas.List.{length-map}
use Rattle.std.specs.Int.{w64, to_le_bytes, bytes_low_first, byte_at}
use native.Mathlib.Nat.{div-one, div-div-eq-div-mul, suc-add, pow-suc}
use mathlib.Core.Bool.{and-eq-true_iff}
use mathlib.Core.List.{append-nil}
use borrow.Rule.Slice.PartMut.{put_mid}
use lib.Seq.{take-suc, take_all}
use Rattle.std.proofs.lemmas.Slice.{put_mid-paste}
use Rattle.definitions.specs.Limits.{highest_n, highest_m, signed_half, signed_full, span_limit, stamp_limit, short_bytes, signed_bytes, answer_header, length_bytes, kind_place, n_place, class_place, span_place, start_place, answer_kind}
use Rattle.definitions.specs.Offset.{trop_of, off}
use Rattle.definitions.specs.Bytes.{le, fields, put, field_of, trop_field, all, blank_or_within, or_else}
use Rattle.definitions.specs.AnswerRecord.{stamp_count, pick_count, answer_size, form_refusal, right_counts, writer_refusal, writer_judged, writer_outcome, answer_bytes, written}
use Rattle.definitions.proofs.Bytes.{length_le, length_fields, fields_append}
use Rattle.definitions.proofs.Offset.{trop_off, off_off, off_bound, field_of_trop_field, within_iff}
use Rattle.definitions.proofs.Refusals.{limits_clause}
use Rattle.definitions.proofs.AnswerFits.{writer_fits}
use Rattle.definitions.proofs.RoundTrip.{span_within, stamps_within, size_most}
use Rattle.definitions.proofs.Put.{put_nil, put_put, length_put}
use Rattle.records.specs.declared.refusal.Refusal.{Refusal}
use Rattle.records.specs.Refusals.{number_of}
use Rattle.records.proofs.Refusing.{number_range, outcome_ok, outcome_err}
use Rattle.answer_reader.proofs.Judging.{first_counts}
use Rattle.answer_writer.specs.AnswerWriting.{header_bytes, record_bytes, unless_refused, AnswerWritten}
use Rattle.answer_reader.specs.Fields.{fields_of}
use Rattle.answer_reader.specs.declared.answer.Head.{Head}

-- ---- one number

-- The low bytes of a number, by the library's words.
bytes_from : (i k x : ℕ) → bytes_low_first i k x ≡ le k (x / 256 ^ i)
unfolding le
bytes_from i zero x = refl
bytes_from zero (suc k) x = ap₂ ◌∷◌ (rw div-one refl) (bytes_from 1 k x ∙ rw div-one refl)
bytes_from (suc i) (suc k) x =
    let less : x / 256 ^ suc i / 256 ≡ x / 256 ^ suc (suc i) = div-div-eq-div-mul x (256 ^ suc i) 256 ∙ ap (λ (p : ℕ). x / p) (sym (pow-suc 256 (suc i))) in
    rw less (ap (λ (l : List ℕ). x / 256 ^ suc i % 256 ∷ l) (bytes_from (suc (suc i)) k x))

take_bytes : (i k j x : ℕ) → take k (bytes_low_first i (k + j) x) ≡ bytes_low_first i k x
take_bytes i zero j x = refl
take_bytes i (suc k) j x = rw suc-add (ap (λ (l : List ℕ). byte_at i x ∷ l) (take_bytes (suc i) k j x))

pub low_bytes : (k x : ℕ) → k ≤ 8 → take k (to_le_bytes w64 x) ≡ le k x
low_bytes k x h =
    let e : k + (8 - k) ≡ 8 = omega arith in
    let same : take k (bytes_low_first 0 (k + (8 - k)) x) ≡ le k x = take_bytes 0 k (8 - k) x ∙ bytes_from 0 k x ∙ rw div-one refl in
    rw e at same

-- They are put where they are copied to.
pub copied_put : (l : List ℕ) (at k n x : ℕ) {ys : List ℕ} → ys ≡ le k x → n ≡ k → put_mid at n l ys ≡ put l at (le k x)
unfolding put
copied_put l at k n x e f =
    put_mid-paste at n l _ (le k x) k e (sym f) (sym (length_le k x))
    ∙ rw (take_all k (le k x) (rw length_le (omega arith)), length_le, append_assoc)

-- ---- a run of fields

module _ (k : ℕ) (l : List ℕ) (at : ℕ) (xs : List ℕ) (room : at + k * length xs ≤ length l) {i : ℕ} {l₁ : List ℕ} (e : l₁ ≡ put l at (fields k (take i xs))) where
  -- One field more.
  pub run_more : i < length xs → {x : ℕ} {l₂ : List ℕ} → x ≡ get_or xs i 0 → l₂ ≡ put l₁ (at + k * i) (le k x) → l₂ ≡ put l at (fields k (take (i + 1) xs))
  unfolding fields
  run_more h {x} {l₂} f g =
      let n : length (fields k (take i xs)) ≡ k * i = length_fields k (take i xs) ∙ rw (length-take-le i xs (omega arith)) refl in
      let more : fields k (take (i + 1) xs) ≡ fields k (take i xs) ++ le k x = rw (add-one, take-suc xs i 0 h, ← f) (fields_append k (take i xs) (x ∷ []) ∙ ap (λ (s : List ℕ). fields k (take i xs) ++ s) (append-nil (le k x))) in
      g ∙ rw e (put_put l at (fields k (take i xs)) (at + k * i) (le k x) (omega arith) (omega arith) ∙ ap (put l at) (sym more))

-- ---- several writes

-- The list with values put at its front, as long as before.
pub record Trail (l values now-is : List ℕ) : Type 0 where
  pub is : now-is ≡ put l 0 values
  pub same_length : length now-is ≡ length l

pub trail_start : (l : List ℕ) → Trail l [] l
trail_start l = record { is = sym (put_nil l 0); same_length = refl }

-- One write more, right behind the others.
pub trail_put : {l values l₁ l₂ : List ℕ} {at : ℕ} (vs : List ℕ) → Trail l values l₁ → l₂ ≡ put l₁ at vs → at ≡ length values → at + length vs ≤ length l
    → Trail l (values ++ vs) l₂
trail_put {l} {values} {l₁} {l₂} {at} vs t e f h =
    record {
      is = e ∙ (rw t.is (put_put l 0 values at vs (omega arith) (omega arith)));
      same_length = rw e (length_put l₁ at vs (omega (arith, t.same_length)) (omega (arith, t.same_length))) ∙ t.same_length;
    }

-- The header's six fields.
pub header_put : (l : List ℕ) (size n : ℕ) (head : Head) {l₁ l₂ l₃ l₄ l₅ l₆ : List ℕ} {span : ℕ} → answer_header ≤ length l → span ≡ off head.span
    → l₁ ≡ put l 0 (le length_bytes size) → l₂ ≡ put l₁ kind_place (le short_bytes answer_kind) → l₃ ≡ put l₂ n_place (le short_bytes n)
    → l₄ ≡ put l₃ class_place (le short_bytes head.class) → l₅ ≡ put l₄ span_place (le signed_bytes span)
    → l₆ ≡ put l₅ start_place (le short_bytes head.start) → l₆ ≡ put l 0 (header_bytes size n head)
unfolding header_bytes
header_put l size n head {span = span} h o a b c d e f =
    let t₁ = trail_put (le length_bytes size) (trail_start l) a refl (rw length_le (omega arith)) in
    let t₂ = trail_put (le short_bytes answer_kind) t₁ b (simp (length-append, length_le)) (rw length_le (omega arith)) in
    let t₃ = trail_put (le short_bytes n) t₂ c (simp (length-append, length_le)) (rw length_le (omega arith)) in
    let t₄ = trail_put (le short_bytes head.class) t₃ d (simp (length-append, length_le)) (rw length_le (omega arith)) in
    let t₅ = trail_put (le signed_bytes span) t₄ e (simp (length-append, length_le)) (rw length_le (omega arith)) in
    let t₆ = trail_put (le short_bytes head.start) t₅ f (simp (length-append, length_le)) (rw length_le (omega arith)) in
    rw o at (simp append_assoc at t₆.is)

length_header : (size n : ℕ) (head : Head) → length (header_bytes size n head) ≡ answer_header
unfolding header_bytes
length_header size n head = simp (length-append, length_le)

-- The record's three parts.
pub record_put : (l : List ℕ) (size n : ℕ) (head : Head) (stamps picks : List ℕ) {l₁ l₂ l₃ : List ℕ} {at : ℕ} → at + short_bytes * length picks ≤ length l
    → at ≡ answer_header + signed_bytes * length stamps → l₁ ≡ put l 0 (header_bytes size n head) → l₂ ≡ put l₁ answer_header (fields signed_bytes stamps) → l₃ ≡ put l₂ at (fields short_bytes picks)
    → l₃ ≡ put l 0 (record_bytes size n head stamps picks)
unfolding record_bytes
record_put l size n head stamps picks {at = at} h e a b c =
    let t₁ = trail_put (header_bytes size n head) (trail_start l) a refl (rw length_header (omega arith)) in
    let t₂ = trail_put (fields signed_bytes stamps) t₁ b (rw length_header refl) (rw length_fields (omega arith)) in
    let t₃ = trail_put (fields short_bytes picks) t₂ c (simp (length-append, length_header, length_fields) e) (rw length_fields (omega arith)) in
    simp append_assoc at t₃.is

-- ---- the whole refusal

-- Nothing refused so far: n and m are within their limits.
pub counts_limits : (class start stamps picks n m room : ℕ) → 0 ≡ writer_judged class start stamps picks n m room → (n ≤ highest_n) × (m ≤ highest_m)
unfolding writer_judged
counts_limits class start stamps picks n m room e = ((limits_clause n m _ _).0 (sym e)).0

module _ (head : Head) (stamps picks : List ℕ) (n m room : ℕ) where
  refusal_split : writer_refusal (fields_of head stamps picks) n m room
      ≡ or_else (writer_judged head.class head.start (length stamps) (length picks) n m room) (form_refusal (fields_of head stamps picks) n m)
  unfolding writer_refusal writer_judged right_counts
  refusal_split = rw length-map

  pub counts_refused : (r : Refusal) → number_of r ≡ writer_judged head.class head.start (length stamps) (length picks) n m room
      → number_of r ≡ writer_refusal (fields_of head stamps picks) n m room
  counts_refused r e = rw (refusal_split, ← e) (first_counts (number_of r) _ (number_range r).0)

  pub counts_then_form : {j : ℕ} → 0 ≡ writer_judged head.class head.start (length stamps) (length picks) n m room
      → j ≡ form_refusal (fields_of head stamps picks) n m → j ≡ writer_refusal (fields_of head stamps picks) n m room
  counts_then_form e f = rw (refusal_split, ← e) f

  -- The same of fields that were judged with the same n and m.
  pub counts_then_judged : {j a b : ℕ} → 0 ≡ writer_judged head.class head.start (length stamps) (length picks) n m room
      → j ≡ form_refusal (fields_of head stamps picks) a b → a ≡ n → b ≡ m → j ≡ writer_refusal (fields_of head stamps picks) n m room
  counts_then_judged e f p q = counts_then_form e (rw (p, q) at f)

-- ---- the record is the answer's

-- The field of what an offset number within a limit below 2³¹ stands for is the number's own.
field_off : (limit k : ℕ) → limit < signed_half → blank_or_within limit (trop_of k) ≡ true → field_of (trop_of k) ≡ off k
field_off limit k l t =
    let small : k < signed_full = ⊎_elim (λ (z : k ≡ 0). omega arith) (λ (b : (signed_half ≤ k + limit) × (k ≤ signed_half + limit)). omega arith) ((within_iff limit k l).0 t) in
    let same : trop_of k ≡ trop_field (off k) = ap trop_of (sym (off_off k small)) ∙ trop_off (off k) (off_bound k) in
    rw same (field_of_trop_field (off k) (off_bound k))

fields_off : (limit : ℕ) (xs : List ℕ) → limit < signed_half → all (blank_or_within limit) (map trop_of xs) ≡ true → map field_of (map trop_of xs) ≡ map off xs
unfolding all
fields_off limit [] l t = refl
fields_off limit (x ∷ xs) l t =
    let b = (and-eq-true_iff (blank_or_within limit (trop_of x)) (all (blank_or_within limit) (map trop_of xs))).0 t in
    ap₂ ◌∷◌ (field_off limit x l b.0) (fields_off limit xs l b.1)

-- What a refusal keeps.
pub kept_if : (k : ℕ) (before after : List ℕ) → 0 < k → before ≡ unless_refused k before after
unfolding unless_refused
kept_if zero before after h = absurd (omega arith)
kept_if (suc k) before after h = refl

module _ (head : Head) (stamps picks : List ℕ) (n m : ℕ) where
  -- The numbers that the code goes by, where nothing is refused.
  pub record Roomy (room : ℕ) : Type 0 where
    pub n_most : n ≤ highest_n
    pub m_most : m ≤ highest_m
    pub size_is : answer_header + signed_bytes * length stamps + short_bytes * length picks ≡ answer_size head.class n m
    pub size_fits : answer_size head.class n m ≤ room

  pub roomy : (room : ℕ) → writer_refusal (fields_of head stamps picks) n m room ≡ 0 → Roomy room
  roomy room z =
      let f = (writer_fits (fields_of head stamps picks) n m room).0 z in
      let a : length stamps ≡ stamp_count head.class n = rw length-map at f.stamps_count in
      record {
        n_most = f.n_most;
        m_most = f.m_most;
        size_is = rw (a, f.picks_count);
        size_fits = omega (arith, size_most head.class n m f.n_most f.m_most, f.room_enough);
      }

  record_answer : (room size : ℕ) → writer_refusal (fields_of head stamps picks) n m room ≡ 0 → size ≡ answer_size head.class n m
      → record_bytes (size - 4) n head (map off stamps) picks ≡ answer_bytes n (fields_of head stamps picks)
  unfolding record_bytes header_bytes answer_bytes
  record_answer room size z e =
      let f = (writer_fits (fields_of head stamps picks) n m room).0 z in
      let a : length (map trop_of stamps) ≡ stamp_count head.class n = f.stamps_count in
      let b : length picks ≡ pick_count head.class n m = f.picks_count in
      let c : field_of (trop_of head.span) ≡ off head.span = field_off span_limit head.span (omega arith) (span_within head.class (trop_of head.span) f.form.span_fits_is) in
      let d : map field_of (map trop_of stamps) ≡ map off stamps = fields_off stamp_limit stamps (omega arith) (stamps_within (map trop_of stamps) f.form.stamps_fit_lem) in
      rw (a, b, c, d, e)

  -- Something is refused.
  pub write_refused : (r : Refusal) {before : List ℕ} → number_of r ≡ writer_refusal (fields_of head stamps picks) n m (length before)
      → AnswerWritten (fields_of head stamps picks) n m (Err r) before before
  unfolding writer_outcome
  write_refused r {before} e =
      let some = number_range r in
      record { answered = outcome_err (λ size. size) r (answer_size head.class n m) e; buffer = kept_if _ before _ (omega arith) }

  -- The record is written.
  pub write_done : {size : ℕ} {before after : List ℕ} → 0 ≡ writer_refusal (fields_of head stamps picks) n m (length before)
      → size ≡ answer_size head.class n m → after ≡ put before 0 (record_bytes (size - 4) n head (map off stamps) picks)
      → AnswerWritten (fields_of head stamps picks) n m (Ok size) before after
  unfolding writer_outcome unless_refused written
  write_done {size} {before} e f g =
      record { answered = outcome_ok (λ size. size) size (answer_size head.class n m) (sym e) f; buffer = rw (← e) (g ∙ ap (put before 0) (record_answer (length before) _ (sym e) f)) }
