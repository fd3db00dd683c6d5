-- Round trips: an answer written is read back as it was, an answer read is written back as it was.
use Rattle.std.proofs.Common.{◌≡◌, ℕ, ◌+◌, ◌≤◌, ◌<◌, List, [], ◌∷◌, map, length, take, Result, Ok, Err, refl, sym, ap, ap₂, ◌∙◌, ⊎_elim, lt-ltb, le-ltb, arith}
use Rattle.base.proofs.Numbers.{nat_le_or_lt}
use Rattle.definitions.specs.Limits.{highest_n, highest_m, answer_most}
use Rattle.definitions.specs.Tropical.{Trop}
use Rattle.definitions.specs.Bytes.{Bytes, put, outcome}
use Rattle.definitions.specs.Offset.{trop_of}
use Rattle.definitions.specs.AnswerRecord.{Answer, stamp_count, pick_count, answer_size, class_field, span_field, start_field, answer_of, answer_bytes, answer_refusal, answer_outcome, writer_refusal, writer_judged, writer_outcome, written}
use Rattle.definitions.proofs.Put.{take_put, length_put}
use Rattle.definitions.proofs.Offset.{trop_of_injective}
use Rattle.definitions.proofs.AnswerFits.{answer_fits}
use Rattle.definitions.proofs.RoundTrip.{answer_bytes_lem, write_read, read_write}
use Rattle.records.specs.declared.refusal.Refusal.{Refusal}
use Rattle.records.proofs.Refusing.{outcome_err, was_ok, was_err}
use Rattle.answer_reader.specs.Fields.{fields_of, body_of, stamps_at, picks_at, stamps_of, picks_of}
use Rattle.answer_reader.specs.AnswerReading.{told_by, HeadAt, AnswerRead}
use Rattle.answer_reader.specs.declared.answer.Head.{Head}
use Rattle.answer_writer.specs.AnswerWriting.{unless_refused, AnswerWritten}
use Rattle.answer_writer.specs.RoundTrips.{fields_refusal, WrittenThenRead, back_refusal, ReadThenWritten}
use Rattle.answer_reader.proofs.ByClass.{stamps_most, picks_most}
use Rattle.answer_reader.proofs.Heads.{told_head}
use Rattle.answer_reader.proofs.Judging.{stamps_meant, picks_meant, body_meant, first_counts}
use Rattle.answer_reader.proofs.Padding.{padded_take}
use Rattle.answer_reader.proofs.Passing.{stamps_at_length, picks_at_length}
use Rattle.answer_writer.proofs.Writing.{kept_if, roomy}

-- ---- numbers that stand for an answer

-- Offset numbers that stand for the same are the same.
trops_injective : (xs ys : List ℕ) → map trop_of xs ≡ map trop_of ys → xs ≡ ys
trops_injective [] [] e = refl
trops_injective [] (y ∷ ys) e = let z : ◌≡◌ {A = ℕ} 0 1 = ap length' e in absurd (omega arith)
  where
    length' : List Trop → ℕ
    length' [] = 0
    length' (x ∷ xs) = 1
trops_injective (x ∷ xs) [] e = let z : ◌≡◌ {A = ℕ} 1 0 = ap length' e in absurd (omega arith)
  where
    length' : List Trop → ℕ
    length' [] = 0
    length' (x ∷ xs) = 1
trops_injective (x ∷ xs) (y ∷ ys) e = ap₂ ◌∷◌ (trop_of_injective x y (cc)) (trops_injective xs ys (cc))

told_of : (s : List ℕ) (n m : ℕ)
    → ◌≡◌ {A = ℕ × Trop × ℕ} (class_field s, span_field s, start_field s) ((answer_of s n m).class, (answer_of s n m).span, (answer_of s n m).start)
unfolding answer_of
told_of s n m = refl

abbrev answer_told : Answer → ℕ × Trop × ℕ
answer_told a = (a.class, a.span, a.start)

-- ---- written and read back

module _ (head : Head) (stamps picks : List ℕ) (n m : ℕ) where
  -- What is read from the record of an answer that nothing refuses.
  record Same (s : List ℕ) : Type 0 where
    accepted : answer_refusal s n m ≡ 0
    told : ◌≡◌ {A = ℕ × Trop × ℕ} (class_field s, span_field s, start_field s) (told_by head)
    stamps_are : stamps_of s n ≡ stamps
    picks_are : picks_of s n m ≡ picks

  same : (room : ℕ) → fields_refusal head stamps picks n m room ≡ 0 → Same (answer_bytes n (fields_of head stamps picks))
  same room z =
      let a : Answer = fields_of head stamps picks in
      let s : List ℕ = answer_bytes n (fields_of head stamps picks) in
      let w = write_read (fields_of head stamps picks) n m room z in
      let b : Bytes (answer_bytes n (fields_of head stamps picks)) = answer_bytes_lem n (fields_of head stamps picks) in
      record {
        accepted = w.0;
        told = told_of _ n m ∙ ap answer_told w.1;
        stamps_are = trops_injective _ stamps (stamps_meant b n m ∙ ap (λ (x : Answer). x.stamps) w.1);
        picks_are = picks_meant _ n m ∙ ap (λ (x : Answer). x.picks) w.1;
      }

  module _ {r : Result ℕ Refusal} {before after : List ℕ} (w : AnswerWritten (fields_of head stamps picks) n m r before after) where
    -- The writer refuses.
    pub back_refused : {k : Refusal} {stamps_back picks_back : List ℕ} → r ≡ Err k
        → WrittenThenRead head stamps picks n m (Err k) before after stamps_back stamps_back picks_back picks_back
    unfolding writer_outcome
    back_refused {k} e =
        let h = was_err (λ size. size) (fields_refusal head stamps picks n m (length before)) _ w.answered e in
        record {
          answered = outcome_err told_by k (told_by head) (sym h.0);
          buffer = w.buffer;
          kept = λ x. (refl, refl);
          stamps_same = λ x. absurd (omega arith);
          picks_same = λ x. absurd (omega arith);
        }

    -- The writer writes: the record stands at the front of the buffer.
    pub record Front (size : ℕ) : Type 0 where
      pub none : fields_refusal head stamps picks n m (length before) ≡ 0
      pub inside : size ≤ length after
      pub bytes : take size after ≡ answer_bytes n (fields_of head stamps picks)

    pub front : {size : ℕ} → r ≡ Ok size → Front size
    unfolding writer_outcome unless_refused written
    front {size} e =
        let h = was_ok (λ size. size) (fields_refusal head stamps picks n m (length before)) _ w.answered e in
        let room = roomy head stamps picks n m (length before) h.0 in
        let long : length (answer_bytes n (fields_of head stamps picks)) ≡ answer_size head.class n m = (write_read (fields_of head stamps picks) n m (length before) h.0).2 in
        let put_is : after ≡ put before 0 (answer_bytes n (fields_of head stamps picks)) = rw h.0 at w.buffer in
        let fits : 0 + length (answer_bytes n (fields_of head stamps picks)) ≤ length before = omega (arith, room.size_fits) in
        let size_is : size ≡ 0 + length (answer_bytes n (fields_of head stamps picks)) = omega (arith, h.1) in
        record {
          none = h.0;
          inside = rw (put_is, length_put before 0 (answer_bytes n (fields_of head stamps picks)) (omega arith) fits) (omega arith);
          bytes = rw (put_is, size_is) (take_put before 0 (answer_bytes n (fields_of head stamps picks)) (omega arith));
        }

    -- What is read back from there.
    pub back_read : {size : ℕ} {said : Result Head Refusal} {stamps-before stamps_back picks-before picks_back : List ℕ} → r ≡ Ok size
        → AnswerRead (take size after) n m said stamps-before stamps_back picks-before picks_back
        → WrittenThenRead head stamps picks n m said before after stamps-before stamps_back picks-before picks_back
    unfolding answer_outcome
    back_read {size} e q =
        let f = front e in
        let t : Same (take size after) = rw f.bytes (same (length before) f.none) in
        record {
          answered = q.answered ∙ (rw (t.accepted, f.none, t.told) refl);
          buffer = w.buffer;
          kept = λ x. absurd (x f.none);
          stamps_same = λ x. rw t.stamps_are at (q.stamps_read t.accepted);
          picks_same = λ x. rw t.picks_are at (q.picks_read t.accepted);
        }

-- ---- read and written back

-- A buffer that is long enough takes the same bytes.
again_enough : (s : List ℕ) (n m : ℕ) (r : Result ℕ Refusal) (before after : List ℕ) → Bytes s → answer_refusal s n m ≡ 0 → answer_most ≤ length before
    → AnswerWritten (answer_of s n m) n m r before after → ReadThenWritten s n m r before after
unfolding back_refusal writer_outcome outcome unless_refused answer_of
again_enough s n m r before after b none room w =
    let z = read_write n m (length before) b none room in
    let size : length s ≡ answer_size (class_field s) n m = ((answer_fits s n m).0 none).size_is in
    record {
      answered = w.answered ∙ (rw (z.1, none, le-ltb (length before) answer_most room, size) refl);
      buffer = w.buffer ∙ (rw (z.1, none, le-ltb (length before) answer_most room, z.0) refl);
    }

short_refused : (a : Answer) (n m room : ℕ) → n ≤ highest_n → m ≤ highest_m → room < answer_most → writer_refusal a n m room ≡ 7
unfolding writer_refusal writer_judged
short_refused a n m room h k l = rw (le-ltb highest_n n h, le-ltb highest_m m k, lt-ltb room answer_most l)

-- A shorter one gets 7.
again_short : (s : List ℕ) (n m : ℕ) (r : Result ℕ Refusal) (before after : List ℕ) → answer_refusal s n m ≡ 0 → length before < answer_most
    → AnswerWritten (answer_of s n m) n m r before after → ReadThenWritten s n m r before after
unfolding back_refusal writer_outcome outcome unless_refused
again_short s n m r before after none room w =
    let f = (answer_fits s n m).0 none in
    let seven : writer_refusal (answer_of s n m) n m (length before) ≡ 7 = short_refused (answer_of s n m) n m (length before) f.n_most f.m_most room in
    record {
      answered = w.answered ∙ (rw (seven, none, lt-ltb (length before) answer_most room) refl);
      buffer = w.buffer ∙ (rw (seven, none, lt-ltb (length before) answer_most room) refl);
    }

module _ {s : List ℕ} {n m : ℕ} {said : Result Head Refusal} {stamps-before stamps picks-before picks : List ℕ}
    (q : AnswerRead s n m said stamps-before stamps picks-before picks) where
  -- The reader refuses.
  pub again_refused : {k : Refusal} (before : List ℕ) → said ≡ Err k → ReadThenWritten s n m (Err k) before before
  unfolding answer_outcome back_refusal
  again_refused {k} before e =
      let h = was_err told_by (answer_refusal s n m) _ q.answered e in
      let first_is : answer_refusal s n m ≡ back_refusal s n m (length before) = first_counts (answer_refusal s n m) _ h.1 in
      record {
        answered = outcome_err (λ size. size) k (length s) (sym h.0 ∙ first_is);
        buffer = rw (← first_is) (kept_if (answer_refusal s n m) before (written before s) h.1);
      }

  module _ {head : Head} (e : said ≡ Ok head) where
    -- The reader reads: the numbers that the code goes by.
    pub record ReadRight : Type 0 where
      pub none : answer_refusal s n m ≡ 0
      pub is : HeadAt s head
      pub n_most : n ≤ highest_n
      pub m_most : m ≤ highest_m
      pub stamps_width : length stamps ≡ 32
      pub picks_width : length picks ≡ 64

    pub read_right : ReadRight
    unfolding answer_outcome
    read_right =
        let h = was_ok told_by (answer_refusal s n m) _ q.answered e in
        let f = (answer_fits s n m).0 h.0 in
        record {
          none = h.0;
          is = told_head h.1;
          n_most = f.n_most;
          m_most = f.m_most;
          stamps_width = (q.stamps_read h.0).width_is;
          picks_width = (q.picks_read h.0).width_is;
        }

    -- The first stamps and picks of the arrays are the answer that the bytes mean.
    pub counted : Bytes s → fields_of head (take (stamp_count head.class n) stamps) (take (pick_count head.class n m) picks) ≡ answer_of s n m
    unfolding stamps_of picks_of
    counted b =
        let h = read_right in
        let x : take (stamp_count (class_field s) n) stamps ≡ stamps_at s (stamp_count (class_field s) n) =
        rw stamps_at_length at (padded_take (q.stamps_read h.none) (rw stamps_at_length (stamps_most (class_field s) n h.n_most))) in
        let y : take (pick_count (class_field s) n m) picks ≡ picks_at s (stamp_count (class_field s) n) (pick_count (class_field s) n m) =
        rw picks_at_length at (padded_take (q.picks_read h.none) (rw picks_at_length (picks_most (class_field s) n m h.n_most h.m_most))) in
        let same : body_of s head n m ≡ answer_of s n m = body_meant b n m h.is in
        rw (h.is.class_is, x, y) (rw h.is.class_is at same)

    -- What is written back.
    pub again_written : Bytes s → {r : Result ℕ Refusal} {before after : List ℕ}
        → AnswerWritten (fields_of head (take (stamp_count head.class n) stamps) (take (pick_count head.class n m) picks)) n m r before after
        → ReadThenWritten s n m r before after
    again_written b {r} {before} {after} w =
        ⊎_elim
        (λ (room : answer_most ≤ length before). again_enough s n m r before after b read_right.none room (rw (counted b) at w))
        (λ (room : length before < answer_most). again_short s n m r before after read_right.none room (rw (counted b) at w))
        (nat_le_or_lt answer_most (length before))
