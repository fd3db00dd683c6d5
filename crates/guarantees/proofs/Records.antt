-- What follows for any reader and writer of answers whose results are those that document 01 gives: what is written reads
-- back as itself, and what is read is written again to the same bytes.
use Prim.Native.Nat.{ℕ, zero, suc, ◌+◌}
use mathlib.Core.Path.{◌≡◌, refl, ap, sym, ◌∙◌}
use mathlib.Core.List.{List}
use native.Mathlib.Omega.{arith}
use native.Mathlib.Nat.{zero-add}
use lib.ListN.{length, take}
use Rattle.definitions.specs.Bytes.{refusal, gives}
use Rattle.definitions.specs.AnswerRecord.{Answer, answer_refusal, answer_of, answer_size, answer_bytes, written, writer_refusal}
use Rattle.definitions.specs.Demands.{Word, Slice, Reader, Writer, ReaderRefuses, ReadsFields, WriterRefuses, WritesRecord, ReadsBack, WritesBack}
use Rattle.definitions.proofs.AnswerFits.{writer_fits}
use Rattle.definitions.proofs.RoundTrip.{write_read, read_write}
use Rattle.definitions.proofs.Put.{take_put}
use Rattle.checker.proofs.Accepting.{record_slice}
use Rattle.guarantees.proofs.Handing.{fits_handed}

pub reads_back : (read : Reader) (write : Writer) → ReadsFields read → WriterRefuses write → WritesRecord write → ReadsBack read write
unfolding written
reads_back read write reads refuses writes a n m buffer h v w c e =
    let taken : writer_refusal a n m (length buffer) ≡ 0 = sym (refuses.number_is a n m buffer h v w c) ∙ e in
    let back = write_read a n m (length buffer) taken in
    let slice = record_slice n m (length buffer) a ((writer_fits a n m (length buffer)).0 taken) in
    let size : answer_size a.class n m ≡ 0 + length (answer_bytes n a) = sym back.2 ∙ sym (zero-add _) in
    let stands : take (answer_size a.class n m) (written buffer (answer_bytes n a)) ≡ answer_bytes n a = rw size (take_put buffer 0 (answer_bytes n a) (omega arith)) in
    rw (writes a n m buffer h v w c taken, stands) (reads (answer_bytes n a) slice n m v w back.0 ∙ ap gives back.1)

-- What a reader gives as fields was not refused.
pub read_fields : (read : Reader) → ReaderRefuses read → ReadsFields read → (s : List ℕ) → Slice s → (n m : ℕ) → Word n → Word m → (a : Answer) → read.reading s n m ≡ gives a
    → (answer_refusal s n m ≡ 0) × (answer_of s n m ≡ a)
read_fields read refuses reads s b n m v w a e = go (answer_refusal s n m) refl
  where
    go : (k : ℕ) → answer_refusal s n m ≡ k → (answer_refusal s n m ≡ 0) × (answer_of s n m ≡ a)
    go zero h = let g : gives (answer_of s n m) ≡ gives a = sym (reads s b n m v w h) ∙ e in (h, cc)
    go (suc k) h =
        let g : refusal (suc k) ≡ gives a = sym (refuses.first_refusal s b n m k v w h) ∙ e in absurd (let z : ◌≡◌ {A = ℕ} 0 1 = cc in omega arith)

pub writes_back : (read : Reader) (write : Writer) → ReaderRefuses read → ReadsFields read → WriterRefuses write → WritesRecord write → WritesBack read write
writes_back read write refuses reads refuses' writes s b n m v w a buffer c long e =
    let f = read_fields read refuses reads s b n m v w a e in
    let back = read_write n m (length buffer) b.bytes f.0 long in
    let h = fits_handed (answer_of s n m) n m (length buffer) ((writer_fits (answer_of s n m) n m (length buffer)).0 back.1) in
    rw (← f.1) (refuses'.number_is (answer_of s n m) n m buffer h v w c ∙ back.1, writes (answer_of s n m) n m buffer h v w c back.1 ∙ ap (written buffer) back.0)
