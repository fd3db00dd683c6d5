-- The contracts of `read_hours` and `write_hours` give what request 2.7 promises (document 02): start reading here.
use Prim.Native.Nat.{ℕ, ◌<◌}
use mathlib.Core.Path.{◌≡◌, refl}
use mathlib.Core.Bool.{Bool, true, false, cond}
use mathlib.Core.List.{List}
use Rattle.std.specs.Prelude.{Result}
use native.Mathlib.Omega.{arith}
use lib.ListN.{length}
use Rattle.definitions.specs.Limits.{signed_full, text_limit}
use Rattle.definitions.specs.Tropical.{Trop}
use Rattle.definitions.specs.Offset.{trop_of, off}
use Rattle.definitions.specs.Bytes.{Bytes, field_of, blank_or_within}
use Rattle.definitions.specs.Hours.{has_text, HoursWriting, ReadsHours, WritesHours, HoursReader, HoursWriter, WriterWrites, HoursAndMinutes}
use Rattle.definitions.proofs.Offset.{off_bound, within_fits, trop_field_of}
use Rattle.definitions.proofs.Hours.{hours_and_minutes, hours_beyond, written_refused}
use Rattle.records.specs.declared.refusal.Refusal.{Refusal}
use Rattle.hour_texts.specs.Outcome.{reading_of, writing_of}

-- The number by which a value is handed to the writer: its offset number; for a value without a text 1, which stands for a
-- value without one too.
unfoldable pub handed : Trop → ℕ
handed v = cond (has_text v) (off (field_of v)) 1

-- It is small.
handed_small : (v : Trop) → handed v < signed_full
unfolding handed
handed_small v = go (has_text v)
  where
    go : (t : Bool) → cond t (off (field_of v)) 1 < signed_full
    go true = off_bound (field_of v)
    go false = omega arith

-- It stands for the value.
handed_is : (v : Trop) → has_text v ≡ true → trop_of (handed v) ≡ v
unfolding handed
handed_is v e = rw e (trop_field_of v (within_fits text_limit (omega arith) e))

-- 1 stands for a value without a text.
one_beyond : has_text (trop_of 1) ≡ false
unfolding blank_or_within trop_of
one_beyond = refl

-- A value without a text is refused, by whichever such number it is handed over.
beyond : (v w : Trop) {before after : List ℕ} {r : HoursWriting} → has_text v ≡ false → has_text w ≡ false → WritesHours w before r after → WritesHours v before r after
beyond v w {before} e f h =
    let turned = written_refused {k = 17} h (hours_beyond w (length before) f) in
    rw (turned.0, turned.1) (WritesHours.turned_away {k = 17} (hours_beyond v (length before) e))

module _ (reading : List ℕ → Result ℕ Refusal) (reads : (s : List ℕ) → Bytes s → ReadsHours s (reading_of (reading s))) (writing : ℕ → List ℕ → Result ℕ Refusal) (buffer : ℕ → List ℕ → List ℕ) (writes : (k : ℕ) → k < signed_full → (before : List ℕ) → Bytes before → WritesHours (trop_of k) before (writing_of (writing k before)) (buffer k before)) where
  -- The reader and the writer of the code, on values.
  abbrev pub code_reader : HoursReader
  code_reader s = reading_of (reading s)

  abbrev pub code_writer : HoursWriter
  code_writer = record { answer = λ v before. writing_of (writing (handed v) before); buffer = λ v before. buffer (handed v) before }

  -- The code's writer writes every value as document 02 says.
  writer_meets : WriterWrites code_writer
  unfolding handed
  writer_meets v before b = go (has_text v) refl
    where
      go : (t : Bool) → has_text v ≡ t → WritesHours v before (writing_of (writing (handed v) before)) (buffer (handed v) before)
      go true e = rw (handed_is v e) at (writes (handed v) (handed_small v) before b)
      go false e = beyond v (trop_of (handed v)) e (rw e one_beyond) (writes (handed v) (handed_small v) before b)

  -- They keep what request 2.7 promises.
  pub hours_promise : HoursAndMinutes code_reader code_writer
  hours_promise = hours_and_minutes code_reader reads code_writer writer_meets
