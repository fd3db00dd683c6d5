-- What a writer is once bytes are appended through it.
use Rattle.std.specs.Prelude.{ℕ, List}
use denote.Ref.{at_last}
use Rattle.output.specs.declared.writer.Writer.{Writer}
use Rattle.printing.specs.Text.{appended, place_after}

-- The same borrow, with the bytes at the writer's place where there is room for them, and the next place.
-- `at_last x l` is the reference x, its pointer and its ghost name with it, at the list l.
abbrev pub writer_after : Writer → List ℕ → Writer
writer_after w text = record {
  buf = at_last w.buf (appended w.buf.now w.at text);
  at = place_after w.buf.now w.at text;
}
