use Rattle.hour_texts.proofs.Writing.{short_refused, beyond_refused, line_short, line_room, text_written}
use lib.Seq.{length-take-le}
use mathlib.Core.Path.{sym, ◌∙◌}
use native.Mathlib.Omega.{arith}
use Rattle.hour_texts.proofs.writer.write_hours.Goals.{then-buffer-lt-TEXT_MOST-via-then-buffer-lt-TEXT_MOST, then-buffer-lt-TEXT_MOST-via-else-buffer-lt-TEXT_MOST+then-not-blank_or_within}
use Rattle.hour_texts.proofs.writer.write_hours.Goals as goal

pub returns-then-buffer-lt-TEXT_MOST : goal.returns-then-buffer-lt-TEXT_MOST
returns-then-buffer-lt-TEXT_MOST c = elim c.then-buffer-lt-TEXT_MOST.branch [
  | then-buffer-lt-TEXT_MOST-via-then-buffer-lt-TEXT_MOST w ↦ short_refused _ _ w.if-buffer-lt-TEXT_MOST.true
  | then-buffer-lt-TEXT_MOST-via-else-buffer-lt-TEXT_MOST+then-not-blank_or_within w ↦ beyond_refused _ _ (sym w.blank_or_within.ensures ∙ w.if-not-blank_or_within.true)
]

pub slice_bounds-line-end : goal.slice_bounds-line-end
slice_bounds-line-end c = omega (arith, line_short _ c.put_text-size.ensures (sym c.blank_or_within.ensures ∙ c.if-not-blank_or_within.false))

pub slice_bounds-copy-end : goal.slice_bounds-copy-end
slice_bounds-copy-end c = sym (length-take-le _ _ (omega (arith, line_short _ c.put_text-size.ensures (sym c.blank_or_within.ensures ∙ c.if-not-blank_or_within.false), c.put_text-size.ensures.kept)))

pub copy-requires : goal.copy-requires
copy-requires c = line_room _ c.put_text-size.ensures (sym c.blank_or_within.ensures ∙ c.if-not-blank_or_within.false) c.if-buffer-lt-TEXT_MOST.false

pub returns : goal.returns
returns c = text_written _ c.put_text-size.ensures c.copy.ensures c.if-buffer-lt-TEXT_MOST.false (sym c.blank_or_within.ensures ∙ c.if-not-blank_or_within.false)
