use native.Mathlib.Omega.{arith}
use Rattle.printing.proofs.Printing.{span_blank, span_up, span_down}
use Rattle.printing.proofs.lines.put_span.Goals as goal

pub returns-then-span-eq0 : goal.returns-then-span-eq0
returns-then-span-eq0 c = (span_blank _ _ _ c.if-span-eq0.true, omega arith)

pub returns-then-span-ge-OFFSET : goal.returns-then-span-ge-OFFSET
returns-then-span-ge-OFFSET c = (span_up c.put_decimal.ensures.0 c.if-span-ge-OFFSET.true, omega arith)

pub returns : goal.returns
returns c = (span_down c.copy-next.ensures c.put_decimal-2.ensures.0 c.if-span-eq0.false c.if-span-ge-OFFSET.false (omega arith), omega arith)
