use Rattle.converter.proofs.Steps.{Copying}
use Rattle.converter.proofs.convert.Record.put_rows.Given as goal

abbrev pub invariant-loop-i : goal.invariant-loop-i
invariant-loop-i l = Copying l.self.bytes.now l.self.layout l.initial.out l.i l.to l.out
