use native.Mathlib.Omega.{arith}
use Rattle.converter.proofs.Steps.{row_inside, copying_none, copying_room, copying_stays, copying_goes, copying_end}
use Rattle.converter.proofs.convert.Record.put_rows.Goals.{then-stays, else-stays}
use Rattle.converter.proofs.convert.Record.put_rows.Goals as goal

pub loop-i-init : goal.loop-i-init
loop-i-init c = copying_none c.args.self.now.stored _

pub put_part-requires : goal.put_part-requires
put_part-requires c = let st = c.args.self.now.stored in
    rw c.row-row.ensures (omega (arith, row_inside st c.loop-i.i (omega arith)), copying_room st c.loop-i.invariant c.requires c.loop-i-test.true c.stays.ensures c.if-stays.true)

pub overflow_add-to : goal.overflow_add-to
overflow_add-to c = let room = copying_room c.args.self.now.stored c.loop-i.invariant c.requires c.loop-i-test.true c.stays.ensures c.if-stays.true in
    rw c.row-row.ensures (omega arith)

pub loop-i-preserved : goal.loop-i-preserved
loop-i-preserved c = let st = c.args.self.now.stored in
    elim c.if-stays.branch [
      | then-stays w ↦ rw (w.to-is, w.out-is, c.row-row.ensures) (copying_stays st c.loop-i.invariant c.requires c.loop-i-test.true c.stays.ensures w.if-stays.true (rw c.row-row.ensures at w.put_part.ensures))
      | else-stays w ↦ rw (w.to-is, w.out-is) (copying_goes st c.loop-i.invariant c.requires c.stays.ensures w.if-stays.false)
    ]

pub returns : goal.returns
returns c = copying_end c.args.self.now.stored c.loop-i.invariant c.requires (omega arith)
