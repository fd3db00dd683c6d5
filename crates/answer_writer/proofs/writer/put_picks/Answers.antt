use Rattle.std.proofs.Common.{sym, refl, arith}
use Rattle.definitions.specs.Bytes.{fields}
use Rattle.definitions.proofs.Put.{put_nil}
use Rattle.answer_writer.proofs.Writing.{run_more}
use Rattle.answer_writer.proofs.writer.put_picks.Goals as goal

pub loop-i-init : goal.loop-i-init
unfolding fields
loop-i-init c = sym (put_nil c.args.buffer.now c.args.at)

pub loop-i-preserved : goal.loop-i-preserved
loop-i-preserved c = run_more 2 c.args.buffer.now c.args.at c.args.picks.now c.requires c.loop-i.invariant (omega arith) refl c.put_short.ensures
