use Rattle.std.proofs.Common.{map, sym, ◌∙◌, arith}
use Rattle.std.proofs.lemmas.List.{length-map}
use Rattle.definitions.specs.Bytes.{fields}
use Rattle.definitions.specs.Offset.{off}
use Rattle.definitions.proofs.Put.{put_nil}
use Rattle.answer_reader.proofs.Passing.{map_at}
use Rattle.answer_writer.proofs.Writing.{run_more}
use Rattle.answer_writer.proofs.writer.put_stamps.Goals as goal

pub loop-i-init : goal.loop-i-init
unfolding fields
loop-i-init c = sym (put_nil c.args.buffer.now c.args.at)

pub loop-i-preserved : goal.loop-i-preserved
loop-i-preserved c =
    let s = c.args.stamps.now in
    run_more 4 c.args.buffer.now c.args.at (map off s) (rw length-map c.requires) c.loop-i.invariant (rw length-map (omega arith)) (c.offset.ensures.0 ∙ sym (map_at off s c.loop-i.i (omega arith))) c.put_word.ensures
