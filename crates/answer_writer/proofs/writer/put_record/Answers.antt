use Rattle.std.proofs.Common.{map, arith}
use Rattle.std.proofs.lemmas.List.{length-map}
use Rattle.definitions.specs.Offset.{off}
use Rattle.answer_writer.proofs.Writing.{record_put}
use Rattle.answer_writer.proofs.writer.put_record.Goals as goal

pub returns : goal.returns
returns c = record_put _ _ _ _ (map off c.args.stamps.now) c.args.picks.now (omega arith) (rw length-map (omega arith)) c.put_header.ensures c.put_stamps.ensures c.put_picks.ensures
