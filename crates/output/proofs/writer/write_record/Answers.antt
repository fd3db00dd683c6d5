use Rattle.printing.proofs.Appending.{output_of}
use Rattle.output.proofs.writer.write_record.Goals as goal

pub returns : goal.returns
returns c = output_of c.write.ensures
