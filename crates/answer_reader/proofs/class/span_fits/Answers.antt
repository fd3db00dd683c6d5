use Rattle.std.proofs.Common.{rules}
use Rattle.definitions.specs.AnswerRecord.{span_fits}
use Rattle.definitions.proofs.Offset.{blank_offset}
use Rattle.records.proofs.Tests as records
use Rattle.answer_reader.proofs.class.span_fits.Goals as goal

pub returns-in-1 : goal.returns-in-1
unfolding span_fits
returns-in-1 c = search rules

pub returns-in-2 : goal.returns-in-2
unfolding span_fits
returns-in-2 c = search (rules, blank_offset)

pub returns-in_default : goal.returns-in_default
unfolding span_fits
returns-in_default c = search (rules, records.tests)

pub returns-in_default-2 : goal.returns-in_default-2
unfolding span_fits
returns-in_default-2 c = search (rules, records.tests)
