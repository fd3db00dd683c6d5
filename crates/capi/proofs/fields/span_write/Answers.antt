use Rattle.capi.proofs.Small.{small_record, writes_as}
use Rattle.capi.proofs.fields.span_write.Goals as goal

pub size_number-requires : goal.size_number-requires
size_number-requires c = small_record _ _ _ _ _ c.write_answer.ensures

pub returns : goal.returns
returns c = writes_as _ _ _ _ _ c.write_answer.ensures c.size_number.ensures
