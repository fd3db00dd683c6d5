-- Request 2.5 as a theorem: start reading here. There is one answer of the tool, and what document 02 says of it holds.
use Rattle.definitions.specs.Reasons.{ReasonsKeep}
use Rattle.binding.proofs.Reasons.{reasons_hold}
use Rattle.binding.proofs.Unique.{reasoned_unique}

pub reasons_keep : ReasonsKeep
reasons_keep = record { one_answer = λ p a r s e d. reasoned_unique e d; hold = λ p a r e. reasons_hold e }
