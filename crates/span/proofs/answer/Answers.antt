use borrow.Author.Rules.{rules}
use mathlib.Core.Path.{refl}
use Rattle.definitions.proofs.Inputs.{span_read}
use Rattle.span.proofs.Put.{span_output}
use Rattle.span.proofs.answer.Goals as goal

pub returns-clause-shown : goal.returns-clause-shown
returns-clause-shown c = span_read _ _ _ (λ input k. span_output _ (c.solve_input-solved.ensures input k) refl (search rules) c.put_out.ensures.shown)
