use Rattle.std.proofs.Common.{arith, rules}
use Rattle.std.proofs.lemmas.List.{get_or_past}
use Rattle.answer_reader.proofs.Padding.{padded_made}
use Rattle.merging.specs.Plans.{numbers_in}
use Rattle.merging.proofs.Plans.{numbers_at, numbers_length}
use Rattle.merging.proofs.plan.stamps_in.Goals as goal

pub returns : goal.returns
returns c = padded_made _ _ _ 32 (numbers_in c.args.bytes.now c.args.count) (λ i y q k. (search (k.met, rules) fits 20000, search (k.met, rules, numbers_at, numbers_length, get_or_past) fits 20000)) (rw numbers_length (omega arith)) c.from_fn.ensures.items
