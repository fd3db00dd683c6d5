use Rattle.std.proofs.Common.{rules}
use Rattle.desk_words.proofs.Back.{is_part}
use Rattle.desk_words.proofs.runs.run_at.Goals as goal

pub returns : goal.returns
returns g c = is_part _ _ _ c.args.words.now c.args.at _ (λ i y q k. (search (k.met, rules) fits 20000, search (k.met, rules) fits 20000)) c.requires c.from_fn.ensures.items
