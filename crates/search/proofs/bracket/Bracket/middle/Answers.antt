use Rattle.search.proofs.Halves.{middle_whole}
use mathlib.Core.Path.{refl}
use Rattle.search.proofs.bracket.Bracket.middle.Goals as goal

pub returns : goal.returns
returns c = (middle_whole c.args.self.low c.args.self.high, record { is = refl })
