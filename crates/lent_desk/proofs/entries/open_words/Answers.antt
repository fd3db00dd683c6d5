use mathlib.Core.Path.{refl}
use Rattle.lent_desk.proofs.Calls.{over_short, opens, opened_words}
use Rattle.lent_desk.proofs.entries.open_words.Goals as goal

pub returns-in-Some : goal.returns-in-Some
returns-in-Some c = over_short c.in-Some.ensures (refl, refl)

pub unwrap-requires : goal.unwrap-requires
unwrap-requires c = opens c.in_default.ensures.0 c.open_desk.ensures

pub returns : goal.returns
returns c = opened_words c.in_default.ensures.0 c.in_default.ensures.1 c.open_desk.ensures c.unwrap.ensures c.no_place.ensures c.store_all.ensures.0 c.store_all.ensures.1
