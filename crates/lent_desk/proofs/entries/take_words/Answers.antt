use mathlib.Core.Path.{refl}
use Rattle.lent_desk.proofs.Calls.{over_short, can_take, take_refused, take_some, take_inside, take_ticket}
use Rattle.lent_desk.proofs.entries.take_words.Goals as goal

pub returns-in-Some : goal.returns-in-Some
returns-in-Some c = over_short c.in-Some.ensures (refl, refl, refl)

pub take_in-requires : goal.take_in-requires
take_in-requires c = can_take c.in_default.ensures.0 c.in_default.ensures.1 c.requires c.load_front-front.ensures c.first_free-free.ensures

pub returns-in-Err : goal.returns-in-Err
returns-in-Err c = rw c.number.ensures (take_refused c.in_default.ensures.0 c.in_default.ensures.1 c.requires c.load_front-front.ensures c.first_free-free.ensures c.in-Err.ensures)

pub unwrap-requires : goal.unwrap-requires
unwrap-requires c = take_some c.in_default.ensures.0 c.in_default.ensures.1 c.requires c.load_front-front.ensures c.first_free-free.ensures c.in-Ok.ensures

pub store-requires : goal.store-requires
store-requires c = (c.in_default.ensures.1, take_inside c.in_default.ensures.0 c.in_default.ensures.1 c.requires c.load_front-front.ensures c.first_free-free.ensures c.in-Ok.ensures c.unwrap.ensures)

pub returns-in-Ok : goal.returns-in-Ok
returns-in-Ok c = take_ticket c.in_default.ensures.0 c.in_default.ensures.1 c.requires c.load_front-front.ensures c.first_free-free.ensures c.in-Ok.ensures c.unwrap.ensures c.store.ensures.0 c.store.ensures.1
