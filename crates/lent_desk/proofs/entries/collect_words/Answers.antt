use mathlib.Core.Path.{refl}
use native.Mathlib.Omega.{arith}
use Rattle.lent_desk.proofs.Calls.{over_short, held_inside, can_collect, collect_refused, collect_waits, collect_some, collect_few, collect_inside, collect_handed}
use Rattle.lent_desk.proofs.entries.collect_words.Goals as goal

pub returns-in-Some : goal.returns-in-Some
returns-in-Some c = over_short c.in-Some.ensures (refl, refl, refl)

pub held_at-held-requires : goal.held_at-held-requires
held_at-held-requires c = (c.in_default.ensures.1, held_inside _ _ c.place_of-at.ensures)

pub collect-requires : goal.collect-requires
collect-requires c = can_collect c.in_default.ensures.0 c.in_default.ensures.1 c.requires c.place_of-at.ensures c.held_at-held.ensures

pub returns-in-Err : goal.returns-in-Err
returns-in-Err c = rw c.number.ensures (collect_refused c.in_default.ensures.0 c.in_default.ensures.1 c.requires c.place_of-at.ensures c.held_at-held.ensures c.in-Err.ensures)

pub returns-in-Ok-None : goal.returns-in-Ok-None
returns-in-Ok-None c = collect_waits c.in_default.ensures.0 c.in_default.ensures.1 c.requires c.place_of-at.ensures c.held_at-held.ensures (rw c.in-Ok-None.field-0-is at c.in-Ok-None.ensures)

pub unwrap-requires : goal.unwrap-requires
unwrap-requires c = collect_some c.in_default.ensures.0 c.in_default.ensures.1 c.requires c.place_of-at.ensures c.held_at-held.ensures (rw c.in-Ok-Some.field-0-is at c.in-Ok-Some.ensures)

pub store-requires : goal.store-requires
store-requires c = (c.in_default.ensures.1, collect_inside c.in_default.ensures.0 c.in_default.ensures.1 c.requires c.place_of-at.ensures c.held_at-held.ensures (rw c.in-Ok-Some.field-0-is at c.in-Ok-Some.ensures) c.unwrap.ensures)

pub overflow_mul-result-in-Ok-Some : goal.overflow_mul-result-in-Ok-Some
overflow_mul-result-in-Ok-Some c = let few = collect_few c.in_default.ensures.0 c.in_default.ensures.1 c.requires c.place_of-at.ensures c.held_at-held.ensures (rw c.in-Ok-Some.field-0-is at c.in-Ok-Some.ensures) in omega arith

pub overflow_add-result : goal.overflow_add-result
overflow_add-result c = let few = collect_few c.in_default.ensures.0 c.in_default.ensures.1 c.requires c.place_of-at.ensures c.held_at-held.ensures (rw c.in-Ok-Some.field-0-is at c.in-Ok-Some.ensures) in omega (arith, c.number-in-Ok-Some.ensures)

pub returns-in-Ok-Some : goal.returns-in-Ok-Some
returns-in-Ok-Some c = collect_handed c.in_default.ensures.0 c.in_default.ensures.1 c.requires c.place_of-at.ensures c.held_at-held.ensures (rw c.in-Ok-Some.field-0-is at c.in-Ok-Some.ensures) c.unwrap.ensures (rw c.number-in-Ok-Some.ensures refl) c.load_front-front.ensures c.no_place.ensures c.store.ensures.0 c.store.ensures.1
