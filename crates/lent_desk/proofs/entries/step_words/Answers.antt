use mathlib.Core.Path.{refl}
use Rattle.lent_desk.proofs.Calls.{over_short, front_fits, can_step, step_refused, step_none, step_inside, step_told}
use Rattle.lent_desk.proofs.entries.step_words.Goals as goal

pub returns-in-Some : goal.returns-in-Some
returns-in-Some c = over_short c.in-Some.ensures (refl, refl)

pub first-at-requires : goal.first-at-requires
first-at-requires c = front_fits c.in_default.ensures.0 c.in_default.ensures.1 c.requires c.load_front-front.ensures

pub step-requires : goal.step-requires
step-requires c = can_step c.in_default.ensures.0 c.in_default.ensures.1 c.requires c.load_front-front.ensures c.first-at.ensures c.place_at-place.ensures

pub returns-in-Err : goal.returns-in-Err
returns-in-Err c = absurd (step_refused c.in_default.ensures.0 c.in_default.ensures.1 c.requires c.load_front-front.ensures c.first-at.ensures c.place_at-place.ensures c.in-Err.ensures)

pub returns-in-Ok-None : goal.returns-in-Ok-None
returns-in-Ok-None c = step_none c.in_default.ensures.0 c.in_default.ensures.1 c.requires c.load_front-front.ensures c.first-at.ensures c.place_at-place.ensures (rw c.in-Ok-None.field-0-is at c.in-Ok-None.ensures)

pub store-requires : goal.store-requires
store-requires c = (c.in_default.ensures.1, step_inside c.in_default.ensures.0 c.in_default.ensures.1 c.requires c.load_front-front.ensures c.first-at.ensures c.place_at-place.ensures (rw c.in-Ok-Some.field-0-is at c.in-Ok-Some.ensures))

pub returns-then-stepping : goal.returns-then-stepping
returns-then-stepping c = step_told c.in_default.ensures.0 c.in_default.ensures.1 c.requires c.load_front-front.ensures c.first-at.ensures c.place_at-place.ensures (rw c.in-Ok-Some.field-0-is at c.in-Ok-Some.ensures) c.if-stepping.true c.store.ensures.0 c.store.ensures.1

pub returns-else-stepping : goal.returns-else-stepping
returns-else-stepping c = step_told c.in_default.ensures.0 c.in_default.ensures.1 c.requires c.load_front-front.ensures c.first-at.ensures c.place_at-place.ensures (rw c.in-Ok-Some.field-0-is at c.in-Ok-Some.ensures) c.if-stepping.false c.store.ensures.0 c.store.ensures.1
