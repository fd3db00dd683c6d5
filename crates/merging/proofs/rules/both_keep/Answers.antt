use Rattle.merging.proofs.Rows.{low_lows, stand_keeps, first_no, then_second}
use Rattle.merging.proofs.rules.both_keep.Goals as goal

pub rows_stand-requires : goal.rows_stand-requires
rows_stand-requires c = let p = c.requires in (record { right = record { tables = p.0; right_are = c.ends_of-2.ensures }; left_are = c.ends_of.ensures }, low_lows _ _ p.1 c.low_plan-x.ensures)

pub rows_stand-requires-then-rows_stand : goal.rows_stand-requires-then-rows_stand
rows_stand-requires-then-rows_stand c = let p = c.requires in (record { right = record { tables = p.0; right_are = c.ends_of-2.ensures }; left_are = c.ends_of.ensures }, low_lows _ _ p.2 c.low_plan-y.ensures)

pub returns-then-rows_stand : goal.returns-then-rows_stand
returns-then-rows_stand c p t = then_second (stand_keeps t _ c.low_plan-x.ensures c.rows_stand.ensures) c.if-rows_stand.true (stand_keeps t _ c.low_plan-y.ensures c.rows_stand-then-rows_stand.ensures)

pub returns-else-rows_stand : goal.returns-else-rows_stand
returns-else-rows_stand c p t = first_no (stand_keeps t _ c.low_plan-x.ensures c.rows_stand.ensures) c.if-rows_stand.false
