use Rattle.std.proofs.Common.{◌≡◌, suc, ◌-◌, get_or, ap, ◌∙◌, arith}
use Rattle.closed_walks.proofs.ArcTables.{rows_idle, rows_blank, rows_column}
use Rattle.closed_walks.specs.Arcs.{fall}
use Rattle.closed_walks.proofs.arcs.fill_row.Goals as goal

pub returns-then-pick-eq0 : goal.returns-then-pick-eq0
returns-then-pick-eq0 c = rows_idle _ _ _ _ _ c.requires.1 c.if-pick-eq0.true

pub returns-then-b-eq0 : goal.returns-then-b-eq0
returns-then-b-eq0 c = let e : get_or c.args.picks.now c.args.i 0 ≡ suc (get_or c.args.picks.now c.args.i 0 - 1) = omega (arith, c) in
    rows_blank _ _ _ _ _ c.requires.1 e c.if-b-eq0.true

pub returns : goal.returns
returns c = let e : get_or c.args.picks.now c.args.i 0 ≡ suc (get_or c.args.picks.now c.args.i 0 - 1) = omega (arith, c) in
    rows_column _ _ _ _ _ (omega arith) c.requires.1 e (omega (arith, c.requires.2.none_above c.args.i)) c.if-b-eq0.false (c.fall_of-down.ensures.0 ∙ ap (fall _) c.raise_of.ensures.0) c.fill_column.ensures
