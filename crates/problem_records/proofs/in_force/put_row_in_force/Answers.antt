use mathlib.Core.Path.{refl}
use Rattle.problem_records.proofs.InForce.{row_lies, row_blank_lem, row_stands}
use native.Mathlib.Omega.{arith}
use Rattle.problem_records.proofs.in_force.put_row_in_force.Goals as goal

pub row_place-at-requires : goal.row_place-at-requires
row_place-at-requires c = let h = c.requires in (h.0.n_most, omega (arith, h.0.m_most))

pub suspended-requires : goal.suspended-requires
suspended-requires c = let h = c.requires in (h.0.m_most, h.1)

pub put_blanks-requires : goal.put_blanks-requires
put_blanks-requires c = omega (arith, c.requires.2, (row_lies c.requires.0 _ c.requires.1 c.row_place-at.ensures.0).1)

pub returns-then-suspended : goal.returns-then-suspended
returns-then-suspended c = let place = c.row_place-at in
    row_blank_lem _ _ _ _ c.suspended.ensures c.if-suspended.true place.ensures.0 refl c.put_blanks.ensures

pub copy_part-requires : goal.copy_part-requires
copy_part-requires c = let lies = row_lies c.requires.0 _ c.requires.1 c.row_place-at.ensures.0 in
    (omega (arith, lies.0), omega (arith, c.requires.2, lies.1))

pub returns : goal.returns
returns c = let place = c.row_place-at in
    row_stands _ _ _ _ c.suspended.ensures c.if-suspended.false place.ensures.0 refl refl c.copy_part.ensures
