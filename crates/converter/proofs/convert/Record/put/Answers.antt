use native.Mathlib.Omega.{arith}
use borrow.Author.Rules.{rules}
use Rattle.std.proofs.Common.{refl}
use Rattle.converter.proofs.Steps.{head_room, rows_room, questions_room, record_put}
use Rattle.converter.proofs.convert.Record.put.Goals as goal

pub put_head-requires : goal.put_head-requires
put_head-requires c = head_room c.args.self.now.stored c.args.out.now c.requires.1 c.requires.2

pub put_rows-requires : goal.put_rows-requires
put_rows-requires c = rows_room c.args.self.now.stored c.args.out.now c.requires.1 c.requires.2 (search rules)

pub overflow_mul-row-3 : goal.overflow_mul-row-3
overflow_mul-row-3 c = let room = questions_room c.args.self.now.stored c.args.out.now c.requires.0 c.requires.1 c.requires.2 refl in
    rw c.row-row.ensures (omega arith)

pub overflow_add-self-2 : goal.overflow_add-self-2
overflow_add-self-2 c = let room = questions_room c.args.self.now.stored c.args.out.now c.requires.0 c.requires.1 c.requires.2 refl in
    rw c.row-row.ensures (omega arith)

pub put_part-requires : goal.put_part-requires
put_part-requires c = rw c.row-row.ensures (questions_room c.args.self.now.stored c.args.out.now c.requires.0 c.requires.1 c.requires.2 (search rules))

pub returns : goal.returns
returns c = record_put c.args.self.now.stored c.args.out.now c.requires.0 c.requires.1 c.requires.2 c.put_head.ensures c.put_rows.ensures (rw c.row-row.ensures at c.put_part.ensures)
