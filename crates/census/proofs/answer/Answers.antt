use Rattle.census.proofs.Reading.{told_number, told_other, three_numbers, nothing_out, first_other, second_other, third_other}
use Rattle.census.proofs.answer.Goals as goal

pub returns-in_err-n-clause-shown : goal.returns-in_err-n-clause-shown
returns-in_err-n-clause-shown c = nothing_out _ c.from_residual.ensures (first_other (told_other c.read_number.ensures c.in_err-n.was))

pub returns-in_err-m-clause-shown : goal.returns-in_err-m-clause-shown
returns-in_err-m-clause-shown c = nothing_out _ c.from_residual-in_err-m.ensures (second_other (told_number c.read_number.ensures c.in_ok-n.was).0 (told_other c.read_number-2.ensures c.in_err-m.was))

pub returns-in_err-w-clause-shown : goal.returns-in_err-w-clause-shown
returns-in_err-w-clause-shown c = nothing_out _ c.from_residual-in_err-w.ensures (third_other (told_number c.read_number.ensures c.in_ok-n.was).0 (told_number c.read_number-2.ensures c.in_ok-m.was).0 (told_other c.read_number-3.ensures c.in_err-w.was))

pub returns-clause-shown : goal.returns-clause-shown
returns-clause-shown c = three_numbers (told_number c.read_number.ensures c.in_ok-n.was) (told_number c.read_number-2.ensures c.in_ok-m.was) (told_number c.read_number-3.ensures c.in_ok-w.was) c.census_line.ensures.1
