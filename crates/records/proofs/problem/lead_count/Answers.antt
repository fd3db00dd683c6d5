use Rattle.std.proofs.Common.{◌+◌, mul-le-mul_right, arith}
use Rattle.records.proofs.problem.lead_count.Goals as goal

pub overflow_mul-result : goal.overflow_mul-result
overflow_mul-result c = omega (arith, mul-le-mul_right {m = c.args.n + 1} {n = 32} c.args.rows (omega (arith, c.requires.0)))

pub overflow_mul-result-2 : goal.overflow_mul-result-2
overflow_mul-result-2 c = omega (arith, mul-le-mul_right {m = c.args.n + 1} {n = 32} c.args.rows (omega (arith, c.requires.0)))

pub returns : goal.returns
returns c = (omega arith, omega (arith, mul-le-mul_right {m = c.args.n + 1} {n = 32} c.args.rows (omega (arith, c.requires.0))))
