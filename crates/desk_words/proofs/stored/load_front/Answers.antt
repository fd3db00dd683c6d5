use native.Mathlib.Omega.{arith}
use Rattle.desk_words.proofs.Back.{number_at, part_rest}
use Rattle.desk_words.proofs.stored.load_front.Goals as goal

pub returns : goal.returns
returns c = rw (c.run_at.ensures, part_rest c.args.words.now 0 4 16 (omega arith)) (simp number_at)
