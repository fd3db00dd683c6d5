use native.Mathlib.Omega.{arith}
use native.Mathlib.Nat.{add-zero}
use Rattle.desk_words.proofs.Back.{number_at, part_rest}
use Rattle.desk_words.proofs.stored.load_place.Goals as goal

pub returns : goal.returns
returns c = let a = c.args in rw (c.run_at.ensures, c.class_from.ensures, part_rest a.words.now a.at 10 32 (omega arith)) (simp (number_at, add-zero))
