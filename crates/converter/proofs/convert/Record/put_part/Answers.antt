use native.Mathlib.Omega.{arith}
use Rattle.std.proofs.Common.{◌≡◌, ◌+◌, ◌-◌, sym, ◌∙◌}
use Rattle.definitions.proofs.Questions.{part_length}
use Rattle.converter.proofs.Steps.{mid_put}
use Rattle.converter.proofs.convert.Record.put_part.Goals as goal

pub returns : goal.returns
returns c = let a = c.args in
    let same : a.at + a.count - a.at ≡ a.count = omega arith in
    let long : a.from + a.count - a.from ≡ a.count = omega arith in
    mid_put a.out.now a.at (rw long at c.copy_from_slice.ensures.after) (part_length a.self.now.bytes.now a.from a.count c.requires.0 ∙ sym same)
