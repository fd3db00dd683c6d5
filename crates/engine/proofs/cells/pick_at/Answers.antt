use Rattle.engine.proofs.Packing.{near_pick, far_pick}
use Rattle.engine.proofs.cells.pick_at.Goals as goal

pub returns-then-k-lt-STRIDE : goal.returns-then-k-lt-STRIDE
returns-then-k-lt-STRIDE c = search near_pick

pub returns-else-k-lt-STRIDE : goal.returns-else-k-lt-STRIDE
returns-else-k-lt-STRIDE c = search far_pick
