use Prim.Native.Nat.{◌*◌}
use mathlib.Core.Path.{refl}
use Rattle.desk.proofs.Kept.{part_end, trial_part}
use Rattle.desk.proofs.calls.tried.Goals as goal

pub one_trial-pending-requires : goal.one_trial-pending-requires
one_trial-pending-requires c = let a = c.args in rw (part_end a.memory.now (a.at * 16394) a.place.size) c.requires.pending

pub returns : goal.returns
returns c = let a = c.args in record { ticket_is = refl; size_is = refl; trial = trial_part a.memory.now (a.at * 16394) a.place.size c.one_trial-pending.ensures }
