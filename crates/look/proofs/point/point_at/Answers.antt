use Prim.Native.Nat.{◌+◌}
use Rattle.look.proofs.Tables.{level_caps}
use Rattle.look.proofs.point.point_at.Goals as goal

pub iterate-requires : goal.iterate-requires
iterate-requires c = let p = c.requires in (
  record { right = record { tables = p.tables; right_are = p.right_ends }; left_are = p.left_ends },
  rw c.level_caps.ensures (level_caps (c.args.frame.now.n + 1) p.tables.width_most),
)
