use Rattle.problem_records.proofs.InForce.{room_framed, room_tables}
use Rattle.problem_records.proofs.reader.read_in_force.Goals as goal

pub in_force-room-requires : goal.in_force-room-requires
in_force-room-requires c = c.requires.0

pub read_tables-requires : goal.read_tables-requires
read_tables-requires c = room_framed c.requires.0 c.in_force-room.ensures c.requires.1 c.requires.2

pub returns : goal.returns
returns c = room_tables c.requires.0 c.in_force-room.ensures c.read_tables.ensures
