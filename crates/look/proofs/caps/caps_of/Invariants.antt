use Rattle.look.specs.Look.{CapsFor}
use Rattle.look.proofs.caps.caps_of.Given as goal

abbrev pub invariant-loop-j : goal.invariant-loop-j
invariant-loop-j l = CapsFor l.left l.row l.j l.out
