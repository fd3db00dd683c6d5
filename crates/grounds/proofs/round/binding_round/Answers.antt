use Rattle.base.proofs.Lists.{rest_whole}
use Rattle.grounds.proofs.Binding.{binding_is}
use Rattle.grounds.proofs.round.binding_round.Goals as goal

pub returns : goal.returns
returns c = rw (c.of.ensures, rest_whole c.as_slice.result.now c.moment_turn-turns.result.back, c.as_slice.ensures.0)
    (binding_is c.requires (rw c.unwrap-first.ensures at c.beginning.ensures) (rw c.new.ensures at c.moment_turn-turns.ensures))
