use mathlib.Core.Path.{sym, ◌∙◌}
use Rattle.engine.proofs.Trials.{answered_found, cells_found, handed_over}
use Rattle.engine.proofs.one_trial.hand_over.Goals as goal

pub unwrap-found-requires : goal.unwrap-found-requires
unwrap-found-requires c = rw (c.closed.ensures, c.found_of.ensures) (answered_found c.requires.0)

pub write_found-requires : goal.write_found-requires
write_found-requires c = cells_found c.requires.0 (sym (rw c.found_of.ensures at c.closed.ensures) ∙ c.unwrap-found.ensures) c.stamps_in.ensures c.picks_in.ensures c.requires.1

pub returns : goal.returns
returns c = handed_over c.requires.0 (sym (rw c.found_of.ensures at c.closed.ensures) ∙ c.unwrap-found.ensures) c.stamps_in.ensures c.picks_in.ensures c.write_found.ensures.size_is c.write_found.ensures.record_stands
