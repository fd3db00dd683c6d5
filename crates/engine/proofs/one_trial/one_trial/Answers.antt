use mathlib.Core.Path.{sym, ◌∙◌}
use Rattle.engine.proofs.Trials.{looked_underway, trial_open, trial_found, trial_answered}
use Rattle.engine.proofs.one_trial.one_trial.Goals as goal

pub next_trial-search-requires : goal.next_trial-search-requires
next_trial-search-requires c = search looked_underway

pub returns-in-None : goal.returns-in-None
returns-in-None c = trial_open c.requires c.looked-look.ensures c.next_trial-search.ensures (sym (rw c.found_of.ensures at c.closed.ensures) ∙ c.in-None.is)

pub answered-kept-requires : goal.answered-kept-requires
answered-kept-requires c =
    (c.requires.of.within, c.looked-look.ensures.looked, trial_found c.requires c.looked-look.ensures c.next_trial-search.ensures (sym (rw c.found_of.ensures at c.closed.ensures) ∙ c.in-Some.is))

pub returns-in-Some : goal.returns-in-Some
returns-in-Some c = trial_answered c.requires c.looked-look.ensures c.next_trial-search.ensures (sym (rw c.found_of.ensures at c.closed.ensures) ∙ c.in-Some.is) c.answered-kept.ensures
