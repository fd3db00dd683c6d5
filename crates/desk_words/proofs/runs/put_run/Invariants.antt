use Rattle.desk_words.proofs.Back.{Putting}
use Rattle.desk_words.proofs.runs.put_run.Given as goal

abbrev pub invariant-loop-j : goal.invariant-loop-j
invariant-loop-j l = Putting l.initial.words l.rest l.indices l.j l.words
