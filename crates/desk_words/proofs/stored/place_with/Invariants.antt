use Rattle.desk_words.proofs.Back.{Passed}
use Rattle.desk_words.proofs.stored.place_with.Given as goal

abbrev pub invariant-loop-i : goal.invariant-loop-i
invariant-loop-i l = Passed l.words l.ticket l.i
