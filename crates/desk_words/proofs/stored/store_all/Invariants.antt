use Rattle.desk_words.proofs.Back.{AllPut}
use Rattle.desk_words.proofs.stored.store_all.Given as goal

abbrev pub invariant-loop-i : goal.invariant-loop-i
invariant-loop-i l = AllPut l.front l.place l.initial.words l.i l.words
