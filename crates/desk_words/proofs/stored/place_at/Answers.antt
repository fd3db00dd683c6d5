use mathlib.Core.Path.{sym, ◌∙◌}
use Rattle.desk_words.proofs.Back.{place_in_lem}
use Rattle.desk_words.proofs.stored.place_at.Goals as goal

pub returns-then-at-lt-PLACES : goal.returns-then-at-lt-PLACES
returns-then-at-lt-PLACES c = λ h. place_in_lem _ _ h ∙ sym c.load_place.ensures
