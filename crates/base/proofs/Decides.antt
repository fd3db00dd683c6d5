-- Laws of tests: a result that is known, one that another test gives, and all of several.
use mathlib.Core.Path.{sym}
use mathlib.Core.Bool.{Bool, true, false, false≢true}
use Rattle.base.specs.Decides.{Decides}

-- What holds is answered by yes,
pub said_yes : {P : Type 0} → P → Decides P true
said_yes h = record { yes = λ _. h; no = λ e. absurd (false≢true (sym e)) }

-- what does not by no.
pub said_no : {P : Type 0} → (P → ⊥) → Decides P false
said_no h = record { yes = λ e. absurd (false≢true e); no = λ _. h }

-- What is so exactly when P is, is decided with it.
pub decides_as : {P Q : Type 0} {r : Bool} → (P → Q) → (Q → P) → Decides P r → Decides Q r
decides_as f g d = record { yes = λ e. f (d.yes e); no = λ e q. d.no e (g q) }
