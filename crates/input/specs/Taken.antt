-- What reading takes of the bytes that a reader has left, where it is known which these are.
use Rattle.std.specs.Prelude.{ℕ, ◌≡◌, List, ⊤, Option, None, Some, Ok, Err}
use Rattle.std.specs.Io.KnownBytes.{Consumes, Keeps, IsAtEnd}
use Rattle.definitions.specs.Bytes.{Bytes}
use Rattle.definitions.specs.Programs.{ReadFrom}
use Rattle.input.specs.Came.{Answer, Came}

-- The bytes that came are the first that the reader had left.
pub record Taken (left rest : Option (List ℕ)) (before : List ℕ) (size r : ℕ) (after : List ℕ) : Type 0 where
  pub came : Came before size r after
  pub first : Consumes left rest came.bytes

-- What one read took: the bytes that came, none only where none was left; and a failed read none.
abbrev pub OnceTaken : Option (List ℕ) → Option (List ℕ) → List ℕ → ℕ → Answer → List ℕ → Type 0
OnceTaken left rest before size (Ok r) after = Taken left rest before size r after × (r ≡ 0 → IsAtEnd rest)
OnceTaken left rest before size (Err e) after = Keeps left rest

-- What reading to the end took: bytes that the reader had left are read as the programs' contracts ask for.
abbrev pub AllTaken : Option (List ℕ) → Answer → List ℕ → Type 0
AllTaken None result after = ⊤
AllTaken (Some input) (Err e) after = ⊤
AllTaken (Some input) (Ok size) after = Bytes input → ReadFrom after size input
