-- An input of which the first 20,000 bytes were kept; asked only where it is longer.
use Rattle.std.specs.Prelude.{ℕ, ◌<◌, ◌≡◌, List, length, get_or}
use Rattle.definitions.specs.Limits.{kept_bytes}

-- It has this size, and its first bytes are those that were kept.
pub record Longer (kept : List ℕ) (size : ℕ) (input : List ℕ) : Type 0 where
  pub size_is : length input ≡ size
  pub begins : (i : ℕ) → i < kept_bytes → get_or input i 0 ≡ get_or kept i 0
