-- Stamps as offset numbers, in the form in which they are tested.
use Rattle.std.specs.Prelude.{◌≡◌, ℕ, List, length, slice_index}
use Rattle.definitions.specs.Limits.{stamp_limit}
use Rattle.definitions.specs.Problem.{Point}
use Rattle.definitions.specs.Offset.{trop_of}
use Rattle.records.specs.Decoded.{Near}

-- The point that stamps, as offset numbers, stand for.
unfoldable pub stamps_point : List ℕ → Point
stamps_point x j = trop_of (slice_index x j)

-- Stamps within their limit.
pub record Stamped (x : List ℕ) : Type 0 where
  pub length_is : length x ≡ 32
  pub near : (k : ℕ) → Near stamp_limit (slice_index x k)
