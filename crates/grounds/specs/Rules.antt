-- The rules that marked variables pick.
use Rattle.std.specs.Prelude.{ℕ, ◌<◌, ◌≡◌, List, get_or}
use Rattle.reach.specs.Marks.{Marked}

-- One of the first `width` variables is marked and has this pick.
pub record PickedBy (marks picks : List ℕ) (width number : ℕ) : Type 0 where
  pub moment : ℕ
  pub inside : moment < width
  pub marked : Marked marks moment
  pub picked : get_or picks moment 0 ≡ number
