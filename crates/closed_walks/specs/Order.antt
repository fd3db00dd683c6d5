-- The marked variables, one after the other.
use Rattle.std.specs.Prelude.{◌≡◌, ℕ, zero, suc, ◌<◌, ◌≤◌, List, length, slice_index}
use Rattle.definitions.specs.Limits.{stride}
use Rattle.reach.specs.Marks.{Marked}

-- The first variable that the first i places of a list leave: one past the last of them.
unfoldable pub past : List ℕ → ℕ → ℕ
past places zero = 0
past places (suc i) = suc (slice_index places i)

-- The first `count` places are the marked variables below `width`, ascending: each is marked, and none that is left out is.
pub record Ordered (marks : List ℕ) (width : ℕ) (places : List ℕ) (count : ℕ) : Type 0 where
  pub length_is : length places ≡ stride
  pub few : count ≤ width
  pub inside : (i : ℕ) → i < count → slice_index places i < width
  pub marked : (i : ℕ) → i < count → Marked marks (slice_index places i)
  pub ascending : (i : ℕ) → i < count → past places i ≤ slice_index places i
  pub between : (i j : ℕ) → i < count → past places i ≤ j → j < slice_index places i → Marked marks j → ⊥
  pub after : (j : ℕ) → past places count ≤ j → j < width → Marked marks j → ⊥
