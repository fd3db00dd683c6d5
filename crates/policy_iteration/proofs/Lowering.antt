-- Laws of a row that lowers the values of its variables.
use Prim.Native.Nat.{ℕ, ◌≤◌, ◌<◌}
use mathlib.Core.Path.{◌≡◌}
use borrow.Author.Tests.{lt-ltb, le-ltb}
use Rattle.policy_iteration.specs.Steps.{lesser, chosen_by}

pub lesser_first : (a b : ℕ) → a < b → a ≡ lesser a b
lesser_first a b h = rw (lt-ltb a b h)

pub lesser_second : (a b : ℕ) → b ≤ a → b ≡ lesser a b
lesser_second a b h = rw (le-ltb a b h)

pub chosen_first : (a b i k : ℕ) → a < b → i ≡ chosen_by a b i k
chosen_first a b i k h = rw (lt-ltb a b h)

pub chosen_second : (a b i k : ℕ) → b ≤ a → k ≡ chosen_by a b i k
chosen_second a b i k h = rw (le-ltb a b h)
