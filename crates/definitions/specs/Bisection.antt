-- The bisection: which trials document 01 counts, and how many. Document 01, "The engine" (Algorithm 1), with
-- the outer trials of document 02, 2.2.
use Rattle.std.specs.Prelude.{ℕ, zero, suc, ◌+◌, ◌/◌, Bool, true, false, eqb, ℤ, pos, negsuc, neg_ℤ, nat_abs, ◌+ℤ◌, ◌-ℤ◌, ◌≤ℤ◌, ◌<ℤ◌}
use Rattle.std.specs.Int.Signed.{le_z}
use Rattle.definitions.specs.Limits.{top_trial, lowest_trial}

-- The bracket of a search for the least possible span: between a `low` that is not possible and a `high` that is.
pub record Bracket : Type 0 where
  pub low : ℤ
  pub high : ℤ

-- It starts at the two outer trials.
unfoldable pub opening : Bracket
opening = record { low = lowest_trial; high = top_trial }

-- Half of a whole number, rounded up.
unfoldable pub half_up : ℤ → ℤ
half_up (pos k) = pos ((k + 1) / 2)
half_up (negsuc k) = neg_ℤ (pos (suc k / 2))

-- The middle is (high + low) / 2 rounded up.
unfoldable pub middle : Bracket → ℤ
middle b = half_up (b.high +ℤ b.low)

-- A possible middle becomes high, another becomes low.
unfoldable pub next : Bracket → Bool → Bracket
next b true = record { low = b.low; high = middle b }
next b false = record { low = middle b; high = b.high }

-- high − low.
unfoldable pub width : Bracket → ℕ
width b = nat_abs (b.high -ℤ b.low)

-- Where the halving ends: its high, and the halvings counted.
pub record Halved : Type 0 where
  pub least : ℤ
  pub halvings : ℕ

-- One halving more.
unfoldable pub counted : Halved → Halved
counted h = record { least = h.least; halvings = suc h.halvings }

-- It stops when high − low is 1, and high is the least span. `turns` bounds the halvings.
unfoldable pub halve : ℕ → (ℤ → Bool) → Bracket → Halved
halve zero possible b = record { least = b.high; halvings = 0 }
halve (suc turns) possible b =
    elim (eqb (width b) 1) [ true ↦ record { least = b.high; halvings = 0 } | false ↦ counted (halve turns possible (next b (possible (middle b)))) ]

-- The halving of a bracket for a least span s, where t is possible exactly when s ≤ t. Each halving of a bracket wider than 1
-- makes it narrower, so its width bounds their number.
unfoldable pub halved : Bracket → ℤ → Halved
halved b s = halve (width b) (λ t. le_z s t) b

-- The trials of each class: 1 for none, 2 for bottomless, else 2 plus the halvings.
abbrev pub trials_infeasible : ℕ
trials_infeasible = 1

abbrev pub trials_unbounded : ℕ
trials_unbounded = 2

unfoldable pub trials_optimal : ℤ → ℕ
trials_optimal s = 2 + (halved opening s).halvings

-- A bracket in which the least span s lies: low is not possible, high is.
pub record Brackets (b : Bracket) (s : ℤ) : Type 0 where
  pub above : b.low <ℤ s
  pub within : s ≤ℤ b.high
