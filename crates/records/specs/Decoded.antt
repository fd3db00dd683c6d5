-- A problem in two tables of offset numbers, 64 rows of 32: the form in which checker and engine work.
use Rattle.std.specs.Prelude.{◌≡◌, ℕ, ◌+◌, ◌*◌, ◌<◌, ◌≤◌, List, length, slice_index}
use Rattle.definitions.specs.Limits.{highest_n, highest_m, lead_limit, signed_half, table_size, stride}
use Rattle.definitions.specs.Problem.{Problem}
use Rattle.definitions.specs.Offset.{trop_of}

-- An offset number that is 0 or within d of that of 0.
pub record Near (d k : ℕ) : Type 0 where
  pub hi : k ≤ signed_half + d
  pub lo : 0 < k → signed_half ≤ k + d

-- The tables hold the problem: row i's coefficient of variable j stands at 32 i + j; all are within the leads' limit.
pub record Decoded (p : Problem) (left right : List ℕ) : Type 0 where
  pub n_most : p.n ≤ highest_n
  pub m_most : p.m ≤ highest_m
  pub left_length : length left ≡ table_size
  pub right_length : length right ≡ table_size
  pub left_is : (i j : ℕ) → i ≤ p.m → j ≤ p.n → trop_of (slice_index left (i * stride + j)) ≡ p.left i j
  pub right_is : (i j : ℕ) → i ≤ p.m → j ≤ p.n → trop_of (slice_index right (i * stride + j)) ≡ p.right i j
  pub left_near : (k : ℕ) → Near lead_limit (slice_index left k)
  pub right_near : (k : ℕ) → Near lead_limit (slice_index right k)

-- The tables hold this problem, with this n and m.
pub record InTables (p : Problem) (n m : ℕ) (left right : List ℕ) : Type 0 where
  pub n_is : p.n ≡ n
  pub m_is : p.m ≡ m
  pub decoded : Decoded p left right

-- Two tables that agree in every row but the objective's.
pub record Steady (m : ℕ) (before after : List ℕ) : Type 0 where
  pub above : (k : ℕ) → k < m * stride → slice_index after k ≡ slice_index before k
  pub below : (k : ℕ) → m * stride + stride ≤ k → slice_index after k ≡ slice_index before k

-- A table of which only the objective's row was rewritten.
pub record Rewritten (m : ℕ) (before after : List ℕ) : Type 0 where
  pub size : length after ≡ table_size
  pub steady : Steady m before after
