-- A problem in two tables: what a frame holds of it, a row of a table, and the objective's row raised by t.
use Rattle.std.specs.Prelude.{ℕ, ◌+◌, ◌*◌, ◌-◌, ◌≤◌, ◌<◌, ◌≡◌, cond, List, eqb, length, get_or}
use Rattle.base.specs.Filled.{Filled}
use Rattle.definitions.specs.Limits.{signed_half, highest_n, highest_m, lead_limit, table_size, stride}
use Rattle.definitions.specs.Problem.{Problem}
use Rattle.policy_iteration.specs.Tables.{entry_of, Table}
use Rattle.policy_iteration.specs.Ends.{EndsOf}
use Rattle.look.specs.declared.frame.Frame.{Frame}

-- A coefficient raised by t: blank stays blank.
unfoldable pub shifted : ℕ → ℕ → ℕ
shifted k t = cond (eqb k 0) 0 (k + t - signed_half)

-- The first n entries of row `row` are raised by t; the rest of the table is as before.
pub record Raised (before : List ℕ) (row t n : ℕ) (after : List ℕ) : Type 0 where
  pub size : length after ≡ table_size
  pub raised : (l : ℕ) → l < n → get_or after (row * stride + l) 0 ≡ shifted (get_or before (row * stride + l) 0) t
  pub above : (k : ℕ) → k < row * stride → get_or after k 0 ≡ get_or before k 0
  pub below : (k : ℕ) → row * stride + n ≤ k → get_or after k 0 ≡ get_or before k 0

-- A row of a table, copied.
abbrev pub Copied : List ℕ → ℕ → ℕ → List ℕ → Type 0
Copied table row n out = Filled (λ l v. v ≡ get_or table (row * stride + l) 0) stride n out

-- Tables of n + 1 variables and m + 1 rows within the leads' limit.
pub record Coefficients (n m : ℕ) (left right : List ℕ) : Type 0 where
  pub n_most : n ≤ highest_n
  pub m_most : m ≤ highest_m
  pub lefts : Table lead_limit left
  pub rights : Table lead_limit right

-- The frame tells the ends of the rows of such tables.
pub record Ready (f : Frame) : Type 0 where
  pub coefficients : Coefficients f.n f.m f.left.now f.right.now
  pub left_ends : EndsOf f.left.now (f.m + 1) f.left_ends
  pub right_ends : EndsOf f.right.now (f.m + 1) f.right_ends

-- The frame of the problem in two tables.
pub record FrameOf (n m : ℕ) (left right : List ℕ) (f : Frame) : Type 0 where
  pub n_is : f.n ≡ n
  pub m_is : f.m ≡ m
  pub left_is : f.left.now ≡ left
  pub right_is : f.right.now ≡ right
  pub ready : Ready f

-- The tables hold the problem, every row as it is.
pub record Held (p : Problem) (n m : ℕ) (left right : List ℕ) : Type 0 where
  pub n_is : p.n ≡ n
  pub m_is : p.m ≡ m
  pub left_is : (i j : ℕ) → i ≤ m → j ≤ n → entry_of left i j ≡ p.left i j
  pub right_is : (i j : ℕ) → i ≤ m → j ≤ n → entry_of right i j ≡ p.right i j
