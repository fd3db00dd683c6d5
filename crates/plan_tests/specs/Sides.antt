-- One side of a row at a point, on offset numbers. Stamps enter lowered by 2³⁰, so that their sums with coefficients stay
-- below 2³².
use Rattle.std.specs.Prelude.{ℕ, zero, suc, ◌+◌, ◌*◌, ◌-◌, ◌≤◌, ◌<◌, ◌≡◌, Bool, cond, List, eqb, length, get_or}
use Rattle.base.specs.Numbers.{most}
use Rattle.base.specs.Filled.{Filled}
use Rattle.base.specs.Decides.{Decides}
use Rattle.definitions.specs.Limits.{lead_limit, stamp_limit, signed_bytes, signed_full, stride}
use Rattle.definitions.specs.Offset.{off}
use Rattle.records.specs.Decoded.{Near}
use Rattle.problem_records.specs.Tables.{lead_at}

-- What stamps are lowered by: 2³⁰.
abbrev pub stamp_drop : ℕ
stamp_drop = 1073741824

-- A stamp lowered; blank stays 0.
unfoldable pub lowered : ℕ → ℕ
lowered k = cond (eqb k 0) 0 (k - stamp_drop)

-- The first k stamps, lowered, then blanks: 32 places.
abbrev pub Lowered : List ℕ → ℕ → List ℕ → Type 0
Lowered stamps k x = Filled (λ l v. v ≡ lowered (get_or stamps l 0)) stride k x

-- A lead and a lowered stamp in range have a sum above this, 2³¹ + 2²⁹, where both are whole, and below it where one is blank.
abbrev pub side_floor : ℕ
side_floor = 2684354560

-- Lead l of those from a place of the bytes on, as an offset number.
abbrev pub run : List ℕ → ℕ → ℕ → ℕ
run s at l = lead_at s (at + signed_bytes * l)

-- The largest of the floor and the first k sums: a coefficient and an element of x.
unfoldable pub best_sum : (ℕ → ℕ) → List ℕ → ℕ → ℕ
best_sum f x zero = side_floor
best_sum f x (suc k) = most (best_sum f x k) (f k + get_or x k 0)

-- The side as an offset number: blank where each sum has a blank in it, else the largest sum, less what two offset numbers add
-- up to too much.
abbrev pub side_by : ℕ → ℕ
side_by best = cond (eqb best side_floor) 0 (best - stamp_drop)

unfoldable pub side_of : (ℕ → ℕ) → List ℕ → ℕ → ℕ
side_of f x k = side_by (best_sum f x k)

-- Lowered stamps, none above the highest.
abbrev pub Low : List ℕ → Type 0
Low x = (l : ℕ) → get_or x l 0 ≤ stamp_drop + stamp_limit

-- At most 32 leads from a place on, inside the bytes and in range, and lowered stamps, none above the highest.
pub record RowSized (s : List ℕ) (at count : ℕ) (x : List ℕ) : Type 0 where
  pub inside : at + signed_bytes * count ≤ length s
  pub few : count ≤ stride
  pub leads : (l : ℕ) → l < count → Near lead_limit (run s at l)
  pub points : Low x

-- The largest of the floor and `count` sums of leads from a place on and lowered stamps, as a field.
pub record BestIs (s : List ℕ) (at count : ℕ) (x : List ℕ) (r : ℕ) : Type 0 where
  pub is : off r ≡ best_sum (run s at) x count
  pub field : r < signed_full

-- Whether none of these sums is above a limit.
abbrev pub NoneOver : List ℕ → ℕ → ℕ → List ℕ → ℕ → Bool → Type 0
NoneOver s at count x limit r = Decides (best_sum (run s at) x count ≤ limit) r
