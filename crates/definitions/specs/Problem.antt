-- A problem, its points, and what the least span is: tropical linear-fractional programming (arXiv 1101.3431)
-- over whole numbers, of the plans that count (document 02, 2.4). Document 01, "Moments, rules and spans".
use Rattle.std.specs.Prelude.{ℕ, suc, ◌<◌, ◌≡◌, ℤ, pos, ◌-ℤ◌, ◌≤ℤ◌}
use Rattle.definitions.specs.Tropical.{Trop, bot, fin, plus, largest, ◌⊑◌, Finite}

-- A problem: variables (moments) 0 to n, inequalities (rules) in rows 0 to m − 1, the objective (question) in row m.
-- `left i j` is row i's left coefficient (lead) of variable j, `right i j` its right one; of the objective's row the
-- left is the first list, the right the second.
pub record Problem : Type 0 where
  pub n : ℕ
  pub m : ℕ
  pub left : ℕ → ℕ → Trop
  pub right : ℕ → ℕ → Trop

-- A point: a whole number or blank for each variable, without limit; read at 0 to n. A plan is a point with the anchor at 0.
abbrev pub Point : Type 0
Point = ℕ → Trop

-- One side of a row: the largest of coefficient + variable over the variables 0 to n.
unfoldable pub side : ℕ → (ℕ → Trop) → Point → Trop
side n coefficients x = largest (λ j. plus (coefficients j) (x j)) (suc n)

-- The point keeps the row: its left side is at most its right side.
abbrev pub Keeps : Problem → Point → ℕ → Type 0
Keeps p x i = side p.n (p.left i) x ⊑ side p.n (p.right i) x

-- A feasible point (a plan that keeps the rules): variable 0, the anchor, is at 0, and every inequality is kept.
pub record Feasible (p : Problem) (x : Point) : Type 0 where
  pub anchored : x 0 ≡ fin (pos 0)
  pub keeps : (i : ℕ) → i < p.m → Keeps p x i

-- A value (span): a whole number, or one of the two infinities.
pub data Value : Type 0 where
  minus_infinity : Value
  whole : ℤ → Value
  plus_infinity : Value

-- The order of values: minus infinity is below every whole number, plus infinity above every one.
infix 4 ◌≼◌
pub data ◌≼◌ : Value → Value → Type 0 where
  lowest : {v : Value} → minus_infinity ≼ v
  between : {a b : ℤ} → a ≤ℤ b → whole a ≼ whole b
  highest : {v : Value} → v ≼ plus_infinity

-- First minus second (formula 22). First blank: minus infinity, also when both are. Only the second blank: plus infinity. (Plans whose
-- second list is blank, so those with both lists blank too, no longer count: document 02, 2.4.)
unfoldable pub minus : Trop → Trop → Value
minus bot second = minus_infinity
minus (fin a) bot = plus_infinity
minus (fin a) (fin b) = whole (a -ℤ b)

-- The objective value of a point (the span of a plan).
unfoldable pub value : Problem → Point → Value
value p x = minus (side p.n (p.left p.m) x) (side p.n (p.right p.m) x)

-- Document 02, 2.4: a plan counts only if its second list is not blank: the question's right side is a whole number.
pub record Counts (p : Problem) (x : Point) : Type 0 where
  pub second : Finite (side p.n (p.right p.m) x)

-- Attainable within t (a span t is possible): some feasible point that counts has a value of at most t.
pub record Attainable (p : Problem) (t : ℤ) : Type 0 where
  pub point : Point
  pub feasible : Feasible p point
  pub counts : Counts p point
  pub within : value p point ≼ whole t

-- Optimal s (least): some feasible point that counts has value s, and every feasible point that counts has at least that.
pub record Optimal (p : Problem) (s : ℤ) : Type 0 where
  pub point : Point
  pub feasible : Feasible p point
  pub counts : Counts p point
  pub value_is : value p point ≡ whole s
  pub least : (y : Point) → Feasible p y → Counts p y → whole s ≼ value p y

-- Unbounded (bottomless): for every whole number some feasible point that counts has a value at or under it.
abbrev pub Unbounded : Problem → Type 0
Unbounded p = (t : ℤ) → Attainable p t

-- Infeasible (none): no feasible point that counts has a value below plus infinity. (Points that keep the rules may be there; where
-- one counts, its value is below plus infinity, so none counts.)
abbrev pub Infeasible : Problem → Type 0
Infeasible p = (x : Point) → Feasible p x → Counts p x → plus_infinity ≼ value p x
