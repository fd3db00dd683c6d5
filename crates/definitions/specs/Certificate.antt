-- What the checker judges: a strategy (pick table) and the cycles that it leaves. Document 01, "The checker".
-- Each class's conditions are stated from any start, a set of variables; document 02, 2.4, says which set an answer's start means.
-- A pick is 0 for none; else it is 1 + the number of a row (classes 1 and 3) or of a variable (class 2). Variables are document
-- 01's moments, coefficients its leads, inequalities its rules; the objective, row m, is its question.
use Rattle.std.specs.Prelude.{ℕ, zero, suc, ◌≤◌, ◌≡◌, cond, ◌⊎◌, eqb, ℤ, pos, ◌+ℤ◌, ◌-ℤ◌, ◌≤ℤ◌, ◌<ℤ◌}
use Rattle.definitions.specs.Tropical.{fin, Finite}
use Rattle.definitions.specs.Problem.{Problem, Point, Feasible, value, whole}

-- A strategy: the pick of each variable (classes 1 and 3) or of each row (class 2).
abbrev pub Strategy : Type 0
Strategy = ℕ → ℕ

-- Reached: the start is, and whatever a reached variable leads to.
pub data Reachable (Start : ℕ → Type 0) (Leads : ℕ → ℕ → Type 0) : ℕ → Type 0 where
  start : {j : ℕ} → Start j → Reachable Start Leads j
  onward : {j l : ℕ} → Reachable Start Leads j → Leads j l → Reachable Start Leads l

-- Document 01's start: variable 0, the anchor.
abbrev pub Anchor : ℕ → Type 0
Anchor j = j ≡ 0

-- Document 02, 2.4: all variables with a non-blank coefficient in the objective's second list.
pub record Second (p : Problem) (j : ℕ) : Type 0 where
  pub inside : j ≤ p.n
  pub right : Finite (p.right p.m j)

-- What the start of an answer of class 1 or 3 means: 0 the anchor; 1 all variables of the second list, and the anchor only if it is one of
-- them. (A start above 1 is refused by 10, and never asked for here.)
unfoldable pub start_of : Problem → ℕ → ℕ → Type 0
start_of p zero = Anchor
start_of p (suc k) = Second p

-- In class 2, where the start is 1 + the number k of one variable: that one and the anchor.
abbrev pub AnchorAnd : ℕ → ℕ → Type 0
AnchorAnd k j = Anchor j ⊎ (j ≡ k)

-- A walk along arcs `Arc from to weight`, with its ends, its number of arcs and its weight.
pub data Walk (Arc : ℕ → ℕ → ℤ → Type 0) : ℕ → ℕ → ℕ → ℤ → Type 0 where
  stop : {j : ℕ} → Walk Arc j j 0 (pos 0)
  step : {j l k n : ℕ} {w v : ℤ} → Arc j l w → Walk Arc l k n v → Walk Arc j k (suc n) (w +ℤ v)

-- The walk uses an arc with the property Q: one of its arcs has it.
unfoldable pub Uses : {Arc : ℕ → ℕ → ℤ → Type 0} (Q : (j l : ℕ) (w : ℤ) → Arc j l w → Type 0) {j k n : ℕ} {w : ℤ}
    → Walk Arc j k n w → Type 0
Uses Q stop = ⊥
Uses Q (step {j = j} {l = l} {w = w} arc rest) = Q j l w arc ⊎ Uses Q rest

-- The walk goes through distinct variables: no arc starts where an earlier one did.
unfoldable pub Distinct : {Arc : ℕ → ℕ → ℤ → Type 0} {j k n : ℕ} {w : ℤ} → Walk Arc j k n w → Type 0
Distinct stop = Unit
Distinct (step {j = j} arc rest) = (Uses (λ i l w a. i ≡ j) rest → ⊥) × Distinct rest

-- A reached cycle of weight w: a closed walk through distinct variables, of at least one arc, from a reached variable. (Arcs lead
-- on, so all its variables are reached.)
pub record Cycle (Start : ℕ → Type 0) (Leads : ℕ → ℕ → Type 0) (Arc : ℕ → ℕ → ℤ → Type 0) (w : ℤ) : Type 0 where
  pub at : ℕ
  pub arcs : ℕ
  pub reachable : Reachable Start Leads at
  pub walk : Walk Arc at at (suc arcs) w
  pub distinct : Distinct walk

-- No reached cycle uses an arc with the property Q.
abbrev pub NoCycleUses : (Start : ℕ → Type 0) (Leads : ℕ → ℕ → Type 0) (Arc : ℕ → ℕ → ℤ → Type 0)
    → ((j l : ℕ) (w : ℤ) → Arc j l w → Type 0) → Type 0
NoCycleUses Start Leads Arc Q = (w : ℤ) (c : Cycle Start Leads Arc w) → Uses Q c.walk → ⊥

-- What an arc by row i weighs more: t for the objective, nothing for an inequality.
unfoldable pub raise : Problem → ℤ → ℕ → ℤ
raise p t i = cond (eqb i p.m) t (pos 0)

-- An arc by row i from variable j to variable l: right coefficient l − left coefficient j, raised. Both are finite.
pub record ArcBy (p : Problem) (t : ℤ) (i j l : ℕ) (w : ℤ) : Type 0 where
  pub a : ℤ
  pub b : ℤ
  pub left_is : p.left i j ≡ fin a
  pub right_is : p.right i l ≡ fin b
  pub weighs : w ≡ (b -ℤ a) +ℤ raise p t i

-- ---- classes 1 and 3: a strategy of variables

-- Variable j with a row picked leads to every variable l whose right coefficient in that row is not blank.
pub record Leads (p : Problem) (picks : Strategy) (j l : ℕ) : Type 0 where
  pub row : ℕ
  pub picked : picks j ≡ suc row
  pub inside : l ≤ p.n
  pub right : Finite (p.right row l)

-- The arcs of a strategy of variables: by the row that j picks, to a variable l.
pub record Arc (p : Problem) (picks : Strategy) (t : ℤ) (j l : ℕ) (w : ℤ) : Type 0 where
  pub row : ℕ
  pub picked : picks j ≡ suc row
  pub inside : l ≤ p.n
  pub by : ArcBy p t row j l w

-- Variable j has a pick whose left coefficient for it is not blank. (That a pick is none above the highest is the record's
-- form, refusal 13.)
pub record HasPick (p : Problem) (picks : Strategy) (j : ℕ) : Type 0 where
  pub row : ℕ
  pub picked : picks j ≡ suc row
  pub left : Finite (p.left row j)

-- Every reached variable has such a pick.
abbrev pub PicksCount : (ℕ → Type 0) → Problem → Strategy → Type 0
PicksCount Start p picks = (j : ℕ) → Reachable Start (Leads p picks) j → HasPick p picks j

-- Every reached cycle weighs below zero when each arc by the objective weighs t more.
abbrev pub BelowZero : (ℕ → Type 0) → Problem → Strategy → ℤ → Type 0
BelowZero Start p picks t = (w : ℤ) → Cycle Start (Leads p picks) (Arc p picks t) w → w <ℤ pos 0

-- No reached cycle uses the objective.
abbrev pub ObjectiveUnused : (ℕ → Type 0) → Problem → Strategy → Type 0
ObjectiveUnused Start p picks = NoCycleUses Start (Leads p picks) (Arc p picks (pos 0)) (λ j l w arc. arc.row ≡ p.m)

-- Class 1, accepted: the point is feasible, its value is the span field s, every reached variable has a pick whose left
-- coefficient for it is not blank, and every reached cycle weighs below zero when each arc by the objective weighs s − 1 more.
pub record AcceptedOptimal (Start : ℕ → Type 0) (p : Problem) (s : ℤ) (x : Point) (picks : Strategy) : Type 0 where
  pub feasible : Feasible p x
  pub value_is : value p x ≡ whole s
  pub picks_count : PicksCount Start p picks
  pub below_zero : BelowZero Start p picks (s -ℤ pos 1)

-- Class 3, accepted: picks as in class 1; no reached cycle uses the objective; every reached cycle weighs below zero.
pub record AcceptedInfeasible (Start : ℕ → Type 0) (p : Problem) (picks : Strategy) : Type 0 where
  pub picks_count : PicksCount Start p picks
  pub no_objective : ObjectiveUnused Start p picks
  pub below_zero : BelowZero Start p picks (pos 0)

-- ---- class 2: a strategy of rows

-- Variable j leads, by every row whose left coefficient for it is not blank, to the variable that the row picks.
pub record RowLeads (p : Problem) (picks : Strategy) (j l : ℕ) : Type 0 where
  pub row : ℕ
  pub inside : row ≤ p.m
  pub left : Finite (p.left row j)
  pub picked : picks row ≡ suc l

-- The arcs of a strategy of rows: by a row to the variable that it picks.
pub record RowArc (p : Problem) (picks : Strategy) (t : ℤ) (j l : ℕ) (w : ℤ) : Type 0 where
  pub row : ℕ
  pub inside : row ≤ p.m
  pub picked : picks row ≡ suc l
  pub by : ArcBy p t row j l w

-- Row i picks a variable whose right coefficient is not blank. (That the pick is a variable of the problem is the record's form, refusal 13.)
pub record RowHasPick (p : Problem) (picks : Strategy) (i : ℕ) : Type 0 where
  pub variable : ℕ
  pub picked : picks i ≡ suc variable
  pub right : Finite (p.right i variable)

-- Every row with a non-blank left coefficient of a reached variable has such a pick.
abbrev pub RowPicksCount : (ℕ → Type 0) → Problem → Strategy → Type 0
RowPicksCount Start p picks =
    (i j : ℕ) → i ≤ p.m → Reachable Start (RowLeads p picks) j → Finite (p.left i j) → RowHasPick p picks i

-- Every reached cycle weighs zero or more when each arc by the objective weighs t more.
abbrev pub AtLeastZero : (ℕ → Type 0) → Problem → Strategy → ℤ → Type 0
AtLeastZero Start p picks t = (w : ℤ) → Cycle Start (RowLeads p picks) (RowArc p picks t) w → pos 0 ≤ℤ w

-- No reached cycle uses the objective.
abbrev pub ObjectiveUnusedByRows : (ℕ → Type 0) → Problem → Strategy → Type 0
ObjectiveUnusedByRows Start p picks = NoCycleUses Start (RowLeads p picks) (RowArc p picks (pos 0)) (λ j l w arc. arc.row ≡ p.m)

-- Class 2, accepted: every row with a non-blank left coefficient of a reached variable picks a variable with a non-blank
-- right coefficient; no reached cycle uses the objective; every reached cycle weighs zero or more.
pub record AcceptedUnbounded (Start : ℕ → Type 0) (p : Problem) (picks : Strategy) : Type 0 where
  pub picks_count : RowPicksCount Start p picks
  pub no_objective : ObjectiveUnusedByRows Start p picks
  pub zero_or_more : AtLeastZero Start p picks (pos 0)
