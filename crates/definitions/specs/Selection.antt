-- Rows chosen: the problem with some of the inequalities (rules) of another, and its objective (question) last. Document 02 speaks of
-- such problems in 2.5 ("the problem with only these rules and the question"), 2.6 ("drops these rules and closes up the numbers")
-- and 2.10 ("the problem that holds only the rules in force").
use Rattle.std.specs.Prelude.{ℕ, zero, suc, ◌+◌, ◌≤◌, ◌<◌, ◌≡◌, Bool, cond, ◌↔◌, eqb, ltb, ℤ, pos}
use Rattle.definitions.specs.Tropical.{bot, fin}
use Rattle.definitions.specs.Problem.{Problem, Point, Keeps, Optimal, Unbounded, Infeasible}
use Rattle.definitions.specs.Certificate.{Strategy}

-- The row of p that becomes row i: f i for each i below m', and the objective for row m' and what would come after it.
unfoldable pub row_of : Problem → (ℕ → ℕ) → ℕ → ℕ → ℕ
row_of p f m' i = cond (ltb i m') (f i) p.m

-- The problem that has row f i of p for each i below m', and p's objective last, as row m'.
abbrev pub selected : Problem → (ℕ → ℕ) → ℕ → Problem
selected p f m' =
    record {
      n = p.n;
      m = m';
      left = λ i j. p.left (row_of p f m' i) j;
      right = λ i j. p.right (row_of p f m' i) j;
    }

-- Rows chosen by a test, which says of each whether it is left out: how many of the first k stay, and which of them is the i-th that
-- stays, counted from 0.
unfoldable pub left_below : (ℕ → Bool) → ℕ → ℕ
left_below out zero = 0
left_below out (suc k) = left_below out k + cond (out k) 0 1

unfoldable pub left_at : (ℕ → Bool) → ℕ → ℕ → ℕ
left_at out zero i = 0
left_at out (suc k) i = cond (ltb i (left_below out k)) (left_at out k i) k

-- The rows chosen are inequalities of p,
pub record Choice (p : Problem) (f : ℕ → ℕ) (m' : ℕ) : Type 0 where
  pub inside : (i : ℕ) → i < m' → f i < p.m

-- and stand in p's order, so that none stands twice (2.6: "other rows and their order stay").
pub record Ascending (f : ℕ → ℕ) (m' : ℕ) : Type 0 where
  pub rises : (i k : ℕ) → i < k → k < m' → f i < f k

-- Row i is left out: an inequality of p that is not chosen.
pub record LeftOut (p : Problem) (f : ℕ → ℕ) (m' i : ℕ) : Type 0 where
  pub inside : i < p.m
  pub nowhere : (k : ℕ) → k < m' → f k ≡ i → ⊥

-- Every row that is left out is kept by every plan (2.10: "a suspended rule is kept by every plan").
abbrev pub LeftOutKept : Problem → (ℕ → ℕ) → ℕ → Type 0
LeftOutKept p f m' = (i : ℕ) → LeftOut p f m' i → (x : Point) → x 0 ≡ fin (pos 0) → Keeps p x i

-- So it is where the left sides are blank (2.6: "a rule whose left list is all blank"),
pub record BlankLeft (p : Problem) (i : ℕ) : Type 0 where
  pub left : (j : ℕ) → j ≤ p.n → p.left i j ≡ bot

-- and where the rows are blank on both sides, as a suspended rule's is (2.10: "its row gives no arcs").
pub record BlankRow (p : Problem) (i : ℕ) : Type 0 where
  pub left : BlankLeft p i
  pub right : (j : ℕ) → j ≤ p.n → p.right i j ≡ bot

-- q has the class of p, each of the three both ways, and its least span (2.5: "the same class and span").
pub record SameClass (p q : Problem) : Type 0 where
  pub least_exactly : (s : ℤ) → Optimal p s ↔ Optimal q s
  pub bottomless_exactly : Unbounded p ↔ Unbounded q
  pub none_exactly : Infeasible p ↔ Infeasible q

-- ---- pick tables, renumbered

-- Where i stands among row 0, …, row (count − 1): 1 + its place, the last where it stands twice; 0 where it does not.
unfoldable pub place_of : (ℕ → ℕ) → ℕ → ℕ → ℕ
place_of row zero i = 0
place_of row (suc k) i = cond (eqb (row k) i) (suc k) (place_of row k i)

-- A pick of a row: 1 + its number in the selection, so m' + 1 for the objective. A pick of a row that is left out becomes 0, no pick.
unfoldable pub renumber : Problem → (ℕ → ℕ) → ℕ → ℕ → ℕ
renumber p f m' zero = 0
renumber p f m' (suc i) = place_of (row_of p f m') (suc m') i

-- Classes 1 and 3: each variable's pick is renumbered.
abbrev pub renumbered : Problem → (ℕ → ℕ) → ℕ → Strategy → Strategy
renumbered p f m' picks j = renumber p f m' (picks j)

-- Class 2: each row picks what it picked in p; the picks of rows that are left out are dropped.
abbrev pub rows_renumbered : Problem → (ℕ → ℕ) → ℕ → Strategy → Strategy
rows_renumbered p f m' picks i = picks (row_of p f m' i)
