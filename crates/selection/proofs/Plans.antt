-- Plans of a selection: with fewer rules no plan is lost (`feasible_selected`), where every plan keeps the rules left out none is won
-- (`feasible_all`); the same plans count (`counted_selected`), and spans stay (`value_selected`). The starts of answers stay too.
use Prim.Native.Nat.{ℕ, zero, suc, ◌≤◌, ◌<◌}
use mathlib.Core.Path.{◌≡◌, ap, sym, subst}
use mathlib.Core.Logic.{⊎_elim, ◌↔◌}
use native.Mathlib.Omega.{arith}
use Rattle.definitions.specs.Tropical.{Finite}
use Rattle.definitions.specs.Problem.{Problem, Point, side, Keeps, Feasible, Counts, minus, value}
use Rattle.definitions.specs.Certificate.{Second, start_of}
use Rattle.definitions.specs.Selection.{row_of, selected, Choice, LeftOut, LeftOutKept, BlankLeft, BlankRow}
use Rattle.base.proofs.Numbers.{nat_le_or_lt}
use Rattle.definitions.proofs.Selection.{row_chosen, row_objective, blank_left_kept}
use Rattle.selection.specs.Chosen.{Chosen}
use Rattle.selection.proofs.Rows.{chosen_or_left_out}

-- A plan that keeps the rules of p keeps those of the selection.
pub feasible_selected : {p : Problem} {f : ℕ → ℕ} {m' : ℕ} {x : Point} → Choice p f m' → Feasible p x → Feasible (selected p f m') x
feasible_selected {p} {f} {m'} {x} c h =
    record { anchored = h.anchored; keeps = λ i l. subst (Keeps p x) (sym (row_chosen p f m' i l)) (h.keeps (f i) (c.inside i l)) }

-- A plan that keeps the rules of the selection keeps those of p, where every plan keeps the rules left out.
pub feasible_all : {p : Problem} {f : ℕ → ℕ} {m' : ℕ} {x : Point} → LeftOutKept p f m' → Feasible (selected p f m') x → Feasible p x
feasible_all {p} {f} {m'} {x} kept h = record {
  anchored = h.anchored;
  keeps = λ i l. ⊎_elim (chosen i l) (λ o. kept i o x h.anchored) (chosen_or_left_out p f m' i (omega arith));
}
  where
    chosen : (i : ℕ) → i < p.m → Chosen p f m' i → Keeps p x i
    chosen i l c = ⊎_elim
        (λ (k : m' ≤ c.place).
        let e : c.place ≡ m' = omega (arith, c.inside) in
        let r : row_of p f m' c.place ≡ p.m = rw (e, row_objective p f m') in
        absurd (omega (arith, c.is)))
        (λ (k : c.place < m'). subst (Keeps p x) c.is (h.keeps c.place k))
        (nat_le_or_lt m' c.place)

-- The span of a plan is the same: the question is.
pub value_selected : (p : Problem) (f : ℕ → ℕ) (m' : ℕ) (x : Point) → value (selected p f m') x ≡ value p x
unfolding value
value_selected p f m' x = ap (λ (i : ℕ). minus (side p.n (p.left i) x) (side p.n (p.right i) x)) (row_objective p f m')

-- It counts in the one where it does in the other.
pub counted_selected : (p : Problem) (f : ℕ → ℕ) (m' : ℕ) {x : Point} → Counts p x ↔ Counts (selected p f m') x
counted_selected p f m' {x} = (
  λ c. record { second = subst (λ (i : ℕ). Finite (side p.n (p.right i) x)) (sym (row_objective p f m')) c.second },
  λ c. record { second = subst (λ (i : ℕ). Finite (side p.n (p.right i) x)) (row_objective p f m') c.second },
)

-- What a start means stays.
pub second_selected : (p : Problem) (f : ℕ → ℕ) (m' : ℕ) {j : ℕ} → Second p j ↔ Second (selected p f m') j
second_selected p f m' {j} = (
  λ s. record { inside = s.inside; right = subst (λ (i : ℕ). Finite (p.right i j)) (sym (row_objective p f m')) s.right },
  λ s. record { inside = s.inside; right = subst (λ (i : ℕ). Finite (p.right i j)) (row_objective p f m') s.right },
)

pub start_selected : (p : Problem) (f : ℕ → ℕ) (m' start j : ℕ) → start_of p start j ↔ start_of (selected p f m') start j
unfolding start_of
start_selected p f m' zero j = (λ e. e, λ e. e)
start_selected p f m' (suc k) j = second_selected p f m'

-- ---- rows left out that every plan keeps

-- Those whose left side is all blank,
pub left_blank_kept : {p : Problem} {f : ℕ → ℕ} {m' : ℕ} → ((i : ℕ) → LeftOut p f m' i → BlankLeft p i) → LeftOutKept p f m'
left_blank_kept blank i o x e = blank_left_kept (blank i o) x

-- and those that are blank on both sides.
pub blank_kept : {p : Problem} {f : ℕ → ℕ} {m' : ℕ} → ((i : ℕ) → LeftOut p f m' i → BlankRow p i) → LeftOutKept p f m'
blank_kept blank = left_blank_kept (λ i o. (blank i o).left)
