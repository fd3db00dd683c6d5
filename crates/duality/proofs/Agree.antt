-- Two systems that agree in their rows, variables and caps, with strategies that agree there, have the same values, the same
-- kept strategies and the same solutions.
use Prim.Native.Nat.{ℕ, suc, ◌≤◌, ◌<◌}
use mathlib.Core.Path.{◌≡◌, refl, sym, ap, ap₂, subst, ◌∙◌}
use mathlib.Core.Logic.{⊎_elim}
use native.Mathlib.Omega.{arith}
use lib.IntN.{ℤ, pos}
use lib.Signed.{◌<ℤ◌}
use Rattle.base.proofs.Numbers.{nat_le_or_lt}
use Rattle.definitions.specs.Tropical.{Trop, fin, plus, largest, ◌⊑◌, Finite}
use Rattle.definitions.specs.Problem.{Point}
use Rattle.definitions.specs.Certificate.{Strategy, Walk}
use Rattle.definitions.proofs.Tropical.{⊑_antisym, ⊑_of_eq, ⊑_trans, largest_ext}
use Rattle.duality.specs.System.{System, side_of, Solves, Arc}
use Rattle.duality.specs.Values.{difference, weight_by, exit_by, weights, exits, values, Policy}
use Rattle.duality.proofs.Walks.{walk_keep}
use Rattle.duality.proofs.Longest.{value_mono, entries_end}
use Rattle.duality.proofs.Weights.{weight_picked, weight_terminal, exit_picked, exit_terminal, arcs_entries}

-- The systems agree in their rows, variables and caps.
pub record Agree (s s' : System) : Type 0 where
  pub variables : s.variables ≡ s'.variables
  pub rows : s.rows ≡ s'.rows
  pub left : (i j : ℕ) → i < s.rows → j < s.variables → s.left i j ≡ s'.left i j
  pub right : (i j : ℕ) → i < s.rows → j < s.variables → s.right i j ≡ s'.right i j
  pub caps : (j : ℕ) → j < s.variables → s.caps j ≡ s'.caps j

pub agree_refl : (s : System) → Agree s s
agree_refl s = record { variables = refl; rows = refl; left = λ i j h k. refl; right = λ i j h k. refl; caps = λ j k. refl }

pub agree_sym : {s s' : System} → Agree s s' → Agree s' s
agree_sym a = record {
  variables = sym a.variables;
  rows = sym a.rows;
  left = λ i j h k. sym (a.left i j (rw a.rows h) (rw a.variables k));
  right = λ i j h k. sym (a.right i j (rw a.rows h) (rw a.variables k));
  caps = λ j k. sym (a.caps j (rw a.variables k));
}

-- The right sides of their rows are the same.
pub agree_side : {s s' : System} (x : Point) (i : ℕ) → Agree s s' → i < s.rows → side_of s (s.right i) x ≡ side_of s' (s'.right i) x
agree_side {s} {s'} x i a q =
    largest_ext _ _ s.variables (λ j b. ap (λ (z : Trop). plus z (x j)) (a.right i j q b)) ∙ ap (largest (λ j. plus (s'.right i j) (x j))) a.variables

-- A point that solves the one solves the other.
pub agree_solves : {s s' : System} (x : Point) → Agree s s' → Solves s x → Solves s' x
agree_solves {s} {s'} x a h i r =
    let q : i < s.rows = rw a.rows r in
    let l : side_of s (s.left i) x ≡ side_of s' (s'.left i) x =
    largest_ext _ _ s.variables (λ j b. ap (λ (z : Trop). plus z (x j)) (a.left i j q b)) ∙ ap (largest (λ j. plus (s'.left i j) (x j))) a.variables in
    ⊑_trans (⊑_of_eq (sym l)) (⊑_trans (h i q) (⊑_of_eq (agree_side x i a q)))

module _ (s s' : System) (τ τ' : Strategy) (a : Agree s s') (same : (j : ℕ) → j < s.variables → τ j ≡ τ' j) where
  weight_agree : (j l : ℕ) → j < s.variables → l < s.variables → weights s τ j l ≡ weights s' τ' j l
  weight_agree j l h k = ⊎_elim terminal picked (nat_le_or_lt s.rows (τ j))
    where
      terminal : s.rows ≤ τ j → weights s τ j l ≡ weights s' τ' j l
      terminal t = weight_terminal s (τ j) j l t ∙ sym (weight_terminal s' (τ' j) j l (rw (← same j h, ← a.rows) t))

      picked : τ j < s.rows → weights s τ j l ≡ weights s' τ' j l
      picked t =
          weight_picked s (τ j) j l t
          ∙ ap₂ difference (a.right (τ j) l t k ∙ ap (λ (i : ℕ). s'.right i l) (same j h)) (a.left (τ j) j t h ∙ ap (λ (i : ℕ). s'.left i j) (same j h))
          ∙ sym (weight_picked s' (τ' j) j l (rw (← same j h, ← a.rows) t))

  exit_agree : (j : ℕ) → j < s.variables → exits s τ j ≡ exits s' τ' j
  exit_agree j h = ⊎_elim
      (λ (t : s.rows ≤ τ j). exit_terminal s (τ j) j t ∙ ap fin (a.caps j h) ∙ sym (exit_terminal s' (τ' j) j (rw (← same j h, ← a.rows) t)))
      (λ (t : τ j < s.rows). exit_picked s (τ j) j t ∙ sym (exit_picked s' (τ' j) j (rw (← same j h, ← a.rows) t)))
      (nat_le_or_lt s.rows (τ j))

  -- The values are the same.
  pub agree_values : (j : ℕ) → j < s.variables → values s τ j ≡ values s' τ' j
  unfolding values weight_by exit_by
  agree_values j h = rw (← a.variables) (⊑_antisym
      (value_mono (weights s τ) (weights s' τ') (exits s τ) (exits s' τ') s.variables
      (λ j l b c. ⊑_of_eq (weight_agree j l b c)) (λ j b. ⊑_of_eq (exit_agree j b)) s.variables j h)
      (value_mono (weights s' τ') (weights s τ) (exits s' τ') (exits s τ) s.variables
      (λ j l b c. ⊑_of_eq (sym (weight_agree j l b c))) (λ j b. ⊑_of_eq (sym (exit_agree j b))) s.variables j h))

  arc_agree : (j l : ℕ) (w : ℤ) → j < s.variables → Arc s' τ' j l w → Arc s τ j l w × (l < s.variables)
  arc_agree j l w h c =
      let i : l < s.variables = rw a.variables c.inside in
      let p : τ j < s.rows = rw (same j h, a.rows) c.picked in (
        record {
          picked = p;
          inside = i;
          a = c.a;
          b = c.b;
          left_is = a.left (τ j) j p h ∙ ap (λ (k : ℕ). s'.left k j) (same j h) ∙ c.left_is;
          right_is = a.right (τ j) l p i ∙ ap (λ (k : ℕ). s'.right k l) (same j h) ∙ c.right_is;
          weighs = c.weighs;
        },
        i,
      )

  -- A kept strategy is kept.
  pub agree_policy : Policy s τ → Policy s' τ'
  agree_policy p = record { valid = valid; negative = negative; below = below }
    where
      valid : (j : ℕ) → j < s'.variables → τ' j < s'.rows → Finite (s'.left (τ' j) j)
      valid j h r =
          let k : j < s.variables = rw a.variables h in
          let q : τ j < s.rows = rw (same j k, a.rows) r in
          subst Finite (a.left (τ j) j q k ∙ ap (λ (i : ℕ). s'.left i j) (same j k)) (p.valid j k q)

      negative : (j n : ℕ) (w : ℤ) → Walk (Arc s' τ') j j (suc n) w → w <ℤ pos 0
      negative j n w r =
          let h : j < s'.variables = entries_end (omega arith) (arcs_entries s' τ' r) in
          p.negative j n w (walk_keep {B = Arc s τ} (λ j. j < s.variables) arc_agree (rw a.variables h) r).0

      below : (j : ℕ) → j < s'.variables → values s' τ' j ⊑ fin (s'.caps j)
      below j h = let k : j < s.variables = rw a.variables h in
          ⊑_trans (⊑_of_eq (sym (agree_values j k))) (⊑_trans (p.below j k) (⊑_of_eq (ap fin (a.caps j k))))
