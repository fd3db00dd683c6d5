-- The solutions of a system are closed under shifts and under the larger of two. So where a variable is finite in one solution and
-- another in another, both are in a third. The values of a kept strategy are finite at every variable that is finite in some
-- solution; where one is blank the strategy blocks from it.
use Prim.Native.Nat.{ℕ, ◌<◌}
use mathlib.Core.Path.{◌≡◌, ap, sym, ◌∙◌}
use mathlib.Core.Logic.{⊎_elim, ◌↔◌}
use Rattle.definitions.specs.Tropical.{Trop, bot, plus, larger, largest, ◌⊑◌, Finite}
use Rattle.definitions.specs.Problem.{Point}
use Rattle.definitions.specs.Certificate.{Strategy}
use Rattle.definitions.proofs.Tropical.{blank_or_finite, finite_above, ⊑_refl, ⊑_trans, ⊑_of_eq, plus_comm, plus_assoc, plus_mono, larger_left, larger_right, larger_one, largest_above, largest_least, largest_mono, largest_ext, largest_plus}
use Rattle.duality.specs.Starts.{Only}
use Rattle.duality.specs.System.{System, side_of, Solves, Solution, AllSolved, Meets, Joint, Blocks, Saves}
use Rattle.duality.specs.Values.{values, Policy}
use Rattle.duality.specs.Induced.{Induced}
use Rattle.duality.proofs.Weak.{solution_saves, weak}
use Rattle.duality.proofs.Ends.{started_solution, blank_blocks}

-- ---- shifts

-- A whole number may be added first or last.
pub plus_swap : (a d b : Trop) → plus (plus a d) b ≡ plus (plus a b) d
plus_swap a d b = plus_assoc a d b ∙ ap (plus a) (plus_comm d b) ∙ sym (plus_assoc a b d)

-- Coefficients raised by d raise the side by d.
pub side_raised : (c : ℕ → Trop) (x : Point) (d : Trop) (k : ℕ)
    → largest (λ j. plus (plus (c j) d) (x j)) k ≡ plus (largest (λ j. plus (c j) (x j)) k) d
side_raised c x d k =
    largest_ext (λ j. plus (plus (c j) d) (x j)) (λ j. plus (plus (c j) (x j)) d) k (λ j _. plus_swap (c j) d (x j))
    ∙ largest_plus (λ j. plus (c j) (x j)) d k

-- A point moved by d moves each side by d.
side_moved : (c : ℕ → Trop) (x : Point) (d : Trop) (k : ℕ)
    → largest (λ j. plus (c j) (plus (x j) d)) k ≡ plus (largest (λ j. plus (c j) (x j)) k) d
side_moved c x d k =
    largest_ext (λ j. plus (c j) (plus (x j) d)) (λ j. plus (plus (c j) (x j)) d) k (λ j _. sym (plus_assoc (c j) (x j) d))
    ∙ largest_plus (λ j. plus (c j) (x j)) d k

-- A solution moved is a solution.
pub solves_moved : (s : System) (x : Point) (d : Trop) → Solves s x → Solves s (λ j. plus (x j) d)
solves_moved s x d h i r =
    rw (side_moved (s.left i) x d s.variables, side_moved (s.right i) x d s.variables) (plus_mono (h i r) (⊑_refl d))

-- ---- the larger of two

-- A greater point has greater sides.
side_mono : (s : System) (c : ℕ → Trop) (x y : Point) → ((j : ℕ) → x j ⊑ y j) → side_of s c x ⊑ side_of s c y
side_mono s c x y h = largest_mono _ _ s.variables (λ j _. plus_mono (⊑_refl (c j)) (h j))

-- The larger of two solutions is a solution.
pub solves_larger : (s : System) (x y : Point) → Solves s x → Solves s y → Solves s (λ j. larger (x j) (y j))
solves_larger s x y h k i r = largest_least _ s.variables (λ j b. ⊎_elim
    (λ e. rw e (⊑_trans (largest_above (λ j. plus (s.left i j) (x j)) s.variables j b)
    (⊑_trans (h i r) (side_mono s (s.right i) x (λ j. larger (x j) (y j)) (λ j. larger_left (x j) (y j))))))
    (λ e. rw e (⊑_trans (largest_above (λ j. plus (s.left i j) (y j)) s.variables j b)
    (⊑_trans (k i r) (side_mono s (s.right i) y (λ j. larger (x j) (y j)) (λ j. larger_right (x j) (y j))))))
    (larger_one (x j) (y j)))

-- What is not below a finite number is finite.
finite_over : {x y : Trop} → Finite x → x ⊑ y → Finite y
finite_over f h = finite_above (⊑_trans (⊑_of_eq (sym f.is)) h)

meets_over : {s : System} {Start : ℕ → Type 0} {x y : Point} → ((j : ℕ) → x j ⊑ y j) → Meets s Start x → Meets s Start y
meets_over h m = record { at = m.at; inside = m.inside; started = m.started; finite = finite_over m.finite (h m.at) }

-- So there is one solution for two starts exactly when there is one for each.
pub joint_exactly : (s : System) (A B : ℕ → Type 0) → Joint s A B ↔ (Solution s A × Solution s B)
joint_exactly s A B = (
  λ q. (
    started_solution s A q.point q.solves q.first.at q.first.inside q.first.started q.first.finite,
    started_solution s B q.point q.solves q.second.at q.second.inside q.second.started q.second.finite,
  ),
  λ v.
      let x = v.0.point in
      let y = v.1.point in
      record {
        point = λ j. larger (x j) (y j);
        solves = solves_larger s x y v.0.solves v.1.solves;
        first = record { at = v.0.at; inside = v.0.inside; started = v.0.started; finite = finite_over v.0.finite (larger_left (x v.0.at) (y v.0.at)) };
        second = record { at = v.1.at; inside = v.1.inside; started = v.1.started; finite = finite_over v.1.finite (larger_right (x v.1.at) (y v.1.at)) };
      },
)

-- ---- the values of a kept strategy

module _ (s : System) (τ : Strategy) (policy : Policy s τ) where
  -- Where a variable's value is blank, the strategy blocks from it; `blank_blocks` says it of any set of such variables.
  pub blank_blocks_only : (k : ℕ) → k < s.variables → values s τ k ≡ bot → Blocks s (Only k) τ
  blank_blocks_only k h e = blank_blocks s τ policy (Only k) (λ j d. (rw d h, rw d e))

  -- A variable that is finite in some solution has a finite value.
  pub solved_finite : (k : ℕ) → Solution s (Only k) → Finite (values s τ k)
  solved_finite k v =
      let h : k < s.variables = rw v.started at v.inside in
      ⊎_elim
      (λ e. absurd (weak s (Only k) v.point τ v.at v.started v.inside v.finite v.solves (blank_blocks_only k h e)))
      (λ f. f)
      (blank_or_finite (values s τ k))

  module _ (solves : Solves s (values s τ)) where
    -- A strategy of rows that the values induce saves from every start whose variables are finite in some solution.
    pub values_save : {Start : ℕ → Type 0} (σ : Strategy) → Induced s (values s τ) σ → AllSolved s Start → Saves s Start σ
    values_save {Start} σ induced all = solution_saves s (values s τ) σ solves induced Start
        (λ j h. let v = all j h in (rw v.started at v.inside, solved_finite j v))
