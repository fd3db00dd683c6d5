-- Weak duality: a solution that is finite at a start variable and a strategy of variables that blocks from there
-- exclude each other. A solution x induces a strategy of rows that saves: each row picks a right variable that attains
-- its largest, so that along its arcs w + x l ≥ x j, and closed walks weigh zero or more. A blocking τ and a saving σ
-- clash: from the start follow the row that τ picks and the variable that this row picks in σ; after as many steps as
-- there are variables one repeats, and that closed walk would weigh both below zero and zero or more.
use Prim.Native.Nat.{ℕ, ◌<◌}
use mathlib.Core.Path.{◌≡◌, refl, sym, subst}
use mathlib.Core.Logic.{◌⊎◌, inl, inr, ⊎_elim}
use native.Mathlib.Omega.{arith}
use lib.IntN.{ℤ, pos, ◌+ℤ◌, ◌-ℤ◌}
use lib.Signed.{◌≤ℤ◌}
use Rattle.definitions.specs.Tropical.{Trop, bot, fin, plus, ◌⊑◌, Finite}
use Rattle.definitions.specs.Problem.{Point}
use Rattle.definitions.specs.Certificate.{Strategy, Reachable, start, onward, Walk}
use Rattle.definitions.proofs.Whole.{whole, plus_read, minus_read}
use Rattle.definitions.proofs.Tropical.{Attains, largest_above, largest_attained, ⊑_trans, ⊑_of_eq, finite_above, fin_below, fin_injective, not_finite_bot, plus_is, plus_parts}
use Rattle.duality.specs.Circuits.{Circuit}
use Rattle.duality.specs.System.{System, side_of, Solves, Solution, Leads, Arc, Blocks, Blocked, RowLeads, RowArc, RowHasPick, Saves}
use Rattle.duality.specs.Induced.{Attaining, Induced}
use Rattle.duality.proofs.Walks.{Inside, Looped, looped, Onward, Endless, endless, walk_keep, walk_change}
use Rattle.duality.proofs.Reach.{reach_keep, circuit, lower_walk}
use Rattle.duality.proofs.Starts.{blocks_from}

-- ---- a solution saves

-- A strategy of rows that a point induces: a right variable that attains the row's largest, if that is not blank.
unfoldable pub best : System → Point → Strategy
best s x i = ⊎_elim (λ _. s.variables) (λ a. a.place) (largest_attained (λ l. plus (s.right i l) (x l)) s.variables)

-- It is induced.
pub best_induced : (s : System) (x : Point) → Induced s x (best s x)
unfolding best
best_induced s x i h f = go (largest_attained (λ l. plus (s.right i l) (x l)) s.variables) refl
  where
    go : (r : (side_of s (s.right i) x ≡ bot) ⊎ Attains (λ l. plus (s.right i l) (x l)) s.variables)
        → best s x i ≡ ⊎_elim (λ _. s.variables) (λ a. a.place) r → Attaining s x (best s x) i
    go (inl b) e = absurd (not_finite_bot (subst Finite b f))
    go (inr a) e = record { inside = rw e a.inside; attains = rw e (⊑_of_eq a.same) }

-- The whole number that a finite number is.
whole_of : Trop → ℤ
whole_of bot = pos 0
whole_of (fin a) = a

whole_is : {x : Trop} → Finite x → x ≡ fin (whole_of x)
unfolding whole_of
whole_is {x = bot} f = absurd (not_finite_bot f)
whole_is {x = fin a} f = refl

-- A variable at which the point is finite.
record Held (s : System) (x : Point) (j : ℕ) : Type 0 where
  inside : j < s.variables
  finite : Finite (x j)

-- A row in use at a finite variable: its pick l is inside, both numbers there are finite, and it carries x on.
record Carried (s : System) (x : Point) (i l : ℕ) (a u : ℤ) : Type 0 where
  b : ℤ
  right_is : s.right i l ≡ fin b
  held : Held s x l
  above : (a +ℤ u) ≤ℤ (b +ℤ whole_of (x l))

module _ (s : System) (x : Point) (σ : Strategy) (solves : Solves s x) (induced : Induced s x σ) where
  carries : (i j : ℕ) → i < s.rows → j < s.variables → (a u : ℤ) → s.left i j ≡ fin a → x j ≡ fin u → Carried s x i (σ i) a u
  carries i j r k a u e d =
      record {
        b = parts.0.whole;
        right_is = parts.0.is;
        held = record { inside = b.inside; finite = parts.1 };
        above = fin_below (⊑_trans above (⊑_of_eq (plus_is parts.0.is (whole_is parts.1))));
      }
    where
      first : fin (a +ℤ u) ⊑ side_of s (s.right i) x
      first = ⊑_trans (⊑_trans (⊑_of_eq (sym (plus_is e d))) (largest_above (λ j. plus (s.left i j) (x j)) s.variables j k)) (solves i r)

      b : Attaining s x σ i
      b = induced i r (finite_above first)

      above : fin (a +ℤ u) ⊑ plus (s.right i (σ i)) (x (σ i))
      above = ⊑_trans first b.attains

      parts : Finite (s.right i (σ i)) × Finite (x (σ i))
      parts = plus_parts (finite_above above)

  -- The same of the variable that the row picks, under its own name.
  carries_to : (i j l : ℕ) → i < s.rows → Held s x j → (f : Finite (s.left i j)) → σ i ≡ l → Carried s x i l f.whole (whole_of (x j))
  carries_to i j l r k f e =
      subst (λ (l : ℕ). Carried s x i l f.whole (whole_of (x j))) e
      (carries i j r k.inside f.whole (whole_of (x j)) f.is (whole_is k.finite))

  -- An arc leads from a finite variable to a finite one, and weighs at least what the point falls by.
  row_lead : (j l : ℕ) → Held s x j → RowLeads s σ j l → RowLeads s σ j l × Held s x l
  row_lead j l k r = (r, (carries_to r.row j l r.inside k r.left r.picked).held)

  row_arc_lem : (j l : ℕ) (w : ℤ) → Held s x j → RowArc s σ j l w → (whole_of (x j) ≤ℤ (w +ℤ whole_of (x l))) × Held s x l
  row_arc_lem j l w k r =
      let c = carries_to r.row j l r.inside k (record { whole = r.a; is = r.left_is }) r.picked in
      let e : fin r.b ≡ fin c.b = cc in
      let d : r.b ≡ c.b = fin_injective e in (
        omega (
          whole,
          plus_read w (whole_of (x l)),
          minus_read r.b r.a,
          plus_read r.a (whole_of (x j)),
          plus_read c.b (whole_of (x l)),
          c.above,
        ),
        c.held,
      )

  -- A strategy of rows that a solution induces saves from every variable at which the solution is finite.
  pub solution_saves : (Start : ℕ → Type 0) → ((j : ℕ) → Start j → (j < s.variables) × Finite (x j)) → Saves s Start σ
  solution_saves Start f = record { counts = counts; nonnegative = nonnegative }
    where
      held : {j : ℕ} → Reachable Start (RowLeads s σ) j → Held s x j
      held r = (reach_keep (Held s x) (λ j h. (h, record { inside = (f j h).0; finite = (f j h).1 })) row_lead r).1

      counts : (i j : ℕ) → i < s.rows → Reachable Start (RowLeads s σ) j → Finite (s.left i j) → RowHasPick s σ i
      counts i j r q l =
          let c = carries_to i j (σ i) r (held q) l refl in
          record { picked = c.held.inside; right = record { whole = c.b; is = c.right_is } }

      nonnegative : (w : ℤ) → Circuit Start (RowLeads s σ) (RowArc s σ) w → pos 0 ≤ℤ w
      nonnegative w c =
          let p = walk_keep (Held s x) row_arc_lem (held c.reachable) c.walk in
          omega (whole, lower_walk (λ j. whole_of (x j)) p.0, plus_read w (whole_of (x c.at)))

-- ---- blocking and saving clash

-- Reachable for both players.
record Met (s : System) (Start : ℕ → Type 0) (τ σ : Strategy) (j : ℕ) : Type 0 where
  by_variables : Reachable Start (Leads s τ) j
  by_rows : Reachable Start (RowLeads s σ) j

-- The arcs of both players: by the row that τ picks to the variable that this row picks in σ.
record Both (s : System) (τ σ : Strategy) (j l : ℕ) (w : ℤ) : Type 0 where
  by_variable : Arc s τ j l w
  by_row : RowArc s σ j l w

both_inside : (s : System) (τ σ : Strategy) → Inside (Both s τ σ) s.variables
both_inside s τ σ = record { inside = λ j l w a. a.by_variable.inside }

-- Along an arc of both, what both reach leads to what both reach.
both_met : (s : System) (Start : ℕ → Type 0) (τ σ : Strategy) (j l : ℕ) (w : ℤ) → Met s Start τ σ j → Both s τ σ j l w → Met s Start τ σ l
both_met s Start τ σ j l w m a = record {
  by_variables = onward m.by_variables (record {
    picked = a.by_variable.picked;
    inside = a.by_variable.inside;
    right = record { whole = a.by_variable.b; is = a.by_variable.right_is };
  });
  by_rows = onward m.by_rows (record {
    row = a.by_row.row;
    inside = a.by_row.inside;
    left = record { whole = a.by_row.a; is = a.by_row.left_is };
    picked = a.by_row.picked;
    target = a.by_row.target;
  });
}

-- From no start variable can one strategy block and another save.
pub clash : (s : System) (Start : ℕ → Type 0) (τ σ : Strategy) (j : ℕ) → Start j → j < s.variables
    → Blocks s Start τ → Saves s Start σ → ⊥
clash s Start τ σ j h k b v = closed (looped (both_inside s τ σ) k (omega arith) walk.walk)
  where
    first : Met s Start τ σ j
    first = record { by_variables = start h; by_rows = start h }

    on : (i : ℕ) → Met s Start τ σ i → Onward (Both s τ σ) (Met s Start τ σ) i
    on i m =
        let c = b.counts i m.by_variables in
        let r = v.counts (τ i) i c.picked m.by_rows c.left in
        let w = r.right.whole -ℤ c.left.whole in
        let a : Both s τ σ i (σ (τ i)) w = record {
          by_variable = record {
            picked = c.picked;
            inside = r.picked;
            a = c.left.whole;
            b = r.right.whole;
            left_is = c.left.is;
            right_is = r.right.is;
            weighs = refl;
          };
          by_row = record {
            row = τ i;
            inside = c.picked;
            picked = refl;
            target = r.picked;
            a = c.left.whole;
            b = r.right.whole;
            left_is = c.left.is;
            right_is = r.right.is;
            weighs = refl;
          };
        } in
        record { to = σ (τ i); weight = w; arc = a; kept = both_met s Start τ σ i (σ (τ i)) w m a }

    walk : Endless (Both s τ σ) j s.variables
    walk = endless (Met s Start τ σ) on s.variables j first

    closed : Looped (Both s τ σ) s.variables j walk.end s.variables walk.weight → ⊥
    closed l =
        let m = (walk_keep {B = Both s τ σ} (Met s Start τ σ) (λ j l w m a. (a, both_met s Start τ σ j l w m a)) first l.way).1 in
        let p : Walk (Arc s τ) l.at l.at l.loop_arcs l.loop_weight =
        walk_change (λ j l w a. a.by_variable) l.loop in
        let q : Walk (RowArc s σ) l.at l.at l.loop_arcs l.loop_weight =
        walk_change (λ j l w a. a.by_row) l.loop in
        omega (
          whole,
          b.negative l.loop_weight (circuit m.by_variables l.some p),
          v.nonnegative l.loop_weight (circuit m.by_rows l.some q),
        )

-- ---- weak duality

-- A point that solves the system and is finite at a start variable excludes a strategy that blocks.
pub weak : (s : System) (Start : ℕ → Type 0) (x : Point) (τ : Strategy) (j : ℕ) → Start j → j < s.variables → Finite (x j)
    → Solves s x → Blocks s Start τ → ⊥
weak s Start x τ j h k f v b = clash s (λ i. i ≡ j) τ (best s x) j refl k (blocks_from (λ i e. rw e h) b)
    (solution_saves s x (best s x) v (best_induced s x) (λ i. i ≡ j) (λ i e. (rw e k, rw e f)))

-- No system has both a solution and a strategy that blocks.
pub not_solved_and_blocked : (s : System) (Start : ℕ → Type 0) → Solution s Start → Blocked s Start → ⊥
not_solved_and_blocked s Start v b =
    weak s Start v.point b.strategy v.at v.started v.inside v.finite v.solves b.blocks
