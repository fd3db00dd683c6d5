-- Arcs by the objective. A closed walk that uses it is an arc by the objective and a walk back; one that does not weighs
-- the same at every t. Said once for both kinds of strategies: arcs by any choice C of rows, where C i j l says that row
-- i may be used from variable j to variable l.
use Prim.Native.Nat.{ℕ, suc, ◌+◌, ◌≤◌}
use mathlib.Core.Path.{◌≡◌, refl, subst}
use mathlib.Core.Logic.{◌⊎◌, inl, inr, ⊎_elim}
use native.Mathlib.Omega.{arith}
use native.Mathlib.Decide.{ℕ_discrete}
use lib.IntN.{ℤ, pos, ◌+ℤ◌, ◌-ℤ◌}
use Rattle.definitions.specs.Problem.{Problem}
use Rattle.definitions.specs.Certificate.{Strategy, Walk, stop, step, raise, ArcBy, Leads, Arc, RowLeads, RowArc}
use Rattle.definitions.proofs.Raise.{unraised}
use Rattle.duality.specs.Circuits.{Circuit, UsesObjective, ObjectiveArc, RowObjectiveArc}
use Rattle.duality.proofs.Walks.{walk_append}
use Rattle.duality.proofs.Reach.{reach_along, circuit_map, uses_map}

-- ---- arcs by a choice of rows

-- The arcs by the rows i with C i j l.
pub record By (p : Problem) (C : ℕ → ℕ → ℕ → Type 0) (t : ℤ) (j l : ℕ) (w : ℤ) : Type 0 where
  pub row : ℕ
  pub chosen : C row j l
  pub by : ArcBy p t row j l w

-- Of these, those by the objective.
pub record ByObjective (p : Problem) (C : ℕ → ℕ → ℕ → Type 0) (j l : ℕ) (w : ℤ) : Type 0 where
  pub chosen : C p.m j l
  pub by : ArcBy p (pos 0) p.m j l w

-- A walk of n arcs, of whatever weight.
record Weighed (A : ℕ → ℕ → ℤ → Type 0) (j k n : ℕ) : Type 0 where
  weight : ℤ
  walk : Walk A j k n weight

-- What an arc weighs at u.
abbrev pub weight_at : {p : Problem} {C : ℕ → ℕ → ℕ → Type 0} {t : ℤ} (u : ℤ) {j l : ℕ} {w : ℤ} → By p C t j l w → ℤ
weight_at {p} u a = (a.by.b -ℤ a.by.a) +ℤ raise p u a.row

-- An arc at t is one at u, of another weight.
pub arc_at : {p : Problem} {C : ℕ → ℕ → ℕ → Type 0} {t : ℤ} (u : ℤ) {j l : ℕ} {w : ℤ} (a : By p C t j l w) → By p C u j l (weight_at u a)
arc_at u a = record {
  row = a.row;
  chosen = a.chosen;
  by = record
      { a = a.by.a; b = a.by.b; left_is = a.by.left_is; right_is = a.by.right_is; weighs = refl };
}

-- A walk at t is one at u, of another weight.
walk_at : {p : Problem} {C : ℕ → ℕ → ℕ → Type 0} {t : ℤ} (u : ℤ) {j k n : ℕ} {w : ℤ} → Walk (By p C t) j k n w → Weighed (By p C u) j k n
walk_at u stop = record { weight = pos 0; walk = stop }
walk_at u (step a q) = let r = walk_at u q in record { weight = weight_at u a +ℤ r.weight; walk = step (arc_at u a) r.walk }

-- An arc that is not by the objective weighs the same at every t.
plain : {p : Problem} {C : ℕ → ℕ → ℕ → Type 0} {t : ℤ} (u : ℤ) {j l : ℕ} {w : ℤ} (a : By p C t j l w)
    → (a.row ≡ p.m → ⊥) → By p C u j l w
plain {p} {C} {t} u {w = w} a d = record {
  row = a.row;
  chosen = a.chosen;
  by = record {
    a = a.by.a;
    b = a.by.b;
    left_is = a.by.left_is;
    right_is = a.by.right_is;
    weighs = rw (unraised p u a.row d) (rw (unraised p t a.row d) at a.by.weighs);
  };
}

-- An arc by the objective on the way from j to k.
record Found (p : Problem) (C : ℕ → ℕ → ℕ → Type 0) (j k : ℕ) : Type 0 where
  at : ℕ
  to : ℕ
  w : ℤ
  before_arcs : ℕ
  after_arcs : ℕ
  before : Weighed (By p C (pos 0)) j at before_arcs
  arc : ByObjective p C at to w
  after : Weighed (By p C (pos 0)) to k after_arcs

-- A walk at t uses the objective, or it is a walk of the same weight at every u.
find : {p : Problem} {C : ℕ → ℕ → ℕ → Type 0} {t : ℤ} (u : ℤ) {j k n : ℕ} {w : ℤ}
    → Walk (By p C t) j k n w → Walk (By p C u) j k n w ⊎ Found p C j k
unfolding arc_at
find u stop = inl stop
find {p} {C} {t} u {j} {k} (step {l = l} {n = n} {w = w} {v = v} a q) = go (ℕ_discrete a.row p.m) (find u q)
  where
    here : a.row ≡ p.m → Found p C j k
    here e = record {
      at = j;
      to = l;
      w = weight_at (pos 0) a;
      before_arcs = 0;
      after_arcs = n;
      before = record { weight = pos 0; walk = stop };
      arc = record {
        chosen = subst (λ (i : ℕ). C i j l) e a.chosen;
        by = subst (λ (i : ℕ). ArcBy p (pos 0) i j l (weight_at (pos 0) a)) e (arc_at (pos 0) a).by;
      };
      after = walk_at (pos 0) q;
    }

    later : Found p C l k → Found p C j k
    later f = record {
      at = f.at;
      to = f.to;
      w = f.w;
      before_arcs = suc f.before_arcs;
      after_arcs = f.after_arcs;
      before = record { weight = weight_at (pos 0) a +ℤ f.before.weight; walk = step (arc_at (pos 0) a) f.before.walk };
      arc = f.arc;
      after = f.after;
    }

    go : Dec (a.row ≡ p.m) → Walk (By p C u) l k n v ⊎ Found p C l k → Walk (By p C u) j k (suc n) (w +ℤ v) ⊎ Found p C j k
    go (yes e) r = inr (here e)
    go (no d) (inl r) = inl (step (plain u a d) r)
    go (no d) (inr f) = inr (later f)

-- Where no reachable closed walk uses the objective, one at t is one of the same weight at u.
circuit_at : (p : Problem) (C : ℕ → ℕ → ℕ → Type 0) {Start : ℕ → Type 0} {L : ℕ → ℕ → Type 0} (t u : ℤ)
    → ((j l : ℕ) (w : ℤ) → By p C (pos 0) j l w → L j l) → (UsesObjective Start L (ByObjective p C) (By p C (pos 0)) → ⊥)
    → {w : ℤ} → Circuit Start L (By p C t) w → Circuit Start L (By p C u) w
circuit_at p C {Start} {L} t u leads d {w} c = ⊎_elim
    (λ q. record { at = c.at; arcs = c.arcs; reachable = c.reachable; walk = q }) (λ f. absurd (d (uses f))) (find u c.walk)
  where
    uses : Found p C c.at c.at → UsesObjective Start L (ByObjective p C) (By p C (pos 0))
    uses f = record {
      at = f.at;
      to = f.to;
      arcs = f.after_arcs + f.before_arcs;
      w = f.w;
      v = f.after.weight +ℤ f.before.weight;
      reachable = reach_along leads c.reachable f.before.walk;
      arc = f.arc;
      back = walk_append f.after.walk f.before.walk;
    }

-- ---- a kind of arcs, given by a choice

-- The arcs A at each t, of which O by the objective, are those by the choice C, and they lead.
pub record Kind (p : Problem) (C : ℕ → ℕ → ℕ → Type 0) (A : ℤ → ℕ → ℕ → ℤ → Type 0) (O : ℕ → ℕ → ℤ → Type 0)
    (Leads : ℕ → ℕ → Type 0) : Type 0 where
  pub by : (t : ℤ) (j l : ℕ) (w : ℤ) → A t j l w → By p C t j l w
  pub arc : (t : ℤ) (j l : ℕ) (w : ℤ) → By p C t j l w → A t j l w
  pub by_objective_lem : (j l : ℕ) (w : ℤ) → O j l w → ByObjective p C j l w
  pub objective : (j l : ℕ) (w : ℤ) → ByObjective p C j l w → O j l w
  pub leads : (t : ℤ) (j l : ℕ) (w : ℤ) → A t j l w → Leads j l

-- Where no reachable closed walk uses the objective, one at t is one of the same weight at u.
pub circuit_moved : {p : Problem} {C : ℕ → ℕ → ℕ → Type 0} {A : ℤ → ℕ → ℕ → ℤ → Type 0} {O : ℕ → ℕ → ℤ → Type 0}
    {Leads : ℕ → ℕ → Type 0} {Start : ℕ → Type 0} → Kind p C A O Leads → (t u : ℤ)
    → (UsesObjective Start Leads O (A (pos 0)) → ⊥) → {w : ℤ} → Circuit Start Leads (A t) w → Circuit Start Leads (A u) w
circuit_moved {p} {C} kind t u none c = circuit_map (λ j h. h) (λ j l h. h) (kind.arc u)
    (circuit_at p C t u (λ j l w a. kind.leads (pos 0) j l w (kind.arc (pos 0) j l w a))
    (λ q. none (uses_map kind.objective (kind.arc (pos 0)) q)) (circuit_map (λ j h. h) (λ j l h. h) (kind.by t) c))

-- ---- the two kinds

-- The choice of a strategy of variables: the row that j picks, to a variable inside.
abbrev pub Picked : Problem → Strategy → ℕ → ℕ → ℕ → Type 0
Picked p picks i j l = (picks j ≡ suc i) × (l ≤ p.n)

-- The arcs of a strategy of variables.
pub picked_kind : (p : Problem) (picks : Strategy) → Kind p (Picked p picks) (Arc p picks) (ObjectiveArc p picks) (Leads p picks)
picked_kind p picks = record {
  by = λ t j l w a. record { row = a.row; chosen = (a.picked, a.inside); by = a.by };
  arc = λ t j l w a. record { row = a.row; picked = a.chosen.0; inside = a.chosen.1; by = a.by };
  by_objective_lem = λ j l w a. record { chosen = (a.picked, a.inside); by = a.by };
  objective = λ j l w a. record { picked = a.chosen.0; inside = a.chosen.1; by = a.by };
  leads = λ t j l w a. record
      { row = a.row; picked = a.picked; inside = a.inside; right = record { whole = a.by.b; is = a.by.right_is } };
}

-- The choice of a strategy of rows: a row inside, to the variable that it picks.
abbrev pub RowPicked : Problem → Strategy → ℕ → ℕ → ℕ → Type 0
RowPicked p picks i j l = (i ≤ p.m) × (picks i ≡ suc l)

-- The arcs of a strategy of rows.
pub row_picked_kind : (p : Problem) (picks : Strategy) → Kind p (RowPicked p picks) (RowArc p picks) (RowObjectiveArc p picks) (RowLeads p picks)
row_picked_kind p picks = record {
  by = λ t j l w a. record { row = a.row; chosen = (a.inside, a.picked); by = a.by };
  arc = λ t j l w a. record { row = a.row; inside = a.chosen.0; picked = a.chosen.1; by = a.by };
  by_objective_lem = λ j l w a. record { chosen = (omega arith, a.picked); by = a.by };
  objective = λ j l w a. record { picked = a.chosen.1; by = a.by };
  leads = λ t j l w a. record
      { row = a.row; inside = a.inside; left = record { whole = a.by.a; is = a.by.left_is }; picked = a.picked };
}
