-- Suspended rules: what document 02, 2.10 says of them. Each is a row that is blank on both sides (`problem_of`); its number does not
-- move. What is said of certificates is said from any start.
use Rattle.std.specs.Prelude.{ℕ, suc, ◌≡◌, List, ℤ}
use Rattle.definitions.specs.Tropical.{Finite}
use Rattle.definitions.specs.Problem.{Problem, Point, Keeps}
use Rattle.definitions.specs.Certificate.{Strategy, Reachable, Leads, ArcBy, AcceptedOptimal, AcceptedInfeasible, AcceptedUnbounded}
use Rattle.definitions.specs.ProblemRecord.{m_field, suspended, problem_of}
use Rattle.definitions.specs.Solved.{IdleRows}
use Rattle.definitions.specs.Selection.{selected, left_below, left_at}

-- How many rules are in force, and which rule is the i-th of them; rules and i are counted from 0.
abbrev pub rules_in_force : List ℕ → ℕ
rules_in_force s = left_below (suspended s) (m_field s)

abbrev pub rule_in_force : List ℕ → ℕ → ℕ
rule_in_force s = left_at (suspended s) (m_field s)

-- "The problem that holds only the rules in force", and the question.
abbrev pub only_in_force : List ℕ → Problem
only_in_force s = selected (problem_of s) (rule_in_force s) (rules_in_force s)

-- What holds of rule i, counted from 0, of the problem p where it is suspended (that it does, and that class and span are those of the rules in
-- force, is `selection: Suspended.RulesInForce`). "A suspended rule is kept by every plan";
pub record Lifted (p : Problem) (i : ℕ) : Type 1 where
  pub kept : (x : Point) → Keeps p x i
  -- "its row gives no arcs": nothing is led to by it, and no arc is by it, in each class;
  pub no_leads : (picks : Strategy) (j l : ℕ) → picks j ≡ suc i → Leads p picks j l → ⊥
  pub no_arcs : (t : ℤ) (j l : ℕ) (w : ℤ) → ArcBy p t i j l w → ⊥
  -- "in class 2 it needs no pick": no moment has a left lead there;
  pub no_pick_needed : (j : ℕ) → Finite (p.left i j) → ⊥
  -- "and its pick plays no part": with another one the table is accepted as before,
  pub no_part :
      (Start : ℕ → Type 0) (picks other : Strategy) → ((k : ℕ) → (k ≡ i → ⊥) → other k ≡ picks k)
      → AcceptedUnbounded Start p picks → AcceptedUnbounded Start p other
  -- and where picks that play no part are 0, as the engine writes them, its pick is 0;
  pub written_zero : (Start : ℕ → Type 0) (picks : Strategy) → IdleRows Start p picks → picks i ≡ 0
  -- "in classes 1 and 3 a reached moment that picks it makes the answer not certified".
  pub not_certified :
      (Start : ℕ → Type 0) (picks : Strategy) (j : ℕ) → Reachable Start (Leads p picks) j → picks j ≡ suc i
      → ((s : ℤ) (x : Point) → AcceptedOptimal Start p s x picks → ⊥) × (AcceptedInfeasible Start p picks → ⊥)
