-- What is said of certificates: for a problem and for a selection of its rows.
use Rattle.std.specs.Prelude.{ℕ, suc, ◌↔◌, ℤ}
use Rattle.definitions.specs.Problem.{Problem, Point}
use Rattle.definitions.specs.Certificate.{Strategy, AcceptedOptimal, AcceptedInfeasible, AcceptedUnbounded}
use Rattle.definitions.specs.Selection.{selected, renumbered, rows_renumbered}
use Rattle.duality.specs.Picks.{NoneAbove}

-- From a start, a table is accepted for p exactly when its renumbering is for the selection, with the same span and stamps. (A table
-- has no pick above the highest value of its class.)
pub record SameCertificates (Start : ℕ → Type 0) (p : Problem) (f : ℕ → ℕ) (m' : ℕ) : Type 0 where
  pub least :
      (s : ℤ) (x : Point) (picks : Strategy) → NoneAbove (suc p.m) (suc p.n) picks
      → AcceptedOptimal Start p s x picks ↔ AcceptedOptimal Start (selected p f m') s x (renumbered p f m' picks)
  pub bottomless :
      (picks : Strategy) → NoneAbove (suc p.n) (suc p.m) picks
      → AcceptedUnbounded Start p picks ↔ AcceptedUnbounded Start (selected p f m') (rows_renumbered p f m' picks)
  pub none :
      (picks : Strategy) → NoneAbove (suc p.m) (suc p.n) picks
      → AcceptedInfeasible Start p picks ↔ AcceptedInfeasible Start (selected p f m') (renumbered p f m' picks)
