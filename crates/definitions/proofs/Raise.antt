-- What arcs are raised by: t for the objective's row, nothing for any other.
use Prim.Native.Nat.{ℕ}
use mathlib.Core.Path.{◌≡◌, refl}
use mathlib.Core.Bool.{Bool, true, false, cond}
use lib.Dec.{eqb}
use lib.IntN.{ℤ, pos}
use borrow.Author.Tests.{eqb-true, eqb-false}
use Rattle.definitions.specs.Problem.{Problem}
use Rattle.definitions.specs.Certificate.{raise}

-- The raise of the objective's row is t.
pub raised : (p : Problem) (t : ℤ) → raise p t p.m ≡ t
unfolding raise
raised p t = go (eqb p.m p.m) refl
  where
    go : (b : Bool) → eqb p.m p.m ≡ b → cond b t (pos 0) ≡ t
    go true e = refl
    go false e = absurd (eqb-false p.m p.m e refl)

-- The raise of every other row is zero.
pub unraised : (p : Problem) (t : ℤ) (i : ℕ) → (i ≡ p.m → ⊥) → raise p t i ≡ pos 0
unfolding raise
unraised p t i d = go (eqb i p.m) refl
  where
    go : (b : Bool) → eqb i p.m ≡ b → cond b t (pos 0) ≡ pos 0
    go true e = absurd (d (eqb-true i p.m e))
    go false e = refl

-- At zero no row is raised.
pub raise_zero : (p : Problem) (i : ℕ) → raise p (pos 0) i ≡ pos 0
unfolding raise
raise_zero p i = go (eqb i p.m)
  where
    go : (b : Bool) → cond b (pos 0) (pos 0) ≡ pos 0
    go true = refl
    go false = refl
