-- Attainable at t, in the words of the system at t: some feasible point that counts has a value of at most t exactly when the system
-- at t has a solution that is finite at variable 0 and at a variable of the second list. Such a solution is moved so that variable 0
-- stands at 0.
use Prim.Native.Nat.{ℕ, suc, ◌<◌}
use mathlib.Core.Path.{◌≡◌, refl, ap, ◌∙◌}
use native.Mathlib.Omega.{arith}
use native.Mathlib.Decide.{ℕ_discrete}
use lib.IntN.{ℤ, pos, neg_ℤ, ◌+ℤ◌, +ℤ_invr}
use lib.Signed.{◌≤ℤ◌}
use Rattle.definitions.specs.Tropical.{fin, plus, ◌⊑◌, Finite}
use Rattle.definitions.specs.Problem as Problems
use Rattle.definitions.specs.Problem.{Problem, Point, side, Keeps, Feasible, Counts, value, Attainable, ◌≼◌, between}
use Rattle.definitions.specs.Certificate.{Anchor, Second, raise}
use Rattle.definitions.proofs.Tropical.{plus_zero, plus_is}
use Rattle.definitions.proofs.Values.{≼_trans, minus_raised, raised_minus}
use Rattle.definitions.proofs.Counts.{counts_met, met_counts}
use Rattle.definitions.proofs.Raise.{raised, unraised}
use Rattle.duality.specs.System.{System, Solves, Joint, system_at}
use Rattle.duality.proofs.Solutions.{side_raised, solves_moved}

-- ---- rows of the system and of the problem

-- What a row of the system at t says: the left side is at most the right side raised.
abbrev KeepsRaised : Problem → ℤ → Point → ℕ → Type 0
KeepsRaised p t x i = side p.n (p.left i) x ⊑ plus (side p.n (p.right i) x) (fin (raise p t i))

solves_keeps : (p : Problem) (t : ℤ) (x : Point) → Solves (system_at p t) x → (i : ℕ) → i < suc p.m → KeepsRaised p t x i
unfolding system_at side
solves_keeps p t x h i r = rw (← side_raised (p.right i) x (fin (raise p t i)) (suc p.n)) (h i r)

keeps_solves : (p : Problem) (t : ℤ) (x : Point) → ((i : ℕ) → i < suc p.m → KeepsRaised p t x i) → Solves (system_at p t) x
unfolding system_at side
keeps_solves p t x h i r = rw (side_raised (p.right i) x (fin (raise p t i)) (suc p.n)) (h i r)

-- A point that stands at 0 and solves the system at t is feasible,
pub solves_feasible : (p : Problem) (t : ℤ) (x : Point) → x 0 ≡ fin (pos 0) → Solves (system_at p t) x → Feasible p x
solves_feasible p t x e h = record { anchored = e; keeps = keeps }
  where
    keeps : (i : ℕ) → i < p.m → Keeps p x i
    keeps i r = rw (unraised p t i (λ e. omega arith), plus_zero) at (solves_keeps p t x h i (omega arith))

-- and has a value of at most t.
pub solves_within : (p : Problem) (t : ℤ) (x : Point) → Solves (system_at p t) x → value p x ≼ Problems.whole t
unfolding value
solves_within p t x h = raised_minus t _ _ (rw raised at (solves_keeps p t x h p.m (omega arith)))

-- A feasible point with a value of at most t solves the system at t.
pub attains_solves : (p : Problem) (t : ℤ) (x : Point) → Feasible p x → value p x ≼ Problems.whole t → Solves (system_at p t) x
unfolding value
attains_solves p t x f v = keeps_solves p t x (λ i r. go i r (ℕ_discrete i p.m))
  where
    go : (i : ℕ) → i < suc p.m → Dec (i ≡ p.m) → KeepsRaised p t x i
    go i r (yes e) = rw (e, raised) (minus_raised t _ _ v)
    go i r (no d) = rw (unraised p t i d, plus_zero) (f.keeps i (omega arith))

-- ---- attainable

-- Attainable at t, solved at t.
pub attainable_joint : (p : Problem) (t : ℤ) → Attainable p t → Joint (system_at p t) Anchor (Second p)
unfolding system_at
attainable_joint p t a =
    let m = counts_met a.counts in
    record {
      point = a.point;
      solves = attains_solves p t a.point a.feasible a.within;
      first = record { at = 0; inside = omega arith; started = refl; finite = record { whole = pos 0; is = a.feasible.anchored } };
      second = record { at = m.at; inside = omega (arith, m.second.inside); started = m.second; finite = m.finite };
    }

-- A point moved down by u.
unfoldable pub moved : Point → ℤ → Point
moved x u j = plus (x j) (fin (neg_ℤ u))

-- Moved by the number at variable 0, it stands at 0 there.
pub moved_anchored : (x : Point) (u : ℤ) → x 0 ≡ fin u → moved x u 0 ≡ fin (pos 0)
unfolding moved
moved_anchored x u e = plus_is e refl ∙ ap fin (+ℤ_invr u)

-- It solves what the point solved.
pub moved_solves : (s : System) (x : Point) (u : ℤ) → Solves s x → Solves s (moved x u)
unfolding moved
moved_solves s x u h = solves_moved s x (fin (neg_ℤ u)) h

-- It counts where the point is finite at a variable of the second list.
pub moved_counts : (p : Problem) (x : Point) (u : ℤ) {k : ℕ} → Second p k → Finite (x k) → Counts p (moved x u)
unfolding moved
moved_counts p x u {k} s f = met_counts s (record { whole = f.whole +ℤ neg_ℤ u; is = plus_is f.is refl })

-- Solved at t, attainable at t: by the solution moved.
pub joint_attainable : (p : Problem) (t : ℤ) → Joint (system_at p t) Anchor (Second p) → Attainable p t
joint_attainable p t v =
    let u = v.first.finite.whole in
    let d : v.point 0 ≡ fin u = rw v.first.started at v.first.finite.is in
    let h = moved_solves (system_at p t) v.point u v.solves in
    record {
      point = moved v.point u;
      feasible = solves_feasible p t (moved v.point u) (moved_anchored v.point u d) h;
      counts = moved_counts p v.point u v.second.started v.second.finite;
      within = solves_within p t (moved v.point u) h;
    }

-- Attainable at t, attainable above t.
pub attainable_above : (p : Problem) {t u : ℤ} → t ≤ℤ u → Attainable p t → Attainable p u
attainable_above p h a = record { point = a.point; feasible = a.feasible; counts = a.counts; within = ≼_trans a.within (between h) }
