-- The second list of a problem in the tables: its variables are those with a coefficient in the objective's row of the right table.
-- Whether a point is finite at one of them is told by the numbers.
use Prim.Native.Nat.{ℕ, ◌+◌, ◌*◌, ◌≤◌, ◌<◌}
use mathlib.Core.Path.{◌≡◌, sym, subst, ap, ◌∙◌}
use mathlib.Core.Logic.{◌↔◌}
use mathlib.Core.List.{List}
use native.Mathlib.Omega.{arith}
use lib.ListN.{get_or}
use Rattle.definitions.specs.Tropical.{Finite}
use Rattle.definitions.specs.Problem.{Problem}
use Rattle.definitions.specs.Certificate.{Second}
use Rattle.definitions.specs.Offset.{trop_of}
use Rattle.definitions.proofs.Offset.{trop_fin, trop_read}
use Rattle.search.specs.Trials.{whole_of}
use Rattle.look.specs.Frames.{Copied, Held}

-- A number is finite exactly when it is not 0.
pub number_finite : (k : ℕ) → Finite (trop_of k) ↔ (0 < k)
number_finite k = (λ f. (trop_read k f.is).0, λ h. record { whole = whole_of k; is = trop_fin k h })

-- The coefficient of the objective's row is the problem's.
pub second_coefficient : {p : Problem} {n m : ℕ} {left right : List ℕ} → Held p n m left right → (j : ℕ) → j ≤ p.n
    → trop_of (get_or right (m * 32 + j) 0) ≡ p.right p.m j
second_coefficient {p} {n} {m} q j h = q.right_is m j (omega arith) (omega (arith, q.n_is)) ∙ ap (λ (i : ℕ). p.right i j) (sym q.m_is)

-- The variables of the second list, in a copy of the row.
pub second_held : {p : Problem} {n m : ℕ} {left right row : List ℕ} → Held p n m left right → n ≤ 31 → Copied right m 32 row → (j : ℕ)
    → Second p j ↔ ((j < n + 1) × (0 < get_or row j 0))
second_held {p} {n} {m} {left} {right} {row} q b c j = (
  λ s. (omega (arith, s.inside, q.n_is), rw (same s.inside) ((number_finite _).0 (subst Finite (sym (second_coefficient q j s.inside)) s.right))),
  λ h. let d : j ≤ p.n = omega (arith, h.0, q.n_is) in
      record { inside = d; right = subst Finite (second_coefficient q j d) ((number_finite _).1 (rw (same d) at h.1)) },
)
  where
    same : j ≤ p.n → get_or row j 0 ≡ get_or right (m * 32 + j) 0
    same h = c.each j (omega (arith, q.n_is))
