-- Reachable variables and reachable closed walks: both are carried from one kind of arcs to another by a property of
-- variables that arcs preserve, and what a walk leads to from a reachable variable is reachable.
use Prim.Native.Nat.{ℕ, suc, ◌-◌, ◌<◌}
use mathlib.Core.Path.{◌≡◌, refl}
use native.Mathlib.Omega.{arith}
use lib.IntN.{ℤ, pos, ◌+ℤ◌}
use lib.Signed.{◌≤ℤ◌}
use Rattle.definitions.specs.Certificate.{Reachable, start, onward, Walk, stop, step}
use Rattle.definitions.proofs.Whole.{whole, plus_read}
use Rattle.duality.specs.Circuits.{Circuit, UsesObjective}
use Rattle.duality.proofs.Walks.{walk_as, walk_keep, walk_change, walk_fold}

-- A property that the start has and that leads keep holds of what is reachable, which is so by other leads too.
pub reach_keep : {Start Start' : ℕ → Type 0} {L L' : ℕ → ℕ → Type 0} (P : ℕ → Type 0)
    → ((j : ℕ) → Start j → Start' j × P j) → ((j l : ℕ) → P j → L j l → L' j l × P l)
    → {j : ℕ} → Reachable Start L j → Reachable Start' L' j × P j
reach_keep P f g (start {j = j} h) = let s = f j h in (start s.0, s.1)
reach_keep P f g (onward {j = j} {l = l} r h) =
    let s = reach_keep P f g r in
    let t = g j l s.1 h in
    (onward s.0 t.0, t.1)

-- The same of reachable closed walks.
pub circuit_keep : {Start Start' : ℕ → Type 0} {L L' : ℕ → ℕ → Type 0} {A A' : ℕ → ℕ → ℤ → Type 0} (P : ℕ → Type 0)
    → ((j : ℕ) → Start j → Start' j × P j) → ((j l : ℕ) → P j → L j l → L' j l × P l)
    → ((j l : ℕ) (w : ℤ) → P j → A j l w → A' j l w × P l) → {w : ℤ} → Circuit Start L A w → Circuit Start' L' A' w
circuit_keep P f g h c =
    let r = reach_keep P f g c.reachable in
    record { at = c.at; arcs = c.arcs; reachable = r.0; walk = (walk_keep P h r.1 c.walk).0 }

-- The same of closed walks that use the objective.
pub uses_keep : {Start Start' : ℕ → Type 0} {L L' : ℕ → ℕ → Type 0} {O O' A A' : ℕ → ℕ → ℤ → Type 0} (P : ℕ → Type 0)
    → ((j : ℕ) → Start j → Start' j × P j) → ((j l : ℕ) → P j → L j l → L' j l × P l)
    → ((j l : ℕ) (w : ℤ) → P j → O j l w → O' j l w × P l) → ((j l : ℕ) (w : ℤ) → P j → A j l w → A' j l w × P l)
    → UsesObjective Start L O A → UsesObjective Start' L' O' A'
uses_keep P f g o h u =
    let r = reach_keep P f g u.reachable in
    let a = o u.at u.to u.w r.1 u.arc in
    record {
      at = u.at;
      to = u.to;
      arcs = u.arcs;
      w = u.w;
      v = u.v;
      reachable = r.0;
      arc = a.0;
      back = (walk_keep P h a.1 u.back).0;
    }

-- What is reachable by some leads is reachable by others.
pub reach_map : {Start Start' : ℕ → Type 0} {L L' : ℕ → ℕ → Type 0}
    → ((j : ℕ) → Start j → Start' j) → ((j l : ℕ) → L j l → L' j l) → {j : ℕ} → Reachable Start L j → Reachable Start' L' j
reach_map f g r = (reach_keep (λ _. Unit) (λ j h. (f j h, tt)) (λ j l _ h. (g j l h, tt)) r).0

-- Reachable closed walks along some arcs are such along others.
pub circuit_map : {Start Start' : ℕ → Type 0} {L L' : ℕ → ℕ → Type 0} {A A' : ℕ → ℕ → ℤ → Type 0}
    → ((j : ℕ) → Start j → Start' j) → ((j l : ℕ) → L j l → L' j l) → ((j l : ℕ) (w : ℤ) → A j l w → A' j l w)
    → {w : ℤ} → Circuit Start L A w → Circuit Start' L' A' w
circuit_map f g h c =
    record { at = c.at; arcs = c.arcs; reachable = reach_map f g c.reachable; walk = walk_change h c.walk }

-- Closed walks along some arcs that use the objective are such along others.
pub uses_map : {Start : ℕ → Type 0} {L : ℕ → ℕ → Type 0} {O O' A A' : ℕ → ℕ → ℤ → Type 0}
    → ((j l : ℕ) (w : ℤ) → O j l w → O' j l w) → ((j l : ℕ) (w : ℤ) → A j l w → A' j l w)
    → UsesObjective Start L O A → UsesObjective Start L O' A'
uses_map o h u = uses_keep (λ _. Unit) (λ j b. (b, tt)) (λ j l _ b. (b, tt)) (λ j l w _ b. (o j l w b, tt)) (λ j l w _ b. (h j l w b, tt)) u

-- A walk from a reachable variable ends at one.
pub reach_along : {Start : ℕ → Type 0} {L : ℕ → ℕ → Type 0} {A : ℕ → ℕ → ℤ → Type 0}
    → ((j l : ℕ) (w : ℤ) → A j l w → L j l) → {j k n : ℕ} {w : ℤ}
    → Reachable Start L j → Walk A j k n w → Reachable Start L k
reach_along f r stop = r
reach_along f r (step {j = j} {l = l} {w = w} a p) = reach_along f (onward r (f j l w a)) p

-- A closed walk of at least one arc from a reachable variable.
pub circuit : {Start : ℕ → Type 0} {L : ℕ → ℕ → Type 0} {A : ℕ → ℕ → ℤ → Type 0} {j n : ℕ} {w : ℤ}
    → Reachable Start L j → 0 < n → Walk A j j n w → Circuit Start L A w
circuit {j = j} {n = n} r h p =
    let e : n ≡ suc (n - 1) = omega arith in
    record { at = j; arcs = n - 1; reachable = r; walk = walk_as e refl p }

-- Where h j ≤ w + h l along every arc, the same holds along every walk.
pub lower_walk : (h : ℕ → ℤ) {j k n : ℕ} {w : ℤ} → Walk (λ j l w. h j ≤ℤ (w +ℤ h l)) j k n w → h j ≤ℤ (w +ℤ h k)
lower_walk h p = walk_fold (λ j l w. h j ≤ℤ (w +ℤ h l))
    (λ j. omega (whole, plus_read (pos 0) (h j)))
    (λ j l k w v a b. omega (whole, plus_read w (h l), plus_read v (h k), plus_read w v, plus_read (w +ℤ v) (h k)))
    (λ j l w a. a) p
