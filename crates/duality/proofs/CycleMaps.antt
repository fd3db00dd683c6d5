-- Cycles carried along. Where the arcs of one kind are arcs of another at every variable with a property that arcs keep, a cycle of
-- the one is a cycle of the other: through the same variables, of the same weight.
use Prim.Native.Nat.{ℕ}
use mathlib.Core.Path.{◌≡◌}
use mathlib.Core.Logic.{inl, inr}
use lib.IntN.{ℤ}
use Rattle.definitions.specs.Certificate.{Walk, stop, step, Uses, Distinct, Cycle, NoCycleUses}
use Rattle.duality.proofs.Reach.{reach_keep}

module _ {A B : ℕ → ℕ → ℤ → Type 0} (P : ℕ → Type 0) (change : (j l : ℕ) (w : ℤ) → P j → A j l w → B j l w × P l) where
  -- The walk by the arcs of the other kind.
  carried : {j k n : ℕ} {w : ℤ} → P j → Walk A j k n w → Walk B j k n w
  carried q stop = stop
  carried q (step {j = j} {l = l} {w = w} a p) = let s = change j l w q a in step s.0 (carried s.1 p)

  -- It uses an arc of a property that the arc before had,
  carried_uses :
      (Q : (j l : ℕ) (w : ℤ) → A j l w → Type 0) (R : (j l : ℕ) (w : ℤ) → B j l w → Type 0)
      → ((j l : ℕ) (w : ℤ) (q : P j) (a : A j l w) → Q j l w a → R j l w (change j l w q a).0)
      → {j k n : ℕ} {w : ℤ} (q : P j) (p : Walk A j k n w) → Uses Q p → Uses R (carried q p)
  unfolding Uses carried
  carried_uses Q R f q stop u = u
  carried_uses Q R f q (step {j = j} {l = l} {w = w} a p) (inl u) = inl (f j l w q a u)
  carried_uses Q R f q (step {j = j} {l = l} {w = w} a p) (inr u) = inr (carried_uses Q R f (change j l w q a).1 p u)

  -- and passes no other variable,
  carried_passes :
      (x : ℕ) {j k n : ℕ} {w : ℤ} (q : P j) (p : Walk A j k n w) → Uses (λ i l v a. i ≡ x) (carried q p) → Uses (λ i l v a. i ≡ x) p
  unfolding Uses carried
  carried_passes x q stop u = u
  carried_passes x q (step a p) (inl e) = inl e
  carried_passes x q (step {j = j} {l = l} {w = w} a p) (inr u) = inr (carried_passes x (change j l w q a).1 p u)

  -- so that its variables are distinct.
  carried_distinct : {j k n : ℕ} {w : ℤ} (q : P j) (p : Walk A j k n w) → Distinct p → Distinct (carried q p)
  unfolding Distinct carried
  carried_distinct q stop d = tt
  carried_distinct q (step {j = j} {l = l} {w = w} a p) d =
      (λ u. d.0 (carried_passes j (change j l w q a).1 p u), carried_distinct (change j l w q a).1 p d.1)

module _ {Start Start' : ℕ → Type 0} {L L' : ℕ → ℕ → Type 0} {A B : ℕ → ℕ → ℤ → Type 0} (P : ℕ → Type 0)
    (begins : (j : ℕ) → Start j → Start' j × P j) (leads : (j l : ℕ) → P j → L j l → L' j l × P l)
    (change : (j l : ℕ) (w : ℤ) → P j → A j l w → B j l w × P l) where
  pub cycle_keep : {w : ℤ} → Cycle Start L A w → Cycle Start' L' B w
  cycle_keep c =
      let r = reach_keep P begins leads c.reachable in
      record {
        at = c.at;
        arcs = c.arcs;
        reachable = r.0;
        walk = carried P change r.1 c.walk;
        distinct = carried_distinct P change r.1 c.walk c.distinct;
      }

  -- Where no cycle of the other kind uses an arc of some property, none of the one kind uses an arc that comes to have it.
  pub unused_keep :
      (Q : (j l : ℕ) (w : ℤ) → A j l w → Type 0) (R : (j l : ℕ) (w : ℤ) → B j l w → Type 0)
      → ((j l : ℕ) (w : ℤ) (q : P j) (a : A j l w) → Q j l w a → R j l w (change j l w q a).0)
      → NoCycleUses Start' L' B R → NoCycleUses Start L A Q
  unfolding cycle_keep
  unused_keep Q R f none w c u = none w (cycle_keep c) (carried_uses P change Q R f (reach_keep P begins leads c.reachable).1 c.walk u)
