-- What a start reaches is one: marks reached from the same start over the same arcs are the same.
use Prim.Native.Nat.{ℕ, ◌<◌}
use mathlib.Core.Path.{◌≡◌, sym, ◌∙◌}
use mathlib.Core.Logic.{◌↔◌, ⊎_elim}
use mathlib.Core.List.{List}
use native.Mathlib.Omega.{arith}
use native.Mathlib.Nat.{eq-zero-or-pos}
use lib.ListN.{get_or}
use Rattle.duality.proofs.Reach.{reach_map}
use Rattle.reach.specs.Marks.{Marked, Led, Begins, Flags, Anchored, AnchoredAnd, Reached}

flags_same : {a b : List ℕ} (j : ℕ) → Flags a → Flags b → (Marked a j → Marked b j) → (Marked b j → Marked a j) → get_or a j 0 ≡ get_or b j 0
flags_same {a} {b} j f g to back = ⊎_elim
    (λ (e : get_or a j 0 ≡ 0). ⊎_elim (λ (d : get_or b j 0 ≡ 0). e ∙ sym d) (λ (h : 0 < get_or b j 0). absurd (omega (arith, back h))) (eq-zero-or-pos (get_or b j 0)))
    (λ (h : 0 < get_or a j 0). omega (arith, to h, f.flag j, g.flag j))
    (eq-zero-or-pos (get_or a j 0))

-- Starts, and arcs, that are the same below the width.
abbrev pub SameBegin : ℕ → List ℕ → List ℕ → Type 0
SameBegin width a b = (j : ℕ) → Begins a width j ↔ Begins b width j

pub reached_one : {arcs arcs' begin begin' marks marks' : List ℕ} {width : ℕ} → Reached arcs width begin marks → Reached arcs' width begin' marks'
    → SameBegin width begin begin' → ((j l : ℕ) → Led arcs width j l ↔ Led arcs' width j l) → (j : ℕ) → j < width → get_or marks j 0 ≡ get_or marks' j 0
reached_one r q b l j h = flags_same j r.flags q.flags
    (λ m. q.marked j (reach_map (λ j. (b j).0) (λ j k. (l j k).0) (r.only j h m)))
    (λ m. r.marked j (reach_map (λ j. (b j).1) (λ j k. (l j k).1) (q.only j h m)))

-- The anchor alone, and the anchor with another variable, are one start.
anchored_to : {a b : List ℕ} {width : ℕ} → Anchored a → Anchored b → (j : ℕ) → Begins a width j → Begins b width j
anchored_to p q j s = record { inside = s.inside; marked = rw (p.only j s.marked) q.anchor }

pub anchored_one : {a b : List ℕ} (width : ℕ) → Anchored a → Anchored b → SameBegin width a b
anchored_one width p q j = (anchored_to p q j, anchored_to q p j)

anchored_and_to : {k : ℕ} {a b : List ℕ} {width : ℕ} → AnchoredAnd k a → AnchoredAnd k b → (j : ℕ) → Begins a width j → Begins b width j
anchored_and_to {b = b} p q j s = record { inside = s.inside; marked = ⊎_elim {C = Marked b j} (λ e. rw e q.anchor) (λ e. rw e q.other) (p.only j s.marked) }

pub anchored_and_one : {k : ℕ} {a b : List ℕ} (width : ℕ) → AnchoredAnd k a → AnchoredAnd k b → SameBegin width a b
anchored_and_one width p q j = (anchored_and_to p q j, anchored_and_to q p j)
