-- Laws of reach: a row marks, a round spreads, a round that reaches a new variable leaves fewer without a mark, and one that reaches
-- none has reached all.
use Prim.Native.Nat.{ℕ, zero, suc, ◌+◌, ◌*◌, ◌-◌, ◌≤◌, ◌<◌}
use mathlib.Core.Path.{◌≡◌, refl, ap, subst, ◌∙◌}
use mathlib.Core.Bool.{Bool, true, false, cond}
use mathlib.Core.List.{List, ◌∷◌}
use mathlib.Core.Logic.{◌⊎◌, inl, inr, ⊎_elim, ◌↔◌}
use native.Mathlib.Omega.{arith}
use native.Mathlib.Nat.{eq-zero-or-pos}
use lib.Dec.{eqb}
use lib.ListN.{length, get_or, set, replicate, length-set, length-replicate}
use lib.Seq.{get_or-set_same, get_or-set_other}
use borrow.Author.Tests.{eqb-false, eq-eqb, ne_eqb}
use Rattle.base.proofs.Numbers.{nat_le_or_lt, same_or_not}
use Rattle.base.proofs.Filled.{zeros}
use Rattle.definitions.specs.Certificate.{Reachable, Anchor, AnchorAnd, start, onward}
use Rattle.definitions.specs.Marks.{DifferBelow}
use Rattle.definitions.proofs.Marks.{differ_here}
use Rattle.duality.specs.Starts.{StartBelow}
use Rattle.duality.proofs.Height.{total_falls}
use Rattle.duality.proofs.Reach.{reach_keep, reach_map}
use Rattle.reach.specs.Marks.{Marked, Led, Begins, Flags, StartMarked, Anchored, AnchoredAnd, Reached}
use Rattle.reach.specs.Spreading.{mark_of, MarksOf, RowMarked, Reaching, unmarked, Spreading}

-- ---- the start

pub zero_flags : Flags (replicate 32 0)
zero_flags = record { length_is = length-replicate {A = ℕ} 32 0; flag = λ k. omega (arith, zeros 32 k) }

pub anchor_marked : Anchored (1 ∷ replicate 31 0)
anchor_marked = record { flags = record { length_is = refl; flag = flag }; anchor = omega arith; only = only }
  where
    flag : (j : ℕ) → get_or (1 ∷ replicate 31 0) j 0 ≤ 1
    flag zero = omega arith
    flag (suc j) = omega (arith, zeros 31 j)

    only : (j : ℕ) → 0 < get_or (1 ∷ replicate 31 0) j 0 → j ≡ 0
    only zero h = refl
    only (suc j) h = absurd (omega (arith, zeros 31 j))

-- ---- one mark

-- A mark stays, and an arc marks; a mark comes from one of the two.
pub mark_kept : (mark arc : ℕ) → 0 < mark → 0 < mark_of mark arc
unfolding mark_of
mark_kept mark arc h = go (eqb arc 0)
  where
    go : (t : Bool) → 0 < cond t mark 1
    go true = h
    go false = omega arith

pub mark_arc : (mark arc : ℕ) → 0 < arc → 0 < mark_of mark arc
unfolding mark_of
mark_arc mark arc h = rw (ne_eqb arc 0 (omega arith)) (omega arith)

pub mark_same : (mark arc : ℕ) → arc ≡ 0 → mark_of mark arc ≡ mark
unfolding mark_of
mark_same mark arc e = rw (eq-eqb arc 0 e) refl

pub mark_from : (mark arc : ℕ) → 0 < mark_of mark arc → (0 < mark) ⊎ (0 < arc)
unfolding mark_of
mark_from mark arc h = go (eqb arc 0) refl h
  where
    go : (t : Bool) → eqb arc 0 ≡ t → 0 < cond t mark 1 → (0 < mark) ⊎ (0 < arc)
    go true e h = inl h
    go false e h = inr (⊎_elim (λ (z : arc ≡ 0). absurd (eqb-false arc 0 e z)) (λ p. p) (eq-zero-or-pos arc))

pub mark_flag : (mark arc : ℕ) → mark ≤ 1 → mark_of mark arc ≤ 1
unfolding mark_of
mark_flag mark arc h = go (eqb arc 0)
  where
    go : (t : Bool) → cond t mark 1 ≤ 1
    go true = h
    go false = omega arith

-- ---- a row

pub row_none : (arcs : List ℕ) (base : ℕ) (old : List ℕ) → RowMarked arcs base 0 old old
row_none arcs base old = record { same = refl; cells = λ l h. absurd (omega arith); others = λ l h. refl }

pub row_more : {arcs : List ℕ} {base k : ℕ} {old new : List ℕ} {v : ℕ} → RowMarked arcs base k old new → k < length new
    → v ≡ mark_of (get_or new k 0) (get_or arcs (base + k) 0) → RowMarked arcs base (k + 1) old (set new k v)
row_more {arcs} {base} {k} {old} {new} {v} h b e = record {
  same = length-set new k v ∙ h.same;
  cells = λ l m. ⊎_elim
      (λ (q : k ≤ l). let p : k ≡ l = omega arith in subst (λ (i : ℕ). get_or (set new k v) i 0 ≡ mark_of (get_or old i 0) (get_or arcs (base + i) 0)) p here)
      (λ (q : l < k). get_or-set_other new k l v 0 (λ p. omega arith) ∙ h.cells l q)
      (nat_le_or_lt k l);
  others = λ l m. get_or-set_other new k l v 0 (λ q. omega arith) ∙ h.others l (omega arith);
}
  where
    here : get_or (set new k v) k 0 ≡ mark_of (get_or old k 0) (get_or arcs (base + k) 0)
    here = get_or-set_same new k v 0 b ∙ e ∙ ap (λ z. mark_of z (get_or arcs (base + k) 0)) (h.others k (omega arith))

module _ {arcs : List ℕ} {base : ℕ} {old new : List ℕ} (r : RowMarked arcs base 32 old new) where
  -- A row keeps the marks,
  pub row_kept : (l : ℕ) → Marked old l → Marked new l
  row_kept l m = ⊎_elim (λ (q : 32 ≤ l). rw (r.others l q) m)
      (λ (q : l < 32). rw (r.cells l q) (mark_kept (get_or old l 0) (get_or arcs (base + l) 0) m)) (nat_le_or_lt 32 l)

  -- and they are still zeros and ones.
  pub row_flags : Flags old → Flags new
  row_flags f = record { length_is = r.same ∙ f.length_is; flag = flag }
    where
      flag : (l : ℕ) → get_or new l 0 ≤ 1
      flag l = ⊎_elim (λ (q : 32 ≤ l). rw (r.others l q) (f.flag l))
          (λ (q : l < 32). rw (r.cells l q) (mark_flag (get_or old l 0) (get_or arcs (base + l) 0) (f.flag l))) (nat_le_or_lt 32 l)

-- ---- done

module _ {done : List ℕ} (f : Flags done) (k : ℕ) (small : k < 32) where
  long : k < length done
  long = omega (arith, f.length_is)

  done_here : get_or (set done k 1) k 0 ≡ 1
  done_here = get_or-set_same done k 1 0 long

  done_there : (j : ℕ) → (j ≡ k → ⊥) → get_or (set done k 1) j 0 ≡ get_or done j 0
  done_there j d = get_or-set_other done k j 1 0 d

  -- With variable k done these are zeros and ones,
  pub done_flags : Flags (set done k 1)
  done_flags = record { length_is = length-set done k 1 ∙ f.length_is; flag = flag }
    where
      flag : (j : ℕ) → get_or (set done k 1) j 0 ≤ 1
      flag j = ⊎_elim (λ (e : j ≡ k). rw e (omega (arith, done_here))) (λ d. rw (done_there j d) (f.flag j)) (same_or_not j k)

  -- k is done,
  pub done_made : Marked (set done k 1) k
  done_made = omega (arith, done_here)

  -- what is done was, or is k,
  pub done_or : (j : ℕ) → Marked (set done k 1) j → (j ≡ k) ⊎ Marked done j
  done_or j m = ⊎_elim (λ (e : j ≡ k). inl e) (λ d. inr (rw (done_there j d) at m)) (same_or_not j k)

  -- what was done is,
  pub done_kept : (j : ℕ) → Marked done j → Marked (set done k 1) j
  done_kept j m = ⊎_elim (λ (e : j ≡ k). rw e (omega (arith, done_here))) (λ d. rw (done_there j d) m) (same_or_not j k)

  -- and if k was not, fewer are left.
  pub done_fewer : (width : ℕ) → k < width → get_or done k 0 ≡ 0 → unmarked width (set done k 1) < unmarked width done
  unfolding unmarked
  done_fewer width h z = total_falls _ _ width k (λ j _. most j) h (rw (done_here, z) (omega arith))
    where
      most : (j : ℕ) → 1 - get_or (set done k 1) j 0 ≤ 1 - get_or done j 0
      most j = ⊎_elim (λ (e : j ≡ k). rw (e, done_here) (omega arith)) (λ d. rw (done_there j d) (omega arith)) (same_or_not j k)

-- ---- reach on the way

pub reaching_start : (arcs : List ℕ) (width : ℕ) (begin : List ℕ) → Reaching arcs width begin begin (replicate 32 0)
reaching_start arcs width begin = record {
  begun = λ j s. s.marked;
  only = λ j b h. start (record { inside = b; marked = h });
  onward = λ j l m. absurd (omega (arith, zeros 32 j));
}

-- A marked variable marks all to which it leads, and is done.
pub reaching_row : {arcs : List ℕ} {width : ℕ} {begin marks done more : List ℕ} {k : ℕ} → width ≤ 32 → k < width → Flags done → Marked marks k
    → RowMarked arcs (k * 32) 32 marks more → Reaching arcs width begin marks done → Reaching arcs width begin more (set done k 1)
reaching_row {arcs} {width} {begin} {marks} {done} {more} {k} w b f marked r h = record {
  begun = λ j s. row_kept r j (h.begun j s);
  only = λ l m q. ⊎_elim
      (λ p. h.only l m p)
      (λ p. onward (h.only k b marked) (record { from = b; to = m; arc = p }))
      (mark_from (get_or marks l 0) (get_or arcs (k * 32 + l) 0) (rw (r.cells l (omega arith)) at q));
  onward = λ j l m led. ⊎_elim (λ (e : j ≡ k). here l (rw e at led)) (λ d. row_kept r l (h.onward j l d led)) (done_or f k (omega arith) j m);
}
  where
    here : (l : ℕ) → Led arcs width k l → Marked more l
    here l led = rw (r.cells l (omega (arith, led.to))) (mark_arc (get_or marks l 0) (get_or arcs (k * 32 + l) 0) led.arc)

-- Where every marked variable is done, all is reached.
pub reaching_done : {arcs : List ℕ} {width : ℕ} {begin marks done : List ℕ} → Flags marks → Reaching arcs width begin marks done
    → ((j : ℕ) → j < width → Marked marks j → Marked done j) → Reached arcs width begin marks
reaching_done {arcs} {width} {begin} {marks} {done} f h all = record { flags = f; marked = marked; only = h.only }
  where
    marked : (j : ℕ) → Reachable (Begins begin width) (Led arcs width) j → Marked marks j
    marked j (start s) = h.begun j s
    marked j (onward {j = i} q led) = h.onward i j (all i led.from (marked i q)) led

-- ---- a round

-- A variable that is not marked, or is done, is passed.
pub spreading_skip : {arcs : List ℕ} {width : ℕ} {marks done : List ℕ} {k : ℕ} {new spread : List ℕ}
    → Spreading arcs width marks done k new spread → get_or new k 0 ≤ get_or spread k 0 → Spreading arcs width marks done (k + 1) new spread
spreading_skip {marks = marks} {k = k} {spread = spread} h b = record {
  flags = h.flags;
  done_flags = h.done_flags;
  reaching = h.reaching;
  kept = h.kept;
  settled = λ j l m. ⊎_elim
      (λ (q : k ≤ j). let p : k ≡ j = omega arith in subst (λ (i : ℕ). Marked marks i → Marked spread i) p (λ n. omega (arith, h.kept k n)) m)
      (λ (q : j < k). h.settled j q m)
      (nat_le_or_lt k j);
}

-- Another spreads its marks.
pub spreading_row : {arcs : List ℕ} {width : ℕ} {marks done : List ℕ} {k : ℕ} {new spread more : List ℕ}
    → Spreading arcs width marks done k new spread → width ≤ 32 → k < width → get_or spread k 0 < get_or new k 0
    → RowMarked arcs (k * 32) 32 new more → Spreading arcs width marks done (k + 1) more (set spread k 1)
spreading_row {marks = marks} {k = k} {spread = spread} h w b due r =
    let small : k < 32 = omega arith in
    record {
      flags = row_flags r h.flags;
      done_flags = done_flags h.done_flags k small;
      reaching = λ s q. reaching_row w b h.done_flags (omega arith) r (h.reaching s q);
      kept = λ j m. row_kept r j (h.kept j m);
      settled = λ j l m. ⊎_elim
          (λ (q : k ≤ j). let p : k ≡ j = omega arith in subst (λ (i : ℕ). Marked (set spread k 1) i) p (done_made h.done_flags k small))
          (λ (q : j < k). done_kept h.done_flags k small j (h.settled j q m))
          (nat_le_or_lt k j);
    }

-- A round that has reached a new variable leaves fewer without a mark,
pub spreading_fewer : {arcs : List ℕ} {width : ℕ} {marks done new spread : List ℕ} → Flags marks → Spreading arcs width marks done width new spread
    → DifferBelow width marks new → unmarked width new < unmarked width marks
unfolding unmarked
spreading_fewer {width = width} {marks} {new = new} f s d = total_falls _ _ width d.place (λ j _. most j) d.inside less
  where
    most : (j : ℕ) → 1 - get_or new j 0 ≤ 1 - get_or marks j 0
    most j = ⊎_elim (λ (e : get_or marks j 0 ≡ 0). omega arith) (λ m. omega (arith, s.kept j m)) (eq-zero-or-pos (get_or marks j 0))

    less : 1 - get_or new d.place 0 < 1 - get_or marks d.place 0
    less = ⊎_elim
        (λ (e : get_or marks d.place 0 ≡ 0). ⊎_elim
        (λ (z : get_or new d.place 0 ≡ 0). absurd (d.unequal (omega arith)))
        (λ (q : 0 < get_or new d.place 0). omega arith)
        (eq-zero-or-pos (get_or new d.place 0)))
        (λ m. absurd (d.unequal (omega (arith, s.kept d.place m, f.flag d.place, s.flags.flag d.place))))
        (eq-zero-or-pos (get_or marks d.place 0))

-- and one that has reached none has reached all: each marked variable had its mark before, and is done.
pub spreading_reached : {arcs : List ℕ} {width : ℕ} {begin marks done new spread : List ℕ} → Reaching arcs width begin marks done
    → Spreading arcs width marks done width new spread → (DifferBelow width marks new → ⊥) → Reached arcs width begin new
spreading_reached {width = width} {begin} {marks} {new = new} h s same = reaching_done s.flags (s.reaching begin h) (λ j b m. s.settled j b (before j b m))
  where
    before : (j : ℕ) → j < width → Marked new j → Marked marks j
    before j b m = ⊎_elim
        (λ (e : get_or marks j 0 ≡ get_or new j 0). omega arith)
        (λ u. absurd (same (differ_here b u)))
        (same_or_not (get_or marks j 0) (get_or new j 0))

-- ---- from a start

-- Marks are those of the start that they mark,
pub begins_marked : {width : ℕ} {begin : List ℕ} → Flags begin → StartMarked (Begins begin width) width begin
begins_marked f = record { flags = f; marked = λ j b. b; only = λ j b. b }

-- and the anchor's those of variable 0.
pub anchored_marked : {width : ℕ} {begin : List ℕ} → Anchored begin → 0 < width → StartMarked Anchor width begin
anchored_marked a w = record {
  flags = a.flags;
  marked = λ j e. record { inside = omega arith; marked = rw e a.anchor };
  only = λ j b. a.only j b.marked;
}

-- Those of variable k and the anchor,
pub anchored_and_marked : {width k : ℕ} {begin : List ℕ} → AnchoredAnd k begin → k < width → StartMarked (AnchorAnd k) width begin
anchored_and_marked {k = k} a w = record {
  flags = a.flags;
  marked = λ j. ⊎_elim
      (λ (e : j ≡ 0). record { inside = omega arith; marked = rw e a.anchor })
      (λ (e : j ≡ k). record { inside = omega arith; marked = rw e a.other });
  only = λ j b. a.only j b.marked;
}

-- and those of coefficients that are not blank.
pub coefficients_marked : {width : ℕ} (coefficients : List ℕ) {begin : List ℕ} → MarksOf coefficients 32 begin → width ≤ 32 → (j : ℕ)
    → Begins begin width j ↔ ((j < width) × (0 < get_or coefficients j 0))
unfolding mark_of
coefficients_marked {width} coefficients {begin} m w j = (
  λ b. (
    b.inside,
    ⊎_elim
        (λ (e : get_or coefficients j 0 ≡ 0). absurd (omega (arith, b.marked, m.each j (omega (arith, b.inside)) ∙ mark_same 0 _ e)))
        (λ h. h)
        (eq-zero-or-pos (get_or coefficients j 0)),
  ),
  λ q. record { inside = q.0; marked = rw (m.each j (omega (arith, q.0))) (mark_arc 0 _ q.1) },
)

pub coefficients_flags : (coefficients : List ℕ) {begin : List ℕ} → MarksOf coefficients 32 begin → Flags begin
coefficients_flags coefficients {begin} m = record {
  length_is = m.size_is;
  flag = λ j. ⊎_elim (λ (h : 32 ≤ j). omega (arith, m.rest j h)) (λ (h : j < 32). rw (m.each j h) (mark_flag 0 _ (omega arith))) (nat_le_or_lt 32 j);
}

-- Whether a variable is one of the start is decided by its mark.
pub marked_start : {Start : ℕ → Type 0} {width : ℕ} {begin : List ℕ} → StartMarked Start width begin → StartBelow width Start
marked_start {Start} {width} {begin} s = record { decided = decided; inside = λ j h. (s.marked j h).inside }
  where
    decided : (j : ℕ) → Start j ⊎ (Start j → ⊥)
    decided j = ⊎_elim
        (λ (h : width ≤ j). inr (λ b. omega (arith, (s.marked j b).inside)))
        (λ (h : j < width). ⊎_elim
        (λ (z : get_or begin j 0 ≡ 0). inr (λ b. omega (arith, (s.marked j b).marked)))
        (λ m. inl (s.only j (record { inside = h; marked = m })))
        (eq-zero-or-pos (get_or begin j 0)))
        (nat_le_or_lt width j)

-- What is reached from these marks is reachable from the start, and what is reachable from it is reached.
module _ {Start : ℕ → Type 0} {arcs : List ℕ} {width : ℕ} {begin marks : List ℕ} (starts : StartMarked Start width begin)
    (reached : Reached arcs width begin marks) where
  pub reached_from : (j : ℕ) → j < width → Marked marks j → Reachable Start (Led arcs width) j
  reached_from j b m = reach_map starts.only (λ j l h. h) (reached.only j b m)

  pub from_reached : (j : ℕ) → Reachable Start (Led arcs width) j → (j < width) × Marked marks j
  from_reached j r =
      let q = reach_keep {L' = Led arcs width} (λ j. j < width) (λ j h. let b = starts.marked j h in (b, b.inside)) (λ j l _ a. (a, a.to)) r in
      (q.1, reached.marked j q.0)
