-- One turn of the yielding of document 02's request 2.5, for an accepted answer of class 1. A variable that is reached and has a number
-- yields to one that is and has; the arc between them weighs at least the first number less the second, at the least span.
use Prim.Native.Nat.{ℕ, suc, ◌≤◌, ◌<◌}
use mathlib.Core.Path.{◌≡◌, refl, sym, subst}
use mathlib.Core.Logic.{⊎_elim}
use native.Mathlib.Omega.{arith}
use lib.IntN.{ℤ, pos, ◌+ℤ◌}
use Rattle.base.proofs.Numbers.{nat_le_or_lt, same_or_not}
use Rattle.definitions.specs.Tropical.{Trop, fin, plus, ◌⊑◌, Finite}
use Rattle.definitions.specs.Problem.{Problem, Point, side, value}
use Rattle.definitions.specs.Certificate.{Strategy, onward, Arc, HasPick, raise, start_of, AcceptedOptimal}
use Rattle.definitions.specs.Certificate as Certificates
use Rattle.definitions.specs.Reasons.{RowYields, Yields, Begins, at_anchor, at_second}
use Rattle.definitions.proofs.Tropical.{fin_below, finite_above, ⊑_trans, ⊑_of_eq, plus_is, plus_parts, plus_zero, largest_above}
use Rattle.definitions.proofs.Raise.{raised, unraised}
use Rattle.definitions.proofs.Values.{≼_refl, minus_raised}
use Rattle.duality.specs.Picks.{NoneAbove}
use Rattle.selection.proofs.Certificates.{reached_inside}
use Rattle.binding.specs.Turns.{Live, Turn, turn_weight}

-- A row yields to one variable,
pub row_yields_one : {p : Problem} {x : Point} {i l k : ℕ} → RowYields p x i l → RowYields p x i k → l ≡ k
row_yields_one {l = l} {k} a b = ⊎_elim
    (λ (h : l ≤ k). ⊎_elim
    (λ (g : k ≤ l). omega arith)
    (λ (g : l < k). absurd (b.first l g a.latest))
    (nat_le_or_lt k l))
    (λ (h : k < l). absurd (a.first k h b.latest))
    (nat_le_or_lt l k)

-- and so does a variable.
pub yields_one : {p : Problem} {x : Point} {picks : Strategy} {j l k : ℕ} → Yields p x picks j l → Yields p x picks j k → l ≡ k
yields_one {p} {x} a b =
    let e : a.row ≡ b.row = omega (arith, a.picked, b.picked) in
    row_yields_one (subst (λ (i : ℕ). RowYields p x i _) e a.row_yields) b.row_yields

-- The arc of a turn, at any t.
unfoldable pub arc_of : {p : Problem} {s : ℤ} {x : Point} {picks : Strategy} {j l : ℕ} (t : ℤ) (u : Turn p s x picks j l) → Arc p picks t j l (turn_weight t u)
arc_of t u =
    record {
      row = u.row;
      picked = u.picked;
      inside = u.to;
      by = record { a = u.left; b = u.right; left_is = u.left_is; right_is = u.right_is; weighs = refl };
    }

-- ---- an accepted answer of class 1

module _ {Start : ℕ → Type 0} {p : Problem} {s : ℤ} {x : Point} {picks : Strategy} (inside : (j : ℕ) → Start j → j ≤ p.n)
    (above : NoneAbove (suc p.m) (suc p.n) picks) (a : AcceptedOptimal Start p s x picks) where
  -- At the span each row is kept, the objective's raised.
  kept : (i : ℕ) → i ≤ p.m → side p.n (p.left i) x ⊑ plus (side p.n (p.right i) x) (fin (raise p s i))
  unfolding value
  kept i h = ⊎_elim
      (λ (e : i ≡ p.m). rw (e, raised) (minus_raised s _ _ (rw a.value_is (≼_refl _))))
      (λ (d : i ≡ p.m → ⊥). rw (unraised p s i d, plus_zero) (a.feasible.keeps i (omega arith)))
      (same_or_not i p.m)

  -- The pick of a live variable is a row of the problem.
  pub live_picks : {j : ℕ} → Live Start p x picks j → (h : HasPick p picks j) × (h.row ≤ p.m)
  live_picks {j} v =
      let h = a.picks_count j v.reached in
      let k : j ≤ p.n = reached_inside inside v.reached in
      (h, omega (arith, h.picked, above j (omega arith)))

  -- The picked row's right side is a number where the variable is live,
  pub live_side : {j i : ℕ} → Live Start p x picks j → picks j ≡ suc i → Finite (side p.n (p.right i) x)
  unfolding side
  live_side {j} {i} v e =
      let h = live_picks v in
      let d : h.0.row ≡ i = omega (arith, h.0.picked) in
      let k : j ≤ p.n = reached_inside inside v.reached in
      let l = rw d at h.0.left in
      let b : i ≤ p.m = omega (arith, h.1) in
      let low = largest_above (λ j. plus (p.left i j) (x j)) (suc p.n) j (omega arith) in
      (plus_parts (finite_above (⊑_trans (⊑_of_eq (sym (plus_is l.is v.planned.is))) (⊑_trans low (kept i b))))).0

  -- so that it yields with a number.
  pub turn : {j l : ℕ} → Live Start p x picks j → Yields p x picks j l → Turn p s x picks j l
  unfolding side
  turn {j} {l} v y =
      let i = y.row in
      let h = live_picks v in
      let d : h.0.row ≡ i = omega (arith, h.0.picked, y.picked) in
      let k : j ≤ p.n = reached_inside inside v.reached in
      let f = rw d at h.0.left in
      let b : i ≤ p.m = omega (arith, h.1) in
      let g = plus_parts (subst Finite (sym y.row_yields.latest) (live_side v y.picked)) in
      let low = largest_above (λ j. plus (p.left i j) (x j)) (suc p.n) j (omega arith) in
      let z : fin (raise p s i) ≡ fin (raise p s i) = refl in
      let q = plus_is (plus_is g.0.is g.1.is) z in
      let r : plus (side p.n (p.right i) x) (fin (raise p s i)) ≡ fin ((g.0.whole +ℤ g.1.whole) +ℤ raise p s i) =
      subst (λ (z : Trop). plus z (fin (raise p s i)) ≡ fin ((g.0.whole +ℤ g.1.whole) +ℤ raise p s i)) y.row_yields.latest q in
      record {
        row = i;
        picked = y.picked;
        row_yields = y.row_yields;
        row_inside = b;
        to = y.row_yields.inside;
        left = f.whole;
        right = g.0.whole;
        from = v.planned.whole;
        on = g.1.whole;
        left_is = f.is;
        right_is = g.0.is;
        from_is = v.planned.is;
        on_is = g.1.is;
        rises = fin_below (⊑_trans (⊑_of_eq (sym (plus_is f.is v.planned.is))) (⊑_trans low (⊑_trans (kept i b) (⊑_of_eq r))));
      }

  -- The variable that it leads to is live.
  pub live_on : {j l : ℕ} → Live Start p x picks j → Turn p s x picks j l → Live Start p x picks l
  live_on v u =
      record {
        reached = onward v.reached (record { row = u.row; picked = u.picked; inside = u.to; right = record { whole = u.right; is = u.right_is } });
        planned = record { whole = u.on; is = u.on_is };
      }

-- Where the turns begin, the variable is live.
pub begins_live :
    {p : Problem} {s : ℤ} {x : Point} {picks : Strategy} {start j : ℕ} → AcceptedOptimal (start_of p start) p s x picks → Begins p x start j
    → Live (start_of p start) p x picks j
unfolding start_of
begins_live a at_anchor = record { reached = Certificates.start refl; planned = record { whole = pos 0; is = a.feasible.anchored } }
begins_live a (at_second second planned first) = record { reached = Certificates.start second; planned = planned }
