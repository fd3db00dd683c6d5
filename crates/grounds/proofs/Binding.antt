-- From lists to the problem: the turns over lists are the yielding of the definition, and what came back is its round.
use Rattle.std.proofs.Common.{◌≡◌, ℕ, zero, suc, ◌+◌, ◌-◌, ◌≤◌, ◌<◌, Bool, true, false, cond, List, [], length, get_or, drop, Some, refl, sym, ap, ◌∙◌, arith, length-drop, get_or-drop}
use mathlib.Core.Logic.{⊎_elim}
use lib.Dec.{ltb}
use lib.Seq.{ext_get_or}
use borrow.Author.Tests.{ltb-true, ltb-false}
use Rattle.base.proofs.Numbers.{below_or_last}
use Rattle.definitions.specs.Tropical.{Trop, plus, largest, Finite}
use Rattle.definitions.specs.Problem.{Problem, side}
use Rattle.definitions.specs.Certificate.{Second}
use Rattle.definitions.specs.Offset.{trop_of}
use Rattle.definitions.specs.ProblemRecord.{list_of}
use Rattle.definitions.specs.Verdict.{strategy_of}
use Rattle.definitions.specs.Reasons as Reasons
use Rattle.definitions.specs.Reasons.{RowYields, Yields, Begins, at_anchor, at_second}
use Rattle.definitions.proofs.Tropical.{⊑_antisym, ⊑_of_eq, ⊑_trans, largest_above, largest_least}
use Rattle.definitions.proofs.ProblemBack.{listed-length, listed_at}
use Rattle.records.specs.Stamps.{stamps_point}
use Rattle.closed_walks.specs.Tables.{Picked}
use Rattle.grounds.specs.Tables.{row_in, RightHeld}
use Rattle.grounds.specs.Latest.{sum_at, FirstLatest}
use Rattle.grounds.specs.Turns.{Next, MomentTurn, CameBack}
use Rattle.grounds.specs.Rounds.{MetAt, Beginning, Binding}
use Rattle.grounds.specs.declared.turns.Turns.{Turns}
use Rattle.grounds.proofs.Reaching.{offset_finite, finite_offset}

-- ---- one turn

module _ {p : Problem} {right : List ℕ} (stamps : List ℕ) {n m : ℕ} (held : RightHeld p right n m) where
  -- The first latest of a row is the one to which it yields,
  pub latest_yields : {i l : ℕ} → i ≤ m → FirstLatest (row_in right i) stamps (n + 1) l → RowYields p (stamps_point stamps) i l
  unfolding side stamps_point
  latest_yields {i} {l} h f =
      let e : suc p.n ≡ n + 1 = omega (arith, held.n_is) in
      let same : (k : ℕ) → k < n + 1 → sum_at (row_in right i) stamps k ≡ plus (p.right i k) (trop_of (get_or stamps k 0)) =
      λ k b. ap (λ (x : Trop). plus x (trop_of (get_or stamps k 0))) (held.right_is i k h (omega arith)) in
      let top : largest (λ k. plus (p.right i k) (trop_of (get_or stamps k 0))) (suc p.n) ≡ plus (p.right i l) (trop_of (get_or stamps l 0)) =
      ⊑_antisym
      (largest_least _ (suc p.n) (λ k b.
      let g : k < n + 1 = omega arith in
      ⊑_trans (⊑_of_eq (sym (same k g))) (⊑_trans (f.latest k g) (⊑_of_eq (same l f.inside)))))
      (largest_above (λ k. plus (p.right i k) (trop_of (get_or stamps k 0))) (suc p.n) l (omega (arith, f.inside))) in
      record {
        inside = omega (arith, f.inside);
        latest = sym top;
        first = λ k b q.
            let g : k < n + 1 = omega (arith, f.inside) in
            f.first k b (⊑_of_eq (same l f.inside ∙ sym top ∙ sym q ∙ sym (same k g)));
      }

  -- and so for a variable.
  pub next_yields : {picks : List ℕ} {j l : ℕ} → Picked picks (m + 1) → Next right stamps picks n j l → Yields p (stamps_point stamps) (strategy_of picks) j l
  unfolding strategy_of
  next_yields {picks} {j} above x =
      record {
        row = x.row;
        picked = omega (arith, x.picked);
        row_yields = latest_yields (omega (arith, x.picked, above.none_above j)) x.yields;
      }

  -- ---- the beginning

  met_second : {k : ℕ} → k ≤ n → MetAt (row_in right m) stamps k → Second p k × Finite (stamps_point stamps k)
  unfolding stamps_point
  met_second {k} h w = (
    record { inside = omega (arith, held.n_is); right = rw held.m_is (offset_finite (held.right_is m k (omega arith) h) w.0) },
    offset_finite refl w.1,
  )

  pub second_met : {k : ℕ} → Second p k → Finite (stamps_point stamps k) → (k ≤ n) × MetAt (row_in right m) stamps k
  unfolding stamps_point
  second_met {k} s f =
      let h : k ≤ n = omega (arith, s.inside, held.n_is) in
      (h, (finite_offset (held.right_is m k (omega arith) h) (rw held.m_is at s.right), finite_offset refl f))

  -- The turns begin where the definition says.
  pub begins_at : (start : ℕ) {j : ℕ} → start ≤ 1 → Beginning right stamps n m start (Some j) → Begins p (stamps_point stamps) start j
  begins_at zero {j} h g = let s = g.anchor refl in let e : j ≡ 0 = cc in rw e at_anchor
  begins_at (suc zero) h g =
      let f = g.second (omega arith) in
      let w = met_second (omega (arith, f.0)) f.1 in
      at_second w.0 w.1 (λ k l s q. f.2 k l (second_met s q).1)
  begins_at (suc (suc start)) h g = absurd (omega arith)

-- ---- where the turns start

-- Before the first turn none has come.
pub turns_start :
    {right stamps picks : List ℕ} {n m start j : ℕ} → Binding right stamps picks n m start → Beginning right stamps n m start (Some j)
    → MomentTurn right stamps picks n (n + 1) [] j
turns_start {j = j} b g =
    record {
      live = b.live;
      going = b.going;
      gone = omega arith;
      came = record {
        most = omega arith;
        lives = λ i h. absurd (omega arith);
        yields = λ i h. absurd (omega arith);
        new = λ i k h g. absurd (omega arith);
      };
      alive = b.begins (Some j) g;
      joins = λ i d. absurd (omega arith);
    }

-- ---- the round

-- The variable of turn i: as it came, and behind these the one that comes again.
turn_of : Turns → ℕ → ℕ
turn_of t i = cond (ltb i (length t.came)) (get_or t.came i 0) (get_or t.came t.back 0)

turn_in : (t : Turns) (i : ℕ) → i < length t.came → turn_of t i ≡ get_or t.came i 0
unfolding turn_of
turn_in t i h = go (ltb i (length t.came)) refl
  where
    go : (b : Bool) → ltb i (length t.came) ≡ b → cond b (get_or t.came i 0) (get_or t.came t.back 0) ≡ get_or t.came i 0
    go true e = refl
    go false e = absurd (omega (arith, ltb-false i (length t.came) e))

turn_out : (t : Turns) (i : ℕ) → length t.came ≤ i → turn_of t i ≡ get_or t.came t.back 0
unfolding turn_of
turn_out t i h = go (ltb i (length t.came)) refl
  where
    go : (b : Bool) → ltb i (length t.came) ≡ b → cond b (get_or t.came i 0) (get_or t.came t.back 0) ≡ get_or t.came t.back 0
    go true e = absurd (omega (arith, ltb-true i (length t.came) e))
    go false e = refl

module _ {p : Problem} {right : List ℕ} (stamps : List ℕ) {picks : List ℕ} {n m first : ℕ} {t : Turns} (held : RightHeld p right n m) (above : Picked picks (m + 1))
    (c : CameBack right stamps picks n first t) where
  step_yields : (i : ℕ) → i < length t.came → Yields p (stamps_point stamps) (strategy_of picks) (turn_of t i) (turn_of t (suc i))
  step_yields i h = ⊎_elim
      (λ (q : suc i < length t.came).
      let e : i + 1 ≡ suc i = omega arith in
      rw (turn_in t i h, turn_in t (suc i) q) (next_yields stamps held above (rw e at (c.yields i (omega arith)))))
      (λ (q : suc i ≡ length t.came). rw (turn_in t i h, turn_out t (suc i) (omega arith)) (next_yields stamps held above (c.again i (omega arith))))
      (below_or_last (suc i) (length t.came) (omega arith))

  -- What came back is the round of the definition.
  pub came_round :
      {start : ℕ} → Begins p (stamps_point stamps) start first → Reasons.Round p (stamps_point stamps) (strategy_of picks) start (drop t.back t.came)
  came_round b =
      let l : 0 < length t.came = omega (arith, c.back_inside) in
      record {
        turn = turn_of t;
        begins = rw (turn_in t 0 l, c.first_is) b;
        back = t.back;
        last = length t.came - 1;
        after = omega (arith, c.back_inside);
        yields = λ i h. step_yields i (omega arith);
        new = λ i k h g e. c.new i k h (omega arith) (sym (turn_in t i (omega arith)) ∙ e ∙ turn_in t k (omega arith));
        again =
            let e : suc (length t.came - 1) ≡ length t.came = omega arith in
            rw (e, turn_out t (length t.came) (omega arith), turn_in t t.back c.back_inside) refl;
        round_is = same;
      }
    where
      size : ℕ
      size = suc (length t.came - 1) - t.back

      long : length (drop t.back t.came) ≡ size
      long = length-drop t.back t.came ∙ omega (arith, c.back_inside)

      same : drop t.back t.came ≡ list_of (λ i. turn_of t (t.back + i)) size
      same = ext_get_or 0 _ _ (long ∙ sym (listed-length (λ i. turn_of t (t.back + i)) size)) (λ i h.
          let b : i < size = omega (arith, long) in
          get_or-drop t.back t.came i 0
          ∙ sym (turn_in t (t.back + i) (omega (arith, c.back_inside)))
          ∙ sym (listed_at (λ i. turn_of t (t.back + i)) 0 size i b))

-- The round from where the turns begin.
pub binding_is :
    {right stamps picks : List ℕ} {n m start j : ℕ} {t : Turns} → Binding right stamps picks n m start → Beginning right stamps n m start (Some j)
    → CameBack right stamps picks n j t → (p : Problem) → RightHeld p right n m → start ≤ 1
    → Reasons.Round p (stamps_point stamps) (strategy_of picks) start (drop t.back t.came)
binding_is {stamps = stamps} {start = start} b g c p held h = came_round stamps held b.picked c (begins_at stamps held start h g)
