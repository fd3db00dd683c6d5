-- The turns over lists: a variable that has come before ends them, a new one is added, and its row yields to the next.
use Rattle.std.proofs.Common.{◌≡◌, ℕ, ◌+◌, ◌-◌, ◌*◌, ◌≤◌, ◌<◌, List, [], ◌∷◌, ◌++◌, length, get_or, Some, None, ◌==◌, refl, sym, subst, ◌∙◌, arith, length-append}
use mathlib.Core.Logic.{⊎_elim}
use borrow.Author.Tests.{eqb-true, eqb-false}
use Rattle.std.specs.List.{position, position_or_len}
use Rattle.std.proofs.lemmas.List.{get_or_append_left, get_or-append_right}
use Rattle.std.proofs.lemmas.List.Quantifiers.{position-Some}
use Rattle.std.proofs.lemmas.List.Sums.{fails_before_first}
use Rattle.std.proofs.lemmas.Grind.{common_steps}
use Rattle.base.specs.Filled.{Filled}
use Rattle.base.proofs.Numbers.{nat_le_or_lt, below_or_last}
use Rattle.definitions.specs.Limits.{lead_limit, stride, table_rows}
use Rattle.duality.proofs.Pigeonhole.{pigeonhole}
use Rattle.records.specs.Decoded.{Near}
use Rattle.records.proofs.Near.{near_zero}
use Rattle.grounds.specs.Tables.{row_in}
use Rattle.grounds.specs.Latest.{FirstLatest}
use Rattle.grounds.specs.declared.turns.Turns.{Turns}
use Rattle.grounds.specs.Turns.{Next, Going, Came, MomentTurn, RowTurn, CameBack}
use Rattle.grounds.proofs.Sums.{latest_as}

-- ---- places

-- Where a variable stands first, and where it doesn't.
place_some : (moments : List ℕ) (j at : ℕ) → position (λ k. k == j) moments ≡ Some at → (at < length moments) × (get_or moments at 0 ≡ j)
place_some moments j at e = let p = position-Some (λ k. k == j) moments at 0 e in (p.0, eqb-true (get_or moments at 0) j p.1)

place_none : (moments : List ℕ) (j : ℕ) → position (λ k. k == j) moments ≡ None → (i : ℕ) → i < length moments → get_or moments i 0 ≡ j → ⊥
place_none moments j e i h =
    let far : length moments ≤ position_or_len (λ k. k == j) moments = grind (arith, common_steps) in
    eqb-false (get_or moments i 0) j (fails_before_first (λ k. k == j) moments i 0 (omega arith))

-- ---- one behind others

module _ (moments : List ℕ) (j : ℕ) where
  one_longer : length (moments ++ j ∷ []) ≡ length moments + 1
  one_longer = length-append moments (j ∷ [])

  before_last : (i : ℕ) → i < length moments → get_or (moments ++ j ∷ []) i 0 ≡ get_or moments i 0
  before_last i h = get_or_append_left moments (j ∷ []) 0 i h

  last_is : (i : ℕ) → i ≡ length moments → get_or (moments ++ j ∷ []) i 0 ≡ j
  last_is i e =
      get_or-append_right moments (j ∷ []) (length moments) i 0 refl (omega arith)
      ∙ (let d : i - length moments ≡ 0 = omega arith in rw d refl)

module _ {right stamps picks : List ℕ} {n : ℕ} where
  -- ---- one more

  -- A new variable to which the last that came yields comes too.
  came_more :
      {live : ℕ → ℕ} {moments : List ℕ} {j : ℕ} → Came right stamps picks n live moments → length moments < n + 1 → 0 < live j
      → ((i : ℕ) → i + 1 ≡ length moments → Next right stamps picks n (get_or moments i 0) j) → ((i : ℕ) → i < length moments → get_or moments i 0 ≡ j → ⊥)
      → Came right stamps picks n live (moments ++ j ∷ [])
  came_more {live} {moments} {j} c h alive joins fresh =
      let long = one_longer moments j in
      let old = before_last moments j in
      let here = last_is moments j in
      record {
        most = omega arith;
        lives = λ i b. ⊎_elim
            (λ (q : i < length moments). rw (old i q) (c.lives i q))
            (λ (q : i ≡ length moments). rw (here i q) alive)
            (below_or_last i (length moments) (omega arith));
        yields = λ i b. ⊎_elim
            (λ (q : i + 1 < length moments). rw (old i (omega arith), old (i + 1) q) (c.yields i q))
            (λ (q : i + 1 ≡ length moments). rw (old i (omega arith), here (i + 1) q) (joins i q))
            (below_or_last (i + 1) (length moments) (omega arith));
        new = λ i k b g e. ⊎_elim
            (λ (q : k < length moments). c.new i k b q (sym (old i (omega arith)) ∙ e ∙ old k q))
            (λ (q : k ≡ length moments). fresh i (omega arith) (sym (old i (omega arith)) ∙ e ∙ here k q))
            (below_or_last k (length moments) (omega arith));
      }

  -- There is room for it: n + 2 distinct variables up to n there are not.
  came_room :
      {live : ℕ → ℕ} {moments : List ℕ} {j : ℕ} → Going right stamps picks n live → Came right stamps picks n live moments → 0 < live j
      → ((i : ℕ) → i < length moments → get_or moments i 0 ≡ j → ⊥) → length moments < n + 1
  came_room {live} {moments} {j} g c alive fresh = ⊎_elim
      (λ (q : n + 1 ≤ length moments). absurd (full (omega (arith, c.most))))
      (λ (q : length moments < n + 1). q)
      (nat_le_or_lt (n + 1) (length moments))
    where
      old : (i : ℕ) → i < length moments → get_or (moments ++ j ∷ []) i 0 ≡ get_or moments i 0
      old = before_last moments j

      all_inside : length moments ≡ n + 1 → (k : ℕ) → k ≤ length moments → get_or (moments ++ j ∷ []) k 0 < length moments
      all_inside e k h = ⊎_elim
          (λ (q : length moments ≤ k). omega (arith, last_is moments j k (omega arith), g.inside j alive))
          (λ (q : k < length moments). omega (arith, old k q, g.inside (get_or moments k 0) (c.lives k q)))
          (nat_le_or_lt (length moments) k)

      full : length moments ≡ n + 1 → ⊥
      full e =
          let r = pigeonhole (length moments) (λ k. get_or (moments ++ j ∷ []) k 0) (all_inside e) in
          let b : r.one < length moments = omega (arith, r.ordered, r.inside) in
          ⊎_elim
          (λ (q : length moments ≤ r.two). fresh r.one b (sym (old r.one b) ∙ r.same ∙ last_is moments j r.two (omega (arith, r.inside))))
          (λ (q : r.two < length moments). c.new r.one r.two r.ordered q (sym (old r.one b) ∙ r.same ∙ old r.two q))
          (nat_le_or_lt (length moments) r.two)

  -- ---- a moment's turn

  module _ {turns : ℕ} {moments : List ℕ} {j : ℕ} (m : MomentTurn right stamps picks n turns moments j) where
    -- It has come before: the turns have come back.
    pub turn_back : {at : ℕ} → position (λ k. k == j) moments ≡ Some at → CameBack right stamps picks n (get_or (moments ++ j ∷ []) 0 0) (record { came = moments; back = at })
    turn_back {at} e =
        let p = place_some moments j at e in
        record {
          most = m.came.most;
          back_inside = p.0;
          first_is = sym (before_last moments j 0 (omega (arith, p.0)));
          yields = m.came.yields;
          again = λ i d. rw p.1 (m.joins i d);
          new = m.came.new;
        }

    module _ (e : position (λ k. k == j) moments ≡ None) where
      -- It has not: a turn is left,
      pub turn_left : 0 < turns
      turn_left = omega (arith, m.gone, came_room m.going m.came m.alive (place_none moments j e))

      -- and it is the turn of the row that it picks.
      pub turn_row : RowTurn right stamps picks n (turns - 1) (moments ++ j ∷ []) (get_or picks j 0 - 1)
      turn_row =
          let l = turn_left in
          let fresh = place_none moments j e in
          let q : get_or (moments ++ j ∷ []) (n - (turns - 1)) 0 ≡ j = last_is moments j (n - (turns - 1)) (omega (arith, m.gone)) in
          record {
            live = m.live;
            going = m.going;
            turns_most = omega (arith, m.gone);
            gone = omega (arith, m.gone, one_longer moments j);
            came = came_more m.came (came_room m.going m.came m.alive fresh) m.alive m.joins fresh;
            picked = rw q (omega (arith, (m.going.picked j m.alive).0));
          }

  -- ---- a row's turn

  module _ {turns : ℕ} {moments : List ℕ} {row : ℕ} (t : RowTurn right stamps picks n turns moments row) where
    last_lives : 0 < t.live (get_or moments (n - turns) 0)
    last_lives = t.came.lives (n - turns) (omega (arith, t.turns_most, t.gone))

    -- It is a row of the table,
    pub turn_inside : row < table_rows
    turn_inside = omega (arith, t.picked, (t.going.picked (get_or moments (n - turns) 0) last_lives).1)

    module _ {leads : List ℕ} (f : Filled (λ l v. v ≡ row_in right row l) stride stride leads) where
      -- whose coefficients are near 0,
      pub turn_near : (l : ℕ) → Near lead_limit (get_or leads l 0)
      turn_near l = ⊎_elim
          (λ (h : stride ≤ l). rw (f.rest l h) (near_zero lead_limit))
          (λ (h : l < stride). rw (f.each l h) (t.going.near (row * stride + l)))
          (nat_le_or_lt stride l)

      -- and which yields to a moment.
      pub turn_moment : {l : ℕ} → FirstLatest (λ k. get_or leads k 0) stamps (n + 1) l → MomentTurn right stamps picks n turns moments l
      turn_moment {l} y =
          let next : Next right stamps picks n (get_or moments (n - turns) 0) l =
          record { row = row; picked = t.picked; yields = latest_as (λ k h. f.each k (omega (arith, t.going.n_most))) y } in
          record {
            live = t.live;
            going = t.going;
            gone = t.gone;
            came = t.came;
            alive = t.going.onward _ l last_lives next;
            joins = λ i e. let d : n - turns ≡ i = omega (arith, t.gone) in rw d at next;
          }

    -- The first to come stays.
    pub turn_first : (l : ℕ) {r : Turns} → CameBack right stamps picks n (get_or (moments ++ l ∷ []) 0 0) r → CameBack right stamps picks n (get_or moments 0 0) r
    turn_first l {r} c = subst (λ (k : ℕ). CameBack right stamps picks n k r) (before_last moments l 0 (omega (arith, t.gone, t.turns_most))) c
