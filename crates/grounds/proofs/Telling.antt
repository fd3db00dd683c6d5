-- From what the readers give to the definition: the rules behind the answer, what its round rests on, and what is told.
use Prim.Native.Nat.{ℕ, suc, ◌+◌, ◌≤◌, ◌<◌}
use mathlib.Core.Path.{◌≡◌, refl, sym, subst, fun_ext, ◌∙◌}
use mathlib.Core.Bool.{Bool, true, false, cond}
use mathlib.Core.List.{List}
use mathlib.Core.Logic.{⊎_elim}
use native.Mathlib.Omega.{arith}
use lib.Dec.{eqb, ltb}
use lib.IntN.{ℤ}
use lib.ListN.{get_or}
use Rattle.std.proofs.Common.{Option, Some, None}
use Rattle.std.proofs.lemmas.Option.{none-some}
use borrow.Author.Tests.{eqb-true, eqb-false, ltb-true, ltb-false, leb-true}
use Rattle.base.proofs.Numbers.{positive, nat_le_or_lt}
use Rattle.definitions.specs.Limits.{class_optimal, class_infeasible}
use Rattle.definitions.specs.Problem.{Problem}
use Rattle.definitions.specs.Certificate.{start_of, Leads, AcceptedOptimal}
use Rattle.definitions.specs.AnswerRecord.{Answer, highest_pick}
use Rattle.definitions.specs.Verdict.{Accepted, optimal, unbounded, infeasible, point_of, strategy_of}
use Rattle.definitions.specs.Reasons.{Behind, Listed, no_number, with_it, without, RulesBehind, Round, of_none, of_least}
use Rattle.definitions.proofs.Counts.{counts_met, whole_counts}
use Rattle.duality.specs.Picks.{NoneAbove}
use Rattle.duality.proofs.Starts.{start_below}
use Rattle.records.specs.Stamps.{stamps_point}
use Rattle.reach.specs.Marks.{Marked, ReachedBy}
use Rattle.closed_walks.specs.Tables.{Picked}
use Rattle.answer_reader.specs.declared.answer.Head.{Head}
use Rattle.binding.specs.Turns.{Live}
use Rattle.binding.proofs.Turns.{live_picks, turn, live_on, begins_live}
use Rattle.grounds.specs.Tables.{RightHeld}
use Rattle.grounds.specs.Rules.{PickedBy}
use Rattle.grounds.specs.Turns.{Going}
use Rattle.grounds.specs.Rounds.{Beginning, BeginsAlive, Binding}
use Rattle.grounds.specs.Outcome.{Certifies, Tells}
use Rattle.grounds.proofs.Reaching.{offset_finite, finite_offset}
use Rattle.grounds.proofs.Binding.{next_yields, second_met, begins_at}

-- ---- listings

-- A listing by another name of the property.
listed_as :
    {P Q : ℕ → Type 0} → ((v : ℕ) → P v → Q v) → ((v : ℕ) → Q v → P v) → {k : ℕ} {numbers : List ℕ} → Listed P k numbers → Listed Q k numbers
listed_as on back no_number = no_number
listed_as on back (with_it l h) = with_it (listed_as on back l) (on _ h)
listed_as on back (without l d) = without (listed_as on back l) (λ q. d (back _ q))

-- ---- the marks of variables that are reached and have a stamp

live_of : ℕ → List ℕ → List ℕ → ℕ → ℕ
live_of n stamps marks j = cond (ltb n j) 0 (cond (eqb (get_or stamps j 0) 0) 0 (get_or marks j 0))

live_parts : (n : ℕ) (stamps marks : List ℕ) (j : ℕ) → 0 < live_of n stamps marks j → (j ≤ n) × (0 < get_or stamps j 0) × Marked marks j
unfolding live_of
live_parts n stamps marks j h = go (ltb n j) refl (eqb (get_or stamps j 0) 0) refl h
  where
    go : (b : Bool) → ltb n j ≡ b → (d : Bool) → eqb (get_or stamps j 0) 0 ≡ d → 0 < cond b 0 (cond d 0 (get_or marks j 0))
        → (j ≤ n) × (0 < get_or stamps j 0) × Marked marks j
    go true e d f k = absurd (omega arith)
    go false e true f k = absurd (omega arith)
    go false e false f k = (omega (arith, ltb-false n j e), positive _ (eqb-false _ 0 f), k)

parts_live : (n : ℕ) (stamps marks : List ℕ) (j : ℕ) → j ≤ n → 0 < get_or stamps j 0 → Marked marks j → 0 < live_of n stamps marks j
unfolding live_of
parts_live n stamps marks j b h k = go (ltb n j) refl (eqb (get_or stamps j 0) 0) refl
  where
    go : (b : Bool) → ltb n j ≡ b → (d : Bool) → eqb (get_or stamps j 0) 0 ≡ d → 0 < cond b 0 (cond d 0 (get_or marks j 0))
    go true e d f = absurd (omega (arith, ltb-true n j e))
    go false e true f = absurd (omega (arith, eqb-true (get_or stamps j 0) 0 f))
    go false e false f = k

-- ---- an accepted answer of class 1 or 3

module _ {p : Problem} {a : Answer} {right stamps picks : List ℕ} {n m : ℕ} {head : Head} (c : Certifies p a right stamps picks n m head) where
  points : point_of a.stamps ≡ stamps_point stamps
  unfolding stamps_point
  points = fun_ext (λ j. sym (c.meant.point_is j))

  strategies : strategy_of a.picks ≡ strategy_of picks
  unfolding strategy_of
  strategies = fun_ext (λ j. sym (c.meant.strategy_is j))

  -- No pick is above m + 1, and the start is 0 or 1.
  pub certified_picked : Picked picks (m + 1)
  certified_picked = ⊎_elim
      (λ (e : head.class ≡ class_optimal). let d : highest_pick head.class n m ≡ m + 1 = rw e (omega arith) in rw d at c.formed.picked)
      (λ (e : head.class ≡ class_infeasible). let d : highest_pick head.class n m ≡ m + 1 = rw e (omega arith) in rw d at c.formed.picked)
      c.some

  start_most : head.start ≤ 1
  start_most = ⊎_elim
      (λ (e : head.class ≡ class_optimal). leb-true _ _ (rw e at c.formed.start_fits_is))
      (λ (e : head.class ≡ class_infeasible). leb-true _ _ (rw e at c.formed.start_fits_is))
      c.some

  above : NoneAbove (suc p.m) (suc p.n) (strategy_of picks)
  unfolding strategy_of
  above j h = omega (arith, certified_picked.none_above j, c.held.m_is)

  module _ {marks : List ℕ} (reached : ReachedBy (start_of p head.start) (Leads p (strategy_of picks)) (n + 1) marks) where
    -- The rules that marked variables pick are those behind the answer.
    pub rules_behind : {numbers : List ℕ} → Listed (PickedBy marks picks (n + 1)) m numbers → RulesBehind p a numbers
    unfolding strategy_of
    rules_behind {numbers} l =
        subst (λ (k : ℕ). Listed (Behind p a) k numbers) (sym c.held.m_is) (listed_as on back l)
      where
        on : (v : ℕ) → PickedBy marks picks (n + 1) v → Behind p a v
        on v b =
            record {
              moment = b.moment;
              reached = rw (c.meant.start_is, strategies) (reached.only b.moment b.inside b.marked);
              picked = sym (c.meant.strategy_is b.moment) ∙ b.picked;
            }

        back : (v : ℕ) → Behind p a v → PickedBy marks picks (n + 1) v
        back v b =
            let r = reached.marked b.moment (rw (c.meant.start_is, strategies) at b.reached) in
            record { moment = b.moment; inside = r.0; marked = r.1; picked = c.meant.strategy_is b.moment ∙ b.picked }

    -- ---- class 1

    module _ {s : ℤ} (h : AcceptedOptimal (start_of p head.start) p s (stamps_point stamps) (strategy_of picks)) where
      start_inside : (j : ℕ) → start_of p head.start j → j ≤ p.n
      start_inside j b = omega (arith, (start_below p head.start).inside j b)

      -- A variable is reached and has a number exactly when it is marked so.
      live_marked : {j : ℕ} → Live (start_of p head.start) p (stamps_point stamps) (strategy_of picks) j → 0 < live_of n stamps marks j
      unfolding stamps_point
      live_marked {j} v =
          let r = reached.marked j v.reached in parts_live n stamps marks j (omega (arith, r.0)) (finite_offset refl v.planned) r.1

      marked_live : {j : ℕ} → 0 < live_of n stamps marks j → Live (start_of p head.start) p (stamps_point stamps) (strategy_of picks) j
      unfolding stamps_point
      marked_live {j} k =
          let q = live_parts n stamps marks j k in
          record { reached = reached.only j (omega (arith, q.0)) q.2; planned = offset_finite refl q.1 }

      -- So the turns can go on.
      going : Going right stamps picks n (live_of n stamps marks)
      unfolding strategy_of
      going =
          record {
            n_most = c.n_most;
            stamped = c.formed.stamped;
            near = c.near;
            picked = λ j k.
                let q = live_picks start_inside above h (marked_live k) in
                (omega (arith, q.0.picked), omega (arith, certified_picked.none_above j, c.m_most));
            inside = λ j k. (live_parts n stamps marks j k).0;
            onward = λ j l k x.
                let v = marked_live k in
                live_marked (live_on start_inside above h v (turn start_inside above h v (next_yields stamps c.held certified_picked x)));
          }

      -- The turns begin somewhere: a point of value s has a number at a variable of the second list.
      begins_some : Beginning right stamps n m head.start None → ⊥
      begins_some g = ⊎_elim
          (λ (q : head.start ≤ 0). none-some 0 (g.anchor (omega arith)))
          (λ (q : 0 < head.start).
          let w = counts_met (whole_counts h.value_is) in
          let u = second_met stamps c.held w.second w.finite in
          g.second q w.at (omega (arith, u.0)) u.1)
          (nat_le_or_lt head.start 0)

      -- So the round can be found.
      binds : Binding right stamps picks n m head.start
      binds =
          record {
            live = live_of n stamps marks;
            going = going;
            m_most = c.m_most;
            picked = certified_picked;
            begins = begins;
          }
        where
          begins : (first : Option ℕ) → Beginning right stamps n m head.start first → BeginsAlive (live_of n stamps marks) first
          begins (Some j) g = live_marked (begins_live h (begins_at stamps c.held head.start start_most g))
          begins None g = begins_some g

    -- An accepted answer of class 1 as the lists hold it.
    pub certified_binds : (head.class ≡ class_infeasible → ⊥) → Binding right stamps picks n m head.start
    certified_binds d = go c.accepted
      where
        go : Accepted p a → Binding right stamps picks n m head.start
        go (optimal e q h) = binds (rw (c.meant.start_is, points, strategies) at h)
        go (unbounded e q r h) = ⊎_elim (λ f. absurd (omega (arith, c.meant.class_is))) (λ f. absurd (d f)) c.some
        go (infeasible e h) = absurd (d (omega (arith, c.meant.class_is)))

    -- ---- what is told

    pub tells_none : {numbers : List ℕ} → head.class ≡ class_infeasible → Listed (PickedBy marks picks (n + 1)) m numbers → Tells p a (of_none numbers)
    tells_none e l = Tells.none (c.meant.class_is ∙ e) (rules_behind l)

    pub tells_least :
        {numbers round : List ℕ} → (head.class ≡ class_infeasible → ⊥) → Listed (PickedBy marks picks (n + 1)) m numbers
        → ((p : Problem) → RightHeld p right n m → head.start ≤ 1 → Round p (stamps_point stamps) (strategy_of picks) head.start round)
        → Tells p a (of_least numbers round)
    tells_least {round = round} d l r =
        Tells.least {round = round}
        (⊎_elim (λ e. c.meant.class_is ∙ e) (λ e. absurd (d e)) c.some)
        (rules_behind l)
        (rw (c.meant.start_is, points, strategies) (r p c.held start_most))
