-- Laws of a look on tables: what the iteration under caps ends with, and that its second side decides every trial of each problem in
-- the tables.
use Prim.Native.Nat.{ℕ, suc, ◌+◌, ◌*◌, ◌≤◌, ◌<◌}
use mathlib.Core.Path.{◌≡◌, refl, sym, ap, ap₂, subst, ◌∙◌}
use mathlib.Core.Logic.{inl, inr, ⊎_elim}
use mathlib.Core.List.{List}
use native.Mathlib.Omega.{arith}
use native.Mathlib.Nat.{eq-zero-or-pos}
use native.Mathlib.Numerals.{add-one}
use lib.ListN.{get_or}
use lib.IntN.{ℤ, neg_ℤ}
use lib.Signed.{◌≤ℤ◌}
use borrow.Author.Tests.{eq-eqb, ne_eqb}
use Rattle.definitions.specs.Limits.{signed_half, signed_full, lead_limit, span_limit}
use Rattle.definitions.specs.Tropical.{Trop, bot, fin, plus, largest, ◌⊑◌, whole_least, Finite}
use Rattle.definitions.specs.Problem.{Problem, Point, side, Attainable}
use Rattle.definitions.specs.Certificate.{Strategy, Anchor, Second, start_of}
use Rattle.definitions.specs.Offset.{trop_of}
use Rattle.definitions.proofs.Whole.{whole, neg_read, subℕ_read}
use Rattle.definitions.proofs.Tropical.{bot_not_fin, not_finite_bot, blank_or_finite, finite_above, fin_below, ⊑_trans, ⊑_of_eq, plus_fin, plus_parts, largest_above, largest_ext, largest_at}
use Rattle.definitions.proofs.Offset.{trop_zero, trop_fin}
use Rattle.duality.specs.System.{side_of, Solves, Blocks, system_at, rules_of}
use Rattle.duality.specs.Values.{values, Policy}
use Rattle.duality.specs.Within.{lower}
use Rattle.duality.specs.Look.{Far, second_at}
use Rattle.duality.proofs.Starts.{blocks_from}
use Rattle.duality.proofs.Attain.{joint_attainable}
use Rattle.duality.proofs.Look.{look_solves, look_blocks, look_blank}
use Rattle.policy_iteration.specs.Tables.{entry_of, point_of, pick_of, cap_of, cap_limit, high, highs}
use Rattle.policy_iteration.specs.Rounds.{SideIs}
use Rattle.policy_iteration.specs.Steps.{Ended}
use Rattle.policy_iteration.proofs.Low.{high_zero, high_whole, highs_at}
use Rattle.search.specs.Trials.{whole_of, Trialled, PossibleBy}
use Rattle.look.specs.declared.greatest.Look.{Look}
use Rattle.look.specs.Frames.{Coefficients, Held}
use Rattle.look.specs.Look.{level, CapsFor, start_for, rules_in, second_in, Under, Looks, Looked}
use Rattle.duality.proofs.Agree.{agree_solves, agree_values, agree_policy}
use Rattle.look.proofs.Tables.{held_within, caps_capped, agree_rules}
use Rattle.look.proofs.SecondList.{number_finite, second_coefficient}

-- ---- the start

pub start_blank : (right : List ℕ) (row second : ℕ) → second ≡ 0 → start_for right row second ≡ 1
unfolding start_for
start_blank right row second e = rw (eq-eqb second 0 e)

pub start_second : (right : List ℕ) (row second : ℕ) → (second ≡ 0 → ⊥) → get_or right (row * 32) 0 ≡ 0 → 1 ≡ start_for right row second
unfolding start_for
start_second right row second d e = rw (ne_eqb second 0 d, eq-eqb (get_or right (row * 32) 0) 0 e)

pub start_anchor : (right : List ℕ) (row second : ℕ) → (second ≡ 0 → ⊥) → (get_or right (row * 32) 0 ≡ 0 → ⊥) → 0 ≡ start_for right row second
unfolding start_for
start_anchor right row second d e = rw (ne_eqb second 0 d, ne_eqb (get_or right (row * 32) 0) 0 e)

start_one : (right : List ℕ) (row second : ℕ) → start_for right row second ≤ 1
start_one right row second = ⊎_elim
    (λ (e : second ≡ 0). omega (arith, start_blank right row second e))
    (λ (h : 0 < second). ⊎_elim
    (λ (e : get_or right (row * 32) 0 ≡ 0). omega (arith, start_second right row second (λ z. omega arith) e))
    (λ (k : 0 < get_or right (row * 32) 0). omega (arith, start_anchor right row second (λ z. omega arith) (λ z. omega arith)))
    (eq-zero-or-pos (get_or right (row * 32) 0)))
    (eq-zero-or-pos second)

-- ---- the iteration under caps

module _ (n m : ℕ) (left right caps : List ℕ) (x picks : List ℕ) (d : Ended (rules_in n m left right caps) (highs x) picks) where
  value_is : (j : ℕ) → j < n + 1 → values (rules_in n m left right caps) (pick_of picks) j ≡ trop_of (high (get_or x j 0))
  value_is j h = sym (d.values_are.each j h) ∙ ap trop_of (highs_at x j)

  -- Variable 0 has no value left: the strategy blocks from it.
  pub under_blank : get_or x 0 0 ≡ 0 → Under n m left right caps (record { start = 0; second = 0; picks = picks })
  under_blank e = record {
    size = d.size;
    picked = d.picked;
    policy = d.policy;
    iterated = d.iterated;
    second_most = omega arith;
    whole_start = λ h. absurd (omega arith);
    whole_anchor = λ h. absurd (omega arith);
    whole_second = λ h. absurd (omega arith);
    whole_solves = λ h. absurd (omega arith);
    blank = λ _. inl (refl, value_is 0 (omega arith) ∙ rw (e, high_zero) trop_zero);
  }

  -- Else the second side is told.
  pub under_second : (r : ℕ) → (get_or x 0 0 ≡ 0 → ⊥) → SideIs right m (highs x) (n + 1) r
      → Under n m left right caps (record { start = start_for right m (high r); second = high r; picks = picks })
  under_second r h s = record {
    size = d.size;
    picked = d.picked;
    policy = d.policy;
    iterated = d.iterated;
    second_most = most;
    whole_start = λ _. refl;
    whole_anchor = λ _. anchored;
    whole_second = λ _. side_is;
    whole_solves = λ _ i b. solves i b;
    blank = λ e. inr (start_blank right m (high r) e, sym side_is ∙ rw e trop_zero, anchored);
  }
    where
      first : 0 < high (get_or x 0 0)
      first = ⊎_elim (λ (e : get_or x 0 0 ≡ 0). absurd (h e)) (λ (p : 0 < get_or x 0 0). omega (arith, high_whole (get_or x 0 0) p)) (eq-zero-or-pos (get_or x 0 0))

      anchored : values (rules_in n m left right caps) (pick_of picks) 0 ≡ bot → ⊥
      anchored b = bot_not_fin (sym b ∙ value_is 0 (omega arith) ∙ trop_fin (high (get_or x 0 0)) first)

      most : high r < signed_full
      most = ⊎_elim (λ (e : r ≡ 0). omega (arith, ap high e ∙ high_zero)) (λ (p : 0 < r). omega (arith, high_whole r p, s.most)) (eq-zero-or-pos r)

      same_side : (c : ℕ → Trop) → side_of (rules_in n m left right caps) c (point_of (highs x)) ≡ side_of (rules_in n m left right caps) c (values (rules_in n m left right caps) (pick_of picks))
      same_side c = largest_ext _ _ (n + 1) (λ l b. ap (plus (c l)) (d.values_are.each l b))

      side_is : trop_of (high r) ≡ second_in n m left right caps (values (rules_in n m left right caps) (pick_of picks))
      side_is = s.is ∙ same_side (entry_of right m)

      solves : Solves (rules_in n m left right caps) (values (rules_in n m left right caps) (pick_of picks))
      solves i b = rw (← same_side (entry_of left i), ← same_side (entry_of right i)) (d.solves (rw (highs_at x 0) first) i b)

-- ---- the problem in the tables

module _ {p : Problem} {left right : List ℕ} {n m : ℕ} (caps : List ℕ) (q : Held p n m left right) (τ : Strategy) where
  values_rules : (j : ℕ) → j ≤ p.n → values (rules_in n m left right caps) τ j ≡ values (rules_of p (cap_of caps)) τ j
  values_rules j h = agree_values (rules_in n m left right caps) (rules_of p (cap_of caps)) τ τ (agree_rules q caps) (λ j h. refl) j (omega (arith, q.n_is))

  policy_rules : Policy (rules_in n m left right caps) τ → Policy (rules_of p (cap_of caps)) τ
  policy_rules k = agree_policy (rules_in n m left right caps) (rules_of p (cap_of caps)) τ τ (agree_rules q caps) (λ j h. refl) k

  second_rules : second_in n m left right caps (values (rules_in n m left right caps) τ) ≡ second_at p (values (rules_of p (cap_of caps)) τ)
  unfolding side
  second_rules =
      largest_ext _ (λ l. plus (p.right p.m l) (values (rules_of p (cap_of caps)) τ l)) (n + 1)
      (λ l b. ap₂ plus (second_coefficient q l (omega (arith, q.n_is))) (values_rules l (omega (arith, q.n_is))))
      ∙ ap (largest (λ l. plus (p.right p.m l) (values (rules_of p (cap_of caps)) τ l))) (sym (rw (add-one, q.n_is)))

  solves_rules : Solves (rules_in n m left right caps) (values (rules_in n m left right caps) τ) → Solves (rules_of p (cap_of caps)) (values (rules_of p (cap_of caps)) τ)
  unfolding rules_of
  solves_rules k i b =
      rw (← same (p.left i), ← same (p.right i)) (agree_solves (values (rules_in n m left right caps) τ) (agree_rules q caps) k i b)
    where
      same : (c : ℕ → Trop) → largest (λ l. plus (c l) (values (rules_in n m left right caps) τ l)) (suc p.n) ≡ largest (λ l. plus (c l) (values (rules_of p (cap_of caps)) τ l)) (suc p.n)
      same c = largest_ext _ _ (suc p.n) (λ l b. ap (plus (c l)) (values_rules l (omega arith)))

-- ---- none: the strategy blocks at every t

-- A blank second side leaves every variable of the second list blank.
second_blank : (p : Problem) (x : Point) → second_at p x ≡ bot → (j : ℕ) → Second p j → x j ≡ bot
unfolding side
second_blank p x e j s = ⊎_elim (λ z. z) (λ g. absurd (not_finite_bot (clash g))) (blank_or_finite (x j))
  where
    clash : Finite (x j) → Finite bot
    clash g =
        let b : plus (p.right p.m j) (x j) ⊑ largest (λ l. plus (p.right p.m l) (x l)) (suc p.n) = largest_above (λ l. plus (p.right p.m l) (x l)) (suc p.n) j (omega (arith, s.inside)) in
        finite_above (rw (s.right.is, g.is, plus_fin, e) at b)

module _ {p : Problem} {n m : ℕ} {left right caps : List ℕ} {g : Look} (q : Held p n m left right)
    (u : Under n m left right caps g) where
  pub under_blocks : g.second ≡ 0 → (t : ℤ) → Blocks (system_at p t) (start_of p g.start) (pick_of g.picks)
  unfolding start_of
  under_blocks e t = ⊎_elim
      (λ b. rw b.0 (look_blank p (cap_of caps) (pick_of g.picks) kept Anchor (λ j a. (omega (arith, a), rw a (sym (value 0 (omega arith)) ∙ b.1))) t))
      (λ b. rw b.0 (look_blank p (cap_of caps) (pick_of g.picks) kept (Second p)
      (λ j a. (a.inside, second_blank p _ (sym (second_rules caps q (pick_of g.picks)) ∙ b.1) j a)) t))
      (u.blank e)
    where
      kept : Policy (rules_of p (cap_of caps)) (pick_of g.picks)
      kept = policy_rules caps q (pick_of g.picks) u.policy

      value : (j : ℕ) → j ≤ p.n → values (rules_in n m left right caps) (pick_of g.picks) j ≡ values (rules_of p (cap_of caps)) (pick_of g.picks) j
      value j h = values_rules caps q (pick_of g.picks) j h

-- ---- every trial

-- The comparison in offset numbers is that of −t with the second side.
possible_shows : (second t : ℕ) → PossibleBy second t → Trialled t → (0 < second) × (fin (neg_ℤ (whole_of t)) ⊑ trop_of second)
possible_shows second t h b =
    let p : 0 < second = omega (arith, b.highest) in
    let r : neg_ℤ (whole_of t) ≤ℤ whole_of second = omega (whole, neg_read (whole_of t), subℕ_read t signed_half, subℕ_read second signed_half) in
    (p, rw (trop_fin second p) (whole_least r))

shows_possible : (second t : ℕ) → fin (neg_ℤ (whole_of t)) ⊑ trop_of second → PossibleBy second t
shows_possible second t h = ⊎_elim
    (λ (e : second ≡ 0). absurd (not_finite_bot (finite_above (rw (e, trop_zero) at h))))
    (λ (p : 0 < second). let r : neg_ℤ (whole_of t) ≤ℤ whole_of second = fin_below (rw (trop_fin second p) at h) in
    omega (whole, neg_read (whole_of t), subℕ_read t signed_half, subℕ_read second signed_half))
    (eq-zero-or-pos second)

trial_lowest : (t : ℕ) → Trialled t → lower span_limit ≤ℤ whole_of t
trial_lowest t b = omega (whole, subℕ_read t signed_half, b.lowest)

module _ {p : Problem} {n m : ℕ} {left right caps : List ℕ} {g : Look} (q : Held p n m left right)
    (c : Coefficients n m left right) (s : CapsFor left m 32 caps) (u : Under n m left right caps g) where
  kept : Policy (rules_of p (cap_of caps)) (pick_of g.picks)
  kept = policy_rules caps q (pick_of g.picks) u.policy

  second_is : 0 < g.second → trop_of g.second ≡ second_at p (values (rules_of p (cap_of caps)) (pick_of g.picks))
  second_is h = u.whole_second h ∙ second_rules caps q (pick_of g.picks)

  -- A trial that the second side shows possible is.
  capped_possible : (t : ℕ) → Trialled t → PossibleBy g.second t → Attainable p (whole_of t)
  unfolding system_at rules_of side
  capped_possible t b h =
      let r = possible_shows g.second t h b in
      let e = second_is r.0 in
      let x = values (rules_of p (cap_of caps)) (pick_of g.picks) in
      let z : fin (neg_ℤ (whole_of t)) ⊑ second_at p x = ⊑_trans r.1 (⊑_of_eq e) in
      let a = largest_at (λ l. plus (p.right p.m l) (values (rules_of p (cap_of caps)) (pick_of g.picks) l)) (suc p.n) (finite_above z) in
      let m = plus_parts (subst Finite a.same (finite_above z)) in
      joint_attainable p (whole_of t) (record {
        point = x;
        solves = look_solves p cap_limit (cap_of caps) (caps_capped q c s) x (λ j i. kept.below j (omega arith)) (solves_rules caps q (pick_of g.picks) (u.whole_solves r.0)) (whole_of t) z;
        first = record { at = 0; inside = omega arith; started = refl; finite = anchor r.0 };
        second = record { at = a.place; inside = a.inside; started = record { inside = omega (arith, a.inside); right = m.0 }; finite = m.1 };
      })
    where
      anchor : 0 < g.second → Finite (values (rules_of p (cap_of caps)) (pick_of g.picks) 0)
      anchor h = ⊎_elim
          (λ z. absurd (u.whole_anchor h (values_rules caps q (pick_of g.picks) 0 (omega arith) ∙ z)))
          (λ z. z)
          (blank_or_finite (values (rules_of p (cap_of caps)) (pick_of g.picks) 0))

  -- Where it does not, the strategy blocks from the start.
  capped_impossible : (t : ℕ) → Trialled t → (PossibleBy g.second t → ⊥) → Blocks (system_at p (whole_of t)) (start_of p g.start) (pick_of g.picks)
  unfolding start_of
  capped_impossible t b d = ⊎_elim
      (λ (e : g.second ≡ 0). under_blocks q u e (whole_of t))
      (λ (h : 0 < g.second). rw (u.whole_start h) (⊎_elim
      (λ (e : get_or right (m * 32) 0 ≡ 0). rw (← start_second right m g.second (λ z. omega arith) e) (from_second h))
      (λ (k : 0 < get_or right (m * 32) 0). rw (← start_anchor right m g.second (λ z. omega arith) (λ z. omega arith)) (blocks_from (anchor_second k) (from_second h)))
      (eq-zero-or-pos (get_or right (m * 32) 0))))
      (eq-zero-or-pos g.second)
    where
      far : Far p.n lead_limit span_limit cap_limit
      far = omega (arith, c.n_most, q.n_is)

      picks : (j : ℕ) → j ≤ p.n → pick_of g.picks j ≤ p.m
      picks j h = omega (arith, q.m_is, u.picked j (omega (arith, c.n_most, q.n_is)))

      from_second : 0 < g.second → Blocks (system_at p (whole_of t)) (Second p) (pick_of g.picks)
      from_second h =
          look_blocks p lead_limit span_limit cap_limit (cap_of caps) (held_within q c) far (caps_capped q c s) (pick_of g.picks) kept picks (whole_of t) (trial_lowest t b)
          (λ z. d (shows_possible g.second t (⊑_trans z (⊑_of_eq (sym (second_is h))))))

      anchor_second : 0 < get_or right (m * 32) 0 → (j : ℕ) → Anchor j → Second p j
      anchor_second k j a =
          let e : m * 32 + 0 ≡ m * 32 = omega arith in
          rw a (record { inside = omega arith; right = subst Finite (second_coefficient q 0 (omega arith)) ((number_finite _).1 (rw e k)) })

-- ---- the look

start_few : {n m : ℕ} {left right caps : List ℕ} {g : Look} → Under n m left right caps g → g.start ≤ 1
start_few {m = m} {right = right} {g = g} u = ⊎_elim
    (λ (e : g.second ≡ 0). ⊎_elim (λ z. omega (arith, z.0)) (λ z. omega (arith, z.0)) (u.blank e))
    (λ (h : 0 < g.second). rw (u.whole_start h) (start_one right m g.second))
    (eq-zero-or-pos g.second)

-- No span is possible.
pub looked_none : {n m : ℕ} {left right : List ℕ} {g : Look} → Under n m left right level g → g.second ≡ 0 → Looked n m left right g
looked_none u e = record {
  picks_size = u.size;
  picks_most = u.picked;
  start_most = start_few u;
  second_most = u.second_most;
  looks = Looks.none u e;
  decided = λ p q. record { possible = λ t b h. absurd (omega (arith, b.highest)); impossible = λ t b d. under_blocks q u e (whole_of t) };
}

-- The second side under the caps of the first list decides.
pub looked_capped : {n m : ℕ} {left right caps : List ℕ} {free g : Look} → Coefficients n m left right → Under n m left right level free → (free.second ≡ 0 → ⊥)
    → CapsFor left m 32 caps → Under n m left right caps g → Looked n m left right g
looked_capped c f d s u = record {
  picks_size = u.size;
  picks_most = u.picked;
  start_most = start_few u;
  second_most = u.second_most;
  looks = Looks.some f d s u;
  decided = λ p q. record { possible = capped_possible q c s u; impossible = capped_impossible q c s u };
}
