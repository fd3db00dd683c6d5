-- The binding round of document 02's request 2.5: turns from one variable to the next are a walk along arcs of the strategy; from a
-- variable until it comes again they are a cycle. At the least span s it weighs at least 0, for its arcs weigh at least what the numbers
-- fall by; at s − 1 it weighs below 0, for the answer is accepted. So it uses the objective; the objective's row yields to one variable,
-- so that a cycle uses it once, and weighs exactly 0 at s.
use Prim.Native.Nat.{ℕ, zero, suc, ◌+◌, ◌-◌, ◌≤◌, ◌<◌}
use mathlib.Core.Path.{◌≡◌, refl, sym, ap, subst, ◌∙◌}
use mathlib.Core.Bool.{Bool, true, false, cond}
use mathlib.Core.Logic.{inl, inr, ⊎_elim}
use mathlib.Core.List.{List, [], ◌∷◌, ◌++◌}
use native.Mathlib.Omega.{arith}
use lib.Dec.{eqb}
use lib.IntN.{ℤ, pos, ◌+ℤ◌, ◌-ℤ◌}
use lib.Signed.{◌≤ℤ◌, ◌<ℤ◌}
use borrow.Author.Tests.{eqb-true}
use Rattle.base.proofs.Numbers.{nat_le_or_lt}
use Rattle.definitions.specs.Tropical.{fin}
use Rattle.definitions.specs.Problem.{Problem, Point}
use Rattle.definitions.specs.Certificate.{Strategy, Reachable, Walk, stop, step, Uses, Distinct, Cycle, Leads, Arc, raise, start_of, AcceptedOptimal}
use Rattle.definitions.specs.ProblemRecord.{list_of}
use Rattle.definitions.specs.AnswerRecord.{Answer}
use Rattle.definitions.specs.Verdict.{point_of, strategy_of}
use Rattle.definitions.specs.Reasons.{RowYields, Round, Binds, visited, by_question}
use Rattle.definitions.proofs.Tropical.{fin_injective}
use Rattle.definitions.proofs.Whole.{whole, plus_read, minus_read}
use Rattle.duality.specs.Picks.{NoneAbove}
use Rattle.duality.proofs.Starts.{start_below}
use Rattle.binding.specs.Turns.{Live, Turn, turn_weight}
use Rattle.binding.proofs.Turns.{arc_of, row_yields_one, turn, live_on, begins_live}

-- ---- lists

-- f 0, …, f k begins with f 0.
pub listed_front : (f : ℕ → ℕ) (k : ℕ) → list_of f (suc k) ≡ f 0 ∷ list_of (λ i. f (suc i)) k
unfolding list_of
listed_front f zero = refl
listed_front f (suc k) = ap (λ (l : List ℕ). l ++ (f (suc k) ∷ [])) (listed_front f k)

-- It depends on its elements alone.
pub listed_same : (f g : ℕ → ℕ) (k : ℕ) → ((i : ℕ) → i < k → f i ≡ g i) → list_of f k ≡ list_of g k
unfolding list_of
listed_same f g zero e = refl
listed_same f g (suc k) e = cc (listed_same f g k (λ i h. e i (omega arith)), e k (omega arith))

-- ---- turns as a walk

-- The place after `count` turns from i on.
pub end_of : ℕ → ℕ → ℕ
end_of zero i = i
end_of (suc count) i = end_of count (suc i)

pub end_is : (count i : ℕ) → end_of count i ≡ count + i
unfolding end_of
end_is zero i = omega arith
end_is (suc count) i = omega (arith, end_is count (suc i))

module _ {p : Problem} {s : ℤ} {x : Point} {picks : Strategy} (turn : ℕ → ℕ) (last : ℕ)
    (steps : (i : ℕ) → i ≤ last → Turn p s x picks (turn i) (turn (suc i))) where
  here : (count i : ℕ) → i + suc count ≤ suc last → i ≤ last
  here count i h = omega arith

  on : (count i : ℕ) → i + suc count ≤ suc last → suc i + count ≤ suc last
  on count i h = omega arith

  -- What the turns weigh at t, and how many are by the objective.
  weight_from : ℤ → (count i : ℕ) → i + count ≤ suc last → ℤ
  weight_from t zero i h = pos 0
  weight_from t (suc count) i h = turn_weight t (steps i (here count i h)) +ℤ weight_from t count (suc i) (on count i h)

  by_objective : (count i : ℕ) → i + count ≤ suc last → ℕ
  by_objective zero i h = 0
  by_objective (suc count) i h = cond (eqb (steps i (here count i h)).row p.m) 1 0 + by_objective count (suc i) (on count i h)

  walk_from : (t : ℤ) (count i : ℕ) (h : i + count ≤ suc last) → Walk (Arc p picks t) (turn i) (turn (end_of count i)) count (weight_from t count i h)
  unfolding end_of weight_from
  walk_from t zero i h = stop
  walk_from t (suc count) i h = step (arc_of t (steps i (here count i h))) (walk_from t count (suc i) (on count i h))

  -- It visits the variables in turn,
  visits : (t : ℤ) (count i : ℕ) (h : i + count ≤ suc last) → visited (walk_from t count i h) ≡ list_of (λ k. turn (i + k)) count
  unfolding visited list_of walk_from
  visits t zero i h = refl
  visits t (suc count) i h =
      let a = visits t count (suc i) (on count i h) in
      let b = listed_same (λ k. turn (suc i + k)) (λ k. turn (i + suc k)) count (λ k _. ap turn (omega arith)) in
      let c : turn i ≡ turn (i + 0) = ap turn (omega arith) in
      let d = listed_front (λ k. turn (i + k)) count in
      cc

  -- and is by the objective so often.
  counts : (t : ℤ) (count i : ℕ) (h : i + count ≤ suc last) → by_question {p = p} (walk_from t count i h) ≡ by_objective count i h
  unfolding by_question by_objective arc_of walk_from
  counts t zero i h = refl
  counts t (suc count) i h = ap (λ (k : ℕ). cond (eqb (steps i (here count i h)).row p.m) 1 0 + k) (counts t count (suc i) (on count i h))

  -- ---- variables that are distinct

  -- A variable comes in one of `count` turns from i on.
  record Comes (v i count : ℕ) : Type 0 where
    at : ℕ
    from : i ≤ at
    to : at < i + count
    is : turn at ≡ v

  passes : (t : ℤ) (v count i : ℕ) (h : i + count ≤ suc last) → Uses (λ j l w a. j ≡ v) (walk_from t count i h) → Comes v i count
  unfolding Uses walk_from
  passes t v zero i h u = absurd u
  passes t v (suc count) i h (inl e) = record { at = i; from = omega arith; to = omega arith; is = e }
  passes t v (suc count) i h (inr u) =
      let c = passes t v count (suc i) (on count i h) u in
      record { at = c.at; from = omega (arith, c.from); to = omega (arith, c.to); is = c.is }

  module _ (new : (i k : ℕ) → i < k → k ≤ last → turn i ≡ turn k → ⊥) where
    distinct : (t : ℤ) (count i : ℕ) (h : i + count ≤ suc last) → Distinct (walk_from t count i h)
    unfolding Distinct walk_from
    distinct t zero i h = tt
    distinct t (suc count) i h = (
      λ u. let c = passes t (turn i) count (suc i) (on count i h) u in new i c.at (omega (arith, c.from)) (omega (arith, c.to)) (sym c.is),
      distinct t count (suc i) (on count i h),
    )

  -- ---- weights

  -- One turn at s and at s − 1,
  turn_lighter : {j l : ℕ} (u : Turn p s x picks j l) → turn_weight s u ≡ turn_weight (s -ℤ pos 1) u +ℤ pos (cond (eqb u.row p.m) 1 0)
  unfolding raise
  turn_lighter u = go (eqb u.row p.m)
    where
      go : (b : Bool)
          → (u.right -ℤ u.left) +ℤ cond b s (pos 0) ≡ ((u.right -ℤ u.left) +ℤ cond b (s -ℤ pos 1) (pos 0)) +ℤ pos (cond b 1 0)
      go true =
          let d = u.right -ℤ u.left in
          omega (whole, plus_read d s, minus_read s (pos 1), plus_read d (s -ℤ pos 1), plus_read (d +ℤ (s -ℤ pos 1)) (pos 1))
      go false =
          let d = u.right -ℤ u.left in
          omega (whole, plus_read d (pos 0), plus_read (d +ℤ pos 0) (pos 0))

  -- and all of them.
  lighter : (count i : ℕ) (h : i + count ≤ suc last) → weight_from s count i h ≡ weight_from (s -ℤ pos 1) count i h +ℤ pos (by_objective count i h)
  unfolding weight_from by_objective
  lighter zero i h = refl
  lighter (suc count) i h =
      let u = steps i (here count i h) in
      let g = on count i h in
      sums (turn_weight s u) (turn_weight (s -ℤ pos 1) u) (weight_from s count (suc i) g) (weight_from (s -ℤ pos 1) count (suc i) g) (cond (eqb u.row p.m) 1 0) (by_objective count (suc i) g) (turn_lighter u) (lighter count (suc i) g)
    where
      sums : (a b c d : ℤ) (k l : ℕ) → a ≡ b +ℤ pos k → c ≡ d +ℤ pos l → a +ℤ c ≡ (b +ℤ d) +ℤ pos (k + l)
      sums a b c d k l e f =
          omega (whole, plus_read b (pos k), plus_read d (pos l), plus_read a c, plus_read b d, plus_read (b +ℤ d) (pos (k + l)))

  -- At s the turns weigh at least what the numbers fall by.
  bound :
      (count i : ℕ) (h : i + count ≤ suc last) {u v : ℤ} → x (turn i) ≡ fin u → x (turn (end_of count i)) ≡ fin v
      → u ≤ℤ (weight_from s count i h +ℤ v)
  unfolding end_of weight_from
  bound zero i h {u} {v} e f = let d : u ≡ v = fin_injective (sym e ∙ f) in omega (whole, plus_read (pos 0) v)
  bound (suc count) i h {u} {v} e f =
      let q = steps i (here count i h) in
      let b = bound count (suc i) (on count i h) q.on_is f in
      let d : q.from ≡ u = fin_injective (sym q.from_is ∙ e) in
      let w = weight_from s count (suc i) (on count i h) in
      let r = raise p s q.row in
      omega (whole, q.rises, plus_read q.left q.from, plus_read q.right q.on, plus_read (q.right +ℤ q.on) r, minus_read q.right q.left, plus_read (q.right -ℤ q.left) r, plus_read ((q.right -ℤ q.left) +ℤ r) w, plus_read (((q.right -ℤ q.left) +ℤ r) +ℤ w) v, plus_read w v)

  -- ---- the objective is used once

  module _ (back : ℕ) (new : (i k : ℕ) → i < k → k ≤ last → turn i ≡ turn k → ⊥) (again : turn (suc last) ≡ turn back)
      (yields : (i : ℕ) (h : i ≤ last) → RowYields p x (steps i h).row (turn (suc i))) where
    -- Two turns by one row would lead to one variable.
    twice : (i k : ℕ) (h : i ≤ last) (g : k ≤ last) → back ≤ i → i < k → (steps i h).row ≡ p.m → (steps k g).row ≡ p.m → ⊥
    twice i k h g b l e f =
        let q : turn (suc i) ≡ turn (suc k) =
        row_yields_one (subst (λ (r : ℕ). RowYields p x r (turn (suc i))) e (yields i h)) (subst (λ (r : ℕ). RowYields p x r (turn (suc k))) f (yields k g)) in
        ⊎_elim
        (λ (d : last ≤ k). let z : k ≡ last = omega arith in new back (suc i) (omega arith) (omega arith) (sym (q ∙ rw z again)))
        (λ (d : k < last). new (suc i) (suc k) (omega arith) (omega arith) q)
        (nat_le_or_lt last k)

    none_after : (i₀ : ℕ) (h₀ : i₀ ≤ last) → back ≤ i₀ → (steps i₀ h₀).row ≡ p.m → (count i : ℕ) (h : i + count ≤ suc last) → i₀ < i → by_objective count i h ≡ 0
    unfolding by_objective
    none_after i₀ h₀ b e zero i h l = refl
    none_after i₀ h₀ b e (suc count) i h l = go (eqb (steps i (here count i h)).row p.m) refl (none_after i₀ h₀ b e count (suc i) (on count i h) (omega arith))
      where
        go : (t : Bool) → eqb (steps i (here count i h)).row p.m ≡ t → by_objective count (suc i) (on count i h) ≡ 0
            → cond t 1 0 + by_objective count (suc i) (on count i h) ≡ 0
        go true d r = absurd (twice i₀ i h₀ (here count i h) b l e (eqb-true _ _ d))
        go false d r = omega arith

    once : (count i : ℕ) (h : i + count ≤ suc last) → back ≤ i → by_objective count i h ≤ 1
    unfolding by_objective
    once zero i h b = omega arith
    once (suc count) i h b = go (eqb (steps i (here count i h)).row p.m) refl (once count (suc i) (on count i h) (omega arith))
      where
        go : (t : Bool) → eqb (steps i (here count i h)).row p.m ≡ t → by_objective count (suc i) (on count i h) ≤ 1
            → cond t 1 0 + by_objective count (suc i) (on count i h) ≤ 1
        go true d r = omega (arith, none_after i (here count i h) b (eqb-true _ _ d) count (suc i) (on count i h) (omega arith))
        go false d r = omega arith

-- ---- turns that come back

-- A walk through distinct variables that visits these, so many of its arcs by the objective.
record Tour (p : Problem) (picks : Strategy) (t : ℤ) (j k count used : ℕ) (w : ℤ) (moments : List ℕ) : Type 0 where
  walk : Walk (Arc p picks t) j k (suc count) w
  distinct : Distinct walk
  visits : visited walk ≡ moments
  uses : by_question {p = p} walk ≡ used

-- Where it comes back to a reached variable, it is a reached cycle.
tour_cycle :
    {Start : ℕ → Type 0} {p : Problem} {picks : Strategy} {t : ℤ} {j count used : ℕ} {w : ℤ} {moments : List ℕ}
    → Reachable Start (Leads p picks) j → Tour p picks t j j count used w moments → Cycle Start (Leads p picks) (Arc p picks t) w
tour_cycle {j = j} {count} r u = record { at = j; arcs = count; reachable = r; walk = u.walk; distinct = u.distinct }

module _ {p : Problem} {s : ℤ} {x : Point} {picks : Strategy} {start : ℕ} {round : List ℕ} (above : NoneAbove (suc p.m) (suc p.n) picks)
    (a : AcceptedOptimal (start_of p start) p s x picks) (r : Round p x picks start round) where
  start_inside : (j : ℕ) → start_of p start j → j ≤ p.n
  start_inside j h = omega (arith, (start_below p start).inside j h)

  -- Each variable that comes is reached and has a number,
  live : (i : ℕ) → i ≤ suc r.last → Live (start_of p start) p x picks (r.turn i)
  live zero h = begins_live a r.begins
  live (suc i) h = let v = live i (omega arith) in live_on start_inside above a v (turn start_inside above a v (r.yields i (omega arith)))

  steps : (i : ℕ) → i ≤ r.last → Turn p s x picks (r.turn i) (r.turn (suc i))
  steps i h = turn start_inside above a (live i (omega arith)) (r.yields i h)

  yields : (i : ℕ) (h : i ≤ r.last) → RowYields p x (steps i h).row (r.turn (suc i))
  yields i h = (steps i h).row_yields

  abbrev many : ℕ
  many = r.last - r.back

  fits : r.back + suc many ≤ suc r.last
  fits = omega (arith, r.after)

  -- and the turns from the one that comes again on come back to it.
  closed : r.turn (end_of (suc many) r.back) ≡ r.turn r.back
  closed = let e : end_of (suc many) r.back ≡ suc r.last = omega (arith, end_is (suc many) r.back, r.after) in rw e r.again

  weight : ℤ → ℤ
  weight t = weight_from r.turn r.last steps t (suc many) r.back fits

  used : ℕ
  used = by_objective r.turn r.last steps (suc many) r.back fits

  tour : (t : ℤ) → Tour p picks t (r.turn r.back) (r.turn r.back) many used (weight t) round
  unfolding weight used
  tour t =
      let way : Tour p picks t (r.turn r.back) (r.turn (end_of (suc many) r.back)) many used (weight t) round = record {
        walk = walk_from r.turn r.last steps t (suc many) r.back fits;
        distinct = distinct r.turn r.last steps r.new t (suc many) r.back fits;
        visits = visits r.turn r.last steps t (suc many) r.back fits ∙ sym (r.round_is ∙ ap (list_of (λ k. r.turn (r.back + k))) (omega (arith, r.after)));
        uses = counts r.turn r.last steps t (suc many) r.back fits;
      } in
      rw closed at way

  -- At the span it weighs at least 0, one less below 0, and at most one arc is by the objective: so it is one, and the weight is 0.
  tight : (used ≡ 1) × (weight s ≡ pos 0)
  unfolding weight used
  tight =
      let o = once r.turn r.last steps r.back r.new r.again yields (suc many) r.back fits (omega arith) in
      let l = lighter r.turn r.last steps (suc many) r.back fits in
      let f = (live r.back (omega (arith, r.after))).planned in
      let b = bound r.turn r.last steps (suc many) r.back fits {u = f.whole} {v = f.whole} f.is (rw closed f.is) in
      let n = a.below_zero (weight (s -ℤ pos 1)) (tour_cycle (live r.back (omega (arith, r.after))).reached (tour (s -ℤ pos 1))) in
      sums (weight s) (weight (s -ℤ pos 1)) f.whole used o l b n
    where
      sums : (w v u : ℤ) (k : ℕ) → k ≤ 1 → w ≡ v +ℤ pos k → u ≤ℤ (w +ℤ u) → v <ℤ pos 0 → (k ≡ 1) × (w ≡ pos 0)
      sums w v u k o l b n = (omega (whole, plus_read v (pos k), plus_read w u), omega (whole, plus_read v (pos k), plus_read w u))

-- The round binds: a reached cycle of the answer's table that uses the question once and weighs 0 at the span.
pub round_binds :
    {p : Problem} {a : Answer} {s : ℤ} {round : List ℕ} → NoneAbove (suc p.m) (suc p.n) (strategy_of a.picks)
    → AcceptedOptimal (start_of p a.start) p s (point_of a.stamps) (strategy_of a.picks)
    → Round p (point_of a.stamps) (strategy_of a.picks) a.start round → Binds p a s round
unfolding tour_cycle
round_binds {p} {a} {s} above h r =
    let t = tight above h r in
    let u = rw t.1 at (tour above h r s) in
    record {
      cycle = tour_cycle (live above h r r.back (omega (arith, r.after))).reached u;
      visits = u.visits;
      question_once = u.uses ∙ t.0;
    }
