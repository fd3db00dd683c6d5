-- A short way to see that picks are accepted: numbers on the variables (a potential) that no arc exceeds, tested by
-- computing. Variables without a number are not reached.
use Prim.Native.Nat.{ℕ, zero, suc, ◌≤◌, ◌<◌}
use mathlib.Core.Path.{◌≡◌, refl, ap, sym, subst, ◌∙◌}
use mathlib.Core.Bool.{Bool, true, false, cond, ◌&&◌, and-eq-true_iff, false≢true}
use mathlib.Core.List.{List}
use mathlib.Core.Logic.{⊎_elim}
use native.Mathlib.Omega.{arith}
use lib.Dec.{T, eqb, leb}
use lib.ListN.{length, get_or-eq_default}
use lib.IntN.{ℤ, pos, negsuc, ◌+ℤ◌, ◌-ℤ◌}
use lib.Signed.{◌≤ℤ◌, le_z}
use borrow.Author.Tests.{eqb-true, leb-true}
use Rattle.base.proofs.Numbers.{nat_le_or_lt}
use Rattle.definitions.specs.Limits.{lead_limit, span_limit, class_optimal, class_unbounded, class_infeasible}
use Rattle.definitions.specs.Tropical.{Trop, bot, fin, ◌⊑◌, blank_least, whole_least, Finite}
use Rattle.definitions.specs.Problem as Problems
use Rattle.definitions.specs.Problem.{Problem, Value, minus_infinity, plus_infinity, side, value}
use Rattle.definitions.specs.Certificate.{Strategy, Second, start_of, AnchorAnd, Reachable, start, onward, Walk, stop, step, Cycle, raise, Leads, Arc, HasPick, PicksCount, BelowZero, RowLeads, RowArc, RowHasPick, RowPicksCount, AtLeastZero}
use Rattle.definitions.specs.ProblemRecord.{n_field, m_field, WithinLayout, problem_of}
use Rattle.definitions.specs.AnswerRecord.{Answer, answer_refusal}
use Rattle.definitions.specs.Verdict.{Accepted, optimal, unbounded, infeasible, answer_for, point_of, strategy_of}
use Rattle.definitions.proofs.Whole.{whole, plus_read}
use Rattle.definitions.proofs.Tropical.{fin_injective, bot_not_fin, not_finite_bot}
use Rattle.duality.specs.Picks.{NoneAbove}
use Rattle.duality.proofs.Starts.{start_below, anchor_and_below}
use Rattle.duality.proofs.Numbers.{below_infeasible, above_unbounded}
use Rattle.duality.proofs.Classes.{starts_inside}
use Rattle.strategy_tests.proofs.Certified.{Scale, strict, loose, strict_scale, loose_scale}
use Rattle.duality.proofs.SmallLeads.{layout_within, layout_enough}
use Rattle.guarantees.proofs.Holding.{picks_above}

-- ---- tests

-- f passes at 0, …, k − 1.
unfoldable pub every : (ℕ → Bool) → ℕ → Bool
every f zero = true
every f (suc k) = every f k && f k

every_below : (f : ℕ → Bool) (k : ℕ) → every f k ≡ true → (i : ℕ) → i < k → f i ≡ true
unfolding every
every_below f zero e i h = absurd (omega arith)
every_below f (suc k) e i h =
    let b = (and-eq-true_iff (every f k) (f k)).0 e in
    ⊎_elim (λ (l : k ≤ i). let q : k ≡ i = omega arith in rw (← q) b.1) (λ (l : i < k). every_below f k b.0 i l) (nat_le_or_lt k i)

le_tested : {a b : ℤ} → le_z a b ≡ true → a ≤ℤ b
le_tested e = record { le = subst T (sym e) tt }

unfoldable pub at_most : Trop → Trop → Bool
at_most bot y = true
at_most (fin a) bot = false
at_most (fin a) (fin b) = le_z a b

at_most_is : (x y : Trop) → at_most x y ≡ true → x ⊑ y
unfolding at_most
at_most_is bot y e = blank_least
at_most_is (fin a) bot e = absurd (false≢true e)
at_most_is (fin a) (fin b) e = whole_least (le_tested e)

unfoldable pub same_whole : ℤ → ℤ → Bool
same_whole a b = le_z a b && le_z b a

same_whole_lem : (a b : ℤ) → same_whole a b ≡ true → a ≡ b
unfolding same_whole
same_whole_lem a b e =
    let q = (and-eq-true_iff (le_z a b) (le_z b a)).0 e in
    let h : a ≤ℤ b = le_tested q.0 in
    let k : b ≤ℤ a = le_tested q.1 in
    omega whole

unfoldable pub is_whole : ℤ → Trop → Bool
is_whole z bot = false
is_whole z (fin y) = same_whole y z

is_whole_lem : (z : ℤ) (x : Trop) → is_whole z x ≡ true → x ≡ fin z
unfolding is_whole
is_whole_lem z bot e = absurd (false≢true e)
is_whole_lem z (fin y) e = ap fin (same_whole_lem y z e)

unfoldable pub is_value : ℤ → Value → Bool
is_value z minus_infinity = false
is_value z (Problems.whole y) = same_whole y z
is_value z plus_infinity = false

is_value_lem : (z : ℤ) (v : Value) → is_value z v ≡ true → v ≡ Problems.whole z
unfolding is_value
is_value_lem z minus_infinity e = absurd (false≢true e)
is_value_lem z (Problems.whole y) e = ap Problems.whole (same_whole_lem y z e)
is_value_lem z plus_infinity e = absurd (false≢true e)

unfoldable pub finite? : Trop → Bool
finite? bot = false
finite? (fin z) = true

finite_tested : (x : Trop) → finite? x ≡ true → Finite x
unfolding finite?
finite_tested bot e = absurd (false≢true e)
finite_tested (fin z) e = record { whole = z; is = refl }

-- A list's place that is not blank lies inside.
finite_inside : (xs : List Trop) (j : ℕ) → Finite (point_of xs j) → j < length xs
unfolding point_of
finite_inside xs j f = ⊎_elim
    (λ (h : length xs ≤ j). absurd (not_finite_bot (rw (get_or-eq_default xs bot h) at f)))
    (λ h. h)
    (nat_le_or_lt (length xs) j)

-- ---- a potential

-- What an arc of weight w from a variable at h finds at its end: a number that it does not exceed.
record Bounded (pot : ℕ → Trop) (s : ℕ → ℤ → ℤ) (n l : ℕ) (w h : ℤ) : Type 0 where
  there : ℤ
  is : pot l ≡ fin there
  under : (s n w +ℤ there) ≤ℤ h

module _ {Start : ℕ → Type 0} {Leads : ℕ → ℕ → Type 0} {A : ℕ → ℕ → ℤ → Type 0} {Counts : ℕ → Type 0} {s : ℕ → ℤ → ℤ} {Good : ℤ → Type 0} (scale : Scale s Good)
    (pot : ℕ → Trop) (some : (j : ℕ) → Start j → Finite (pot j)) (counts : (j : ℕ) → Finite (pot j) → Counts j)
    (leads : (j l : ℕ) → Finite (pot j) → Leads j l → Finite (pot l))
    (bounded : (j l : ℕ) (w h : ℤ) → pot j ≡ fin h → A j l w → Bounded pot s 1 l w h) where
  reached : {j : ℕ} → Reachable Start Leads j → Finite (pot j)
  reached (start b) = some _ b
  reached (onward {j = j} {l = l} r a) = leads j l (reached r) a

  walk_bounded : {j k n : ℕ} {w : ℤ} (h : ℤ) → pot j ≡ fin h → Walk A j k n w → Bounded pot s n k w h
  walk_bounded h e stop = record { there = h; is = e; under = omega (whole, scale.nought, plus_read (s 0 (pos 0)) h) }
  walk_bounded h e (step {j = j} {l = l} {n = n} {w = w} {v = v} a p) =
      let b = bounded j l w h e a in
      let q = walk_bounded b.there b.is p in
      record {
        there = q.there;
        is = q.is;
        under = omega (whole, scale.more n w v, plus_read (s 1 w) (s n v), plus_read (s 1 w) b.there, plus_read (s n v) q.there, plus_read (s (suc n) (w +ℤ v)) q.there, b.under, q.under);
      }

  certifies : ((j : ℕ) → Reachable Start Leads j → Counts j) × ((w : ℤ) → Cycle Start Leads A w → Good w)
  certifies = (
    λ j r. counts j (reached r),
    λ w c.
        let f = reached c.reachable in
        let b = walk_bounded f.whole f.is c.walk in
        let e : b.there ≡ f.whole = fin_injective (sym b.is ∙ f.is) in
        scale.good (suc c.arcs) w (omega arith) (omega (whole, b.under, e, plus_read (s (suc c.arcs) w) b.there)),
  )

-- ---- strategies of variables

unfoldable pub falls : Trop → ℤ → ℤ → Trop → ℤ → Bool
falls bot a r k h = true
falls (fin b) a r bot h = false
falls (fin b) a r (fin k) h = le_z (strict 1 ((b -ℤ a) +ℤ r) +ℤ k) h

unfoldable pub left_falls : Problem → ℤ → (ℕ → Trop) → ℕ → ℤ → Trop → Bool
left_falls p t pot i h bot = false
left_falls p t pot i h (fin a) = every (λ l. falls (p.right i l) a (raise p t i) (pot l) h) (suc p.n)

unfoldable pub pick_falls : Problem → ℤ → (ℕ → Trop) → ℕ → ℤ → ℕ → Bool
pick_falls p t pot j h zero = false
pick_falls p t pot j h (suc i) = left_falls p t pot i h (p.left i j)

unfoldable pub variable_falls : Problem → ℤ → (ℕ → Trop) → Strategy → ℕ → Trop → Bool
variable_falls p t pot picks j bot = true
variable_falls p t pot picks j (fin h) = pick_falls p t pot j h (picks j)

-- The variables of the start have a number: the anchor, or those of the second list.
unfoldable pub met_at : Trop → Trop → Bool
met_at bot h = true
met_at (fin b) h = finite? h

unfoldable pub start_met : Problem → (ℕ → Trop) → ℕ → Bool
start_met p pot zero = finite? (pot 0)
start_met p pot (suc k) = every (λ j. met_at (p.right p.m j) (pot j)) (suc p.n)

met_finite : (x h : Trop) → met_at x h ≡ true → Finite x → Finite h
unfolding met_at
met_finite bot h e f = absurd (not_finite_bot f)
met_finite (fin b) h e f = finite_tested h e

start_met_lem : (p : Problem) (pot : ℕ → Trop) (begin : ℕ) → start_met p pot begin ≡ true → (j : ℕ) → start_of p begin j → Finite (pot j)
unfolding start_met start_of
start_met_lem p pot zero e j s = rw s (finite_tested (pot 0) e)
start_met_lem p pot (suc k) e j s = met_finite (p.right p.m j) (pot j) (every_below (λ j. met_at (p.right p.m j) (pot j)) (suc p.n) e j (omega (arith, s.inside))) s.right

unfoldable pub variables_fall : Problem → ℤ → ℕ → List Trop → Strategy → Bool
variables_fall p t begin pots picks = start_met p (point_of pots) begin && every (λ j. variable_falls p t (point_of pots) picks j (point_of pots j)) (length pots)

-- What the test of a variable at h says.
record Fall (p : Problem) (t : ℤ) (pot : ℕ → Trop) (picks : Strategy) (j : ℕ) (h : ℤ) : Type 0 where
  row : ℕ
  a : ℤ
  picked : picks j ≡ suc row
  left_is : p.left row j ≡ fin a
  arcs : (l : ℕ) → l < suc p.n → falls (p.right row l) a (raise p t row) (pot l) h ≡ true

fall_of : (p : Problem) (t : ℤ) (pot : ℕ → Trop) (picks : Strategy) (j : ℕ) (h : ℤ) → variable_falls p t pot picks j (fin h) ≡ true → Fall p t pot picks j h
unfolding variable_falls pick_falls left_falls
fall_of p t pot picks j h e = go (picks j) refl e
  where
    at : (i : ℕ) (x : Trop) → picks j ≡ suc i → p.left i j ≡ x → left_falls p t pot i h x ≡ true → Fall p t pot picks j h
    at i bot q l e = absurd (false≢true e)
    at i (fin a) q l e = record { row = i; a = a; picked = q; left_is = l; arcs = every_below _ (suc p.n) e }

    go : (pick : ℕ) → picks j ≡ pick → pick_falls p t pot j h pick ≡ true → Fall p t pot picks j h
    go zero q e = absurd (false≢true e)
    go (suc i) q e = at i (p.left i j) q refl e

falls_bounded : (x k : Trop) (a r : ℤ) {b : ℤ} (h : ℤ) (pot : ℕ → Trop) (l : ℕ) → x ≡ fin b → pot l ≡ k → falls x a r k h ≡ true → Bounded pot strict 1 l ((b -ℤ a) +ℤ r) h
unfolding falls
falls_bounded bot k a r h pot l e q t = absurd (bot_not_fin e)
falls_bounded (fin y) bot a r h pot l e q t = absurd (false≢true t)
falls_bounded (fin y) (fin k) a r h pot l e q t =
    record { there = k; is = q; under = subst (λ (z : ℤ). (strict 1 ((z -ℤ a) +ℤ r) +ℤ k) ≤ℤ h) (fin_injective e) (le_tested t) }

pub variables_fall_lem : (p : Problem) (t : ℤ) (begin : ℕ) (pots : List Trop) (picks : Strategy) → variables_fall p t begin pots picks ≡ true
    → PicksCount (start_of p begin) p picks × BelowZero (start_of p begin) p picks t
unfolding variables_fall
variables_fall_lem p t begin pots picks e = certifies strict_scale pot (start_met_lem p pot begin both.0) counts leads bounded
  where
    pot : ℕ → Trop
    pot = point_of pots

    both : (start_met p (point_of pots) begin ≡ true) × (every (λ j. variable_falls p t (point_of pots) picks j (point_of pots j)) (length pots) ≡ true)
    both = (and-eq-true_iff _ _).0 e

    fall : (j : ℕ) (h : ℤ) → point_of pots j ≡ fin h → Fall p t (point_of pots) picks j h
    fall j h q = fall_of p t (point_of pots) picks j h
        (rw q at (every_below (λ j. variable_falls p t (point_of pots) picks j (point_of pots j)) (length pots) both.1 j (finite_inside pots j (record { whole = h; is = q }))))

    counts : (j : ℕ) → Finite (point_of pots j) → HasPick p picks j
    counts j f = let c = fall j f.whole f.is in record { row = c.row; picked = c.picked; left = record { whole = c.a; is = c.left_is } }

    at : (j l : ℕ) (h b : ℤ) (q : point_of pots j ≡ fin h) → l ≤ p.n → (i : ℕ) → picks j ≡ suc i → p.right i l ≡ fin b
        → (c : Fall p t (point_of pots) picks j h) → Bounded (point_of pots) strict 1 l ((b -ℤ c.a) +ℤ raise p t c.row) h
    at j l h b q k i e r c =
        let d : i ≡ c.row = omega (arith, e, c.picked) in
        falls_bounded (p.right c.row l) (point_of pots l) c.a (raise p t c.row) h (point_of pots) l (rw d at r) refl (c.arcs l (omega arith))

    leads : (j l : ℕ) → Finite (point_of pots j) → Leads p picks j l → Finite (point_of pots l)
    leads j l f a =
        let b = at j l f.whole a.right.whole f.is a.inside a.row a.picked a.right.is (fall j f.whole f.is) in
        record { whole = b.there; is = b.is }

    bounded : (j l : ℕ) (w h : ℤ) → point_of pots j ≡ fin h → Arc p picks t j l w → Bounded (point_of pots) strict 1 l w h
    bounded j l w h q a =
        let c = fall j h q in
        let b = at j l h a.by.b q a.inside a.row a.picked a.by.right_is c in
        let d : a.row ≡ c.row = omega (arith, a.picked, c.picked) in
        let e : a.by.a ≡ c.a = fin_injective (sym a.by.left_is ∙ ap (λ (i : ℕ). p.left i j) d ∙ c.left_is) in
        let g : w ≡ (a.by.b -ℤ c.a) +ℤ raise p t c.row = a.by.weighs ∙ ap (λ (x : ℤ). (a.by.b -ℤ x) +ℤ raise p t a.row) e ∙ ap (λ (i : ℕ). (a.by.b -ℤ c.a) +ℤ raise p t i) d in
        rw g b

-- ---- strategies of rows

unfoldable pub rises : Trop → ℤ → ℤ → Trop → ℤ → Bool
rises bot a r k h = false
rises (fin b) a r bot h = false
rises (fin b) a r (fin k) h = le_z (loose 1 ((b -ℤ a) +ℤ r) +ℤ k) h

unfoldable pub row_pick : Problem → ℤ → (ℕ → Trop) → ℕ → ℤ → ℤ → ℕ → Bool
row_pick p t pot i h a zero = false
row_pick p t pot i h a (suc l) = rises (p.right i l) a (raise p t i) (pot l) h

unfoldable pub row_left : Problem → ℤ → (ℕ → Trop) → Strategy → ℕ → ℤ → Trop → Bool
row_left p t pot picks i h bot = true
row_left p t pot picks i h (fin a) = row_pick p t pot i h a (picks i)

unfoldable pub variable_rises : Problem → ℤ → (ℕ → Trop) → Strategy → ℕ → Trop → Bool
variable_rises p t pot picks j bot = true
variable_rises p t pot picks j (fin h) = every (λ i. row_left p t pot picks i h (p.left i j)) (suc p.m)

unfoldable pub variables_rise : Problem → ℤ → ℕ → List Trop → Strategy → Bool
variables_rise p t at pots picks = (finite? (point_of pots 0) && finite? (point_of pots at)) && every (λ j. variable_rises p t (point_of pots) picks j (point_of pots j)) (length pots)

-- What the test of a row with left coefficient a of a variable at h says.
record Rise (p : Problem) (t : ℤ) (pot : ℕ → Trop) (picks : Strategy) (i : ℕ) (h a : ℤ) : Type 0 where
  variable : ℕ
  b : ℤ
  picked : picks i ≡ suc variable
  right_is : p.right i variable ≡ fin b
  bound : Bounded pot loose 1 variable ((b -ℤ a) +ℤ raise p t i) h

rises_bounded : (x k : Trop) (a r h : ℤ) (pot : ℕ → Trop) (l : ℕ) → pot l ≡ k → rises x a r k h ≡ true → (b : ℤ) → x ≡ fin b → Bounded pot loose 1 l ((b -ℤ a) +ℤ r) h
unfolding rises
rises_bounded bot k a r h pot l q t b e = absurd (false≢true t)
rises_bounded (fin y) bot a r h pot l q t b e = absurd (false≢true t)
rises_bounded (fin y) (fin k) a r h pot l q t b e =
    record { there = k; is = q; under = subst (λ (z : ℤ). (loose 1 ((z -ℤ a) +ℤ r) +ℤ k) ≤ℤ h) (fin_injective e) (le_tested t) }

rises_finite : (x k : Trop) (a r h : ℤ) → rises x a r k h ≡ true → Finite x
unfolding rises
rises_finite bot k a r h t = absurd (false≢true t)
rises_finite (fin y) k a r h t = record { whole = y; is = refl }

rise_of : (p : Problem) (t : ℤ) (pot : ℕ → Trop) (picks : Strategy) (i : ℕ) (h a : ℤ) → row_left p t pot picks i h (fin a) ≡ true → Rise p t pot picks i h a
unfolding row_left row_pick
rise_of p t pot picks i h a e = go (picks i) refl e
  where
    go : (pick : ℕ) → picks i ≡ pick → row_pick p t pot i h a pick ≡ true → Rise p t pot picks i h a
    go zero q e = absurd (false≢true e)
    go (suc l) q e =
        let f = rises_finite (p.right i l) (pot l) a (raise p t i) h e in
        record { variable = l; b = f.whole; picked = q; right_is = f.is; bound = rises_bounded (p.right i l) (pot l) a (raise p t i) h pot l refl e f.whole f.is }

pub variables_rise_lem : (p : Problem) (t : ℤ) (at : ℕ) (pots : List Trop) (picks : Strategy) → variables_rise p t at pots picks ≡ true
    → RowPicksCount (AnchorAnd at) p picks × AtLeastZero (AnchorAnd at) p picks t
unfolding variables_rise variable_rises
variables_rise_lem p t at pots picks e = (λ i j h r f. c.0 j r i h f, c.1)
  where
    both : ((finite? (point_of pots 0) && finite? (point_of pots at)) ≡ true) × (every (λ j. variable_rises p t (point_of pots) picks j (point_of pots j)) (length pots) ≡ true)
    both = (and-eq-true_iff _ _).0 e

    rise : (i j : ℕ) (h a : ℤ) → i ≤ p.m → point_of pots j ≡ fin h → p.left i j ≡ fin a → Rise p t (point_of pots) picks i h a
    rise i j h a b q l =
        let v : variable_rises p t (point_of pots) picks j (fin h) ≡ true =
        rw q at (every_below (λ j. variable_rises p t (point_of pots) picks j (point_of pots j)) (length pots) both.1 j (finite_inside pots j (record { whole = h; is = q }))) in
        rise_of p t (point_of pots) picks i h a (rw l at (every_below (λ i. row_left p t (point_of pots) picks i h (p.left i j)) (suc p.m) v i (omega arith)))

    counts : (j : ℕ) → Finite (point_of pots j) → (i : ℕ) → i ≤ p.m → Finite (p.left i j) → RowHasPick p picks i
    counts j f i h l =
        let r = rise i j f.whole l.whole h f.is l.is in
        record { variable = r.variable; picked = r.picked; right = record { whole = r.b; is = r.right_is } }

    leads : (j l : ℕ) → Finite (point_of pots j) → RowLeads p picks j l → Finite (point_of pots l)
    leads j l f a =
        let r = rise a.row j f.whole a.left.whole a.inside f.is a.left.is in
        let d : r.variable ≡ l = omega (arith, r.picked, a.picked) in
        rw (← d) (record { whole = r.bound.there; is = r.bound.is })

    bounded : (j l : ℕ) (w h : ℤ) → point_of pots j ≡ fin h → RowArc p picks t j l w → Bounded (point_of pots) loose 1 l w h
    bounded j l w h q a =
        let r = rise a.row j h a.by.a a.inside q a.by.left_is in
        let d : r.variable ≡ l = omega (arith, r.picked, a.picked) in
        let g : a.by.b ≡ r.b = fin_injective (sym a.by.right_is ∙ ap (p.right a.row) (sym d) ∙ r.right_is) in
        let k : w ≡ (r.b -ℤ a.by.a) +ℤ raise p t a.row = a.by.weighs ∙ ap (λ (x : ℤ). (x -ℤ a.by.a) +ℤ raise p t a.row) g in
        rw (k, ← d) r.bound

    begun : (j : ℕ) → AnchorAnd at j → Finite (point_of pots j)
    begun j =
        let each = (and-eq-true_iff (finite? (point_of pots 0)) (finite? (point_of pots at))).0 both.0 in
        ⊎_elim (λ (e : j ≡ 0). rw e (finite_tested (point_of pots 0) each.0)) (λ (e : j ≡ at). rw e (finite_tested (point_of pots at) each.1))

    c : ((j : ℕ) → Reachable (AnchorAnd at) (RowLeads p picks) j → (i : ℕ) → i ≤ p.m → Finite (p.left i j) → RowHasPick p picks i) × AtLeastZero (AnchorAnd at) p picks t
    c = certifies loose_scale (point_of pots) begun counts leads bounded

-- ---- answers

unfoldable pub least_tested : Problem → Answer → List Trop → Trop → Bool
least_tested p a pots bot = false
least_tested p a pots (fin s) =
    (is_whole (pos 0) (point_of a.stamps 0)
    && every (λ i. at_most (side p.n (p.left i) (point_of a.stamps)) (side p.n (p.right i) (point_of a.stamps))) p.m)
    && (is_value s (value p (point_of a.stamps)) && variables_fall p (s -ℤ pos 1) a.start pots (strategy_of a.picks))

unfoldable pub bottomless_tested : Problem → Answer → List Trop → ℕ → Bool
bottomless_tested p a pots zero = false
bottomless_tested p a pots (suc k) = (leb k p.n && finite? (p.right p.m k)) && variables_rise p (negsuc span_limit) k pots (strategy_of a.picks)

-- The answer is accepted, by this potential.
unfoldable pub tested : Problem → Answer → List Trop → Bool
tested p a pots =
    cond (eqb a.class class_optimal) (least_tested p a pots a.span)
    (cond (eqb a.class class_unbounded) (bottomless_tested p a pots a.start)
    (cond (eqb a.class class_infeasible) (variables_fall p (pos span_limit) a.start pots (strategy_of a.picks)) false))

least_accepted : (p : Problem) (a : Answer) (pots : List Trop) → a.class ≡ class_optimal → (x : Trop) → a.span ≡ x → least_tested p a pots x ≡ true → Accepted p a
unfolding least_tested
least_accepted p a pots c bot q e = absurd (false≢true e)
least_accepted p a pots c (fin s) q e =
    let halves = (and-eq-true_iff _ _).0 e in
    let plan = (and-eq-true_iff _ _).0 halves.0 in
    let rest = (and-eq-true_iff _ _).0 halves.1 in
    let f = variables_fall_lem p (s -ℤ pos 1) a.start pots (strategy_of a.picks) rest.1 in
    optimal c q (record {
      feasible = record {
        anchored = is_whole_lem (pos 0) (point_of a.stamps 0) plan.0;
        keeps = λ i h. at_most_is _ _ (every_below (λ i. at_most (side p.n (p.left i) (point_of a.stamps)) (side p.n (p.right i) (point_of a.stamps))) p.m plan.1 i h);
      };
      value_is = is_value_lem s (value p (point_of a.stamps)) rest.0;
      picks_count = f.0;
      below_zero = f.1;
    })

-- The sizes of pick tables, by class.
rows_table : (p a : List ℕ) → answer_refusal a (n_field p) (m_field p) ≡ 0 → (answer_for p a).class ≡ class_unbounded
    → NoneAbove (suc (problem_of p).n) (suc (problem_of p).m) (strategy_of (answer_for p a).picks)
unfolding problem_of
rows_table p a none e = picks_above p a none (suc (n_field p)) (suc (m_field p)) (rw e) (rw e)

variables_table : (p a : List ℕ) → answer_refusal a (n_field p) (m_field p) ≡ 0 → (answer_for p a).class ≡ class_infeasible
    → NoneAbove (suc (problem_of p).m) (suc (problem_of p).n) (strategy_of (answer_for p a).picks)
unfolding problem_of
variables_table p a none e = picks_above p a none (suc (m_field p)) (suc (n_field p)) (rw e) (rw e)

bottomless_accepted : (p a : List ℕ) (pots : List Trop) → WithinLayout p → answer_refusal a (n_field p) (m_field p) ≡ 0 → (answer_for p a).class ≡ class_unbounded
    → (begin : ℕ) → (answer_for p a).start ≡ begin → bottomless_tested (problem_of p) (answer_for p a) pots begin ≡ true → Accepted (problem_of p) (answer_for p a)
unfolding bottomless_tested
bottomless_accepted p a pots w none two zero s e = absurd (false≢true e)
bottomless_accepted p a pots w none two (suc k) s e =
    let halves = (and-eq-true_iff _ _).0 e in
    let named = (and-eq-true_iff (leb k (problem_of p).n) (finite? ((problem_of p).right (problem_of p).m k))).0 halves.0 in
    let second : Second (problem_of p) k = record { inside = leb-true k (problem_of p).n named.0; right = finite_tested _ named.1 } in
    let f = variables_rise_lem (problem_of p) (negsuc span_limit) k pots (strategy_of (answer_for p a).picks) halves.1 in
    unbounded two s second (above_unbounded (problem_of p) lead_limit span_limit (strategy_of (answer_for p a).picks) (starts_inside (problem_of p) (anchor_and_below (problem_of p) k second)) (layout_within p w) (layout_enough p w) (rows_table p a none two) f.0 f.1)

-- Bytes that nothing refuses and whose answer passes the test are accepted.
pub tested_accepted : (p a : List ℕ) (pots : List Trop) → WithinLayout p → answer_refusal a (n_field p) (m_field p) ≡ 0
    → tested (problem_of p) (answer_for p a) pots ≡ true → Accepted (problem_of p) (answer_for p a)
unfolding tested
tested_accepted p a pots w none e = go (eqb (answer_for p a).class 1) refl (eqb (answer_for p a).class 2) refl (eqb (answer_for p a).class 3) refl e
  where
    go : (b : Bool) → eqb (answer_for p a).class 1 ≡ b → (c : Bool) → eqb (answer_for p a).class 2 ≡ c → (d : Bool) → eqb (answer_for p a).class 3 ≡ d
        → cond b (least_tested (problem_of p) (answer_for p a) pots (answer_for p a).span)
        (cond c (bottomless_tested (problem_of p) (answer_for p a) pots (answer_for p a).start)
        (cond d (variables_fall (problem_of p) (pos span_limit) (answer_for p a).start pots (strategy_of (answer_for p a).picks)) false)) ≡ true
        → Accepted (problem_of p) (answer_for p a)
    go true q c r d s e = least_accepted (problem_of p) (answer_for p a) pots (eqb-true _ 1 q) (answer_for p a).span refl e
    go false q true r d s e = bottomless_accepted p a pots w none (eqb-true _ 2 r) (answer_for p a).start refl e
    go false q false r true s e =
        let three : (answer_for p a).class ≡ 3 = eqb-true _ 3 s in
        let f = variables_fall_lem (problem_of p) (pos span_limit) (answer_for p a).start pots (strategy_of (answer_for p a).picks) e in
        infeasible three (below_infeasible (problem_of p) lead_limit span_limit (strategy_of (answer_for p a).picks) (starts_inside (problem_of p) (start_below (problem_of p) (answer_for p a).start)) (layout_within p w) (layout_enough p w) (variables_table p a none three) f.0 f.1)
    go false q false r false s e = absurd (false≢true e)
