-- A plan in whole minutes is one in parts of a minute, with d times its span (`stretched_feasible`, `value_stretched`), and every
-- plan in parts of a minute can be rounded to whole minutes without a greater span (`whole_minutes`).
use Prim.Native.Nat.{ℕ, suc, ◌≤◌, ◌<◌}
use mathlib.Core.Path.{◌≡◌, refl, ap, ap₂, sym, subst, ◌∙◌}
use mathlib.Core.Logic.{⊎_elim, ◌↔◌}
use native.Mathlib.Omega.{arith}
use lib.IntN.{ℤ, pos, ◌+ℤ◌, ◌-ℤ◌, ◌*ℤ◌}
use lib.Signed.{◌≤ℤ◌}
use Rattle.definitions.specs.Tropical.{Trop, bot, fin, plus, Finite}
use Rattle.definitions.specs.Problem as Problems
use Rattle.definitions.specs.Problem.{Problem, Point, side, Feasible, Counts, ◌≼◌, lowest, between, highest, minus, value}
use Rattle.definitions.specs.Scaling.{times, scaled}
use Rattle.definitions.proofs.Whole.{whole, plus_read, minus_read}
use Rattle.definitions.proofs.Tropical.{not_finite_bot, blank_or_finite, largest_ext}
use Rattle.scaling.specs.Floor.{floor, floored, rounded}
use Rattle.scaling.specs.Plans.{stretched_point, rounded_point, times_value, WholeMinutes}
use Rattle.scaling.proofs.Floor as Floors
use Rattle.scaling.proofs.Floor.{times_zero, times_blank, rounded_zero, times_plus, times_minus_whole, times_mono, rounded_mono, rounded_plus, floor_below, floor_of_times, Missing, missing}
use Rattle.scaling.proofs.Maps.{largest_map, times_monotone, rounded_monotone}

-- ---- sides

-- A side of a stretched plan, by scaled coefficients, is the side stretched.
pub side_stretched : (d n : ℕ) (c : ℕ → Trop) (x : Point) → side n (λ j. times d (c j)) (stretched_point d x) ≡ times d (side n c x)
unfolding side
side_stretched d n c x =
    largest_ext _ (λ j. times d (plus (c j) (x j))) (suc n) (λ j l. sym (times_plus d (c j) (x j)))
    ∙ largest_map (λ j. plus (c j) (x j)) (suc n) (times_monotone d)

-- A side of a rounded plan is the side by scaled coefficients, rounded.
pub side_rounded :
    (d r n : ℕ) (c : ℕ → Trop) (y : Point) → 1 ≤ d
    → side n c (rounded_point d r y) ≡ rounded d r (side n (λ j. times d (c j)) y)
unfolding side
side_rounded d r n c y one =
    largest_ext _ (λ j. rounded d r (plus (times d (c j)) (y j))) (suc n) (λ j l. sym (rounded_plus d r (c j) (y j) one))
    ∙ largest_map (λ j. plus (times d (c j)) (y j)) (suc n) (rounded_monotone d r one)

-- One side is blank exactly when the other is: what counts, counts.
pub stretched_blank :
    (d n : ℕ) (c : ℕ → Trop) (x : Point)
    → (side n (λ j. times d (c j)) (stretched_point d x) ≡ bot) ↔ (side n c x ≡ bot)
stretched_blank d n c x = rw (side_stretched d n c x) (times_blank d (side n c x))

pub rounded_blank :
    (d r n : ℕ) (c : ℕ → Trop) (y : Point) → 1 ≤ d
    → (side n c (rounded_point d r y) ≡ bot) ↔ (side n (λ j. times d (c j)) y ≡ bot)
rounded_blank d r n c y one = rw (side_rounded d r n c y one) (Floors.rounded_blank d r (side n (λ j. times d (c j)) y))

-- What is blank only where another is, is finite where that is.
finite_alike : {a b : Trop} → (a ≡ bot → b ≡ bot) → Finite b → Finite a
finite_alike {a} h f = ⊎_elim (λ e. absurd (not_finite_bot (subst Finite (h e) f))) (λ g. g) (blank_or_finite a)

-- A stretched plan counts where the plan does.
pub stretched_counts : (d : ℕ) (p : Problem) {x : Point} → Counts p x → Counts (scaled d p) (stretched_point d x)
stretched_counts d p {x} c = record { second = finite_alike (stretched_blank d p.n (p.right p.m) x).0 c.second }

-- ---- plans that keep the rules

pub stretched_feasible : (d : ℕ) (p : Problem) {x : Point} → Feasible p x → Feasible (scaled d p) (stretched_point d x)
stretched_feasible d p {x} f =
    record {
      anchored = ap (times d) f.anchored ∙ times_zero d;
      keeps = λ i l. rw (side_stretched d p.n (p.left i) x, side_stretched d p.n (p.right i) x) (times_mono d (f.keeps i l));
    }

pub rounded_feasible : (d r : ℕ) (p : Problem) {y : Point} → r < d → Feasible (scaled d p) y → Feasible p (rounded_point d r y)
rounded_feasible d r p {y} h f =
    let one : 1 ≤ d = omega arith in
    record {
      anchored = ap (rounded d r) f.anchored ∙ rounded_zero d r h;
      keeps = λ i l. rw (side_rounded d r p.n (p.left i) y one, side_rounded d r p.n (p.right i) y one) (rounded_mono d r one (f.keeps i l));
    }

-- ---- spans

-- The span of a stretched plan is d times the span.
minus_times : (d : ℕ) (f g : Trop) → minus (times d f) (times d g) ≡ times_value d (minus f g)
unfolding times minus times_value
minus_times d bot g = refl
minus_times d (fin a) bot = refl
minus_times d (fin a) (fin b) = ap Problems.whole (sym (times_minus_whole d a b))

pub value_stretched : (d : ℕ) (p : Problem) (x : Point) → value (scaled d p) (stretched_point d x) ≡ times_value d (value p x)
unfolding value
value_stretched d p x =
    ap₂ minus (side_stretched d p.n (p.left p.m) x) (side_stretched d p.n (p.right p.m) x)
    ∙ minus_times d (side p.n (p.left p.m) x) (side p.n (p.right p.m) x)

-- Moved on until the second side b stands on a whole minute, the second side is rounded by nothing and the first down: the
-- difference does not grow.
floors_apart :
    (d : ℕ) (a b : ℤ) (m : Missing d b) → 1 ≤ d
    → (pos d *ℤ (floor d (a +ℤ pos m.parts) -ℤ floor d (b +ℤ pos m.parts))) ≤ℤ (a -ℤ b)
floors_apart d a b m one =
    let f : ℤ = floor d (a +ℤ pos m.parts) in
    let e : floor d (b +ℤ pos m.parts) ≡ m.next = ap (floor d) m.is ∙ floor_of_times d m.next one in
    rw e (omega (
      whole,
      m.is,
      times_minus_whole d f m.next,
      floor_below d (a +ℤ pos m.parts) one,
      plus_read a (pos m.parts),
      plus_read b (pos m.parts),
      minus_read a b,
      minus_read (pos d *ℤ f) (pos d *ℤ m.next),
    ))

-- How many parts later a plan with the second side g is rounded.
record Later (d : ℕ) (g : Trop) : Type 0 where
  parts : ℕ
  few : parts < d
  gains_nothing : (f : Trop) → times_value d (minus (rounded d parts f) (rounded d parts g)) ≼ minus f g

later : (d : ℕ) (g : Trop) → 1 ≤ d → Later d g
unfolding floored plus minus times_value
later d bot one = record { parts = 0; few = one; gains_nothing = at }
  where
    at : (f : Trop) → times_value d (minus (rounded d 0 f) (rounded d 0 bot)) ≼ minus f bot
    at bot = lowest
    at (fin a) = highest
later d (fin b) one = record { parts = (missing d b one).parts; few = (missing d b one).few; gains_nothing = at }
  where
    at : (f : Trop) → times_value d (minus (rounded d (missing d b one).parts f) (rounded d (missing d b one).parts (fin b))) ≼ minus f (fin b)
    at bot = lowest
    at (fin a) = between (floors_apart d a b (missing d b one) one)

-- Every plan in parts of a minute has one in whole minutes with at most its span.
pub whole_minutes : (d : ℕ) (p : Problem) {y : Point} → 1 ≤ d → Feasible (scaled d p) y → WholeMinutes d p y
unfolding value
whole_minutes d p {y} one f =
    let second : Trop = side p.n (λ j. times d (p.right p.m j)) y in
    let l : Later d second = later d second one in
    record {
      point = rounded_point d l.parts y;
      feasible = rounded_feasible d l.parts p l.few f;
      counts = λ c. record { second = finite_alike (rounded_blank d l.parts p.n (p.right p.m) y one).0 c.second };
      at_most_is =
          rw (side_rounded d l.parts p.n (p.left p.m) y one, side_rounded d l.parts p.n (p.right p.m) y one)
          (l.gains_nothing (side p.n (λ j. times d (p.left p.m j)) y));
    }
