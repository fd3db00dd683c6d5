-- The bisection ends at the least span, and makes at most 22 halvings.
-- The middle lies strictly inside a bracket wider than 1, so each halving keeps the least span inside and the bracket
-- becomes narrower: at most half as wide, rounded up.
use Prim.Native.Nat.{ℕ, zero, suc, ◌+◌, ◌*◌, ◌-◌, ◌^◌, ◌/◌, ◌≤◌, ◌<◌}
use mathlib.Core.Path.{◌≡◌, refl, ap, sym, subst, ◌∙◌}
use mathlib.Core.Bool.{Bool, true, false}
use mathlib.Core.Logic.{◌⊎◌, inl, inr, ⊎_elim}
use native.Mathlib.Omega.{arith}
use native.Mathlib.Nat.{pow-suc}
use lib.Dec.{T, eqb}
use lib.IntN.{ℤ, pos, negsuc, neg_ℤ, nat_abs, ◌+ℤ◌, ◌-ℤ◌}
use lib.Signed.{◌≤ℤ◌, ◌<ℤ◌, le_z}
use borrow.Author.Tests.{eq-eqb, ne_eqb}
use Rattle.base.proofs.Numbers.{nat_le_or_lt}
use Rattle.definitions.specs.Limits.{span_limit, top_trial, lowest_trial, most_trials}
use Rattle.definitions.specs.Bisection.{Brackets, Bracket, opening, half_up, middle, next, width, Halved, counted, halve, halved, trials_optimal}
use Rattle.definitions.proofs.Whole.{up, down, whole, lt_read, plus_read, minus_read, neg_read, abs_read, parts, le_or_lt}

-- ---- the middle

-- Twice the half is the number, or one more.
pub record Half (z h : ℤ) : Type 0 where
  pub least : up z + 2 * down h ≤ 2 * up h + down z
  pub most : 2 * up h + down z ≤ up z + 1 + 2 * down h

pub half_up_is : (z : ℤ) → Half z (half_up z)
unfolding half_up
half_up_is (pos k) = record { least = omega arith; most = omega arith }
half_up_is (negsuc k) = record {
  least = omega (arith, neg_read (pos (suc k / 2)));
  most = omega (arith, neg_read (pos (suc k / 2)));
}

-- The width is high − low.
pub width_is : (b : Bracket) → b.low ≤ℤ b.high → width b + (up b.low + down b.high) ≡ up b.high + down b.low
unfolding width
width_is b h =
    ⊎_elim
    (λ (e : up (b.high -ℤ b.low) ≡ 0). omega (whole, minus_read b.high b.low, abs_read (b.high -ℤ b.low)))
    (λ (e : down (b.high -ℤ b.low) ≡ 0). omega (whole, minus_read b.high b.low, abs_read (b.high -ℤ b.low)))
    (parts (b.high -ℤ b.low))

pub ordered : {b : Bracket} {s : ℤ} → Brackets b s → b.low ≤ℤ b.high
ordered {b} {s} h = omega (whole, h.above, h.within)

-- A bracket of width 1 has the least span as its high.
pub narrow_high : (b : Bracket) (s : ℤ) → Brackets b s → width b ≡ 1 → b.high ≡ s
narrow_high b s h e = omega (whole, h.above, h.within, width_is b (ordered h))

-- What a halving does to a bracket wider than 1: the least span stays inside, and the width is at most halved up.
pub record Narrower (b c : Bracket) : Type 0 where
  pub positive : 0 < width c
  pub half : 2 * width c ≤ width b + 1

pub next_brackets : (b : Bracket) (s : ℤ) → Brackets b s → Brackets (next b (le_z s (middle b))) s
unfolding next
next_brackets b s h = go (le_z s (middle b)) refl
  where
    go : (t : Bool) → le_z s (middle b) ≡ t → Brackets (next b t) s
    go true e = record { above = h.above; within = record { le = subst T (sym e) tt } }
    go false e = record { above = ⊎_elim (λ k. absurd (subst T e k.le)) (λ k. k) (le_or_lt s (middle b)); within = h.within }

-- The middle lies strictly inside a bracket wider than 1, half the width above low, rounded up.
pub record Inside (b : Bracket) (m : ℤ) : Type 0 where
  pub above : b.low <ℤ m
  pub below : m <ℤ b.high
  pub low_half : 2 * (up m + down b.low) ≤ 2 * (up b.low + down m) + (width b + 1)
  pub high_half : 2 * (up b.high + down m) ≤ 2 * (up m + down b.high) + width b

pub middle_inside : (b : Bracket) → b.low ≤ℤ b.high → 1 < width b → Inside b (middle b)
unfolding middle
middle_inside b h wide =
    let r : Half (b.high +ℤ b.low) (half_up (b.high +ℤ b.low)) = half_up_is (b.high +ℤ b.low) in
    omega (whole, r.least, r.most, plus_read b.high b.low, width_is b h)

pub next_narrower : (b : Bracket) → b.low ≤ℤ b.high → 1 < width b → (t : Bool) → Narrower b (next b t)
unfolding next
next_narrower b h wide true =
    let i : Inside b (middle b) = middle_inside b h wide in
    let c : Bracket = record { low = b.low; high = middle b } in
    omega (arith, lt_read i.above, width_is c (omega (whole, i.above)))
next_narrower b h wide false =
    let i : Inside b (middle b) = middle_inside b h wide in
    let c : Bracket = record { low = middle b; high = b.high } in
    omega (arith, lt_read i.below, width_is c (omega (whole, i.below)))

-- A bracket around a least span is at least 1 wide.
pub width_positive : (b : Bracket) (s : ℤ) → Brackets b s → 0 < width b
width_positive b s h = omega (whole, h.above, h.within, width_is b (ordered h))

-- ---- the halving

-- The test by which a least span decides.
abbrev pub reaches : ℤ → ℤ → Bool
reaches s t = le_z s t

abbrev pub following : Bracket → ℤ → Bracket
following b s = next b (reaches s (middle b))

-- A bracket of width 1 is not halved.
halve_stop : (turns : ℕ) (possible : ℤ → Bool) (b : Bracket) → width b ≡ 1 → halve turns possible b ≡ record { least = b.high; halvings = 0 }
unfolding halve
halve_stop zero possible b e = refl
halve_stop (suc turns) possible b e = rw (eq-eqb (width b) 1 e, halve)

-- A wider one is halved once, and then on.
halve_on :
    (turns : ℕ) (possible : ℤ → Bool) (b : Bracket) → 1 < width b
    → halve (suc turns) possible b ≡ counted (halve turns possible (next b (possible (middle b))))
unfolding halve
halve_on turns possible b w = rw (ne_eqb (width b) 1 (λ e. omega arith), halve)

-- One wide, or wider.
one_or_wider : (b : Bracket) (s : ℤ) → Brackets b s → (width b ≡ 1) ⊎ (1 < width b)
one_or_wider b s h = ⊎_elim (λ (w : width b ≤ 1). inl (omega (arith, width_positive b s h))) inr (nat_le_or_lt (width b) 1)

narrowed : (b : Bracket) (s : ℤ) → Brackets b s → 1 < width b → 2 * width (following b s) ≤ width b + 1
narrowed b s h w = (next_narrower b (ordered h) w (reaches s (middle b))).half

-- Turns beyond the width change nothing.
halve_enough : (turns : ℕ) (b : Bracket) (s : ℤ) → Brackets b s → width b ≤ suc turns → halve (suc turns) (reaches s) b ≡ halve turns (reaches s) b
halve_enough zero b s h w =
    let e : width b ≡ 1 = omega (arith, width_positive b s h) in
    halve_stop 1 (reaches s) b e ∙ sym (halve_stop 0 (reaches s) b e)
halve_enough (suc turns) b s h w = ⊎_elim
    (λ e. halve_stop (suc (suc turns)) (reaches s) b e ∙ sym (halve_stop (suc turns) (reaches s) b e))
    (λ n. halve_on (suc turns) (reaches s) b n
    ∙ ap counted (halve_enough turns (following b s) s (next_brackets b s h) (omega (arith, narrowed b s h n)))
    ∙ sym (halve_on turns (reaches s) b n))
    (one_or_wider b s h)

halve_any : (more turns : ℕ) (b : Bracket) (s : ℤ) → Brackets b s → width b ≤ suc turns → halve (turns + more) (reaches s) b ≡ halve turns (reaches s) b
halve_any zero turns b s h w = let e : turns + 0 ≡ turns = omega arith in ap (λ (k : ℕ). halve k (reaches s) b) e
halve_any (suc more) turns b s h w =
    let e : turns + suc more ≡ suc (turns + more) = omega arith in
    ap (λ (k : ℕ). halve k (reaches s) b) e ∙ halve_enough (turns + more) b s h (omega arith) ∙ halve_any more turns b s h w

-- ---- the laws

-- A bracket of width 1: high is the least span, no halving.
pub halved_stop : (b : Bracket) (s : ℤ) → width b ≡ 1 → halved b s ≡ record { least = b.high; halvings = 0 }
unfolding halved
halved_stop b s e = halve_stop (width b) (reaches s) b e

-- A wider bracket: one halving, then those of the next bracket.
pub halved_on : (b : Bracket) (s : ℤ) → Brackets b s → 1 < width b → halved b s ≡ counted (halved (following b s) s)
unfolding halved
halved_on b s h w =
    let n : ℕ = width (following b s) in
    let k : ℕ = width b - suc n in
    let e : width b ≡ suc (n + k) = omega (arith, narrowed b s h w, width_positive (following b s) s (next_brackets b s h)) in
    ap (λ (i : ℕ). halve i (reaches s) b) e
    ∙ halve_on (n + k) (reaches s) b w
    ∙ ap counted (halve_any k n (following b s) s (next_brackets b s h) (omega arith))

-- The halvings end at the least span, and a bracket at most 2 ^ k wide takes at most k of them.
pub record Ends (b : Bracket) (s : ℤ) (k : ℕ) : Type 0 where
  pub least : (halved b s).least ≡ s
  pub few : (halved b s).halvings ≤ k

-- One halving more, one bracket back.
ends_on : (k : ℕ) (b : Bracket) (s : ℤ) → halved b s ≡ counted (halved (following b s) s) → Ends (following b s) s k → Ends b s (suc k)
unfolding counted
ends_on k b s e ih = record { least = ap (λ (r : Halved). r.least) e ∙ ih.least; few = rw e (omega (arith, ih.few)) }

ends_stop : (k : ℕ) (b : Bracket) (s : ℤ) → Brackets b s → width b ≡ 1 → Ends b s k
ends_stop k b s h e =
    record { least = ap (λ (r : Halved). r.least) (halved_stop b s e) ∙ narrow_high b s h e; few = rw (halved_stop b s e) (omega arith) }

pub halved_ends : (k : ℕ) (b : Bracket) (s : ℤ) → Brackets b s → width b ≤ 2 ^ k → Ends b s k
halved_ends zero b s h w = ends_stop 0 b s h (omega (arith, width_positive b s h))
halved_ends (suc k) b s h w = ⊎_elim
    (λ e. ends_stop (suc k) b s h e)
    (λ (n : 1 < width b).
    ends_on k b s (halved_on b s h n) (halved_ends k (following b s) s (next_brackets b s h) (omega (arith, narrowed b s h n, pow-suc 2 k))))
    (one_or_wider b s h)

-- The bracket after so many halvings.
unfoldable pub after : ℕ → ℤ → Bracket → Bracket
after zero s b = b
after (suc count) s b = after count s (following b s)

-- "It stops when high − low is 1, and high is the least span": so it is after the halvings that are counted.
pub record Stops (b : Bracket) (s : ℤ) : Type 0 where
  pub narrow : width (after (halved b s).halvings s b) ≡ 1
  pub least : (after (halved b s).halvings s b).high ≡ s

stops_narrow : (b : Bracket) (s : ℤ) → Brackets b s → width b ≡ 1 → Stops b s
unfolding after
stops_narrow b s h e =
    let z : (halved b s).halvings ≡ 0 = ap (λ (r : Halved). r.halvings) (halved_stop b s e) in
    record { narrow = rw z e; least = rw z (narrow_high b s h e) }

stops_on : (b : Bracket) (s : ℤ) → halved b s ≡ counted (halved (following b s) s) → Stops (following b s) s → Stops b s
unfolding after counted
stops_on b s e r =
    let z : (halved b s).halvings ≡ suc (halved (following b s) s).halvings = ap (λ (x : Halved). x.halvings) e in
    record { narrow = rw z r.narrow; least = rw z r.least }

pub halved_stops : (k : ℕ) (b : Bracket) (s : ℤ) → Brackets b s → width b ≤ 2 ^ k → Stops b s
halved_stops zero b s h w = stops_narrow b s h (omega (arith, width_positive b s h))
halved_stops (suc k) b s h w = ⊎_elim
    (λ e. stops_narrow b s h e)
    (λ (n : 1 < width b).
    stops_on b s (halved_on b s h n) (halved_stops k (following b s) s (next_brackets b s h) (omega (arith, narrowed b s h n, pow-suc 2 k))))
    (one_or_wider b s h)

-- ---- document 01's bracket

-- A least span within the span field's limits lies in the opening bracket.
pub opening_brackets : (s : ℤ) → nat_abs s ≤ span_limit → Brackets opening s
unfolding opening
opening_brackets s h = omega (whole, abs_read s)

-- The bisection from the two outer trials ends at the least span after at most 22 halvings: all trials but these two.
pub bisection_ends : (s : ℤ) → nat_abs s ≤ span_limit → Ends opening s (most_trials - 2)
unfolding opening width
bisection_ends s h = halved_ends (most_trials - 2) opening s (opening_brackets s h) (omega arith)

-- There the bracket is one wide, with the least span as its high.
pub bisection_stops : (s : ℤ) → nat_abs s ≤ span_limit → Stops opening s
unfolding opening width
bisection_stops s h = halved_stops (most_trials - 2) opening s (opening_brackets s h) (omega arith)

-- Never above 24 trials.
pub few_trials : (s : ℤ) → nat_abs s ≤ span_limit → trials_optimal s ≤ most_trials
unfolding trials_optimal
few_trials s h = omega (arith, (bisection_ends s h).few)

-- ---- facts that pin the definition

-- The first middle is 0.
pub first_middle : middle opening ≡ pos 0
unfolding middle opening half_up
first_middle = refl

-- Least −1,290,240 takes as many trials as any, 24,
pub lowest_trials : (trials_optimal (negsuc (span_limit - 1)) ≡ 24) × (most_trials ≡ 24)
unfolding trials_optimal halved halve counted next middle half_up width opening
lowest_trials = (refl, refl)

-- and 23 if middles were rounded down: half of a whole number, rounded down, and the halvings by it.
half_down : ℤ → ℤ
half_down (pos k) = pos (k / 2)
half_down (negsuc k) = neg_ℤ (pos ((k + 2) / 2))

halvings_down : ℕ → ℤ → ℤ → ℤ → ℕ
halvings_down zero s low high = 0
halvings_down (suc turns) s low high =
    elim (eqb (nat_abs (high -ℤ low)) 1) [
      | true ↦ 0
      | false ↦ suc (elim (le_z s (half_down (high +ℤ low)))
          [ true ↦ halvings_down turns s low (half_down (high +ℤ low)) | false ↦ halvings_down turns s (half_down (high +ℤ low)) high ])
    ]

lowest_trials_down : 2 + halvings_down 30 (negsuc (span_limit - 1)) lowest_trial top_trial ≡ 23
unfolding halvings_down half_down
lowest_trials_down = refl
