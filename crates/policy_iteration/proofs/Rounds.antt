-- Laws of the rounds: a round of the array is a round of the values, and a round that changes nothing ends them.
use Prim.Native.Nat.{ℕ, suc, ◌+◌, ◌*◌, ◌-◌, ◌≤◌, ◌<◌}
use mathlib.Core.Path.{◌≡◌, sym, ap, subst, ◌∙◌}
use mathlib.Core.Bool.{true, false}
use mathlib.Core.Logic.{⊎_elim}
use mathlib.Core.List.{List, []}
use native.Mathlib.Omega.{arith}
use native.Mathlib.Nat.{mul-le-mul_right}
use native.Mathlib.Numerals.{add-one}
use lib.ListN.{get_or, length-map}
use lib.IntN.{pos, sub_ℕ, ◌-ℤ◌}
use Rattle.definitions.proofs.Whole.{whole, minus_read}
use borrow.Author.Tests.{lt-ltb, le-ltb}
use Rattle.base.specs.Filled.{Filled}
use Rattle.base.proofs.Numbers.{nat_le_or_lt}
use Rattle.base.proofs.Filled.{filled_map}
use Rattle.definitions.specs.Limits.{signed_half, lead_limit}
use Rattle.definitions.specs.Tropical.{Trop, fin, plus}
use Rattle.definitions.specs.Offset.{trop_of}
use Rattle.definitions.proofs.Tropical.{largest_ext}
use Rattle.definitions.proofs.Offset.{trop_zero, trop_fin, trop_minus, trop_show, trop_of_injective}
use Rattle.duality.specs.System.{System}
use Rattle.duality.specs.Values.{difference, value_at, exit_by, values_after, values}
use Rattle.duality.proofs.Weights.{difference_bot, exit_picked, exit_terminal, round_picked, round_terminal, values_still}
use Rattle.records.specs.Decoded.{Near}
use Rattle.policy_iteration.specs.Tables.{entry_of, system_of, point_of, pick_of, raised_limit, cap_limit, first_limit, value_limit, low_half, low_fold, side_most, side_least, high, highs, Ranged, Lows, Within, Caps, Tables}
use Rattle.policy_iteration.specs.Rounds.{folded, PickedSum, PickedLeft, PickedSums, PickedLefts, stepped_by, Stepped, Exits, Level, ValuesIs, SameUpTo}
use Rattle.policy_iteration.proofs.Low.{high_zero, high_whole, high_blank, highs_at, highs_size, filled_highs}
use Rattle.policy_iteration.proofs.Fold.{folded_low, folded_high}
use Rattle.policy_iteration.proofs.Small.{near_small, near_abs, small_near, small_more, rounds_small}

-- ---- one variable

pub gap_blank_side : (a : ℕ) → trop_of 0 ≡ difference (trop_of 0) (trop_of a)
unfolding difference
gap_blank_side a = rw trop_zero

pub gap_blank_left : (s : ℕ) → trop_of 0 ≡ difference (trop_of s) (trop_of 0)
gap_blank_left s = rw trop_zero (sym (difference_bot (trop_of s)))

pub gap_whole : (s a : ℕ) → 0 < s → 0 < a → a < s + signed_half → trop_of (s + signed_half - a) ≡ difference (trop_of s) (trop_of a)
unfolding difference
gap_whole s a h k l = rw (trop_minus s a (trop_fin s h) (trop_fin a k) l, trop_fin s h, trop_fin a k)

-- The same on low numbers.
pub given_blank_side : (a : ℕ) → trop_of (high 0) ≡ difference (trop_of (high 0)) (trop_of a)
given_blank_side a = rw high_zero (gap_blank_side a)

pub given_blank_left : (s : ℕ) → trop_of (high 0) ≡ difference (trop_of (high s)) (trop_of 0)
given_blank_left s = rw high_zero (gap_blank_left (high s))

pub given_whole : (s a : ℕ) → side_least ≤ s → 0 < a → a ≤ signed_half + lead_limit
    → trop_of (high (s + signed_half - a)) ≡ difference (trop_of (high s)) (trop_of a)
given_whole s a h k l =
    let e : high s ≡ s + low_half = high_whole s (omega arith) in
    let f : high (s + signed_half - a) ≡ high s + signed_half - a = omega (arith, high_whole (s + signed_half - a) (omega arith)) in
    rw f (gap_whole (high s) a (omega arith) k (omega arith))

-- The number 0.
pub zero_is : trop_of signed_half ≡ fin (pos 0)
zero_is = trop_show signed_half (pos 0) (omega arith) (omega arith)

-- A cap as a number, and less 0.
pub cap_is : (k : ℕ) → 0 < k → trop_of (high k) ≡ fin (sub_ℕ (high k) signed_half)
cap_is k h = trop_fin (high k) (omega (arith, high_whole k h))

less_zero : (k : ℕ) → 0 < k → difference (trop_of (high k)) (trop_of signed_half) ≡ fin (sub_ℕ (high k) signed_half)
unfolding difference
less_zero k h =
    let z : (sub_ℕ (high k) signed_half -ℤ pos 0) ≡ sub_ℕ (high k) signed_half = omega (whole, minus_read (sub_ℕ (high k) signed_half) (pos 0)) in
    rw (cap_is k h, zero_is) (ap fin z)

-- A cap is at least this.
pub cap_least : {width : ℕ} {caps : List ℕ} → Caps width caps → (j : ℕ) → j < width → low_half ≤ get_or caps j 0 + cap_limit
cap_least {caps = caps} c j h = let p = c.whole j h in omega (arith, (c.near j h).lo (omega (arith, high_whole (get_or caps j 0) p)), high_whole (get_or caps j 0) p)

pub cap_most : {width : ℕ} {caps : List ℕ} → Caps width caps → (j : ℕ) → j < width → get_or caps j 0 ≤ low_half + cap_limit
cap_most {caps = caps} c j h = omega (arith, (c.near j h).hi, high_whole (get_or caps j 0) (c.whole j h))

-- The row that a variable picks, or none: what the round makes of it.
round_at : (left right caps x : List ℕ) (width rows i j s l r : ℕ) → 0 < get_or caps j 0 → low_half ≤ get_or caps j 0 + cap_limit → PickedSum right x width rows (get_or caps j 0) i s → PickedLeft left rows i j l
    → trop_of r ≡ difference (trop_of (high (folded s))) (trop_of l) → trop_of r ≡ stepped_by (system_of left right caps width rows) i j (point_of (highs x))
unfolding stepped_by difference
round_at left right caps x width rows i j s l r b c p q e = ⊎_elim
    (λ (t : rows ≤ i).
    let f : folded s ≡ get_or caps j 0 = omega (arith, p.none t, folded_high {limit = low_fold} s (omega (arith, p.none t))) in
    rw (le-ltb i rows t) (e ∙ rw (f, q.none t) (less_zero (get_or caps j 0) b)))
    (λ (t : i < rows). rw (lt-ltb i rows t) (e ∙ rw (q.row t) (ap (λ (z : Trop). difference z (trop_of (get_or left (i * 32 + j) 0))) (p.row t).is)))
    (nat_le_or_lt rows i)

-- Nothing, where both are blank.
round_blank : (r l : ℕ) → trop_of (high r) ≡ difference (trop_of (high (folded 0))) (trop_of l) → r ≡ 0
round_blank r l e =
    let f : high (folded 0) ≡ 0 = ap high (folded_low {limit = low_fold} 0 (omega arith)) ∙ high_zero in
    high_blank r (trop_of_injective (high r) 0 (rw f at e ∙ sym (gap_blank_side l)))

module _ (left right caps picks x : List ℕ) (width rows : ℕ) (t : Tables left right width rows) (g : Caps width caps) (sums lefts : List ℕ)
    (p : PickedSums right caps picks x width rows width sums) (q : PickedLefts left picks rows width lefts) where
  -- The sums, once folded, are sides, and the others are coefficients.
  pub picked_fits : (j : ℕ) → (folded (get_or sums j 0) ≤ side_most) × (0 < folded (get_or sums j 0) → side_least ≤ folded (get_or sums j 0)) × (get_or lefts j 0 ≤ signed_half + lead_limit)
  picked_fits j = ⊎_elim
      (λ (b : width ≤ j).
      let f : folded (get_or sums j 0) ≡ 0 = ap folded (p.rest j b) ∙ folded_low {limit = low_fold} 0 (omega arith) in
      (omega arith, λ z. absurd (omega arith), omega (arith, q.rest j b)))
      (λ (b : j < width). ⊎_elim
      (λ (n : rows ≤ pick_of picks j).
      let e : get_or sums j 0 ≡ signed_half + get_or caps j 0 = (p.each j b).none n in
      let l = cap_least g j b in
      let f : folded (get_or sums j 0) ≡ get_or caps j 0 = omega (arith, folded_high {limit = low_fold} (get_or sums j 0) (omega arith)) in
      (omega (arith, cap_most g j b), λ z. omega arith, omega (arith, (q.each j b).none n)))
      (λ (n : pick_of picks j < rows).
      let s = (p.each j b).row n in
      (s.most, s.least, omega (arith, (q.each j b).row n, (t.lefts.near (pick_of picks j * 32 + j)).hi)))
      (nat_le_or_lt rows (pick_of picks j)))
      (nat_le_or_lt width j)

  -- The array that the loop makes of them is that after a round.
  pub round_end : {n : ℕ} {out : List ℕ} → Filled (λ j v. trop_of (high v) ≡ difference (trop_of (high (folded (get_or sums j 0)))) (trop_of (get_or lefts j 0))) 32 n out
      → n ≤ 32 → 32 ≤ n → Stepped (system_of left right caps width rows) (pick_of picks) (point_of (highs x)) (highs out)
  round_end {n} {out} f h k = filled_highs {xs = out} (record {
    size_is = f.size_is;
    each = λ j b. round_at left right caps x width rows (pick_of picks j) j _ _ _ (g.whole j b) (cap_least g j b) (p.each j b) (q.each j b) (f.each j (omega (arith, t.width_most)));
    rest = λ j b. ⊎_elim
        (λ (m : n ≤ j). f.rest j m)
        (λ (m : j < n). round_blank (get_or out j 0) (get_or lefts j 0) (rw (p.rest j b) at (f.each j m)))
        (nat_le_or_lt n j);
  })

-- The number of an exit.
pub exit_not : (caps : List ℕ) (width j : ℕ) {rows i : ℕ} → i < rows → trop_of (high 0) ≡ exit_by (system_of [] [] caps width rows) i j
exit_not caps width j {rows} {i} t = rw high_zero (trop_zero ∙ sym (exit_picked (system_of [] [] caps width rows) i j t))

pub exit_cap : (caps : List ℕ) (width j : ℕ) {rows i : ℕ} → rows ≤ i → 0 < get_or caps j 0 → trop_of (high (get_or caps j 0)) ≡ exit_by (system_of [] [] caps width rows) i j
exit_cap caps width j {rows} {i} t b = cap_is (get_or caps j 0) b ∙ sym (exit_terminal (system_of [] [] caps width rows) i j t)

-- ---- levels

-- The exits are the values before the first round.
pub level_start : (left right caps picks x : List ℕ) (width rows : ℕ) → Exits (system_of [] [] caps width rows) (pick_of picks) width x
    → Level (system_of left right caps width rows) (pick_of picks) 0 x
unfolding value_at exit_by
level_start left right caps picks x width rows f = filled_map (λ k v h e. e) f

-- What a round makes of the values after i rounds are those after one more.
pub level_more : (left right caps picks x y : List ℕ) (width rows i : ℕ) → Level (system_of left right caps width rows) (pick_of picks) i x
    → Stepped (system_of left right caps width rows) (pick_of picks) (point_of x) y → Level (system_of left right caps width rows) (pick_of picks) (i + 1) y
unfolding stepped_by
level_more left right caps picks x y width rows i f g = rw add-one (filled_map turned g)
  where
    s : System
    s = system_of left right caps width rows

    turned : (j v : ℕ) → j < width → trop_of v ≡ stepped_by (system_of left right caps width rows) (pick_of picks j) j (point_of x)
        → trop_of v ≡ values_after (system_of left right caps width rows) (pick_of picks) (suc i) j
    turned j v h e = ⊎_elim
        (λ (t : rows ≤ pick_of picks j). rw (e, le-ltb (pick_of picks j) rows t) (sym (round_terminal (system_of left right caps width rows) (pick_of picks) (suc i) j t)))
        (λ (t : pick_of picks j < rows).
        rw (e, lt-ltb (pick_of picks j) rows t, round_picked (system_of left right caps width rows) (pick_of picks) i j t)
        (ap (λ (z : Trop). difference z (entry_of left (pick_of picks j) j))
        (largest_ext _ _ width (λ l b. ap (plus (entry_of right (pick_of picks j) l)) (f.each l b)))))
        (nat_le_or_lt rows (pick_of picks j))

-- What is within a limit is within a larger one.
pub within_more : {c d width : ℕ} {x : List ℕ} → c ≤ d → Within c width x → Within d width x
within_more h w = record {
  size = w.size;
  near = λ k. record { hi = omega (arith, (w.near k).hi); lo = λ p. omega (arith, (w.near k).lo p) };
  rest = w.rest;
}

pub within_lows : {d width : ℕ} {x : List ℕ} → d ≤ value_limit → Within d width x → Lows width x
within_lows {d} {width} {x} h w = let v = within_more h w in record {
  size = w.size;
  ranged = record { size = length-map x high ∙ w.size; near = λ k. rw (highs_at x k) (v.near k) };
  rest = w.rest;
}

-- After at most 32 rounds the values are within their limit.
level_near : (left right caps picks x : List ℕ) (width rows i : ℕ) → Tables left right width rows → Caps width caps → i ≤ width
    → Level (system_of left right caps width rows) (pick_of picks) i x → (k : ℕ) → Near first_limit (get_or x k 0)
level_near left right caps picks x width rows i t g h f k = ⊎_elim past inside (nat_le_or_lt width k)
  where
    past : width ≤ k → Near first_limit (get_or x k 0)
    past b = rw (f.rest k b) (record { hi = omega arith; lo = λ p. absurd (omega arith) })

    inside : k < width → Near first_limit (get_or x k 0)
    inside b = small_near first_limit (get_or x k 0) (rw (f.each k b) (small_more
        (omega (arith, t.width_most, mul-le-mul_right (raised_limit + lead_limit) h, mul-le-mul_right (raised_limit + lead_limit) t.width_most))
        (rounds_small (system_of left right caps width rows) lead_limit raised_limit cap_limit
        (λ i j. near_small lead_limit _ (t.lefts.near (i * 32 + j)))
        (λ i j. near_small raised_limit _ (t.rights.near (i * 32 + j)))
        (λ j b. near_abs cap_limit (high (get_or caps j 0)) (omega (arith, high_whole (get_or caps j 0) (g.whole j b), g.whole j b)) (g.near j b))
        (pick_of picks) i k b)))

pub level_ranged : (left right caps picks x : List ℕ) (width rows i : ℕ) → Tables left right width rows → Caps width caps → i ≤ width
    → Level (system_of left right caps width rows) (pick_of picks) i x → Ranged x
level_ranged left right caps picks x width rows i t g h f = record {
  size = f.size_is;
  near = λ k. let n = level_near left right caps picks x width rows i t g h f k in record { hi = omega (arith, n.hi); lo = λ p. omega (arith, n.lo p) };
}

-- The same of an array of low values.
pub level_within : (left right caps picks x : List ℕ) (width rows i : ℕ) → Tables left right width rows → Caps width caps → i ≤ width
    → Level (system_of left right caps width rows) (pick_of picks) i (highs x) → Within first_limit width x
level_within left right caps picks x width rows i t g h f = record {
  size = highs_size x 32 f.size_is;
  near = λ k. rw (highs_at x k) at (level_near left right caps picks (highs x) width rows i t g h f k);
  rest = λ k b. high_blank (get_or x k 0) (sym (highs_at x k) ∙ f.rest k b);
}

pub level_lows : (left right caps picks x : List ℕ) (width rows i : ℕ) → Tables left right width rows → Caps width caps → i ≤ width
    → Level (system_of left right caps width rows) (pick_of picks) i (highs x) → Lows width x
level_lows left right caps picks x width rows i t g h f = within_lows (omega arith) (level_within left right caps picks x width rows i t g h f)

-- A round that changes nothing: these are the values.
pub level_still : (left right caps picks x y : List ℕ) (width rows i : ℕ) → i ≤ width
    → Level (system_of left right caps width rows) (pick_of picks) i x
    → Stepped (system_of left right caps width rows) (pick_of picks) (point_of x) y → SameUpTo width x y
    → ValuesIs (system_of left right caps width rows) (pick_of picks) x
level_still left right caps picks x y width rows i h f g same =
    let m = level_more left right caps picks x y width rows i f g in
    filled_map (λ j v b e. e ∙ sym (values_still (system_of left right caps width rows) (pick_of picks) i h (still m) j b)) f
  where
    still : Level (system_of left right caps width rows) (pick_of picks) (i + 1) y → (j : ℕ) → j < width
        → values_after (system_of left right caps width rows) (pick_of picks) (suc i) j ≡ values_after (system_of left right caps width rows) (pick_of picks) i j
    still m j b = sym ((rw add-one at m).each j b) ∙ ap trop_of (sym (same j b)) ∙ f.each j b

-- As many rounds as variables: these are the values.
pub level_last : (left right caps picks x : List ℕ) (width rows i : ℕ) → i ≤ width → width ≤ i
    → Level (system_of left right caps width rows) (pick_of picks) i x → ValuesIs (system_of left right caps width rows) (pick_of picks) x
unfolding values
level_last left right caps picks x width rows i h k f = let e : i ≡ width = omega arith in subst (λ (z : ℕ). Level (system_of left right caps width rows) (pick_of picks) z x) e f

-- ---- the test of two arrays

-- One place more that is the same, where none was another.
pub same_more : (x y : List ℕ) (n count r : ℕ) → (count ≡ 0 → SameUpTo n x y) → (r ≡ 0 → get_or x n 0 ≡ get_or y n 0) → count + r ≡ 0 → SameUpTo (n + 1) x y
same_more x y n count r s e z j h = ⊎_elim
    (λ (b : n ≤ j). let p : n ≡ j = omega arith in subst (λ (i : ℕ). get_or x i 0 ≡ get_or y i 0) p (e (omega arith)))
    (λ (b : j < n). s (omega arith) j b)
    (nat_le_or_lt n j)

pub same_highs : (n : ℕ) (x y : List ℕ) → SameUpTo n x y → SameUpTo n (highs x) (highs y)
same_highs n x y s j h = highs_at x j ∙ ap high (s j h) ∙ sym (highs_at y j)

pub false_not_true : false ≡ true → ⊥
false_not_true e = let z : ◌≡◌ {A = ℕ} 0 1 = cc in omega arith
