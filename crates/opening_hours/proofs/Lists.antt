-- Week lists: what a good one has, how a run over the windows judges it, and where it finds the first open minute.
use Prim.Native.Nat.{ℕ, max, zero, suc, ◌+◌, ◌-◌, ◌*◌, ◌%◌, ◌≤◌, ◌<◌}
use mathlib.Core.Path.{◌≡◌, refl, ap, sym, subst, ◌∙◌}
use mathlib.Core.Logic.{◌⊎◌, inl, inr, ⊎_elim}
use mathlib.Core.List.{List, []}
use native.Mathlib.Omega.{arith}
use lib.ListN.{length, get_or, take, drop}
use Rattle.std.proofs.Common.{get_or-take, get_or-drop}
use Rattle.std.proofs.lemmas.List.{drop-drop}
use Rattle.std.specs.Simd.{first_chunks}
use Rattle.base.proofs.Numbers.{nat_le_or_lt}
use Rattle.definitions.specs.Limits.{week_minutes, most_windows}
use Rattle.definitions.specs.Week.{windows, opening, closing, InWindow, BadWeek, odd, too_many_windows, closing_not_after_opening, opening_outside, closing_outside, starts_before_last_closes}
use Rattle.opening_hours.specs.Lookup.{Asked, FirstFrom}

-- ---- numbers

-- What holds below i and at i holds below i + 1.
below_one_more : {i : ℕ} (P : ℕ → Type 0) → ((j : ℕ) → j < i → P j) → P i → (j : ℕ) → j < i + 1 → P j
below_one_more {i} P f p j h = ⊎_elim
    (λ (l : i ≤ j). let e : i ≡ j = omega arith in subst P e p)
    (λ (l : j < i). f j l)
    (nat_le_or_lt i j)

-- At most, where the other way round is ruled out.
unless_less : (a b : ℕ) → (b < a → ⊥) → a ≤ b
unless_less a b never = ⊎_elim (λ (h : a ≤ b). h) (λ (h : b < a). absurd (never h)) (nat_le_or_lt a b)

-- A minute of this week, and one of the next, as minutes of their week.
small_remainder : (k : ℕ) → k < week_minutes → k ≡ k % week_minutes
small_remainder k h = omega arith

next_remainder : (k : ℕ) → k < week_minutes → k ≡ (week_minutes + k) % week_minutes
next_remainder k h = omega arith

-- ---- the pairs of a list

-- Pair i has the numbers at 2i and 2i + 1,
pair_at : (n i : ℕ) (week : List ℕ) → i < n → get_or (first_chunks 2 n week) i [] ≡ take 2 (drop (2 * i) week)
pair_at zero i week h = absurd (omega arith)
pair_at (suc n) zero week h = refl
pair_at (suc n) (suc i) week h =
    let e : 2 + 2 * i ≡ 2 * suc i = omega arith in
    pair_at n i (drop 2 week) (omega arith) ∙ ap (take 2) (drop-drop (2 * i) 2 week) ∙ ap (λ (k : ℕ). take 2 (drop k week)) e

-- the opening and the closing minute of window i.
pub record Pair (week pair : List ℕ) (i : ℕ) : Type 0 where
  pub opens : get_or pair 0 0 ≡ opening week i
  pub closes : get_or pair 1 0 ≡ closing week i

pub pair_is : (week : List ℕ) (i : ℕ) {pairs : List (List ℕ)} → pairs ≡ first_chunks 2 (windows week) week → i < windows week → Pair week (get_or pairs i []) i
pair_is week i e h =
    let p = ap (λ (t : List (List ℕ)). get_or t i []) e ∙ pair_at (windows week) i week h in
    let zero : 2 * i + 0 ≡ 2 * i = omega arith in
    record {
      opens = ap (λ (t : List ℕ). get_or t 0 0) p ∙ get_or-take 2 (drop (2 * i) week) 0 0 (omega arith) ∙ get_or-drop (2 * i) week 0 0 ∙ ap (λ (k : ℕ). get_or week k 0) zero;
      closes = ap (λ (t : List ℕ). get_or t 1 0) p ∙ get_or-take 2 (drop (2 * i) week) 1 0 (omega arith) ∙ get_or-drop (2 * i) week 1 0;
    }

-- ---- a good list

-- Every window is open for a minute or more and closes within the week, and each starts where the last one closed or later.
pub record Fits (week : List ℕ) : Type 0 where
  pub even : length week ≡ 2 * windows week
  pub few : windows week ≤ most_windows
  pub closes_after : (i : ℕ) → i < windows week → opening week i < closing week i
  pub closes_within : (i : ℕ) → i < windows week → closing week i ≤ week_minutes
  pub in_order : (i : ℕ) → suc i < windows week → closing week i ≤ opening week (suc i)

-- Refusal 19 has nothing against such a list,
pub fits_good : {week : List ℕ} → Fits week → BadWeek week → ⊥
fits_good f (odd e) = omega arith
fits_good f (too_many_windows h) = omega arith
fits_good f (closing_not_after_opening i h k) = omega (arith, f.closes_after i h)
fits_good f (opening_outside i h k) = omega (arith, f.closes_after i h, f.closes_within i h)
fits_good f (closing_outside i h (inl k)) = omega (arith, f.closes_after i h)
fits_good f (closing_outside i h (inr k)) = omega (arith, f.closes_within i h)
fits_good f (starts_before_last_closes i h k) = omega (arith, f.in_order i h)

-- and against any other it has something.
pub good_fits : {week : List ℕ} → (BadWeek week → ⊥) → Fits week
good_fits {week} good = record {
  even = omega (arith, unless_less (length week) (2 * windows week) (λ h. good (odd (omega arith))));
  few = unless_less (windows week) most_windows (λ h. good (too_many_windows h));
  closes_after = λ i l. omega (arith, unless_less (opening week i + 1) (closing week i) (λ h. good (closing_not_after_opening i l (omega arith))));
  closes_within = λ i l. unless_less (closing week i) week_minutes (λ h. good (closing_outside i l (inr h)));
  in_order = λ i l. unless_less (closing week i) (opening week (suc i)) (λ h. good (starts_before_last_closes i l h));
}

-- Its first window opens within the week.
pub first_opening : {week : List ℕ} {minute : ℕ} → Asked week minute → opening week 0 < week_minutes
first_opening a = let f = good_fits a.good in omega (arith, f.closes_after 0 a.some_window, f.closes_within 0 a.some_window)

-- A later window starts where an earlier one closed, or later.
ascends : {week : List ℕ} → Fits week → (i d : ℕ) → i + suc d < windows week → closing week i ≤ opening week (i + suc d)
ascends {week} f i zero h =
    let e : suc i ≡ i + 1 = omega arith in
    subst (λ (k : ℕ). closing week i ≤ opening week k) e (f.in_order i (omega arith))
ascends {week} f i (suc d) h =
    let e : suc (i + suc d) ≡ i + suc (suc d) = omega arith in
    subst (λ (k : ℕ). closing week i ≤ opening week k) e
    (omega (arith, ascends f i d (omega arith), f.closes_after (i + suc d) (omega arith), f.in_order (i + suc d) (omega arith)))

later_starts : {week : List ℕ} → Fits week → (i j : ℕ) → i < j → j < windows week → closing week i ≤ opening week j
later_starts {week} f i j h k =
    let e : i + suc (j - suc i) ≡ j = omega arith in
    subst (λ (x : ℕ). closing week i ≤ opening week x) e (ascends f i (j - suc i) (omega arith))

-- ---- the list judged window by window

-- The first i windows fit, and the last of them closes at `last`, which is 0 before the first.
pub record FitsTo (week : List ℕ) (i last : ℕ) : Type 0 where
  pub within : i ≤ windows week
  pub closes_after : (j : ℕ) → j < i → opening week j < closing week j
  pub closes_within : (j : ℕ) → j < i → closing week j ≤ week_minutes
  pub in_order : (j : ℕ) → suc j < i → closing week j ≤ opening week (suc j)
  pub last_of_none : i ≡ 0 → last ≡ 0
  pub last_is : (j : ℕ) → i ≡ suc j → last ≡ closing week j

-- No window was looked at.
pub fits_none : (week : List ℕ) → FitsTo week 0 0
fits_none week = record {
  within = omega arith;
  closes_after = λ j h. absurd (omega arith);
  closes_within = λ j h. absurd (omega arith);
  in_order = λ j h. absurd (omega arith);
  last_of_none = λ e. refl;
  last_is = λ j e. absurd (omega arith);
}

-- One window more fits.
pub fits_more : {week : List ℕ} {i last : ℕ} → FitsTo week i last → i < windows week → last ≤ opening week i
    → opening week i < closing week i → closing week i ≤ week_minutes → FitsTo week (i + 1) (closing week i)
fits_more {week} {i} {last} f h starts closes within = record {
  within = omega arith;
  closes_after = λ j k. below_one_more (λ x. opening week x < closing week x) f.closes_after closes j k;
  closes_within = λ j k. below_one_more (λ x. closing week x ≤ week_minutes) f.closes_within within j k;
  in_order = λ j k. ⊎_elim
      (λ (l : i ≤ suc j).
      let e : i ≡ suc j = omega arith in
      let q : last ≡ closing week j = f.last_is j e in
      subst (λ (x : ℕ). closing week j ≤ opening week x) e (omega arith))
      (λ (l : suc j < i). f.in_order j l)
      (nat_le_or_lt i (suc j));
  last_of_none = λ e. absurd (omega arith);
  last_is = λ j e. let q : i ≡ j = omega arith in ap (closing week) q;
}

-- A window that starts before the last one closes has one before it.
pub starts_early : {week : List ℕ} {i last : ℕ} → FitsTo week i last → i < windows week → opening week i < last → BadWeek week
starts_early {week} {i} {last} f h k = go i refl
  where
    go : (x : ℕ) → i ≡ x → BadWeek week
    go zero e = absurd (omega (arith, f.last_of_none e))
    go (suc j) e =
        let k' : opening week (suc j) < last = subst (λ (x : ℕ). opening week x < last) e k in
        starts_before_last_closes j (omega arith) (omega (arith, f.last_is j e))

-- A window that closes after the week's end.
pub closes_late : (week : List ℕ) (i : ℕ) → i < windows week → week_minutes < closing week i → BadWeek week
closes_late week i h k = closing_outside i h (inr k)

-- A window that doesn't fit behind those before it.
pub window_bad : {week : List ℕ} {i last : ℕ} → FitsTo week i last → i < windows week
    → (opening week i < last) ⊎ (((last ≤ opening week i) × (closing week i ≤ opening week i)) ⊎ ((last ≤ opening week i) × (opening week i < closing week i) × (week_minutes < closing week i))) → BadWeek week
window_bad {week} {i} f h s = ⊎_elim (starts_early f h) (λ t. ⊎_elim (λ p. closing_not_after_opening i h p.1) (λ p. closes_late week i h p.2) t) s

-- All windows were looked at.
pub fits_all : {week : List ℕ} {i last : ℕ} → FitsTo week i last → windows week ≤ i → length week % 2 ≡ 0 → windows week ≤ most_windows → Fits week
fits_all {week} {i} f h even few =
    let e : i ≡ windows week = omega (arith, f.within) in record {
      even = omega arith;
      few = few;
      closes_after = λ j k. f.closes_after j (omega arith);
      closes_within = λ j k. f.closes_within j (omega arith);
      in_order = λ j k. f.in_order j (omega arith);
    }

-- ---- the first open minute found window by window

-- The first i windows are closed at a minute.
pub record ShutTo (week : List ℕ) (minute i : ℕ) : Type 0 where
  pub within : i ≤ windows week
  pub closed : (j : ℕ) → j < i → closing week j ≤ minute

-- No window was looked at.
pub shut_none : (week : List ℕ) (minute : ℕ) → ShutTo week minute 0
shut_none week minute = record { within = omega arith; closed = λ j h. absurd (omega arith) }

-- One window more is closed.
pub shut_more : {week : List ℕ} {minute i : ℕ} → ShutTo week minute i → i < windows week → closing week i ≤ minute → ShutTo week minute (i + 1)
shut_more {week} {minute} s h k = record { within = omega arith; closed = below_one_more (λ x. closing week x ≤ minute) s.closed k }

-- Minutes of this week from `minute` up to the opening of window i are shut, where the windows before i are closed.
shut_until : {week : List ℕ} {minute i : ℕ} → Fits week → ShutTo week minute i → i < windows week → (k : ℕ) → minute ≤ k → k < opening week i → InWindow week k → ⊥
shut_until {week} {minute} {i} f shut h k l r w = ⊎_elim
    (λ (g : i ≤ w.window). ⊎_elim
    (λ (q : w.window ≤ i).
    let e : w.window ≡ i = omega arith in
    let o : opening week i ≤ k = subst (λ (x : ℕ). opening week x ≤ k) e w.opened in
    omega arith)
    (λ (q : i < w.window). omega (arith, later_starts f i w.window q w.listed, f.closes_after i h, w.opened))
    (nat_le_or_lt w.window i))
    (λ (g : w.window < i). omega (arith, shut.closed w.window g, w.not_closed))
    (nat_le_or_lt i w.window)

-- The first window that closes after the minute: it is open at the minute, or opens later in this week.
pub found_window : {week : List ℕ} {minute i : ℕ} → Asked week minute → ShutTo week minute i → i < windows week → minute < closing week i → FirstFrom week minute (max minute (opening week i))
found_window {week} {minute} {i} a shut h c =
    let f = good_fits a.good in
    let after : opening week i < closing week i = f.closes_after i h in
    let within : closing week i ≤ week_minutes = f.closes_within i h in record {
      at_or_after = omega arith;
      is_open = subst (InWindow week) (small_remainder (max minute (opening week i)) (omega arith)) (record { window = i; listed = h; opened = omega arith; not_closed = omega arith });
      shut_before = λ j l k w. shut_until f shut h j l (omega arith) (subst (InWindow week) (sym (small_remainder j (omega arith))) w);
      near = omega (arith, a.minute_small);
    }

-- All windows of this week are closed: the first of the next.
pub found_next_week : {week : List ℕ} {minute i : ℕ} → Asked week minute → ShutTo week minute i → windows week ≤ i → FirstFrom week minute (week_minutes + opening week 0)
found_next_week {week} {minute} {i} a shut h =
    let f = good_fits a.good in
    let after : opening week 0 < closing week 0 = f.closes_after 0 a.some_window in
    let within : closing week 0 ≤ week_minutes = f.closes_within 0 a.some_window in
    let closed : closing week 0 ≤ minute = shut.closed 0 (omega (arith, a.some_window)) in record {
      at_or_after = omega (arith, a.minute_small);
      is_open = subst (InWindow week) (next_remainder (opening week 0) (omega arith)) (record { window = 0; listed = a.some_window; opened = omega arith; not_closed = after });
      shut_before = λ j l k w. ⊎_elim
          (λ (g : week_minutes ≤ j).
          let e : j % week_minutes ≡ j - week_minutes = omega arith in
          let v : InWindow week (j - week_minutes) = subst (InWindow week) e w in
          shut_until f (shut_none week 0) a.some_window (j - week_minutes) (omega arith) (omega arith) v)
          (λ (g : j < week_minutes).
          let v : InWindow week j = subst (InWindow week) (sym (small_remainder j g)) w in
          omega (arith, shut.closed v.window (omega (arith, v.listed)), v.not_closed))
          (nat_le_or_lt week_minutes j);
      near = omega arith;
    }
