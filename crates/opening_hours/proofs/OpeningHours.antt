-- Request 2.8 as a theorem: for every week list and every whole minute there is exactly one answer, and it is as promised.
use Prim.Native.Nat.{ℕ, zero, suc, ◌+◌, ◌-◌, ◌%◌, ◌≤◌, ◌<◌}
use mathlib.Core.Path.{◌≡◌, refl, ap, sym, subst, ◌∙◌}
use mathlib.Core.Logic.{◌⊎◌, inl, inr, ⊎_elim, ◌↔◌}
use mathlib.Core.List.{List, []}
use native.Mathlib.Omega.{arith}
use lib.ListN.{length}
use lib.IntN.{ℤ, pos, nat_abs, ◌+ℤ◌}
use lib.Signed.{◌≤ℤ◌, ◌<ℤ◌}
use Rattle.base.proofs.Numbers.{nat_le_or_lt}
use Rattle.definitions.specs.Limits.{week_minutes, most_windows, minute_limit}
use Rattle.definitions.specs.Week.{windows, opening, closing, InWindow, minute_of_week, Open, FirstOpen, BadWeek, odd, too_many_windows, closing_not_after_opening, TurnedAway, bad_week, minute_beyond, week_refusal, Admission, open_at, never, refused, Admits, turned_away, never_open, opens, Promised, OneAdmission, OpeningHours}
use Rattle.definitions.proofs.Whole.{whole, plus_read, abs_read, abs_show, le_or_lt}
use Rattle.definitions.proofs.Week.{minute_below, minute_ahead, every_week, first_open_unique}
use Rattle.opening_hours.specs.Lookup.{Asked, FirstFrom}
use Rattle.opening_hours.proofs.Lists.{Fits, good_fits, fits_good, FitsTo, fits_none, fits_more, fits_all, starts_early, closes_late, ShutTo, shut_none, shut_more, found_window, found_next_week}
use Rattle.opening_hours.proofs.Minutes.{first_of_all, no_list}

-- ---- the answer is less than a week away

-- Some minute of the week ahead stands where the first window opens.
opens_ahead : {week : List ℕ} (z : ℤ) → Fits week → 0 < windows week → Open week (z +ℤ pos ((opening week 0 + week_minutes - minute_of_week z) % week_minutes))
opens_ahead {week} z f h =
    let after : opening week 0 < closing week 0 = f.closes_after 0 h in
    let within : closing week 0 ≤ week_minutes = f.closes_within 0 h in
    let m : minute_of_week z < week_minutes = minute_below z in
    let e : (minute_of_week z + (opening week 0 + week_minutes - minute_of_week z) % week_minutes) % week_minutes ≡ opening week 0 = omega arith in
    subst (InWindow week) (sym (minute_ahead z _ ∙ e)) (record { window = 0; listed = h; opened = omega arith; not_closed = after })

pub less_than_a_week : {week : List ℕ} {z a : ℤ} → (BadWeek week → ⊥) → FirstOpen week z a → a <ℤ (z +ℤ pos week_minutes)
less_than_a_week {week} {z} {a} good f =
    let some : 0 < windows week = omega (arith, f.is_open.listed) in
    let d : ℕ = (opening week 0 + week_minutes - minute_of_week z) % week_minutes in
    ⊎_elim
    (λ (h : (z +ℤ pos week_minutes) ≤ℤ a). absurd (f.shut_before (z +ℤ pos d)
    (omega (whole, plus_read z (pos d)))
    (omega (whole, plus_read z (pos d), plus_read z (pos week_minutes), h))
    (opens_ahead z (good_fits good) some)))
    (λ (h : a <ℤ (z +ℤ pos week_minutes)). h)
    (le_or_lt (z +ℤ pos week_minutes) a)

-- ---- there is one answer at most

-- An empty list has no window.
never_in : {k : ℕ} {week : List ℕ} → week ≡ [] → InWindow week k → ⊥
never_in {week = week} e w = let l : length week ≡ 0 = ap length e in omega (arith, w.listed)

pub admits_unique : {week : List ℕ} {z : ℤ} {r s : Admission} → Admits week z r → Admits week z s → r ≡ s
admits_unique (turned_away t) (turned_away u) = refl
admits_unique (turned_away t) (never_open n e) = absurd (n t)
admits_unique (turned_away t) (opens n f) = absurd (n t)
admits_unique (never_open n e) (turned_away t) = absurd (n t)
admits_unique (never_open n e) (never_open m d) = refl
admits_unique (never_open n e) (opens m f) = absurd (never_in e f.is_open)
admits_unique (opens n f) (turned_away t) = absurd (n t)
admits_unique (opens n f) (never_open m e) = absurd (never_in e f.is_open)
admits_unique (opens n f) (opens m g) = ap open_at (first_open_unique f g)

-- ---- there is one answer at least

-- Window by window: the list is bad, or it fits.
judged_from : (week : List ℕ) → length week % 2 ≡ 0 → windows week ≤ most_windows → (n i last : ℕ) → n + i ≡ windows week → FitsTo week i last → BadWeek week ⊎ Fits week
judged_from week even few zero i last e f = inr (fits_all f (omega arith) even few)
judged_from week even few (suc n) i last e f = ⊎_elim
    (λ (h : last ≤ opening week i). ⊎_elim
    (λ (k : closing week i ≤ opening week i). inl (closing_not_after_opening i (omega arith) k))
    (λ (k : opening week i < closing week i). ⊎_elim
    (λ (l : closing week i ≤ week_minutes). judged_from week even few n (i + 1) (closing week i) (omega arith) (fits_more f (omega arith) h k l))
    (λ (l : week_minutes < closing week i). inl (closes_late week i (omega arith) l))
    (nat_le_or_lt (closing week i) week_minutes))
    (nat_le_or_lt (closing week i) (opening week i)))
    (λ (h : opening week i < last). inl (starts_early f (omega arith) h))
    (nat_le_or_lt last (opening week i))

judged : (week : List ℕ) → BadWeek week ⊎ Fits week
judged week = ⊎_elim
    (λ (h : length week % 2 ≤ 0). ⊎_elim
    (λ (k : windows week ≤ most_windows). judged_from week (omega arith) k (windows week) 0 0 (omega arith) (fits_none week))
    (λ (k : most_windows < windows week). inl (too_many_windows k))
    (nat_le_or_lt (windows week) most_windows))
    (λ (h : 0 < length week % 2). inl (odd (omega arith)))
    (nat_le_or_lt (length week % 2) 0)

-- Window by window: the first open minute.
record Found (week : List ℕ) (minute : ℕ) : Type 0 where
  k : ℕ
  first : FirstFrom week minute k

found_from : {week : List ℕ} {minute : ℕ} → Asked week minute → (n i : ℕ) → n + i ≡ windows week → ShutTo week minute i → Found week minute
found_from a zero i e s = record { k = _; first = found_next_week a s (omega arith) }
found_from {week} {minute} a (suc n) i e s = ⊎_elim
    (λ (h : closing week i ≤ minute). found_from a n (i + 1) (omega arith) (shut_more s (omega arith) h))
    (λ (h : minute < closing week i). record { k = _; first = found_window a s (omega arith) h })
    (nat_le_or_lt (closing week i) minute)

-- The answer to a good list and a minute within the limit.
answered : (week : List ℕ) (z : ℤ) → Fits week → nat_abs z ≤ minute_limit → OneAdmission week z
answered week z f h = ⊎_elim
    (λ (k : windows week ≤ 0). given never (never_open none (no_list week (omega (arith, f.even)))))
    (λ (k : 0 < windows week).
    let a : Asked week (minute_of_week z) = record { good = fits_good f; some_window = k; minute_small = minute_below z } in
    given _ (opens none (first_of_all z (found_from a (windows week) 0 (omega arith) (shut_none week (minute_of_week z))).first)))
    (nat_le_or_lt (windows week) 0)
  where
    none : TurnedAway week z → ⊥
    none (bad_week b) = fits_good f b
    none (minute_beyond k) = omega arith

    given : (r : Admission) → Admits week z r → OneAdmission week z
    given r g = record { answer = r; admits = g; no_other = λ s k. admits_unique k g }

one_admission : (week : List ℕ) (z : ℤ) → OneAdmission week z
one_admission week z = ⊎_elim
    (λ b. turned (bad_week b))
    (λ f. ⊎_elim (λ (h : nat_abs z ≤ minute_limit). answered week z f h) (λ (h : minute_limit < nat_abs z). turned (minute_beyond h)) (nat_le_or_lt (nat_abs z) minute_limit))
    (judged week)
  where
    turned : TurnedAway week z → OneAdmission week z
    turned t = record { answer = refused week_refusal; admits = turned_away t; no_other = λ r k. admits_unique k (turned_away t) }

-- ---- what is promised of it

-- The three answers are different.
refused_not_open : {k : ℕ} {a : ℤ} → Admission.refused k ≡ open_at a → ⊥
refused_not_open e = let q : ◌≡◌ {A = ℕ} 0 1 = cc in omega arith

never_not_open : {a : ℤ} → never ≡ open_at a → ⊥
never_not_open e = let q : ◌≡◌ {A = ℕ} 0 1 = cc in omega arith

refused_not_never : {k : ℕ} → Admission.refused k ≡ never → ⊥
refused_not_never e = let q : ◌≡◌ {A = ℕ} 0 1 = cc in omega arith

same_minute : {a b : ℤ} → open_at a ≡ open_at b → a ≡ b
same_minute e = cc

-- Of an answer that is no minute.
promised_no_minute :
    {week : List ℕ} {z : ℤ} {r : Admission} → ((a : ℤ) → r ≡ open_at a → ⊥) → ((TurnedAway week z → ⊥) → 0 < windows week → ⊥)
    → (r ≡ never) ↔ ((TurnedAway week z → ⊥) × (week ≡ [])) → (r ≡ refused week_refusal) ↔ TurnedAway week z → Promised week z r
promised_no_minute no-minute no-window never_exactly refused_exactly = record {
  is_open = λ a e. absurd (no-minute a e);
  at_or_after = λ a e. absurd (no-minute a e);
  nothing_between = λ a b e h k w. no-minute a e;
  less_than_a_week = λ a e. absurd (no-minute a e);
  with_any_window = λ n h. absurd (no-window n h);
  never_exactly = never_exactly;
  refused_exactly = refused_exactly;
}

pub promised : {week : List ℕ} {z : ℤ} {r : Admission} → Admits week z r → Promised week z r
promised (turned_away t) = promised_no_minute
    (λ a e. refused_not_open e)
    (λ n h. n t)
    (λ e. absurd (refused_not_never e), λ n. absurd (n.0 t))
    (λ e. t, λ u. refl)
promised {week} (never_open n f) = promised_no_minute
    (λ a e. never_not_open e)
    (λ m h. let l : length week ≡ 0 = ap length f in omega arith)
    (λ e. (n, f), λ m. refl)
    (λ e. absurd (refused_not_never (sym e)), λ t. absurd (n t))
promised {week} {z} (opens {a} n f) = record {
  is_open = λ b e. subst (Open week) (same_minute e) f.is_open;
  at_or_after = λ b e. subst (λ (x : ℤ). z ≤ℤ x) (same_minute e) f.at_or_after;
  nothing_between = λ b c e h k w. f.shut_before c h (subst (λ (x : ℤ). c <ℤ x) (sym (same_minute e)) k) w;
  less_than_a_week = λ b e. subst (λ (x : ℤ). x <ℤ (z +ℤ pos week_minutes)) (same_minute e) (less_than_a_week (λ b. n (bad_week b)) f);
  with_any_window = λ m h. record { minute = a; is = refl };
  never_exactly = (λ e. absurd (never_not_open (sym e)), λ m. absurd (never_in m.1 f.is_open));
  refused_exactly = (λ e. absurd (refused_not_open (sym e)), λ t. absurd (n t));
}

-- The answer may lie beyond ±6,000,000, by less than a week.
pub answer_near : {week : List ℕ} {z a : ℤ} {r : Admission} → Admits week z r → r ≡ open_at a → nat_abs a < minute_limit + week_minutes
answer_near {week} {z} {a} d e =
    let p = promised d in
    let h : nat_abs z ≤ minute_limit = ⊎_elim
    (λ (k : nat_abs z ≤ minute_limit). k)
    (λ (k : minute_limit < nat_abs z). absurd (refused_not_open (sym (p.refused_exactly.1 (minute_beyond k)) ∙ e)))
    (nat_le_or_lt (nat_abs z) minute_limit) in
    let k : nat_abs a ≤ minute_limit + (week_minutes - 1) = abs_show a
    (omega (whole, p.less_than_a_week a e, plus_read z (pos week_minutes), abs_read z))
    (omega (whole, p.at_or_after a e, abs_read z)) in
    omega arith

-- ---- the theorem

pub opening_hours : OpeningHours
opening_hours = record { one_admission = one_admission; promised = λ week z r a. promised a; every_week = every_week }
