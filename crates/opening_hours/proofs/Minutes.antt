-- Minutes as offset numbers, their minutes of the week, and how the first open minute of a week is that of all weeks.
use Prim.Native.Nat.{ℕ, suc, ◌+◌, ◌-◌, ◌%◌, ◌≤◌, ◌<◌}
use mathlib.Core.Path.{◌≡◌, refl, ap, sym, subst, ◌∙◌}
use mathlib.Core.Bool.{Bool, true, false, and-eq-true_iff}
use mathlib.Core.Logic.{⊎_elim}
use mathlib.Core.List.{List, [], ◌∷◌}
use Rattle.std.specs.Prelude.{Some, None, Ok, Err}
use native.Mathlib.Omega.{arith}
use lib.Dec.{leb}
use lib.ListN.{length}
use lib.IntN.{ℤ, pos, negsuc, nat_abs, ◌+ℤ◌}
use borrow.Author.Tests.{leb-true, le-leb}
use Rattle.base.proofs.Numbers.{nat_le_or_lt}
use Rattle.definitions.specs.Limits.{signed_half, week_minutes, minute_limit}
use Rattle.definitions.specs.Bytes.{whole_within}
use Rattle.definitions.specs.Offset.{trop_of}
use Rattle.definitions.specs.Week.{windows, InWindow, minute_of_week, FirstOpen, BadWeek, TurnedAway, bad_week, minute_beyond, Admits, turned_away, never_open, opens}
use Rattle.definitions.proofs.Whole.{up, down, whole, plus_read, subℕ_read, abs_read, abs_show}
use Rattle.definitions.proofs.Offset.{whole_offset}
use Rattle.definitions.proofs.Week.{minute_ahead, ahead}
use Rattle.records.specs.declared.refusal.Refusal.TheVariants as Refusals
use Rattle.opening_hours.specs.Lookup.{minute_of, admission_of, ListJudged, fits, bad, Asked, FirstFrom}
use Rattle.opening_hours.proofs.Lists.{good_fits}

-- ---- offset numbers

-- A number stands for itself less 2³¹.
pub minute_read : (k : ℕ) → up (minute_of k) + signed_half ≡ k + down (minute_of k)
unfolding minute_of
minute_read k = subℕ_read k signed_half

-- Before the first Monday 0:00, and from there on.
pub minute_before : (k : ℕ) → k < signed_half → minute_of k ≡ negsuc (signed_half - suc k)
minute_before k h = omega (whole, minute_read k)

pub minute_from : (k : ℕ) → signed_half ≤ k → minute_of k ≡ pos (k - signed_half)
minute_from k h = omega (whole, minute_read k)

-- The minute of the week, as it is computed.
pub week_before : (k : ℕ) → k < signed_half → (week_minutes - (signed_half - k) % week_minutes) % week_minutes ≡ minute_of_week (minute_of k)
unfolding minute_of_week
week_before k h = rw (minute_before k h) (omega arith)

pub week_from : (k : ℕ) → signed_half ≤ k → (k - signed_half) % week_minutes ≡ minute_of_week (minute_of k)
unfolding minute_of_week
week_from k h = rw (minute_from k h) refl

-- ---- what is turned away

-- Offset numbers of minutes within ±6,000,000.
pub record WithinLimit (k : ℕ) : Type 0 where
  pub low : signed_half ≤ k + minute_limit
  pub high : k ≤ signed_half + minute_limit

-- The test passes at these alone,
both_tests : (k : ℕ) → whole_within minute_limit (trop_of k) ≡ true → WithinLimit k
both_tests k t =
    let both = (and-eq-true_iff (leb signed_half (k + minute_limit)) (leb k (signed_half + minute_limit))).0 (sym (whole_offset minute_limit k (omega arith)) ∙ t) in
    record { low = leb-true _ _ both.0; high = leb-true _ _ both.1 }

-- and at all of them.
tests_both : (k : ℕ) → WithinLimit k → whole_within minute_limit (trop_of k) ≡ true
tests_both k l = whole_offset minute_limit k (omega arith) ∙ (and-eq-true_iff (leb signed_half (k + minute_limit)) (leb k (signed_half + minute_limit))).1 (le-leb _ _ l.low, le-leb _ _ l.high)

-- None of these is beyond ±6,000,000, and any other is.
pub limit_size : {k : ℕ} → WithinLimit k → nat_abs (minute_of k) ≤ minute_limit
limit_size {k} l = abs_show (minute_of k) (omega (arith, minute_read k)) (omega (arith, minute_read k))

size_limit : (k : ℕ) → nat_abs (minute_of k) ≤ minute_limit → WithinLimit k
size_limit k h = record { low = omega (arith, abs_read (minute_of k), minute_read k); high = omega (arith, abs_read (minute_of k), minute_read k) }

true_not_false : {b : Bool} → b ≡ true → b ≡ false → ⊥
true_not_false e f = let y : ◌≡◌ {A = ℕ} 0 1 = cc in omega arith

beyond_limit : (k : ℕ) → whole_within minute_limit (trop_of k) ≡ false → minute_limit < nat_abs (minute_of k)
beyond_limit k f = ⊎_elim
    (λ (h : nat_abs (minute_of k) ≤ minute_limit). absurd (true_not_false (tests_both k (size_limit k h)) f))
    (λ (h : minute_limit < nat_abs (minute_of k)). h)
    (nat_le_or_lt (nat_abs (minute_of k)) minute_limit)

-- The list is bad.
pub admits_bad_week : {week : List ℕ} (z : ℕ) {r : Bool} → ListJudged week r → r ≡ false → Admits week (minute_of z) (admission_of (Err Refusals.Week))
admits_bad_week z (fits g) e = absurd (true_not_false refl e)
admits_bad_week z (bad b) e = turned_away (bad_week b)

-- The minute is beyond.
pub admits_beyond : {week : List ℕ} (z : ℕ) {r : Bool} → r ≡ whole_within minute_limit (trop_of z) → r ≡ false → Admits week (minute_of z) (admission_of (Err Refusals.Week))
admits_beyond z {r} e t = turned_away (minute_beyond (beyond_limit z (sym e ∙ t)))

-- Neither is turned away.
pub record Taken (week : List ℕ) (z : ℕ) : Type 0 where
  pub good : BadWeek week → ⊥
  pub within : WithinLimit z

pub taken : {week : List ℕ} (z : ℕ) {r s : Bool} → ListJudged week r → r ≡ true → s ≡ whole_within minute_limit (trop_of z) → s ≡ true → Taken week z
taken z (fits g) e q f = record { good = g; within = both_tests z (sym q ∙ f) }
taken z (bad b) e q f = absurd (true_not_false e refl)

-- Refusal 19 does not apply.
none_applies : {week : List ℕ} {z : ℕ} → Taken week z → TurnedAway week (minute_of z) → ⊥
none_applies t (bad_week b) = t.good b
none_applies t (minute_beyond h) = omega (arith, limit_size t.within)

-- ---- from this week's Monday to the minute itself

-- The first open minute counted from this week's Monday 0:00 is the first of all weeks.
pub first_of_all : {week : List ℕ} (z : ℤ) {k : ℕ} → FirstFrom week (minute_of_week z) k → FirstOpen week z (z +ℤ pos (k - minute_of_week z))
first_of_all {week} z {k} f =
    let q : minute_of_week z + (k - minute_of_week z) ≡ k = omega (arith, f.at_or_after) in
    let e : (minute_of_week z + (k - minute_of_week z)) % week_minutes ≡ k % week_minutes = ap (λ (x : ℕ). x % week_minutes) q in record {
      at_or_after = omega (whole, plus_read z (pos (k - minute_of_week z)));
      is_open = subst (InWindow week) (sym (minute_ahead z (k - minute_of_week z) ∙ e)) f.is_open;
      shut_before = λ b h l w.
          let a = ahead h in
          let v : InWindow week ((minute_of_week z + a.by) % week_minutes) = subst (InWindow week) (ap minute_of_week a.is ∙ minute_ahead z a.by) w in
          f.shut_before (minute_of_week z + a.by) (omega arith) (omega (whole, plus_read z (pos (k - minute_of_week z)), plus_read z (pos a.by), a.is)) v;
    }

-- ---- what is answered

-- A list without numbers is empty.
pub no_list : (week : List ℕ) → length week ≡ 0 → week ≡ []
no_list [] e = refl
no_list (x ∷ xs) e = absurd (omega arith)

-- It is never open.
pub admits_never : {week : List ℕ} {z : ℕ} → Taken week z → length week ≡ 0 → Admits week (minute_of z) (admission_of (Ok None))
admits_never {week} t e = never_open (none_applies t) (no_list week e)

-- A list with numbers and without a refusal has a window.
pub asked : {week : List ℕ} {z minute : ℕ} → Taken week z → (length week ≡ 0 → ⊥) → minute < week_minutes → Asked week minute
asked {week} t h k = record { good = t.good; some_window = let e = (good_fits t.good).even in ⊎_elim (λ (l : 1 ≤ windows week). omega arith) (λ (l : windows week < 1). absurd (h (omega arith))) (nat_le_or_lt 1 (windows week)); minute_small = k }

-- The answer's offset number.
answer_is : (z m k : ℕ) → m ≤ z → m ≤ k → minute_of z +ℤ pos (k - m) ≡ minute_of (z - m + k)
answer_is z m k h l = omega (whole, plus_read (minute_of z) (pos (k - m)), minute_read z, minute_read (z - m + k))

-- The first open minute.
pub admits_at : {week : List ℕ} {z m k : ℕ} → Taken week z → m ≡ minute_of_week (minute_of z) → m < week_minutes → FirstFrom week m k → Admits week (minute_of z) (admission_of (Ok (Some (z - m + k))))
admits_at {week} {z} {m} {k} t e s f =
    let g : FirstFrom week (minute_of_week (minute_of z)) k = subst (λ (x : ℕ). FirstFrom week x k) e f in
    let q : minute_of z +ℤ pos (k - minute_of_week (minute_of z)) ≡ minute_of (z - m + k) = subst (λ (x : ℕ). minute_of z +ℤ pos (k - x) ≡ minute_of (z - m + k)) e (answer_is z m k (omega arith) f.at_or_after) in
    opens (none_applies t) (subst (FirstOpen week (minute_of z)) q (first_of_all (minute_of z) g))
