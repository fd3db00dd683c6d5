-- What is proved of merging: the plan that stands in the buffer is the merged one, its stamps have the form of class 1, it keeps the rules, and
-- where both count, it counts and its span is at most the greater of the two; and there is one result alone.
use Prim.Native.Nat.{ℕ, suc, ◌+◌, ◌*◌, ◌≤◌, ◌<◌}
use mathlib.Core.Path.{◌≡◌, refl, ap, sym, ◌∙◌, fun_ext}
use mathlib.Core.Bool.{true, false, and-eq-true_iff}
use mathlib.Core.List.{List, [], ◌∷◌, map, append-nil}
use mathlib.Core.Logic.{⊎_elim}
use native.Mathlib.Omega.{arith}
use lib.ListN.{length, get_or, take, drop, length-map, get_or-eq_default}
use lib.IntN.{ℤ, pos, neg_ℤ, nat_abs, ◌+ℤ◌}
use lib.Signed.{◌≤ℤ◌}
use borrow.Author.Tests.{eq-eqb, eqb-true, le-leb}
use Rattle.base.proofs.Numbers.{nat_le_or_lt}
use Rattle.definitions.specs.Limits.{stamp_limit, signed_bytes}
use Rattle.definitions.specs.Tropical.{Trop, bot, fin, plus, larger}
use Rattle.definitions.specs.Bytes.{fields, field_of, trop_field, nums_at, all, blank_or_within, Outcome, refusal, gives}
use Rattle.definitions.specs.ProblemRecord.{n_field, problem_refusal, problem_of, list_of}
use Rattle.definitions.specs.AnswerRecord.{is_zero, stamps_fit, written}
use Rattle.definitions.specs.Verdict.{point_of}
use Rattle.definitions.specs.Merging.{plan_stamps, plan_of, plan_fits, above_zero, merged_plan, merged_bytes, merge_refusal, BothKeep, early, some_early, Merges, turned_away, rule_broken, too_early, stamps, MergedWell, InBuffer, MergingKeeps}
use Rattle.definitions.proofs.Whole.{whole, plus_read, neg_read, abs_read, abs_show}
use Rattle.definitions.proofs.Tropical.{bot_plus, larger_one, plus_fin, bot_not_fin, fin_injective}
use Rattle.definitions.proofs.Bytes.{all_true, length_fields, length_nums_at, nums_fields}
use Rattle.definitions.proofs.Put.{take_put, drop_put}
use Rattle.definitions.proofs.Offset.{within_size}
use Rattle.definitions.proofs.ProblemBack.{listed-length, listed_at}
use Rattle.definitions.proofs.Refusals.{or_else_none, fails_clause}
use Rattle.definitions.proofs.RoundTrip.{trops_back, trops_below, stamps_within}
use Rattle.definitions.proofs.Silent.{none_below}
use Rattle.merging.proofs.Sides.{every_plan}
use Rattle.merging.proofs.Later.{true_false, shift_most, late_least}
use Rattle.merging.proofs.Plans.{PlanFits, plan_of_form}
use Rattle.merging.proofs.Outcomes.{merge_refusal_lem, none_judged}

-- ---- a plan of the right form

-- The first stamp is 0.
zero_is : (x : Trop) → is_zero x ≡ true → x ≡ fin (pos 0)
unfolding is_zero
zero_is bot e = absurd (true_false (sym e))
zero_is (fin z) e =
    let a : nat_abs z ≡ 0 = eqb-true (nat_abs z) 0 e in
    let q : z ≡ pos 0 = omega (whole, abs_read z) in
    ap fin q

module _ (n : ℕ) {s : List ℕ} (f : PlanFits n s) where
  plan_anchor : plan_of n s 0 ≡ fin (pos 0)
  unfolding point_of nums_at stamps_fit
  plan_anchor = zero_is _ ((and-eq-true_iff _ _).0 f.form).0

  plan_within : (j : ℕ) → j < suc n → blank_or_within stamp_limit (plan_of n s j) ≡ true
  unfolding point_of
  plan_within j h = (all_true (blank_or_within stamp_limit) bot (plan_stamps n s)).0 (stamps_within (plan_stamps n s) f.form) j
      (rw (length-map, length_nums_at) h)

-- Behind the last stamp it is blank.
plan_past : (n : ℕ) (s : List ℕ) (j : ℕ) → suc n ≤ j → plan_of n s j ≡ bot
unfolding point_of
plan_past n s j h = get_or-eq_default (plan_stamps n s) bot (rw (length-map, length_nums_at) h)

larger_none : larger bot bot ≡ bot
unfolding larger
larger_none = refl

-- ---- merged stamps

-- A merged stamp that is not early is within the limit of stamps.
merged_within : (t : ℤ) (a b : Trop) → t ≤ℤ pos 0 → blank_or_within stamp_limit a ≡ true → blank_or_within stamp_limit b ≡ true
    → early (larger a (plus b (fin t))) ≡ false → blank_or_within stamp_limit (larger a (plus b (fin t))) ≡ true
unfolding blank_or_within
merged_within t a b h f g e = go (larger a (plus b (fin t))) refl
  where
    from_first : {z : ℤ} → larger a (plus b (fin t)) ≡ fin z → larger a (plus b (fin t)) ≡ a → z ≤ℤ pos stamp_limit
    from_first {z} q r = omega (whole, abs_read z, within_size stamp_limit f (sym r ∙ q))

    from_second : {z : ℤ} → (y : Trop) → b ≡ y → larger a (plus b (fin t)) ≡ fin z → larger a (plus b (fin t)) ≡ plus b (fin t) → z ≤ℤ pos stamp_limit
    from_second bot w q r = absurd (bot_not_fin (rw (w, bot_plus) at (sym r ∙ q)))
    from_second {z} (fin y) w q r =
        let v : fin (y +ℤ t) ≡ fin z = sym (plus_fin y t) ∙ (rw w at (sym r ∙ q)) in
        let u : y +ℤ t ≡ z = fin_injective v in
        omega (whole, abs_read y, within_size stamp_limit g w, plus_read y t)

    go : (x : Trop) → larger a (plus b (fin t)) ≡ x → blank_or_within stamp_limit x ≡ true
    go bot q = refl
    go (fin z) q =
        let low : neg_ℤ (pos stamp_limit) ≤ℤ z = late_least (rw q at e) in
        let high : z ≤ℤ pos stamp_limit = ⊎_elim (from_first q) (from_second b refl q) (larger_one a (plus b (fin t))) in
        le-leb (nat_abs z) stamp_limit (abs_show z (omega (whole, high)) (omega (whole, low, neg_read (pos stamp_limit))))

-- Stamps of which the first is 0 and each is within the limit have the form of class 1.
form_of : (xs : List Trop) → 0 < length xs → get_or xs 0 bot ≡ fin (pos 0) → all (blank_or_within stamp_limit) xs ≡ true → stamps_fit xs ≡ true
unfolding stamps_fit all is_zero
form_of [] h e f = absurd (omega arith)
form_of (x ∷ xs) h e f = (and-eq-true_iff (is_zero x) (all (blank_or_within stamp_limit) xs)).1 (rw e refl, ((and-eq-true_iff (blank_or_within stamp_limit x) (all (blank_or_within stamp_limit) xs)).0 f).1)

-- ---- what stands in the buffer

-- The merged plan of two plans of the right form, none of whose stamps is early.
module _ (n : ℕ) {a b : List ℕ} (t : ℤ) (a_fits : PlanFits n a) (b_fits : PlanFits n b) (back : t ≤ℤ pos 0) (late : some_early n a b t ≡ false) where
  listed_within : all (blank_or_within stamp_limit) (list_of (merged_plan n a b t) (suc n)) ≡ true
  listed_within = (all_true (blank_or_within stamp_limit) bot (list_of (merged_plan n a b t) (suc n))).1 (λ j h.
      let l : j < suc n = rw (listed-length (merged_plan n a b t) (suc n)) at h in
      rw (listed_at (merged_plan n a b t) bot (suc n) j l)
      (merged_within t (plan_of n a j) (plan_of n b j) back (plan_within n a_fits j l) (plan_within n b_fits j l)
      ((none_below (λ j. early (merged_plan n a b t j)) (suc n)).0 late j l)))

  -- Its bytes: as many as are due, and read back as its stamps.
  pub bytes_length : length (merged_bytes n a b t) ≡ signed_bytes * suc n
  unfolding merged_bytes
  bytes_length = length_fields signed_bytes (map field_of (list_of (merged_plan n a b t) (suc n))) ∙ ap (λ (k : ℕ). signed_bytes * k) (rw length-map (listed-length (merged_plan n a b t) (suc n)))

  stamps_back : plan_stamps n (merged_bytes n a b t) ≡ list_of (merged_plan n a b t) (suc n)
  unfolding merged_bytes
  stamps_back =
      let long : length (map field_of (list_of (merged_plan n a b t) (suc n))) ≡ suc n = rw length-map (listed-length (merged_plan n a b t) (suc n)) in
      let read : nums_at signed_bytes (length (map field_of (list_of (merged_plan n a b t) (suc n)))) (fields signed_bytes (map field_of (list_of (merged_plan n a b t) (suc n)))) 0 ≡ map field_of (list_of (merged_plan n a b t) (suc n)) =
      rw (append-nil (fields signed_bytes (map field_of (list_of (merged_plan n a b t) (suc n))))) at (nums_fields signed_bytes (map field_of (list_of (merged_plan n a b t) (suc n))) [] [] 0 refl (trops_below stamp_limit (omega arith) (list_of (merged_plan n a b t) (suc n)) listed_within)) in
      ap (map trop_field) (rw long at read) ∙ trops_back stamp_limit (omega arith) (list_of (merged_plan n a b t) (suc n)) listed_within

  -- The plan that is read back is the merged one, at every index.
  pub plan_back : (j : ℕ) → plan_of n (merged_bytes n a b t) j ≡ merged_plan n a b t j
  unfolding point_of
  plan_back j = ap (λ (l : List Trop). get_or l j bot) stamps_back ∙ ⊎_elim past inside (nat_le_or_lt (suc n) j)
    where
      past : suc n ≤ j → get_or (list_of (merged_plan n a b t) (suc n)) j bot ≡ merged_plan n a b t j
      past h = get_or-eq_default (list_of (merged_plan n a b t) (suc n)) bot (rw (listed-length (merged_plan n a b t) (suc n)) h)
          ∙ sym (rw (plan_past n a j h, plan_past n b j h, bot_plus (fin t)) (larger_none))

      inside : j < suc n → get_or (list_of (merged_plan n a b t) (suc n)) j bot ≡ merged_plan n a b t j
      inside h = listed_at (merged_plan n a b t) bot (suc n) j h

  pub form_back : merged_plan n a b t 0 ≡ fin (pos 0) → plan_fits n (merged_bytes n a b t) ≡ true
  unfolding plan_fits
  form_back e = (and-eq-true_iff _ _).1 (
    eq-eqb _ _ bytes_length,
    rw stamps_back (form_of (list_of (merged_plan n a b t) (suc n)) (rw (listed-length (merged_plan n a b t) (suc n)) (omega arith))
        (listed_at (merged_plan n a b t) bot (suc n) 0 (omega arith) ∙ e) listed_within),
  )

-- What the refusals by numbers say where none applies.
record Fine (n : ℕ) (a b : List ℕ) (t : ℤ) : Type 0 where
  a_fits : PlanFits n a
  b_fits : PlanFits n b
  back : t ≤ℤ pos 0

fine : (p a b : List ℕ) (t : ℤ) (room : ℕ) → merge_refusal p a b t room ≡ 0 → Fine (n_field p) a b t
fine p a b t room e =
    let r = (or_else_none _ _).0 ((or_else_none (problem_refusal p) _).0 (sym (merge_refusal_lem p a b t room) ∙ e)).1 in
    let j = none_judged (n_field p) a b room r.0 in
    record {
      a_fits = plan_of_form (n_field p) a j.first_fits;
      b_fits = plan_of_form (n_field p) b j.second_fits;
      back = shift_most t ((fails_clause (above_zero t) 23 0).0 r.1).0;
    }

module _ (p a b : List ℕ) (t : ℤ) (before : List ℕ) (none : merge_refusal p a b t (length before) ≡ 0) (keep : BothKeep p a b) (late : some_early (n_field p) a b t ≡ false) where
  merged_well : MergedWell (problem_of p) (plan_of (n_field p) a) (plan_of (n_field p) b) (merged_plan (n_field p) a b t)
  merged_well =
      let f = fine p a b t (length before) none in
      every_plan (problem_of p) t (plan_of (n_field p) a) (plan_of (n_field p) b) f.back
      (record { anchored = plan_anchor (n_field p) f.a_fits; keeps = keep.0 })
      (record { anchored = plan_anchor (n_field p) f.b_fits; keeps = keep.1 })

  -- The bytes at the buffer's start.
  front : take (signed_bytes * suc (n_field p)) (written before (merged_bytes (n_field p) a b t)) ≡ merged_bytes (n_field p) a b t
  unfolding written
  front =
      let f = fine p a b t (length before) none in
      let size : signed_bytes * suc (n_field p) ≡ 0 + length (merged_bytes (n_field p) a b t) = omega (arith, bytes_length (n_field p) t f.a_fits f.b_fits f.back late) in
      rw size (take_put before 0 (merged_bytes (n_field p) a b t) (omega arith))

  stays : drop (signed_bytes * suc (n_field p)) (written before (merged_bytes (n_field p) a b t)) ≡ drop (signed_bytes * suc (n_field p)) before
  unfolding written
  stays =
      let f = fine p a b t (length before) none in
      drop_put before 0 (merged_bytes (n_field p) a b t) (omega arith) (signed_bytes * suc (n_field p)) (omega (arith, bytes_length (n_field p) t f.a_fits f.b_fits f.back late))

  in_buffer : InBuffer p a b t before (signed_bytes * suc (n_field p)) (written before (merged_bytes (n_field p) a b t))
  in_buffer =
      let f = fine p a b t (length before) none in
      let back = plan_back (n_field p) t f.a_fits f.b_fits f.back late in
      let same : plan_of (n_field p) (merged_bytes (n_field p) a b t) ≡ merged_plan (n_field p) a b t = fun_ext back in
      record {
        size_is = refl;
        plan_is = rw front back;
        form = rw front (form_back (n_field p) t f.a_fits f.b_fits f.back late merged_well.keeps.anchored);
        well = rw (front, same) merged_well;
        stay = stays;
      }

-- ---- the theorem

refusal_not_gives : {k size : ℕ} → refusal k ≡ gives size → ⊥
refusal_not_gives e = let z : ◌≡◌ {A = ℕ} 0 1 = cc in omega arith

every_buffer : (p a b : List ℕ) (t : ℤ) (before : List ℕ) (size : ℕ) (after : List ℕ) {r : Outcome ℕ} → Merges p a b t before r after → r ≡ gives size → InBuffer p a b t before size after
every_buffer p a b t before size after (turned_away e) q = absurd (refusal_not_gives q)
every_buffer p a b t before size after (rule_broken e f) q = absurd (refusal_not_gives q)
every_buffer p a b t before size after (too_early e f g) q = absurd (refusal_not_gives q)
every_buffer p a b t before size after (stamps e f g) q = let z : signed_bytes * suc (n_field p) ≡ size = cc in rw (← z) (in_buffer p a b t before e f g)

one_result : (p a b : List ℕ) (t : ℤ) (before : List ℕ) (r s : Outcome ℕ) (after then : List ℕ) → Merges p a b t before r after → Merges p a b t before s then → (r ≡ s) × (after ≡ then)
one_result p a b t before r s after then (turned_away e) (turned_away f) = (ap refusal (sym e ∙ f), refl)
one_result p a b t before r s after then (turned_away e) (rule_broken f g) = absurd (omega arith)
one_result p a b t before r s after then (turned_away e) (too_early f g h) = absurd (omega arith)
one_result p a b t before r s after then (turned_away e) (stamps f g h) = absurd (omega arith)
one_result p a b t before r s after then (rule_broken e k) (turned_away f) = absurd (omega arith)
one_result p a b t before r s after then (rule_broken e k) (rule_broken f g) = (refl, refl)
one_result p a b t before r s after then (rule_broken e k) (too_early f g h) = absurd (k g)
one_result p a b t before r s after then (rule_broken e k) (stamps f g h) = absurd (k g)
one_result p a b t before r s after then (too_early e k l) (turned_away f) = absurd (omega arith)
one_result p a b t before r s after then (too_early e k l) (rule_broken f g) = absurd (g k)
one_result p a b t before r s after then (too_early e k l) (too_early f g h) = (refl, refl)
one_result p a b t before r s after then (too_early e k l) (stamps f g h) = absurd (true_false (sym l ∙ h))
one_result p a b t before r s after then (stamps e k l) (turned_away f) = absurd (omega arith)
one_result p a b t before r s after then (stamps e k l) (rule_broken f g) = absurd (g k)
one_result p a b t before r s after then (stamps e k l) (too_early f g h) = absurd (true_false (sym h ∙ l))
one_result p a b t before r s after then (stamps e k l) (stamps f g h) = (refl, refl)

-- Request 2.13.
pub merging_keeps : MergingKeeps
merging_keeps = record {
  every_plan = every_plan;
  every_buffer = λ p a b t before size after m. every_buffer p a b t before size after m refl;
  one_result = one_result;
}
