-- The total of a census as a power, multiplied as far as it is at most 65,536; and refusal 27.
use Prim.Native.Nat.{ℕ, ◌+◌, ◌*◌, ◌^◌, ◌≤◌, ◌<◌, min}
use mathlib.Core.Path.{◌≡◌, refl, sym, ◌∙◌}
use mathlib.Core.Bool.{Bool, true, false, cond}
use mathlib.Core.Logic.{◌↔◌, ◌⊎◌, inl, inr, ⊎_elim}
use lib.Dec.{eqb, ltb}
use borrow.Author.Tests.{eqb-false, ne_eqb}
use native.Mathlib.Omega.{arith}
use native.Mathlib.Nat.{pow-le-pow_left, pow-le-pow_right}
use Rattle.base.proofs.Numbers.{nat_le_or_lt}
use Rattle.definitions.specs.Limits.{highest_n, highest_m, lead_limit, census_most, refused_census}
use Rattle.definitions.specs.Bytes.{outcome}
use Rattle.definitions.specs.ProblemRecord.{above_limits}
use Rattle.definitions.proofs.Refusals.{fails_clause, limits_clause, enough_clause}
use Rattle.definitions.specs.Census.{leads_up_to, lead_count, census_total, census_refusal, Census, Censuses, turned_away, counts}
use Rattle.std.specs.Prelude.{Ok, Err}
use Rattle.records.specs.declared.refusal.Refusal.TheVariants.{Census as RefusalCensus}
use Rattle.counting.specs.Steps.{CensusFits, few_leads, total_of}

-- ---- refusal 27

-- It does not apply exactly where all of these hold.
pub census_fits : (n m w : ℕ) → (census_refusal n m w ≡ 0) ↔ CensusFits n m w
unfolding census_refusal
census_fits n m w = (
  λ e.
      let one = (fails_clause (eqb w 0) 26 _).0 e in
      let two = (enough_clause lead_limit w 26 _).0 one.1 in
      let three = (limits_clause n m 26 _).0 two.1 in
      let four = (enough_clause census_most (census_total n m w) 26 0).0 three.1 in
      record { some = eqb-false w 0 one.0; w_most = two.0; n_most = three.0.0; m_most = three.0.1; total_most = four.0 },
  λ f.
      let four = (enough_clause census_most (census_total n m w) 26 0).1 (f.total_most, refl) in
      let three = (limits_clause n m 26 _).1 ((f.n_most, f.m_most), four) in
      let two = (enough_clause lead_limit w 26 _).1 (f.w_most, three) in
      (fails_clause (eqb w 0) 26 _).1 (ne_eqb w 0 f.some, two),
)

-- There is no other refusal.
one_of : (t : Bool) (k : ℕ) → (k ≡ 0) ⊎ (k ≡ refused_census) → (cond t refused_census k ≡ 0) ⊎ (cond t refused_census k ≡ refused_census)
one_of true k h = inr refl
one_of false k h = h

pub census_either : (n m w : ℕ) → (census_refusal n m w ≡ 0) ⊎ (census_refusal n m w ≡ refused_census)
unfolding census_refusal
census_either n m w = one_of (eqb w 0) _ (one_of (ltb lead_limit w) _ (one_of (above_limits n m) _ (one_of (ltb census_most (census_total n m w)) 0 (inl refl))))

pub census_refused : (n m w : ℕ) → (CensusFits n m w → ⊥) → census_refusal n m w ≡ refused_census
census_refused n m w h = ⊎_elim (λ e. absurd (h ((census_fits n m w).0 e))) (λ (e : census_refusal n m w ≡ refused_census). e) (census_either n m w)

-- One of the first four tests fails.
pub outside : {n m w : ℕ}
    → (w ≡ 0) ⊎ (((w ≡ 0 → ⊥) × (lead_limit < w)) ⊎ (((w ≡ 0 → ⊥) × (w ≤ lead_limit) × (highest_n < n)) ⊎ ((w ≡ 0 → ⊥) × (w ≤ lead_limit) × (n ≤ highest_n) × (highest_m < m))))
    → CensusFits n m w → ⊥
outside (inl e) f = f.some e
outside (inr (inl h)) f = absurd (omega (arith, h.1, f.w_most))
outside (inr (inr (inl h))) f = absurd (omega (arith, h.2, f.n_most))
outside (inr (inr (inr h))) f = absurd (omega (arith, h.3, f.m_most))

-- What the code answers.
pub judged_away : (n m w : ℕ) → (CensusFits n m w → ⊥) → total_of (Err RefusalCensus) ≡ outcome (census_refusal n m w) (census_total n m w)
unfolding outcome
judged_away n m w h = rw (census_refused n m w h) refl

module _ (n m w : ℕ) {k t : ℕ} (count : k ≡ 2 * ((n + 1) * (m + 1))) (power : t ≡ min (leads_up_to w ^ k) 18446744073709551615) where
  capped_total : t ≡ min (census_total n m w) 18446744073709551615
  capped_total = let same : k ≡ lead_count n m = omega arith in power ∙ rw same refl

  pub total_above : census_most < t → CensusFits n m w → ⊥
  total_above h f = absurd (omega (arith, capped_total, f.total_most))

  pub judged_total : (w ≡ 0 → ⊥) → w ≤ lead_limit → n ≤ highest_n → m ≤ highest_m → t ≤ census_most → total_of (Ok t) ≡ outcome (census_refusal n m w) (census_total n m w)
  unfolding outcome
  judged_total s h a b e =
      let is : t ≡ census_total n m w = omega (arith, capped_total) in
      let none = (census_fits n m w).1 (record { some = s; w_most = h; n_most = a; m_most = b; total_most = omega (arith, is) }) in
      rw (none, is) refl

-- Eight leads at most.
pub leads_few : (n m w : ℕ) → CensusFits n m w → lead_count n m ≤ few_leads
leads_few n m w f = ⊎_elim
    (λ (h : lead_count n m ≤ few_leads). h)
    (λ (h : few_leads < lead_count n m).
    let wide = pow-le-pow_left {n = 4} {m = leads_up_to w} (omega (arith, f.some)) 9 in
    let long = pow-le-pow_right {n = leads_up_to w} (omega arith) {i = 9} {j = lead_count n m} h in
    absurd (omega (arith, wide, long, f.total_most)))
    (nat_le_or_lt (lead_count n m) few_leads)

-- ---- numbers as far as 65,536

-- A census of numbers that were cut there is that of the numbers: all limits are below.
pub census_capped : (n m w : ℕ) {r : Census} → Censuses (min n census_most) (min m census_most) (min w census_most) r → Censuses n m w r
census_capped n m w (turned_away {k = k} e) =
    let no : CensusFits n m w → ⊥ = λ f.
    let a : min n census_most ≡ n = omega (arith, f.n_most) in
    let b : min m census_most ≡ m = omega (arith, f.m_most) in
    let c : min w census_most ≡ w = omega (arith, f.w_most) in
    let none = (census_fits n m w).1 f in
    let same : census_refusal (min n census_most) (min m census_most) (min w census_most) ≡ 0 = rw (a, b, c) none in
    absurd (omega (arith, e, same)) in
    let capped : CensusFits (min n census_most) (min m census_most) (min w census_most) → ⊥ = λ f. let none = (census_fits _ _ _).1 f in absurd (omega (arith, e, none)) in
    turned_away (census_refused n m w no ∙ sym (census_refused _ _ _ capped) ∙ e)
census_capped n m w {r} (counts e k) =
    let f = (census_fits _ _ _).0 e in
    let a : min n census_most ≡ n = omega (arith, f.n_most) in
    let b : min m census_most ≡ m = omega (arith, f.m_most) in
    let c : min w census_most ≡ w = omega (arith, f.w_most) in
    rw (a, b, c) at (counts e k)
