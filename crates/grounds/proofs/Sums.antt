-- Sums of a row's coefficients and stamps, and the first of the largest.
use Prim.Native.Nat.{ℕ, ◌+◌, ◌-◌, ◌≤◌, ◌<◌}
use mathlib.Core.Path.{◌≡◌, refl, sym, subst, ◌∙◌}
use mathlib.Core.List.{List}
use mathlib.Core.Logic.{◌⊎◌, inl, inr, ⊎_elim}
use native.Mathlib.Omega.{arith}
use Rattle.base.proofs.Numbers.{positive, below_or_last}
use Rattle.definitions.specs.Limits.{lead_limit, stamp_limit, signed_half}
use Rattle.definitions.specs.Tropical.{Trop, plus, ◌⊑◌}
use Rattle.definitions.specs.Offset.{trop_of}
use Rattle.definitions.proofs.Tropical.{⊑_refl, ⊑_trans}
use Rattle.definitions.proofs.Offset.{trop_zero, trop_order, plus_trop, plus_trop_zero}
use Rattle.records.specs.Decoded.{Near}
use Rattle.grounds.specs.Latest.{sum_at, FirstLatest}

-- ---- one sum

pub sum_first : (a b : ℕ) → a ≡ 0 → trop_of 0 ≡ plus (trop_of a) (trop_of b)
sum_first a b e = rw e (trop_zero ∙ sym (plus_trop_zero (trop_of b)).0)

pub sum_second : (a b : ℕ) → b ≡ 0 → trop_of 0 ≡ plus (trop_of a) (trop_of b)
sum_second a b e = rw e (trop_zero ∙ sym (plus_trop_zero (trop_of a)).1)

pub sum_both :
    (a b : ℕ) → Near lead_limit a → Near stamp_limit b → (a ≡ 0 → ⊥) → (b ≡ 0 → ⊥) → trop_of (a + b - signed_half) ≡ plus (trop_of a) (trop_of b)
sum_both a b h k d e =
    let p : 0 < a = positive a d in
    let q : 0 < b = positive b e in
    sym (plus_trop a b p q (omega (arith, h.lo p, k.lo q)))

-- ---- the first of the largest

module _ {coefficient : ℕ → ℕ} {stamps : List ℕ} where
  -- The first variable,
  pub latest_one : FirstLatest coefficient stamps 1 0
  latest_one =
      record {
        inside = omega arith;
        latest = λ l h. let e : l ≡ 0 = omega arith in rw e (⊑_refl _);
        first = λ l h. absurd (omega arith);
      }

  -- which stays where the next is not later,
  pub latest_stays :
      {k r : ℕ} (best sum : ℕ) → FirstLatest coefficient stamps k r → trop_of best ≡ sum_at coefficient stamps r → trop_of sum ≡ sum_at coefficient stamps k
      → sum ≤ best → FirstLatest coefficient stamps (k + 1) r
  latest_stays {k} {r} best sum f e d h =
      record {
        inside = omega (arith, f.inside);
        latest = λ l b. ⊎_elim
            (λ (q : l < k). f.latest l q)
            (λ (q : l ≡ k). rw q (subst (λ (x : Trop). x ⊑ sum_at coefficient stamps r) d (subst (λ (x : Trop). trop_of sum ⊑ x) e ((trop_order sum best).1 h))))
            (below_or_last l k b);
        first = f.first;
      }

  -- and yields to it where it is.
  pub latest_moves :
      {k r : ℕ} (best sum : ℕ) → FirstLatest coefficient stamps k r → trop_of best ≡ sum_at coefficient stamps r → trop_of sum ≡ sum_at coefficient stamps k
      → best < sum → FirstLatest coefficient stamps (k + 1) k
  latest_moves {k} {r} best sum f e d h =
      let more : sum_at coefficient stamps r ⊑ sum_at coefficient stamps k =
      subst (λ (x : Trop). x ⊑ sum_at coefficient stamps k) e (subst (λ (x : Trop). trop_of best ⊑ x) d ((trop_order best sum).1 (omega arith))) in
      record {
        inside = omega arith;
        latest = λ l b. ⊎_elim
            (λ (q : l < k). ⊑_trans (f.latest l q) more)
            (λ (q : l ≡ k). rw q (⊑_refl _))
            (below_or_last l k b);
        first = λ l b q.
            let back : trop_of sum ⊑ trop_of best =
            subst (λ (x : Trop). x ⊑ trop_of best) (sym d) (subst (λ (x : Trop). sum_at coefficient stamps k ⊑ x) (sym e) (⊑_trans q (f.latest l b))) in
            omega (arith, (trop_order sum best).0 back);
      }

  -- Either way, with its sum.
  pub latest_next :
      {k r : ℕ} (best sum at most : ℕ) → FirstLatest coefficient stamps k r → trop_of best ≡ sum_at coefficient stamps r
      → trop_of sum ≡ sum_at coefficient stamps k
      → ((best < sum) × (at ≡ k) × (most ≡ sum)) ⊎ ((sum ≤ best) × (at ≡ r) × (most ≡ best))
      → FirstLatest coefficient stamps (k + 1) at × (trop_of most ≡ sum_at coefficient stamps at)
  latest_next best sum at most f e d (inl w) = rw (w.1, w.2) (latest_moves best sum f e d w.0, d)
  latest_next best sum at most f e d (inr w) = rw (w.1, w.2) (latest_stays best sum f e d w.0, e)

  -- It depends on the coefficients alone.
  pub latest_as :
      {other : ℕ → ℕ} {k r : ℕ} → ((l : ℕ) → l < k → coefficient l ≡ other l) → FirstLatest coefficient stamps k r → FirstLatest other stamps k r
  latest_as {other} {k} {r} same f =
      let e : (l : ℕ) → l < k → sum_at coefficient stamps l ≡ sum_at other stamps l = λ l h. rw (same l h) refl in
      record {
        inside = f.inside;
        latest = λ l h. subst (λ (x : Trop). x ⊑ sum_at other stamps r) (e l h) (subst (λ (x : Trop). sum_at coefficient stamps l ⊑ x) (e r f.inside) (f.latest l h));
        first = λ l h q.
            let b : l < k = omega (arith, f.inside) in
            f.first l h (subst (λ (x : Trop). sum_at coefficient stamps r ⊑ x) (sym (e l b)) (subst (λ (x : Trop). x ⊑ sum_at other stamps l) (sym (e r f.inside)) q));
      }
