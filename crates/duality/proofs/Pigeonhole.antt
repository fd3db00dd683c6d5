-- The pigeonhole principle: of n + 1 numbers below n two are the same.
-- By induction: where the last number v stands among the others, that is the repetition; else v is taken out of the
-- range, and one number fewer is left below n − 1.
use Prim.Native.Nat.{ℕ, zero, suc, ◌-◌, ◌≤◌, ◌<◌, min}
use mathlib.Core.Path.{◌≡◌}
use mathlib.Core.Logic.{◌⊎◌, inl, inr, ⊎_elim}
use native.Mathlib.Omega.{arith}
use native.Mathlib.Decide.{ℕ_discrete}
use Rattle.base.proofs.Numbers.{nat_le_or_lt}

-- Two places, both at most n, at which f is the same.
pub record Repeat (f : ℕ → ℕ) (n : ℕ) : Type 0 where
  pub one : ℕ
  pub two : ℕ
  pub ordered : one < two
  pub inside : two ≤ n
  pub same : f one ≡ f two

-- A place at most n at which f is v.
record Place (f : ℕ → ℕ) (v n : ℕ) : Type 0 where
  place : ℕ
  inside : place ≤ n
  same : f place ≡ v

-- Whether f takes a value below a bound is decided.
placed : (f : ℕ → ℕ) (v n : ℕ) → Place f v n ⊎ ((k : ℕ) → k ≤ n → f k ≡ v → ⊥)
placed f v zero = go (ℕ_discrete (f 0) v)
  where
    go : Dec (f 0 ≡ v) → Place f v 0 ⊎ ((k : ℕ) → k ≤ 0 → f k ≡ v → ⊥)
    go (yes e) = inl (record { place = 0; inside = omega arith; same = e })
    go (no d) = inr (λ k h e. let z : k ≡ 0 = omega arith in d (rw z at e))
placed f v (suc n) = go (placed f v n) (ℕ_discrete (f (suc n)) v)
  where
    go : Place f v n ⊎ ((k : ℕ) → k ≤ n → f k ≡ v → ⊥) → Dec (f (suc n) ≡ v)
        → Place f v (suc n) ⊎ ((k : ℕ) → k ≤ suc n → f k ≡ v → ⊥)
    go (inl q) d = inl (record { place = q.place; inside = omega arith; same = q.same })
    go (inr h) (yes e) = inl (record { place = suc n; inside = omega arith; same = e })
    go (inr h) (no d) = inr (λ k b e. at k b e (ℕ_discrete k (suc n)))
      where
        at : (k : ℕ) → k ≤ suc n → f k ≡ v → Dec (k ≡ suc n) → ⊥
        at k b e (yes z) = d (rw z at e)
        at k b e (no z) = h k (omega arith) e

-- The numbers but v, moved together.
abbrev skip : ℕ → ℕ → ℕ
skip v x = x - min 1 (x - v)

skip_below : (v x n : ℕ) → (x ≡ v → ⊥) → v < suc n → x < suc n → skip v x < n
skip_below v x n d h k = omega arith

-- Numbers below v stay, those above it move down by one.
skipped : (v x : ℕ) → (x ≡ v → ⊥) → ((x < v) × (skip v x ≡ x)) ⊎ ((v < x) × (suc (skip v x) ≡ x))
skipped v x d = ⊎_elim (λ (h : v ≤ x). inr (omega arith, omega arith)) (λ (h : x < v). inl (h, omega arith)) (nat_le_or_lt v x)

skip_same : (v x y : ℕ) → (x ≡ v → ⊥) → (y ≡ v → ⊥) → skip v x ≡ skip v y → x ≡ y
skip_same v x y d e q = go (skip v x) (skip v y) (skipped v x d) (skipped v y e) q
  where
    go : (a b : ℕ) → ((x < v) × (a ≡ x)) ⊎ ((v < x) × (suc a ≡ x)) → ((y < v) × (b ≡ y)) ⊎ ((v < y) × (suc b ≡ y)) → a ≡ b → x ≡ y
    go a b (inl h) (inl k) r = omega arith
    go a b (inl h) (inr k) r = omega arith
    go a b (inr h) (inl k) r = omega arith
    go a b (inr h) (inr k) r = omega arith

-- Of n + 1 numbers below n two are the same.
pub pigeonhole : (n : ℕ) (f : ℕ → ℕ) → ((k : ℕ) → k ≤ n → f k < n) → Repeat f n
pigeonhole zero f h = absurd (let z : f 0 < 0 = h 0 (omega arith) in omega arith)
pigeonhole (suc n) f h = go (placed f (f (suc n)) n) (λ d. pigeonhole n (λ k. skip (f (suc n)) (f k)) (below d))
  where
    below : ((k : ℕ) → k ≤ n → f k ≡ f (suc n) → ⊥) → (k : ℕ) → k ≤ n → skip (f (suc n)) (f k) < n
    below d k b = skip_below (f (suc n)) (f k) n (d k b) (h (suc n) (omega arith)) (h k (omega arith))

    go : Place f (f (suc n)) n ⊎ ((k : ℕ) → k ≤ n → f k ≡ f (suc n) → ⊥)
        → (((k : ℕ) → k ≤ n → f k ≡ f (suc n) → ⊥) → Repeat (λ k. skip (f (suc n)) (f k)) n) → Repeat f (suc n)
    go (inl q) r = record { one = q.place; two = suc n; ordered = omega arith; inside = omega arith; same = q.same }
    go (inr d) r = record {
      one = (r d).one;
      two = (r d).two;
      ordered = (r d).ordered;
      inside = omega (arith, (r d).inside);
      same = skip_same (f (suc n)) (f (r d).one) (f (r d).two) (d (r d).one (omega (arith, (r d).inside, (r d).ordered))) (d (r d).two (r d).inside) (r d).same;
    }
