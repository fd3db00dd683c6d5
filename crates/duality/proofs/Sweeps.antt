-- Longest walks by rounds in place, over any matrix, exits and number N of variables: in a round each variable in turn
-- raises the others by its arcs, and what it raised counts in the round already. Such a round does at least what a round
-- of Bellman–Ford does, and never exceeds a potential. So where no closed walk gains, N − 1 rounds find the longest walks.
use Prim.Native.Nat.{ℕ, zero, suc, ◌+◌, ◌-◌, ◌≤◌, ◌<◌}
use mathlib.Core.Path.{◌≡◌, sym, subst}
use mathlib.Core.Logic.{◌⊎◌, inl, inr, ⊎_elim}
use native.Mathlib.Omega.{arith}
use lib.IntN.{ℤ, pos}
use Rattle.base.proofs.Numbers.{nat_le_or_lt}
use Rattle.definitions.specs.Tropical.{Trop, plus, ◌⊑◌, larger}
use Rattle.definitions.specs.Certificate.{Walk, stop}
use Rattle.definitions.proofs.Tropical.{⊑_refl, ⊑_trans, plus_mono, larger_left, larger_right, larger_least}
use Rattle.duality.specs.Values.{value_at}
use Rattle.duality.specs.Gains.{Entry, Gain}
use Rattle.duality.specs.Sweeps.{turned, Swept, Fixed, Climbed}
use Rattle.duality.proofs.Walks.{walk_back}
use Rattle.duality.proofs.Longest.{entries_end, exit_value, round_least, still_stable, stable_potential, fixed_or_gains}

-- ---- the matrix turned round

-- A closed walk of 1 to N arcs above zero, somewhere.
pub record SomeGain (W : ℕ → ℕ → Trop) (N : ℕ) : Type 0 where
  pub from : ℕ
  pub gain : Gain W N from

-- A walk of the matrix, backwards.
pub entries_back : {W : ℕ → ℕ → Trop} {N j k n : ℕ} {w : ℤ} → j < N → Walk (Entry W N) j k n w → Walk (Entry (turned W) N) k j n w
entries_back {W} {N} h p =
    walk_back {B = Entry (turned W) N} (λ j. j < N) (λ j l w b a. (record { inside = b; entry = a.entry }, a.inside)) h p

-- A closed walk that gains, gains backwards.
pub gain_back : {W : ℕ → ℕ → Trop} {N : ℕ} → SomeGain (turned W) N → SomeGain W N
gain_back {W} {N} s =
    let g = s.gain in
    record {
      from = g.at;
      gain = record {
        at = g.at;
        way_arcs = 0;
        way_weight = pos 0;
        way = stop;
        arcs = g.arcs;
        weight = g.weight;
        some = g.some;
        most = g.most;
        gains = g.gains;
        loop = entries_back {W = turned W} (entries_end g.some g.loop) g.loop;
      };
    }

-- ---- a round in place

pub swept_none : (W : ℕ → ℕ → Trop) (N : ℕ) (x : ℕ → Trop) → Swept W N 0 x x
swept_none W N x = record { grows = λ l h. ⊑_refl (x l); bounds = λ j l b h. absurd (omega arith); under = λ e p u. u }

module _ {W : ℕ → ℕ → Trop} {N k : ℕ} {x y : ℕ → Trop} (s : Swept W N k x y) where
  -- What bounds the arcs from the first k variables and those from the next bounds those from k + 1.
  bounds_more : {z : ℕ → Trop} → ((l : ℕ) → l < N → y l ⊑ z l) → ((l : ℕ) → l < N → plus (W l k) (x k) ⊑ z l)
      → (j l : ℕ) → j < k + 1 → l < N → plus (W l j) (x j) ⊑ z l
  bounds_more {z} g b j l c h = ⊎_elim
      (λ (q : k ≤ j). let e : j ≡ k = omega arith in subst (λ i. plus (W l i) (x i) ⊑ z l) (sym e) (b l h))
      (λ (q : j < k). ⊑_trans (s.bounds j l q h) (g l h))
      (nat_le_or_lt k j)

  -- The next variable would raise nothing.
  pub swept_kept : k < N → ((l : ℕ) → l < N → plus (W l k) (y k) ⊑ y l) → Swept W N (k + 1) x y
  swept_kept b q = record {
    grows = s.grows;
    bounds = bounds_more (λ l h. ⊑_refl (y l)) (λ l h. ⊑_trans (plus_mono (⊑_refl (W l k)) (s.grows k b)) (q l h));
    under = s.under;
  }

  -- The next variable raises the others.
  pub swept_more : {z : ℕ → Trop} → k < N → ((l : ℕ) → l < N → z l ≡ larger (y l) (plus (W l k) (y k))) → Swept W N (k + 1) x z
  swept_more {z} b q = record {
    grows = λ l h. ⊑_trans (s.grows l h) (above l h);
    bounds = bounds_more above (λ l h. ⊑_trans (plus_mono (⊑_refl (W l k)) (s.grows k b)) (rw (q l h) (larger_right (y l) _)));
    under = λ e p u l h. rw (q l h)
        (larger_least (s.under e p u l h) (⊑_trans (plus_mono (⊑_refl (W l k)) (s.under e p u k b)) (p.bounds l k h b)));
  }
    where
      above : (l : ℕ) → l < N → y l ⊑ z l
      above l h = rw (q l h) (larger_left (y l) _)

-- ---- rounds

module _ (W : ℕ → ℕ → Trop) (exits : ℕ → Trop) (N : ℕ) where
  -- The first n values are fixed from N − 1 rounds on, or a closed walk gains.
  pub all_fixed_or_gains : (k n : ℕ) → n ≤ N → N ≤ suc k
      → ((j : ℕ) → j < n → value_at W exits N (suc k) j ≡ value_at W exits N k j) ⊎ SomeGain W N
  all_fixed_or_gains k zero b h = inl (λ j c. absurd (omega arith))
  all_fixed_or_gains k (suc n) b h = go (all_fixed_or_gains k n (omega arith) h) (fixed_or_gains W exits N k h n (omega arith))
    where
      go : ((j : ℕ) → j < n → value_at W exits N (suc k) j ≡ value_at W exits N k j) ⊎ SomeGain W N
          → (value_at W exits N (suc k) n ≡ value_at W exits N k n) ⊎ Gain W N n
          → ((j : ℕ) → j < suc n → value_at W exits N (suc k) j ≡ value_at W exits N k j) ⊎ SomeGain W N
      go (inr s) q = inr s
      go (inl f) (inr g) = inr (record { from = n; gain = g })
      go (inl f) (inl e) = inl (λ j c. ⊎_elim
          (λ (q : n ≤ j). let i : j ≡ n = omega arith in subst (λ i. value_at W exits N (suc k) i ≡ value_at W exits N k i) (sym i) e)
          (λ (q : j < n). f j q)
          (nat_le_or_lt n j))

  -- The start: the exits.
  pub climbed_start : {x : ℕ → Trop} → ((j : ℕ) → j < N → x j ≡ exits j) → Climbed W exits N 0 x
  unfolding value_at
  climbed_start q = record { lower = λ j h. rw (q j h) (⊑_refl (exits j)); upper = λ e p u j h. rw (q j h) (u j h) }

  module _ {i : ℕ} {x : ℕ → Trop} (c : Climbed W exits N i x) where
    -- One more round.
    pub climbed_more : {y : ℕ → Trop} → Swept W N N x y → Climbed W exits N (suc i) y
    climbed_more {y} s = record {
      lower = λ j h. round_least W exits N i j
          (⊑_trans (exit_value W exits N i j) (⊑_trans (c.lower j h) (s.grows j h)))
          (λ l b. ⊑_trans (plus_mono (⊑_refl (W j l)) (c.lower l b)) (s.bounds l j b h));
      upper = λ e p u. s.under e p (c.upper e p u);
    }

    -- Part of a round.
    pub climbed_part : {k : ℕ} {y : ℕ → Trop} → Swept W N k x y → Climbed W exits N i y
    climbed_part s = record { lower = λ j h. ⊑_trans (c.lower j h) (s.grows j h); upper = λ e p u. s.under e p (c.upper e p u) }

    -- Fixed values are not exceeded.
    pub climbed_under : (k : ℕ) → Fixed W exits N k → (j : ℕ) → j < N → x j ⊑ value_at W exits N k j
    climbed_under k f = c.upper (value_at W exits N k) (stable_potential W exits N (still_stable W exits N k f)) (λ j h. exit_value W exits N k j)

    -- A number above all values: a closed walk gains.
    pub climbed_beyond : (b : Trop) → ((j : ℕ) → j < N → value_at W exits N (N - 1) j ⊑ b) → 0 < N
        → (((j : ℕ) → j < N → x j ⊑ b) → ⊥) → SomeGain W N
    climbed_beyond b v h d = ⊎_elim
        (λ f. absurd (d (λ j l. ⊑_trans (climbed_under (N - 1) f j l) (v j l))))
        (λ g. g)
        (all_fixed_or_gains (N - 1) N (omega arith) (omega arith))
