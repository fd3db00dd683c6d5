-- Maps of the tropical numbers that keep blank and the order: they commute with the larger of two and with the largest.
use Prim.Native.Nat.{ℕ, zero, suc, ◌≤◌}
use mathlib.Core.Path.{◌≡◌, refl, ap, sym, subst, ◌∙◌}
use mathlib.Core.Logic.{⊎_elim}
use Rattle.definitions.specs.Tropical.{Trop, bot, ◌⊑◌, larger, largest}
use Rattle.definitions.specs.Scaling.{times}
use Rattle.definitions.proofs.Tropical.{⊑_antisym, larger_left, larger_right, larger_one, larger_least}
use Rattle.scaling.specs.Floor.{rounded}
use Rattle.scaling.proofs.Floor.{times_mono, times_blank, rounded_mono, rounded_blank}

-- Blank stays blank, and what is at most something stays so.
pub record Monotone (f : Trop → Trop) : Type 0 where
  pub blank : f bot ≡ bot
  pub keeps : (x y : Trop) → x ⊑ y → f x ⊑ f y

pub larger_map : {f : Trop → Trop} (x y : Trop) → Monotone f → f (larger x y) ≡ larger (f x) (f y)
larger_map {f} x y m = ⊑_antisym
    (⊎_elim
    (λ (e : larger x y ≡ x). subst (λ (z : Trop). f z ⊑ larger (f x) (f y)) (sym e) (larger_left (f x) (f y)))
    (λ (e : larger x y ≡ y). subst (λ (z : Trop). f z ⊑ larger (f x) (f y)) (sym e) (larger_right (f x) (f y)))
    (larger_one x y))
    (larger_least (m.keeps x (larger x y) (larger_left x y)) (m.keeps y (larger x y) (larger_right x y)))

pub largest_map : {f : Trop → Trop} (g : ℕ → Trop) (k : ℕ) → Monotone f → largest (λ j. f (g j)) k ≡ f (largest g k)
unfolding largest
largest_map g zero m = sym m.blank
largest_map {f} g (suc k) m =
    ap (λ (z : Trop). larger z (f (g k))) (largest_map g k m) ∙ sym (larger_map (largest g k) (g k) m)

-- The product and the floor are such maps.
pub times_monotone : (d : ℕ) → Monotone (times d)
times_monotone d = record { blank = (times_blank d bot).1 refl; keeps = λ x y h. times_mono d h }

pub rounded_monotone : (d r : ℕ) → 1 ≤ d → Monotone (rounded d r)
rounded_monotone d r one = record { blank = (rounded_blank d r bot).1 refl; keeps = λ x y h. rounded_mono d r one h }
