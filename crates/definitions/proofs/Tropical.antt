-- Laws of the tropical numbers: order, sum, the larger of two, the largest of a list.
use Prim.Native.Nat.{ℕ, zero, suc, ◌≤◌, ◌<◌}
use mathlib.Core.Path.{◌≡◌, refl, ap, sym, subst, ◌∙◌}
use mathlib.Core.Bool.{Bool, true, false, cond}
use mathlib.Core.Logic.{◌⊎◌, inl, inr, ⊎_elim}
use native.Mathlib.Omega.{arith}
use lib.Dec.{T}
use lib.IntN.{ℤ, pos, ◌+ℤ◌, ◌-ℤ◌, +ℤ_assoc, +ℤ_comm, +ℤ_idl, +ℤ_idr}
use lib.Signed.{◌≤ℤ◌, ◌<ℤ◌, le_z, ≤ℤ_refl}
use Rattle.base.proofs.Numbers.{nat_le_or_lt}
use Rattle.definitions.specs.Tropical.{Trop, bot, fin, plus, ◌⊑◌, blank_least, whole_least, larger, largest, Finite}
use Rattle.definitions.proofs.Whole.{whole, plus_read, minus_read, le_or_lt}

-- ---- constructors

pub fin_injective : {a b : ℤ} → fin a ≡ fin b → a ≡ b
fin_injective e = cc

pub bot_not_fin : {a : ℤ} → bot ≡ fin a → ⊥
bot_not_fin {a} e = let z : ◌≡◌ {A = ℕ} 0 1 = cc in omega arith

pub not_finite_bot : Finite bot → ⊥
not_finite_bot f = bot_not_fin f.is

pub finite_fin : (a : ℤ) → Finite (fin a)
finite_fin a = record { whole = a; is = refl }

-- A number is blank or whole.
pub blank_or_finite : (x : Trop) → (x ≡ bot) ⊎ Finite x
blank_or_finite bot = inl refl
blank_or_finite (fin a) = inr (finite_fin a)

-- ---- the order

pub ⊑_refl : (x : Trop) → x ⊑ x
⊑_refl bot = blank_least
⊑_refl (fin a) = whole_least (≤ℤ_refl a)

pub ⊑_trans : {x y z : Trop} → x ⊑ y → y ⊑ z → x ⊑ z
⊑_trans blank_least k = blank_least
⊑_trans (whole_least {a = a} h) (whole_least {b = c} k) = let r : a ≤ℤ c = omega whole in whole_least r

pub ⊑_of_eq : {x y : Trop} → x ≡ y → x ⊑ y
⊑_of_eq {x} e = subst (λ (z : Trop). x ⊑ z) e (⊑_refl x)

pub ⊑_antisym : {x y : Trop} → x ⊑ y → y ⊑ x → x ≡ y
⊑_antisym blank_least blank_least = refl
⊑_antisym (whole_least {a = a} {b = b} h) (whole_least k) = let e : a ≡ b = omega whole in ap fin e

pub fin_below : {a b : ℤ} → fin a ⊑ fin b → a ≤ℤ b
fin_below (whole_least h) = h

-- What is at least a whole number is one.
pub finite_above : {a : ℤ} {y : Trop} → fin a ⊑ y → Finite y
finite_above (whole_least {b = b} h) = finite_fin b

pub below_bot : {x : Trop} → x ⊑ bot → x ≡ bot
below_bot blank_least = refl

-- One way or the other; the second strictly, as a whole number above.
pub ⊑_or_above : (x y : Trop) → (x ⊑ y) ⊎ ((y ⊑ x) × ((x ⊑ y) → ⊥))
⊑_or_above bot y = inl blank_least
⊑_or_above (fin a) bot = inr (blank_least, λ h. bot_not_fin (sym (below_bot h)))
⊑_or_above (fin a) (fin b) =
    ⊎_elim (λ h. inl (whole_least h)) (λ (h : b <ℤ a). inr (whole_least (omega whole), λ k. let r : a ≤ℤ b = fin_below k in omega whole)) (le_or_lt a b)

-- What is not at least x is at most x.
pub ⊑_of_not : {x y : Trop} → ((y ⊑ x) → ⊥) → x ⊑ y
⊑_of_not {x} {y} f = ⊎_elim (λ h. absurd (f h)) (λ h. h.0) (⊑_or_above y x)

-- ---- the sum

pub plus_bot : (x : Trop) → plus x bot ≡ bot
unfolding plus
plus_bot bot = refl
plus_bot (fin a) = refl

pub bot_plus : (x : Trop) → plus bot x ≡ bot
unfolding plus
bot_plus x = refl

pub plus_fin : (a b : ℤ) → plus (fin a) (fin b) ≡ fin (a +ℤ b)
unfolding plus
plus_fin a b = refl

-- The sum of two numbers that are whole.
pub plus_is : {x y : Trop} {a b : ℤ} → x ≡ fin a → y ≡ fin b → plus x y ≡ fin (a +ℤ b)
plus_is e d = rw (e, d, plus_fin)

-- What a whole sum with a whole number came from.
pub plus_from : {x : Trop} (c : ℤ) {d : ℤ} → plus x (fin c) ≡ fin d → x ≡ fin (d -ℤ c)
unfolding plus
plus_from {x = bot} c e = absurd (bot_not_fin e)
plus_from {x = fin a} c {d = d} e =
    let f : a +ℤ c ≡ d = fin_injective e in
    let g : a ≡ d -ℤ c = omega (whole, plus_read a c, minus_read d c) in
    ap fin g

pub plus_comm : (x y : Trop) → plus x y ≡ plus y x
unfolding plus
plus_comm bot bot = refl
plus_comm bot (fin b) = refl
plus_comm (fin a) bot = refl
plus_comm (fin a) (fin b) = ap fin (+ℤ_comm a b)

pub plus_assoc : (x y z : Trop) → plus (plus x y) z ≡ plus x (plus y z)
unfolding plus
plus_assoc bot y z = refl
plus_assoc (fin a) bot z = refl
plus_assoc (fin a) (fin b) bot = refl
plus_assoc (fin a) (fin b) (fin c) = ap fin (+ℤ_assoc a b c)

pub plus_zero : (x : Trop) → plus x (fin (pos 0)) ≡ x
unfolding plus
plus_zero bot = refl
plus_zero (fin a) = ap fin (+ℤ_idr a)

pub zero_plus : (x : Trop) → plus (fin (pos 0)) x ≡ x
unfolding plus
zero_plus bot = refl
zero_plus (fin a) = ap fin (+ℤ_idl a)

-- Two whole numbers are added one after the other.
pub plus_twice : (a b : ℤ) (x : Trop) → plus (fin (a +ℤ b)) x ≡ plus (fin a) (plus (fin b) x)
plus_twice a b x = rw (← plus_fin a b) (plus_assoc (fin a) (fin b) x)

-- A sum is whole exactly when both parts are.
pub plus_parts : {x y : Trop} → Finite (plus x y) → Finite x × Finite y
unfolding plus
plus_parts {x = bot} {y} f = absurd (not_finite_bot f)
plus_parts {x = fin a} {y = bot} f = absurd (not_finite_bot f)
plus_parts {x = fin a} {y = fin b} f = (finite_fin a, finite_fin b)

-- Two whole parts whose sum is at least v.
pub record Parts (v : ℤ) (x y : Trop) : Type 0 where
  pub first : ℤ
  pub second : ℤ
  pub first_is : x ≡ fin first
  pub second_is : y ≡ fin second
  pub worth : v ≤ℤ (first +ℤ second)

-- What is at least a whole number has whole parts.
pub plus_above : {v : ℤ} (x y : Trop) → fin v ⊑ plus x y → Parts v x y
unfolding plus
plus_above bot y h = absurd (not_finite_bot (finite_above h))
plus_above (fin a) bot h = absurd (not_finite_bot (finite_above h))
plus_above (fin a) (fin b) h = record { first = a; second = b; first_is = refl; second_is = refl; worth = fin_below h }

pub plus_mono : {x x' y y' : Trop} → x ⊑ x' → y ⊑ y' → plus x y ⊑ plus x' y'
unfolding plus
plus_mono blank_least k = blank_least
plus_mono (whole_least h) blank_least = blank_least
plus_mono (whole_least {a = a} {b = b} h) (whole_least {a = c} {b = d} k) =
    let r : (a +ℤ c) ≤ℤ (b +ℤ d) = omega (whole, plus_read a c, plus_read b d) in whole_least r

-- A whole number can be taken away from both sides.
pub plus_cancel : (c : ℤ) {x y : Trop} → plus x (fin c) ⊑ plus y (fin c) → x ⊑ y
unfolding plus
plus_cancel c {x = bot} {y} h = blank_least
plus_cancel c {x = fin a} {y = bot} h = absurd (bot_not_fin (sym (below_bot h)))
plus_cancel c {x = fin a} {y = fin b} h =
    let k : (a +ℤ c) ≤ℤ (b +ℤ c) = fin_below h in
    let r : a ≤ℤ b = omega (whole, plus_read a c, plus_read b c) in
    whole_least r

-- The same on the left.
pub plus_cancel_left : (c : ℤ) {x y : Trop} → plus (fin c) x ⊑ plus (fin c) y → x ⊑ y
plus_cancel_left c {x} {y} h = plus_cancel c (rw (plus_comm x (fin c), plus_comm y (fin c)) h)

-- ---- the larger of two

pub larger_left : (x y : Trop) → x ⊑ larger x y
unfolding larger
larger_left bot y = blank_least
larger_left (fin a) bot = ⊑_refl (fin a)
larger_left (fin a) (fin b) = go (le_z a b) refl
  where
    go : (t : Bool) → le_z a b ≡ t → fin a ⊑ fin (cond t b a)
    go true e = whole_least (record { le = subst T (sym e) tt })
    go false e = ⊑_refl (fin a)

pub larger_right : (x y : Trop) → y ⊑ larger x y
unfolding larger
larger_right bot y = ⊑_refl y
larger_right (fin a) bot = blank_least
larger_right (fin a) (fin b) = ⊎_elim (λ h. at_le h) (λ h. at_lt h) (le_or_lt a b)
  where
    at_le : a ≤ℤ b → fin b ⊑ fin (cond (le_z a b) b a)
    at_le h = go (le_z a b) h.le
      where
        go : (t : Bool) → T t → fin b ⊑ fin (cond t b a)
        go true u = ⊑_refl (fin b)
        go false u = absurd u

    at_lt : b <ℤ a → fin b ⊑ fin (cond (le_z a b) b a)
    at_lt h = go (le_z a b)
      where
        go : (t : Bool) → fin b ⊑ fin (cond t b a)
        go true = ⊑_refl (fin b)
        go false = let r : b ≤ℤ a = omega whole in whole_least r

-- It is one of the two.
pub larger_one : (x y : Trop) → (larger x y ≡ x) ⊎ (larger x y ≡ y)
unfolding larger
larger_one bot y = inr refl
larger_one (fin a) bot = inl refl
larger_one (fin a) (fin b) = go (le_z a b)
  where
    go : (t : Bool) → (fin (cond t b a) ≡ fin a) ⊎ (fin (cond t b a) ≡ fin b)
    go true = inr refl
    go false = inl refl

pub larger_least : {x y z : Trop} → x ⊑ z → y ⊑ z → larger x y ⊑ z
larger_least {x} {y} {z} h k =
    ⊎_elim (λ e. subst (λ (u : Trop). u ⊑ z) (sym e) h) (λ e. subst (λ (u : Trop). u ⊑ z) (sym e) k) (larger_one x y)

pub larger_mono : {x x' y y' : Trop} → x ⊑ x' → y ⊑ y' → larger x y ⊑ larger x' y'
larger_mono {x} {x'} {y} {y'} h k = larger_least (⊑_trans h (larger_left x' y')) (⊑_trans k (larger_right x' y'))

-- ---- the largest of a list

-- Each is at most the largest.
pub largest_above : (f : ℕ → Trop) (k j : ℕ) → j < k → f j ⊑ largest f k
unfolding largest
largest_above f zero j h = absurd (omega arith)
largest_above f (suc k) j h =
    ⊎_elim
    (λ (e : j ≡ k). subst (λ (i : ℕ). f i ⊑ larger (largest f k) (f k)) (sym e) (larger_right (largest f k) (f k)))
    (λ (l : j < k). ⊑_trans (largest_above f k j l) (larger_left (largest f k) (f k)))
    (last_or_before j k h)
  where
    last_or_before : (j k : ℕ) → j < suc k → (j ≡ k) ⊎ (j < k)
    last_or_before j k h = ⊎_elim (λ (l : k ≤ j). inl (omega arith)) (λ (l : j < k). inr l) (nat_le_or_lt k j)

-- It is at most whatever all are at most.
pub largest_least : (f : ℕ → Trop) (k : ℕ) {z : Trop} → ((j : ℕ) → j < k → f j ⊑ z) → largest f k ⊑ z
unfolding largest
largest_least f zero h = blank_least
largest_least f (suc k) h = larger_least (largest_least f k (λ j l. h j (omega arith))) (h k (omega arith))

-- A place at which the largest stands.
pub record Attains (f : ℕ → Trop) (k : ℕ) : Type 0 where
  pub place : ℕ
  pub inside : place < k
  pub same : largest f k ≡ f place

-- The largest is blank, or it stands somewhere.
pub largest_attained : (f : ℕ → Trop) (k : ℕ) → (largest f k ≡ bot) ⊎ Attains f k
unfolding largest
largest_attained f zero = inl refl
largest_attained f (suc k) = go (largest_attained f k) (larger_one (largest f k) (f k))
  where
    go : (largest f k ≡ bot) ⊎ Attains f k → (larger (largest f k) (f k) ≡ largest f k) ⊎ (larger (largest f k) (f k) ≡ f k)
        → (larger (largest f k) (f k) ≡ bot) ⊎ Attains f (suc k)
    go s (inr e) = inr (record { place = k; inside = omega arith; same = e })
    go (inl b) (inl e) = inl (e ∙ b)
    go (inr a) (inl e) = inr (record { place = a.place; inside = omega arith; same = e ∙ a.same })

-- Where it is whole it stands somewhere.
pub largest_at : (f : ℕ → Trop) (k : ℕ) → Finite (largest f k) → Attains f k
largest_at f k w = ⊎_elim (λ b. absurd (not_finite_bot (subst Finite b w))) (λ a. a) (largest_attained f k)

pub largest_mono : (f g : ℕ → Trop) (k : ℕ) → ((j : ℕ) → j < k → f j ⊑ g j) → largest f k ⊑ largest g k
largest_mono f g k h = largest_least f k (λ j l. ⊑_trans (h j l) (largest_above g k j l))

pub largest_ext : (f g : ℕ → Trop) (k : ℕ) → ((j : ℕ) → j < k → f j ≡ g j) → largest f k ≡ largest g k
largest_ext f g k h =
    ⊑_antisym (largest_mono f g k (λ j l. ⊑_of_eq (h j l))) (largest_mono g f k (λ j l. ⊑_of_eq (sym (h j l))))

-- A shift moves the largest along.
pub largest_plus : (f : ℕ → Trop) (c : Trop) (k : ℕ) → largest (λ j. plus (f j) c) k ≡ plus (largest f k) c
unfolding plus
largest_plus f c k = ⊑_antisym
    (largest_least (λ j. plus (f j) c) k (λ j l. plus_mono (largest_above f k j l) (⊑_refl c)))
    (⊎_elim at_bot at_place (largest_attained f k))
  where
    at_bot : largest f k ≡ bot → plus (largest f k) c ⊑ largest (λ j. plus (f j) c) k
    at_bot e = rw e blank_least

    at_place : Attains f k → plus (largest f k) c ⊑ largest (λ j. plus (f j) c) k
    at_place a = rw a.same (largest_above (λ j. plus (f j) c) k a.place a.inside)
