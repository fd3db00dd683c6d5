-- The product and the floor of whole and of tropical numbers. All laws of the floor come from one:
-- d · a ≤ b exactly when a ≤ ⌊b / d⌋ (`times_floor`, `floor_times`).
use Prim.Native.Nat.{ℕ, suc, ◌+◌, ◌*◌, ◌-◌, ◌/◌, ◌≤◌, ◌<◌}
use mathlib.Core.Path.{◌≡◌, refl, ap, sym, ◌∙◌}
use mathlib.Core.Logic.{⊎_elim, ◌↔◌}
use native.Mathlib.Omega.{arith}
use native.Mathlib.Nat as NatL
use lib.IntN.{ℤ, pos, negsuc, neg_ℤ, ◌+ℤ◌, ◌-ℤ◌, ◌*ℤ◌, *ℤ-zero, +ℤ_idl}
use lib.Signed.{◌≤ℤ◌, ◌<ℤ◌}
use Rattle.definitions.specs.Tropical.{Trop, bot, fin, plus, ◌⊑◌, blank_least, whole_least}
use Rattle.definitions.specs.Scaling.{times}
use Rattle.definitions.proofs.Whole.{up, down, whole, plus_read, minus_read, neg_read, le_or_lt}
use Rattle.definitions.proofs.Tropical.{⊑_refl, ⊑_trans, fin_below, below_bot, bot_not_fin, plus_assoc, plus_mono}
use Rattle.scaling.specs.Floor.{floor, floored, rounded}

-- ---- the product, of whole numbers

-- A product, read for omega.
pub times_read : (d : ℕ) (a : ℤ) → up (pos d *ℤ a) + d * down a ≡ d * up a + down (pos d *ℤ a)
times_read d (pos b) = omega arith
times_read d (negsuc b) = omega (arith, neg_read (pos (d * suc b)))

pub times_plus_whole : (d : ℕ) (a b : ℤ) → pos d *ℤ (a +ℤ b) ≡ (pos d *ℤ a) +ℤ (pos d *ℤ b)
times_plus_whole d a b =
    let e : d * (up (a +ℤ b) + (down a + down b)) ≡ d * ((up a + up b) + down (a +ℤ b)) = ap (λ (k : ℕ). d * k) (plus_read a b) in
    omega (whole, plus_read (pos d *ℤ a) (pos d *ℤ b), times_read d (a +ℤ b), times_read d a, times_read d b)

pub times_minus_whole : (d : ℕ) (a b : ℤ) → pos d *ℤ (a -ℤ b) ≡ (pos d *ℤ a) -ℤ (pos d *ℤ b)
times_minus_whole d a b =
    let e : d * (up (a -ℤ b) + (down a + up b)) ≡ d * ((up a + down b) + down (a -ℤ b)) = ap (λ (k : ℕ). d * k) (minus_read a b) in
    omega (whole, minus_read (pos d *ℤ a) (pos d *ℤ b), times_read d (a -ℤ b), times_read d a, times_read d b)

pub times_mono_whole : (d : ℕ) {a b : ℤ} → a ≤ℤ b → (pos d *ℤ a) ≤ℤ (pos d *ℤ b)
times_mono_whole d {a} {b} h =
    let k : up a + down b ≤ up b + down a = omega whole in
    let e : d * (up a + down b) ≤ d * (up b + down a) = NatL.mul-le-mul_left d k in
    omega (whole, times_read d a, times_read d b)

pub times_cancel_whole : (d : ℕ) {a b : ℤ} → 1 ≤ d → (pos d *ℤ a) ≤ℤ (pos d *ℤ b) → a ≤ℤ b
times_cancel_whole d {a} {b} one h =
    let e : d * (up a + down b) ≤ d * (up b + down a) = omega (whole, times_read d a, times_read d b) in
    let k : up a + down b ≤ up b + down a = NatL.le_of_mul-le-mul_left {k = d} e one in
    omega whole

pub times_injective : (d : ℕ) {a b : ℤ} → 1 ≤ d → pos d *ℤ a ≡ pos d *ℤ b → a ≡ b
times_injective d {a} {b} one e =
    let h : a ≤ℤ b = times_cancel_whole d one (omega whole) in
    let k : b ≤ℤ a = times_cancel_whole d one (omega whole) in
    omega whole

-- ---- the floor, of whole numbers

-- d · ⌊b / d⌋ is at most b,
pub floor_below : (d : ℕ) (b : ℤ) → 1 ≤ d → (pos d *ℤ floor d b) ≤ℤ b
unfolding floor
floor_below d (pos k) one = omega (whole, times_read d (pos (k / d)), NatL.mul-div-le k d)
floor_below d (negsuc k) one = omega (whole, times_read d (negsuc (k / d)), NatL.lt-mul-div-succ k one)

-- and b lies less than d above it.
pub floor_above : (d : ℕ) (b : ℤ) → 1 ≤ d → b <ℤ ((pos d *ℤ floor d b) +ℤ pos d)
unfolding floor
floor_above d (pos k) one = omega (whole, plus_read (pos d *ℤ pos (k / d)) (pos d), times_read d (pos (k / d)), NatL.lt-mul-div-succ k one)
floor_above d (negsuc k) one = omega (whole, plus_read (pos d *ℤ negsuc (k / d)) (pos d), times_read d (negsuc (k / d)), NatL.mul-div-le k d)

-- What is at most the floor has its d-fold at most b,
pub floor_times : (d : ℕ) {a b : ℤ} → 1 ≤ d → a ≤ℤ floor d b → (pos d *ℤ a) ≤ℤ b
floor_times d {a} {b} one h =
    let k : (pos d *ℤ a) ≤ℤ (pos d *ℤ floor d b) = times_mono_whole d h in omega (whole, floor_below d b one)

-- and the converse.
pub times_floor : (d : ℕ) {a b : ℤ} → 1 ≤ d → (pos d *ℤ a) ≤ℤ b → a ≤ℤ floor d b
times_floor d {a} {b} one h = ⊎_elim
    (λ (k : a ≤ℤ floor d b). k)
    (λ (k : floor d b <ℤ a).
    let l : (floor d b +ℤ pos 1) ≤ℤ a = omega (whole, plus_read (floor d b) (pos 1)) in
    let m : (pos d *ℤ (floor d b +ℤ pos 1)) ≤ℤ (pos d *ℤ a) = times_mono_whole d l in
    let e : pos d *ℤ (floor d b +ℤ pos 1) ≡ (pos d *ℤ floor d b) +ℤ (pos d *ℤ pos 1) = times_plus_whole d (floor d b) (pos 1) in
    absurd (omega (whole, floor_above d b one, plus_read (pos d *ℤ floor d b) (pos d), plus_read (pos d *ℤ floor d b) (pos d *ℤ pos 1))))
    (le_or_lt a (floor d b))

-- The floor of a number below d is zero.
pub floor_small : (d r : ℕ) → r < d → floor d (pos r) ≡ pos 0
unfolding floor
floor_small d r h = ap pos (NatL.div-eq_of_lt h)

-- The floor of a multiple of d.
pub floor_of_times : (d : ℕ) (a : ℤ) → 1 ≤ d → floor d (pos d *ℤ a) ≡ a
floor_of_times d a one =
    let h : a ≤ℤ floor d (pos d *ℤ a) = times_floor d one (omega whole) in
    let k : floor d (pos d *ℤ a) ≤ℤ a = times_cancel_whole d one (floor_below d (pos d *ℤ a) one) in
    omega whole

-- What is missing from g to the next multiple of d.
pub record Missing (d : ℕ) (g : ℤ) : Type 0 where
  pub parts : ℕ
  pub few : parts < d
  pub next : ℤ
  pub is : g +ℤ pos parts ≡ pos d *ℤ next

pub missing : (d : ℕ) (g : ℤ) → 1 ≤ d → Missing d g
missing d g one = from (floor d (neg_ℤ g)) (floor_below d (neg_ℤ g) one) (floor_above d (neg_ℤ g) one)
  where
    from : (f : ℤ) → (pos d *ℤ f) ≤ℤ neg_ℤ g → neg_ℤ g <ℤ ((pos d *ℤ f) +ℤ pos d) → Missing d g
    from f h k =
        let e : d * (up (neg_ℤ f) + up f) ≡ d * (down (neg_ℤ f) + down f) = ap (λ (i : ℕ). d * i) (neg_read f) in
        record {
          parts = (d * down f + down g) - (d * up f + up g);
          few = omega (whole, neg_read g, times_read d f, plus_read (pos d *ℤ f) (pos d));
          next = neg_ℤ f;
          is = omega (whole, neg_read g, times_read d f, times_read d (neg_ℤ f), plus_read g (pos ((d * down f + down g) - (d * up f + up g))));
        }

-- A multiple of d goes through the floor.
pub floor_plus : (d : ℕ) (a b : ℤ) → 1 ≤ d → floor d ((pos d *ℤ a) +ℤ b) ≡ a +ℤ floor d b
floor_plus d a b one =
    let q : ℤ = floor d ((pos d *ℤ a) +ℤ b) in
    let h : (a +ℤ floor d b) ≤ℤ q = times_floor d one
    (omega (whole, times_plus_whole d a (floor d b), floor_below d b one, plus_read (pos d *ℤ a) b, plus_read (pos d *ℤ a) (pos d *ℤ floor d b))) in
    let k : (q -ℤ a) ≤ℤ floor d b = times_floor d one
    (omega (whole, times_minus_whole d q a, floor_below d ((pos d *ℤ a) +ℤ b) one, plus_read (pos d *ℤ a) b, minus_read (pos d *ℤ q) (pos d *ℤ a))) in
    omega (whole, plus_read a (floor d b), minus_read q a)

-- ---- the product, of tropical numbers

pub times_mono : (d : ℕ) {x y : Trop} → x ⊑ y → times d x ⊑ times d y
unfolding times
times_mono d blank_least = blank_least
times_mono d (whole_least h) = whole_least (times_mono_whole d h)

pub times_plus : (d : ℕ) (x y : Trop) → times d (plus x y) ≡ plus (times d x) (times d y)
unfolding times plus
times_plus d bot y = refl
times_plus d (fin a) bot = refl
times_plus d (fin a) (fin b) = ap fin (times_plus_whole d a b)

pub times_zero : (d : ℕ) → times d (fin (pos 0)) ≡ fin (pos 0)
unfolding times
times_zero d = ap fin (*ℤ-zero (pos d))

-- ---- the floor, of tropical numbers

-- What is at most the floor has its d-fold at most y,
pub floored_times : (d : ℕ) {x y : Trop} → 1 ≤ d → x ⊑ floored d y → times d x ⊑ y
unfolding times floored
floored_times d {x = bot} {y} one h = blank_least
floored_times d {x = fin a} {y = bot} one h = absurd (bot_not_fin (sym (below_bot h)))
floored_times d {x = fin a} {y = fin b} one h = whole_least (floor_times d one (fin_below h))

-- and the converse.
pub times_floored : (d : ℕ) {x y : Trop} → 1 ≤ d → times d x ⊑ y → x ⊑ floored d y
unfolding times floored
times_floored d {x = bot} {y} one h = blank_least
times_floored d {x = fin a} {y = bot} one h = absurd (bot_not_fin (sym (below_bot h)))
times_floored d {x = fin a} {y = fin b} one h = whole_least (times_floor d one (fin_below h))

pub floored_mono : (d : ℕ) {x y : Trop} → 1 ≤ d → x ⊑ y → floored d x ⊑ floored d y
floored_mono d {x} one h = times_floored d one (⊑_trans (floored_times d one (⊑_refl (floored d x))) h)

pub floored_plus : (d : ℕ) (c y : Trop) → 1 ≤ d → floored d (plus (times d c) y) ≡ plus c (floored d y)
unfolding times floored plus
floored_plus d bot y one = refl
floored_plus d (fin a) bot one = refl
floored_plus d (fin a) (fin b) one = ap fin (floor_plus d a b one)

-- ---- the floor after r is added

pub rounded_mono : (d r : ℕ) {x y : Trop} → 1 ≤ d → x ⊑ y → rounded d r x ⊑ rounded d r y
rounded_mono d r one h = floored_mono d one (plus_mono h (⊑_refl (fin (pos r))))

pub rounded_plus : (d r : ℕ) (c y : Trop) → 1 ≤ d → rounded d r (plus (times d c) y) ≡ plus c (rounded d r y)
rounded_plus d r c y one = ap (floored d) (plus_assoc (times d c) y (fin (pos r))) ∙ floored_plus d c (plus y (fin (pos r))) one

-- The anchor stays at zero.
pub rounded_zero : (d r : ℕ) → r < d → rounded d r (fin (pos 0)) ≡ fin (pos 0)
unfolding floored plus
rounded_zero d r h = ap fin (ap (floor d) (+ℤ_idl (pos r)) ∙ floor_small d r h)

-- ---- blank stays blank, and nothing else becomes blank

pub times_blank : (d : ℕ) (x : Trop) → (times d x ≡ bot) ↔ (x ≡ bot)
unfolding times
times_blank d bot = (λ e. refl, λ e. refl)
times_blank d (fin a) = (λ e. absurd (bot_not_fin (sym e)), λ e. absurd (bot_not_fin (sym e)))

pub rounded_blank : (d r : ℕ) (y : Trop) → (rounded d r y ≡ bot) ↔ (y ≡ bot)
unfolding floored plus
rounded_blank d r bot = (λ e. refl, λ e. refl)
rounded_blank d r (fin a) = (λ e. absurd (bot_not_fin (sym e)), λ e. absurd (bot_not_fin (sym e)))
