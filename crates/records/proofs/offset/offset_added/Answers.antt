use Rattle.std.proofs.Common.{◌≡◌, ℕ, ◌+◌, ◌-◌, ◌%◌, ◌<◌, ◌≤◌, ⊎_elim, arith}
use Rattle.base.proofs.Numbers.{nat_le_or_lt}
use Rattle.definitions.specs.Limits.{signed_half, signed_full}
use Rattle.definitions.specs.Offset.{off}
use Rattle.records.proofs.offset.offset_added.Goals as goal

-- The offset number of a field without a sign, and of one with it.
off_low : (w : ℕ) → w < signed_half → off w ≡ w + signed_half
unfolding off
off_low w h = omega arith

off_high : (w : ℕ) → signed_half ≤ w → w < signed_full → off w ≡ w - signed_half
unfolding off
off_high w h k = omega arith

-- A number added to a field is added to its offset number.
off_plus : (w d r : ℕ) → w < signed_full → off w + d < signed_full → r ≡ (w + d) % signed_full → off r ≡ off w + d
off_plus w d r h k e = ⊎_elim
    (λ (l : signed_half ≤ w).
    let f = off_high w l h in
    ⊎_elim
    (λ (g : signed_full ≤ w + d). let q : r ≡ w + d - signed_full = omega arith in omega (arith, off_low r (omega arith)))
    (λ (g : w + d < signed_full). let q : r ≡ w + d = omega arith in omega (arith, off_high r (omega arith) (omega arith)))
    (nat_le_or_lt signed_full (w + d)))
    (λ (l : w < signed_half).
    let f = off_low w l in
    let q : r ≡ w + d = omega arith in
    omega (arith, off_low r (omega arith)))
    (nat_le_or_lt signed_half w)

pub returns : goal.returns
returns c = (off_plus _ _ _ c.requires.0 c.requires.1 c.wrapping_add_u32.ensures.value, omega arith)
