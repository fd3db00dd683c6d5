-- Offset numbers near 0.
use Rattle.std.proofs.Common.{◌≡◌, ℕ, ◌+◌, ◌<◌, ◌≤◌, true, ⊎_elim, arith}
use Rattle.definitions.specs.Limits.{signed_half}
use Rattle.definitions.specs.Bytes.{blank_or_within}
use Rattle.definitions.specs.Offset.{trop_of}
use Rattle.definitions.proofs.Offset.{within_iff}
use Rattle.records.specs.Decoded.{Near}

-- 0 is near.
pub near_zero : (d : ℕ) → Near d 0
near_zero d = record { hi = omega arith; lo = λ h. absurd (omega arith) }

-- A lead within a limit is near by it.
pub near_within : (d k : ℕ) → d < signed_half → blank_or_within d (trop_of k) ≡ true → Near d k
near_within d k h e = ⊎_elim
    (λ (z : k ≡ 0). rw z (near_zero d))
    (λ (b : (signed_half ≤ k + d) × (k ≤ signed_half + d)). record { hi = b.1; lo = λ _. b.0 })
    ((within_iff d k h).0 e)
