-- The tests of a number against a limit, on its offset number.
use Rattle.std.proofs.Common.{◌≡◌, ℕ, ◌+◌, ◌-◌, ◌<◌, ◌≤◌, true, false, leb, arith, eq-eqb, ne_eqb, le-leb}
use borrow.Author.Tests.{lt-leb}
use Rattle.definitions.specs.Limits.{signed_half}
use Rattle.definitions.specs.Bytes.{whole_within, blank_or_within}
use Rattle.definitions.specs.Offset.{trop_of}
use Rattle.definitions.proofs.Offset.{whole_offset, within_offset}

-- Below 2³¹ less the limit.
pub whole_low : (limit k : ℕ) → limit < signed_half → k < signed_half - limit → false ≡ whole_within limit (trop_of k)
whole_low limit k l h = rw (whole_offset limit k l, lt-leb signed_half (k + limit) (omega arith))

-- From there on the upper bound decides.
pub whole_high : (limit k : ℕ) → limit < signed_half → signed_half - limit ≤ k → leb k (signed_half + limit) ≡ whole_within limit (trop_of k)
whole_high limit k l h = rw (whole_offset limit k l, le-leb signed_half (k + limit) (omega arith))

pub within_blank : (limit k : ℕ) → limit < signed_half → k ≡ 0 → true ≡ blank_or_within limit (trop_of k)
within_blank limit k l e = rw (within_offset limit k l, eq-eqb k 0 e)

pub within_other : (limit k : ℕ) → limit < signed_half → (k ≡ 0 → ⊥) → whole_within limit (trop_of k) ≡ blank_or_within limit (trop_of k)
within_other limit k l e = rw (within_offset limit k l, ne_eqb k 0 e, whole_offset limit k l)
