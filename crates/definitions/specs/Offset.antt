-- Offset numbers: the form in which the programs keep leads, stamps and spans. 0 stands for blank, any other number k
-- for k − 2³¹. They are natural numbers in the order of what they stand for; two that are
-- not blank add up to 2³¹ more than the offset number of their sum.
use Rattle.std.specs.Prelude.{ℕ, ◌+◌, ◌%◌, cond, eqb}
use Rattle.std.proofs.Math.IntN.{sub_ℕ}
use Rattle.definitions.specs.Limits.{signed_half, signed_full}
use Rattle.definitions.specs.Tropical.{Trop, bot, fin}

-- What an offset number stands for.
unfoldable pub trop_of : ℕ → Trop
trop_of k = cond (eqb k 0) bot (fin (sub_ℕ k signed_half))

-- The offset number of a 4-byte field, and the 4-byte field of an offset number below 2³².
unfoldable pub off : ℕ → ℕ
off w = (w % signed_full + signed_half) % signed_full
