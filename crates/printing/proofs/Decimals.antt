-- A decimal number put digit by digit: the tenth part, then the last digit.
use Prim.Native.Nat.{ℕ, ◌+◌, ◌/◌, ◌%◌, ◌≤◌, ◌<◌}
use mathlib.Core.Path.{◌≡◌, ap, ◌∙◌}
use mathlib.Core.List.{List, [], ◌∷◌}
use native.Mathlib.Omega.{arith}
use lib.ListN.{length, set, length-append}
use Rattle.definitions.specs.Programs.{decimal}
use Rattle.definitions.proofs.Programs.{decimal_one, decimal_more, decimal_few}
use Rattle.printing.specs.Text.{Putting}
use Rattle.printing.proofs.Copy.{put_single, put_then}

-- One digit.
pub decimal_put : (l : List ℕ) (at number digit : ℕ) → digit ≡ 48 + number → number < 10 → at < length l → Putting l at (decimal number) (set l at digit) (at + 1)
decimal_put l at number digit e h room = rw (e, decimal_one number h) (put_single l at (48 + number) room)

-- One digit more than the tenth part.
pub decimal_puts : {l : List ℕ} {at number : ℕ} {mid : List ℕ} {next digit : ℕ} → Putting l at (decimal (number / 10)) mid next → digit ≡ 48 + number % 10
    → 10 ≤ number → next < length l → Putting l at (decimal number) (set mid next digit) (next + 1)
decimal_puts {l} {at} {number} {mid} {next} {digit} p e h room =
    rw (e, decimal_more number h) (put_then p (put_single mid next (48 + number % 10) (omega (arith, p.kept))) (omega (arith, p.next_is)))

-- A number from 10 on has one digit more than its tenth part.
pub decimal_longer : (number : ℕ) → 10 ≤ number → length (decimal number) ≡ length (decimal (number / 10)) + 1
decimal_longer number h = ap length (decimal_more number h) ∙ length-append (decimal (number / 10)) ((48 + number % 10) ∷ [])

-- A number of 64 bits has at most 20 digits.
pub decimal_most : (number : ℕ) → number < 18446744073709551616 → length (decimal number) ≤ 20
decimal_most number h = decimal_few 19 number (omega arith)
