-- What a program shows of what was put out.
use Prim.Native.Nat.{ℕ, ◌≤◌}
use mathlib.Core.Path.{◌≡◌}
use mathlib.Core.List.{List}
use native.Mathlib.Omega.{arith}
use lib.ListN.{length, take}
use Rattle.printing.specs.Text.{Output}

-- What fits is shown whole.
pub shown_whole : {before bytes after : List ℕ} {size room : ℕ} → Output before bytes after size → length before ≡ room → length bytes ≤ room
    → (size ≤ room) × (take size after ≡ bytes)
shown_whole o long fits = let s = o.shown (omega arith) in (omega (arith, s.0), s.1)
