-- The ends of a row: two places such that the others are blank.
use Rattle.std.specs.Prelude.{ℕ, ◌+◌, ◌*◌, ◌^◌, ◌<◌, ◌≡◌, cond, List, eqb, length, get_or, Option, Some, None}
use Rattle.definitions.specs.Limits.{stride, table_rows}
use Rattle.duality.specs.Height.{total}
use Rattle.policy_iteration.specs.declared.ends.Ends.{Ends}

-- 1 for an entry, 0 for a blank.
abbrev pub entry : ℕ → ℕ
entry k = cond (eqb k 0) 0 1

-- The bits of the first n places of a row that are not blank, as one number.
abbrev pub bits_in : List ℕ → ℕ → ℕ → ℕ
bits_in table row n = total (λ l. entry (get_or table (row * stride + l) 0) * 2 ^ l) n

-- Every place of the row but these two is blank.
pub record Holds (table : List ℕ) (row : ℕ) (ends : Ends) : Type 0 where
  pub first_is : ends.first < stride
  pub last_is : ends.last < stride
  pub others : (l : ℕ) → l < stride → (l ≡ ends.first → ⊥) → (l ≡ ends.last → ⊥) → get_or table (row * stride + l) 0 ≡ 0

-- The same where the ends are known.
pub record RowEnds (table : List ℕ) (row : ℕ) (ends : Option Ends) : Type 0 where
  pub known : (two : Ends) → ends ≡ Some two → Holds table row two

-- The same of every row with these bits.
pub record BitsEnds (bits : ℕ) (ends : Option Ends) : Type 0 where
  pub row : (table : List ℕ) (row : ℕ) → bits ≡ bits_in table row stride → RowEnds table row ends

-- The ends of the first rows of a table.
pub record EndsOf (table : List ℕ) (rows : ℕ) (ends : List (Option Ends)) : Type 0 where
  pub size : length ends ≡ table_rows
  pub each : (i : ℕ) → i < rows → RowEnds table i (get_or ends i None)
