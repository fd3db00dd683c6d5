-- The converter's result as one number: the low byte is the refusal, 0 where there is none.
use Rattle.std.specs.Prelude.{ℕ, ◌≡◌, List}
use Rattle.definitions.specs.Bytes.{Outcome}
use Rattle.definitions.specs.Conversion.{Converts}
use Rattle.capi.specs.Numbers.{written_number}

-- 256 × the size of the record, or the refusal; and the buffer.
pub record ConvertsAs (s before : List ℕ) (number : ℕ) (after : List ℕ) : Type 0 where
  pub result : Outcome ℕ
  pub converts : Converts s before result after
  pub number_is : number ≡ written_number result
