-- What merging answers as one number: the low byte is the refusal, 0 where there is none.
use Rattle.std.specs.Prelude.{ℕ, ◌≡◌, List, ℤ}
use Rattle.definitions.specs.Bytes.{Outcome}
use Rattle.definitions.specs.Merging.{Merges}
use Rattle.capi.specs.Numbers.{written_number}

-- 256 × the bytes of the merged stamps, or the refusal; and the buffer.
pub record MergesAs (p a b : List ℕ) (t : ℤ) (before : List ℕ) (number : ℕ) (after : List ℕ) : Type 0 where
  pub result : Outcome ℕ
  pub merges : Merges p a b t before result after
  pub number_is : number ≡ written_number result
