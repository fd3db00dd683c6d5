-- How many stamps and picks there are at most.
use Rattle.std.proofs.Common.{ℕ, ◌≤◌, arith}
use Rattle.definitions.specs.Limits.{highest_n, highest_m, stride, table_rows}
use Rattle.definitions.specs.AnswerRecord.{stamp_count, pick_count}
use Rattle.definitions.proofs.RoundTrip.{by_class_each}

pub stamps_most : (class n : ℕ) → n ≤ highest_n → stamp_count class n ≤ stride
stamps_most class n h = by_class_each (λ k. k ≤ stride) class (omega arith) (omega arith) (omega arith) (omega arith)

pub picks_most : (class n m : ℕ) → n ≤ highest_n → m ≤ highest_m → pick_count class n m ≤ table_rows
picks_most class n m h k = by_class_each (λ k. k ≤ table_rows) class (omega arith) (omega arith) (omega arith) (omega arith)
