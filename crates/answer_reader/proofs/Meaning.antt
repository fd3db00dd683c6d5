-- What the arrays that the reader fills mean: the stamps and the picks of the answer in the bytes, at every index.
use Prim.Native.Nat.{ℕ}
use mathlib.Core.Path.{◌≡◌, sym}
use mathlib.Core.List.{List}
use lib.ListN.{get_or}
use Rattle.definitions.specs.Bytes.{Bytes}
use Rattle.definitions.specs.Offset.{trop_of}
use Rattle.definitions.specs.AnswerRecord.{answer_of, answer_refusal}
use Rattle.definitions.specs.Verdict.{point_of, strategy_of}
use Rattle.answer_reader.specs.Fields.{stamps_of}
use Rattle.answer_reader.specs.AnswerReading.{AnswerRead}
use Rattle.std.proofs.Common.{Result}
use Rattle.records.specs.declared.refusal.Refusal.{Refusal}
use Rattle.answer_reader.specs.declared.answer.Head.{Head}
use Rattle.answer_reader.proofs.Passing.{trop_at_lem}
use Rattle.answer_reader.proofs.Judging.{stamps_meant, picks_meant}

module _ {s : List ℕ} {n m : ℕ} {head : Result Head Refusal} {stamps-before stamps picks-before picks : List ℕ}
    (read : AnswerRead s n m head stamps-before stamps picks-before picks) (accepted : answer_refusal s n m ≡ 0) where
  -- At every index the array of stamps is the answer's point: blank behind the last.
  pub stamps_point_lem : Bytes s → (j : ℕ) → trop_of (get_or stamps j 0) ≡ point_of (answer_of s n m).stamps j
  unfolding point_of
  stamps_point_lem b j = rw ((read.stamps_read accepted).element j, ← stamps_meant b n m) (sym (trop_at_lem (stamps_of s n) j))

  -- At every index the array of picks is the answer's strategy: no pick behind the last.
  pub picks_strategy : (j : ℕ) → get_or picks j 0 ≡ strategy_of (answer_of s n m).picks j
  unfolding strategy_of
  picks_strategy j = rw ((read.picks_read accepted).element j, picks_meant s n m)
