-- What merging answers, in the words of the definitions, and what its steps ask and leave.
use Rattle.std.specs.Prelude.{ℕ, suc, ◌*◌, ◌≤◌, ◌≡◌, Bool, true, false, List, map, Result}
use Rattle.definitions.specs.Limits.{signed_bytes, merged_most, refused_early}
use Rattle.definitions.specs.Problem.{Point}
use Rattle.definitions.specs.Bytes.{fields, field_of, some_below, Outcome, refusal, gives}
use Rattle.definitions.specs.ProblemRecord.{n_field, WithinLayout, problem_of, list_of}
use Rattle.definitions.specs.AnswerRecord.{written}
use Rattle.definitions.specs.Merging.{plan_fits, merged, early}
use Rattle.records.specs.Stamps.{stamps_point}
use Rattle.records.specs.Decoded.{InTables}
use Rattle.records.specs.declared.refusal.Refusal.{Refusal}
use Rattle.records.specs.Refusals.{outcome_by}
use Rattle.merging.specs.Plans.{back_by}

-- The papers' result for each case: how many bytes are written, or the number of the refusal.
abbrev pub merged_of : Result ℕ Refusal → Outcome ℕ
merged_of r = outcome_by (λ size. size) r

-- A problem within the layout, of this n and m, was read into the tables.
pub record Read (p : List ℕ) (n m : ℕ) (left right : List ℕ) : Type 0 where
  pub within : WithinLayout p
  pub n_is : n_field p ≡ n
  pub stands : InTables (problem_of p) n m left right

-- Some problem was; both plans have the right form, and the buffer has room.
pub record Posed (n m : ℕ) (left right first second : List ℕ) (room : ℕ) : Type 0 where
  pub problem : List ℕ
  pub read : Read problem n m left right
  pub first_fits : plan_fits n first ≡ true
  pub second_fits : plan_fits n second ≡ true
  pub room_enough : merged_most ≤ room

-- The plan merged from stamps, the second moved back; one of its first stamps is below the least.
abbrev pub joined : ℕ → List ℕ → List ℕ → Point
joined back first second = merged (back_by back) (stamps_point first) (stamps_point second)

abbrev pub joined_early : ℕ → List ℕ → List ℕ → ℕ → Bool
joined_early back first second count = some_below (λ j. early (joined back first second j)) count

-- What is left of two plans that keep the rules: 26 and the buffer as it was, or the merged stamps at its start.
pub data Wrote (n back : ℕ) (first second before : List ℕ) : Outcome ℕ → List ℕ → Type 0 where
  below : joined_early back first second (suc n) ≡ true → Wrote n back first second before (refusal refused_early) before
  above :
      joined_early back first second (suc n) ≡ false
      → Wrote n back first second before (gives (signed_bytes * suc n))
      (written before (fields signed_bytes (map field_of (list_of (joined back first second) (suc n)))))
