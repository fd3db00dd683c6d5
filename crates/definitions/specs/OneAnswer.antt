-- What an engine writes depends on the record alone. Document 02, 2.1: "Each is the answer to a kind 1 problem with that question alone."
use Rattle.std.specs.Prelude.{ℕ, zero, suc, ◌≤◌, ◌≡◌, List, [], ◌++◌, length, take}
use Rattle.definitions.specs.Limits.{questions_kind, answer_most}
use Rattle.definitions.specs.ProblemRecord.{meant, kind_field, count_field}
use Rattle.definitions.specs.Questions.{alone}
use Rattle.definitions.specs.Solved.{Solved, refused, answered, all_answered, engine_refusal}
use Rattle.definitions.specs.Demands.{Slice, Engine}

-- How many bytes of the buffer a result says are written.
unfoldable pub size_of : Solved → ℕ
size_of (refused k) = 0
size_of (answered class span trials size) = size
size_of (all_answered count trials size) = size

-- The bytes that the engine writes for a record into a lent buffer.
abbrev pub written_for : Engine → List ℕ → List ℕ → List ℕ
written_for engine p buffer = take (size_of (engine.result p buffer)) (engine.buffer p buffer)

-- Those of calls with each of the first questions of a record alone, one after another; each is lent this buffer.
unfoldable pub written_alone : Engine → List ℕ → List ℕ → ℕ → List ℕ
written_alone engine p buffer zero = []
written_alone engine p buffer (suc q) = written_alone engine p buffer q ++ written_for engine (alone p q) buffer

pub record OneAnswer (engine : Engine) : Type 0 where
  -- Whatever stood in two buffers that are long enough, the same record gets the same result and the same bytes.
  pub one :
      (p before other : List ℕ) → Slice p → Slice before → Slice other → engine_refusal (meant p) (length before) ≡ 0
      → engine_refusal (meant p) (length other) ≡ 0
      → (engine.result p before ≡ engine.result p other) × (written_for engine p before ≡ written_for engine p other)
  -- To several questions it writes what calls with each question alone write, byte for byte.
  pub each :
      (p before other : List ℕ) → Slice p → Slice before → Slice other → kind_field p ≡ questions_kind → engine_refusal p (length before) ≡ 0
      → answer_most ≤ length other → written_for engine p before ≡ written_alone engine p other (count_field p)
