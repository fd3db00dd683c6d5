-- Several questions over the same rules: document 02, 2.1. A problem of kind 3 has its rules once, then up to eight questions.
use Rattle.std.specs.Prelude.{ℕ, suc, ◌+◌, ◌*◌, cond, List, ◌++◌, eqb, take, drop}
use Rattle.definitions.specs.Limits.{signed_bytes, questions_header}
use Rattle.definitions.specs.ProblemRecord.{kind_field, n_field, m_field, by_questions, row_place, header_bytes}

-- `count` bytes of a string from a place on; fewer where it ends before.
abbrev pub part : List ℕ → ℕ → ℕ → List ℕ
part s from count = take count (drop from s)

-- The bytes of `count` rows of n + 1 variables.
abbrev pub rows_size : ℕ → ℕ → ℕ
rows_size n count = 2 * signed_bytes * (count * suc n)

-- "A kind 1 problem with that question alone": n, m and the rules of the record, then the row of question q, counted from 0 and
-- below the record's count.
unfoldable pub alone : List ℕ → ℕ → List ℕ
alone s q =
    header_bytes (n_field s) (m_field s)
    ++ (part s questions_header (rows_size (n_field s) (m_field s))
    ++ part s (row_place questions_header (n_field s) (m_field s + q)) (rows_size (n_field s) 1))

-- The record of question q: where several are asked, its kind 1 record; a record of one question is its own.
abbrev pub asking : List ℕ → ℕ → List ℕ
asking s q = by_questions (kind_field s) (alone s q) s

-- Row i of `alone s q` is this row of the record: the rules as they stand, and question q for the question.
abbrev pub asked_row : ℕ → ℕ → ℕ → ℕ
asked_row m q i = cond (eqb i m) (m + q) i
