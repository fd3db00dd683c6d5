-- How long the lines of the reasons can be, and of what they are.
use Rattle.std.specs.Prelude.{ℕ, ◌+◌, ◌*◌, Result, Ok, Err}
use Rattle.definitions.specs.Limits.{highest_m, stride}
use Rattle.definitions.specs.Reasons.{Reasons, refused}
use Rattle.grounds.specs.Outcome.{told_by}
use Rattle.grounds.specs.declared.reasons.Grounds.{Grounds}

-- A space and a number take no more bytes: a number of 64 bits has 20 digits at most.
abbrev pub number_most : ℕ
number_most = 21

-- Two lines, each a word of five bytes and a newline: 63 rules and 32 moments.
abbrev pub lines_most : ℕ
lines_most = 2 * (5 + 1) + number_most * (highest_m + stride)

-- What is told, or a refusal by its number, which may be any.
abbrev pub numbered : Result Grounds ℕ → Reasons
numbered (Ok g) = told_by g.rules g.round
numbered (Err k) = refused k
