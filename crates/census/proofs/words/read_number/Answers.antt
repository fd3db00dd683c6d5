use native.Mathlib.Omega.{arith}
use mathlib.Core.Path.{sym, ◌∙◌}
use Rattle.std.proofs.lemmas.Bool.Decides.{nat_tests}
use Rattle.census.specs.Words.{other}
use Rattle.census.proofs.Reading.{read_none, read_more, read_number, read_other, read_empty, digit_is}
use Rattle.census.proofs.words.read_number.Goals as goal

pub returns-then-is_empty : goal.returns-then-is_empty
returns-then-is_empty c = other (read_empty _ (grind (arith, nat_tests)))

pub loop-byte-init : goal.loop-byte-init
loop-byte-init c = (omega arith, read_none _)

pub returns-then-not-is_ascii_digit : goal.returns-then-not-is_ascii_digit
returns-then-not-is_ascii_digit c = other (read_other _ c.loop-byte.byte-index (omega arith) (digit_is _ ∙ sym c.is_ascii_digit.ensures.value ∙ c.if-not-is_ascii_digit.true))

pub loop-byte-preserved : goal.loop-byte-preserved
loop-byte-preserved c = (
  c.longer-value.ensures.1,
  read_more c.loop-byte.invariant.1 (omega arith) (digit_is _ ∙ sym c.is_ascii_digit.ensures.value ∙ c.if-not-is_ascii_digit.false) c.longer-value.ensures.0,
)

pub returns : goal.returns
returns c = read_number c.loop-byte.invariant.1 (grind (arith, nat_tests)) (omega arith) (omega arith)
