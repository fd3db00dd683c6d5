use mathlib.Core.Logic.{inl, inr}
use Rattle.capi.specs.Numbers.{PlacesAs}
use Rattle.capi.proofs.Lent.{both_lent}
use Rattle.capi.proofs.behind.lend_numbers.Goals.{then-round_out-lt-STRIDE-via-then-round_out-lt-STRIDE, then-round_out-lt-STRIDE-via-else-round_out-lt-STRIDE+then-rules_out-lt-ROWS}
use Rattle.capi.proofs.behind.lend_numbers.Goals as goal

pub returns-then-round_out-lt-STRIDE : goal.returns-then-round_out-lt-STRIDE
returns-then-round_out-lt-STRIDE c = elim c.then-round_out-lt-STRIDE.branch [
  | then-round_out-lt-STRIDE-via-then-round_out-lt-STRIDE w ↦ PlacesAs.too_few (inl w.if-round_out-lt-STRIDE.true)
  | then-round_out-lt-STRIDE-via-else-round_out-lt-STRIDE+then-rules_out-lt-ROWS w ↦ PlacesAs.too_few (inr w.if-rules_out-lt-ROWS.true)
]

pub returns : goal.returns
returns c = both_lent _ _ _ _ _ c.if-round_out-lt-STRIDE.false c.if-rules_out-lt-ROWS.false c.copy_numbers.ensures c.copy_numbers-2.ensures
