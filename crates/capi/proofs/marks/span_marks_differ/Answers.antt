use mathlib.Core.Logic.{inl, inr}
use Rattle.capi.specs.Marks.{too_few}
use Rattle.capi.proofs.Compared.{compared_by}
use Rattle.capi.proofs.marks.span_marks_differ.Goals.{then-old-places-via-then-old-places, then-old-places-via-else-old-places+then-new-places}
use Rattle.capi.proofs.marks.span_marks_differ.Goals as goal

pub returns-then-old-places : goal.returns-then-old-places
returns-then-old-places c = elim c.then-old-places.branch [
  | then-old-places-via-then-old-places w ↦ too_few (inl w.if-old-places.true)
  | then-old-places-via-else-old-places+then-new-places w ↦ too_few (inr w.if-new-places.true)
]

pub returns : goal.returns
returns c = compared_by _ c.if-old-places.false c.if-new-places.false c.marks_differ.ensures c.from.ensures
