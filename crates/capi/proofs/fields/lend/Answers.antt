use mathlib.Core.Logic.{inl, inr}
use native.Mathlib.Omega.{arith}
use mathlib.Core.Path.{sym, ◌∙◌}
use lib.Seq.{length-take-le}
use Rattle.capi.specs.Numbers.{PlacesAs}
use Rattle.capi.proofs.Lent.{front_put, both_lent}
use Rattle.capi.proofs.fields.lend.Goals.{then-stamps_out-lt-STAMP_PLACES-via-then-stamps_out-lt-STAMP_PLACES, then-stamps_out-lt-STAMP_PLACES-via-else-stamps_out-lt-STAMP_PLACES+then-picks_out-lt-PICK_PLACES}
use Rattle.capi.proofs.fields.lend.Goals as goal

pub returns-then-stamps_out-lt-STAMP_PLACES : goal.returns-then-stamps_out-lt-STAMP_PLACES
returns-then-stamps_out-lt-STAMP_PLACES c = elim c.then-stamps_out-lt-STAMP_PLACES.branch [
  | then-stamps_out-lt-STAMP_PLACES-via-then-stamps_out-lt-STAMP_PLACES w ↦ PlacesAs.too_few (inl (omega (arith, w.if-stamps_out-lt-STAMP_PLACES.true)))
  | then-stamps_out-lt-STAMP_PLACES-via-else-stamps_out-lt-STAMP_PLACES+then-picks_out-lt-PICK_PLACES w ↦ PlacesAs.too_few (inr (omega (arith, w.if-picks_out-lt-PICK_PLACES.true)))
]

pub copy_from_slice-requires : goal.copy_from_slice-requires
copy_from_slice-requires c = length-take-le _ _ c.if-stamps_out-lt-STAMP_PLACES.false ∙ sym c.told-stamps

pub copy_from_slice-requires-2 : goal.copy_from_slice-requires-2
copy_from_slice-requires-2 c = length-take-le _ _ c.if-picks_out-lt-PICK_PLACES.false ∙ sym c.told-picks

pub returns : goal.returns
returns c =
    both_lent _ _ _ _ _ c.if-stamps_out-lt-STAMP_PLACES.false c.if-picks_out-lt-PICK_PLACES.false
    (front_put _ c.copy_from_slice.ensures.after c.told-stamps)
    (front_put _ c.copy_from_slice-2.ensures.after c.told-picks)
