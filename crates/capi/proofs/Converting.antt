-- The converter's result as a number.
use Prim.Native.Nat.{ℕ}
use mathlib.Core.Path.{◌≡◌}
use mathlib.Core.List.{List}
use Rattle.std.specs.Prelude.{Result}
use native.Mathlib.Omega.{arith}
use lib.ListN.{length}
use Rattle.definitions.specs.Conversion.{stored_refusal, convert_refusal, converted_size, Converts}
use Rattle.definitions.proofs.Refusals.{or_else_none}
use Rattle.records.specs.declared.refusal.Refusal.{Refusal}
use Rattle.records.proofs.Refusing.{was_ok}
use Rattle.converter.specs.Steps.{conversion_of}
use Rattle.converter.proofs.Converted.{stored_fits, converted_most}
use Rattle.capi.specs.Numbers.{Small}

pub small_conversion : {s before after : List ℕ} {r : Result ℕ Refusal} → Converts s before (conversion_of r) after → Small r
unfolding convert_refusal
small_conversion {s} {before} {r = r} c = record {
  small = λ {k = size} e.
      let g = was_ok (λ k. k) (convert_refusal s (length before)) (converted_size s) c.result e in
      let none : stored_refusal s ≡ 0 = ((or_else_none _ _).0 g.0).0 in
      omega (arith, g.1, converted_most s (stored_fits s none).header);
}
