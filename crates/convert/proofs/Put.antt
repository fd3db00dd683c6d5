-- What the convert program puts out is what document 02 says of its input.
use Prim.Native.Nat.{ℕ, zero, suc, ◌+◌, ◌≤◌, ◌<◌}
use mathlib.Core.Path.{◌≡◌, refl, ap, sym, subst, ◌∙◌}
use mathlib.Core.List.{List}
use native.Mathlib.Omega.{arith}
use lib.ListN.{length, take}
use lib.Seq.{length-take-le}
use borrow.Author.Tests.{le-ltb}
use Rattle.definitions.specs.Limits.{length_bytes}
use Rattle.definitions.specs.Bytes.{Bytes}
use Rattle.definitions.specs.ProblemRecord.{converter_kinds, header_refusal}
use Rattle.definitions.specs.AnswerRecord.{written}
use Rattle.definitions.specs.Programs as Programs
use Rattle.definitions.specs.Programs.{refused_line, KeptOf, ReadFrom, read_most}
use Rattle.definitions.specs.Conversion.{stored_refusal, converted_size, converted, convert_refusal, Converts, ConvertOutput, refusal, stored}
use Rattle.definitions.proofs.Bytes.{num_at_bound, bytes_take}
use Rattle.definitions.proofs.Inputs.{header_length}
use Rattle.definitions.proofs.Outcomes.{outcome-gives, outcome_refusal}
use Rattle.definitions.proofs.Refusals.{or_else_suc}
use Rattle.definitions.proofs.Put.{length_put, take_put}
use Rattle.converter.specs.Steps.{record_most, conversion_of}
use Rattle.std.specs.Prelude.{Result, Ok, Err}
use Rattle.records.specs.declared.refusal.Refusal.{Refusal}
use Rattle.records.specs.Refusals.{number_of}
use Rattle.converter.proofs.Converted.{stored_fits, converted_length, converted_most}
use Rattle.convert.specs.Shown.{Shown}

-- With a buffer that has room for the largest record the converter's refusal is the record's.
own_refusal : (s : List ℕ) (room k : ℕ) → record_most ≤ room → convert_refusal s room ≡ k → stored_refusal s ≡ k
unfolding convert_refusal
own_refusal s room k h e = go (stored_refusal s) refl
  where
    go : (i : ℕ) → stored_refusal s ≡ i → stored_refusal s ≡ k
    go zero f =
        let most = converted_most s (stored_fits s f).header in
        f ∙ sym (rw (f, le-ltb room (converted_size s) (omega arith)) refl) ∙ e
    go (suc i) f = sym (or_else_suc (stored_refusal s) _ (rw f (omega arith))) ∙ e

-- A refusal shows its line, a record itself.
pub convert_output : {input before after out : List ℕ} (r : Result ℕ Refusal) → Converts input before (conversion_of r) after → length before ≡ record_most → Shown r after out → ConvertOutput input out
unfolding written
convert_output {input} {before} {after} {out} (Err r) j b s =
    let g = outcome_refusal (convert_refusal input (length before)) (converted_size input) (number_of r) (sym j.result) in
    some (number_of r) refl g
  where
    some : (i : ℕ) → number_of r ≡ i → (convert_refusal input (length before) ≡ number_of r) × (0 < number_of r) → ConvertOutput input out
    some zero e g = absurd (omega (arith, g.1))
    some (suc i) e g = subst (ConvertOutput input) (sym (s ∙ ap refused_line e)) (refusal (own_refusal input (length before) (suc i) (omega arith) (g.0 ∙ e)))
convert_output {input} {before} {after} {out} (Ok size) j b s =
    let g = outcome-gives (convert_refusal input (length before)) (converted_size input) size (sym j.result) in
    let none = own_refusal input (length before) 0 (omega arith) g.0 in
    let h = (stored_fits input none).header in
    let long = converted_length input h in
    let most = converted_most input h in
    let put_is = j.record_is g.0 in
    let same : length after ≡ length before = ap length put_is ∙ length_put before 0 (converted input) (omega arith) (omega arith) in
    let size_is : size ≡ 0 + length (converted input) = omega (arith, g.1, long) in
    let bytes : take size after ≡ converted input = rw (put_is, size_is) (take_put before 0 (converted input) (omega arith)) in
    subst (ConvertOutput input) (sym (s (omega arith) (omega arith) ∙ bytes)) (stored none)

-- ---- from 2³³ bytes on

-- The length field of so long an input is another than its size.
far_stored : {s : List ℕ} → Bytes s → read_most ≤ length s → stored_refusal s ≡ 2
unfolding stored_refusal
far_stored {s} b h =
    let small = num_at_bound length_bytes 0 b in
    let two = header_length converter_kinds s (length s) (omega arith) (λ e. omega arith) in
    or_else_suc (header_refusal converter_kinds s (length s)) _ (omega arith) ∙ two

far_output : (input other : List ℕ) → Bytes input → Bytes other → read_most ≤ length input → read_most ≤ length other → {output : List ℕ} → ConvertOutput other output → ConvertOutput input output
far_output input other b c h g (refusal e) = refusal (far_stored b h ∙ sym (far_stored c g) ∙ e)
far_output input other b c h g (stored e) = absurd (let z = far_stored c g in omega arith)

pub convert_read : (kept : List ℕ) (size : ℕ) (output : List ℕ) → ((input : List ℕ) → KeptOf kept size input → ConvertOutput input output) → (input : List ℕ) → ReadFrom kept size input → ConvertOutput input output
convert_read kept size output f input (Programs.whole k) = f input k
convert_read kept size output f input (Programs.part b h g k) =
    far_output input (take size input) b (bytes_take size b) (omega arith) (omega (arith, length-take-le size input g)) (f (take size input) k)
