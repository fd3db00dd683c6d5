-- Document 02, 2.6, of the definition: what holds of every converted record.
use mathlib.Core.Path.{◌≡◌}
use Rattle.definitions.specs.Conversion.{ConvertedWell, ConversionKeeps, converted, stored_refusal}
use Rattle.definitions.specs.Bytes.{Bytes}
use mathlib.Core.List.{List}
use Prim.Native.Nat.{ℕ}
use Rattle.converter.proofs.Converted.{stored_fits, converted_within, converted_stored, converted_kind, converted_asked, converted_bytes}
use Rattle.converter.proofs.Once.{stays}
use Rattle.converter.proofs.Same.{same_class}

pub converted_well : (s : List ℕ) → Bytes s → stored_refusal s ≡ 0 → ConvertedWell s
converted_well s b e =
    let f = stored_fits s e in
    record {
      within = converted_within s f;
      same_kind = converted_kind s f.header;
      same_questions = converted_asked s f.header;
      same_class = same_class s f.header;
      once = stays (converted s) (converted_bytes s b) (converted_stored s f);
    }

pub conversion_keeps : ConversionKeeps
conversion_keeps = record { well = converted_well; stays = stays }
