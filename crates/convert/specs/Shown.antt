-- What a result of the converter shows: the record in its buffer, or the line of its refusal.
use Rattle.std.specs.Prelude.{Result, Ok, Err, ℕ, ◌≤◌, ◌≡◌, List, length, take}
use Rattle.definitions.specs.Programs.{refused_line}
use Rattle.converter.specs.Steps.{record_most}
use Rattle.records.specs.declared.refusal.Refusal.{Refusal}
use Rattle.records.specs.Refusals.{number_of}

-- A record of this size that stands in the buffer and fits is put out.
abbrev pub shown_record : ℕ → List ℕ → List ℕ → Type 0
shown_record size buffer out = size ≤ length buffer → size ≤ record_most → out ≡ take size buffer

-- By the result: its record, or the line of its refusal.
abbrev pub Shown : Result ℕ Refusal → List ℕ → List ℕ → Type 0
Shown (Ok size) buffer out = shown_record size buffer out
Shown (Err r) buffer out = out ≡ refused_line (number_of r)
