-- What a result of the engine shows: the records in its buffer, or the line of its refusal.
use Rattle.std.specs.Prelude.{Result, Ok, Err, ℕ, ◌*◌, ◌≤◌, ◌≡◌, List, length, take}
use Rattle.definitions.specs.Limits.{most_questions, answer_most}
use Rattle.definitions.specs.Programs.{refused_line}
use Rattle.records.specs.declared.refusal.Refusal.{Refusal}
use Rattle.records.specs.Refusals.{number_of}
use Rattle.engine.specs.declared.solve.Solution.{Solution}
use Rattle.engine.specs.declared.solve.Solution.TheVariants.{One, All}

-- Room for what is put out: 208 bytes for each of eight questions.
abbrev pub out_most : ℕ
out_most = most_questions * answer_most

-- Records of this size that stand in the buffer and fit are put out.
abbrev pub shown_records : ℕ → List ℕ → List ℕ → Type 0
shown_records size buffer out = size ≤ length buffer → size ≤ out_most → out ≡ take size buffer

-- By the result: the line of its refusal, its record, or its records.
abbrev pub Shown : Result Solution Refusal → List ℕ → List ℕ → Type 0
Shown (Err r) buffer out = out ≡ refused_line (number_of r)
Shown (Ok (One a)) buffer out = shown_records a.size buffer out
Shown (Ok (All count trials size)) buffer out = shown_records size buffer out
