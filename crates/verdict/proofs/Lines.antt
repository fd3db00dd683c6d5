-- The line that the verdict program puts out is that of the verdict on its input.
use Rattle.std.proofs.Common.{◌≡◌, ℕ, List, length, take, ◌≤◌}
use Rattle.definitions.specs.ProblemRecord.{meant}
use Rattle.definitions.specs.Programs.{verdict_line, VerdictOutput, problem_part, answer_part}
use Rattle.definitions.specs.Verdict.{Verdict, Judged}
use Rattle.printing.specs.Text.{Output, line_most}
use Rattle.output.proofs.Shown.{shown_whole}

-- What the writer puts out is the line.
pub line_put : {before after : List ℕ} {r : ℕ} (v : Verdict) → length before ≡ line_most → Output before (verdict_line v) after r × (length (verdict_line v) ≤ line_most)
    → (r ≤ line_most) × (take r after ≡ verdict_line v)
line_put v room (put, short) = shown_whole put room short

pub line_shown : {input output : List ℕ} {v : Verdict} → Judged (meant (problem_part input)) (answer_part input) v → output ≡ verdict_line v → VerdictOutput input output
line_shown {v = v} j h = record { verdict = v; judged = j; line = h }
