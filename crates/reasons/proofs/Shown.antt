-- The lines that the reasons program puts out are those of the reasons for its input.
use Prim.Native.Nat.{ℕ, ◌+◌, ◌≤◌}
use mathlib.Core.Path.{◌≡◌, ◌∙◌}
use mathlib.Core.List.{List, ◌++◌, append_assoc}
use native.Mathlib.Omega.{arith}
use lib.ListN.{length, take}
use Rattle.definitions.specs.ProblemRecord.{meant}
use Rattle.definitions.specs.Programs.{verdict_line, newline, problem_part, answer_part}
use Rattle.definitions.specs.Reasons as Reasons
use Rattle.definitions.specs.Reasons.{Reasoned, ReasonsOutput, spaced, text_rules, text_round, reasons_lines, of_none, of_least}
use Rattle.definitions.specs.Verdict as Verdicts
use Rattle.printing.specs.Text.{Putting, Output}
use Rattle.printing.proofs.Copy.{put_then}
use Rattle.printing.proofs.Appending.{append_fits, output_of}
use Rattle.reasons.specs.Lines.{lines_most}

-- ---- lines

-- A word, numbers and the newline.
pub line_at :
    {l a one : List ℕ} {at i : ℕ} {b two : List ℕ} {j : ℕ} {after : List ℕ} {next : ℕ} → Putting l at a one i → Putting one i b two j
    → Putting two j newline after next → i ≤ length one → at ≤ length l → Putting l at (a ++ (b ++ newline)) after next
line_at p q r inside room = put_then p (put_then q r inside) room

-- What stands at the front is what is put out.
put_shown : {l v after : List ℕ} {r : ℕ} → Putting l 0 v after r → r ≤ length l → take r after ≡ v
put_shown {l} {v} p h = let room : 0 + length v ≤ length l = omega (arith, p.next_is) in ((output_of (append_fits p room)).shown (omega arith)).1

module _ {l after : List ℕ} {r : ℕ} (long : length l ≡ lines_most) where
  -- What the program puts out for a refusal, for none, and for least.
  pub shown_refused :
      (number : ℕ) {told : ℕ} → told ≡ number → Output l (verdict_line (Verdicts.refused told)) after r → length (verdict_line (Verdicts.refused told)) ≤ 64
      → (r ≤ lines_most) × (take r after ≡ reasons_lines (Reasons.refused number))
  unfolding reasons_lines
  shown_refused number e p h = rw (← e) (let s = p.shown (omega arith) in (omega (arith, s.0, h), s.1))

  pub shown_none : (rules : List ℕ) → Putting l 0 (text_rules ++ (spaced rules ++ newline)) after r → r ≤ lines_most → take r after ≡ reasons_lines (of_none rules)
  unfolding reasons_lines
  shown_none rules p b = put_shown p (omega arith)

  pub shown_least :
      (rules round : List ℕ) {mid : List ℕ} {next : ℕ} → Putting l 0 (text_rules ++ (spaced rules ++ newline)) mid next
      → Putting mid next (text_round ++ (spaced round ++ newline)) after r → r ≤ lines_most → take r after ≡ reasons_lines (of_least rules round)
  unfolding reasons_lines
  shown_least rules round p q b =
      let a = text_rules in
      let s = spaced rules in
      let d = text_round ++ (spaced round ++ newline) in
      let same : (a ++ (s ++ newline)) ++ d ≡ a ++ (s ++ (newline ++ d)) = simp append_assoc in
      put_shown (put_then p q (omega arith)) (omega arith) ∙ same

pub lines_shown :
    {input output : List ℕ} {r : Reasons.Reasons} → Reasoned (meant (problem_part input)) (answer_part input) r → output ≡ reasons_lines r → ReasonsOutput input output
lines_shown {r = r} j h = record { reasons = r; reasoned = j; lines = h }
