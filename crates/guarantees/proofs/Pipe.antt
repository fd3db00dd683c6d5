-- What the span program puts out for a problem within the layout, put behind that problem, is accepted by the verdict program,
-- with the class and span of the theory.
use Prim.Native.Nat.{ℕ, suc, ◌+◌}
use mathlib.Core.Path.{◌≡◌, refl, ap, sym, ◌∙◌}
use mathlib.Core.List.{List, ◌++◌}
use native.Mathlib.Omega.{arith}
use lib.ListN.{length, length-append}
use lib.Seq.{take-append_seam, drop-append_seam}
use Rattle.definitions.specs.Limits.{kept_bytes, length_bytes}
use Rattle.definitions.specs.Bytes.{Bytes}
use Rattle.definitions.specs.ProblemRecord.{WithinLayout, length_field}
use Rattle.definitions.specs.Programs as Programs
use Rattle.definitions.specs.Programs.{SpanOutput, VerdictOutput, ReadFrom, verdict_line, cut_place, problem_part, answer_part}
use Rattle.definitions.specs.Demands.{Word, Program, ProgramsAnswer}
use Rattle.definitions.proofs.Bytes.{num_at_front}
use Rattle.definitions.proofs.Inputs.{cut_inside}
use Rattle.definitions.proofs.Layouts.{problem_fits, within_asks, one_question}
use Rattle.guarantees.specs.Pipe.{Piped}
use Rattle.guarantees.proofs.Engine.{one_not_several, verdict_on, within_itself}

-- ---- where a problem with bytes behind it is cut

module _ (p rest : List ℕ) (w : WithinLayout p) where
  -- Its length field says where the problem ends.
  cut_behind : cut_place (p ++ rest) ≡ length p
  cut_behind =
      let fits = problem_fits p w in
      let enough = fits.size_enough in
      let ends = fits.length_is in
      let longer = length-append p rest in
      let same : length_field (p ++ rest) ≡ length_field p = num_at_front length_bytes p rest 0 (omega arith) in
      sym (cut_inside (p ++ rest) (omega arith) (omega arith)) ∙ ap (λ (k : ℕ). k + length_bytes) same ∙ ends

  pub problem_before : problem_part (p ++ rest) ≡ p
  unfolding problem_part
  problem_before = rw cut_behind (take-append_seam p rest)

  pub answer_behind : answer_part (p ++ rest) ≡ rest
  unfolding answer_part
  answer_behind = rw cut_behind (drop-append_seam p rest)

-- ---- the verdict on what was put out

pub span_then_verdict : (p out line : List ℕ) → WithinLayout p → SpanOutput p out → VerdictOutput (p ++ out) line → Piped p out line
span_then_verdict p out line w (Programs.refusal e) v =
    absurd (let z : suc _ ≡ 0 = sym e ∙ one_question p (within_asks p w) ∙ w in omega arith)
span_then_verdict p out line w (Programs.answers k e turn) v = absurd (one_not_several p (within_asks p w) k)
span_then_verdict p out line w (Programs.answer a k e ans) v =
    record {
      within = w;
      class = _;
      span = _;
      trials = _;
      answer = a;
      answers = ans;
      bytes = refl;
      says = v.line ∙ ap verdict_line (verdict_on p w a ans (rw (problem_before p out w, answer_behind p out w, within_itself p w) at v.judged));
    }

-- ---- the programs, one after the other

-- Any programs that put out what document 01 says: the second reads the problem and, behind it, what the first put out.
pub programs_piped : (span verdict : Program) → ProgramsAnswer span verdict
    → (kept : List ℕ) → Bytes kept → length kept ≡ kept_bytes → (size : ℕ) → Word size → (p : List ℕ) → ReadFrom kept size p → WithinLayout p
    → (kept' : List ℕ) → Bytes kept' → length kept' ≡ kept_bytes → (size' : ℕ) → Word size' → ReadFrom kept' size' (p ++ span kept size)
    → Piped p (span kept size) (verdict kept' size')
programs_piped span verdict programs kept b l size s p r w kept' b' l' size' s' r' =
    span_then_verdict p (span kept size) (verdict kept' size') w (rw (within_itself p w) at (programs.span_output kept b l size s p r)) (programs.verdict_output kept' b' l' size' s' (p ++ span kept size) r')
