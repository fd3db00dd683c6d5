-- From what reading and judging answer to the verdict of the definitions; for all bytes there is one verdict, and only one.
use Prim.Native.Nat.{ℕ, zero, suc, ◌<◌}
use mathlib.Core.Path.{◌≡◌, refl, ap}
use mathlib.Core.Bool.{Bool, true, false}
use mathlib.Core.List.{List}
use native.Mathlib.Omega.{arith}
use Rattle.base.specs.Decides.{Decides}
use Rattle.definitions.specs.Bytes.{or_else}
use Rattle.definitions.specs.Offset.{trop_of}
use Rattle.definitions.specs.Problem.{Problem}
use Rattle.definitions.specs.ProblemRecord.{checker_kinds, n_field, m_field, layout_of, problem_refusal, problem_outcome, WithinLayout, problem_of}
use Rattle.definitions.specs.AnswerRecord.{class_field, span_field, start_field, answer_refusal, answer_outcome, answer_of}
use Rattle.definitions.specs.Verdict.{Verdict, accepted, refused, Accepted, check_refusal, not_certified, Judged, turned_away, certified, uncertified}
use Rattle.std.specs.Prelude.{Result, Ok, Err}
use Rattle.records.specs.declared.refusal.Refusal.{Refusal}
use Rattle.records.specs.declared.problem.Layout.{Layout}
use Rattle.definitions.specs.ProblemRecord as Problems
use Rattle.answer_reader.specs.declared.answer.Head.{Head}
use Rattle.records.specs.Refusals.{number_of}
use Rattle.records.specs.ProblemHeader.{layout_in, header_of}
use Rattle.records.proofs.Refusing.{number_range, was_ok, was_err}
use Rattle.answer_reader.specs.AnswerReading.{told_by, head_of}
use Rattle.checker.specs.Outcome as Judging
use Rattle.checker.specs.Outcome.{Meant, Answered}
use Rattle.checker.proofs.Answers.{HeadRead}

-- ---- problems

-- What reading a problem that is not refused leaves.
pub record HeaderRead (s : List ℕ) (n m : ℕ) : Type 0 where
  pub none : WithinLayout s
  pub n_is : n ≡ n_field s
  pub m_is : m ≡ m_field s

pub header_read : (s : List ℕ) {header : Result Layout Refusal} {l : Layout} → header_of header ≡ problem_outcome checker_kinds s → header ≡ Ok l → HeaderRead s l.n l.m
unfolding problem_outcome
header_read s e f =
    let r = was_ok layout_in (problem_refusal s) (layout_of s) e f in
    record { none = r.0; n_is = ap (λ (x : Problems.Layout). x.n) r.1; m_is = ap (λ (x : Problems.Layout). x.m) r.1 }

-- ---- verdicts

-- A refusal that is not 0, as a verdict.
pub turned : (p a : List ℕ) (k : ℕ) → check_refusal p a ≡ k → 0 < k → Judged p a (refused k)
turned p a zero e h = absurd (omega arith)
turned p a (suc k) e h = turned_away e

answer_turned : (p : Problem) (n m : ℕ) (a : List ℕ) (k : ℕ) → answer_refusal a n m ≡ k → 0 < k → Answered p n m a (refused k)
answer_turned p n m a zero e h = absurd (omega arith)
answer_turned p n m a (suc k) e h = Judging.turned_away e

-- The problem is refused.
pub judged_problem : (p a : List ℕ) (r : Refusal) → header_of (Err r) ≡ problem_outcome checker_kinds p → Judged p a (refused (number_of r))
unfolding check_refusal problem_outcome
judged_problem p a r e =
    let q = was_err layout_in (problem_refusal p) (layout_of p) e refl in
    turned p a (number_of r) (first_counts (problem_refusal p) (number_of r) q.0 (number_range r).0) (number_range r).0
  where
    first_counts : (k r : ℕ) → k ≡ r → 0 < r → or_else k (answer_refusal a (n_field p) (m_field p)) ≡ r
    first_counts zero r e h = absurd (omega arith)
    first_counts (suc k) r e h = e

-- The answer is refused.
pub answered_refused : (p : Problem) (n m : ℕ) (a : List ℕ) (r : Refusal) {read : Result Head Refusal} → read ≡ Err r → head_of read ≡ answer_outcome a n m → Answered p n m a (refused (number_of r))
unfolding answer_outcome
answered_refused p n m a r f e =
    let q = was_err told_by (answer_refusal a n m) (class_field a, span_field a, start_field a) e f in
    answer_turned p n m a (number_of r) q.0 (number_range r).0

-- The answer is of the right form, and judged.
pub answered_certified : {p : Problem} {n m : ℕ} {a : List ℕ} {head : Head} {stamps picks : List ℕ} {r : Bool} → HeadRead a n m head
    → Meant (answer_of a n m) head stamps picks → Decides (Accepted p (answer_of a n m)) r → r ≡ true → Answered p n m a (accepted head.class (trop_of head.span))
answered_certified h e d t = rw (← e.class_is, ← e.span_is) (Judging.certified h.none (d.yes t))

pub answered_uncertified : {p : Problem} {n m : ℕ} {a : List ℕ} {head : Head} {r : Bool} → HeadRead a n m head
    → Decides (Accepted p (answer_of a n m)) r → r ≡ false → Answered p n m a (refused not_certified)
answered_uncertified h d t = Judging.uncertified h.none (d.no t)

-- With the problem not refused, the verdict on the answer is the verdict.
pub judged_answer : (p a : List ℕ) {n m : ℕ} {v : Verdict} → HeaderRead p n m → Answered (problem_of p) n m a v → Judged p a v
unfolding check_refusal
judged_answer p a {n} {m} {v} h d = go (rw (h.n_is, h.m_is) at d)
  where
    go : {v : Verdict} → Answered (problem_of p) (n_field p) (m_field p) a v → Judged p a v
    go (Judging.turned_away {k = k} e) = turned_away {k = k} (rw h.none e)
    go (Judging.certified e c) = certified (rw h.none e) c
    go (Judging.uncertified e c) = uncertified (rw h.none e) c
