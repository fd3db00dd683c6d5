-- What a checker that judges as document 01 says accepts. For any function with `CheckerJudges`.
use Prim.Native.Nat.{ℕ}
use mathlib.Core.Path.{◌≡◌, ap}
use mathlib.Core.Bool.{true, false≢true}
use mathlib.Core.List.{List}
use mathlib.Core.Logic.{◌↔◌}
use native.Mathlib.Omega.{arith}
use Rattle.definitions.specs.Limits.{answer_most}
use Rattle.definitions.specs.ProblemRecord.{n_field, m_field, problem_refusal, WithinLayout, problem_of, meant}
use Rattle.definitions.specs.AnswerRecord.{Answer, answer_refusal, answer_bytes}
use Rattle.definitions.specs.Verdict.{Verdict, accepts, Accepted, optimal, unbounded, infeasible, check_refusal, answer_for, Judged, turned_away, certified, uncertified}
use Rattle.definitions.specs.Demands.{Slice, Checker, Accepts, CheckerJudges, CheckerRefuses, AcceptsExactly, PlanHolds, NeverBroken}
use Rattle.definitions.proofs.Refusals.{or_else_none}
use Rattle.definitions.proofs.AnswerFits.{WriterFits}
use Rattle.definitions.proofs.RoundTrip.{answer_bytes_lem, answer_back, answer_accepted, answer_length_most}
use Rattle.checker.proofs.Judgement.{judged_unique}

-- ---- verdicts that accept

-- A verdict that gives no refusal: none applies, and all that is listed holds.
accepts_judged : {p a : List ℕ} {v : Verdict} → Judged p a v → accepts v ≡ true → (check_refusal p a ≡ 0) × Accepted (problem_of p) (answer_for p a)
unfolding accepts
accepts_judged (turned_away e) t = absurd (false≢true t)
accepts_judged (certified e h) t = (e, h)
accepts_judged (uncertified e h) t = absurd (false≢true t)

-- The record of an answer can be handed over.
pub record_slice : (n m room : ℕ) (a : Answer) → WriterFits a n m room → Slice (answer_bytes n a)
record_slice n m room a f = record { bytes = answer_bytes_lem n a; size = omega (arith, answer_length_most a n m room f) }

module _ (check : Checker) (judges : CheckerJudges check) where
  -- Bytes outside the layouts get the first refusal that applies.
  pub checker_refuses : CheckerRefuses check
  checker_refuses p a b c k e = judged_unique (judges p a b c) (turned_away e)

  -- What is accepted is of the right form, and all that is listed holds,
  pub accepts_only : (p a : List ℕ) → Slice p → Slice a → Accepts check p a
      → (answer_refusal a (n_field (meant p)) (m_field (meant p)) ≡ 0) × Accepted (problem_of (meant p)) (answer_for (meant p) a)
  unfolding check_refusal
  accepts_only p a b c t =
      let h = accepts_judged (judges p a b c) t in
      (((or_else_none (problem_refusal (meant p)) (answer_refusal a (n_field (meant p)) (m_field (meant p)))).0 h.0).1, h.1)

  -- and the other way round.
  pub accepts_all : (p a : List ℕ) → Slice p → Slice a → WithinLayout (meant p) → answer_refusal a (n_field (meant p)) (m_field (meant p)) ≡ 0 → Accepted (problem_of (meant p)) (answer_for (meant p) a)
      → Accepts check p a
  unfolding check_refusal accepts
  accepts_all p a b c w e h = ap accepts (judged_unique (judges p a b c) (certified ((or_else_none (problem_refusal (meant p)) (answer_refusal a (n_field (meant p)) (m_field (meant p)))).1 (w, e)) h))

  pub accepts_exactly : AcceptsExactly check
  accepts_exactly p a b c w = (accepts_only p a b c, λ h. accepts_all p a b c w h.0 h.1)

  -- So never one whose plan breaks a rule or has another span than its field.
  pub never_broken : NeverBroken check
  never_broken p a b c t e = go (accepts_only p a b c t).1
    where
      go : Accepted (problem_of (meant p)) (answer_for (meant p) a) → PlanHolds (meant p) a
      go (optimal {s = s} d f h) = record { keeps_rules = h.feasible; s = s; span_is = f; value_is = h.value_is }
      go (unbounded d i j h) = absurd (omega (arith, e, d))
      go (infeasible d h) = absurd (omega (arith, e, d))

  -- ---- answers that were written

  -- The record of an answer of the right form is accepted exactly when all that is listed for the answer holds.
  pub record_accepted : (p : List ℕ) (a : Answer) → Slice p → WithinLayout (meant p) → WriterFits a (n_field (meant p)) (m_field (meant p)) answer_most
      → Accepts check p (answer_bytes (n_field (meant p)) a) ↔ Accepted (problem_of (meant p)) a
  record_accepted p a b w f =
      let s = record_slice (n_field (meant p)) (m_field (meant p)) answer_most a f in
      let back : answer_for (meant p) (answer_bytes (n_field (meant p)) a) ≡ a = answer_back a (n_field (meant p)) (m_field (meant p)) answer_most f in (
        λ t. rw back at (accepts_only p (answer_bytes (n_field (meant p)) a) b s t).1,
        λ h. accepts_all p (answer_bytes (n_field (meant p)) a) b s w (answer_accepted a (n_field (meant p)) (m_field (meant p)) answer_most f) (rw back h),
      )
