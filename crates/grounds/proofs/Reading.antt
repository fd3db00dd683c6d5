-- From bytes: what the checker's verdict and the readers give is what the reasons rest on, and what is told is the definition's.
use Rattle.std.proofs.Common.{◌≡◌, ℕ, suc, List, Result, Ok, Err, refl, sym, ap, ◌∙◌}
use mathlib.Core.Logic.{◌⊎◌, inl, inr, ⊎_elim}
use native.Mathlib.Omega.{arith}
use Rattle.definitions.specs.Limits.{class_optimal, class_unbounded, class_infeasible}
use Rattle.definitions.specs.Tropical.{Trop}
use Rattle.definitions.specs.Bytes.{Bytes}
use Rattle.definitions.specs.ProblemRecord.{checker_kinds, problem_of, problem_refusal, problem_outcome, layout_of, n_field, m_field}
use Rattle.definitions.specs.AnswerRecord.{answer_refusal, answer_outcome, class_field, span_field, start_field}
use Rattle.definitions.specs.Verdict as Verdicts
use Rattle.definitions.specs.Verdict.{Accepted, optimal, unbounded, infeasible, check_refusal, Judged, turned_away, certified, uncertified, answer_for}
use Rattle.definitions.specs.Reasons as Definitions
use Rattle.definitions.specs.Reasons.{Reasoned}
use Rattle.definitions.proofs.Refusals.{or_else_none}
use Rattle.definitions.proofs.Questions.{asking_itself}
use Rattle.records.specs.declared.refusal.Refusal.{Refusal}
use Rattle.records.specs.declared.problem.Layout.{Layout}
use Rattle.records.specs.ProblemHeader.{layout_in, header_of}
use Rattle.records.proofs.Refusing.{was_err}
use Rattle.problem_records.specs.Tables.{ProblemRead, right_table}
use Rattle.problem_records.proofs.ReadProblem.{Told-of, told_of}
use Rattle.problem_records.proofs.LeadTables.{problem_decoded}
use Rattle.answer_reader.specs.declared.answer.Head.{Head}
use Rattle.answer_reader.specs.AnswerReading.{told_by, head_of, AnswerRead}
use Rattle.checker.specs.Outcome.{Meant, verdict_of}
use Rattle.checker.specs.declared.check.Certified.{Certified}
use Rattle.checker.proofs.Answers.{head_read, read_means, read_formed}
use Rattle.grounds.specs.Outcome as Outcome
use Rattle.grounds.specs.Outcome.{Passed, Founded, Certifies, Tells}

-- ---- verdicts

-- A verdict that accepts,
pub passed : {p a : List ℕ} {v : Verdicts.Verdict} {class : ℕ} {span : Trop} → Judged p a v → v ≡ Verdicts.accepted class span → Passed p a class
passed (turned_away e) q = let z : ◌≡◌ {A = ℕ} 0 1 = cc in absurd (omega arith)
passed (certified e h) q = record { none = e; accepted = h; class_is = cc }
passed (uncertified e d) q = let z : ◌≡◌ {A = ℕ} 0 1 = cc in absurd (omega arith)

-- and one that refuses: the tool refuses with the same number.
pub reasoned_refused : {p a : List ℕ} {v : Verdicts.Verdict} {k : ℕ} → Judged p a v → v ≡ Verdicts.refused k → Reasoned p a (Definitions.refused k)
reasoned_refused {k = k} (turned_away {k = j} e) q = let z : suc j ≡ k = cc in rw (← z) (Definitions.turned_away e)
reasoned_refused {k = k} (certified e h) q = let z : ◌≡◌ {A = ℕ} 0 1 = cc in absurd (omega arith)
reasoned_refused {k = k} (uncertified e d) q = let z : 14 ≡ k = cc in rw (← z) (Definitions.uncertified e d)

-- The same of the checker's answer in code.
pub accepted_verdict : {p a : List ℕ} {v : Result Certified Refusal} {c : Certified} → Judged p a (verdict_of v) → v ≡ Ok c → Passed p a c.class
accepted_verdict j e = passed j (ap verdict_of e)

-- An accepted answer is bottomless, or least or none.
pub reasoned_bottomless : {p a : List ℕ} {class : ℕ} → Passed p a class → class ≡ class_unbounded → Reasoned p a (Definitions.refused Definitions.bottomless_refused)
reasoned_bottomless h e = Definitions.bottomless h.none h.accepted (h.class_is ∙ e)

pub founded : {p a : List ℕ} {class : ℕ} → Passed p a class → (class ≡ class_unbounded → ⊥) → Founded p a
founded {p} {a} {class} h d = record { none = h.none; accepted = h.accepted; some = go h.accepted }
  where
    go : Accepted (problem_of p) (answer_for p a) → ((answer_for p a).class ≡ class_optimal) ⊎ ((answer_for p a).class ≡ class_infeasible)
    go (optimal e _ _) = inl e
    go (unbounded e _ _ _) = absurd (d (sym h.class_is ∙ e))
    go (infeasible e _) = inr e

-- What is told of it is the definition's.
pub reasoned_told : {p a : List ℕ} {r : Definitions.Reasons} → Founded p a → Tells (problem_of p) (answer_for p a) r → Reasoned p a r
reasoned_told h (Outcome.none e l) = Definitions.none h.none h.accepted e l
reasoned_told h (Outcome.least e l r) = Definitions.least h.none h.accepted e l r

-- ---- the readers

module _ {p a : List ℕ} (h : Founded p a) where
  parts : (problem_refusal p ≡ 0) × (answer_refusal a (n_field p) (m_field p) ≡ 0)
  unfolding check_refusal
  parts = (or_else_none (problem_refusal p) (answer_refusal a (n_field p) (m_field p))).0 h.none

  -- Neither refuses.
  pub header_stands : (r : Refusal) → header_of (Err r) ≡ problem_outcome checker_kinds p → ⊥
  unfolding problem_outcome
  header_stands r e = let q = was_err layout_in (problem_refusal p) (layout_of p) e refl in omega (arith, q.1, parts.0)

  module _ {left right left' right' : List ℕ} {header : Result Layout Refusal} {l : Layout} (bytes : Bytes p) (read : ProblemRead checker_kinds p left right header left' right')
      (told : header ≡ Ok l) where
    lies : Told-of checker_kinds p l
    lies = told_of checker_kinds read.result told

    n_is : n_field p ≡ l.n
    n_is = sym lies.fits.n_is

    m_is : m_field p ≡ l.m
    m_is = sym lies.fits.m_is

    pub answer_stands : (r : Refusal) → head_of (Err r) ≡ answer_outcome a l.n l.m → ⊥
    unfolding answer_outcome
    answer_stands r e =
        let q = was_err told_by (answer_refusal a l.n l.m) (class_field a, span_field a, start_field a) e refl in
        omega (arith, q.1, rw (n_is, m_is) at parts.1)

    table : right' ≡ right_table p
    table = read.right_read lies.within ∙ ap right_table (asking_itself p 0 lies.within)

    -- They give the problem's right table, and the answer's fields.
    pub certifies :
        {head : Result Head Refusal} {fields : Head} {stamps-before stamps picks-before picks : List ℕ} → Bytes a
        → AnswerRead a l.n l.m head stamps-before stamps picks-before picks → head ≡ Ok fields
        → Certifies (problem_of p) (answer_for p a) right' stamps picks l.n l.m fields
    unfolding problem_of
    certifies {fields = fields} {stamps = stamps} {picks = picks} b r f =
        let d = problem_decoded p bytes lies.within in
        let right = head_read a l.n l.m r.answered f in
        let means : Meant (answer_for p a) fields stamps picks = rw (n_is, m_is) (read_means b r right) in
        record {
          n_most = lies.fits.n_most;
          m_most = lies.fits.m_most;
          held = record {
            n_is = n_is;
            m_is = m_is;
            right_is = λ i j g k. rw table (d.right_is i j (omega (arith, m_is)) (omega (arith, n_is)));
          };
          near = λ k. rw table (d.right_near k);
          formed = read_formed b r right;
          meant = means;
          accepted = h.accepted;
          some = ⊎_elim (λ e. inl (sym means.class_is ∙ e)) (λ e. inr (sym means.class_is ∙ e)) h.some;
        }
