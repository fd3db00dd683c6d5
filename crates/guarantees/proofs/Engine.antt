-- What follows for any engine whose result and buffer are those that document 01 gives (`EngineSolves`): first refusals
-- with the buffer untouched; else class and least span of the theory, in few trials, in a record that reads back and
-- that any true checker accepts.
use Prim.Native.Nat.{ℕ, suc, ◌≤◌, ◌<◌}
use mathlib.Core.Path.{◌≡◌, refl, ap, ap₂, sym, subst, subst₃, ◌∙◌}
use mathlib.Core.Bool.{false≢true}
use borrow.Author.Tests.{eq-eqb}
use mathlib.Core.List.{List, ◌++◌, append_assoc}
use native.Mathlib.Omega.{arith}
use lib.ListN.{length, drop, length-append}
use lib.Seq.{take-append_seam, drop-append_seam}
use lib.IntN.{ℤ}
use Rattle.definitions.specs.Limits.{answer_most, questions_kind, class_optimal}
use Rattle.definitions.specs.Tropical.{Trop, fin}
use Rattle.definitions.specs.Problem.{Problem, Optimal}
use Rattle.definitions.specs.Bytes.{gives}
use Rattle.definitions.specs.ProblemRecord.{checker_kinds, AsksOne, WithinLayout, WithinLayouts, problem_refusal, problem_of, kind_field, n_field, m_field, count_field, questions_asked, meant}
use Rattle.definitions.specs.Questions.{part, alone}
use Rattle.definitions.specs.AnswerRecord.{Answer, answer_size, answer_bytes, written}
use Rattle.definitions.specs.Verdict.{Verdict, accepted, check_refusal, answer_for, Accepted, Judged, turned_away, certified, uncertified}
use Rattle.definitions.specs.Solved as Results
use Rattle.definitions.specs.Solved.{Solved, answered, Found, optimal, unbounded, infeasible, Answers, AnswersInTurn, Solves, solved, all_solved, engine_refusal}
use Rattle.definitions.specs.Demands.{Slice, Engine, Reader, Checker, EngineSolves, EngineRefuses, LeastSpans, FoundBy, ReadsFields, EngineReadsBack, CheckerJudges, OwnAnswers, QuestionAnswered, QuestionsAnswered, AllAnswered, EachQuestion}
use Rattle.definitions.proofs.Tropical.{fin_injective}
use Rattle.definitions.proofs.Put.{put_front, drop_put}
use Rattle.definitions.proofs.IdleDay.{meant_some, several_meant}
use Rattle.definitions.proofs.Inputs.{header_most, header_none}
use Rattle.definitions.proofs.Questions.{alone_bytes}
use Rattle.definitions.proofs.Refusals.{or_else_none}
use Rattle.definitions.proofs.Layouts.{problem_fits, within_asks}
use Rattle.definitions.proofs.RoundTrip.{answer_back, answer_accepted, answer_length}
use Rattle.definitions.proofs.Solved.{answer_takes, record_stands, result_parts, none_refused, one_refused, OneAsked, one_asked, asked_takes}
use Rattle.checker.proofs.Accepting.{record_slice}
use Rattle.duality.proofs.SmallLeads.{trials_few}

-- ---- refusals

refused_by_lem : {p before after : List ℕ} {r : Solved} {k : ℕ} → Solves p before r after → engine_refusal p (length before) ≡ suc k
    → (r ≡ Solved.refused (suc k)) × (after ≡ before)
refused_by_lem (Results.turned_away e) h = (ap Solved.refused (sym e ∙ h), refl)
refused_by_lem (solved a k e ans) h = absurd (let z : 0 ≡ suc _ = sym e ∙ h in omega arith)
refused_by_lem (all_solved k e turn) h = absurd (let z : 0 ≡ suc _ = sym e ∙ h in omega arith)

pub engine_refuses : (engine : Engine) → EngineSolves engine → EngineRefuses engine
engine_refuses engine solves = record {
  first_refusal = λ p buffer b c k e. (refused_by_lem (solves p buffer b c) e).0;
  untouched = λ p buffer b c k e. (refused_by_lem (solves p buffer b c) e).1;
}

-- ---- answers

-- A record asks one question or several, not both.
pub one_not_several : (p : List ℕ) → AsksOne p → kind_field p ≡ questions_kind → ⊥
one_not_several p a k = false≢true (sym a ∙ eq-eqb (kind_field p) questions_kind k)

-- What the engine gives where nothing is refused.
pub record EngineAnswer (engine : Engine) (p buffer : List ℕ) : Type 0 where
  pub class : ℕ
  pub span : Trop
  pub trials : ℕ
  pub answer : Answer
  pub answers : Answers (problem_of (meant p)) class span trials answer
  pub result_is : engine.result p buffer ≡ answered class span trials (answer_size class (n_field (meant p)) (m_field (meant p)))
  pub buffer_is : engine.buffer p buffer ≡ written buffer (answer_bytes (n_field (meant p)) answer)

answered_by : (engine : Engine) (p buffer : List ℕ) {r : Solved} {after : List ℕ} → Solves (meant p) buffer r after → AsksOne (meant p) → engine_refusal (meant p) (length buffer) ≡ 0
    → engine.result p buffer ≡ r → engine.buffer p buffer ≡ after → EngineAnswer engine p buffer
answered_by engine p buffer (Results.turned_away e) k h r-is b-is = absurd (let z : suc _ ≡ 0 = sym e ∙ h in omega arith)
answered_by engine p buffer (all_solved three e turn) k h r-is b-is = absurd (one_not_several (meant p) k three)
answered_by engine p buffer (solved a one e ans) k h r-is b-is = record { class = _; span = _; trials = _; answer = a; answers = ans; result_is = r-is; buffer_is = b-is }

module _ (engine : Engine) (solves : EngineSolves engine) (p buffer : List ℕ) (b : Slice p) (c : Slice buffer) (w : WithinLayout (meant p)) (long : answer_most ≤ length buffer) where
  pub engine_answer : EngineAnswer engine p buffer
  engine_answer =
      let k = within_asks (meant p) w in
      answered_by engine p buffer (solves p buffer b c) k ((one_refused (meant p) (length buffer) k).1 (w, long)) refl refl

pub least_spans : (engine : Engine) → EngineSolves engine → LeastSpans engine
least_spans engine solves p buffer b c w long =
    let e = engine_answer engine solves p buffer b c w long in
    record { class = e.class; span = e.span; trials = e.trials; size = answer_size e.class (n_field (meant p)) (m_field (meant p)); result_is = e.result_is; found = e.answers.found; few = trials_few (meant p) w e.answers.found }

-- What an engine finds, with class, span and trials as its result says them.
pub found_as : (engine : Engine) (p buffer : List ℕ) (c : ℕ) (s : Trop) (t z : ℕ) → FoundBy engine p buffer → engine.result p buffer ≡ answered c s t z
    → Found (problem_of (meant p)) c s t
found_as engine p buffer c s t z f e =
    let same = result_parts (sym f.result_is ∙ e) in
    subst₃ (Found (problem_of (meant p))) same.0 same.1 same.2 f.found

-- A quoted span is the smallest there is.
quoted : {p : Problem} {c : ℕ} {x : Trop} {t : ℕ} → Found p c x t → (s : ℤ) → c ≡ class_optimal → x ≡ fin s → Optimal p s
quoted {p} (optimal {s = z} o) s e f = subst (Optimal p) (fin_injective f) o
quoted (unbounded u) s e f = absurd (omega (arith, e))
quoted (infeasible n) s e f = absurd (omega (arith, e))

pub quoted_is_smallest : (engine : Engine) → EngineSolves engine → (p buffer : List ℕ) → Slice p → Slice buffer → WithinLayout (meant p) → answer_most ≤ length buffer
    → (s : ℤ) (trials size : ℕ) → engine.result p buffer ≡ answered class_optimal (fin s) trials size → Optimal (problem_of (meant p)) s
quoted_is_smallest engine solves p buffer b c w long s trials size e =
    quoted (found_as engine p buffer class_optimal (fin s) trials size (least_spans engine solves p buffer b c w long) e) s refl refl

-- ---- the record that was written

-- It reads back as itself.
reads_itself : (read : Reader) → ReadsFields read → (p : List ℕ) → WithinLayout p → {class : ℕ} {span : Trop} {trials : ℕ} (a : Answer)
    → Answers (problem_of p) class span trials a → read.reading (answer_bytes (n_field p) a) (n_field p) (m_field p) ≡ gives a
reads_itself read reads p w a ans =
    let f = answer_takes p w a ans in
    reads (answer_bytes (n_field p) a) (record_slice (n_field p) (m_field p) answer_most a f) (n_field p) (m_field p) (omega (arith, f.n_most)) (omega (arith, f.m_most))
    (answer_accepted a (n_field p) (m_field p) answer_most f)
    ∙ ap gives (answer_back a (n_field p) (m_field p) answer_most f)

pub engine_reads_back : (engine : Engine) → EngineSolves engine → (read : Reader) → ReadsFields read → EngineReadsBack engine read
engine_reads_back engine solves read reads p buffer b c w long =
    let e = engine_answer engine solves p buffer b c w long in
    let ans = e.answers in
    record {
      trials = e.trials;
      size = answer_size e.class (n_field (meant p)) (m_field (meant p));
      answer = e.answer;
      result_is = rw (ans.class_is, ans.span_is) e.result_is;
      written_is = e.buffer_is;
      reads = rw (e.buffer_is, record_stands (meant p) buffer w e.answer ans) (reads_itself read reads (meant p) w e.answer ans);
    }

-- ---- the checker's own call on it

-- A verdict on bytes of the right form that are accepted names their class and span.
names_itself : (p s : List ℕ) (a : Answer) → check_refusal p s ≡ 0 → answer_for p s ≡ a → Accepted (problem_of p) a → {v : Verdict} → Judged p s v
    → v ≡ accepted a.class a.span
names_itself p s a right back h (turned_away e) = absurd (let z : suc _ ≡ 0 = sym e ∙ right in omega arith)
names_itself p s a right back h (certified e g) = ap (λ (x : Answer). accepted x.class x.span) back
names_itself p s a right back h (uncertified e g) = absurd (g (subst (λ (x : Answer). Accepted (problem_of p) x) (sym back) h))

-- A verdict on the record of an answer to the problem: accepted, with the answer's class and span.
pub verdict_on : (p : List ℕ) → WithinLayout p → {class : ℕ} {span : Trop} {trials : ℕ} (a : Answer) → Answers (problem_of p) class span trials a
    → {v : Verdict} → Judged p (answer_bytes (n_field p) a) v → v ≡ accepted class span
unfolding check_refusal
verdict_on p w a ans j =
    let f = answer_takes p w a ans in
    let s = answer_bytes (n_field p) a in
    let right : check_refusal p s ≡ 0 = (or_else_none (problem_refusal p) _).1 (w, answer_accepted a (n_field p) (m_field p) answer_most f) in
    names_itself p s a right (answer_back a (n_field p) (m_field p) answer_most f) ans.accepted j ∙ ap₂ accepted ans.class_is ans.span_is

-- A true checker accepts the bytes of an answer that is accepted.
pub accepts_it : (check : Checker) → CheckerJudges check → (p : List ℕ) → Slice p → WithinLayout (meant p) → {class : ℕ} {span : Trop} {trials : ℕ} (a : Answer)
    → Answers (problem_of (meant p)) class span trials a → check p (answer_bytes (n_field (meant p)) a) ≡ accepted class span
accepts_it check judges p b w a ans =
    verdict_on (meant p) w a ans (judges p (answer_bytes (n_field (meant p)) a) b (record_slice (n_field (meant p)) (m_field (meant p)) answer_most a (answer_takes (meant p) w a ans)))

pub own_answers : (engine : Engine) → EngineSolves engine → (check : Checker) → CheckerJudges check → OwnAnswers engine check
own_answers engine solves check judges p buffer b c w long =
    let e = engine_answer engine solves p buffer b c w long in
    let ans = e.answers in
    record {
      class = e.class;
      span = e.span;
      trials = e.trials;
      size = answer_size e.class (n_field (meant p)) (m_field (meant p));
      result_is = e.result_is;
      accepted_is = rw (e.buffer_is, record_stands (meant p) buffer w e.answer ans) (accepts_it check judges p b w e.answer ans);
    }

-- ---- several questions

-- A record within the layout has bytes, and means itself,
pub within_itself : (p : List ℕ) → WithinLayout p → meant p ≡ p
within_itself p w = meant_some p (omega (arith, (problem_fits p w).size_enough))

-- so that a true checker accepts the bytes of an answer to it.
pub accepts_record : (check : Checker) → CheckerJudges check → (p : List ℕ) → Slice p → WithinLayout p → {class : ℕ} {span : Trop} {trials : ℕ} (a : Answer)
    → Answers (problem_of p) class span trials a → check p (answer_bytes (n_field p) a) ≡ accepted class span
accepts_record check judges p b w a ans =
    verdict_on p w a ans
    (rw (within_itself p w) at (judges p (answer_bytes (n_field p) a) b (record_slice (n_field p) (m_field p) answer_most a (answer_takes p w a ans))))

-- The record of one question can be handed over.
pub alone_slice : (p : List ℕ) → Slice p → {q : ℕ} → OneAsked p q → Slice (alone p q)
alone_slice p b {q} o = record { bytes = alone_bytes p q b.bytes; size = omega (arith, header_most checker_kinds (alone p q) (length (alone p q)) (header_none checker_kinds (alone p q) o.within)) }

module _ (check : Checker) (judges : CheckerJudges check) (read : Reader) (reads : ReadsFields read) (p : List ℕ) (b : Slice p) (k : kind_field p ≡ questions_kind) (w : WithinLayouts p) where
  -- One answer, behind others and before the rest of the buffer.
  question_answered : (bytes tail : List ℕ) (q : ℕ) → q < count_field p → {class : ℕ} {span : Trop} {trials : ℕ} (a : Answer) → Answers (problem_of (alone p q)) class span trials a
      → QuestionAnswered check read p (bytes ++ (answer_bytes (n_field p) a ++ tail)) q (length bytes) (length (answer_bytes (n_field p) a)) trials
  question_answered bytes tail q h a ans =
      let o = one_asked p k w q h in
      let own : part (bytes ++ (answer_bytes (n_field p) a ++ tail)) (length bytes) (length (answer_bytes (n_field p) a)) ≡ answer_bytes (n_field p) a =
      rw (drop-append_seam bytes (answer_bytes (n_field p) a ++ tail)) (take-append_seam (answer_bytes (n_field p) a) tail) in
      record {
        class = _;
        span = _;
        answer = a;
        slice = alone_slice p b o;
        within = o.within;
        itself = within_itself (alone p q) o.within;
        answers = ans;
        few = trials_few (alone p q) o.within ans.found;
        size_is = answer_length a (n_field p) (m_field p) answer_most (asked_takes o a ans) ∙ ap (λ (i : ℕ). answer_size i (n_field p) (m_field p)) ans.class_is;
        bytes_are = own;
        reads = rw own (rw (o.n_is, o.m_is) at (reads_itself read reads (alone p q) o.within a ans));
        accepted_is = rw own (rw o.n_is at (accepts_record check judges (alone p q) (alone_slice p b o) o.within a ans));
      }

  -- All of them.
  questions_answered : {q trials : ℕ} {bytes : List ℕ} → AnswersInTurn p q bytes trials → q ≤ count_field p → (tail : List ℕ)
      → QuestionsAnswered check read p (bytes ++ tail) q (length bytes) trials
  questions_answered Results.no_question h tail = QuestionsAnswered.no_question
  questions_answered (Results.one_more {q = q} {bytes = bytes} a turn ans) h tail =
      rw (append_assoc, length-append)
      (QuestionsAnswered.one_more (questions_answered turn (omega arith) (answer_bytes (n_field p) a ++ tail)) (question_answered bytes tail q (omega arith) a ans))

all_answered_by : (engine : Engine) (check : Checker) → CheckerJudges check → (read : Reader) → ReadsFields read → (p buffer : List ℕ) → Slice p → {r : Solved} {after : List ℕ} → Solves p buffer r after
    → kind_field p ≡ questions_kind → WithinLayouts p → engine_refusal p (length buffer) ≡ 0 → engine.result p buffer ≡ r → engine.buffer p buffer ≡ after
    → AllAnswered engine check read p buffer
unfolding written
all_answered_by engine check judges read reads p buffer b (Results.turned_away e) k w h r-is b-is = absurd (let z : suc _ ≡ 0 = sym e ∙ h in omega arith)
all_answered_by engine check judges read reads p buffer b (solved a one e ans) k w h r-is b-is = absurd (one_not_several p one k)
all_answered_by engine check judges read reads p buffer b (all_solved {bytes = bytes} {trials} three e turn) k w h r-is b-is = record {
  trials = trials;
  size = length bytes;
  result_is = r-is;
  each = rw (b-is, put_front buffer bytes) (questions_answered check judges read reads p b k w turn (omega arith) (drop (length bytes) buffer));
  stay = rw b-is (drop_put buffer 0 bytes (omega arith) (length bytes) (omega arith));
}

pub each_question : (engine : Engine) → EngineSolves engine → (check : Checker) → CheckerJudges check → (read : Reader) → ReadsFields read → EachQuestion engine check read
each_question engine solves check judges read reads p buffer b c w k long =
    let asked : questions_asked (kind_field p) (count_field p) ≡ count_field p = rw k refl in
    all_answered_by engine check judges read reads p buffer b (rw (several_meant p k) at (solves p buffer b c)) k w ((none_refused p (length buffer)).1 (w, rw asked long)) refl refl
