-- An answer that the engine may give is one that the writer takes; and what an answered result means.
use Prim.Native.Nat.{ℕ, ◌+◌, ◌*◌, ◌≤◌, ◌<◌}
use mathlib.Core.Path.{◌≡◌, refl, ap, sym, subst, subst₂, subst₃, ◌∙◌}
use mathlib.Core.Bool.{true, and-eq-true_iff}
use mathlib.Core.Logic.{◌↔◌, ⊎_elim}
use mathlib.Core.List.{List}
use native.Mathlib.Omega.{arith}
use native.Mathlib.Nat.{zero-add}
use lib.ListN.{length, take, length-append}
use borrow.Author.Tests.{eqb-true}
use Rattle.definitions.specs.Limits.{highest_n, highest_m, most_questions, questions_kind, answer_most}
use Rattle.definitions.specs.Tropical.{Trop}
use Rattle.definitions.specs.Bytes.{Bytes}
use Rattle.definitions.specs.Problem.{Problem}
use Rattle.definitions.specs.ProblemRecord.{engine_kinds, AsksOne, WithinLayout, WithinLayouts, record_refusal, problem_of, kind_field, n_field, m_field, count_field, questions_asked}
use Rattle.definitions.specs.Questions.{alone, asking}
use Rattle.definitions.specs.AnswerRecord.{Answer, known_class, right_counts, answer_size, answer_bytes, written}
use Rattle.definitions.specs.Solved as Results
use Rattle.definitions.specs.Solved.{Solved, answered, all_answered, Found, optimal, unbounded, infeasible, Answers, AnswersInTurn, no_question, one_more, Solves, solved, all_solved, engine_refusal}
use Rattle.definitions.proofs.Refusals.{or_else_none, enough_clause, header_passes, record_fits}
use Rattle.definitions.proofs.KnownKinds.{one_or_several, few_questions}
use Rattle.definitions.proofs.Layouts.{problem_fits, one_question}
use Rattle.definitions.proofs.AnswerFits.{WriterFits, form_fits}
use Rattle.definitions.proofs.Questions.{several_passes, alone_n, alone_m, alone_within, alone_bytes}
use Rattle.definitions.proofs.RoundTrip.{answer_length, answer_length_most, size_most}
use Rattle.definitions.proofs.Put.{take_put, length_put}

-- The class is 1, 2 or 3.
pub found_known : {p : Problem} {class : ℕ} {span : Trop} {trials : ℕ} → Found p class span trials → known_class class ≡ true
found_known (optimal o) = refl
found_known (unbounded u) = refl
found_known (infeasible n) = refl

pub answers_taken : {p : Problem} {class : ℕ} {span : Trop} {trials : ℕ} {a : Answer} (room : ℕ) → p.n ≤ highest_n → p.m ≤ highest_m → answer_most ≤ room
    → Answers p class span trials a → WriterFits a p.n p.m room
unfolding right_counts
answers_taken {p} {a = a} room h g long ans =
    let counts = (and-eq-true_iff _ _).0 ans.counts in
    record {
      n_most = h;
      m_most = g;
      room_enough = long;
      class_known = subst (λ (c : ℕ). known_class c ≡ true) (sym ans.class_is) (found_known ans.found);
      start_fits_is = ans.start_fits_is;
      stamps_count = eqb-true _ _ counts.0;
      picks_count = eqb-true _ _ counts.1;
      form = (form_fits a p.n p.m).0 ans.form;
    }

-- The answer's fields are such as the writer takes, so they read back from their bytes.
pub answer_takes : (p : List ℕ) → WithinLayout p → {class : ℕ} {span : Trop} {trials : ℕ} (a : Answer) → Answers (problem_of p) class span trials a
    → WriterFits a (n_field p) (m_field p) answer_most
unfolding problem_of
answer_takes p w a ans = let f = problem_fits p w in answers_taken answer_most f.n_most f.m_most (omega arith) ans

-- A record as long as its class asks stands at the buffer's start.
pub record_stands : (p buffer : List ℕ) → WithinLayout p → {class : ℕ} {span : Trop} {trials : ℕ} (a : Answer) → Answers (problem_of p) class span trials a
    → take (answer_size class (n_field p) (m_field p)) (written buffer (answer_bytes (n_field p) a)) ≡ answer_bytes (n_field p) a
unfolding written
record_stands p buffer w {class} a ans =
    let f = answer_takes p w a ans in
    let size : answer_size class (n_field p) (m_field p) ≡ 0 + length (answer_bytes (n_field p) a) =
    ap (λ (k : ℕ). answer_size k (n_field p) (m_field p)) (sym ans.class_is) ∙ sym (answer_length a (n_field p) (m_field p) answer_most f) ∙ sym (zero-add _) in
    rw size (take_put buffer 0 (answer_bytes (n_field p) a) (omega arith))

-- ---- the record that was written

-- Equal results have equal parts.
pub result_parts : {c c' : ℕ} {s s' : Trop} {t t' z z' : ℕ} → answered c s t z ≡ answered c' s' t' z' → (c ≡ c') × (s ≡ s') × (t ≡ t') × (z ≡ z')
result_parts e = (cc, cc, cc, cc)

-- What a result that is no refusal rests on: the problem is within a layout, and the buffer is long enough.
pub none_refused : (p : List ℕ) (room : ℕ) → (engine_refusal p room ≡ 0) ↔ (WithinLayouts p × (questions_asked (kind_field p) (count_field p) * answer_most ≤ room))
unfolding engine_refusal
none_refused p room =
    let room-clause = enough_clause room (questions_asked (kind_field p) (count_field p) * answer_most) 6 0 in (
      λ e. let h = (or_else_none (record_refusal p) _).0 e in (h.0, (room-clause.0 h.1).0),
      λ h. (or_else_none (record_refusal p) _).1 (h.0, room-clause.1 (h.1, refl)),
    )

-- At most eight questions are asked.
pub asked_few : (p : List ℕ) → WithinLayouts p → questions_asked (kind_field p) (count_field p) ≤ most_questions
asked_few p w =
    let passes = ((record_fits engine_kinds p).0 w).header in
    ⊎_elim
    (λ (k : AsksOne p). rw k (omega arith))
    (λ (k : kind_field p ≡ questions_kind). rw k (few_questions p (length p) k passes).few)
    (one_or_several (kind_field p))

-- Of a problem of one question: it is within the layout, and the buffer holds one answer.
pub one_refused : (p : List ℕ) (room : ℕ) → AsksOne p → (engine_refusal p room ≡ 0) ↔ (WithinLayout p × (answer_most ≤ room))
one_refused p room k =
    let asked : questions_asked (kind_field p) (count_field p) * answer_most ≡ answer_most = rw k refl in
    let same = one_question p k in (
      λ e. let h = (none_refused p room).0 e in (sym same ∙ h.0, omega (arith, asked, h.1)),
      λ h. (none_refused p room).1 (same ∙ h.0, omega (arith, asked, h.1)),
    )

-- The engine answered: the record of an answer stands at the buffer's start.
pub record Wrote (p before : List ℕ) (class : ℕ) (span : Trop) (trials size : ℕ) (after : List ℕ) : Type 0 where
  pub none : engine_refusal p (length before) ≡ 0
  pub kind_is : AsksOne p
  pub within : WithinLayout p
  pub answer : Answer
  pub answers : Answers (problem_of p) class span trials answer
  pub inside : size ≤ length after
  pub buffer_is : after ≡ written before (answer_bytes (n_field p) answer)
  pub bytes : take size after ≡ answer_bytes (n_field p) answer

wrote_record : (p before : List ℕ) {class : ℕ} {span : Trop} {trials : ℕ} (a : Answer) → AsksOne p → engine_refusal p (length before) ≡ 0 → Answers (problem_of p) class span trials a
    → Wrote p before class span trials (answer_size class (n_field p) (m_field p)) (written before (answer_bytes (n_field p) a))
unfolding written
wrote_record p before {class} a k e ans =
    let h = (one_refused p (length before) k).0 e in
    let f = problem_fits p h.0 in
    let size : length (answer_bytes (n_field p) a) ≡ answer_size class (n_field p) (m_field p) =
    answer_length a (n_field p) (m_field p) answer_most (answer_takes p h.0 a ans) ∙ ap (λ (k : ℕ). answer_size k (n_field p) (m_field p)) ans.class_is in
    let most = size_most class (n_field p) (m_field p) f.n_most f.m_most in
    record {
      none = e;
      kind_is = k;
      within = h.0;
      answer = a;
      answers = ans;
      inside = rw (length_put before 0 (answer_bytes (n_field p) a) (omega arith) (omega (arith, size, most, h.1))) (omega (arith, most, h.1));
      buffer_is = refl;
      bytes = record_stands p before h.0 a ans;
    }

-- What an answered result means.
pub wrote : {p before after : List ℕ} {r : Solved} {class : ℕ} {span : Trop} {trials size : ℕ} → Solves p before r after → r ≡ answered class span trials size
    → Wrote p before class span trials size after
wrote (Results.turned_away e) f = absurd (let z : ◌≡◌ {A = ℕ} 0 1 = cc in omega arith)
wrote (all_solved k e all) f = absurd (let z : ◌≡◌ {A = ℕ} 0 1 = cc in omega arith)
wrote {p} {before} {after} {class = class} {span = span} {trials = trials} {size = size} (solved {class = c} a k e ans) f =
    let same = result_parts f in
    let w = subst₃ (λ x y z. Wrote p before x y z (answer_size c (n_field p) (m_field p)) after) same.0 same.1 same.2 (wrote_record p before a k e ans) in
    subst (λ (z : ℕ). Wrote p before class span trials z after) same.3 w

-- ---- the records that were written one after another

-- A record of several questions that nothing refuses: one question's record is within the layout, and has its n and m.
pub record OneAsked (p : List ℕ) (q : ℕ) : Type 0 where
  pub within : WithinLayout (alone p q)
  pub n_is : n_field (alone p q) ≡ n_field p
  pub m_is : m_field (alone p q) ≡ m_field p

pub one_asked : (p : List ℕ) → kind_field p ≡ questions_kind → WithinLayouts p → (q : ℕ) → q < count_field p → OneAsked p q
one_asked p k w q h =
    let v = several_passes engine_kinds k ((header_passes engine_kinds p (length p)).1 ((record_fits engine_kinds p).0 w).header) in
    record { within = alone_within p k w q h; n_is = alone_n p v.asks q h; m_is = alone_m p v.asks q h }

-- The record of its first question, or the record itself where it asks one.
pub record FirstAsked (p : List ℕ) : Type 0 where
  pub within : WithinLayout (asking p 0)
  pub n_is : n_field (asking p 0) ≡ n_field p
  pub m_is : m_field (asking p 0) ≡ m_field p
  pub bytes : Bytes p → Bytes (asking p 0)

pub first_asked : (p : List ℕ) → WithinLayouts p → FirstAsked p
first_asked p w =
    let passes = ((record_fits engine_kinds p).0 w).header in
    ⊎_elim
    (λ (k : AsksOne p).
    let own : asking p 0 ≡ p = rw k refl in
    record { within = rw own (sym (one_question p k) ∙ w); n_is = ap n_field own; m_is = ap m_field own; bytes = λ b. rw own b })
    (λ (k : kind_field p ≡ questions_kind).
    let own : asking p 0 ≡ alone p 0 = rw k refl in
    let v = several_passes engine_kinds k ((header_passes engine_kinds p (length p)).1 passes) in
    let o = one_asked p k w 0 v.some in
    record { within = rw own o.within; n_is = rw own o.n_is; m_is = rw own o.m_is; bytes = λ b. rw own (alone_bytes p 0 b) })
    (one_or_several (kind_field p))

-- An answer to it is one that the writer takes with the record's n and m.
pub asked_takes : {p : List ℕ} {q : ℕ} → OneAsked p q → {class : ℕ} {span : Trop} {trials : ℕ} (a : Answer) → Answers (problem_of (alone p q)) class span trials a
    → WriterFits a (n_field p) (m_field p) answer_most
asked_takes {p} {q} o a ans = subst₂ (λ (n m : ℕ). WriterFits a n m answer_most) o.n_is o.m_is (answer_takes (alone p q) o.within a ans)

-- Their bytes are at most 208 a question.
pub turn_most : {p : List ℕ} → kind_field p ≡ questions_kind → WithinLayouts p → {q trials : ℕ} {bytes : List ℕ} → AnswersInTurn p q bytes trials → q ≤ count_field p → length bytes ≤ q * answer_most
turn_most k w no_question h = omega arith
turn_most {p} k w (one_more {q = q} {bytes = bytes} a turn ans) h =
    let before = turn_most k w turn (omega arith) in
    let own = answer_length_most a (n_field p) (m_field p) answer_most (asked_takes (one_asked p k w q (omega arith)) a ans) in
    omega (arith, before, own, length-append bytes (answer_bytes (n_field p) a))

-- Equal results have equal parts.
pub all_parts : {c c' t t' z z' : ℕ} → all_answered c t z ≡ all_answered c' t' z' → (c ≡ c') × (t ≡ t') × (z ≡ z')
all_parts e = (cc, cc, cc)

-- The engine answered all questions: their records stand at the buffer's start.
pub record WroteAll (p before : List ℕ) (count trials size : ℕ) (after : List ℕ) : Type 0 where
  pub none : engine_refusal p (length before) ≡ 0
  pub kind_is : kind_field p ≡ questions_kind
  pub within : WithinLayouts p
  pub count_is : count ≡ count_field p
  pub records : List ℕ
  pub in_turn : AnswersInTurn p (count_field p) records trials
  pub size_is : size ≡ length records
  pub inside : size ≤ length after
  pub buffer_is : after ≡ written before records
  pub bytes : take size after ≡ records

wrote_records : (p before : List ℕ) {records : List ℕ} {trials : ℕ} → kind_field p ≡ questions_kind → engine_refusal p (length before) ≡ 0 → AnswersInTurn p (count_field p) records trials
    → WroteAll p before (count_field p) trials (length records) (written before records)
unfolding written
wrote_records p before {records} k e turn =
    let h = (none_refused p (length before)).0 e in
    let asked : questions_asked (kind_field p) (count_field p) ≡ count_field p = rw k refl in
    let room : count_field p * answer_most ≤ length before = rw asked at h.1 in
    let most : 0 + length records ≤ length before = omega (arith, room, turn_most k h.0 turn (omega arith)) in
    record {
      none = e;
      kind_is = k;
      within = h.0;
      count_is = refl;
      records = records;
      in_turn = turn;
      size_is = refl;
      inside = rw (length_put before 0 records (omega arith) most) (omega (arith, most));
      buffer_is = refl;
      bytes = rw (← zero-add (length records)) (take_put before 0 records (omega arith));
    }

-- What a result that answers all means.
pub wrote_all : {p before after : List ℕ} {r : Solved} {count trials size : ℕ} → Solves p before r after → r ≡ all_answered count trials size
    → WroteAll p before count trials size after
wrote_all (Results.turned_away e) f = absurd (let z : ◌≡◌ {A = ℕ} 0 1 = cc in omega arith)
wrote_all (solved a k e ans) f = absurd (let z : ◌≡◌ {A = ℕ} 0 1 = cc in omega arith)
wrote_all {p} {before} {after} (all_solved k e turn) f =
    let same = all_parts f in
    subst₃ (λ (c t z : ℕ). WroteAll p before c t z after) same.0 same.1 same.2 (wrote_records p before k e turn)
