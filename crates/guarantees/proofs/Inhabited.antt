-- The contracts of the code can be met: for each entry a function built from the definitions, and the demands of all of them.
use Prim.Native.Nat.{ℕ, zero, suc, ◌+◌, ◌-◌, ◌≤◌, ◌<◌}
use mathlib.Core.Path.{◌≡◌, refl, ap, sym, subst, ◌∙◌}
use mathlib.Core.List.{List, [], ◌++◌}
use mathlib.Core.Logic.{◌⊎◌, ⊎_elim}
use native.Mathlib.Omega.{arith}
use native.Mathlib.Nat.{eq-zero-or-pos}
use lib.ListN.{length, get_or, take, drop, length-take, length-drop}
use lib.Seq.{take_all, get_or-take}
use Rattle.base.proofs.Numbers.{nat_le_or_lt}
use Rattle.definitions.specs.Limits.{kept_bytes, length_bytes, span_limit, problem_header, questions_kind}
use Rattle.definitions.specs.Tropical.{Trop}
use Rattle.definitions.specs.Problem.{Problem}
use Rattle.definitions.specs.Bytes.{Bytes, outcome}
use Rattle.definitions.specs.ProblemRecord.{AsksOne, engine_kinds, checker_kinds, length_field, kind_field, n_field, m_field, count_field, layout_of, header_refusal, header_outcome, problem_refusal, record_refusal, problem_outcome, WithinLayout, WithinLayouts, problem_of, refusal_for, meant}
use Rattle.definitions.specs.AnswerRecord.{Answer, answer_refusal, answer_outcome, answer_of, answer_header_refusal, class_field, span_field, start_field, answer_size, answer_bytes, writer_refusal, writer_outcome, written}
use Rattle.definitions.specs.Verdict as Verdicts
use Rattle.definitions.specs.Verdict.{Judged, turned_away, certified, uncertified, check_refusal}
use Rattle.definitions.specs.Solved as Results
use Rattle.definitions.specs.Solved.{Answers, AnswersInTurn, Solves, engine_refusal}
use Rattle.definitions.specs.Questions.{alone, asking}
use Rattle.definitions.specs.Programs as Programs
use Rattle.definitions.specs.Programs.{SpanOutput, VerdictOutput, KeptOf, problem_part, answer_part, cut_place, refused_line, verdict_line}
use Rattle.definitions.specs.Demands.{Slice, Numbered, Demands}
use Rattle.definitions.proofs.Bytes.{bytes_take, bytes_drop}
use Rattle.definitions.proofs.Refusals.{or_else_none, or_else_suc}
use Rattle.definitions.proofs.KnownKinds.{one_or_several}
use Rattle.definitions.proofs.Layouts.{one_question, problem_fits}
use Rattle.definitions.proofs.AnswerFits.{answer_fits, form_fits}
use Rattle.definitions.proofs.RoundTrip.{span_within}
use Rattle.definitions.proofs.IdleDay.{meant_some}
use Rattle.definitions.proofs.Inputs.{kept_whole, kept_at, header_agrees, header_most, n_agrees, m_agrees, span_read, verdict_read}
use Rattle.std.specs.Prelude.{Result, Ok, Err}
use Rattle.records.specs.declared.refusal.Refusal.{Refusal}
use Rattle.records.specs.Refusals.{number_of}
use Rattle.records.specs.ProblemHeader.{layout_in, header_of}
use Rattle.definitions.proofs.Solved.{none_refused, one_asked}
use Rattle.problem_records.specs.Tables.{left_table, right_table}
use Rattle.answer_reader.specs.Fields.{fields_of, stamps_of, picks_of}
use Rattle.answer_reader.specs.AnswerReading.{told_by, head_in}
use Rattle.answer_reader.proofs.Judging.{span_meant}
use Rattle.answer_reader.proofs.Passing.{stamps_at_length, picks_at_length}
use Rattle.answer_reader.proofs.ByClass.{stamps_most, picks_most}
use Rattle.answer_writer.specs.AnswerWriting.{unless_refused}
use Rattle.answer_writer.proofs.Writing.{kept_if}
use Rattle.engine.specs.declared.solve.Solution.{Solution}
use Rattle.engine.specs.declared.solve.Solution.TheVariants.{One, All}
use Rattle.engine.specs.Outcome.{solved_of}
use Rattle.checker.specs.declared.check.Certified.{Certified}
use Rattle.checker.specs.Outcome.{verdict_of}
use Rattle.checker.proofs.Judgement.{the_checker, the_checker_judges}
use Rattle.checker.proofs.Verdicts.{HeaderRead, turned}
use Rattle.checker.proofs.Decided.{pad, padded}
use Rattle.checker.proofs.LongInputs.{kept_longer, judged_long, long_past, long_cut, header_turned, long_refused, long_answered, header_small, problem_kept}
use Rattle.guarantees.specs.Entries as Entries
use Rattle.guarantees.specs.Entries.{Solve, Check, ReadProblem, ReadAnswer, WriteAnswer, WriterFields}
use Rattle.guarantees.proofs.Numbered.{refusal_at, refusal_back, result_by, result_back, header_few, problem_few, answer_few, check_few, writer_few, engine_few, the_layout, layout_back, class_found}
use Rattle.guarantees.proofs.Handing.{number_for, number_back, within_numbered}
use Rattle.duality.proofs.SmallLeads.{layout_within}
use Rattle.guarantees.proofs.Solvable.{answer_exists}
use Rattle.guarantees.proofs.Contracts.{engine_of, checker_of, problem_reader_of, reader_of, writer_of, program_of}
use Rattle.guarantees.proofs.Demands.{demands}

-- A refusal leaves what was; where nothing is refused, what is written stands.
unless_refused_lem : (k : ℕ) (before after : List ℕ) → 0 < k → unless_refused k before after ≡ before
unless_refused_lem k before after h = sym (kept_if k before after h)

unless_none : (k : ℕ) (before after : List ℕ) → k ≡ 0 → unless_refused k before after ≡ after
unfolding unless_refused
unless_none k before after e = rw e refl

-- ---- `solve`

record SomeSolution (p before : List ℕ) : Type 0 where
  result : Result Solution Refusal
  buffer : List ℕ
  solves : Solves p before (solved_of result) buffer

span_numbered : {p : Problem} {class : ℕ} {span : Trop} {trials : ℕ} {a : Answer} → Answers p class span trials a → Numbered span
span_numbered {p} {span = span} {a = a} ans =
    within_numbered span_limit span (omega arith) (rw ans.span_is at (span_within a.class a.span ((form_fits a _ _).0 ans.form).span_fits_is))

-- Answers to the first questions of a record of several.
record SomeAnswers (p : List ℕ) (q : ℕ) : Type 0 where
  bytes : List ℕ
  trials : ℕ
  turn : AnswersInTurn p q bytes trials

answers_exist : (p : List ℕ) → kind_field p ≡ questions_kind → WithinLayouts p → (q : ℕ) → q ≤ count_field p → SomeAnswers p q
unfolding problem_of
answers_exist p k w zero h = record { bytes = []; trials = 0; turn = Results.no_question }
answers_exist p k w (suc q) h =
    let first = answers_exist p k w q (omega arith) in
    let o = one_asked p k w q (omega arith) in
    let s = answer_exists (problem_of (alone p q)) (problem_fits (alone p q) o.within).n_most (layout_within (alone p q) o.within) in
    record { bytes = first.bytes ++ answer_bytes (n_field p) s.answer; trials = first.trials + s.trials; turn = Results.one_more s.answer first.turn s.answers }

-- A record asks one question or several.
either_kind : (p : List ℕ) → WithinLayouts p → AsksOne p ⊎ (kind_field p ≡ questions_kind)
either_kind p w = one_or_several (kind_field p)

solution_exists : (p before : List ℕ) → SomeSolution p before
unfolding solved_of problem_of
solution_exists p before = go (engine_refusal p (length before)) refl
  where
    go : (k : ℕ) → engine_refusal p (length before) ≡ k → SomeSolution p before
    go (suc k) e = record {
      result = Err (refusal_at (suc k));
      buffer = before;
      solves = rw (refusal_back (suc k) (omega arith) (omega (arith, engine_few p (length before)))) (Results.turned_away e);
    }
    go zero e =
        let w = ((none_refused p (length before)).0 e).0 in
        ⊎_elim
        (λ (k : AsksOne p).
        let own : WithinLayout p = sym (one_question p k) ∙ w in
        let s = answer_exists (problem_of p) (problem_fits p own).n_most (layout_within p own) in
        let c = class_found s.answers.found in
        record {
          result = Ok (One (record { class = c.class; span = number_for s.span; trials = s.trials; size = answer_size s.class (n_field p) (m_field p) }));
          buffer = written before (answer_bytes (n_field p) s.answer);
          solves = rw (c.is, number_back s.span (span_numbered s.answers)) (Results.solved s.answer k e s.answers);
        })
        (λ (k : kind_field p ≡ questions_kind).
        let s = answers_exist p k w (count_field p) (omega arith) in
        record { result = Ok (All (count_field p) s.trials (length s.bytes)); buffer = written before s.bytes; solves = Results.all_solved k e s.turn })
        (either_kind p w)

pub the_solve : Solve
the_solve = record {
  result = λ p before. (solution_exists (meant p) before).result;
  buffer = λ p before. (solution_exists (meant p) before).buffer;
  contract = λ p before b c. (solution_exists (meant p) before).solves;
}

-- ---- `check`

-- What the code gives for a verdict.
verdict_by : Verdicts.Verdict → Result Certified Refusal
verdict_by (Verdicts.accepted class span) = Ok (record { class = class; span = number_for span })
verdict_by (Verdicts.refused k) = Err (refusal_at k)

verdict_by_lem : {p a : List ℕ} {v : Verdicts.Verdict} → Judged p a v → verdict_of (verdict_by v) ≡ v
unfolding verdict_by check_refusal answer_of
verdict_by_lem {p} {a} (turned_away {k = k} e) = ap Verdicts.refused (refusal_back (suc k) (omega arith) (omega (arith, check_few p a)))
verdict_by_lem {p} {a} (certified e h) =
    let fits = (answer_fits a (n_field p) (m_field p)).0 ((or_else_none (problem_refusal p) _).0 e).1 in
    ap (Verdicts.accepted (class_field a)) (number_back (span_field a) (within_numbered span_limit (span_field a) (omega arith) (span_within (class_field a) (span_field a) fits.form.span_fits_is)))
verdict_by_lem (uncertified e h) = ap Verdicts.refused (refusal_back 14 (omega arith) (omega arith))

pub the_check : Check
the_check = record {
  verdict = λ p a. verdict_by (the_checker p a);
  contract = λ p a b c. let j = the_checker_judges p a b c in rw (verdict_by_lem j) j;
}

-- ---- `read_problem`

pub the_read_problem : (left₀ right₀ : List ℕ) → ReadProblem left₀ right₀
unfolding problem_outcome refusal_for
the_read_problem left₀ right₀ = record {
  header = λ p. result_by (record_refusal (meant p)) (the_layout (meant p));
  left = λ p. unless_refused (record_refusal (meant p)) left₀ (left_table (asking (meant p) 0));
  right = λ p. unless_refused (record_refusal (meant p)) right₀ (right_table (asking (meant p) 0));
  contract = λ p b. record {
    result = result_back layout_in (record_refusal (meant p)) (the_layout (meant p)) (layout_of (meant p)) (problem_few engine_kinds (meant p))
        (λ e. layout_back engine_kinds (meant p) (length (meant p)) ((or_else_none (header_refusal engine_kinds (meant p) (length (meant p))) _).0 e).0);
    left_kept = λ h. unless_refused_lem (record_refusal (meant p)) left₀ (left_table (asking (meant p) 0)) h;
    right_kept = λ h. unless_refused_lem (record_refusal (meant p)) right₀ (right_table (asking (meant p) 0)) h;
    left_read = λ w. unless_none (record_refusal (meant p)) left₀ (left_table (asking (meant p) 0)) w;
    right_read = λ w. unless_none (record_refusal (meant p)) right₀ (right_table (asking (meant p) 0)) w;
  };
}

-- ---- `read_answer`

pub the_read_answer : (stamps₀ picks₀ : List ℕ) → ReadAnswer stamps₀ picks₀
unfolding answer_outcome answer_of stamps_of picks_of
the_read_answer stamps₀ picks₀ = record {
  head = λ s n m. result_by (answer_refusal s n m) (head_in s);
  stamps = λ s n m. unless_refused (answer_refusal s n m) stamps₀ (pad 32 (stamps_of s n));
  picks = λ s n m. unless_refused (answer_refusal s n m) picks₀ (pad 64 (picks_of s n m));
  contract = λ s n m b v w. record {
    answered = result_back told_by (answer_refusal s n m) (head_in s) (class_field s, span_field s, start_field s) (answer_few s n m)
        (λ e. ap (λ (x : Trop). (class_field s, x, start_field s)) (span_meant b.bytes n m));
    kept = λ d. let some = above (answer_refusal s n m) d in (unless_refused_lem (answer_refusal s n m) stamps₀ _ some, unless_refused_lem (answer_refusal s n m) picks₀ _ some);
    stamps_read = λ e. rw (unless_none (answer_refusal s n m) stamps₀ (pad 32 (stamps_of s n)) e)
        (padded 32 (stamps_of s n) (rw stamps_at_length (stamps_most (class_field s) n ((answer_fits s n m).0 e).n_most)));
    picks_read = λ e. let f = (answer_fits s n m).0 e in rw (unless_none (answer_refusal s n m) picks₀ (pad 64 (picks_of s n m)) e)
        (padded 64 (picks_of s n m) (rw picks_at_length (picks_most (class_field s) n m f.n_most f.m_most)));
  };
}
  where
    above : (k : ℕ) → (k ≡ 0 → ⊥) → 0 < k
    above k d = ⊎_elim (λ (e : k ≡ 0). absurd (d e)) (λ h. h) (eq-zero-or-pos k)

-- ---- `write_answer`

-- The answer that is meant by what is handed over.
abbrev meant_by : WriterFields → Answer
meant_by f = fields_of f.head f.stamps f.picks

pub the_write_answer : WriteAnswer
unfolding writer_outcome
the_write_answer = record {
  result = λ f before. result_by (writer_refusal (meant_by f) f.n f.m (length before)) (answer_size f.head.class f.n f.m);
  buffer = λ f before. unless_refused (writer_refusal (meant_by f) f.n f.m (length before)) before (written before (answer_bytes f.n (meant_by f)));
  contract = λ f before h b. record { answered = result_back (λ size. size) _ _ _ (writer_few (meant_by f) f.n f.m (length before)) (λ e. refl); buffer = refl };
}

-- ---- `answer` of the span program

-- What is put out for all inputs of which the same was kept.
record KeptOutput (kept : List ℕ) (size : ℕ) : Type 0 where
  output : List ℕ
  holds : (input : List ℕ) → KeptOf kept size input → SpanOutput (meant input) output

-- What the program puts out for an input.
record SpanText (input : List ℕ) : Type 0 where
  text : List ℕ
  holds : SpanOutput input text

span_text : (input : List ℕ) → SpanText input
unfolding problem_of
span_text input = go (record_refusal input) refl
  where
    go : (k : ℕ) → record_refusal input ≡ k → SpanText input
    go (suc k) e = record { text = refused_line (suc k); holds = Programs.refusal e }
    go zero e = ⊎_elim
        (λ (k : AsksOne input).
        let own : WithinLayout input = sym (one_question input k) ∙ e in
        let s = answer_exists (problem_of input) (problem_fits input own).n_most (layout_within input own) in
        record { text = answer_bytes (n_field input) s.answer; holds = Programs.answer s.answer k e s.answers })
        (λ (k : kind_field input ≡ questions_kind).
        let s = answers_exist input k e (count_field input) (omega arith) in record { text = s.bytes; holds = Programs.answers k e s.turn })
        (either_kind input e)

-- A header of a size beyond what is kept is refused.
long_number : (kept : List ℕ) (size : ℕ) → kept_bytes < size → 0 < header_refusal engine_kinds kept size
long_number kept size h = ⊎_elim
    (λ (e : header_refusal engine_kinds kept size ≡ 0). absurd (omega (arith, header_most engine_kinds kept size e)))
    (λ g. g)
    (eq-zero-or-pos (header_refusal engine_kinds kept size))

span_kept : (kept : List ℕ) (size : ℕ) → KeptOutput kept size
unfolding refusal_for
span_kept kept size = ⊎_elim
    (λ (h : size ≤ kept_bytes).
    let t = span_text (meant (take size kept)) in
    record { output = t.text; holds = λ input k. subst (λ (x : List ℕ). SpanOutput (meant x) t.text) (sym (kept_whole k h)) t.holds })
    (λ (h : kept_bytes < size). long h (header_refusal engine_kinds kept size) refl (long_number kept size h))
    (nat_le_or_lt size kept_bytes)
  where
    long : kept_bytes < size → (k : ℕ) → header_refusal engine_kinds kept size ≡ k → 0 < k → KeptOutput kept size
    long h zero e s = absurd (omega arith)
    long h (suc k) e s = record {
      output = refused_line (suc k);
      holds = λ input f.
          let same : header_refusal engine_kinds input (length input) ≡ suc k = ap (header_refusal engine_kinds input) f.size_is ∙ header_agrees engine_kinds input kept (λ i b. kept_at f h i (omega arith)) size ∙ e in
          rw (meant_some input (omega (arith, f.size_is))) (Programs.refusal (or_else_suc (header_refusal engine_kinds input (length input)) _ (omega arith) ∙ same));
    }

pub the_span : Entries.SpanAnswer
the_span = record {
  count = λ kept size. length (span_kept kept size).output;
  out = λ kept size. (span_kept kept size).output;
  contract = λ kept size b l s input r. subst (SpanOutput (meant input)) (sym (take_all (length (span_kept kept size).output) (span_kept kept size).output (omega arith)))
      (span_read kept size (span_kept kept size).output (span_kept kept size).holds input r);
}

-- ---- `answer` of the verdict program

-- A verdict for all inputs of which the same was kept.
record KeptVerdict (kept : List ℕ) (size : ℕ) : Type 0 where
  verdict : Verdicts.Verdict
  judged : Bytes kept → length kept ≡ kept_bytes → (input : List ℕ) → KeptOf kept size input → Judged (meant (problem_part input)) (answer_part input) verdict

-- An input that was kept whole.
verdict_whole : (kept : List ℕ) (size : ℕ) → size ≤ kept_bytes → KeptVerdict kept size
unfolding problem_part answer_part
verdict_whole kept size h = record {
  verdict = v;
  judged = λ b l input k. subst (λ (x : List ℕ). Judged (meant (problem_part x)) (answer_part x) v) (sym (kept_whole k h))
      (the_checker_judges _ _ (part b l (bytes_take (cut_place x) (bytes_take size b)) (rw length-take (omega (arith, length-take size kept)))) (part b l (bytes_drop (cut_place x) (bytes_take size b)) (rw length-drop (omega (arith, length-take size kept)))));
}
  where
    x : List ℕ
    x = take size kept

    v : Verdicts.Verdict
    v = the_checker (problem_part (take size kept)) (answer_part (take size kept))

    part : Bytes kept → length kept ≡ kept_bytes → {s : List ℕ} → Bytes s → length s ≤ length kept → Slice s
    part b l c m = record { bytes = c; size = omega arith }

-- A longer one, cut inside.
module _ (kept : List ℕ) (size : ℕ) (h : kept_bytes < size) (cut : length_field kept + length_bytes ≤ size) where
  end : ℕ
  end = length_field kept + length_bytes

  header_numbered : (k : ℕ) → header_refusal checker_kinds kept end ≡ k → header_of (result_by k (the_layout kept)) ≡ header_outcome checker_kinds kept end
  unfolding header_outcome
  header_numbered k e =
      result_back layout_in k (the_layout kept) (layout_of kept) (omega (arith, e, header_few checker_kinds kept end)) (λ z. layout_back checker_kinds kept end (e ∙ z))
      ∙ ap (λ (i : ℕ). outcome i (layout_of kept)) (sym e)

  -- Its problem is refused by its header, by a lead, or its answer by its header.
  verdict_cut : KeptVerdict kept size
  unfolding end result_by the_layout check_refusal
  verdict_cut = by_header (header_refusal checker_kinds kept end) refl
    where
      by_answer : header_refusal checker_kinds kept end ≡ 0 → problem_refusal (take end kept) ≡ 0 → KeptVerdict kept size
      by_answer e w =
          let small = header_small kept end (header_numbered 0 e) refl in
          let some = long_refused (drop end kept) (size - end) (n_field kept) (m_field kept) small.2 small.3 (omega (arith, small.1)) in
          let same : (i : ℕ) → i < problem_header → get_or (take end kept) i 0 ≡ get_or kept i 0 = λ i b. get_or-take end kept i 0 (omega (arith, small.0)) in
          let read : HeaderRead (take end kept) (n_field kept) (m_field kept) =
          record { none = w; n_is = sym (n_agrees (take end kept) kept same); m_is = sym (m_agrees (take end kept) kept same) } in
          record {
            verdict = Verdicts.refused (answer_header_refusal (drop end kept) (size - end) (n_field kept) (m_field kept));
            judged = λ b l input k.
                let longer = kept_longer k h in
                judged_long input (omega (arith, longer.size_is)) (long_cut longer h cut)
                (long_answered longer cut (subst (λ (s : List ℕ). HeaderRead s (n_field kept) (m_field kept)) (problem_kept longer cut l (omega (arith, small.1))) read) refl some);
          }

      by_problem : header_refusal checker_kinds kept end ≡ 0 → (j : ℕ) → problem_refusal (take end kept) ≡ j → KeptVerdict kept size
      by_problem e zero w = by_answer e w
      by_problem e (suc j) w =
          let small = header_small kept end (header_numbered 0 e) refl in
          record {
            verdict = Verdicts.refused (suc j);
            judged = λ b l input k.
                let longer = kept_longer k h in
                let is : problem_refusal (take end input) ≡ suc j = ap problem_refusal (sym (problem_kept longer cut l (omega (arith, small.1)))) ∙ w in
                judged_long input (omega (arith, longer.size_is)) (long_cut longer h cut) (turned (take end input) (drop end input) (suc j) (or_else_suc (problem_refusal (take end input)) _ (omega arith) ∙ is) (omega arith));
          }

      by_header : (k : ℕ) → header_refusal checker_kinds kept end ≡ k → KeptVerdict kept size
      by_header zero e = by_problem e (problem_refusal (take end kept)) refl
      by_header (suc k) e = record {
        verdict = Verdicts.refused (number_of (refusal_at (suc k)));
        judged = λ b l input f.
            let longer = kept_longer f h in
            judged_long input (omega (arith, longer.size_is)) (long_cut longer h cut) (header_turned longer cut (refusal_at (suc k)) (header_numbered (suc k) e));
      }

verdict_kept : (kept : List ℕ) (size : ℕ) → KeptVerdict kept size
verdict_kept kept size = ⊎_elim (verdict_whole kept size) long (nat_le_or_lt size kept_bytes)
  where
    long : kept_bytes < size → KeptVerdict kept size
    long h = ⊎_elim (verdict_cut kept size h)
        (λ (past : size < length_field kept + length_bytes). record { verdict = Verdicts.refused 2; judged = λ b l input k. long_past (kept_longer k h) h past })
        (nat_le_or_lt (length_field kept + length_bytes) size)

pub the_verdict : Entries.Answer VerdictOutput
the_verdict = record {
  count = λ kept size. length (text kept size);
  out = λ kept size. text kept size;
  contract = λ kept size b l s input r. subst (VerdictOutput input) (sym (take_all (length (text kept size)) (text kept size) (omega arith)))
      (verdict_read kept size (text kept size) (λ x k. record { verdict = (verdict_kept kept size).verdict; judged = (verdict_kept kept size).judged b l x k; line = refl }) input r);
}
  where
    text : List ℕ → ℕ → List ℕ
    text kept size = verdict_line (verdict_kept kept size).verdict

-- ---- all of them

-- So the demands can be met: these functions do.
pub the_demands : (left₀ right₀ stamps₀ picks₀ : List ℕ)
    → Demands (engine_of the_solve) (checker_of the_check) (problem_reader_of (the_read_problem left₀ right₀)) (reader_of (the_read_answer stamps₀ picks₀)) (writer_of the_write_answer) (program_of the_span) (program_of the_verdict)
the_demands left₀ right₀ stamps₀ picks₀ =
    demands the_solve the_check (the_read_problem left₀ right₀) (the_read_answer stamps₀ picks₀) the_write_answer the_span the_verdict
