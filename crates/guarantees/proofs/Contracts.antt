-- From the contracts of the code to the words of the demands: each entry (specs/Entries.antt) as a function that the demands
-- speak of, and the laws that it then keeps.
use Prim.Native.Nat.{ℕ, suc, ◌+◌, ◌*◌}
use mathlib.Core.Path.{◌≡◌, refl, ap, sym, ◌∙◌}
use mathlib.Core.List.{List}
use native.Mathlib.Omega.{arith}
use lib.ListN.{get_or, take}
use Rattle.definitions.specs.Offset.{trop_of}
use Rattle.definitions.specs.Problem.{Problem}
use Rattle.definitions.specs.Bytes.{Outcome, refusal, gives, outcome, refusalOf}
use Rattle.definitions.specs.ProblemRecord.{engine_kinds, problem_of, record_refusal, problem_outcome, n_field, m_field, layout_of, WithinLayouts, meant}
use Rattle.definitions.specs.Questions.{asking}
use Rattle.definitions.specs.AnswerRecord.{Answer, answer_refusal, answer_outcome, answer_of, stamp_count, pick_count, class_field, span_field, start_field, writer_outcome}
use Rattle.definitions.specs.Programs.{VerdictOutput}
use Rattle.definitions.specs.Demands.{Word, Slice, Handed, Engine, Checker, ProblemReader, Reader, Writer, Program, EngineSolves, CheckerJudges, ProblemReaderRefuses, ReadsProblems, ReaderRefuses, ReadsFields, WriterRefuses, WritesRecord, ProgramsAnswer}
use Rattle.definitions.proofs.Outcomes.{refusal-outcome}
use Rattle.std.specs.Prelude.{Result, Ok, Err}
use Rattle.records.specs.declared.problem.Layout.{Layout}
use Rattle.records.specs.declared.refusal.Refusal.{Refusal}
use Rattle.definitions.specs.ProblemRecord as Problems
use Rattle.definitions.proofs.Solved.{first_asked}
use Rattle.definitions.proofs.IdleDay.{meant_bytes}
use Rattle.records.specs.Refusals.{number_of}
use Rattle.records.specs.ProblemHeader.{layout_in, header_of}
use Rattle.records.proofs.Refusing.{was_ok, was_err}
use Rattle.answer_reader.specs.declared.answer.Head.{Head}
use Rattle.answer_reader.specs.Fields.{fields_of}
use Rattle.answer_reader.specs.AnswerReading.{told_by, head_of}
use Rattle.problem_records.proofs.LeadTables.{problem_decoded}
use Rattle.answer_writer.specs.AnswerWriting.{AnswerWritten, written_of, unless_refused}
use Rattle.answer_writer.proofs.Trips.{counted}
use Rattle.engine.specs.Outcome.{solved_of}
use Rattle.checker.specs.Outcome.{verdict_of}
use Rattle.guarantees.specs.Entries as Entries
use Rattle.guarantees.specs.Entries.{Solve, Check, ReadProblem, ReadAnswer, WriteAnswer}
use Rattle.guarantees.proofs.Handing.{handing, handing_fits, handing_means}

-- ---- `solve` and `check`

abbrev pub engine_of : Solve → Engine
engine_of solve = record { result = λ p before. solved_of (solve.result p before); buffer = solve.buffer }

pub engine_meets : (solve : Solve) → EngineSolves (engine_of solve)
engine_meets solve = solve.contract

abbrev pub checker_of : Check → Checker
checker_of check p a = verdict_of (check.verdict p a)

pub checker_meets : (check : Check) → CheckerJudges (checker_of check)
checker_meets check = check.contract

-- ---- `read_problem`

-- The problem in two tables.
unfoldable pub problem_in : Result Layout Refusal → List ℕ → List ℕ → Problem
problem_in (Ok l) left right =
    record { n = l.n; m = l.m; left = λ i j. trop_of (get_or left (i * 32 + j) 0); right = λ i j. trop_of (get_or right (i * 32 + j) 0) }
problem_in (Err k) left right = record { n = 0; m = 0; left = λ i j. trop_of 0; right = λ i j. trop_of 0 }

-- A header with the problem's n and m.
record Given (p : List ℕ) (h : Result Layout Refusal) : Type 0 where
  layout : Layout
  is : h ≡ Ok layout
  n_is : layout.n ≡ n_field p
  m_is : layout.m ≡ m_field p

module _ {left₀ right₀ : List ℕ} (read : ReadProblem left₀ right₀) where
  abbrev pub problem_reader_of : ProblemReader
  problem_reader_of = record {
    lent_left = left₀;
    lent_right = right₀;
    number = λ p. refusalOf (header_of (read.header p));
    problem = λ p. problem_in (read.header p) (read.left p) (read.right p);
    left = read.left;
    right = read.right;
  }

  pub problem_reader_refuses : ProblemReaderRefuses problem_reader_of
  unfolding problem_outcome
  problem_reader_refuses = record {
    number_is = λ p b. ap refusalOf (read.contract p b).result ∙ refusal-outcome (record_refusal (meant p)) _;
    untouched = λ p b k e. ((read.contract p b).left_kept (omega arith), (read.contract p b).right_kept (omega arith));
  }

  -- A header that nothing refuses tells the layout.
  header_given : (p : List ℕ) → WithinLayouts p → (h : Result Layout Refusal) → header_of h ≡ problem_outcome engine_kinds p → Given p h
  unfolding problem_outcome
  header_given p w (Ok l) e =
      let f = was_ok layout_in (record_refusal p) (layout_of p) e refl in
      record { layout = l; is = refl; n_is = ap (λ (x : Problems.Layout). x.n) f.1; m_is = ap (λ (x : Problems.Layout). x.m) f.1 }
  header_given p w (Err k) e = absurd (omega (arith, (was_err layout_in (record_refusal p) (layout_of p) e refl).1))

  pub problem_reader_reads : ReadsProblems problem_reader_of
  unfolding problem_in problem_of
  problem_reader_reads p b w =
      let c = read.contract p b in
      let told = header_given (meant p) w (read.header p) c.result in
      let a = first_asked (meant p) w in
      let d = problem_decoded (asking (meant p) 0) (a.bytes (meant_bytes p b.bytes)) a.within in
      record {
        n_is = rw told.is (told.n_is ∙ sym a.n_is);
        m_is = rw told.is (told.m_is ∙ sym a.m_is);
        left_is = λ i j h g. rw (told.is, c.left_read w) (d.left_is i j (rw a.m_is h) (rw a.n_is g));
        right_is = λ i j h g. rw (told.is, c.right_read w) (d.right_is i j (rw a.m_is h) (rw a.n_is g));
      }

-- ---- `read_answer`

-- What the reader gives: the refusal, or the fields, stamps and picks as many as the class has.
unfoldable pub reading_of : Result Head Refusal → List ℕ → List ℕ → ℕ → ℕ → Outcome Answer
reading_of (Err k) stamps picks n m = refusal (number_of k)
reading_of (Ok head) stamps picks n m = gives (fields_of head (take (stamp_count head.class n) stamps) (take (pick_count head.class n m) picks))

module _ {stamps₀ picks₀ : List ℕ} (read : ReadAnswer stamps₀ picks₀) where
  abbrev pub reader_of : Reader
  reader_of = record {
    lent_stamps = stamps₀;
    lent_picks = picks₀;
    reading = λ s n m. reading_of (read.head s n m) (read.stamps s n m) (read.picks s n m) n m;
    stamps = read.stamps;
    picks = read.picks;
  }

  pub reader_refuses : ReaderRefuses reader_of
  unfolding reading_of answer_outcome
  reader_refuses = record {
    first_refusal = λ s b n m k v w e. go s n m k e (read.head s n m) (read.contract s n m b v w).answered;
    untouched = λ s b n m k v w e. (read.contract s n m b v w).kept (λ z. omega arith);
  }
    where
      go : (s : List ℕ) (n m k : ℕ) → answer_refusal s n m ≡ suc k → (h : Result Head Refusal) → head_of h ≡ outcome (answer_refusal s n m) (class_field s, span_field s, start_field s)
          → reading_of h (read.stamps s n m) (read.picks s n m) n m ≡ refusal (suc k)
      go s n m k e (Ok head) a = absurd (omega (arith, (was_ok told_by (answer_refusal s n m) _ a refl).0))
      go s n m k e (Err j) a = ap refusal (sym (was_err told_by (answer_refusal s n m) _ a refl).0 ∙ e)

  pub reader_reads : ReadsFields reader_of
  unfolding reading_of answer_outcome
  reader_reads s b n m v w e = go (read.head s n m) refl
    where
      go : (h : Result Head Refusal) → read.head s n m ≡ h → reading_of h (read.stamps s n m) (read.picks s n m) n m ≡ gives (answer_of s n m)
      go (Ok head) f = ap gives (counted (read.contract s n m b v w) f b.bytes)
      go (Err j) f = absurd (omega (arith, (was_err told_by (answer_refusal s n m) _ (read.contract s n m b v w).answered f).1))

-- ---- `write_answer`

module _ (write : WriteAnswer) where
  abbrev pub writer_of : Writer
  writer_of = record {
    number = λ a n m buffer. refusalOf (written_of (write.result (handing a n m) buffer));
    buffer = λ a n m buffer. write.buffer (handing a n m) buffer;
  }

  -- The contract, in the answer's own words.
  pub writer_writes : (a : Answer) (n m : ℕ) (buffer : List ℕ) → Handed a → Word n → Word m → Slice buffer
      → AnswerWritten a n m (write.result (handing a n m) buffer) buffer (write.buffer (handing a n m) buffer)
  writer_writes a n m buffer h v w b =
      let c = write.contract (handing a n m) buffer (handing_fits a n m h v w) b in
      rw (handing_means a h) at c

  pub writer_meets : WriterRefuses writer_of × WritesRecord writer_of
  unfolding writer_outcome unless_refused
  writer_meets = (
    record {
      number_is = λ a n m buffer h v w b. ap refusalOf (writer_writes a n m buffer h v w b).answered ∙ refusal-outcome _ _;
      untouched = λ a n m buffer h v w b k e. (writer_writes a n m buffer h v w b).buffer ∙ rw e refl;
    },
    λ a n m buffer h v w b e. (writer_writes a n m buffer h v w b).buffer ∙ rw e refl,
  )

-- ---- `answer` of the programs

abbrev pub program_of : {Output : List ℕ → List ℕ → Type 0} → Entries.Answer Output → Program
program_of answer kept size = take (answer.count kept size) (answer.out kept size)

pub programs_meet : (span : Entries.SpanAnswer) (verdict : Entries.Answer VerdictOutput) → ProgramsAnswer (program_of span) (program_of verdict)
programs_meet span verdict = record {
  span_output = λ kept b l size s. span.contract kept size b l s;
  verdict_output = λ kept b l size s. verdict.contract kept size b l s;
}
