-- From what was found and written to the engine's result on bytes.
use Prim.Native.Nat.{ℕ, zero, suc, ◌*◌, ◌≤◌, ◌<◌}
use mathlib.Core.Path.{◌≡◌, refl, ap, sym, subst₂, ◌∙◌}
use mathlib.Core.Bool.{Bool, cond}
use mathlib.Core.List.{List}
use mathlib.Core.Logic.{◌⊎◌, ⊎_elim}
use native.Mathlib.Omega.{arith}
use lib.ListN.{length, take, length-take, length-map}
use borrow.Author.Tests.{lt-ltb, ne_eqb}
use Rattle.definitions.specs.Limits.{answer_most, questions_kind}
use Rattle.definitions.specs.Bytes.{Bytes, gives}
use Rattle.definitions.specs.Offset.{trop_of}
use Rattle.definitions.specs.Problem as Problems
use Rattle.definitions.specs.ProblemRecord.{Kinds, engine_kinds, AsksOne, kind_field, n_field, m_field, count_field, questions_asked, layout_of, refusal_for, record_refusal, problem_outcome, WithinLayout, problem_of, meant}
use Rattle.definitions.specs.AnswerRecord.{stamp_count, pick_count, answer_size, answer_bytes, writer_outcome, written}
use Rattle.definitions.specs.Questions.{asking}
use Rattle.definitions.specs.Solved as Results
use Rattle.definitions.specs.Solved.{Answers, Solves, turned_away, solved, engine_refusal}
use Rattle.definitions.proofs.Questions.{asking_itself}
use Rattle.definitions.proofs.IdleDay.{several_itself, meant_bytes}
use Rattle.definitions.proofs.Refusals.{or_else_suc}
use Rattle.definitions.proofs.Layouts.{one_question}
use Rattle.definitions.proofs.AnswerFits.{WriterFits, writer_fits}
use Rattle.definitions.proofs.Outcomes.{outcome-none}
use Rattle.definitions.proofs.Solved.{answers_taken, none_refused, Wrote, wrote, WroteAll, wrote_all}
use Rattle.std.specs.Prelude.{Result, Ok, Err, IsOk}
use Rattle.records.specs.declared.problem.Kind.TheVariants.{Problem, Questions, States}
use Rattle.records.specs.declared.problem.Layout.{Layout}
use Rattle.records.specs.declared.refusal.Refusal.{Refusal}
use Rattle.records.specs.declared.refusal.Refusal.TheVariants.{Room}
use Rattle.records.specs.Classes.{class_number}
use Rattle.records.specs.Decoded.{InTables}
use Rattle.records.specs.ProblemHeader.{kind_number, layout_in, header_of}
use Rattle.records.specs.Refusals.{number_of}
use Rattle.records.proofs.Refusing.{number_range, was_err}
use Rattle.problem_records.specs.Tables.{left_table, right_table, ProblemRead}
use Rattle.problem_records.proofs.LeadTables.{problem_decoded}
use Rattle.problem_records.proofs.ReadProblem.{told_of}
use Rattle.answer_reader.specs.Fields.{fields_of}
use Rattle.answer_writer.specs.AnswerWriting.{AnswerWritten, written_of, unless_refused}
use Rattle.look.specs.Frames.{Coefficients}
use Rattle.look.proofs.Tables.{problem_in, problem_in_lem}
use Rattle.class_answers.specs.declared.answer.Answer.{Answer}
use Rattle.class_answers.specs.Answered.{Answered}
use Rattle.engine.specs.declared.solve.Answered as Own
use Rattle.engine.specs.declared.solve.Solution.{Solution}
use Rattle.engine.specs.declared.solve.Solution.TheVariants.{One, All}
use Rattle.engine.specs.Outcome.{solved_of, shown_in, Gives, Writes, SolvedAs, FoundFor, OneWrote, Read, LayoutRead, SeveralRead}

-- ---- writing what was found

-- What can be written into a buffer, which has room for every answer, can be written into each that has.
pub found_room : {n m room : ℕ} {a : Answer} → FoundFor n m room a → answer_most ≤ room
found_room {n} {m} {room} {a} f = ((writer_fits (shown_in n m a) n m room).0 f.taken).room_enough

found_in : {n m room other : ℕ} {a : Answer} → FoundFor n m room a → answer_most ≤ other → FoundFor n m other a
found_in {n} {m} {room} {other} {a} f h =
    let w = (writer_fits (shown_in n m a) n m room).0 f.taken in
    record {
      n_most = f.n_most;
      m_most = f.m_most;
      stamps_enough = f.stamps_enough;
      picks_enough = f.picks_enough;
      taken = (writer_fits (shown_in n m a) n m other).1 (record {
        n_most = w.n_most;
        m_most = w.m_most;
        room_enough = h;
        class_known = w.class_known;
        start_fits_is = w.start_fits_is;
        stamps_count = w.stamps_count;
        picks_count = w.picks_count;
        form = w.form;
      });
    }

-- The writer was handed what was found, cut to the counts of the class.
module _
    {n m room k s p : ℕ} {a : Answer} {before after : List ℕ} {r : Result ℕ Refusal}
    (wrote : AnswerWritten (fields_of (record { class = k; span = a.span; start = a.start }) (take s a.stamps) (take p a.picks)) n m r before after)
    (found : FoundFor n m room a) (enough : answer_most ≤ length before) (k-is : k ≡ class_number a.class) (s-is : s ≡ stamp_count k n) (p-is : p ≡ pick_count k n m)
  where
    handed : AnswerWritten (shown_in n m a) n m r before after
    handed = rw (s-is, p-is, k-is) at wrote

    record_answered : written_of r ≡ gives (answer_size (class_number a.class) n m)
    unfolding writer_outcome
    record_answered = handed.answered ∙ outcome-none _ (answer_size (class_number a.class) n m) (found_in found enough).taken

    -- The writer does not refuse it.
    pub never_refused : IsOk r
    never_refused = go r record_answered
      where
        go : (q : Result ℕ Refusal) → written_of q ≡ gives (answer_size (class_number a.class) n m) → IsOk q
        go (Ok size) e = refl
        go (Err k) e = absurd cc

    -- The record stands in the buffer.
    pub size_for : {size : ℕ} → r ≡ Ok size → size ≡ answer_size (class_number a.class) n m
    size_for {size} f = let g : gives size ≡ gives (answer_size (class_number a.class) n m) = sym (ap written_of f) ∙ record_answered in cc

    pub wrote_for : after ≡ written before (answer_bytes n (shown_in n m a))
    unfolding unless_refused
    wrote_for = rw (found_in found enough).taken at handed.buffer

-- ---- what was found can be written

cut_enough : (k : ℕ) (xs : List ℕ) → length (take k xs) ≡ k → k ≤ length xs
cut_enough k xs e = omega (arith, length-take k xs)

pub found_for :
    {p : Problems.Problem} {n m room trials : ℕ} {left right : List ℕ} {a : Answer} → p.n ≡ n → p.m ≡ m → Coefficients n m left right → answer_most ≤ room
    → Answers p (class_number a.class) (trop_of a.span) trials (shown_in n m a) → FoundFor n m room a
found_for {n = n} {m} {room} {a = a} e f c long ans =
    let w : WriterFits (shown_in n m a) n m room =
    subst₂ (λ (i k : ℕ). WriterFits (shown_in n m a) i k room) e f (answers_taken room (rw e c.n_most) (rw f c.m_most) long ans) in
    record {
      n_most = c.n_most;
      m_most = c.m_most;
      stamps_enough = cut_enough (stamp_count (class_number a.class) n) a.stamps (sym (length-map (take (stamp_count (class_number a.class) n) a.stamps) trop_of) ∙ w.stamps_count);
      picks_enough = cut_enough (pick_count (class_number a.class) n m) a.picks w.picks_count;
      taken = (writer_fits (shown_in n m a) n m room).1 w;
    }

-- ---- one answer

-- The tables of a problem are such as the search takes; and some problem stands in such tables.
pub stands_tables : {p : Problems.Problem} {n m : ℕ} {left right : List ℕ} → InTables p n m left right → Coefficients n m left right
stands_tables o =
    let d = o.decoded in
    record {
      n_most = rw (← o.n_is) d.n_most;
      m_most = rw (← o.m_is) d.m_most;
      lefts = record { size = d.left_length; near = d.left_near };
      rights = record { size = d.right_length; near = d.right_near };
    }

tables_stand : {n m : ℕ} {left right : List ℕ} → Coefficients n m left right → InTables (problem_in n m left right) n m left right
tables_stand {n} {m} {left} {right} c =
    let q = problem_in_lem n m left right in
    record {
      n_is = q.n_is;
      m_is = q.m_is;
      decoded = record {
        n_most = rw q.n_is c.n_most;
        m_most = rw q.m_is c.m_most;
        left_length = c.lefts.size;
        right_length = c.rights.size;
        left_is = λ i j h k. q.left_is i j (omega (arith, q.m_is)) (omega (arith, q.n_is));
        right_is = λ i j h k. q.right_is i j (omega (arith, q.m_is)) (omega (arith, q.n_is));
        left_near = c.lefts.near;
        right_near = c.rights.near;
      };
    }

module _ {n m : ℕ} {left right : List ℕ} {a : Answer} (found : Answered n m left right a) where
  answers : (p : Problems.Problem) → InTables p n m left right → Answers p (class_number a.class) (trop_of a.span) a.trials (shown_in n m a)
  answers p s = found.answers p s.decoded s.n_is s.m_is

  -- What was found is written,
  pub tables_found : {room : ℕ} → Coefficients n m left right → answer_most ≤ room → FoundFor n m room a
  tables_found c long = let s = tables_stand c in found_for s.n_is s.m_is c long (answers _ s)

  -- as an answer of each problem that stands there.
  pub one_wrote : {size : ℕ} {before after : List ℕ} → size ≡ answer_size (class_number a.class) n m → after ≡ written before (answer_bytes n (shown_in n m a))
      → OneWrote n m left right (record { class = a.class; span = a.span; trials = a.trials; size = size }) before after
  one_wrote e f = record { found = a; given = found.given; answer = shown_in n m a; answer_is = refl; answers = answers; size_is = e; buffer_is = f }

-- ---- the result

pub refuses_with : (p before : List ℕ) (r : Refusal) → record_refusal p ≡ number_of r → SolvedAs p before (Err r) before
unfolding engine_refusal solved_of
refuses_with p before r e = record { solves = go (number_of r) (number_range r).0 e; writes = Writes.refused }
  where
    go : (k : ℕ) → 0 < k → record_refusal p ≡ k → Solves p before (Results.refused k) before
    go zero h e = absurd (omega arith)
    go (suc k) h e = turned_away (or_else_suc (record_refusal p) _ (rw e h) ∙ e)

-- What was read, or refused.
pub layout_read : {kinds : Kinds} (p : List ℕ) {left right left' right' : List ℕ} {r : Result Layout Refusal} → Bytes p → ProblemRead kinds (meant p) left right r left' right'
    → LayoutRead kinds (meant p) r left' right'
unfolding problem_outcome
layout_read {kinds} p b r = record {
  told = λ l f.
      let t = told_of kinds r.result f in
      record {
        bytes = meant_bytes p b;
        within = t.within;
        n_is = t.fits.n_is;
        m_is = t.fits.m_is;
        kind_is = t.fits.kind_is;
        questions_is = t.fits.questions_is;
        questions_most = t.fits.questions_most;
        left_is = r.left_read t.within;
        right_is = r.right_read t.within;
      };
  refused = λ k f. was_err_some f r.result;
}
  where
    was_err_some : {q : Result Layout Refusal} {k : Refusal} → q ≡ Err k → header_of q ≡ problem_outcome kinds (meant p) → (refusal_for kinds (meant p) ≡ number_of k) × (0 < number_of k)
    was_err_some {k = k} f e = let g = was_err layout_in (refusal_for kinds (meant p)) (layout_of (meant p)) e f in (g.0, (number_range k).0)

-- A problem that is refused.
pub refuses_problem : {p before left right : List ℕ} {r : Result Layout Refusal} {k : Refusal} → LayoutRead engine_kinds p r left right → r ≡ Err k → SolvedAs p before (Err k) before
refuses_problem {p} {before} {k = k} read e = refuses_with p before k (read.refused k e).0

-- One within the layout is not refused.
pub never_turned_away : {kinds : Kinds} {s left right : List ℕ} {r : Result Layout Refusal} → LayoutRead kinds s r left right → refusal_for kinds s ≡ 0 → IsOk r
never_turned_away {kinds} {s} {left} {right} {r} read w = go r read
  where
    go : (q : Result Layout Refusal) → LayoutRead kinds s q left right → IsOk q
    go (Ok l) t = refl
    go (Err k) t = absurd (omega (arith, t.refused k refl))

-- The tables of a problem within the layout hold it.
pub within_stands : {p : List ℕ} → Bytes p → WithinLayout p → InTables (problem_of p) (n_field p) (m_field p) (left_table p) (right_table p)
unfolding problem_of
within_stands {p} b w = record { n_is = refl; m_is = refl; decoded = problem_decoded p b w }

pub read_stands : {kinds : Kinds} {p : List ℕ} {l : Layout} {left right : List ℕ} → Read kinds p l left right → WithinLayout p → InTables (problem_of p) l.n l.m left right
read_stands {p = p} r w = rw (r.n_is, r.m_is, r.left_is, r.right_is, asking_itself p 0 w) (within_stands r.bytes w)

module _ {p : List ℕ} {l : Layout} {left right : List ℕ} (read : Read engine_kinds p l left right) where
  -- A buffer that is too short.
  pub refuses_room : {before : List ℕ} {room : ℕ} → length before < room → room ≡ l.questions * answer_most → SolvedAs p before (Err Room) before
  unfolding solved_of engine_refusal
  refuses_room {before} h e =
      record {
        solves = turned_away {k = 6} (rw read.within (ap (λ (t : Bool). cond t 7 0) (lt-ltb (length before) (questions_asked (kind_field p) (count_field p) * answer_most) (rw (← read.questions_is) (omega arith)))));
        writes = Writes.refused;
      }

  -- One that is long enough.
  pub nothing_refused : {room : ℕ} → l.questions * answer_most ≤ room → engine_refusal p room ≡ 0
  nothing_refused {room} h = (none_refused p room).1 (read.within, rw (← read.questions_is) h)

  -- A record of another kind asks one question.
  pub not_several : (l.kind ≡ Problem) ⊎ (l.kind ≡ States) → kind_number l.kind ≡ questions_kind → ⊥
  not_several e h = ⊎_elim
      (λ (p : l.kind ≡ Problem). absurd (let z : 1 ≡ 3 = rw p at h in omega arith))
      (λ (p : l.kind ≡ States). absurd (let z : 5 ≡ 3 = rw p at h in omega arith))
      e

  module _ (k : kind_number l.kind ≡ questions_kind → ⊥) where
    one_kind : AsksOne p
    one_kind = ne_eqb (kind_field p) questions_kind (λ e. k (read.kind_is ∙ e))

    one_stands : InTables (problem_of p) l.n l.m left right
    one_stands = read_stands read (sym (one_question p one_kind) ∙ read.within)

    pub one_tables : Coefficients l.n l.m left right
    one_tables = stands_tables one_stands

    pub one_room : {asked room : ℕ} → asked ≤ room → asked ≡ l.questions * answer_most → answer_most ≤ room
    one_room h a = let e : questions_asked (kind_field p) (count_field p) ≡ 1 = rw one_kind refl in omega (arith, read.questions_is)

    -- Its answer is the result.
    pub solves_one : {r : Own.Answered} {room : ℕ} {before after : List ℕ} → room ≤ length before → room ≡ l.questions * answer_most → OneWrote l.n l.m left right r before after
        → SolvedAs p before (Ok (One r)) after
    unfolding solved_of
    solves_one {before = before} {after} long e w = record {
      solves = rw (w.size_is, w.buffer_is, read.n_is, read.m_is) (solved w.answer one_kind (nothing_refused (omega arith)) (w.answers (problem_of p) one_stands));
      writes = rw (w.size_is, w.buffer_is, read.n_is, read.m_is) (Writes.one one_kind (w.answers (problem_of p) one_stands) gives);
    }
      where
        own : asking p 0 ≡ p
        own = asking_itself p 0 (sym (one_question p one_kind) ∙ read.within)

        gives : Gives p w.answer
        gives = record {
          found = w.found;
          n_most = rw (← read.n_is) one_tables.n_most;
          given = rw (← read.n_is, ← read.m_is, ← own, ← read.left_is, ← read.right_is) w.given;
          is = rw (← read.n_is, ← read.m_is) w.answer_is;
        }

-- Several questions are asked by the bytes themselves: the idle day asks one.
module _ {p : List ℕ} {l : Layout} {left right : List ℕ} (read : Read engine_kinds (meant p) l left right) (k : l.kind ≡ Questions) where
  itself : meant p ≡ p
  itself = several_itself p (sym read.kind_is ∙ ap kind_number k)

  pub several_read : {before : List ℕ} {room : ℕ} → room ≤ length before → room ≡ l.questions * answer_most → SeveralRead p l left right before
  several_read h e = record { read = rw itself at read; kind_is = k; room = omega arith }

  pub several_solves : {before after : List ℕ} {r : Result Solution Refusal} → SolvedAs p before r after → SolvedAs (meant p) before r after
  several_solves s = rw itself s

-- ---- what an answered result means

-- The code's result, answered.
pub own_wrote : {p before after : List ℕ} {r : Result Solution Refusal} {a : Own.Answered} → Solves p before (solved_of r) after → r ≡ Ok (One a)
    → Wrote p before (class_number a.class) (trop_of a.span) a.trials a.size after
unfolding solved_of
own_wrote h e = wrote h (ap solved_of e)

pub own_wrote_all : {p before after : List ℕ} {r : Result Solution Refusal} {count trials size : ℕ} → Solves p before (solved_of r) after → r ≡ Ok (All count trials size)
    → WroteAll p before count trials size after
unfolding solved_of
own_wrote_all h e = wrote_all h (ap solved_of e)
