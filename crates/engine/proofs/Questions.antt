-- Several questions answered one after another: the answers so far, and one more. Document 02, 2.1.
use Prim.Native.Nat.{ℕ, ◌+◌, ◌-◌, ◌≤◌, ◌<◌, ◌^◌}
use mathlib.Core.Path.{◌≡◌, refl, ap, sym, ◌∙◌, ap₂}
use mathlib.Core.List.{List, [], ◌++◌}
use native.Mathlib.Omega.{arith}
use native.Mathlib.Numerals.{add-one}
use lib.ListN.{length, length-append}
use borrow.Rule.Slice.PartMut.{put_mid, mid_of}
use Rattle.definitions.specs.Limits.{answer_most, questions_kind}
use Rattle.definitions.specs.Bytes.{put}
use Rattle.definitions.specs.Offset.{trop_of}
use Rattle.definitions.specs.ProblemRecord.{engine_kinds, kind_field, n_field, m_field, count_field, problem_of}
use Rattle.definitions.specs.Questions.{alone}
use Rattle.definitions.specs.AnswerRecord.{answer_bytes, written}
use Rattle.definitions.specs.Solved.{Answers, no_question, one_more, all_solved}
use Rattle.definitions.proofs.Put.{put_nil, put_put, put_part, length_put}
use Rattle.definitions.proofs.Questions.{Several, several_passes, alone_bytes}
use Rattle.definitions.proofs.Inputs.{header_none}
use Rattle.definitions.proofs.AnswerFits.{WriterFits}
use Rattle.definitions.proofs.RoundTrip.{answer_length, answer_length_most}
use Rattle.definitions.proofs.Solved.{OneAsked, one_asked, asked_takes}
use Rattle.duality.proofs.SmallLeads.{trials_few}
use Rattle.std.specs.Prelude.{Ok}
use Rattle.records.specs.declared.problem.Layout.{Layout}
use Rattle.records.specs.Classes.{class_number}
use Rattle.records.specs.ProblemHeader.{kind_number}
use Rattle.records.specs.Decoded.{InTables}
use Rattle.records.proofs.Rewritten.{rewritten_refl}
use Rattle.problem_records.specs.Tables.{left_table, right_table}
use Rattle.problem_records.specs.Filling.{QuestionHeld}
use Rattle.problem_records.proofs.LeadTables.{left_length, right_length, problem_decoded}
use Rattle.problem_records.proofs.QuestionTables.{left_steady, right_steady}
use Rattle.look.specs.Frames.{Coefficients}
use Rattle.engine.specs.declared.solve.Answered.{Answered}
use Rattle.engine.specs.declared.solve.Solution.TheVariants.{All}
use Rattle.engine.specs.Outcome.{shown_in, Gives, GivesInTurn, Writes, SolvedAs, solved_of, OneWrote, SeveralRead, Turns}
use Rattle.engine.proofs.Outcomes.{nothing_refused, stands_tables}

module _ {s : List ℕ} {l : Layout} {left₀ right₀ before : List ℕ} (several : SeveralRead s l left₀ right₀ before) where
  kind_is : kind_field s ≡ questions_kind
  kind_is = sym several.read.kind_is ∙ ap kind_number several.kind_is

  count_is : l.questions ≡ count_field s
  count_is = several.read.questions_is ∙ rw kind_is refl

  passes : Several s
  passes = several_passes engine_kinds kind_is (header_none engine_kinds s several.read.within)

  -- Before the first question.
  pub turns_none : Turns s 0 0 0 before before left₀ right₀
  unfolding written
  turns_none = record {
    lefts = rw (several.read.left_is, kind_is) (rewritten_refl (left_length (alone s 0)));
    rights = rw (several.read.right_is, kind_is) (rewritten_refl (right_length (alone s 0)));
    records = [];
    in_turn = no_question;
    given = GivesInTurn.none;
    at_is = refl;
    buffer_is = sym (put_nil before 0);
    few = omega arith;
    short = omega arith;
    same = refl;
  }

  module _ {q at trials : ℕ} {after left right : List ℕ} (turns : Turns s q at trials before after left right) where
    -- After the last.
    pub turns_all : q ≤ l.questions → l.questions ≤ q → SolvedAs s before (Ok (All l.questions trials at)) after
    unfolding solved_of
    turns_all h k =
        let e : l.questions ≡ q = omega arith in
        record {
          solves = rw (turns.at_is, turns.buffer_is, count_is) (all_solved {bytes = turns.records} {trials = trials} kind_is (nothing_refused several.read several.room) (rw (← count_is, e) turns.in_turn));
          writes = rw (turns.at_is, turns.buffer_is, count_is) (Writes.several {trials = trials} {bytes = turns.records} kind_is (rw (← count_is, e) turns.given));
        }

    module _ (h : q < l.questions) where
      asked : q < count_field s
      asked = rw (← count_is) h

      -- The next question can be read,
      pub turn_held : QuestionHeld s l.n l.m q left right
      turn_held = record {
        kind_is = kind_is;
        within = several.read.within;
        n_is = several.read.n_is;
        m_is = several.read.m_is;
        asked = asked;
        lefts = rw several.read.m_is turns.lefts;
        rights = rw several.read.m_is turns.rights;
      }

      one : OneAsked s q
      one = one_asked s kind_is several.read.within q asked

      n_same : n_field (alone s q) ≡ l.n
      n_same = one.n_is ∙ sym several.read.n_is

      m_same : m_field (alone s q) ≡ l.m
      m_same = one.m_is ∙ sym several.read.m_is

      -- and there is room for its answer.
      room : at + answer_most ≤ length after
      room = omega (arith, turns.short, turns.same, several.room)

      inside : at ≤ length after
      inside = omega (arith, room)

      module _ {left' right' : List ℕ} (left_is : left' ≡ left_table (alone s q)) (right_is : right' ≡ right_table (alone s q)) where
        -- The tables are those of its own problem.
        stands : InTables (problem_of (alone s q)) l.n l.m left' right'
        unfolding problem_of
        stands = record {
          n_is = n_same;
          m_is = m_same;
          decoded = rw (left_is, right_is) (problem_decoded (alone s q) (alone_bytes s q several.read.bytes) one.within);
        }

        pub turn_tables : Coefficients l.n l.m left' right'
        turn_tables = stands_tables stands

        module _ {own : Answered} {part : List ℕ} (w : OneWrote l.n l.m left' right' own (mid_of at (length after - at) after) part) where
          answers : Answers (problem_of (alone s q)) (class_number own.class) (trop_of own.span) own.trials w.answer
          answers = w.answers (problem_of (alone s q)) stands

          abbrev bytes : List ℕ
          bytes = answer_bytes (n_field s) w.answer

          takes : WriterFits w.answer (n_field s) (m_field s) answer_most
          takes = asked_takes one w.answer answers

          size_is : own.size ≡ length bytes
          size_is = w.size_is ∙ rw (several.read.n_is, several.read.m_is, ← answers.class_is) (sym (answer_length w.answer (n_field s) (m_field s) answer_most takes))

          most : length bytes ≤ answer_most
          most = answer_length_most w.answer (n_field s) (m_field s) answer_most takes

          put_at : put_mid at (length after - at) after part ≡ put after at bytes
          unfolding written
          put_at = rw (w.buffer_is, several.read.n_is) (put_part after at bytes inside)

          gives : Gives (alone s q) w.answer
          gives = record {
            found = w.found;
            n_most = rw n_same turn_tables.n_most;
            given = rw (n_same, m_same, ← left_is, ← right_is) w.given;
            is = w.answer_is ∙ ap₂ (λ (n m : ℕ). shown_in n m w.found) (sym n_same) (sym m_same);
          }

          -- One more answer, written where the one before ended.
          pub turn_more : Turns s (q + 1) (at + own.size) (trials + own.trials) before (put_mid at (length after - at) after part) left' right'
          unfolding written
          turn_more = record {
            lefts = rw left_is (record { size = left_length (alone s q); steady = left_steady s passes.asks passes.some q asked });
            rights = rw right_is (record { size = right_length (alone s q); steady = right_steady s passes.asks passes.some q asked });
            records = turns.records ++ bytes;
            in_turn = rw add-one (one_more w.answer turns.in_turn answers);
            given = rw add-one (GivesInTurn.more turns.given answers gives);
            at_is = rw length-append (omega (arith, turns.at_is, size_is));
            buffer_is = put_at ∙ ap (λ (x : List ℕ). put x at bytes) turns.buffer_is ∙ put_put before 0 turns.records at bytes (omega arith) (omega (arith, turns.at_is));
            few = omega (arith, turns.few, trials_few (alone s q) one.within answers.found);
            short = omega (arith, turns.short, most, size_is);
            same = ap length put_at ∙ length_put after at bytes inside (omega (arith, most, room)) ∙ turns.same;
          }

          -- Place and trials stay small.
          pub turn_at : at + own.size < 2 ^ 64
          turn_at = omega (arith, turn_more.short, passes.few, count_is)

          pub turn_trials : trials + own.trials < 2 ^ 64
          turn_trials = omega (arith, turn_more.few, passes.few, count_is)
