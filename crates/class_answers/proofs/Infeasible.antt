-- Class 3: where the top trial is not possible, the look's strategy is an answer that the checker's list accepts.
use Prim.Native.Nat.{ℕ, suc}
use mathlib.Core.Path.{◌≡◌, refl, sym, ap}
use mathlib.Core.List.{List}
use native.Mathlib.Omega.{arith}
use lib.ListN.{replicate, length-replicate}
use Rattle.base.proofs.Filled.{zeros}
use borrow.Author.Tests.{le-leb}
use Rattle.definitions.specs.Limits.{lead_limit, span_limit}
use Rattle.definitions.specs.Problem.{Problem}
use Rattle.definitions.specs.Certificate.{start_of, AcceptedInfeasible}
use Rattle.definitions.specs.Offset.{trop_of}
use Rattle.definitions.specs.AnswerRecord.{is_blank, span_fits, right_counts}
use Rattle.definitions.specs.Verdict as Verdict
use Rattle.definitions.specs.Solved.{Answers}
use Rattle.definitions.proofs.Offset.{trop_zero}
use Rattle.definitions.proofs.AnswerFits.{form_fits}
use Rattle.duality.specs.Within.{upper}
use Rattle.duality.specs.Picks.{picks_from}
use Rattle.duality.proofs.Starts.{start_below}
use Rattle.duality.proofs.Picks.{picks_joined, picks_none_above, block_picks}
use Rattle.duality.proofs.Numbers.{below_infeasible}
use Rattle.duality.proofs.Classes.{starts_inside}
use Rattle.duality.proofs.Unused.{infeasible_unused}
use Rattle.policy_iteration.specs.Tables.{pick_of}
use Rattle.search.specs.Trials.{top_offset, FoundBy}
use Rattle.search.specs.declared.search.Found.{Found}
use Rattle.records.specs.Classes.{class_number}
use Rattle.records.specs.declared.class.Class.TheVariants.{Infeasible}
use Rattle.search.proofs.Trials.{found_none, none_span}
use Rattle.look.specs.declared.frame.Frame.{Frame}
use Rattle.look.specs.declared.greatest.Look.{Look}
use Rattle.look.specs.Frames.{Coefficients, Ready, Held}
use Rattle.look.specs.Look.{Looked}
use Rattle.look.proofs.Tables.{held_within}
use Rattle.class_answers.specs.Answered.{ShownPicks, answer_in, AnswerOf}
use Rattle.class_answers.proofs.Form.{no_stamps_fit, cut_count}
use Rattle.class_answers.proofs.Shared.{enough, top_trialled, shown_few, shown_agree, shown_strategy, shown_idle, shown_fit}
use Rattle.class_answers.proofs.Found.{looked_found}

-- No span is possible: none.
pub infeasible_answer : {f : Frame} {l : Look} {found : Found} {out : List ℕ} → Ready f → Looked f.n f.m f.left.now f.right.now l
    → FoundBy l.second (class_number found.class) found.span found.trials → found.class ≡ Infeasible → ShownPicks f.n f.m f.right.now l.start l.picks out
    → AnswerOf f.n f.m f.left.now f.right.now found (record { class = Infeasible; span = 0; start = l.start; trials = found.trials; stamps = replicate 32 0; picks = out })
unfolding right_counts span_fits is_blank
infeasible_answer {f} {l} {found} {out} y look some class s =
    record {
      class_is = sym class;
      span_is = sym (none_span some number).0;
      trials_is = refl;
      stamps_size = length-replicate {A = ℕ} 32 0;
      picks_size = s.shown.shown.size_is;
      stamps_most = λ j. omega (arith, zeros 32 j);
      picks_most = shown_few c s;
      given = record {
        look = l;
        looks = look.looks;
        found = rw (number, (none_span some number).0) at some;
        blocked = λ _. (refl, s);
        saved = λ e. absurd (omega (arith, ap class_number e));
        planned = λ e. absurd (omega (arith, ap class_number e));
        unplanned = λ _. refl;
      };
      answers = answers;
    }
  where
    number : class_number found.class ≡ 3
    number = ap class_number class

    c : Coefficients f.n f.m f.left.now f.right.now
    c = y.coefficients

    accepted : (p : Problem) → Held p f.n f.m f.left.now f.right.now → AcceptedInfeasible (start_of p l.start) p (pick_of out)
    accepted p q =
        let inside = starts_inside p (start_below p l.start) in
        let b = block_picks p (upper span_limit) (picks_joined (pick_of l.picks) (suc p.m) (suc p.n)) inside ((look.decided p q).impossible top_offset top_trialled (found_none some number)) in
        infeasible_unused (shown_agree q c s) (below_infeasible p lead_limit span_limit (picks_from (pick_of l.picks) (suc p.m)) inside (held_within q c) (enough q c)
        (picks_none_above (pick_of l.picks) (suc p.m) (suc p.n)) b.0 b.1)

    answers : (p : Problem) → Held p f.n f.m f.left.now f.right.now → Answers p 3 (trop_of 0) found.trials (answer_in f.n f.m 3 0 l.start (replicate 32 0) out)
    answers p q = record {
      found = rw (number, (none_span some number).0) at (looked_found c look p q some);
      class_is = refl;
      span_is = refl;
      counts = rw q.n_is (cut_count (suc f.n) out (omega (arith, c.n_most, s.shown.shown.size_is)));
      start_fits_is = le-leb l.start 1 look.start_most;
      form = rw (q.n_is, q.m_is) ((form_fits (answer_in f.n f.m 3 0 l.start (replicate 32 0) out) f.n f.m).1 (record { span_fits_is = rw trop_zero refl; stamps_fit_lem = no_stamps_fit; picks_fit_lem = shown_fit q c s }));
      idle_variables = λ _. shown_idle q c s;
      idle_rows = λ e. absurd (omega arith);
      accepted = Verdict.infeasible refl (rw (shown_strategy q c s) (accepted p q));
    }
