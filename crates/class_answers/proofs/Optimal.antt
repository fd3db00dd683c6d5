-- Class 1: the least span with a plan that shows it, and the look's strategy, are an answer that the checker's list accepts.
use Prim.Native.Nat.{ℕ, suc, ◌+◌, ◌-◌, ◌≤◌, ◌<◌}
use mathlib.Core.Path.{◌≡◌, refl, sym, ap, fun_ext, ◌∙◌}
use mathlib.Core.Bool.{true, and-eq-true_iff}
use mathlib.Core.Logic.{⊎_elim}
use mathlib.Core.List.{List, map}
use native.Mathlib.Omega.{arith}
use lib.Dec.{eqb}
use lib.ListN.{length, get_or, take}
use lib.IntN.{ℤ, pos, nat_abs, ◌-ℤ◌}
use borrow.Author.Tests.{le-leb}
use Rattle.base.proofs.Numbers.{nat_le_or_lt}
use Rattle.definitions.specs.Limits.{signed_half, span_limit}
use Rattle.definitions.specs.Tropical.{bot, fin}
use Rattle.definitions.specs.Problem.{Problem, Point, Feasible}
use Rattle.definitions.specs.Certificate.{start_of, AcceptedOptimal}
use Rattle.definitions.specs.Offset.{trop_of}
use Rattle.definitions.specs.Bytes.{whole_within}
use Rattle.definitions.specs.AnswerRecord.{is_zero, span_fits, stamps_fit, right_counts}
use Rattle.definitions.specs.Verdict as Verdict
use Rattle.definitions.specs.Solved.{Answers}
use Rattle.definitions.proofs.Whole.{abs_show, subℕ_read}
use Rattle.definitions.proofs.Tropical.{bot_plus}
use Rattle.definitions.proofs.Offset.{trop_zero, trop_fin}
use Rattle.definitions.proofs.AnswerFits.{form_fits}
use Rattle.duality.specs.System.{Solves, Blocks, system_at}
use Rattle.duality.proofs.Weights.{difference_plus}
use Rattle.duality.proofs.Attain.{moved, moved_anchored, moved_solves, moved_counts, solves_feasible, solves_within}
use Rattle.duality.proofs.Starts.{start_below}
use Rattle.duality.proofs.Picks.{picks_joined, block_picks}
use Rattle.duality.proofs.Classes.{starts_inside, value_exactly}
use Rattle.duality.proofs.Unused.{optimal_unused}
use Rattle.policy_iteration.specs.Tables.{point_of, pick_of}
use Rattle.search.specs.Trials.{whole_of, Trialled, LeastBy, FoundBy}
use Rattle.search.specs.declared.search.Found.{Found}
use Rattle.records.specs.Classes.{class_number}
use Rattle.records.specs.declared.class.Class.TheVariants.{Optimal}
use Rattle.search.proofs.Trials.{found_least, least_trialled, below_trialled}
use Rattle.look.specs.declared.frame.Frame.{Frame}
use Rattle.look.specs.declared.greatest.Look.{Look}
use Rattle.look.specs.Frames.{Raised, Coefficients, Ready, Held}
use Rattle.look.specs.Look.{Looked}
use Rattle.look.specs.Point.{PointFor}
use Rattle.look.proofs.Tables.{problem_in_lem}
use Rattle.class_answers.specs.Answered.{Stamps, ShownPicks, PointAt, answer_in, AnswerOf}
use Rattle.class_answers.proofs.Points.{point_shows}
use Rattle.class_answers.proofs.Form.{cut_point, stamps_fit_lem, cut_count, cut_count_map}
use Rattle.class_answers.proofs.Shared.{below_whole, blocked_unattainable, shown_few, shown_agree, shown_strategy, shown_idle, shown_fit, number_within}
use Rattle.class_answers.proofs.Found.{looked_found}

-- The span that is found is a trial.
pub span_trialled : {second class span trials : ℕ} → FoundBy second class span trials → class ≡ 1 → Trialled span
span_trialled f e = least_trialled (found_least f e)

-- The least span with its point: least.
module _ {f : Frame} {raised : List ℕ} {l : Look} {found : Found} {x out stamps : List ℕ} (y : Ready f) (look : Looked f.n f.m f.left.now f.right.now l)
    (some : FoundBy l.second (class_number found.class) found.span found.trials) (class : found.class ≡ Optimal) (r : Raised f.right.now f.m found.span 32 raised)
    (d : PointFor f.n f.m f.left.now raised x) (s : ShownPicks f.n f.m f.right.now l.start l.picks out) (z : Stamps x (f.n + 1) stamps) where
  number : class_number found.class ≡ 1
  number = ap class_number class

  c : Coefficients f.n f.m f.left.now f.right.now
  c = y.coefficients

  least : LeastBy l.second found.span
  least = found_least some number

  positive : 0 < found.span
  positive = omega (arith, least.lowest)

  abbrev span : ℤ
  span = whole_of found.span

  range : nat_abs span ≤ span_limit
  range = abs_show span (omega (arith, least.highest, subℕ_read found.span signed_half)) (omega (arith, least.lowest, subℕ_read found.span signed_half))

  -- The point moved so that variable 0 stands at 0.
  abbrev anchor : ℤ
  anchor = whole_of (get_or x 0 0)

  abbrev plan : Point
  plan = moved (point_of x) anchor

  module _ (p : Problem) (q : Held p f.n f.m f.left.now f.right.now) where
    shows : PointAt p found.span x
    shows = point_shows q y (least_trialled least) r d ((look.decided p q).possible found.span (least_trialled least) least.possible)

    is_anchor : point_of x 0 ≡ fin anchor
    is_anchor = trop_fin (get_or x 0 0) shows.finite

    blocks : Blocks (system_at p (span -ℤ pos 1)) (start_of p l.start) (pick_of l.picks)
    blocks = rw (← below_whole found.span positive) ((look.decided p q).impossible (found.span - 1) (below_trialled least) least.impossible)

    solves : Solves (system_at p span) plan
    solves = moved_solves (system_at p span) (point_of x) anchor shows.solves

    anchored : plan 0 ≡ fin (pos 0)
    anchored = moved_anchored (point_of x) anchor is_anchor

    feasible : Feasible p plan
    feasible = solves_feasible p span plan anchored solves

    accepted : AcceptedOptimal (start_of p l.start) p span plan (pick_of out)
    accepted =
        let b = block_picks p (span -ℤ pos 1) (picks_joined (pick_of l.picks) (suc p.m) (suc p.n)) (starts_inside p (start_below p l.start)) blocks in
        optimal_unused (shown_agree q c s) span plan (record {
          feasible = feasible;
          value_is = value_exactly p span plan feasible (moved_counts p (point_of x) anchor shows.second.started shows.second.finite) (solves_within p span plan solves)
              (blocked_unattainable p (span -ℤ pos 1) l.start (pick_of l.picks) blocks);
          picks_count = b.0;
          below_zero = b.1;
        })

    -- The stamps are that point,
    stamps_plan : (j : ℕ) → point_of stamps j ≡ plan j
    unfolding moved
    stamps_plan j = ⊎_elim
        (λ (h : f.n + 1 ≤ j). rw (z.rest j h, shows.rest j (omega (arith, q.n_is)), trop_zero, bot_plus))
        (λ (h : j < f.n + 1). z.each j h ∙ rw is_anchor (difference_plus (point_of x j) anchor))
        (nat_le_or_lt (f.n + 1) j)

    stamps_point_lem : Verdict.point_of (map trop_of (take (suc f.n) stamps)) ≡ plan
    stamps_point_lem = cut_point (suc f.n) stamps (omega (arith, z.size_is, c.n_most)) (λ j h. z.rest j (omega arith)) ∙ fun_ext stamps_plan

    -- and have class 1's form.
    fit : stamps_fit (map trop_of (take (suc f.n) stamps)) ≡ true
    unfolding is_zero Verdict.point_of moved
    fit = stamps_fit_lem (map trop_of (take (suc f.n) stamps)) (rw (at 0, anchored) refl) (λ k. rw (at k, ← difference_plus (point_of x k) anchor, ← is_anchor) (shows.stamps k))
      where
        at : (k : ℕ) → get_or (map trop_of (take (suc f.n) stamps)) k bot ≡ plan k
        at k = ap (λ (h : Point). h k) stamps_point_lem

    answers : Answers p 1 (trop_of found.span) found.trials (answer_in f.n f.m 1 found.span l.start stamps out)
    unfolding right_counts span_fits whole_within
    answers = record {
      found = rw number at (looked_found c look p q some);
      class_is = refl;
      span_is = refl;
      counts = rw q.n_is ((and-eq-true_iff (eqb (length (map trop_of (take (suc f.n) stamps))) (suc f.n)) (eqb (length (take (suc f.n) out)) (suc f.n))).1
          (cut_count_map (suc f.n) stamps (omega (arith, c.n_most, z.size_is)), cut_count (suc f.n) out (omega (arith, c.n_most, s.shown.shown.size_is))));
      start_fits_is = le-leb l.start 1 look.start_most;
      form = rw (q.n_is, q.m_is) ((form_fits (answer_in f.n f.m 1 found.span l.start stamps out) f.n f.m).1 (record {
        span_fits_is = rw (trop_fin found.span positive) (le-leb _ span_limit range);
        stamps_fit_lem = fit;
        picks_fit_lem = shown_fit q c s;
      }));
      idle_variables = λ _. shown_idle q c s;
      idle_rows = λ e. absurd (omega arith);
      accepted = Verdict.optimal refl (trop_fin found.span positive) (rw (shown_strategy q c s, stamps_point_lem) accepted);
    }

  pub optimal_answer : AnswerOf f.n f.m f.left.now f.right.now found (record { class = Optimal; span = found.span; start = l.start; trials = found.trials; stamps = stamps; picks = out })
  optimal_answer = record {
    class_is = sym class;
    span_is = refl;
    trials_is = refl;
    stamps_size = z.size_is;
    picks_size = s.shown.shown.size_is;
    stamps_most = λ j. ⊎_elim
        (λ (h : f.n + 1 ≤ j). omega (arith, z.rest j h))
        (λ (h : j < f.n + 1). number_within (get_or stamps j 0) (rw (z.each j h) ((shows _ (problem_in_lem f.n f.m f.left.now f.right.now)).stamps j)))
        (nat_le_or_lt (f.n + 1) j);
    picks_most = shown_few c s;
    given = record {
      look = l;
      looks = look.looks;
      found = rw number at some;
      blocked = λ _. (refl, s);
      saved = λ e. absurd (omega (arith, ap class_number e));
      planned = λ _. record { table = raised; point = x; raised = r; point_is = d; stamps_are = z };
      unplanned = λ e. absurd (e refl);
    };
    answers = answers;
  }
