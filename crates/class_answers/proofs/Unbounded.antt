-- Class 2: the row strategy of a point of the lowest trial is an answer that the checker's list accepts.
use Prim.Native.Nat.{ℕ, suc, ◌+◌, ◌≤◌, ◌<◌}
use mathlib.Core.Path.{◌≡◌, refl, sym, ap, subst}
use mathlib.Core.Bool.{true, ◌&&◌, and-eq-true_iff}
use mathlib.Core.Logic.{⊎_elim}
use borrow.Author.Rules.{rules}
use Rattle.std.specs.Prelude.{Option, Some, None, MatchOption}
use Rattle.std.specs.Option.{IsSome}
use mathlib.Core.List.{List}
use native.Mathlib.Omega.{arith}
use native.Mathlib.Numerals.{add-one}
use lib.Dec.{leb, ltb}
use lib.ListN.{length, get_or, take, replicate, length-replicate, get_or-eq_default}
use borrow.Author.Tests.{le-leb, lt-ltb}
use Rattle.base.proofs.Numbers.{nat_le_or_lt}
use Rattle.base.proofs.Filled.{zeros}
use Rattle.definitions.specs.Limits.{lead_limit, span_limit}
use Rattle.definitions.specs.Tropical.{Trop, plus, Finite}
use Rattle.definitions.specs.Problem.{Problem, Attainable}
use Rattle.definitions.specs.Certificate.{Second, AnchorAnd, AcceptedUnbounded}
use Rattle.definitions.specs.Offset.{trop_of}
use Rattle.definitions.specs.AnswerRecord.{is_blank, span_fits, right_counts}
use Rattle.definitions.specs.Verdict as Verdict
use Rattle.definitions.specs.Verdict.{strategy_of}
use Rattle.definitions.specs.Solved.{Answers}
use Rattle.definitions.proofs.Tropical.{⊑_trans, ⊑_of_eq}
use Rattle.definitions.proofs.Offset.{trop_zero}
use Rattle.definitions.proofs.AnswerFits.{form_fits}
use Rattle.duality.specs.System.{System, Saves, system_at}
use Rattle.duality.specs.Within.{lower}
use Rattle.duality.specs.Induced.{Induced}
use Rattle.duality.specs.Picks.{picks_from}
use Rattle.duality.proofs.Weak.{solution_saves}
use Rattle.duality.proofs.Starts.{anchor_and_below}
use Rattle.duality.proofs.Picks.{picks_joined, picks_none_above, save_picks}
use Rattle.duality.proofs.Numbers.{above_unbounded}
use Rattle.duality.proofs.Classes.{starts_inside}
use Rattle.duality.proofs.Unused.{unbounded_unused}
use Rattle.reach.specs.Marks.{StartMarked, AnchoredAnd}
use Rattle.reach.proofs.Marks.{anchored_and_marked}
use Rattle.policy_iteration.specs.Tables.{system_of, point_of, pick_of}
use Rattle.search.specs.Trials.{lowest_offset, FoundBy}
use Rattle.search.specs.declared.search.Found.{Found}
use Rattle.records.specs.Classes.{class_number}
use Rattle.records.specs.declared.class.Class.TheVariants.{Unbounded}
use Rattle.search.proofs.Trials.{found_bottomless, bottomless_span}
use Rattle.look.specs.declared.frame.Frame.{Frame}
use Rattle.look.specs.declared.greatest.Look.{Look}
use Rattle.look.specs.Frames.{Raised, Copied, Coefficients, Ready, Held}
use Rattle.look.specs.Look.{level, Looked}
use Rattle.look.specs.Point.{PointFor}
use Rattle.look.specs.SecondList.{SecondIs}
use Rattle.duality.proofs.Agree.{Agree, agree_side}
use Rattle.look.proofs.Tables.{problem_in_lem, agree_at, held_within}
use Rattle.look.proofs.SecondList.{number_finite, second_held}
use Rattle.pick_tables.specs.Shown.{RowPicks, InducedRows}
use Rattle.class_answers.specs.Answered.{PointAt, answer_in, AnswerOf}
use Rattle.class_answers.proofs.Points.{point_shows}
use Rattle.class_answers.proofs.RowsOf.{rows_agree, rows_idle, rows_most}
use Rattle.class_answers.proofs.Form.{no_stamps_fit, cut_count}
use Rattle.class_answers.proofs.Shared.{enough, lowest_trialled, point_anchor, same_count, cut_64, fits_64}
use Rattle.class_answers.proofs.Found.{looked_found}

-- A point's row strategy in the tables is one of the system at t.
rows_induced : (left right x rows : List ℕ) (n m : ℕ) (s : System) → Agree (system_of left right level (n + 1) (m + 1)) s
    → InducedRows right x (n + 1) (m + 1) rows → Induced s (point_of x) (pick_of rows)
rows_induced left right x rows n m s a f i h g =
    let k : i < m + 1 = rw a.rows h in
    let e = agree_side (point_of x) i a k in
    let b = (f.each i k).best (subst Finite (sym e) g) in
    record {
      inside = rw (← a.variables) b.0;
      attains = ⊑_trans (⊑_of_eq (sym e)) (⊑_trans b.1 (⊑_of_eq (ap (λ (z : Trop). plus z (point_of x (get_or rows i 0))) (a.right i (get_or rows i 0) k b.0))));
    }

-- The start's form: 1 to n + 1.
start_inside : (k n : ℕ) → k < n + 1 → (ltb 0 (k + 1) && leb (k + 1) (suc n)) ≡ true
start_inside k n h = (and-eq-true_iff (ltb 0 (k + 1)) (leb (k + 1) (suc n))).1 (lt-ltb 0 (k + 1) (omega arith), le-leb (k + 1) (suc n) (omega arith))

-- Both marks are among the 32.
pub anchored_below : {k : ℕ} {start : List ℕ} → AnchoredAnd k start → k < 32
anchored_below {k} {start} a = ⊎_elim
    (λ (h : 32 ≤ k). let b : length start ≤ k = omega (arith, a.flags.length_is) in absurd (omega (arith, a.other, get_or-eq_default start 0 b)))
    (λ h. h)
    (nat_le_or_lt 32 k)

-- A point that shows t possible is met: a variable of the second list has a value there.
point_second : {p : Problem} {n m t : ℕ} {left right row x : List ℕ} {k : ℕ} → Held p n m left right → n ≤ 31 → Copied right m 32 row → PointAt p t x
    → SecondIs row x (n + 1) k → k < n + 1
point_second {n = n} {k = k} q b c x m = ⊎_elim
    (λ (h : n + 1 ≤ k).
    let s = x.second in
    let g = (second_held q b c s.at).0 s.started in
    absurd (m.none h s.at g.0 (g.1, (number_finite _).0 s.finite)))
    (λ h. h)
    (nat_le_or_lt (n + 1) k)

-- The lowest trial is possible: bottomless.
module _ {f : Frame} {raised : List ℕ} {l : Look} {found : Found} {x row rows : List ℕ} (y : Ready f)
    (look : Looked f.n f.m f.left.now f.right.now l) (some : FoundBy l.second (class_number found.class) found.span found.trials) (class : found.class ≡ Unbounded)
    (r : Raised f.right.now f.m lowest_offset 32 raised) (d : PointFor f.n f.m f.left.now raised x) (i : InducedRows raised x (f.n + 1) (f.m + 1) rows)
    (copied : Copied f.right.now f.m 32 row) where
  number : class_number found.class ≡ 2
  number = ap class_number class

  c : Coefficients f.n f.m f.left.now f.right.now
  c = y.coefficients

  attained : (p : Problem) → Held p f.n f.m f.left.now f.right.now → Attainable p (lower span_limit)
  attained p q = (look.decided p q).possible lowest_offset lowest_trialled (found_bottomless some number)

  shows : (p : Problem) → Held p f.n f.m f.left.now f.right.now → PointAt p lowest_offset x
  shows p q = point_shows q y lowest_trialled r d (attained p q)

  -- The second list has a variable with a value.
  pub second_some : (o : Option ℕ) → MatchOption o (SecondIs row x (f.n + 1) (f.n + 1)) (λ k. (k < f.n + 1) × SecondIs row x (f.n + 1) k) → IsSome o
  second_some None m = let q = problem_in_lem f.n f.m f.left.now f.right.now in let far : f.n + 1 < f.n + 1 = point_second q c.n_most copied (shows _ q) m in absurd (omega arith)
  second_some (Some k) m = search rules

  module _ {k : ℕ} (met : SecondIs row x (f.n + 1) k) where
    inside : k < f.n + 1
    inside = let q = problem_in_lem f.n f.m f.left.now f.right.now in point_second q c.n_most copied (shows _ q) met

    -- It is among the 32.
    pub second_below : k < 32
    second_below = omega (arith, inside, c.n_most)

    -- The row strategy of the point saves there, from the anchor and that variable.
    saves : (p : Problem) → Held p f.n f.m f.left.now f.right.now → Saves (system_at p (lower span_limit)) (AnchorAnd k) (pick_of rows)
    unfolding system_at
    saves p q =
        let z = shows p q in
        let t = lower span_limit in
        let g = rows_induced f.left.now raised x rows f.n f.m (system_at p t) (agree_at q c lowest_trialled r) i in
        solution_saves (system_at p t) (point_of x) (pick_of rows) z.solves g (AnchorAnd k)
        (λ j. ⊎_elim (λ (e : j ≡ 0). (omega arith, rw e (point_anchor z))) (λ (e : j ≡ k). (omega (arith, q.n_is, inside), rw e ((number_finite _).1 (met.some inside).1))))

    module _ {begin out : List ℕ} (anchored : AnchoredAnd k begin) (v : RowPicks f.left.now rows begin (f.n + 1) (f.m + 1) out) where
      starts : StartMarked (AnchorAnd k) (f.n + 1) begin
      starts = anchored_and_marked anchored inside

      strategy : strategy_of (take (suc f.m) out) ≡ pick_of out
      strategy = cut_64 f.m out c.m_most v.shown

      accepted : (p : Problem) → Held p f.n f.m f.left.now f.right.now → Second p k → AcceptedUnbounded (AnchorAnd k) p (pick_of out)
      accepted p q second =
          let g = save_picks p (lower span_limit) (picks_joined (pick_of rows) (suc p.n) (suc p.m)) (saves p q) in
          unbounded_unused (rw (← same_count p.n f.n q.n_is) (rows_agree q c.n_most starts v))
          (above_unbounded p lead_limit span_limit (picks_from (pick_of rows) (suc p.n)) (starts_inside p (anchor_and_below p k second)) (held_within q c) (enough q c)
          (picks_none_above (pick_of rows) (suc p.n) (suc p.m)) g.0 g.1)

      answers : (p : Problem) → Held p f.n f.m f.left.now f.right.now → Answers p 2 (trop_of 0) found.trials (answer_in f.n f.m 2 0 (k + 1) (replicate 32 0) out)
      unfolding right_counts span_fits is_blank
      answers p q =
          let second : Second p k = (second_held q c.n_most copied k).1 (inside, (met.some inside).0) in
          record {
            found = rw (number, (bottomless_span some number).0) at (looked_found c look p q some);
            class_is = refl;
            span_is = refl;
            counts = rw q.m_is (cut_count (suc f.m) out (omega (arith, c.m_most, v.shown.size_is)));
            start_fits_is = rw q.n_is (start_inside k f.n inside);
            form = rw (q.n_is, q.m_is) ((form_fits (answer_in f.n f.m 2 0 (k + 1) (replicate 32 0) out) f.n f.m).1 (record {
              span_fits_is = rw trop_zero refl;
              stamps_fit_lem = no_stamps_fit;
              picks_fit_lem = fits_64 (suc f.n) f.m out c.m_most v.shown (λ j. omega (arith, rows_most v j));
            }));
            idle_variables = λ e. absurd (e refl);
            idle_rows = λ _ i e. let same : i ≡ k = omega arith in rw (same, strategy) (rows_idle q c.n_most starts v);
            accepted = Verdict.unbounded refl (add-one k) second (rw strategy (accepted p q second));
          }

      pub unbounded_answer : AnswerOf f.n f.m f.left.now f.right.now found (record { class = Unbounded; span = 0; start = k + 1; trials = found.trials; stamps = replicate 32 0; picks = out })
      unbounded_answer = record {
        class_is = sym class;
        span_is = sym (bottomless_span some number).0;
        trials_is = refl;
        stamps_size = length-replicate {A = ℕ} 32 0;
        picks_size = v.shown.size_is;
        stamps_most = λ j. omega (arith, zeros 32 j);
        picks_most = λ j. omega (arith, c.n_most, rows_most v j);
        given = record {
          look = l;
          looks = look.looks;
          found = rw (number, (bottomless_span some number).0) at some;
          blocked = λ e. absurd (e refl);
          saved = λ _. record {
            table = raised;
            point = x;
            targets = rows;
            row = row;
            begin = begin;
            second = k;
            raised = r;
            point_is = d;
            induced = i;
            copied = copied;
            second_is = met;
            begin_is = anchored;
            shown = v;
            start_is = refl;
          };
          planned = λ e. absurd (omega (arith, ap class_number e));
          unplanned = λ _. refl;
        };
        answers = answers;
      }
