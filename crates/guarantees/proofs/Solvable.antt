-- For every problem with small leads there is an answer that the engine may give.
use Prim.Native.Nat.{ℕ, suc, ◌+◌, ◌*◌, ◌≤◌, ◌<◌}
use mathlib.Core.Path.{◌≡◌, refl, sym, subst}
use mathlib.Core.Bool.{Bool, true, and-eq-true_iff}
use mathlib.Core.List.{List, [], ◌∷◌}
use mathlib.Core.Logic.{⊎_elim}
use native.Mathlib.Omega.{arith}
use lib.Dec.{eqb}
use lib.ListN.{length, get_or, get_or-eq_default}
use lib.IntN.{ℤ, pos, neg_ℤ, nat_abs, ◌+ℤ◌, ◌-ℤ◌}
use lib.Signed.{◌≤ℤ◌}
use borrow.Author.Tests.{eq-eqb, le-leb, lt-ltb}
use Rattle.base.proofs.Numbers.{nat_le_or_lt}
use Rattle.definitions.specs.Limits.{highest_n, lead_limit, span_limit, stamp_limit, class_optimal, class_unbounded, class_infeasible}
use Rattle.definitions.specs.Tropical.{Trop, bot, fin, plus, Finite}
use Rattle.definitions.specs.Problem.{Problem, Point, Feasible, value, Attainable, Optimal, Unbounded, Infeasible}
use Rattle.definitions.specs.Problem as Problems
use Rattle.definitions.specs.Certificate.{Strategy, Anchor, Second, start_of, AnchorAnd}
use Rattle.definitions.specs.Bytes.{all, blank_or_within, whole_within}
use Rattle.definitions.specs.ProblemRecord.{list_of}
use Rattle.definitions.specs.AnswerRecord.{Answer, stamp_count, pick_count, right_counts, span_fits, stamps_fit, is_zero, is_blank}
use Rattle.definitions.specs.Verdict as Verdicts
use Rattle.definitions.specs.Verdict.{strategy_of}
use Rattle.definitions.specs.Solved as Results
use Rattle.definitions.specs.Solved.{Answers, IdleVariables, IdleRows}
use Rattle.definitions.proofs.Whole.{up, down, whole, plus_read, neg_read, abs_show}
use Rattle.definitions.proofs.AnswerFits.{form_fits}
use Rattle.definitions.proofs.ProblemBack.{listed-length, listed_at}
use Rattle.duality.specs.Starts.{StartBelow}
use Rattle.duality.specs.System.{Solves, Solution, Meets, system_at}
use Rattle.duality.specs.Values.{values}
use Rattle.duality.specs.Within.{Within}
use Rattle.duality.proofs.Weak.{not_solved_and_blocked}
use Rattle.duality.proofs.Attain.{moved, moved_anchored, moved_solves, solves_feasible, moved_counts, solves_within}
use Rattle.duality.proofs.Ends.{finished}
use Rattle.duality.proofs.Strong.{settled, met_or_blocks}
use Rattle.duality.proofs.Stamps.{stamps_at_most_32}
use Rattle.duality.proofs.Starts.{anchor_below, second_below, start_below, anchor_and_below}
use Rattle.duality.proofs.Numbers.{top_enough}
use Rattle.duality.proofs.Unused.{optimal_unused, infeasible_unused, unbounded_unused}
use Rattle.duality.proofs.Classes.{starts_inside, attainable_exactly, value_exactly, optimal_exactly, optimal_accepted, optimal_range, infeasible_accepted, unbounded_accepted, classified}
use Rattle.checker.proofs.Agreeing.{listed_point, listed_strategy, listed_fit, optimal_agrees, infeasible_agrees, unbounded_agrees}
use Rattle.guarantees.proofs.Reached.{listed_whole, shown, shown_agree, shown_past, shown_idle, shown_most, rows_shown, rows_shown_agree, rows_shown_past, rows_shown_idle, rows_shown_most}

-- An answer, with its class, span and trials.
pub record SomeAnswer (p : Problem) : Type 0 where
  pub class : ℕ
  pub span : Trop
  pub trials : ℕ
  pub answer : Answer
  pub answers : Answers p class span trials answer

-- ---- its form

counts_right : (a : Answer) (n m : ℕ) → length a.stamps ≡ stamp_count a.class n → length a.picks ≡ pick_count a.class n m → right_counts a n m ≡ true
unfolding right_counts
counts_right a n m e f = (and-eq-true_iff (eqb (length a.stamps) (stamp_count a.class n)) _).1 (eq-eqb _ _ e, eq-eqb _ _ f)

all_of : (test : Trop → Bool) (xs : List Trop) → ((k : ℕ) → test (get_or xs k bot) ≡ true) → all test xs ≡ true
unfolding all
all_of test [] h = refl
all_of test (x ∷ xs) h = (and-eq-true_iff (test x) (all test xs)).1 (h 0, all_of test xs (λ k. h (suc k)))

stamps_right : (xs : List Trop) → is_zero (get_or xs 0 bot) ≡ true → ((k : ℕ) → blank_or_within stamp_limit (get_or xs k bot) ≡ true) → stamps_fit xs ≡ true
unfolding stamps_fit
stamps_right [] z h = refl
stamps_right (x ∷ xs) z h = (and-eq-true_iff (is_zero x) (all (blank_or_within stamp_limit) xs)).1 (z, all_of (blank_or_within stamp_limit) xs (λ k. h (suc k)))

-- ---- stamps

-- A value of a kept strategy at t lies between −(64 L + |t|) and 0; the difference of two is within a stamp's limit.
record Low (t v : ℤ) : Type 0 where
  floor : down v ≤ 64 * lead_limit + nat_abs t + up v
  top : v ≤ℤ pos 0

low_within : (t v u : ℤ) → nat_abs t ≤ span_limit → Low t v → Low t u → blank_or_within stamp_limit (fin (v +ℤ neg_ℤ u)) ≡ true
unfolding blank_or_within
low_within t v u h a b = le-leb _ stamp_limit (abs_show (v +ℤ neg_ℤ u)
    (omega (whole, a.floor, a.top, b.floor, b.top, plus_read v (neg_ℤ u), neg_read u))
    (omega (whole, a.floor, a.top, b.floor, b.top, plus_read v (neg_ℤ u), neg_read u)))

moved_within : (t : ℤ) (x : Point) (u : ℤ) (k : ℕ) → nat_abs t ≤ span_limit → ((v : ℤ) → x k ≡ fin v → Low t v) → Low t u → blank_or_within stamp_limit (moved x u k) ≡ true
unfolding moved blank_or_within plus
moved_within t x u k h a b = go (x k) refl
  where
    go : (z : Trop) → x k ≡ z → blank_or_within stamp_limit (plus z (fin (neg_ℤ u))) ≡ true
    go bot e = refl
    go (fin v) e = low_within t v u h (a v e) b

blank_fits : (limit : ℕ) → blank_or_within limit bot ≡ true
unfolding blank_or_within
blank_fits limit = refl

-- ---- the answer of each class

module _ (p : Problem) (n_most : p.n ≤ highest_n) (within : Within p lead_limit) where
  none_answer : Infeasible p → SomeAnswer p
  unfolding span_fits is_blank stamps_fit
  none_answer h =
      let c = (infeasible_accepted p).0 h in
      let t = c.table in
      let begun = start_below p c.start in
      let picks : Strategy = shown p begun t.picks n_most in
      let table : List ℕ = list_of picks (suc p.n) in
      let whole_is = listed_whole picks (suc p.n) (shown_past p begun t.picks n_most) in
      let fit = listed_fit (suc p.m) picks (suc p.n) (shown_most p begun t.picks n_most (suc p.m) t.none_above) in
      let a : Answer = record { class = class_infeasible; span = bot; start = c.start; stamps = []; picks = table } in
      record {
        class = class_infeasible;
        span = bot;
        trials = _;
        answer = a;
        answers = record {
          found = Results.infeasible h;
          class_is = refl;
          span_is = refl;
          counts = counts_right a p.n p.m refl (listed-length picks (suc p.n));
          start_fits_is = le-leb c.start 1 c.fits;
          form = (form_fits a p.n p.m).1 (record { span_fits_is = refl; stamps_fit_lem = refl; picks_fit_lem = fit });
          idle_variables = λ _. subst (IdleVariables (start_of p c.start) p) (sym whole_is) (shown_idle p begun t.picks n_most);
          idle_rows = λ e. absurd (omega arith);
          accepted = Verdicts.infeasible refl (infeasible_agrees p (starts_inside p begun) (listed_strategy picks (suc p.n)) (infeasible_unused (shown_agree p begun t.picks n_most) t.accepted));
        };
      }

  bottomless_answer : Unbounded p → SomeAnswer p
  unfolding span_fits is_blank stamps_fit
  bottomless_answer h =
      let c = (unbounded_accepted p).0 h in
      let t = c.table in
      let begun = anchor_and_below p c.at c.second in
      let picks : Strategy = rows_shown p begun t.picks n_most t.none_above in
      let table : List ℕ = list_of picks (suc p.m) in
      let whole_is = listed_whole picks (suc p.m) (rows_shown_past p begun t.picks n_most t.none_above) in
      let fit = listed_fit (suc p.n) picks (suc p.m) (rows_shown_most p begun t.picks n_most t.none_above) in
      let a : Answer = record { class = class_unbounded; span = bot; start = suc c.at; stamps = []; picks = table } in
      let idle : IdleRows (AnchorAnd c.at) p (strategy_of table) = subst (IdleRows (AnchorAnd c.at) p) (sym whole_is) (rows_shown_idle p begun t.picks n_most t.none_above) in
      record {
        class = class_unbounded;
        span = bot;
        trials = _;
        answer = a;
        answers = record {
          found = Results.unbounded h;
          class_is = refl;
          span_is = refl;
          counts = counts_right a p.n p.m refl (listed-length picks (suc p.m));
          start_fits_is = rw (lt-ltb 0 (suc c.at) (omega arith), le-leb (suc c.at) (suc p.n) (omega (arith, c.second.inside)));
          form = (form_fits a p.n p.m).1 (record { span_fits_is = refl; stamps_fit_lem = refl; picks_fit_lem = fit });
          idle_variables = λ d. absurd (d refl);
          idle_rows = λ _ k e. let same : c.at ≡ k = omega arith in subst (λ (i : ℕ). IdleRows (AnchorAnd i) p (strategy_of table)) same idle;
          accepted = Verdicts.unbounded refl refl c.second (unbounded_agrees p (listed_strategy picks (suc p.m)) (unbounded_unused (rows_shown_agree p begun t.picks n_most t.none_above) t.accepted));
        };
      }

  -- A least plan whose stamps fit: the values of a kept strategy at the least span, moved so that the anchor stands at 0.
  record LeastPlan (s : ℤ) : Type 0 where
    plan : Point
    feasible : Feasible p plan
    value_is : value p plan ≡ Problems.whole s
    stamps : stamps_fit (list_of plan (suc p.n)) ≡ true

  range : (s : ℤ) → Optimal p s → nat_abs s ≤ span_limit
  range s o = optimal_range p lead_limit span_limit within (top_enough p.n lead_limit (omega arith)) s o

  least_plan : (s : ℤ) → Optimal p s → LeastPlan s
  unfolding system_at is_zero
  least_plan s o = found (subst (λ (j : ℕ). Finite (x j)) first.started first.finite)
    where
      τ : Strategy
      τ = (settled (system_at p s)).strategy

      x : Point
      x = values (system_at p s) (settled (system_at p s)).strategy

      solves : Solves (system_at p s) x
      solves = finished (system_at p s) x (settled (system_at p s)).stands

      exactly : Attainable p s × (Attainable p (s -ℤ pos 1) → ⊥)
      exactly = (optimal_exactly p s).0 o

      -- The values are finite at a variable of each start that has a solution.
      meets : {Start : ℕ → Type 0} → StartBelow (suc p.n) Start → Solution (system_at p s) Start → Meets (system_at p s) Start x
      meets {Start} begun v = ⊎_elim
          (λ m. m)
          (λ b. absurd (not_solved_and_blocked (system_at p s) Start v (record { strategy = (settled (system_at p s)).strategy; blocks = b })))
          (met_or_blocks (system_at p s) (settled (system_at p s)).strategy begun (settled (system_at p s)).policy)

      first : Meets (system_at p s) Anchor x
      first = meets (anchor_below p) ((attainable_exactly p s).0 exactly.0).0

      second : Meets (system_at p s) (Second p) x
      second = meets (second_below p) ((attainable_exactly p s).0 exactly.0).1

      low : (k : ℕ) → k ≤ p.n → (v : ℤ) → x k ≡ fin v → Low s v
      low k h v e =
          let r = stamps_at_most_32 p s (settled (system_at p s)).strategy lead_limit within (settled (system_at p s)).policy (omega arith) k h v e in
          record { floor = r.0; top = r.1 }

      found : Finite (x 0) → LeastPlan s
      found f =
          let y : Point = moved x f.whole in
          let anchored = moved_anchored x f.whole f.is in
          let kept : Solves (system_at p s) (moved x f.whole) = moved_solves (system_at p s) x f.whole solves in
          let feasible = solves_feasible p s (moved x f.whole) anchored kept in
          record {
            plan = y;
            feasible = feasible;
            value_is = value_exactly p s y feasible (moved_counts p x f.whole second.started second.finite) (solves_within p s y kept) exactly.1;
            stamps = stamps_right (list_of y (suc p.n))
                (rw (listed_at y bot (suc p.n) 0 (omega arith), anchored) refl)
                (λ k. ⊎_elim
                (λ (h : suc p.n ≤ k).
                let past : length (list_of y (suc p.n)) ≤ k = rw listed-length h in
                rw (get_or-eq_default (list_of y (suc p.n)) bot past) (blank_fits stamp_limit))
                (λ (h : k < suc p.n). rw (listed_at y bot (suc p.n) k h) (moved_within s x f.whole k (range s o) (low k (omega arith)) (low 0 (omega arith) f.whole f.is)))
                (nat_le_or_lt (suc p.n) k));
          }

  least_answer_lem : (s : ℤ) → Optimal p s → SomeAnswer p
  unfolding span_fits whole_within
  least_answer_lem s o =
      let l = least_plan s o in
      let x : Point = l.plan in
      let c = (optimal_accepted p s l.plan l.feasible l.value_is).0 o.least in
      let t = c.table in
      let begun = start_below p c.start in
      let picks : Strategy = shown p begun t.picks n_most in
      let table : List ℕ = list_of picks (suc p.n) in
      let whole_is = listed_whole picks (suc p.n) (shown_past p begun t.picks n_most) in
      let fit = listed_fit (suc p.m) picks (suc p.n) (shown_most p begun t.picks n_most (suc p.m) t.none_above) in
      let a : Answer = record { class = class_optimal; span = fin s; start = c.start; stamps = list_of x (suc p.n); picks = table } in
      record {
        class = class_optimal;
        span = fin s;
        trials = _;
        answer = a;
        answers = record {
          found = Results.optimal o;
          class_is = refl;
          span_is = refl;
          counts = counts_right a p.n p.m (listed-length x (suc p.n)) (listed-length picks (suc p.n));
          start_fits_is = le-leb c.start 1 c.fits;
          form = (form_fits a p.n p.m).1 (record { span_fits_is = le-leb _ span_limit (range s o); stamps_fit_lem = l.stamps; picks_fit_lem = fit });
          idle_variables = λ _. subst (IdleVariables (start_of p c.start) p) (sym whole_is) (shown_idle p begun t.picks n_most);
          idle_rows = λ e. absurd (omega arith);
          accepted = Verdicts.optimal refl refl (optimal_agrees p s (starts_inside p begun) (listed_point x (suc p.n)) (listed_strategy picks (suc p.n))
              (optimal_unused (shown_agree p begun t.picks n_most) s x t.accepted));
        };
      }

  -- Every problem with small leads has an answer.
  pub answer_exists : SomeAnswer p
  answer_exists = ⊎_elim none_answer (λ r. ⊎_elim (λ h. least_answer_lem h.at h.optimal) bottomless_answer r) (classified p)
