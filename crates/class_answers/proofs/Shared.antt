-- What the answers of the three classes share.
use Prim.Native.Nat.{ℕ, zero, suc, ◌+◌, ◌-◌, ◌≤◌, ◌<◌}
use mathlib.Core.Path.{◌≡◌, refl}
use mathlib.Core.Bool.{true}
use mathlib.Core.List.{List}
use native.Mathlib.Omega.{arith}
use native.Mathlib.Numerals.{add-one}
use lib.ListN.{get_or, take}
use lib.IntN.{ℤ, pos, sub_ℕ, nat_abs, ◌-ℤ◌}
use native.Mathlib.Nat.{eq-zero-or-pos}
use mathlib.Core.Logic.{⊎_elim}
use borrow.Author.Tests.{leb-true}
use Rattle.definitions.specs.Bytes.{blank_or_within}
use Rattle.definitions.specs.Offset.{trop_of}
use Rattle.definitions.proofs.Whole.{whole, minus_read, abs_read, subℕ_read}
use Rattle.base.specs.Filled.{Filled}
use Rattle.definitions.specs.Limits.{signed_half, signed_full, lead_limit, span_limit, stamp_limit}
use Rattle.definitions.specs.Tropical.{Finite}
use Rattle.definitions.specs.Problem.{Problem, Attainable}
use Rattle.definitions.specs.Certificate.{Strategy, start_of}
use Rattle.definitions.specs.AnswerRecord.{picks_fit}
use Rattle.definitions.specs.Verdict.{strategy_of}
use Rattle.definitions.specs.Solved.{IdleVariables}
use Rattle.definitions.proofs.Offset.{trop_fin}
use Rattle.duality.specs.System.{Blocks, system_at}
use Rattle.duality.specs.Within.{Enough}
use Rattle.duality.specs.Picks.{picks_from, AgreeReached}
use Rattle.duality.proofs.Weak.{not_solved_and_blocked}
use Rattle.duality.proofs.Classes.{unsolved_unattainable}
use Rattle.duality.proofs.Numbers.{top_enough}
use Rattle.reach.specs.Marks.{StartMarked}
use Rattle.reach.proofs.Marks.{anchored_marked, coefficients_marked}
use Rattle.policy_iteration.specs.Tables.{point_of, pick_of}
use Rattle.search.specs.Trials.{whole_of, top_offset, lowest_offset, Trialled}
use Rattle.look.specs.Frames.{Copied, Coefficients, Held}
use Rattle.look.proofs.SecondList.{second_held}
use Rattle.class_answers.specs.Answered.{StartMarks, ShownPicks, PointAt}
use Rattle.class_answers.proofs.Variables.{variables_agree, variables_idle, variables_most}
use Rattle.class_answers.proofs.Form.{cut_at, cut_strategy, picks_fit_lem}

-- The outer trials are enough.
pub enough : {p : Problem} {n m : ℕ} {left right : List ℕ} → Held p n m left right → Coefficients n m left right → Enough p.n lead_limit span_limit
enough {p} q c = top_enough p.n lead_limit (omega (arith, q.n_is, c.n_most))

pub below_whole : (k : ℕ) → 0 < k → whole_of (k - 1) ≡ whole_of k -ℤ pos 1
below_whole k h = omega (whole, minus_read (whole_of k) (pos 1), subℕ_read k signed_half, subℕ_read (k - 1) signed_half)

-- They are trials.
pub top_trialled : Trialled top_offset
top_trialled = record { lowest = omega arith; highest = omega arith }

pub lowest_trialled : Trialled lowest_offset
lowest_trialled = record { lowest = omega arith; highest = omega arith }

-- The marks of a start are those of what it means.
pub start_marked : {p : Problem} {n m : ℕ} {left right row : List ℕ} (start : ℕ) {begin : List ℕ} → Held p n m left right → n ≤ 31 → Copied right m 32 row
    → StartMarks row start begin → StartMarked (start_of p start) (n + 1) begin
unfolding start_of
start_marked zero q h c m = anchored_marked (m.anchored refl) (omega arith)
start_marked {n = n} {row = row} (suc k) q h c m =
    let g = m.second (λ e. omega arith) in
    record {
      flags = m.flags;
      marked = λ j s. (coefficients_marked {width = n + 1} row g (omega arith) j).1 ((second_held q h c j).0 s);
      only = λ j b. (second_held q h c j).1 ((coefficients_marked {width = n + 1} row g (omega arith) j).0 b);
    }

-- Where a strategy blocks from one, nothing is attainable.
pub blocked_unattainable : (p : Problem) (t : ℤ) (start : ℕ) (τ : Strategy) → Blocks (system_at p t) (start_of p start) τ → Attainable p t → ⊥
blocked_unattainable p t start τ b = unsolved_unattainable p t start
    (λ v. not_solved_and_blocked (system_at p t) (start_of p start) v (record { strategy = τ; blocks = b }))

-- The value of variable 0 in a point that shows t possible.
pub point_anchor : {p : Problem} {t : ℕ} {x : List ℕ} → PointAt p t x → Finite (point_of x 0)
point_anchor {x = x} a = record { whole = whole_of (get_or x 0 0); is = trop_fin (get_or x 0 0) a.finite }

-- The number of rows, or of variables, in both forms.
pub same_count : (k n : ℕ) → k ≡ n → n + 1 ≡ suc k
same_count k n e = rw (add-one, e)

-- The strategy of a cut array of 64.
pub cut_64 : {P : ℕ → ℕ → Type 0} (n : ℕ) (out : List ℕ) → n ≤ 63 → Filled P 64 (n + 1) out → strategy_of (take (suc n) out) ≡ pick_of out
cut_64 n out h f = cut_strategy (suc n) out (omega (arith, f.size_is)) (λ j k. f.rest j (omega arith))

pub fits_64 : {P : ℕ → ℕ → Type 0} (highest n : ℕ) (out : List ℕ) → n ≤ 63 → Filled P 64 (n + 1) out → ((j : ℕ) → get_or out j 0 ≤ highest)
    → picks_fit highest (take (suc n) out) ≡ true
fits_64 highest n out h f b =
    picks_fit_lem highest (take (suc n) out) (λ j. rw (cut_at (suc n) out (omega (arith, f.size_is)) (λ j k. f.rest j (omega arith)) j) (b j))

-- Shown picks are few, whatever the problem.
pub shown_few : {n m : ℕ} {left right : List ℕ} {start : ℕ} {picks out : List ℕ} → Coefficients n m left right → ShownPicks n m right start picks out
    → (j : ℕ) → get_or out j 0 ≤ 64
shown_few c s j = omega (arith, c.m_most, variables_most s.shown j)

-- Shown in a record, they agree with the strategy wherever it reaches, are 0 elsewhere, and have the form.
module _ {p : Problem} {n m : ℕ} {left right : List ℕ} {start : ℕ} {picks out : List ℕ} (q : Held p n m left right) (c : Coefficients n m left right)
    (s : ShownPicks n m right start picks out) where
  starts : StartMarked (start_of p start) (n + 1) s.begin
  starts = start_marked start q c.n_most s.copied s.marks

  pub shown_agree : AgreeReached (start_of p start) p (picks_from (pick_of picks) (suc p.m)) (pick_of out)
  shown_agree = rw (← same_count p.m m q.m_is) (variables_agree q c.n_most starts s.shown)

  pub shown_strategy : strategy_of (take (suc n) out) ≡ pick_of out
  shown_strategy = cut_64 n out (omega (arith, c.n_most)) s.shown.shown

  pub shown_idle : IdleVariables (start_of p start) p (strategy_of (take (suc n) out))
  shown_idle = rw shown_strategy (variables_idle q c.n_most starts s.shown)

  pub shown_fit : picks_fit (suc m) (take (suc n) out) ≡ true
  shown_fit = fits_64 (suc m) n out (omega (arith, c.n_most)) s.shown.shown (λ j. omega (arith, variables_most s.shown j))

-- A number within a stamp's limit has 32 bits.
pub number_within : (v : ℕ) → blank_or_within stamp_limit (trop_of v) ≡ true → v < signed_full
unfolding blank_or_within
number_within v h = ⊎_elim
    (λ (e : v ≡ 0). omega arith)
    (λ (p : 0 < v). let b : nat_abs (sub_ℕ v signed_half) ≤ stamp_limit = leb-true _ stamp_limit (rw (trop_fin v p) at h) in
    omega (arith, abs_read (sub_ℕ v signed_half), subℕ_read v signed_half))
    (eq-zero-or-pos v)
