-- The answer to the problem in two tables is one.
use Prim.Native.Nat.{ℕ, ◌+◌, ◌≤◌, ◌<◌}
use mathlib.Core.Path.{◌≡◌, refl, sym, ap, subst, ◌∙◌}
use mathlib.Core.Logic.{◌⊎◌, inl, inr, ⊎_elim}
use mathlib.Core.List.{List}
use native.Mathlib.Omega.{arith}
use lib.ListN.{get_or}
use Rattle.base.proofs.Numbers.{same_or_not}
use Rattle.base.proofs.Lists.{filled_one}
use Rattle.definitions.specs.Limits.{highest_n}
use Rattle.definitions.proofs.Offset.{trop_of_injective}
use Rattle.reach.proofs.One.{SameBegin, anchored_one, anchored_and_one}
use Rattle.records.specs.Classes.{class_number}
use Rattle.records.specs.declared.class.Class.{Class}
use Rattle.records.specs.declared.class.Class.TheVariants.{Optimal, Unbounded, Infeasible}
use Rattle.search.proofs.Trials.{SameFound, found_one}
use Rattle.search.proofs.Underway.{number_class}
use Rattle.search.specs.Trials.{FoundBy}
use Rattle.look.specs.Frames.{Copied}
use Rattle.look.specs.Point.{PointFor}
use Rattle.look.specs.SecondList.{SecondIs}
use Rattle.look.proofs.One.{SameLook, looks_one, raised_one, point_one, second_one}
use Rattle.pick_tables.specs.Shown.{InducedRows, RowPicks}
use Rattle.pick_tables.proofs.One.{variable_picks_one, row_picks_one, induced_one}
use Rattle.class_answers.specs.declared.answer.Answer.{Answer}
use Rattle.class_answers.specs.Answered.{Stamps, StartMarks, ShownPicks, PlanOf, SavedBy, Given}

copied_one : (table : List ℕ) (row : ℕ) {a b : List ℕ} → Copied table row 32 a → Copied table row 32 b → a ≡ b
copied_one table row = filled_one (λ k v w h p q. p ∙ sym q)

-- ---- classes 1 and 3

start_one : {row a b : List ℕ} {start : ℕ} (width : ℕ) → StartMarks row start a → StartMarks row start b → SameBegin width a b
start_one {start = start} width p q = ⊎_elim
    (λ (e : start ≡ 0). anchored_one width (p.anchored e) (q.anchored e))
    (λ (d : start ≡ 0 → ⊥). let e = filled_one (λ k v w h p q. p ∙ sym q) (p.second d) (q.second d) in rw e (λ j. (λ s. s, λ s. s)))
    (same_or_not start 0)

shown_one : {n m start : ℕ} {right picks picks' out out' : List ℕ} → ShownPicks n m right start picks out → ShownPicks n m right start picks' out'
    → ((j : ℕ) → j < n + 1 → get_or picks j 0 ≡ get_or picks' j 0) → out ≡ out'
shown_one {n} {m} {start} {right} s q same =
    let e = copied_one right m q.copied s.copied in
    variable_picks_one s.shown q.shown same (start_one (n + 1) s.marks (subst (λ (z : List ℕ). StartMarks z start q.begin) e q.marks))

stamps_one : (point : List ℕ) {a b : List ℕ} {n : ℕ} → Stamps point n a → Stamps point n b → a ≡ b
stamps_one point = filled_one (λ k v w h p q. trop_of_injective v w (p ∙ sym q))

plan_one : {n m span : ℕ} {left right a b : List ℕ} → PlanOf n m left right span a → PlanOf n m left right span b → a ≡ b
plan_one {n} {m} {left = left} {a = a} p q =
    let t = raised_one q.raised p.raised in
    let x = point_one p.point_is (subst (λ (z : List ℕ). PointFor n m left z q.point) t q.point_is) in
    stamps_one q.point (subst (λ (z : List ℕ). Stamps z (n + 1) a) x p.stamps_are) q.stamps_are

-- ---- class 2

module _ {n m i k : ℕ} {left right a b : List ℕ} (few : n ≤ highest_n) (p : SavedBy n m left right i a) (q : SavedBy n m left right k b) where
  point_same : p.point ≡ q.point
  point_same = point_one p.point_is (subst (λ (z : List ℕ). PointFor n m left z q.point) (raised_one q.raised p.raised) q.point_is)

  targets_same : p.targets ≡ q.targets
  targets_same = induced_one
      (subst (λ (z : List ℕ). InducedRows z p.point (n + 1) (m + 1) p.targets) (raised_one p.raised q.raised) p.induced)
      (subst (λ (z : List ℕ). InducedRows q.table z (n + 1) (m + 1) q.targets) (sym point_same) q.induced)

  second_same : p.second ≡ q.second
  second_same = second_one
      (subst (λ (z : List ℕ). SecondIs z p.point (n + 1) p.second) (copied_one right m p.copied q.copied) p.second_is)
      (subst (λ (z : List ℕ). SecondIs q.row z (n + 1) q.second) (sym point_same) q.second_is)

  saved_one : (i ≡ k) × (a ≡ b)
  saved_one = (
    p.start_is ∙ ap (λ (z : ℕ). z + 1) second_same ∙ sym q.start_is,
    row_picks_one p.shown (subst (λ (z : List ℕ). RowPicks left z q.begin (n + 1) (m + 1) b) (sym targets_same) q.shown)
        (anchored_and_one (n + 1) p.begin_is (rw (sym second_same) at q.begin_is)) (omega arith),
  )

-- ---- the answer

unbounded_or_not : (c : Class) → (c ≡ Unbounded) ⊎ (c ≡ Unbounded → ⊥)
unbounded_or_not Optimal = inr (λ e. omega (arith, ap class_number e))
unbounded_or_not Unbounded = inl refl
unbounded_or_not Infeasible = inr (λ e. omega (arith, ap class_number e))

optimal_or_not : (c : Class) → (c ≡ Optimal) ⊎ (c ≡ Optimal → ⊥)
optimal_or_not Optimal = inl refl
optimal_or_not Unbounded = inr (λ e. omega (arith, ap class_number e))
optimal_or_not Infeasible = inr (λ e. omega (arith, ap class_number e))

-- The same answer, field by field.
pub record SameAnswer (a b : Answer) : Type 0 where
  pub class : a.class ≡ b.class
  pub span : a.span ≡ b.span
  pub start : a.start ≡ b.start
  pub trials : a.trials ≡ b.trials
  pub stamps : a.stamps ≡ b.stamps
  pub picks : a.picks ≡ b.picks

pub given_one : {n m : ℕ} {left right : List ℕ} {a b : Answer} → n ≤ highest_n → Given n m left right a → Given n m left right b → SameAnswer a b
given_one {n} {m} {left} {right} {a} {b} few g h = record {
  class = class_same;
  span = same.span_same;
  start = ⊎_elim
      (λ (e : a.class ≡ Unbounded). (saved_one few (g.saved e) (h.saved (sym class_same ∙ e))).0)
      (λ (d : a.class ≡ Unbounded → ⊥). (g.blocked d).0 ∙ look.start ∙ sym (h.blocked (λ e. d (class_same ∙ e))).0)
      (unbounded_or_not a.class);
  trials = same.trials_same;
  stamps = ⊎_elim
      (λ (e : a.class ≡ Optimal). plan_one (g.planned e) (rw (sym same.span_same) at (h.planned (sym class_same ∙ e))))
      (λ (d : a.class ≡ Optimal → ⊥). g.unplanned d ∙ sym (h.unplanned (λ e. d (class_same ∙ e))))
      (optimal_or_not a.class);
  picks = ⊎_elim
      (λ (e : a.class ≡ Unbounded). (saved_one few (g.saved e) (h.saved (sym class_same ∙ e))).1)
      (λ (d : a.class ≡ Unbounded → ⊥). shown_one (g.blocked d).1
      (subst (λ (i : ℕ). ShownPicks n m right i h.look.picks b.picks) (sym look.start) (h.blocked (λ e. d (class_same ∙ e))).1) look.picks)
      (unbounded_or_not a.class);
}
  where
    look : SameLook n g.look h.look
    look = looks_one g.looks h.looks

    same : SameFound (class_number a.class) a.span a.trials (class_number b.class) b.span b.trials
    same = found_one g.found (subst (λ (i : ℕ). FoundBy i (class_number b.class) b.span b.trials) (sym look.second) h.found)

    class_same : a.class ≡ b.class
    class_same = number_class a.class b.class same.class_same
