-- "For n = m = 0 and w = 1: 9 least, 3 bottomless, 4 none, 0 refused." Document 02, 2.14.
use Prim.Native.Nat.{ℕ, suc}
use mathlib.Core.Path.{◌≡◌, refl, sym, subst, ◌∙◌}
use mathlib.Core.Bool.{Bool, true, false, ◌&&◌, cond, and-eq-true_iff, false≢true}
use mathlib.Core.List.{List, [], ◌∷◌}
use native.Mathlib.Omega.{arith}
use lib.Dec.{eqb}
use lib.IntN.{ℤ, pos, ◌+ℤ◌, ◌-ℤ◌}
use borrow.Author.Tests.{eqb-true, eq-eqb}
use Rattle.definitions.specs.Limits.{class_optimal, class_unbounded, class_infeasible}
use Rattle.definitions.specs.Tropical.{Trop, bot, fin, plus, larger, largest}
use Rattle.definitions.specs.Problem.{Problem, Feasible, value, minus, side, Optimal, Unbounded, Infeasible, lowest}
use Rattle.definitions.specs.Bytes.{num_at, nums_at, le, fields, field_of, signed, trop_field, trop_at, all, some_below, blank_or_within}
use Rattle.definitions.specs.ProblemRecord.{problem_of, problem_refusal, WithinLayout, n_field, m_field, refusal_for, header_refusal, header_judged, header_bytes, leads_of, list_of}
use Rattle.definitions.specs.Census.{Counted, nothing, holds, holds_not, CountsAs, FourCounts, problems, lists, fronted, leads_record, census_lead, census_leads}
use Rattle.definitions.specs.Census as Papers
use Rattle.definitions.proofs.Tropical.{not_finite_bot}
use Rattle.definitions.proofs.Values.{≼_refl}
use Rattle.counting.proofs.Tallies.{counts_one}

-- The class of a problem of the anchor and a question alone, by its two leads.
unfoldable class_by : Trop → Trop → ℕ
class_by first bot = class_infeasible
class_by bot (fin b) = class_unbounded
class_by (fin a) (fin b) = class_optimal

-- A plan is the anchor at 0, and each side of the question is its lead.
sides : (a b : Trop) (p : Problem) → p.n ≡ 0 → p.m ≡ 0 → p.left 0 0 ≡ a → p.right 0 0 ≡ b → (x : ℕ → Trop) → x 0 ≡ fin (pos 0)
    → (value p x ≡ minus (plus a (fin (pos 0))) (plus b (fin (pos 0)))) × (side p.n (p.right p.m) x ≡ plus b (fin (pos 0)))
unfolding value side largest larger
sides a b p n m l r x e = (rw (n, m, l, r, e) refl, rw (n, m, r, e) refl)

-- The problem of a record with n = m = 0, by its two leads.
module _ (p : Problem) (n : p.n ≡ 0) (m : p.m ≡ 0) where
  -- The plan with the anchor at 0, the only one that is read.
  anchored : ℕ → Trop
  anchored j = fin (pos 0)

  anchored_feasible : Feasible p anchored
  unfolding anchored
  anchored_feasible = record { anchored = refl; keeps = λ i h. absurd (omega arith) }

  none_here : (a : Trop) → p.left 0 0 ≡ a → p.right 0 0 ≡ bot → Infeasible p
  unfolding plus
  none_here a l r x f c = absurd (not_finite_bot (rw (sides a bot p n m l r x f.anchored).1 at c.second))

  least_here : (a b : ℤ) → p.left 0 0 ≡ fin a → p.right 0 0 ≡ fin b → Optimal p ((a +ℤ pos 0) -ℤ (b +ℤ pos 0))
  unfolding plus minus anchored
  least_here a b l r = record {
    point = anchored;
    feasible = anchored_feasible;
    counts = record { second = record { whole = b +ℤ pos 0; is = (sides (fin a) (fin b) p n m l r anchored refl).1 } };
    value_is = (sides (fin a) (fin b) p n m l r anchored refl).0;
    least = λ y f c. rw (sides (fin a) (fin b) p n m l r y f.anchored).0 (≼_refl _);
  }

  bottomless_here : (b : ℤ) → p.left 0 0 ≡ bot → p.right 0 0 ≡ fin b → Unbounded p
  unfolding plus minus anchored
  bottomless_here b l r t = record {
    point = anchored;
    feasible = anchored_feasible;
    counts = record { second = record { whole = b +ℤ pos 0; is = (sides bot (fin b) p n m l r anchored refl).1 } };
    within = rw (sides bot (fin b) p n m l r anchored refl).0 lowest;
  }

-- The class of a record's problem, and that the record has n = m = 0 and no refusal.
unfoldable class_of : List ℕ → ℕ
class_of s = class_by ((problem_of s).left 0 0) ((problem_of s).right 0 0)

abbrev single : List ℕ → Bool
single s = eqb (problem_refusal s) 0 && (eqb (n_field s) 0 && eqb (m_field s) 0)

counts_as : (s : List ℕ) → single s ≡ true → CountsAs s (class_of s)
unfolding class_of class_by problem_of
counts_as s h = go ((problem_of s).left 0 0) ((problem_of s).right 0 0) refl refl
  where
    tests : (eqb (problem_refusal s) 0 ≡ true) × (eqb (n_field s) 0 ≡ true) × (eqb (m_field s) 0 ≡ true)
    tests =
        let a = (and-eq-true_iff (eqb (problem_refusal s) 0) (eqb (n_field s) 0 && eqb (m_field s) 0)).0 h in
        let b = (and-eq-true_iff (eqb (n_field s) 0) (eqb (m_field s) 0)).0 a.1 in
        (a.0, b.0, b.1)

    w : WithinLayout s
    w = eqb-true (problem_refusal s) 0 tests.0

    n : n_field s ≡ 0
    n = eqb-true (n_field s) 0 tests.1

    m : m_field s ≡ 0
    m = eqb-true (m_field s) 0 tests.2

    go : (a b : Trop) → (problem_of s).left 0 0 ≡ a → (problem_of s).right 0 0 ≡ b → CountsAs s (class_of s)
    go a bot e f = rw f (Papers.none w (none_here (problem_of s) n m a e f))
    go bot (fin b) e f = rw (e, f) (Papers.bottomless w (bottomless_here (problem_of s) n m b e f))
    go (fin a) (fin b) e f = rw (e, f) (Papers.least w (least_here (problem_of s) n m a b e f))

-- How many of a list have this class.
unfoldable many : ℕ → List (List ℕ) → ℕ
many class [] = 0
many class (s ∷ xs) = cond (eqb (class_of s) class) (suc (many class xs)) (many class xs)

counted_many : (class : ℕ) (xs : List (List ℕ)) → all single xs ≡ true → Counted (λ s. CountsAs s class) xs (many class xs)
unfolding many all
counted_many class [] h = nothing
counted_many class (s ∷ xs) h =
    let both = (and-eq-true_iff (single s) (all single xs)).0 h in
    let c = counts_as s both.0 in
    let rest = counted_many class xs both.1 in
    go (eqb (class_of s) class) refl c rest
  where
    go : (t : Bool) → eqb (class_of s) class ≡ t → CountsAs s (class_of s) → Counted (λ z. CountsAs z class) xs (many class xs) → Counted (λ z. CountsAs z class) (s ∷ xs) (cond t (suc (many class xs)) (many class xs))
    go true e c rest = holds (subst (CountsAs s) (eqb-true (class_of s) class e) c) rest
    go false e c rest = holds_not (λ d. false≢true (sym e ∙ eq-eqb (class_of s) class (counts_one c d))) rest

-- The handbook's first line.
pub handbook : FourCounts 0 0 1 9 3 4 0
unfolding problems lists fronted leads_record census_lead census_leads list_of header_bytes le fields field_of many class_of class_by problem_of refusal_for header_refusal header_judged leads_of num_at nums_at all some_below blank_or_within trop_field trop_at signed
handbook = record {
  least_is = counted_many class_optimal (problems 0 0 1) refl;
  bottomless_is = counted_many class_unbounded (problems 0 0 1) refl;
  none_is = counted_many class_infeasible (problems 0 0 1) refl;
  silent_is = counted_many 17 (problems 0 0 1) refl;
  sum_is = refl;
}
