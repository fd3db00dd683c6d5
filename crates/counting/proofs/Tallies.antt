-- Problems counted one after another: a tally with one problem more, and with all.
use Prim.Native.Nat.{ℕ, ◌+◌}
use mathlib.Core.Path.{◌≡◌, refl, sym, subst, ◌∙◌}
use mathlib.Core.Logic.{⊎_elim}
use native.Mathlib.Omega.{arith}
use native.Mathlib.Numerals.{add-one}
use borrow.Author.Tests.{eq-eqb, ne_eqb}
use mathlib.Core.List.{List, [], ◌∷◌, ◌++◌}
use Rattle.definitions.specs.Limits.{class_optimal, class_unbounded, class_infeasible, refused_silent}
use Rattle.definitions.specs.ProblemRecord.{problem_of, list_of}
use Rattle.base.proofs.Numbers.{same_or_not}
use Rattle.duality.proofs.Classes.{infeasible_not_unbounded, infeasible_not_optimal, unbounded_not_optimal}
use Rattle.definitions.specs.Census.{Counted, nothing, holds, holds_not, CountsAs, FourCounts, problems, census_total}
use Rattle.definitions.specs.Census as Papers
use Rattle.counting.specs.Steps.{hit, OneMore, Tallied, record_at}
use Rattle.counting.specs.declared.tally.Tally.{Tally}
use Rattle.counting.proofs.Counting.{counted_append}
use Rattle.counting.proofs.Problems.{problems_listed}

-- A problem counts as one thing alone.
pub counts_one : {s : List ℕ} {r q : ℕ} → CountsAs s r → CountsAs s q → r ≡ q
counts_one (Papers.least w o) (Papers.least v p) = refl
counts_one {s} (Papers.least {z = z} w o) (Papers.bottomless v u) = absurd (unbounded_not_optimal (problem_of s) u (record { at = z; optimal = o }))
counts_one {s} (Papers.least {z = z} w o) (Papers.none v n) = absurd (infeasible_not_optimal (problem_of s) n (record { at = z; optimal = o }))
counts_one (Papers.least w o) (Papers.silent e) = absurd (let z : ◌≡◌ {A = ℕ} 0 17 = sym w ∙ e in omega arith)
counts_one {s} (Papers.bottomless w u) (Papers.least {z = z} v o) = absurd (unbounded_not_optimal (problem_of s) u (record { at = z; optimal = o }))
counts_one (Papers.bottomless w u) (Papers.bottomless v p) = refl
counts_one {s} (Papers.bottomless w u) (Papers.none v n) = absurd (infeasible_not_unbounded (problem_of s) n u)
counts_one (Papers.bottomless w u) (Papers.silent e) = absurd (let z : ◌≡◌ {A = ℕ} 0 17 = sym w ∙ e in omega arith)
counts_one {s} (Papers.none w n) (Papers.least {z = z} v o) = absurd (infeasible_not_optimal (problem_of s) n (record { at = z; optimal = o }))
counts_one {s} (Papers.none w n) (Papers.bottomless v u) = absurd (infeasible_not_unbounded (problem_of s) n u)
counts_one (Papers.none w n) (Papers.none v p) = refl
counts_one (Papers.none w n) (Papers.silent e) = absurd (let z : ◌≡◌ {A = ℕ} 0 17 = sym w ∙ e in omega arith)
counts_one (Papers.silent e) (Papers.least w o) = absurd (let z : ◌≡◌ {A = ℕ} 0 17 = sym w ∙ e in omega arith)
counts_one (Papers.silent e) (Papers.bottomless w u) = absurd (let z : ◌≡◌ {A = ℕ} 0 17 = sym w ∙ e in omega arith)
counts_one (Papers.silent e) (Papers.none w n) = absurd (let z : ◌≡◌ {A = ℕ} 0 17 = sym w ∙ e in omega arith)
counts_one (Papers.silent e) (Papers.silent f) = refl

-- One problem more behind the others: one more of what it counts as, and of nothing else.
counted_hit : {s : List ℕ} {r : ℕ} (i : ℕ) {xs : List (List ℕ)} {k : ℕ} → CountsAs s r → Counted (λ t. CountsAs t i) xs k → Counted (λ t. CountsAs t i) (xs ++ (s ∷ [])) (k + hit r i)
counted_hit {s} {r} i c d = ⊎_elim
    (λ (e : r ≡ i). rw (eq-eqb r i e) (counted_append d (holds (subst (CountsAs s) e c) nothing)))
    (λ (e : r ≡ i → ⊥). rw (ne_eqb r i e) (counted_append d (holds_not (λ q. e (counts_one c q)) nothing)))
    (same_or_not r i)

pub tallied_none : (n m w : ℕ) {t : Tally} → t.least ≡ 0 → t.bottomless ≡ 0 → t.none ≡ 0 → t.silent ≡ 0 → Tallied n m w 0 t
unfolding list_of
tallied_none n m w a b c d =
    record {
      least_is = rw a nothing;
      bottomless_is = rw b nothing;
      none_is = rw c nothing;
      silent_is = rw d nothing;
      sum_is = omega arith;
    }

-- The four hits add up to one.
hits_one : {s : List ℕ} {r : ℕ} → CountsAs s r → hit r class_optimal + hit r class_unbounded + hit r class_infeasible + hit r refused_silent ≡ 1
hits_one (Papers.least w o) = refl
hits_one (Papers.bottomless w u) = refl
hits_one (Papers.none w n) = refl
hits_one (Papers.silent e) = refl

pub tallied_more : {n m w c r : ℕ} {t u : Tally} → Tallied n m w c t → CountsAs (record_at n m w c) r → OneMore t r u → Tallied n m w (c + 1) u
unfolding list_of
tallied_more {n} {m} {w} {c} {r} d s o = rw (add-one c)
    (record {
      least_is = rw o.least_is (counted_hit class_optimal s d.least_is);
      bottomless_is = rw o.bottomless_is (counted_hit class_unbounded s d.bottomless_is);
      none_is = rw o.none_is (counted_hit class_infeasible s d.none_is);
      silent_is = rw o.silent_is (counted_hit refused_silent s d.silent_is);
      sum_is = omega (arith, hits_one s, o.least_is, o.bottomless_is, o.none_is, o.silent_is, d.sum_is);
    })

-- All of them.
pub tallied_all : {n m w c : ℕ} {t : Tally} → Tallied n m w c t → c ≡ census_total n m w → FourCounts n m w t.least t.bottomless t.none t.silent
tallied_all {n} {m} {w} d e =
    let same : problems n m w ≡ list_of (record_at n m w) _ = problems_listed n m w in
    record {
      least_is = rw (same, ← e) d.least_is;
      bottomless_is = rw (same, ← e) d.bottomless_is;
      none_is = rw (same, ← e) d.none_is;
      silent_is = rw (same, ← e) d.silent_is;
      sum_is = d.sum_is ∙ e;
    }
