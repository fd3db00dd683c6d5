-- Problems that agree in their rows and variables have the same plans, spans and class: what stands elsewhere is never read.
use Prim.Native.Nat.{ℕ, suc, ◌≤◌, ◌<◌}
use mathlib.Core.Path.{◌≡◌, ap, ap₂, sym, subst, ◌∙◌}
use native.Mathlib.Omega.{arith}
use lib.IntN.{ℤ}
use Rattle.definitions.specs.Tropical.{Trop, plus, largest, Finite}
use Rattle.definitions.specs.Problem.{Problem, Point, side, Feasible, Counts, Value, minus, value, whole, plus_infinity, ◌≼◌, Attainable, Optimal, Unbounded, Infeasible}
use Rattle.definitions.proofs.Tropical.{⊑_of_eq, ⊑_trans, largest_ext}

-- The same n and m, and the same coefficients in rows 0 to m and variables 0 to n.
pub record Agree (p q : Problem) : Type 0 where
  pub same_n : p.n ≡ q.n
  pub same_m : p.m ≡ q.m
  pub left : (i j : ℕ) → i ≤ p.m → j ≤ p.n → p.left i j ≡ q.left i j
  pub right : (i j : ℕ) → i ≤ p.m → j ≤ p.n → p.right i j ≡ q.right i j

pub agree_sym : {p q : Problem} → Agree p q → Agree q p
agree_sym a =
    record {
      same_n = sym a.same_n;
      same_m = sym a.same_m;
      left = λ i j h k. sym (a.left i j (rw a.same_m h) (rw a.same_n k));
      right = λ i j h k. sym (a.right i j (rw a.same_m h) (rw a.same_n k));
    }

-- A side by coefficients that agree.
pub agree_side :
    {n k : ℕ} (c e : ℕ → Trop) (x : Point) → n ≡ k → ((j : ℕ) → j ≤ n → c j ≡ e j) → side n c x ≡ side k e x
unfolding side
agree_side {n} c e x s h =
    largest_ext _ _ (suc n) (λ j l. ap (λ (z : Trop). plus z (x j)) (h j (omega arith))) ∙ ap (λ (i : ℕ). largest (λ j. plus (e j) (x j)) (suc i)) s

-- The same plans keep the rules,
pub agree_feasible : {p q : Problem} {x : Point} → Agree p q → Feasible p x → Feasible q x
agree_feasible {p} {q} {x} a f =
    record {
      anchored = f.anchored;
      keeps = λ i l.
          let h : i < p.m = rw a.same_m l in
          let left = agree_side (p.left i) (q.left i) x a.same_n (λ j k. a.left i j (omega arith) k) in
          let right = agree_side (p.right i) (q.right i) x a.same_n (λ j k. a.right i j (omega arith) k) in
          ⊑_trans (⊑_of_eq (sym left)) (⊑_trans (f.keeps i h) (⊑_of_eq right));
    }

-- count,
pub agree_counts : {p q : Problem} {x : Point} → Agree p q → Counts p x → Counts q x
agree_counts {p} {q} {x} a c =
    record {
      second =
          subst Finite
          (agree_side (p.right p.m) (q.right q.m) x a.same_n (λ j k. a.right p.m j (omega arith) k ∙ ap (λ (i : ℕ). q.right i j) a.same_m))
          c.second;
    }

-- and have the same spans.
pub agree_value : {p q : Problem} (x : Point) → Agree p q → value p x ≡ value q x
unfolding value
agree_value {p} {q} x a =
    ap₂ minus
    (agree_side (p.left p.m) (q.left q.m) x a.same_n (λ j k. a.left p.m j (omega arith) k ∙ ap (λ (i : ℕ). q.left i j) a.same_m))
    (agree_side (p.right p.m) (q.right q.m) x a.same_n (λ j k. a.right p.m j (omega arith) k ∙ ap (λ (i : ℕ). q.right i j) a.same_m))

-- So the class is the same, and the least span.
pub agree_optimal : {p q : Problem} {s : ℤ} → Agree p q → Optimal p s → Optimal q s
agree_optimal {p} {q} {s} a o =
    record {
      point = o.point;
      feasible = agree_feasible a o.feasible;
      counts = agree_counts a o.counts;
      value_is = sym (agree_value o.point a) ∙ o.value_is;
      least = λ y f c. subst (λ (v : Value). whole s ≼ v) (agree_value y a) (o.least y (agree_feasible (agree_sym a) f) (agree_counts (agree_sym a) c));
    }

pub agree_unbounded : {p q : Problem} → Agree p q → Unbounded p → Unbounded q
agree_unbounded {p} {q} a u t =
    let r : Attainable p t = u t in
    record {
      point = r.point;
      feasible = agree_feasible a r.feasible;
      counts = agree_counts a r.counts;
      within = subst (λ (v : Value). v ≼ whole t) (agree_value r.point a) r.within;
    }

pub agree_infeasible : {p q : Problem} → Agree p q → Infeasible p → Infeasible q
agree_infeasible a i x f c =
    subst (λ (v : Value). plus_infinity ≼ v) (agree_value x a) (i x (agree_feasible (agree_sym a) f) (agree_counts (agree_sym a) c))
