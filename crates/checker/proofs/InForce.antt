-- A problem of kind 5 is judged by its rules in force: the problem that these mean agrees with it, so that the same answers are accepted.
use Prim.Native.Nat.{ℕ, zero, suc, ◌≤◌}
use mathlib.Core.Path.{◌≡◌, sym, subst, ◌∙◌}
use mathlib.Core.List.{List}
use mathlib.Core.Logic.{⊎_elim}
use native.Mathlib.Omega.{arith}
use Rattle.definitions.specs.Tropical.{Finite}
use Rattle.definitions.specs.Problem.{Problem}
use Rattle.definitions.specs.Certificate.{Anchor, Second, start_of, AnchorAnd}
use Rattle.definitions.specs.AnswerRecord.{highest_pick, pick_count, answer_refusal, answer_of}
use Rattle.definitions.specs.ProblemRecord.{problem_of}
use Rattle.definitions.specs.Verdict.{Verdict, Accepted, optimal, unbounded, infeasible, strategy_of}
use Rattle.definitions.proofs.Agree.{Agree, agree_sym}
use Rattle.definitions.proofs.Bytes.{length_nums_at}
use Rattle.definitions.proofs.AnswerFits.{answer_fits}
use Rattle.duality.specs.Picks.{NoneAbove}
use Rattle.duality.proofs.AgreeCertificates.{optimal_over, infeasible_over, unbounded_over}
use Rattle.problem_records.specs.InForce.{StatesHeld, InForce}
use Rattle.problem_records.proofs.InForce.{room_agrees}
use Rattle.checker.specs.Outcome as Judging
use Rattle.checker.specs.Outcome.{Answered}
use Rattle.checker.proofs.Agreeing.{fit_above}

-- Where reach begins in one of two problems that agree, it begins in the other, at one of its variables.
module _ {p q : Problem} (g : Agree p q) where
  second_over : {k : ℕ} → Second p k → Second q k
  second_over {k} r = record {
    inside = rw (← g.same_n) r.inside;
    right = rw (← g.same_m) (subst Finite (g.right p.m k (omega arith) r.inside) r.right);
  }

  both_over : (k : ℕ) → k ≤ p.n → (j : ℕ) → AnchorAnd k j → AnchorAnd k j × (j ≤ p.n)
  both_over k h j b = (b, ⊎_elim (λ (z : Anchor j). omega arith) (λ (z : j ≡ k). omega arith) b)

start_over : {p q : Problem} → Agree p q → (start j : ℕ) → start_of q start j → start_of p start j × (j ≤ p.n)
unfolding start_of
start_over g zero j z = (z, omega arith)
start_over g (suc k) j r = let h = second_over (agree_sym g) r in (h, h.inside)

-- No pick of an answer of the right form is above its highest value.
module _ (a : List ℕ) (n m : ℕ) (none : answer_refusal a n m ≡ 0) where
  above : (many width : ℕ) → highest_pick (answer_of a n m).class n m ≡ many → pick_count (answer_of a n m).class n m ≡ width
      → NoneAbove many width (strategy_of (answer_of a n m).picks)
  unfolding answer_of
  above many width e f = fit_above many (answer_of a n m).picks width (length_nums_at _ _ _ _ ∙ f) (rw (← e) ((answer_fits a n m).0 none).form.picks_fit_lem)

  -- So it is accepted for a problem that agrees, with this n and m.
  accepted_over : {p q : Problem} → Agree p q → p.n ≡ n → p.m ≡ m → Accepted p (answer_of a n m) → Accepted q (answer_of a n m)
  accepted_over g e f (optimal c d h) =
      optimal c d (optimal_over g (start_over g (answer_of a n m).start) _ (rw (e, f) (above (suc m) (suc n) (rw c) (rw c))) h)
  accepted_over g e f (unbounded {k = k} c d r h) =
      unbounded c d (second_over g r) (unbounded_over g (both_over g k r.inside) _ (rw (e, f) (above (suc n) (suc m) (rw c) (rw c))) h)
  accepted_over g e f (infeasible c h) =
      infeasible c (infeasible_over g (start_over g (answer_of a n m).start) _ (rw (e, f) (above (suc m) (suc n) (rw c) (rw c))) h)

-- The verdict on the rules in force is the verdict on the record.
answered_over : {p q : Problem} {n m : ℕ} {a : List ℕ} {v : Verdict} → Agree p q → p.n ≡ n → p.m ≡ m → Answered p n m a v → Answered q n m a v
answered_over g e f (Judging.turned_away {k = k} r) = Judging.turned_away {k = k} r
answered_over {n = n} {m} {a} g e f (Judging.certified r c) = Judging.certified r (accepted_over a n m r g e f c)
answered_over {n = n} {m} {a} g e f (Judging.uncertified r c) =
    Judging.uncertified r (λ h. c (accepted_over a n m r (agree_sym g) (sym g.same_n ∙ e) (sym g.same_m ∙ f) h))

pub answered_in_force : {s room a : List ℕ} {n m : ℕ} {v : Verdict} → StatesHeld s n m → InForce s n m room → Answered (problem_of room) n m a v → Answered (problem_of s) n m a v
unfolding problem_of
answered_in_force held f d = let g = room_agrees held f in answered_over g (g.same_n ∙ sym held.n_is) (g.same_m ∙ sym held.m_is) d
