-- What holds of the rules behind an accepted answer and of its binding round, for the bytes of a problem and of an answer: document 02,
-- 2.5. The problem with only these rules and the question has the same class and span; the round binds.
use Prim.Native.Nat.{ℕ, suc, ◌-◌, ◌≤◌, ◌<◌}
use mathlib.Core.Path.{◌≡◌, subst, ◌∙◌}
use mathlib.Core.Bool.{true}
use mathlib.Core.Logic.{◌⊎◌, inl, inr, ⊎_elim}
use mathlib.Core.List.{List}
use native.Mathlib.Omega.{arith}
use lib.ListN.{length, get_or, get_or-eq_default}
use borrow.Author.Tests.{leb-true}
use Rattle.base.proofs.Numbers.{nat_le_or_lt}
use Rattle.definitions.specs.Limits.{class_optimal, class_infeasible}
use Rattle.definitions.specs.Problem.{Problem}
use Rattle.definitions.specs.Certificate.{start_of}
use Rattle.definitions.specs.Selection.{Choice}
use Rattle.definitions.specs.ProblemRecord.{problem_of, n_field, m_field, problem_refusal}
use Rattle.definitions.specs.AnswerRecord.{Answer, highest_pick, picks_fit, answer_of, answer_refusal, class_field, start_field}
use Rattle.definitions.specs.Verdict.{Accepted, optimal, unbounded, infeasible, check_refusal, strategy_of, answer_for}
use Rattle.definitions.specs.Reasons as Reasons
use Rattle.definitions.specs.Reasons.{RulesBehind, Reasoned, Hold}
use Rattle.definitions.proofs.Refusals.{or_else_none}
use Rattle.definitions.proofs.AnswerFits.{answer_fits}
use Rattle.definitions.proofs.RoundTrip.{picks_below}
use Rattle.definitions.proofs.Selection.{row_chosen, row_objective}
use Rattle.duality.specs.Picks.{NoneAbove}
use Rattle.duality.proofs.Starts.{start_below}
use Rattle.selection.specs.Chosen.{PicksChosen}
use Rattle.selection.proofs.Certificates.{reached_inside}
use Rattle.selection.proofs.Requests.{least_behind, none_behind}
use Rattle.binding.proofs.Listing.{listed_stands, listed_found}
use Rattle.binding.proofs.Round.{round_binds}

-- ---- the rules

module _ {p : Problem} {a : Answer} {rules : List ℕ} (listed : RulesBehind p a rules) where
  -- The rules behind an answer are rules of the problem,
  pub rules_choice : Choice p (λ i. get_or rules i 0 - 1) (length rules)
  rules_choice = record { inside = λ i h. let s = listed_stands listed i h in omega (arith, s.some, s.most) }

  -- and reached variables pick these alone, or the question.
  pub rules_chosen :
      NoneAbove (suc p.m) (suc p.n) (strategy_of a.picks)
      → PicksChosen (start_of p a.start) p (λ i. get_or rules i 0 - 1) (length rules) (strategy_of a.picks)
  rules_chosen above j i r e =
      let h : j ≤ p.n = reached_inside (λ k b. omega (arith, (start_below p a.start).inside k b)) r in
      ⊎_elim
      (λ (l : p.m ≤ i).
      let d : p.m ≡ i = omega (arith, above j (omega arith)) in
      record { place = length rules; inside = omega arith; is = row_objective p (λ i. get_or rules i 0 - 1) (length rules) ∙ d })
      (λ (l : i < p.m).
      let f = listed_found listed (suc i) (omega arith) (omega arith) (record { moment = j; reached = r; picked = e }) in
      let g = row_chosen p (λ i. get_or rules i 0 - 1) (length rules) f.place f.inside in
      record { place = f.place; inside = omega (arith, f.inside); is = g ∙ omega (arith, f.is) })
      (nat_le_or_lt p.m i)

-- ---- the form of an answer of class 1 or 3

-- Picks of the form are none above the highest, also behind the last.
picks_most : (m : ℕ) (xs : List ℕ) → picks_fit (suc m) xs ≡ true → (j : ℕ) → get_or xs j 0 ≤ suc m
picks_most m xs e j = ⊎_elim
    (λ (h : length xs ≤ j). rw (get_or-eq_default xs 0 h) (omega arith))
    (λ (h : j < length xs). omega (arith, (picks_below (suc (suc m)) (suc m) xs (omega arith) e).below j h))
    (nat_le_or_lt (length xs) j)

-- The start of an answer of class 1 or 3 is 0 or 1, and no pick is above m + 1.
pub record Formed (p a : List ℕ) : Type 0 where
  pub start_most : (answer_for p a).start ≤ 1
  pub none_above : (j : ℕ) → strategy_of (answer_for p a).picks j ≤ suc (m_field p)

abbrev PicksFit : List ℕ → List ℕ → ℕ → Type 0
PicksFit p a class = picks_fit (highest_pick class (n_field p) (m_field p)) (answer_for p a).picks ≡ true

pub formed : {p a : List ℕ} → check_refusal p a ≡ 0 → ((answer_for p a).class ≡ class_optimal) ⊎ ((answer_for p a).class ≡ class_infeasible) → Formed p a
unfolding check_refusal answer_of strategy_of
formed {p} {a} e c =
    let f = (answer_fits a (n_field p) (m_field p)).0 ((or_else_none (problem_refusal p) (answer_refusal a (n_field p) (m_field p))).0 e).1 in
    ⊎_elim
    (λ (d : class_field a ≡ class_optimal). given (leb-true _ _ (rw d at f.start_fits_is)) (subst (PicksFit p a) d f.form.picks_fit_lem))
    (λ (d : class_field a ≡ class_infeasible). given (leb-true _ _ (rw d at f.start_fits_is)) (subst (PicksFit p a) d f.form.picks_fit_lem))
    c
  where
    given : start_field a ≤ 1 → picks_fit (suc (m_field p)) (answer_of a (n_field p) (m_field p)).picks ≡ true → Formed p a
    given h g = record { start_most = h; none_above = picks_most _ _ g }

-- ---- what the tool tells holds

pub reasons_hold : {p a : List ℕ} {r : Reasons.Reasons} → Reasoned p a r → Hold (problem_of p) (answer_for p a) r
unfolding problem_of
reasons_hold (Reasons.turned_away e) = Reasons.refusal_holds
reasons_hold (Reasons.uncertified e d) = Reasons.refusal_holds
reasons_hold (Reasons.bottomless e h c) = Reasons.refusal_holds
reasons_hold {p} {a} (Reasons.none {rules} e h c listed) = go h
  where
    go : Accepted (problem_of p) (answer_for p a) → Hold (problem_of p) (answer_for p a) (Reasons.of_none rules)
    go (optimal d _ _) = absurd (omega arith)
    go (unbounded d _ _ _) = absurd (omega arith)
    go (infeasible d h) =
        let f = formed e (inr c) in
        Reasons.none_holds (none_behind (rules_choice listed) f.start_most h (rules_chosen listed (λ j _. f.none_above j))).1
reasons_hold {p} {a} (Reasons.least {rules} {round} e h c listed r) = go h
  where
    go : Accepted (problem_of p) (answer_for p a) → Hold (problem_of p) (answer_for p a) (Reasons.of_least rules round)
    go (optimal d s h) =
        let f = formed e (inl c) in
        Reasons.least_holds s (least_behind (rules_choice listed) f.start_most h (rules_chosen listed (λ j _. f.none_above j))).1 (round_binds (λ j _. f.none_above j) h r)
    go (unbounded d _ _ _) = absurd (omega arith)
    go (infeasible d _) = absurd (omega arith)
