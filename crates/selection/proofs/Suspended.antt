-- Document 02, 2.10: what is said of a suspended rule, and of the problem that holds only the rules in force. All of it follows from one
-- fact: the row of a suspended rule is blank on both sides (`definitions: ProblemRecord.problem_of`).
use Prim.Native.Nat.{ℕ, suc}
use mathlib.Core.Path.{◌≡◌, refl, subst}
use mathlib.Core.Bool.{Bool, true, false}
use mathlib.Core.List.{List}
use native.Mathlib.Omega.{arith}
use Rattle.definitions.specs.Tropical.{Trop, Finite}
use Rattle.definitions.specs.Problem.{Problem}
use Rattle.definitions.specs.Certificate.{Strategy, Reachable, Leads, PicksCount}
use Rattle.definitions.specs.ProblemRecord.{m_field, suspended, problem_of}
use Rattle.definitions.specs.Selection.{Choice, LeftOut}
use Rattle.definitions.specs.Verdict.{Verdict, refused, Accepted, optimal, unbounded, infeasible, Judged, turned_away, certified, uncertified, check_refusal, answer_for}
use Rattle.definitions.specs.Solved as Results
use Rattle.definitions.specs.Solved.{Found, Solves, answered, solved}
use Rattle.definitions.specs.Suspended.{rules_in_force, rule_in_force, only_in_force, Lifted}
use Rattle.definitions.proofs.Tropical.{not_finite_bot}
use Rattle.definitions.proofs.Selection.{blank_left_kept}
use Rattle.definitions.proofs.Chosen.{left_inside, left_rises, left_stays, left_found}
use Rattle.definitions.proofs.Suspended.{suspended_left, suspended_right, suspended_blank}
use Rattle.duality.proofs.Classes.{found_one}
use Rattle.duality.proofs.Unused.{unbounded_unused}
use Rattle.selection.specs.Suspended.{RulesInForce, PicksSuspended, SuspendedHolds}
use Rattle.selection.proofs.Plans.{second_selected, start_selected}
use Rattle.selection.proofs.Requests.{suspended_out}

-- ---- a suspended rule

module _ (s : List ℕ) (i : ℕ) (e : suspended s i ≡ true) where
  abbrev p : Problem
  p = problem_of s

  no_left : (j : ℕ) → Finite (p.left i j) → ⊥
  no_left j f = not_finite_bot (subst Finite (suspended_left s i e j) f)

  no_right : (j : ℕ) → Finite (p.right i j) → ⊥
  no_right j f = not_finite_bot (subst Finite (suspended_right s i e j) f)

  -- A reached variable that picks it has no pick that counts.
  no_pick : (Start : ℕ → Type 0) (picks : Strategy) (j : ℕ) → Reachable Start (Leads p picks) j → picks j ≡ suc i → PicksCount Start p picks → ⊥
  no_pick Start picks j r k c =
      let h = c j r in
      let d : h.row ≡ i = omega (arith, h.picked) in
      no_left j (rw d at h.left)

  pub rule_lifted : Lifted p i
  rule_lifted = record {
    kept = blank_left_kept (suspended_blank s i e).left;
    no_leads = λ picks j l k r.
        let d : r.row ≡ i = omega (arith, r.picked) in
        no_right l (rw d at r.right);
    no_arcs = λ t j l w a. no_left j (record { whole = a.a; is = a.left_is });
    no_pick_needed = no_left;
    no_part = λ Start picks other same a. unbounded_unused (λ k j h r f. same k (λ d. no_left j (rw d at f))) a;
    written_zero = λ Start picks idle. idle i (λ j r f. no_left j f);
    not_certified = λ Start picks j r k. (λ z x a. no_pick Start picks j r k a.picks_count, λ a. no_pick Start picks j r k a.picks_count);
  }

-- ---- the rules in force

module _ (s : List ℕ) where
  choice : Choice (problem_of s) (rule_in_force s) (rules_in_force s)
  unfolding problem_of
  choice = record { inside = λ i h. left_inside (suspended s) (m_field s) i h }

  -- Those left out are the suspended ones.
  out_suspended : (i : ℕ) → LeftOut (problem_of s) (rule_in_force s) (rules_in_force s) i → suspended s i ≡ true
  unfolding problem_of
  out_suspended i o = go (suspended s i) refl
    where
      go : (t : Bool) → suspended s i ≡ t → t ≡ true
      go true e = refl
      go false e = let f = left_found (suspended s) (m_field s) i o.inside e in absurd (o.nowhere f.place f.inside f.is)

  pub rules_in_force_lem : RulesInForce s
  unfolding problem_of
  rules_in_force_lem = record {
    chosen = choice;
    order_stays = left_rises (suspended s) (m_field s);
    lifted = λ i e. rule_lifted s i e;
    left_out = out_suspended;
    same_class = (suspended_out choice {Start = λ j. ⊥} (λ j z. absurd z) (λ i o. suspended_blank s i (out_suspended i o))).0;
    same_certificates = λ Start begins. (suspended_out choice begins (λ i o. suspended_blank s i (out_suspended i o))).1;
    same_starts = λ start j. start_selected (problem_of s) (rule_in_force s) (rules_in_force s) start j;
    same_second = λ j. second_selected (problem_of s) (rule_in_force s) (rules_in_force s);
  }

-- ---- what engine and checker say

-- No answer of class 1 or 3 with such a pick is accepted.
not_accepted : (p a : List ℕ) → PicksSuspended p a → Accepted (problem_of p) (answer_for p a) → ⊥
not_accepted p a h (optimal c e k) = ((rule_lifted p h.rule h.is_suspended).not_certified _ _ h.moment h.reached h.picked).0 _ _ k
not_accepted p a h (unbounded c e s k) = h.class c
not_accepted p a h (infeasible c k) = ((rule_lifted p h.rule h.is_suspended).not_certified _ _ h.moment h.reached h.picked).1 k

suspended_verdict : (p a : List ℕ) (v : Verdict) → Judged p a v → check_refusal p a ≡ 0 → PicksSuspended p a → v ≡ refused 14
suspended_verdict p a v (turned_away e) none h = absurd (omega (arith, e, none))
suspended_verdict p a v (certified e k) none h = absurd (not_accepted p a h k)
suspended_verdict p a v (uncertified e k) none h = refl

-- A class found for the record is found for its rules in force.
found_in_force : (p : List ℕ) {class trials : ℕ} {span : Trop} → Found (problem_of p) class span trials → Found (only_in_force p) class span trials
found_in_force p (Results.Found.optimal {s = s} o) = Results.Found.optimal (((rules_in_force_lem p).same_class.least_exactly s).0 o)
found_in_force p (Results.Found.unbounded u) = Results.Found.unbounded ((rules_in_force_lem p).same_class.bottomless_exactly.0 u)
found_in_force p (Results.Found.infeasible n) = Results.Found.infeasible ((rules_in_force_lem p).same_class.none_exactly.0 n)

-- What an engine that solves gives to one question.
solved_in_force : (p before after : List ℕ) (class : ℕ) (span : Trop) (trials size : ℕ) → Solves p before (answered class span trials size) after → Found (only_in_force p) class span trials
solved_in_force p before after class span trials size (solved a one none ans) = found_in_force p ans.found

pub suspended_holds : SuspendedHolds
suspended_holds = record {
  in_force = rules_in_force_lem;
  stays = λ s. left_stays (suspended s) (m_field s);
  verdict = suspended_verdict;
  result = solved_in_force;
  only_result = λ p before after class other span value trials count size s f. found_one (solved_in_force p before after class span trials size s) f;
}
