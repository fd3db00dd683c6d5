-- Document 02, 2.10, of every string of bytes read as a record (so of every problem within the layout): "class and span are those of the
-- problem that holds only the rules in force", and so are the certificates.
use Rattle.std.specs.Prelude.{ℕ, suc, ◌≤◌, ◌<◌, ◌≡◌, true, false, ◌↔◌, List}
use Rattle.definitions.specs.Limits.{class_unbounded}
use Rattle.definitions.specs.Tropical.{Trop}
use Rattle.definitions.specs.Certificate.{Reachable, Leads, Second, start_of}
use Rattle.definitions.specs.ProblemRecord.{n_field, suspended, problem_of}
use Rattle.definitions.specs.Selection.{Choice, Ascending, LeftOut, SameClass}
use Rattle.definitions.specs.Verdict.{Verdict, refused, Judged, check_refusal, answer_for, strategy_of}
use Rattle.definitions.specs.Solved.{Found, Solves, answered}
use Rattle.definitions.specs.Suspended.{rules_in_force, rule_in_force, only_in_force, Lifted}
use Rattle.selection.specs.Certificates.{SameCertificates}

pub record RulesInForce (s : List ℕ) : Type 1 where
  -- The rules in force are rules of the record, in their order, and those left out are the suspended ones;
  pub chosen : Choice (problem_of s) (rule_in_force s) (rules_in_force s)
  pub order_stays : Ascending (rule_in_force s) (rules_in_force s)
  pub left_out : (i : ℕ) → LeftOut (problem_of s) (rule_in_force s) (rules_in_force s) i → suspended s i ≡ true
  -- of each of these holds what 2.10 says.
  pub lifted : (i : ℕ) → suspended s i ≡ true → Lifted (problem_of s) i
  -- The class and the least span.
  pub same_class : SameClass (problem_of s) (only_in_force s)
  -- From a start among the moments, a table is accepted exactly when its renumbering is: picks of suspended rules become 0 in classes 1
  -- and 3, and class 2 drops the picks of their rows.
  pub same_certificates :
      (Start : ℕ → Type 0) → ((j : ℕ) → Start j → j ≤ n_field s) → SameCertificates Start (problem_of s) (rule_in_force s) (rules_in_force s)
  -- The starts of answers mean the same moments in both: 0 and 1 in classes 1 and 3, and those that class 2 may name.
  pub same_starts : (start j : ℕ) → start_of (problem_of s) start j ↔ start_of (only_in_force s) start j
  pub same_second : (j : ℕ) → Second (problem_of s) j ↔ Second (only_in_force s) j

-- ---- what engine and checker say of such records

-- A reached moment picks a suspended rule, in an answer of class 1 or 3 for the record p.
pub record PicksSuspended (p a : List ℕ) : Type 0 where
  pub moment : ℕ
  pub rule : ℕ
  pub is_suspended : suspended p rule ≡ true
  pub class : ((answer_for p a).class ≡ class_unbounded) → ⊥
  pub reached : Reachable (start_of (problem_of p) (answer_for p a).start) (Leads (problem_of p) (strategy_of (answer_for p a).picks)) moment
  pub picked : strategy_of (answer_for p a).picks moment ≡ suc rule

-- Document 02, 2.10, whole: what holds of every record, and so of what any checker that judges says of it and any engine that solves gives.
pub record SuspendedHolds : Type 1 where
  pub in_force : (s : List ℕ) → RulesInForce s
  -- Each of the rules that are chosen is in force;
  pub stays : (s : List ℕ) (i : ℕ) → i < rules_in_force s → suspended s (rule_in_force s i) ≡ false
  -- "in classes 1 and 3 a reached moment that picks it makes the answer not certified": where no refusal comes before it, the verdict is 14;
  pub verdict : (p a : List ℕ) (v : Verdict) → Judged p a v → check_refusal p a ≡ 0 → PicksSuspended p a → v ≡ refused 14
  -- "class and span are those of the problem that holds only the rules in force", and the trials with them; so is what was answered,
  pub result :
      (p before after : List ℕ) (class : ℕ) (span : Trop) (trials size : ℕ) → Solves p before (answered class span trials size) after
      → Found (only_in_force p) class span trials
  -- and no other class, span or count of trials is that problem's.
  pub only_result :
      (p before after : List ℕ) (class other : ℕ) (span value : Trop) (trials count size : ℕ) → Solves p before (answered class span trials size) after
      → Found (only_in_force p) other value count → (class ≡ other) × (span ≡ value) × (trials ≡ count)
