-- The rules behind an accepted answer, and the binding round of a least span. Document 02, 2.5.
use Rattle.std.specs.Prelude.{ℕ, suc, ◌+◌, ◌-◌, ◌≤◌, ◌<◌, ◌≡◌, cond, List, [], ◌∷◌, ◌++◌, eqb, length, get_or, ℤ, pos}
use Rattle.definitions.specs.Limits.{class_optimal, class_unbounded, class_infeasible}
use Rattle.definitions.specs.Tropical.{fin, plus, Finite}
use Rattle.definitions.specs.Problem.{Problem, Point, side}
use Rattle.definitions.specs.Certificate.{Strategy, Reachable, Walk, stop, step, Cycle, Second, start_of, Leads, Arc}
use Rattle.definitions.specs.ProblemRecord.{problem_of, meant, list_of}
use Rattle.definitions.specs.AnswerRecord.{Answer}
use Rattle.definitions.specs.Verdict.{Accepted, check_refusal, not_certified, point_of, strategy_of, answer_for}
use Rattle.definitions.specs.Verdict as Verdicts
use Rattle.definitions.specs.Selection.{selected, SameClass}
use Rattle.definitions.specs.Programs.{decimal, newline, verdict_line, problem_part, answer_part}

-- ---- the rules

-- The rule with this number is picked by a reached moment.
pub record Behind (p : Problem) (a : Answer) (number : ℕ) : Type 0 where
  pub moment : ℕ
  pub reached : Reachable (start_of p a.start) (Leads p (strategy_of a.picks)) moment
  pub picked : strategy_of a.picks moment ≡ number

-- The numbers from 1 to k that have a property, ascending, each once.
pub data Listed (Has : ℕ → Type 0) : ℕ → List ℕ → Type 0 where
  no_number : Listed Has 0 []
  with_it : {k : ℕ} {numbers : List ℕ} → Listed Has k numbers → Has (suc k) → Listed Has (suc k) (numbers ++ (suc k ∷ []))
  without : {k : ℕ} {numbers : List ℕ} → Listed Has k numbers → (Has (suc k) → ⊥) → Listed Has (suc k) numbers

-- The rules behind an answer: those of the rules 1 to m that reached moments pick. (The question, m + 1, is no rule.)
abbrev pub RulesBehind : Problem → Answer → List ℕ → Type 0
RulesBehind p a rules = Listed (Behind p a) p.m rules

-- ---- the round

-- A row yields to its first latest right moment: the first with the largest right lead plus stamp.
pub record RowYields (p : Problem) (x : Point) (i l : ℕ) : Type 0 where
  pub inside : l ≤ p.n
  pub latest : plus (p.right i l) (x l) ≡ side p.n (p.right i) x
  pub first : (k : ℕ) → k < l → plus (p.right i k) (x k) ≡ side p.n (p.right i) x → ⊥

-- A moment yields to its pick, and the row picked, a rule or the question, to a moment.
pub record Yields (p : Problem) (x : Point) (picks : Strategy) (j l : ℕ) : Type 0 where
  pub row : ℕ
  pub picked : picks j ≡ suc row
  pub row_yields : RowYields p x row l

-- Where the turns begin: at the anchor for start 0, for start 1 at the first planned moment of the second list. Planned means a stamp that
-- is not blank.
pub data Begins (p : Problem) (x : Point) : ℕ → ℕ → Type 0 where
  at_anchor : Begins p x 0 0
  at_second :
      {j : ℕ} → Second p j → Finite (x j) → ((k : ℕ) → k < j → Second p k → Finite (x k) → ⊥) → Begins p x 1 j

-- The binding round: moments yield in turn from the beginning on, until one comes again for the first time; the round starts at the
-- moment that comes again.
pub record Round (p : Problem) (x : Point) (picks : Strategy) (start : ℕ) (round : List ℕ) : Type 0 where
  pub turn : ℕ → ℕ
  pub begins : Begins p x start (turn 0)
  pub back : ℕ
  pub last : ℕ
  pub after : back ≤ last
  pub yields : (i : ℕ) → i ≤ last → Yields p x picks (turn i) (turn (suc i))
  pub new : (i k : ℕ) → i < k → k ≤ last → turn i ≡ turn k → ⊥
  pub again : turn (suc last) ≡ turn back
  pub round_is : round ≡ list_of (λ i. turn (back + i)) (suc last - back)

-- ---- what the tool answers

-- Refused with the number; the rules behind none; the rules and the round behind least.
pub data Reasons : Type 0 where
  refused : ℕ → Reasons
  of_none : List ℕ → Reasons
  of_least : List ℕ → List ℕ → Reasons

-- Refusal 16: the answer is bottomless.
abbrev pub bottomless_refused : ℕ
bottomless_refused = 16

-- The reasons for the bytes p and a: refused with the checker's refusals in their order, 14 among them, then with 16; else the rules
-- behind the accepted answer, and for least the round.
pub data Reasoned (p a : List ℕ) : Reasons → Type 0 where
  turned_away : {k : ℕ} → check_refusal p a ≡ suc k → Reasoned p a (refused (suc k))
  uncertified : check_refusal p a ≡ 0 → (Accepted (problem_of p) (answer_for p a) → ⊥) → Reasoned p a (refused not_certified)
  bottomless :
      check_refusal p a ≡ 0 → Accepted (problem_of p) (answer_for p a) → (answer_for p a).class ≡ class_unbounded
      → Reasoned p a (refused bottomless_refused)
  none :
      {rules : List ℕ} → check_refusal p a ≡ 0 → Accepted (problem_of p) (answer_for p a) → (answer_for p a).class ≡ class_infeasible
      → RulesBehind (problem_of p) (answer_for p a) rules → Reasoned p a (of_none rules)
  least :
      {rules round : List ℕ} → check_refusal p a ≡ 0 → Accepted (problem_of p) (answer_for p a) → (answer_for p a).class ≡ class_optimal
      → RulesBehind (problem_of p) (answer_for p a) rules
      → Round (problem_of p) (point_of (answer_for p a).stamps) (strategy_of (answer_for p a).picks) (answer_for p a).start round
      → Reasoned p a (of_least rules round)

-- ---- the program

-- Each number after a single space.
unfoldable pub spaced : List ℕ → List ℕ
spaced [] = []
spaced (k ∷ numbers) = 32 ∷ (decimal k ++ spaced numbers)

-- `rules`, `round`
unfoldable pub text_rules : List ℕ
text_rules = 114 ∷ 117 ∷ 108 ∷ 101 ∷ 115 ∷ []

unfoldable pub text_round : List ℕ
text_round = 114 ∷ 111 ∷ 117 ∷ 110 ∷ 100 ∷ []

-- The lines: `rules 1 4`, for least then `round 0 1`; refusals print as in the verdict program.
unfoldable pub reasons_lines : Reasons → List ℕ
reasons_lines (refused k) = verdict_line (Verdicts.refused k)
reasons_lines (of_none rules) = text_rules ++ (spaced rules ++ newline)
reasons_lines (of_least rules round) = text_rules ++ (spaced rules ++ (newline ++ (text_round ++ (spaced round ++ newline))))

-- What the program puts out: its input is that of the verdict program, cut as there.
pub record ReasonsOutput (input output : List ℕ) : Type 0 where
  pub reasons : Reasons
  pub reasoned : Reasoned (meant (problem_part input)) (answer_part input) reasons
  pub lines : output ≡ reasons_lines reasons

-- ---- what is proved of them

-- The problem with only these rules and the question has the same class and span.
abbrev pub only_these : Problem → List ℕ → Problem
only_these p rules = selected p (λ i. get_or rules i 0 - 1) (length rules)

-- The moments at which the arcs of a walk begin, in turn, and how many of its arcs are by the question.
unfoldable pub visited : {Arc : ℕ → ℕ → ℤ → Type 0} {j k n : ℕ} {w : ℤ} → Walk Arc j k n w → List ℕ
visited stop = []
visited (step {j = j} arc rest) = j ∷ visited rest

unfoldable pub by_question : {p : Problem} {picks : Strategy} {t : ℤ} {j k n : ℕ} {w : ℤ} → Walk (Arc p picks t) j k n w → ℕ
by_question stop = 0
by_question {p = p} (step arc rest) = cond (eqb arc.row p.m) 1 0 + by_question {p = p} rest

-- The round is a reached cycle of the answer's table that uses the question once and weighs exactly 0 at the least span s.
pub record Binds (p : Problem) (a : Answer) (s : ℤ) (round : List ℕ) : Type 0 where
  pub cycle : Cycle (start_of p a.start) (Leads p (strategy_of a.picks)) (Arc p (strategy_of a.picks) s) (pos 0)
  pub visits : visited cycle.walk ≡ round
  pub question_once : by_question {p = p} cycle.walk ≡ 1

-- What holds of the reasons that the tool gives.
pub data Hold (p : Problem) (a : Answer) : Reasons → Type 0 where
  refusal_holds : {k : ℕ} → Hold p a (refused k)
  none_holds : {rules : List ℕ} → SameClass p (only_these p rules) → Hold p a (of_none rules)
  least_holds :
      {rules round : List ℕ} {s : ℤ} → a.span ≡ fin s → SameClass p (only_these p rules) → Binds p a s round → Hold p a (of_least rules round)

-- Request 2.5 whole: for the bytes of a problem and of an answer the tool has no two answers, and what document 02 says of its answer
-- holds. (That it has one is the contract of `grounds::reasons::reasons`.)
pub record ReasonsKeep : Type 0 where
  pub one_answer : (p a : List ℕ) (r s : Reasons) → Reasoned p a r → Reasoned p a s → r ≡ s
  pub hold : (p a : List ℕ) (r : Reasons) → Reasoned p a r → Hold (problem_of p) (answer_for p a) r
