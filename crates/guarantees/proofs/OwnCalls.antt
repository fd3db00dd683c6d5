-- What the calls of the code give is what every function of the demands gives: verdict and result have one value.
use Prim.Native.Nat.{ℕ, ◌+◌, ◌≤◌}
use mathlib.Core.Path.{◌≡◌, refl, sym, ap, ap₂, subst, ◌∙◌}
use mathlib.Core.List.{List}
use native.Mathlib.Omega.{arith}
use lib.ListN.{length, length-append}
use Rattle.definitions.specs.Limits.{answer_most, questions_kind}
use Rattle.definitions.specs.Tropical.{Trop}
use Rattle.definitions.specs.ProblemRecord.{meant, WithinLayouts, problem_of, kind_field, n_field, m_field, count_field}
use Rattle.definitions.specs.Questions.{alone}
use Rattle.definitions.specs.AnswerRecord.{Answer, answer_size, answer_bytes, written}
use Rattle.definitions.specs.Verdict.{Verdict, Judged}
use Rattle.definitions.specs.Solved as Results
use Rattle.definitions.specs.Solved.{Answers, AnswersInTurn, Solves}
use Rattle.definitions.specs.Demands.{Slice}
use Rattle.definitions.proofs.RoundTrip.{answer_length}
use Rattle.definitions.proofs.Solved.{OneAsked, one_asked, none_refused, answer_takes}
use Rattle.duality.proofs.Classes.{found_one}
use Rattle.checker.proofs.Judgement.{judged_unique}
use Rattle.std.specs.Prelude.{Result}
use Rattle.records.specs.declared.refusal.Refusal.{Refusal}
use Rattle.engine.specs.declared.solve.Solution.{Solution}
use Rattle.engine.specs.Outcome.{solved_of, SolvedAs, Writes}
use Rattle.engine.proofs.One.{gives_one, gives_in_turn_one}
use Rattle.guarantees.specs.Called.{CheckCalled, SolveCalled}
use Rattle.guarantees.proofs.Engine.{one_not_several}

-- ---- the result alone, by document 01

-- Two runs of answers to the first questions of a record: as many bytes, and as many trials.
turns_one : {p x y : List ℕ} {q r t u : ℕ} → kind_field p ≡ questions_kind → WithinLayouts p → q ≤ count_field p → AnswersInTurn p q x t → AnswersInTurn p r y u → q ≡ r
    → (length x ≡ length y) × (t ≡ u)
turns_one k w h Results.no_question Results.no_question e = (refl, refl)
turns_one k w h Results.no_question (Results.one_more b u g) e = absurd (omega arith)
turns_one k w h (Results.one_more a t f) Results.no_question e = absurd (omega arith)
turns_one {p} k w h (Results.one_more {q = q} {class = class} {bytes = x} a t f) (Results.one_more {q = r} {own = own} {class = kind} {bytes = y} {span = span} b u g) e =
    let z : r ≡ q = omega arith in
    let g′ = subst (λ (j : ℕ). Answers (problem_of (alone p j)) kind span own b) z g in
    let same = found_one f.found g′.found in
    let o = one_asked p k w q (omega arith) in
    let i = turns_one k w (omega arith) t u (omega arith) in (
      omega (arith, i.0, length-append x (answer_bytes (n_field p) a), length-append y (answer_bytes (n_field p) b), sized p o f, sized p o g′, ap (λ (c : ℕ). answer_size c (n_field p) (m_field p)) same.0),
      ap₂ ◌+◌ i.1 same.2,
    )
  where
    sized : (p : List ℕ) {q class trials : ℕ} {span : Trop} {a : Answer} → OneAsked p q → Answers (problem_of (alone p q)) class span trials a
        → length (answer_bytes (n_field p) a) ≡ answer_size class (n_field p) (m_field p)
    sized p {q} {a = a} o f =
        rw (← o.n_is, ← o.m_is) (answer_length a (n_field (alone p q)) (m_field (alone p q)) answer_most (answer_takes (alone p q) o.within a f)
        ∙ ap (λ (c : ℕ). answer_size c (n_field (alone p q)) (m_field (alone p q))) f.class_is)

-- Class, span, trials and size have one value, whatever is free in the answer.
pub solves_one : {p x a b : List ℕ} {r s : Results.Solved} → Solves p x r a → Solves p x s b → r ≡ s
solves_one (Results.turned_away e) (Results.turned_away f) = ap Results.refused (sym e ∙ f)
solves_one (Results.turned_away e) (Results.solved b l f g) = absurd (omega (arith, e, f))
solves_one (Results.turned_away e) (Results.all_solved l f u) = absurd (omega (arith, e, f))
solves_one (Results.solved a k e f) (Results.turned_away g) = absurd (omega (arith, e, g))
solves_one (Results.all_solved k e t) (Results.turned_away f) = absurd (omega (arith, e, f))
solves_one {p} (Results.solved a k e f) (Results.all_solved l g u) = absurd (one_not_several p k l)
solves_one {p} (Results.all_solved l g u) (Results.solved a k e f) = absurd (one_not_several p k l)
solves_one (Results.solved a k e f) (Results.solved b l g h) = let same = found_one f.found h.found in rw (same.0, same.1, same.2) refl
solves_one {p} {x} (Results.all_solved k e t) (Results.all_solved l f u) =
    let same = turns_one k ((none_refused p (length x)).0 e).0 (omega arith) t u refl in rw (same.0, same.1) refl

-- What is written has one value too, where the engine gives it.
pub writes_one : {p x a b : List ℕ} {r s : Results.Solved} → Writes p x r a → Writes p x s b → r ≡ s → a ≡ b
writes_one Writes.refused Writes.refused e = refl
writes_one Writes.refused (Writes.one k ans g) e = absurd (let z : ◌≡◌ {A = ℕ} 0 1 = cc in omega arith)
writes_one Writes.refused (Writes.several k t) e = absurd (let z : ◌≡◌ {A = ℕ} 0 1 = cc in omega arith)
writes_one (Writes.one k ans g) Writes.refused e = absurd (let z : ◌≡◌ {A = ℕ} 0 1 = cc in omega arith)
writes_one (Writes.several k t) Writes.refused e = absurd (let z : ◌≡◌ {A = ℕ} 0 1 = cc in omega arith)
writes_one (Writes.one k ans g) (Writes.several l t) e = absurd (let z : ◌≡◌ {A = ℕ} 0 1 = cc in omega arith)
writes_one (Writes.several l t) (Writes.one k ans g) e = absurd (let z : ◌≡◌ {A = ℕ} 0 1 = cc in omega arith)
writes_one {p} {x} (Writes.one {a = a} k ans g) (Writes.one {a = b} l other h) e = ap (λ (z : Answer). written x (answer_bytes (n_field p) z)) (gives_one p a b g h)
writes_one {p} {x} (Writes.several k t) (Writes.several l u) e = ap (written x) (gives_in_turn_one t u refl).0

-- ---- the calls

pub check_called : {p a : List ℕ} {v : Verdict} → Slice p → Slice a → Judged (meant p) a v → CheckCalled p a v
check_called {p} {a} b c j = record { judged = j; every = λ check m. judged_unique (m p a b c) j }

pub solve_called : {p before after : List ℕ} {r : Result Solution Refusal} → Slice p → Slice before → SolvedAs (meant p) before r after → SolveCalled p before (solved_of r) after
solve_called {p} {before} b c s = record {
  solves = s.solves;
  every = λ engine m. solves_one (m p before b c) s.solves;
  every_byte = λ engine m w. writes_one (w p before b c) s.writes (solves_one (m p before b c) s.solves);
}
