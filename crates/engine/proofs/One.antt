-- What the engine gives for a record is one answer, and what it writes are one record's bytes.
use Prim.Native.Nat.{ℕ, ◌+◌}
use mathlib.Core.Path.{◌≡◌, refl, sym, ap, ap₂, subst, ◌∙◌}
use mathlib.Core.List.{List, ◌++◌}
use native.Mathlib.Omega.{arith}
use Rattle.definitions.specs.ProblemRecord.{problem_of, n_field, m_field}
use Rattle.definitions.specs.Questions.{alone}
use Rattle.definitions.specs.AnswerRecord.{Answer, answer_bytes}
use Rattle.definitions.specs.Solved.{Found}
use Rattle.duality.proofs.Classes.{found_one}
use Rattle.class_answers.proofs.One.{given_one}
use Rattle.engine.specs.Outcome.{shown_in, Gives, GivesInTurn}

pub gives_one : (s : List ℕ) (a b : Answer) → Gives s a → Gives s b → a ≡ b
gives_one s a b p q = p.is ∙ same ∙ sym q.is
  where
    same : shown_in (n_field s) (m_field s) p.found ≡ shown_in (n_field s) (m_field s) q.found
    same = let o = given_one p.n_most p.given q.given in rw (o.class, o.span, o.start, o.stamps, o.picks) refl

-- Its answers to the first questions of several are one, and so are their trials.
pub gives_in_turn_one : {p x y : List ℕ} {q r t u : ℕ} → GivesInTurn p q x t → GivesInTurn p r y u → q ≡ r → (x ≡ y) × (t ≡ u)
gives_in_turn_one GivesInTurn.none GivesInTurn.none e = (refl, refl)
gives_in_turn_one GivesInTurn.none (GivesInTurn.more t f g) e = absurd (omega arith)
gives_in_turn_one (GivesInTurn.more t f g) GivesInTurn.none e = absurd (omega arith)
gives_in_turn_one {p} (GivesInTurn.more {q = q} {a = a} t f g) (GivesInTurn.more {q = r} {class} {own} {span = span} {a = b} u f' h) e =
    let z : r ≡ q = omega arith in
    let i = gives_in_turn_one t u (omega arith) in
    let found = subst (λ (k : ℕ). Found (problem_of (alone p k)) class span own) z f'.found in (
      ap₂ ◌++◌ i.0 (ap (λ (c : Answer). answer_bytes (n_field p) c) (gives_one (alone p q) a b g (subst (λ (k : ℕ). Gives (alone p k) b) z h))),
      ap₂ ◌+◌ i.1 (found_one f.found found).2,
    )
