-- Refusals, kinds and classes by their numbers: what a function that may refuse answers, from the number of its refusal.
use Rattle.std.proofs.Common.{◌≡◌, ℕ, zero, suc, ◌+◌, ◌-◌, ◌<◌, ◌≤◌, Bool, true, false, cond, List, [], ◌∷◌, map, get_or, length, Result, Ok, Err, refl, ap, arith}
use lib.ListN.{get_or-map}
use lib.Dec.{eqb}
use Rattle.definitions.specs.Limits.{questions_kind, states_kind}
use Rattle.definitions.specs.Bytes.{gives, refusal, outcome, or_else}
use Rattle.definitions.specs.Problem.{Problem}
use Rattle.definitions.specs.Tropical.{Trop}
use Rattle.definitions.specs.ProblemRecord.{Kinds, header_refusal, header_judged, refusal_for, kind_field, n_field, m_field, count_field, leads_place, questions_asked, layout_of}
use Rattle.definitions.specs.AnswerRecord.{Answer, form_refusal, answer_header_refusal, answer_header_judged, answer_refusal, writer_judged, writer_refusal}
use Rattle.definitions.specs.Verdict.{check_refusal}
use Rattle.definitions.specs.Solved.{Found, optimal, unbounded, infeasible, engine_refusal}
use Rattle.definitions.proofs.Refusals.{header_passes}
use Rattle.definitions.proofs.KnownKinds.{KnownKind, kind_known}
use Rattle.records.specs.declared.class.Class.{Class}
use Rattle.records.specs.declared.class.Class.TheVariants.{Optimal, Unbounded, Infeasible}
use Rattle.records.specs.declared.problem.Kind as Records
use Rattle.records.specs.declared.problem.Kind.TheVariants as Of
use Rattle.records.specs.declared.problem.Layout.{Layout}
use Rattle.records.specs.declared.refusal.Refusal.{Refusal}
use Rattle.records.specs.declared.refusal.Refusal.TheVariants.{Short, Length, Kind, Limits, Size, Lead, Room, AnswerShort, AnswerLength, AnswerClass, AnswerSize, Form, Pick, NotCertified, Count, Bottomless, Silent, NoText, Week, State, Full, Ticket, Memory, Shift, Rule, Early, Census}
use Rattle.records.specs.Classes.{class_number}
use Rattle.records.specs.ProblemHeader.{kind_number, layout_in}
use Rattle.records.specs.Refusals.{number_of, outcome_by}

-- ---- refusals

-- All, in the order of their numbers, which are 1 to 27.
refusals : List Refusal
refusals =
    Short ∷ Length ∷ Kind ∷ Limits ∷ Size ∷ Lead ∷ Room ∷ AnswerShort ∷ AnswerLength ∷ AnswerClass ∷ AnswerSize ∷ Form ∷ Pick ∷ NotCertified ∷ Count ∷ Bottomless ∷ Silent
    ∷ NoText ∷ Week ∷ State ∷ Full ∷ Ticket ∷ Memory ∷ Shift ∷ Rule ∷ Early ∷ Census ∷ []

run_from : ℕ → ℕ → List ℕ
run_from a zero = []
run_from a (suc n) = a ∷ run_from (suc a) n

numbers_run : map number_of refusals ≡ run_from 1 27
unfolding refusals run_from
numbers_run = refl

run_at : (a n i d : ℕ) → i < n → get_or (run_from a n) i d ≡ a + i
unfolding run_from
run_at a zero i d h = absurd (omega arith)
run_at a (suc n) zero d h = omega arith
run_at a (suc n) (suc i) d h = let e = run_at (suc a) n i d (omega arith) in omega arith

-- The one with a number.
pub refusal_at : ℕ → Refusal
refusal_at k = get_or refusals (k - 1) Census

pub refusal_back : (k : ℕ) → 0 < k → k ≤ 27 → number_of (refusal_at k) ≡ k
unfolding refusal_at
refusal_back k l h =
    let e : get_or (map number_of refusals) (k - 1) 27 ≡ number_of (refusal_at k) = get_or-map number_of refusals (k - 1) Census in
    let f = rw numbers_run at e in
    let g = run_at 1 27 (k - 1) 27 (omega arith) in
    omega arith

-- The refusal with a number, what is given where it is 0.
unfoldable pub result_by : {A : Type 0} → ℕ → A → Result A Refusal
result_by zero x = Ok x
result_by (suc k) x = Err (refusal_at (suc k))

pub result_back : {A B : Type 0} (f : A → B) (k : ℕ) (x : A) (y : B) → k ≤ 27 → (k ≡ 0 → f x ≡ y) → outcome_by f (result_by k x) ≡ outcome k y
unfolding result_by outcome
result_back f zero x y h e = ap gives (e refl)
result_back f (suc k) x y h e = ap refusal (refusal_back (suc k) (omega arith) h)

-- ---- no number of a refusal is above 27

cond_most : (a : ℕ) (t : Bool) {b : ℕ} → a ≤ 27 → b ≤ 27 → cond t a b ≤ 27
cond_most a true h k = h
cond_most a false h k = k

none : 0 ≤ 27
none = omega arith

or_else_most : (a b : ℕ) → a ≤ 27 → b ≤ 27 → or_else a b ≤ 27
or_else_most zero b h k = k
or_else_most (suc a) b h k = h

pub header_few : (kinds : Kinds) (s : List ℕ) (size : ℕ) → header_refusal kinds s size ≤ 27
unfolding header_refusal header_judged
header_few kinds s size =
    cond_most 1 _ (omega arith) (cond_most 2 _ (omega arith) (cond_most 3 _ (omega arith) (cond_most 4 _ (omega arith) (cond_most 15 _ (omega arith) (cond_most 5 _ (omega arith) none)))))

pub problem_few : (kinds : Kinds) (s : List ℕ) → refusal_for kinds s ≤ 27
unfolding refusal_for
problem_few kinds s = or_else_most _ _ (header_few kinds s (length s)) (cond_most 20 _ (omega arith) (cond_most 6 _ (omega arith) (cond_most 17 _ (omega arith) none)))

form_few : (a : Answer) (n m : ℕ) → form_refusal a n m ≤ 27
unfolding form_refusal
form_few a n m = cond_most 12 _ (omega arith) (cond_most 13 _ (omega arith) none)

pub answer_few : (s : List ℕ) (n m : ℕ) → answer_refusal s n m ≤ 27
unfolding answer_refusal answer_header_refusal answer_header_judged
answer_few s n m = or_else_most _ _
    (cond_most 4 _ (omega arith) (cond_most 8 _ (omega arith) (cond_most 9 _ (omega arith) (cond_most 10 _ (omega arith) (cond_most 11 _ (omega arith) none)))))
    (form_few _ n m)

pub check_few : (p a : List ℕ) → check_refusal p a ≤ 27
unfolding check_refusal
check_few p a = or_else_most _ _ (problem_few _ p) (answer_few a _ _)

pub writer_few : (a : Answer) (n m room : ℕ) → writer_refusal a n m room ≤ 27
unfolding writer_refusal writer_judged
writer_few a n m room = or_else_most _ _
    (cond_most 4 _ (omega arith) (cond_most 7 _ (omega arith) (cond_most 10 _ (omega arith) (cond_most 11 _ (omega arith) none))))
    (form_few a n m)

pub engine_few : (p : List ℕ) (room : ℕ) → engine_refusal p room ≤ 27
unfolding engine_refusal
engine_few p room = or_else_most _ _ (problem_few _ p) (cond_most 7 _ (omega arith) none)

-- ---- kinds and classes

pub kind_at : ℕ → Records.Kind
kind_at k = cond (eqb k states_kind) Of.States (cond (eqb k questions_kind) Of.Questions Of.Problem)

kind_back : {k : ℕ} → KnownKind k → kind_number (kind_at k) ≡ k
unfolding kind_at
kind_back (KnownKind.plain e) = rw e refl
kind_back (KnownKind.several e) = rw e refl
kind_back (KnownKind.stated e) = rw e refl

-- The layout in a header that nothing refuses.
unfoldable pub the_layout : List ℕ → Layout
the_layout s =
    record { kind = kind_at (kind_field s); n = n_field s; m = m_field s; leads = leads_place (kind_field s) (m_field s); questions = questions_asked (kind_field s) (count_field s) }

pub layout_back : (kinds : Kinds) (s : List ℕ) (size : ℕ) → header_refusal kinds s size ≡ 0 → layout_in (the_layout s) ≡ layout_of s
unfolding the_layout
layout_back kinds s size e =
    let k = kind_back (kind_known kinds (kind_field s) ((header_passes kinds s size).0 e).kind_known) in
    λ i. record { kind = k i; n = n_field s; m = m_field s; leads = leads_place (kind_field s) (m_field s); questions = questions_asked (kind_field s) (count_field s) }

-- The class of what is found.
pub record ClassAt (k : ℕ) : Type 0 where
  pub class : Class
  pub is : class_number class ≡ k

pub class_found : {p : Problem} {class trials : ℕ} {span : Trop} → Found p class span trials → ClassAt class
class_found (optimal o) = record { class = Optimal; is = refl }
class_found (unbounded u) = record { class = Unbounded; is = refl }
class_found (infeasible n) = record { class = Infeasible; is = refl }
