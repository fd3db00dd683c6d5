-- The engine's own record, judged by the checker and read by the reader.
use Prim.Native.Nat.{ℕ, suc, ◌≤◌, ◌<◌}
use mathlib.Core.Path.{◌≡◌, refl, ap, sym, subst, subst₂, ◌∙◌}
use mathlib.Core.List.{List}
use native.Mathlib.Omega.{arith}
use lib.ListN.{length, get_or, take}
use Rattle.definitions.specs.Limits.{answer_most, refused_kind}
use Rattle.definitions.specs.Tropical.{Trop, bot}
use Rattle.definitions.specs.Offset.{trop_of}
use Rattle.definitions.specs.Bytes.{Outcome, gives}
use Rattle.definitions.specs.ProblemRecord.{checker_kinds, WithinLayout, header_outcome, n_field, m_field, meant}
use Rattle.definitions.specs.AnswerRecord.{Answer, answer_refusal, answer_outcome, answer_of, answer_bytes, class_field, span_field, start_field}
use Rattle.definitions.specs.Verdict as Verdicts
use Rattle.definitions.specs.Verdict.{Verdict, accepted, Judged, point_of, strategy_of}
use Rattle.definitions.specs.Solved as Results
use Rattle.definitions.specs.Solved.{Solved, Solves, solved, all_solved}
use Rattle.definitions.proofs.Inputs.{header_none}
use Rattle.definitions.proofs.IdleDay.{meant_none, meant_some, idle_n, idle_m}
use Rattle.definitions.proofs.RoundTrip.{answer_back, answer_accepted, answer_bytes_lem}
use Rattle.definitions.proofs.Solved.{answer_takes}
use Rattle.definitions.proofs.Outcomes.{outcome-none}
use Rattle.std.specs.Prelude.{Result, Ok, Err}
use Rattle.records.specs.declared.problem.Layout.{Layout}
use Rattle.records.specs.declared.refusal.Refusal.{Refusal}
use Rattle.records.specs.declared.refusal.Refusal.TheVariants.{Kind}
use Rattle.records.specs.Classes.{class_number}
use Rattle.records.specs.ProblemHeader.{header_of}
use Rattle.records.specs.Refusals.{number_of}
use Rattle.records.proofs.ProblemHeader.{header_fits, header_refuses}
use Rattle.answer_reader.specs.declared.answer.Head.{Head}
use Rattle.answer_reader.specs.AnswerReading.{head_of, AnswerRead}
use Rattle.answer_reader.proofs.Meaning.{stamps_point_lem, picks_strategy}
use Rattle.engine.specs.declared.solve.Answered.{Answered}
use Rattle.engine.specs.declared.solve.Solution.{Solution}
use Rattle.engine.specs.declared.solve.Solution.TheVariants.{One, All}
use Rattle.engine.specs.Outcome.{solved_of}
use Rattle.engine.proofs.Outcomes.{own_wrote}
use Rattle.guarantees.specs.OwnAnswers.{OwnVerdict, HeldIn, OwnReading}
use Rattle.guarantees.proofs.Engine.{verdict_on}

-- The code's result, refused.
pub own_refused : {p before after : List ℕ} {r : Result Solution Refusal} {k : Refusal} → Solves p before (solved_of r) after → r ≡ Err k
    → (OwnVerdict p before (Verdicts.refused (number_of k)) after) × ((stamps picks : List ℕ) → OwnReading p before stamps picks (head_of (Err k)) after stamps picks)
unfolding solved_of
own_refused {p} {before} {after} {r} {k} h e = go h (ap solved_of e)
  where
    go : {x : Solved} {after : List ℕ} → Solves p before x after → x ≡ Results.refused (number_of k)
        → (OwnVerdict p before (Verdicts.refused (number_of k)) after) × ((stamps picks : List ℕ) → OwnReading p before stamps picks (head_of (Err k)) after stamps picks)
    go (Results.turned_away {k = i} z) f =
        let same : suc i ≡ number_of k = cc in (
          subst (λ (x : ℕ). OwnVerdict p before (Verdicts.refused x) before) same (OwnVerdict.turned_away z),
          λ stamps picks. subst (λ (x : ℕ). OwnReading p before stamps picks (Outcome.refusal x) before stamps picks) same (OwnReading.turned_away z),
        )
    go (solved a k z ans) f = absurd (let z : ◌≡◌ {A = ℕ} 0 1 = cc in omega arith)
    go (all_solved k z turn) f = absurd (let z : ◌≡◌ {A = ℕ} 0 1 = cc in omega arith)

-- The code's result, several questions answered.
pub own_several : {p before after : List ℕ} {r : Result Solution Refusal} {count trials size : ℕ} → Solves p before (solved_of r) after → r ≡ Ok (All count trials size)
    → (OwnVerdict p before (Verdicts.refused refused_kind) after) × ((stamps picks : List ℕ) → OwnReading p before stamps picks (head_of (Err Kind)) after stamps picks)
unfolding solved_of
own_several h e = let g = rw e at h in (OwnVerdict.several g, λ stamps picks. OwnReading.several g)

module _ {p before after : List ℕ} {r : Result Solution Refusal} {one : Answered} (h : Solves p before (solved_of r) after) (e : r ≡ Ok (One one)) where
  pub own_inside : one.size ≤ length after
  own_inside = (own_wrote h e).inside

  -- The checker accepts it.
  pub own_verdict : {v : Verdict} → Judged p (take one.size after) v → OwnVerdict p before v after
  unfolding solved_of
  own_verdict {v} j =
      let w = own_wrote h e in
      let named : v ≡ accepted (class_number one.class) (trop_of one.span) = verdict_on p w.within w.answer w.answers (rw w.bytes at j) in
      rw named (OwnVerdict.own w.none (rw e at h) (rw named at j))

-- The reader gives class, span and start, stamps and picks.
pub own_reading : {p before after : List ℕ} {r : Result Solution Refusal} {one : Answered} → Solves p before (solved_of r) after → r ≡ Ok (One one)
    → (head : Result Head Refusal) {stamps₀ stamps picks₀ picks : List ℕ}
    → (WithinLayout p → AnswerRead (take one.size after) (n_field p) (m_field p) head stamps₀ stamps picks₀ picks) → OwnReading p before stamps₀ picks₀ (head_of head) after stamps picks
unfolding answer_outcome answer_of point_of strategy_of
own_reading {p} {before} {after} {one = one} h e head {stamps₀} {stamps} {picks₀} {picks} reads =
    let w = own_wrote h e in
    let a = w.answer in
    let s : List ℕ = answer_bytes (n_field p) w.answer in
    let f = answer_takes p w.within a w.answers in
    let none = answer_accepted a (n_field p) (m_field p) answer_most f in
    let back = answer_back a (n_field p) (m_field p) answer_most f in
    let read : AnswerRead (answer_bytes (n_field p) w.answer) (n_field p) (m_field p) head stamps₀ stamps picks₀ picks = rw w.bytes at (reads w.within) in
    let class_is : class_field (answer_bytes (n_field p) w.answer) ≡ class_number one.class = ap (λ (x : Answer). x.class) back ∙ w.answers.class_is in
    let span_is : span_field (answer_bytes (n_field p) w.answer) ≡ trop_of one.span = ap (λ (x : Answer). x.span) back ∙ w.answers.span_is in
    let start_is : start_field (answer_bytes (n_field p) w.answer) ≡ w.answer.start = ap (λ (x : Answer). x.start) back in
    let told : head_of head ≡ gives (class_number one.class, trop_of one.span, w.answer.start) = read.answered ∙ outcome-none _ _ none ∙ rw (class_is, span_is, start_is) refl in
    subst₂ (λ (x : Outcome (ℕ × Trop × ℕ)) (y : List ℕ). OwnReading p before stamps₀ picks₀ x y stamps picks) (sym told) (sym w.buffer_is)
    (OwnReading.own a w.none w.answers (held a back read none))
  where
    held : (a : Answer) → answer_of (answer_bytes (n_field p) a) (n_field p) (m_field p) ≡ a
        → AnswerRead (answer_bytes (n_field p) a) (n_field p) (m_field p) head stamps₀ stamps picks₀ picks
        → answer_refusal (answer_bytes (n_field p) a) (n_field p) (m_field p) ≡ 0 → HeldIn a stamps picks
    held a back read none = record {
      stamps_are = λ j. stamps_point_lem read none (answer_bytes_lem (n_field p) a) j ∙ ap (λ (x : Answer). get_or x.stamps j bot) back;
      picks_are = λ j. picks_strategy read none j ∙ ap (λ (x : Answer). get_or x.picks j 0) back;
    }

-- ---- the problem's n and m

pub never_refused : (p : List ℕ) {header : Result Layout Refusal} {k : Refusal} {A : Type 0} → header_of header ≡ header_outcome checker_kinds p (length p) → header ≡ Err k → WithinLayout p → A
never_refused p e f w = absurd (let g = header_refuses checker_kinds p (length p) e f in omega (arith, header_none checker_kinds p w, g.0, g.1))

pub reads_there : (p s : List ℕ) {header : Result Layout Refusal} {l : Layout} {head : Result Head Refusal} {stamps₀ stamps picks₀ picks : List ℕ} → header_of header ≡ header_outcome checker_kinds p (length p)
    → header ≡ Ok l → AnswerRead s l.n l.m head stamps₀ stamps picks₀ picks → WithinLayout p → AnswerRead s (n_field p) (m_field p) head stamps₀ stamps picks₀ picks
reads_there p s {head = head} {stamps₀} {stamps} {picks₀} {picks} e f g w =
    let h = header_fits checker_kinds p (length p) e f in
    subst₂ (λ (n m : ℕ). AnswerRead s n m head stamps₀ stamps picks₀ picks) h.n_is h.m_is g

-- Those of the idle day are 0, and those of other bytes their own.
pub idle_there : (p s : List ℕ) {head : Result Head Refusal} {stamps₀ stamps picks₀ picks : List ℕ} → length p ≡ 0 → AnswerRead s 0 0 head stamps₀ stamps picks₀ picks
    → AnswerRead s (n_field (meant p)) (m_field (meant p)) head stamps₀ stamps picks₀ picks
idle_there p s e r = rw (meant_none p e, idle_n, idle_m) r

pub own_there : (p s : List ℕ) {head : Result Head Refusal} {stamps₀ stamps picks₀ picks : List ℕ} → 0 < length p
    → (WithinLayout p → AnswerRead s (n_field p) (m_field p) head stamps₀ stamps picks₀ picks)
    → WithinLayout (meant p) → AnswerRead s (n_field (meant p)) (m_field (meant p)) head stamps₀ stamps picks₀ picks
own_there p s h r = rw (meant_some p h) r
