-- What the span program puts out is what document 01 says of its input.
use Prim.Native.Nat.{ℕ, zero, suc, ◌≤◌}
use mathlib.Core.Path.{◌≡◌, refl, ap, sym, subst, ◌∙◌}
use mathlib.Core.List.{List}
use native.Mathlib.Omega.{arith}
use native.Mathlib.Nat.{mul-le-mul_right}
use lib.ListN.{length}
use Rattle.definitions.specs.Limits.{answer_most, most_questions}
use Rattle.definitions.specs.ProblemRecord.{record_refusal, kind_field, count_field, questions_asked}
use Rattle.definitions.specs.Programs.{SpanOutput, refusal, answer, answers, refused_line}
use Rattle.definitions.specs.Solved as Results
use Rattle.definitions.specs.Solved.{Solves, turned_away, solved, all_solved, engine_refusal}
use Rattle.definitions.proofs.Refusals.{or_else_suc}
use Rattle.definitions.proofs.Layouts.{one_question}
use Rattle.definitions.proofs.Solved.{none_refused, asked_few}
use Rattle.engine.specs.Outcome.{solved_of}
use Rattle.engine.proofs.Outcomes.{own_wrote, own_wrote_all}
use Rattle.std.specs.Prelude.{Result, Ok, Err}
use Rattle.records.specs.declared.refusal.Refusal.{Refusal}
use Rattle.engine.specs.declared.solve.Solution.{Solution}
use Rattle.engine.specs.declared.solve.Solution.TheVariants.{One, All}
use Rattle.span.specs.Shown.{out_most, Shown}

-- With a buffer that has room for eight answers the engine's refusal is the problem's.
own_refusal : (p : List ℕ) (room k : ℕ) → out_most ≤ room → engine_refusal p room ≡ k → record_refusal p ≡ k
unfolding engine_refusal
own_refusal p room k h e = go (record_refusal p) refl
  where
    go : (i : ℕ) → record_refusal p ≡ i → record_refusal p ≡ k
    go zero f =
        let few = mul-le-mul_right {m = questions_asked (kind_field p) (count_field p)} {n = most_questions} answer_most (asked_few p f) in
        f ∙ sym ((none_refused p room).1 (f, omega (arith, few, h))) ∙ e
    go (suc i) f = sym (or_else_suc (record_refusal p) _ (rw f (omega arith))) ∙ e

-- A refusal shows its line,
refused_output : {input before after out : List ℕ} {k : ℕ} {x : Results.Solved} → Solves input before x after → x ≡ Results.refused k → length before ≡ out_most → out ≡ refused_line k
    → SpanOutput input out
refused_output {input} {before} {out = out} {k} (turned_away {k = j} f) e b s =
    let q : k ≡ suc j = cc in
    subst (SpanOutput input) (sym (s ∙ ap refused_line q)) (refusal (own_refusal input (length before) (suc j) (omega arith) f))
refused_output (solved a k f ans) e b s = absurd (let z : ◌≡◌ {A = ℕ} 0 1 = cc in omega arith)
refused_output (all_solved k f turn) e b s = absurd (let z : ◌≡◌ {A = ℕ} 0 1 = cc in omega arith)

-- an answer its record, and several theirs.
pub span_output : {input before after out : List ℕ} (r : Result Solution Refusal) → Solves input before (solved_of r) after → length before ≡ out_most → length after ≡ length before → Shown r after out
    → SpanOutput input out
unfolding solved_of
span_output (Err k) j b l s = refused_output j refl b s
span_output {input} (Ok (One a)) j b l s =
    let w = own_wrote {r = Ok (One a)} j refl in
    let inside = w.inside in
    subst (SpanOutput input) (sym (s inside (omega (arith, inside)) ∙ w.bytes)) (answer w.answer w.kind_is (one_question input w.kind_is ∙ w.within) w.answers)
span_output {input} (Ok (All count trials size)) j b l s =
    let w = own_wrote_all {r = Ok (All count trials size)} j refl in
    let inside = w.inside in
    subst (SpanOutput input) (sym (s inside (omega (arith, inside)) ∙ w.bytes)) (answers w.kind_is w.within w.in_turn)
