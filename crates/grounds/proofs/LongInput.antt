-- An input that is longer than what is kept is not accepted: its two records are not as long.
use Rattle.std.proofs.Common.{◌≡◌, ℕ, ◌+◌, ◌-◌, ◌≤◌, ◌<◌, List, ◌++◌, length, take, drop, replicate, Result, Ok, Err, refl, sym, ap, ◌∙◌, arith, length-append, length-drop}
use Rattle.std.specs.Prelude.{IsErr}
use lib.ListN.{length-take}
use lib.Seq.{take_all}
use Rattle.std.proofs.lemmas.List.{take-append-le, length-replicate}
use Rattle.records.specs.declared.refusal.Refusal.{Refusal}
use Rattle.definitions.specs.Limits.{kept_bytes}
use Rattle.definitions.specs.ProblemRecord.{meant, n_field, m_field}
use Rattle.definitions.specs.AnswerRecord.{class_field}
use Rattle.definitions.specs.Verdict as Verdicts
use Rattle.definitions.specs.Verdict.{check_refusal, Judged, turned_away, certified, uncertified}
use Rattle.definitions.specs.Programs.{cut_place, problem_part, answer_part, KeptOf}
use Rattle.definitions.specs.Reasons as Definitions
use Rattle.definitions.specs.Reasons.{Reasoned}
use Rattle.definitions.proofs.Refusals.{or_else_none}
use Rattle.definitions.proofs.AnswerFits.{answer_fits}
use Rattle.definitions.proofs.RoundTrip.{size_most}
use Rattle.definitions.proofs.Inputs.{part_meant}
use Rattle.checker.specs.Outcome.{verdict_of}
use Rattle.checker.specs.declared.check.Certified.{Certified}
use Rattle.checker.proofs.LongInputs.{read_small}

-- The parts of an input, cut where the definition cuts.
pub reasoned_parts :
    (s : List ℕ) {cut : ℕ} {r : Definitions.Reasons} → cut ≡ cut_place s → Reasoned (meant (take cut s)) (drop cut s) r
    → Reasoned (meant (problem_part s)) (answer_part s) r
unfolding problem_part answer_part
reasoned_parts s e d = rw (← e) d

-- The two parts of an input make up all of it.
parts_long : (input : List ℕ) → length input ≤ length (problem_part input) + length (answer_part input)
unfolding problem_part answer_part
parts_long input = omega (arith, length-take (cut_place input) input, length-drop (cut_place input) input)

-- Where no refusal applies, it is no longer than the longest records.
pub accepted_short : (input : List ℕ) → kept_bytes < length input → check_refusal (meant (problem_part input)) (answer_part input) ≡ 0 → ⊥
unfolding check_refusal
accepted_short input h e =
    let same = part_meant input (omega arith) in
    let b = (or_else_none _ _).0 (rw same at e) in
    let small = read_small (record { none = b.0; n_is = refl; m_is = refl }) in
    let fits = (answer_fits (answer_part input) (n_field (problem_part input)) (m_field (problem_part input))).0 b.1 in
    omega (arith, parts_long input, small.0, fits.size_is, size_most (class_field (answer_part input)) (n_field (problem_part input)) (m_field (problem_part input)) fits.n_most fits.m_most)

-- So the checker refuses it.
pub long_refused :
    (kept : List ℕ) (size : ℕ) (v : Result Certified Refusal) → length kept ≡ kept_bytes → kept_bytes < size
    → ((input : List ℕ) → KeptOf kept size input → Judged (meant (problem_part input)) (answer_part input) (verdict_of v)) → IsErr v
long_refused kept size (Err r) l h j = search
long_refused kept size (Ok c) l h j = absurd (go (j input begins) refl)
  where
    input : List ℕ
    input = kept ++ replicate (size - kept_bytes) 0

    long : length input ≡ size
    long = length-append kept (replicate (size - kept_bytes) 0) ∙ omega (arith, length-replicate {A = ℕ} (size - kept_bytes) 0)

    begins : KeptOf kept size input
    begins = record {
      size_is = long;
      begins = take-append-le kept_bytes kept (replicate (size - kept_bytes) 0) (omega arith) ∙ ap (take kept_bytes) (sym (take_all size kept (omega arith)));
    }

    go : {v : Verdicts.Verdict} → Judged (meant (problem_part input)) (answer_part input) v → v ≡ verdict_of (Ok c) → ⊥
    go (turned_away q) f = let z : ◌≡◌ {A = ℕ} 0 1 = cc in omega arith
    go (certified q g) f = accepted_short input (omega (arith, long)) q
    go (uncertified q g) f = let z : ◌≡◌ {A = ℕ} 0 1 = cc in omega arith
