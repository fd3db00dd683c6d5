-- Inputs of which the program stops counting: what it puts out is the same for all that are so long and begin alike.
use Prim.Native.Nat.{ℕ, zero, suc, ◌≤◌, ◌<◌}
use mathlib.Core.Path.{◌≡◌, refl, sym, ap, ◌∙◌}
use mathlib.Core.List.{List}
use native.Mathlib.Omega.{arith}
use lib.ListN.{length, get_or, take}
use lib.Seq.{get_or-take, length-take-le, take-take}
use Rattle.definitions.specs.Limits.{kept_bytes}
use Rattle.definitions.specs.Bytes.{Bytes}
use Rattle.definitions.specs.ProblemRecord.{meant}
use Rattle.definitions.specs.Verdict.{check_refusal}
use Rattle.definitions.specs.Programs as Programs
use Rattle.definitions.specs.Programs.{problem_part, answer_part, KeptOf, ReadFrom, read_most}
use Rattle.definitions.specs.Reasons as Reasons
use Rattle.definitions.specs.Reasons.{Reasoned, ReasonsOutput}
use Rattle.definitions.proofs.Bytes.{bytes_take}
use Rattle.definitions.proofs.Inputs.{part_meant, refusals_alike}

-- Where a refusal applies, the tool refuses with it.
refused_with : {p a : List ℕ} {r : Reasons.Reasons} → Reasoned p a r → (k : ℕ) → check_refusal p a ≡ suc k → r ≡ Reasons.refused (suc k)
refused_with (Reasons.turned_away e) k f = ap Reasons.refused (sym e ∙ f)
refused_with (Reasons.uncertified e d) k f = absurd (omega arith)
refused_with (Reasons.bottomless e h c) k f = absurd (omega arith)
refused_with (Reasons.none e h c l) k f = absurd (omega arith)
refused_with (Reasons.least e h c l r) k f = absurd (omega arith)

-- Long inputs that begin alike.
reasons_far :
    (input other : List ℕ) → Bytes input → Bytes other → read_most ≤ length input → read_most ≤ length other
    → take kept_bytes input ≡ take kept_bytes other → {output : List ℕ} → ReasonsOutput other output → ReasonsOutput input output
reasons_far input other b c h g begins o =
    let same : (i : ℕ) → i < kept_bytes → get_or input i 0 ≡ get_or other i 0 =
    λ i l. sym (get_or-take kept_bytes input i 0 l) ∙ ap (λ (s : List ℕ). get_or s i 0) begins ∙ get_or-take kept_bytes other i 0 l in
    let alike = refusals_alike input other same b c h g in
    record { reasons = o.reasons; reasoned = go (check_refusal (problem_part other) (answer_part other)) refl alike.0 alike.1; lines = o.lines }
  where
    go : (k : ℕ) → check_refusal (problem_part other) (answer_part other) ≡ k
        → check_refusal (problem_part input) (answer_part input) ≡ check_refusal (problem_part other) (answer_part other)
        → 0 < check_refusal (problem_part input) (answer_part input) → Reasoned (meant (problem_part input)) (answer_part input) o.reasons
    go zero e f some = absurd (omega arith)
    go (suc k) e f some =
        rw (part_meant input (omega arith), refused_with (rw (part_meant other (omega arith)) at o.reasoned) k e) (Reasons.turned_away (f ∙ e))

-- What is put out for all inputs of which the same was read.
pub reasons_read :
    (kept : List ℕ) (size : ℕ) (output : List ℕ) → ((input : List ℕ) → KeptOf kept size input → ReasonsOutput input output) → (input : List ℕ)
    → ReadFrom kept size input → ReasonsOutput input output
reasons_read kept size output f input (Programs.whole k) = f input k
reasons_read kept size output f input (Programs.part b h g k) =
    reasons_far input (take size input) b (bytes_take size b) (omega arith) (omega (arith, length-take-le size input g)) (sym (take-take kept_bytes size input (omega arith))) (f (take size input) k)
