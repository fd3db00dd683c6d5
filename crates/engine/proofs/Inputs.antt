-- Inputs of which the first bytes were kept: what is decided from them and the size holds of every such input.
use Prim.Native.Nat.{ℕ, ◌≤◌, ◌<◌}
use mathlib.Core.Path.{◌≡◌, refl, sym, ap, subst, ◌∙◌}
use mathlib.Core.List.{List}
use native.Mathlib.Omega.{arith}
use lib.ListN.{length, take}
use Rattle.definitions.specs.Limits.{kept_bytes}
use Rattle.definitions.specs.ProblemRecord.{engine_kinds, header_refusal, header_outcome, refusal_for, meant}
use Rattle.definitions.specs.Programs.{KeptOf}
use Rattle.definitions.specs.Solved as Results
use Rattle.definitions.specs.Solved.{Solves}
use Rattle.definitions.proofs.Inputs.{kept_whole, header_most}
use Rattle.definitions.proofs.Refusals.{or_else_suc}
use Rattle.definitions.proofs.IdleDay.{meant_some}
use Rattle.std.specs.Prelude.{Result, Ok, Err, IsErr}
use Rattle.records.specs.declared.problem.Layout.{Layout}
use Rattle.records.specs.declared.refusal.Refusal.{Refusal}
use Rattle.records.specs.ProblemHeader.{header_of}
use Rattle.records.specs.Refusals.{refused_by}
use Rattle.records.proofs.ProblemHeader.{header_fits, long_header}
use Rattle.engine.specs.Outcome.{solved_of}
use Rattle.engine.proofs.Outcomes.{refuses_with}

pub kept_solves : (kept : List ℕ) {size : ℕ} {before : List ℕ} {r : Results.Solved} {after : List ℕ} → Solves (meant (take size kept)) before r after
    → (input : List ℕ) → KeptOf kept size input → size ≤ kept_bytes → Solves (meant input) before r after
kept_solves kept {before = before} {r} {after} s input k h = subst (λ (x : List ℕ). Solves (meant x) before r after) (sym (kept_whole k h)) s

-- A longer one is refused by its header: no problem is that long.
pub long_not_ok : (kept : List ℕ) (size : ℕ) (r : Result Layout Refusal) → kept_bytes < size → header_of r ≡ header_outcome engine_kinds kept size → IsErr r
long_not_ok kept size r h e = go r e
  where
    go : (q : Result Layout Refusal) → header_of q ≡ header_outcome engine_kinds kept size → IsErr q
    go (Ok l) e = absurd (omega (arith, header_most engine_kinds kept size (header_fits engine_kinds kept size e refl).none))
    go (Err k) e = refl

pub long_refused : {kept input : List ℕ} {size : ℕ} {before : List ℕ} {r : Result Layout Refusal} {k : Refusal} → KeptOf kept size input → kept_bytes < size
    → header_of r ≡ header_outcome engine_kinds kept size → r ≡ Err k → Solves (meant input) before (solved_of (Err k)) before
unfolding solved_of refusal_for
long_refused {input = input} {before = before} {r} {k} o h e f =
    let q = long_header engine_kinds r o h e (sym (ap refused_by f)) in
    rw (meant_some input (omega (arith, o.size_is))) (refuses_with input before k (or_else_suc (header_refusal engine_kinds input (length input)) _ (omega (arith, q.0, q.1)) ∙ q.0)).solves
