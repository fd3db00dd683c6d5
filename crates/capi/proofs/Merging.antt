-- What merging answers as a number.
use Prim.Native.Nat.{ℕ, suc, ◌*◌, ◌≤◌}
use mathlib.Core.Path.{◌≡◌, ap}
use mathlib.Core.List.{List}
use Rattle.std.specs.Prelude.{Result}
use native.Mathlib.Omega.{arith}
use lib.IntN.{ℤ}
use Rattle.definitions.specs.Limits.{signed_bytes, merged_most}
use Rattle.definitions.specs.Bytes.{Outcome, refusal, gives}
use Rattle.definitions.specs.ProblemRecord.{n_field, problem_refusal}
use Rattle.definitions.specs.Merging.{merge_refusal, Merges, turned_away, rule_broken, too_early, stamps}
use Rattle.definitions.proofs.Refusals.{or_else_none, record_fits}
use Rattle.records.specs.declared.refusal.Refusal.{Refusal}
use Rattle.merging.specs.Outcome.{merged_of}
use Rattle.capi.specs.Numbers.{Small}

refusal_not_gives : {k size : ℕ} → refusal k ≡ gives size → ⊥
refusal_not_gives e = let z : ◌≡◌ {A = ℕ} 0 1 = cc in omega arith

-- A problem that nothing refuses has few moments, so there are few stamps.
few_stamps : (p a b : List ℕ) (t : ℤ) (before after : List ℕ) {r : Outcome ℕ} (size : ℕ) → Merges p a b t before r after → r ≡ gives size → size ≤ merged_most
unfolding merge_refusal
few_stamps p a b t before after size (turned_away e) q = absurd (refusal_not_gives q)
few_stamps p a b t before after size (rule_broken e f) q = absurd (refusal_not_gives q)
few_stamps p a b t before after size (too_early e f g) q = absurd (refusal_not_gives q)
few_stamps p a b t before after size (stamps e f g) q =
    let z : signed_bytes * suc (n_field p) ≡ size = cc in
    let fits = (record_fits _ p).0 ((or_else_none (problem_refusal p) _).0 e).0 in
    omega (arith, fits.header.n_most)

pub small_merged : {p a b : List ℕ} {t : ℤ} {before after : List ℕ} {r : Result ℕ Refusal} → Merges p a b t before (merged_of r) after → Small r
small_merged {p} {a} {b} {t} {before} {after} m = record { small = λ {k = size} e. let h = few_stamps p a b t before after size m (ap merged_of e) in omega arith }
