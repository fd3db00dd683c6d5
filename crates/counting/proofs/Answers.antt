-- What the census answers, from what its steps said.
use Prim.Native.Nat.{ℕ, zero, suc, ◌<◌}
use mathlib.Core.Path.{◌≡◌}
use native.Mathlib.Omega.{arith}
use Rattle.std.specs.Prelude.{Result, Ok, Err}
use Rattle.definitions.specs.Bytes.{outcome}
use Rattle.definitions.specs.Census as Papers
use Rattle.definitions.specs.Census.{census_total, census_refusal, FourCounts, Censuses, turned_away, counts}
use Rattle.records.specs.declared.refusal.Refusal.{Refusal}
use Rattle.records.specs.Refusals.{number_of}
use Rattle.records.proofs.Refusing.{number_range, was_ok, was_err}
use Rattle.counting.specs.Steps.{CensusFits, census_of, total_of}
use Rattle.counting.specs.declared.tally.Tally.{Tally}
use Rattle.counting.proofs.Totals.{census_fits}

module _ {n m w : ℕ} {r : Result ℕ Refusal} (h : total_of r ≡ outcome (census_refusal n m w) (census_total n m w)) where
  -- So many problems are to be counted.
  pub total_told : {t : ℕ} → r ≡ Ok t → CensusFits n m w × (t ≡ census_total n m w)
  total_told e = let told = was_ok (λ x. x) (census_refusal n m w) (census_total n m w) h e in ((census_fits n m w).0 told.0, told.1)

  pub census_told : {t : ℕ} {tally : Tally} → r ≡ Ok t → FourCounts n m w tally.least tally.bottomless tally.none tally.silent → Censuses n m w (census_of (Ok tally))
  census_told e k = counts (was_ok (λ x. x) (census_refusal n m w) (census_total n m w) h e).0 k

  pub census_away : {k : Refusal} → r ≡ Err k → Censuses n m w (census_of (Err k))
  census_away {k} e = let told = was_err (λ x. x) (census_refusal n m w) (census_total n m w) h e in go (number_of k) told.0 (number_range k).0
    where
      go : (k : ℕ) → census_refusal n m w ≡ k → 0 < k → Censuses n m w (Papers.refused k)
      go zero e h = absurd (omega arith)
      go (suc k) e h = turned_away e
