-- What the census answered, as a number and counts in lent places.
use Prim.Native.Nat.{ℕ, suc, ◌≤◌}
use mathlib.Core.Path.{◌≡◌, ap}
use mathlib.Core.List.{List, [], ◌∷◌}
use Rattle.std.specs.Prelude.{Result, Ok, Err}
use native.Mathlib.Omega.{arith}
use lib.ListN.{length}
use Rattle.definitions.specs.Bytes.{put}
use Rattle.definitions.specs.Census as Papers
use Rattle.definitions.specs.Census.{Censuses, turned_away, counts}
use Rattle.records.specs.declared.refusal.Refusal.{Refusal}
use Rattle.records.specs.Refusals.{number_of}
use Rattle.counting.specs.Steps.{census_of}
use Rattle.counting.specs.declared.tally.Tally.{Tally}
use Rattle.capi.specs.Census as Lent
use Rattle.capi.specs.Census.{CountsAs, CensusAs, count_places}

pub counts_lent : (found before : List ℕ) {after : List ℕ} → count_places ≤ length before → after ≡ put before 0 found → CountsAs found before 0 after
counts_lent found before h e = rw e (Lent.lent h)

counted_by : {n m w a b c d : ℕ} {r : Papers.Census} → Censuses n m w r → r ≡ Papers.counted a b c d → {before after : List ℕ} {number : ℕ}
    → CountsAs (a ∷ b ∷ c ∷ d ∷ []) before number after → CensusAs n m w before number after
counted_by (turned_away e) f l = absurd (let z : ◌≡◌ {A = ℕ} 0 1 = cc in omega arith)
counted_by {a = a} {b} {c} {d} (counts {a = a'} {b = b'} {c = c'} {d = d'} e k) f {before} {after} {number} l =
    let same : ◌≡◌ {A = List ℕ} (a ∷ b ∷ c ∷ d ∷ []) (a' ∷ b' ∷ c' ∷ d' ∷ []) = cc in
    Lent.taken e k (rw same at l)

pub census_counted : {n m w : ℕ} {t : Tally} {r : Result Tally Refusal} → Censuses n m w (census_of r) → r ≡ Ok t → {before after : List ℕ} {number : ℕ}
    → CountsAs (t.least ∷ t.bottomless ∷ t.none ∷ t.silent ∷ []) before number after → CensusAs n m w before number after
census_counted h e l = counted_by h (ap census_of e) l

refused_by_lem : {n m w k : ℕ} {r : Papers.Census} → Censuses n m w r → r ≡ Papers.refused k → (before : List ℕ) → CensusAs n m w before k before
refused_by_lem {n} {m} {w} {k} (turned_away {k = j} e) f before = let same : suc j ≡ k = cc in rw (← same) (Lent.turned_away e)
refused_by_lem (counts e c) f before = absurd (let z : ◌≡◌ {A = ℕ} 0 1 = cc in omega arith)

pub census_refused : {n m w : ℕ} {k : Refusal} {r : Result Tally Refusal} → Censuses n m w (census_of r) → r ≡ Err k → {number : ℕ} → number ≡ number_of k → (before : List ℕ)
    → CensusAs n m w before number before
census_refused h e f before = rw f (refused_by_lem h (ap census_of e) before)
