-- A census as one number, 0 where it was taken, with its counts in lent places; the refusal where it was not, 255 for too few places.
use Rattle.std.specs.Prelude.{ℕ, suc, ◌≤◌, ◌<◌, ◌≡◌, List, [], ◌∷◌, length}
use Rattle.definitions.specs.Bytes.{put}
use Rattle.definitions.specs.Census.{census_refusal, FourCounts}
use Rattle.capi.specs.Numbers.{too_few_places}

-- The counts have four places.
abbrev pub count_places : ℕ
count_places = 4

-- FourCounts put in the first of the lent places; fewer than four are left as they are.
pub data CountsAs (found before : List ℕ) : ℕ → List ℕ → Type 0 where
  too_few : length before < count_places → CountsAs found before too_few_places before
  lent : count_places ≤ length before → CountsAs found before 0 (put before 0 found)

-- The census; refusal 27 comes before the places are looked at.
pub data CensusAs (n m w : ℕ) (before : List ℕ) : ℕ → List ℕ → Type 0 where
  turned_away : {k : ℕ} → census_refusal n m w ≡ suc k → CensusAs n m w before (suc k) before
  taken :
      {a b c d number : ℕ} {after : List ℕ} → census_refusal n m w ≡ 0 → FourCounts n m w a b c d → CountsAs (a ∷ b ∷ c ∷ d ∷ []) before number after
      → CensusAs n m w before number after
