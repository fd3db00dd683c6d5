-- Lists of bytes, and fields in them. All fields are little-endian. Document 01, "Records".
use Rattle.std.specs.Prelude.{ℕ, zero, suc, ◌+◌, ◌*◌, ◌-◌, ◌/◌, ◌%◌, ◌<◌, Bool, true, false, cond, ◌&&◌, ◌||◌, List, [], ◌∷◌, ◌++◌, eqb, ltb, leb, length, get_or, take, drop, ℤ, pos, negsuc, nat_abs}
use Rattle.std.proofs.Math.IntN.{sub_ℕ}
use Rattle.definitions.specs.Limits.{byte_values, signed_bytes, signed_half, signed_full}
use Rattle.definitions.specs.Tropical.{Trop, bot, fin}

-- A string of bytes: every element is below 256. (Past the end `get_or` gives 0.)
pub record Bytes (s : List ℕ) : Type 0 where
  pub byte : (i : ℕ) → get_or s i 0 < byte_values

-- The number in the k bytes from place `at`, lowest byte first. A byte past the end counts as 0.
unfoldable pub num_at : ℕ → List ℕ → ℕ → ℕ
num_at zero s at = 0
num_at (suc k) s at = get_or s at 0 + byte_values * num_at k s (at + 1)

-- A number as k bytes, lowest byte first.
unfoldable pub le : ℕ → ℕ → List ℕ
le zero x = []
le (suc k) x = (x % byte_values) ∷ le k (x / byte_values)

-- The numbers in a run of `count` fields of k bytes from place `at`.
unfoldable pub nums_at : ℕ → ℕ → List ℕ → ℕ → List ℕ
nums_at k zero s at = []
nums_at k (suc count) s at = num_at k s at ∷ nums_at k count s (at + k)

-- A run of numbers as fields of k bytes.
unfoldable pub fields : ℕ → List ℕ → List ℕ
fields k [] = []
fields k (x ∷ xs) = le k x ++ fields k xs

-- A list with `values` put from place `at` on; what stood before and after stays.
unfoldable pub put : List ℕ → ℕ → List ℕ → List ℕ
put l at values = take at l ++ (values ++ drop (at + length values) l)

-- A 4-byte field as a signed number.
unfoldable pub signed : ℕ → ℤ
signed w = cond (ltb w signed_half) (pos w) (sub_ℕ w signed_full)

-- A lead, stamp or span from its 4-byte field: −2,147,483,648 is blank.
unfoldable pub trop_field : ℕ → Trop
trop_field w = cond (eqb w signed_half) bot (fin (signed w))

-- A lead, stamp or span as the number of its 4-byte field.
unfoldable pub field_of : Trop → ℕ
field_of bot = signed_half
field_of (fin (pos k)) = k
field_of (fin (negsuc k)) = signed_full - suc k

-- The lead, stamp or span at a place.
unfoldable pub trop_at : List ℕ → ℕ → Trop
trop_at s at = trop_field (num_at signed_bytes s at)

-- The test passes for every element.
unfoldable pub all {ℓ} : {A : Type ℓ} → (A → Bool) → List A → Bool
all test [] = true
all test (x ∷ xs) = test x && all test xs

-- The test passes for some number below k.
unfoldable pub some_below : (ℕ → Bool) → ℕ → Bool
some_below test zero = false
some_below test (suc k) = some_below test k || test k

-- Whole and within ±limit.
unfoldable pub whole_within : ℕ → Trop → Bool
whole_within limit bot = false
whole_within limit (fin z) = leb (nat_abs z) limit

-- Blank, or within ±limit.
unfoldable pub blank_or_within : ℕ → Trop → Bool
blank_or_within limit bot = true
blank_or_within limit (fin z) = leb (nat_abs z) limit

-- A test, and the number of the refusal that applies where it passes.
pub record Clause : Type 0 where
  pub applies : Bool
  pub number : ℕ

-- The first refusal that applies of a list in document 01's order, 0 where none does.
abbrev pub first : List Clause → ℕ
first [] = 0
first (c ∷ cs) = cond c.applies c.number (first cs)

-- The first number, or the second where the first is 0.
abbrev pub or_else : ℕ → ℕ → ℕ
or_else zero second = second
or_else (suc k) second = suc k

-- What an entry answers: the number of the refusal, or what it gives.
pub data Outcome {ℓ} (A : Type ℓ) : Type ℓ where
  refusal : ℕ → Outcome A
  gives : A → Outcome A

-- The refusal with this number, or what is given where the number is 0.
unfoldable pub outcome {ℓ} : {A : Type ℓ} → ℕ → A → Outcome A
outcome zero x = gives x
outcome (suc k) x = refusal (suc k)

-- The number of an outcome's refusal, 0 where there is none.
unfoldable pub refusalOf {ℓ} : {A : Type ℓ} → Outcome A → ℕ
refusalOf (refusal k) = k
refusalOf (gives x) = 0
