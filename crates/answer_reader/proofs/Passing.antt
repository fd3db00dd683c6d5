-- The tests of form as the code makes them, element by element, and the elements of runs in bytes.
use Rattle.std.proofs.Common.{◌≡◌, ℕ, zero, suc, ◌+◌, ◌*◌, ◌<◌, Bool, ◌&&◌, List, [], ◌∷◌, map, length, get_or, refl, sym, ap, ne_eqb, arith}
use Rattle.std.specs.List.{list_all, enumerate_from}
use lib.ListN.{length-map, get_or-map}
use Rattle.definitions.specs.Limits.{stamp_limit, short_bytes, signed_bytes, answer_header}
use Rattle.definitions.specs.Tropical.{bot}
use Rattle.definitions.specs.Bytes.{num_at, nums_at, all, blank_or_within}
use Rattle.definitions.specs.Offset.{trop_of, off}
use Rattle.definitions.specs.AnswerRecord.{is_zero, stamps_fit}
use Rattle.definitions.proofs.Bytes.{get_d_nums_at, length_nums_at}
use Rattle.definitions.proofs.Offset.{trop_zero}
use Rattle.answer_reader.specs.Fields.{stamps_at, picks_at, stamp_fits}

-- What the library's test of every element says is what the definitions' does.
pub all_listed : {A : Type 0} (test : A → Bool) (xs : List A) → list_all test xs ≡ all test xs
unfolding all
all_listed test [] = refl
all_listed test (x ∷ xs) = ap (λ (b : Bool). test x && b) (all_listed test xs)

-- Stamp i, by its place and offset number.
abbrev pub numbered_fits : ℕ × ℕ → Bool
numbered_fits p = stamp_fits p.0 (trop_of p.1)

-- The stamps behind the first are blank or within their limit.
others_fit : (j : ℕ) (xs : List ℕ) → list_all numbered_fits (enumerate_from (j + 1) xs) ≡ all (blank_or_within stamp_limit) (map trop_of xs)
unfolding all stamp_fits
others_fit j [] = refl
others_fit j (x ∷ xs) = rw (ne_eqb (j + 1) 0 (omega arith)) (ap (λ (b : Bool). blank_or_within stamp_limit (trop_of x) && b) (others_fit (j + 1) xs))

-- The stamps fit exactly when each has the form of its place.
pub stamps_listed : (xs : List ℕ) → list_all numbered_fits (enumerate_from 0 xs) ≡ stamps_fit (map trop_of xs)
unfolding stamps_fit stamp_fits
stamps_listed [] = refl
stamps_listed (x ∷ xs) = ap (λ (b : Bool). is_zero (trop_of x) && b) (others_fit 0 xs)

-- What stands at a place of the stamps.
pub trop_at_lem : (xs : List ℕ) (k : ℕ) → get_or (map trop_of xs) k bot ≡ trop_of (get_or xs k 0)
trop_at_lem xs k = rw (← trop_zero) (get_or-map trop_of xs k 0)

-- ---- runs in bytes

pub stamps_at_length : (s : List ℕ) (count : ℕ) → length (stamps_at s count) ≡ count
unfolding stamps_at
stamps_at_length s count = rw (length-map, length_nums_at)

pub picks_at_length : (s : List ℕ) (stamps count : ℕ) → length (picks_at s stamps count) ≡ count
unfolding picks_at
picks_at_length s stamps count = length_nums_at short_bytes count s (answer_header + signed_bytes * stamps)

-- An element of a list that was made by a function.
pub map_at : (f : ℕ → ℕ) (xs : List ℕ) (i : ℕ) → i < length xs → get_or (map f xs) i 0 ≡ f (get_or xs i 0)
map_at f [] i h = absurd (omega arith)
map_at f (x ∷ xs) zero h = refl
map_at f (x ∷ xs) (suc i) h = map_at f xs i (omega arith)

pub stamps_at_at : (s : List ℕ) (count i : ℕ) → i < count → off (num_at signed_bytes s (answer_header + signed_bytes * i)) ≡ get_or (stamps_at s count) i 0
unfolding stamps_at
stamps_at_at s count i h =
    rw (map_at off (nums_at signed_bytes count s answer_header) i (rw length_nums_at h), get_d_nums_at signed_bytes count s answer_header i h)

pub picks_at_at : (s : List ℕ) (stamps count i : ℕ) → i < count → num_at short_bytes s (answer_header + signed_bytes * stamps + short_bytes * i) ≡ get_or (picks_at s stamps count) i 0
unfolding picks_at
picks_at_at s stamps count i h = sym (get_d_nums_at short_bytes count s (answer_header + signed_bytes * stamps) i h)
