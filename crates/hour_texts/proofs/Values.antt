-- A value from what was read: zero or above, or behind a hyphen; and every other string is no value's text.
use Prim.Native.Nat.{ℕ, zero, suc, ◌+◌, ◌-◌, ◌≤◌, ◌<◌}
use mathlib.Core.Path.{◌≡◌, refl, ap}
use mathlib.Core.List.{List, [], ◌∷◌}
use native.Mathlib.Omega.{arith}
use lib.ListN.{length, get_or}
use lib.IntN.{pos, negsuc}
use Rattle.definitions.specs.Limits.{text_limit, text_most, signed_half}
use Rattle.definitions.specs.Tropical.{Trop}
use Rattle.definitions.specs.Offset.{trop_of}
use Rattle.definitions.specs.Hours.{hyphen, no_text, Clock, HoursText, blank, plain, minus, ReadsHours, read, value, refused}
use Rattle.definitions.proofs.Offset.{trop_zero, trop_show}
use Rattle.definitions.proofs.Hours.{clock_tells, clock_first, clock_length, text_is, text_within, text_short}

-- ---- texts that do not begin with a hyphen

-- Such a text says minutes within the limit.
record Plain (s : List ℕ) : Type 0 where
  k : ℕ
  within : k ≤ text_limit
  clock : Clock k s

plain_only : {v : Trop} {s : List ℕ} → HoursText v s → (get_or s 0 0 ≡ hyphen → ⊥) → Plain s
plain_only blank n = absurd (n refl)
plain_only (plain h c) n = record { k = _; within = h; clock = c }
plain_only (minus h c) n = absurd (n refl)

-- No minutes.
pub plain_none : {s : List ℕ} → ((k : ℕ) → Clock k s → ⊥) → (get_or s 0 0 ≡ hyphen → ⊥) → ReadsHours s (refused no_text)
plain_none m n = ReadsHours.turned_away (λ v t. let p = plain_only t n in m p.k p.clock)

-- Beyond the limit.
pub plain_beyond : {s : List ℕ} {k : ℕ} → Clock k s → text_limit < k → (get_or s 0 0 ≡ hyphen → ⊥) → ReadsHours s (refused no_text)
plain_beyond c l n = ReadsHours.turned_away (λ v t. let p = plain_only t n in omega (arith, p.within, clock_tells c p.clock))

-- Within it.
pub plain_value : {s : List ℕ} {k : ℕ} → Clock k s → k ≤ text_limit → ReadsHours s (value (trop_of (signed_half + k)))
plain_value {k = k} c h = rw (trop_show (signed_half + k) (pos k) (omega arith) (omega arith)) (read (plain h c))

-- ---- what follows a hyphen

-- Another hyphen, or minutes above zero and within the limit.
data Behind (rest : List ℕ) : Type 0 where
  again : rest ≡ hyphen ∷ [] → Behind rest
  below : (k : ℕ) → 0 < k → k ≤ text_limit → Clock k rest → Behind rest

-- There is nothing else.
behind : {v : Trop} {rest : List ℕ} → HoursText v (hyphen ∷ rest) → Behind rest
behind blank = again refl
behind (plain h c) = absurd (omega (arith, clock_first c))
behind (minus {k = k} h c) = below (suc k) (omega arith) h c

-- Where it is neither, the string is no value's text.
behind_refused : {rest : List ℕ} → (Behind rest → ⊥) → ReadsHours (hyphen ∷ rest) (refused no_text)
behind_refused n = ReadsHours.turned_away (λ v t. n (behind t))

-- No minutes.
pub behind_none : {rest : List ℕ} → ((k : ℕ) → Clock k rest → ⊥) → (length rest ≡ 1 → get_or rest 0 0 ≡ hyphen → ⊥) → ReadsHours (hyphen ∷ rest) (refused no_text)
behind_none {rest} m n = behind_refused no
  where
    no : Behind rest → ⊥
    no (again e) = n (ap length e) (ap (λ (t : List ℕ). get_or t 0 0) e)
    no (below k p h c) = m k c

-- Minus zero, or beyond the limit.
pub behind_outside : {rest : List ℕ} {k : ℕ} → Clock k rest → (0 < k → k ≤ text_limit → ⊥) → ReadsHours (hyphen ∷ rest) (refused no_text)
behind_outside {rest} {k} d m = behind_refused no
  where
    no : Behind rest → ⊥
    no (again e) = omega (arith, ap length e, clock_length d)
    no (below j p h c) = let e : j ≡ k = clock_tells c d in m (omega arith) (omega arith)

-- Minutes above zero and within the limit.
pub behind_value : {rest : List ℕ} {k : ℕ} → Clock k rest → (k ≡ 0 → ⊥) → k ≤ text_limit → ReadsHours (hyphen ∷ rest) (value (trop_of (signed_half - k)))
behind_value {k = zero} c n h = absurd (n refl)
behind_value {k = suc k} c n h = rw (trop_show (signed_half - suc k) (negsuc k) (omega arith) (omega arith)) (read (minus h c))

-- ---- every string

-- No text has more than 10 bytes.
pub long_none : {s : List ℕ} → text_most < length s → ReadsHours s (refused no_text)
long_none {s} l = ReadsHours.turned_away (λ v t. omega (arith, text_short v (text_within t), ap length (text_is t)))

-- Two hyphens are the text of blank.
pub blank_text : (s : List ℕ) → length s ≡ 2 → get_or s 0 0 ≡ hyphen → get_or s 1 0 ≡ hyphen → ReadsHours s (value (trop_of 0))
blank_text [] l e f = absurd (omega arith)
blank_text (x ∷ []) l e f = absurd (omega arith)
blank_text (x ∷ y ∷ []) l e f = rw (e, f, trop_zero) (read blank)
blank_text (x ∷ y ∷ z ∷ s) l e f = absurd (omega arith)
