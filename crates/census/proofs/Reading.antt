-- A word read as a number, as far as 65,536; and what three words show.
use Prim.Native.Nat.{ℕ, ◌+◌, ◌*◌, ◌-◌, ◌≤◌, ◌<◌}
use mathlib.Core.Path.{◌≡◌, refl, ap, sym, ◌∙◌}
use mathlib.Core.Bool.{Bool, true, false, false≢true, and-eq-true_iff}
use mathlib.Core.List.{List, [], ◌∷◌, ◌++◌}
use native.Mathlib.Omega.{arith}
use native.Mathlib.Numerals.{add-one}
use lib.Dec.{leb}
use lib.ListN.{length, get_or, take}
use lib.Seq.{take-suc, take_all}
use borrow.Author.Tests.{leb-true}
use Rattle.base.proofs.Numbers.{one_more}
use Rattle.definitions.specs.Bytes.{all}
use Rattle.definitions.specs.Census.{is_digit, is_number, number_from, number_of, CensusOutput, Censuses}
use Rattle.definitions.proofs.Bytes.{all_true}
use Rattle.counting.proofs.Totals.{census_capped}
use Rattle.std.specs.Prelude.{Option, None, Some}
use Rattle.std.specs.Char.{is_ascii_digit}
use Rattle.census.specs.Words.{up_to, WordRead, number, other, put_out, Answered, numbers, others}

-- ---- digits

-- A byte is a digit by the library's test just where it is one.
pub digit_is : (d : ℕ) → is_digit d ≡ is_ascii_digit d
unfolding is_digit
digit_is d = refl

-- A digit lies between.
pub digit_range : (d : ℕ) → is_digit d ≡ true → (48 ≤ d) × (d < 58)
unfolding is_digit
digit_range d e =
    let both = (and-eq-true_iff (leb 48 d) (leb d 57)).0 e in
    (leb-true 48 d both.0, omega (arith, leb-true d 57 both.1))

-- ---- a word's digits one after another

-- So many are read.
pub record ReadSo (word : List ℕ) (i value : ℕ) : Type 0 where
  pub digits : (j : ℕ) → j < i → is_digit (get_or word j 0) ≡ true
  pub value_is : value ≡ up_to (number_of (take i word))

pub read_none : (word : List ℕ) → ReadSo word 0 0
unfolding number_from
read_none word = record { digits = λ j h. absurd (omega arith); value_is = refl }

number_more : (before : ℕ) (xs : List ℕ) (d : ℕ) → number_from before (xs ++ (d ∷ [])) ≡ 10 * number_from before xs + (d - 48)
unfolding number_from
number_more before [] d = refl
number_more before (x ∷ xs) d = number_more (10 * before + (x - 48)) xs d

up_to_more : (x d : ℕ) → up_to (10 * up_to x + d) ≡ up_to (10 * x + d)
up_to_more x d = omega arith

pub read_more : {word : List ℕ} {i value after : ℕ} → ReadSo word i value → i < length word → is_digit (get_or word i 0) ≡ true
    → after ≡ up_to (10 * value + (get_or word i 0 - 48)) → ReadSo word (i + 1) after
read_more {word} {i} {value} r h d e =
    let next : number_of (take (i + 1) word) ≡ 10 * number_of (take i word) + (get_or word i 0 - 48) =
    rw (add-one i, take-suc word i 0 h) (number_more 0 (take i word) (get_or word i 0)) in
    record {
      digits = one_more i r.digits d;
      value_is = e ∙ rw (r.value_is, up_to_more (number_of (take i word)) (get_or word i 0 - 48), next) refl;
    }

-- All are digits.
is_number_all : (word : List ℕ) → 0 < length word → is_number word ≡ all is_digit word
unfolding is_number
is_number_all [] h = absurd (omega arith)
is_number_all (d ∷ ds) h = refl

pub read_number : {word : List ℕ} {i value : ℕ} → ReadSo word i value → 0 < length word → length word ≤ i → i ≤ length word → WordRead word (Some value)
read_number {word} {i} {value} r h g b =
    let is : value ≡ up_to (number_of word) = r.value_is ∙ ap (λ (s : List ℕ). up_to (number_of s)) (take_all i word g) in
    rw is (number (is_number_all word h ∙ (all_true is_digit 0 word).1 (λ j l. r.digits j (omega arith))))

-- One is not.
pub read_other : (word : List ℕ) (i : ℕ) → i < length word → is_digit (get_or word i 0) ≡ false → is_number word ≡ false
read_other word i h e = go (is_number word) refl
  where
    go : (t : Bool) → is_number word ≡ t → t ≡ false
    go false f = refl
    go true f = absurd (false≢true (sym e ∙ (all_true is_digit 0 word).0 (sym (is_number_all word (omega arith)) ∙ f) i h))

pub read_empty : (word : List ℕ) → length word ≡ 0 → is_number word ≡ false
unfolding is_number
read_empty [] h = refl
read_empty (d ∷ ds) h = absurd (omega arith)

-- ---- three words

pub told_number : {word : List ℕ} {r : Option ℕ} {k : ℕ} → WordRead word r → r ≡ Some k → (is_number word ≡ true) × (k ≡ up_to (number_of word))
told_number (number h) e = (h, cc)
told_number (other h) e = absurd (let z : ◌≡◌ {A = ℕ} 0 1 = cc in omega arith)

pub told_other : {word : List ℕ} {r : Option ℕ} → WordRead word r → r ≡ None → is_number word ≡ false
told_other (number h) e = absurd (let z : ◌≡◌ {A = ℕ} 0 1 = cc in omega arith)
told_other (other h) e = h

pub three_numbers : {first second third : List ℕ} {a b c : ℕ} {output : List ℕ} → (is_number first ≡ true) × (a ≡ up_to (number_of first)) → (is_number second ≡ true) × (b ≡ up_to (number_of second))
    → (is_number third ≡ true) × (c ≡ up_to (number_of third)) → CensusOutput a b c output → Answered first second third output
three_numbers {first} {second} {third} {output = output} (x, e) (y, f) (z, g) o =
    let is : Censuses (up_to (number_of first)) (up_to (number_of second)) (up_to (number_of third)) o.census = rw (← e, ← f, ← g) o.is in
    numbers x y z (record { census = o.census; is = census_capped (number_of first) (number_of second) (number_of third) is; line = o.line })

-- None puts nothing out.
pub nothing_out : {first second third : List ℕ} (line : List ℕ) {r : Option ℕ} → r ≡ None → Answered first second third [] → Answered first second third (put_out r line)
nothing_out line e a = rw e a

pub first_other : {first second third : List ℕ} → is_number first ≡ false → Answered first second third []
first_other e = others (rw e refl)

pub second_other : {first second third : List ℕ} → is_number first ≡ true → is_number second ≡ false → Answered first second third []
second_other e f = others (rw (e, f) refl)

pub third_other : {first second third : List ℕ} → is_number first ≡ true → is_number second ≡ true → is_number third ≡ false → Answered first second third []
third_other e f g = others (rw (e, f, g) refl)
