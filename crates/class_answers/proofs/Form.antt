-- The form of an answer cut from arrays: counts, stamps and picks; and the point and the strategy that it means.
use Prim.Native.Nat.{ℕ, suc, ◌≤◌, ◌<◌}
use mathlib.Core.Path.{◌≡◌, refl, sym, ap, fun_ext, ◌∙◌}
use mathlib.Core.Bool.{Bool, true, and-eq-true_iff}
use mathlib.Core.Logic.{⊎_elim}
use mathlib.Core.List.{List, [], ◌∷◌, map}
use native.Mathlib.Omega.{arith}
use lib.Dec.{eqb, leb}
use lib.ListN.{length, get_or, take, length-map, get_or-map, get_or-eq_default}
use lib.Seq.{length-take-le, get_or-take}
use borrow.Author.Tests.{le-leb, eq-eqb}
use Rattle.base.proofs.Numbers.{nat_le_or_lt}
use Rattle.definitions.specs.Tropical.{Trop, bot}
use Rattle.definitions.specs.Limits.{stamp_limit}
use Rattle.definitions.specs.Offset.{trop_of}
use Rattle.definitions.specs.Bytes.{all, blank_or_within}
use Rattle.definitions.specs.AnswerRecord.{is_zero, stamps_fit, picks_fit}
use Rattle.definitions.specs.Verdict.{point_of, strategy_of}
use Rattle.definitions.proofs.Offset.{trop_zero}
use Rattle.policy_iteration.specs.Tables as Tables
use Rattle.policy_iteration.specs.Tables.{pick_of}

-- ---- a list cut where only zeros follow

pub cut_at : (k : ℕ) (xs : List ℕ) → k ≤ length xs → ((j : ℕ) → k ≤ j → get_or xs j 0 ≡ 0) → (j : ℕ) → get_or (take k xs) j 0 ≡ get_or xs j 0
cut_at k xs h z j = ⊎_elim
    (λ (l : k ≤ j). get_or-eq_default (take k xs) 0 (omega (arith, length-take-le k xs h)) ∙ sym (z j l))
    (λ (l : j < k). get_or-take k xs j 0 l)
    (nat_le_or_lt k j)

-- The strategy of the picks so cut is that of the array.
pub cut_strategy : (k : ℕ) (picks : List ℕ) → k ≤ length picks → ((j : ℕ) → k ≤ j → get_or picks j 0 ≡ 0) → strategy_of (take k picks) ≡ pick_of picks
unfolding strategy_of
cut_strategy k picks h z = fun_ext (cut_at k picks h z)

-- The point of the stamps so cut is that of the array.
pub cut_point : (k : ℕ) (stamps : List ℕ) → k ≤ length stamps → ((j : ℕ) → k ≤ j → get_or stamps j 0 ≡ 0)
    → point_of (map trop_of (take k stamps)) ≡ Tables.point_of stamps
unfolding point_of
cut_point k stamps h z = fun_ext (λ j. read j ∙ ap trop_of (cut_at k stamps h z j))
  where
    read : (j : ℕ) → get_or (map trop_of (take k stamps)) j bot ≡ trop_of (get_or (take k stamps) j 0)
    read j = rw (← trop_zero) (get_or-map trop_of (take k stamps) j 0)

-- ---- form

all_of : {A : Type 0} (test : A → Bool) (d : A) (xs : List A) → ((k : ℕ) → test (get_or xs k d) ≡ true) → all test xs ≡ true
unfolding all
all_of test d [] h = refl
all_of test d (x ∷ xs) h = (and-eq-true_iff (test x) (all test xs)).1 (h 0, all_of test d xs (λ k. h (suc k)))

-- No pick is above the highest.
pub picks_fit_lem : (highest : ℕ) (picks : List ℕ) → ((j : ℕ) → get_or picks j 0 ≤ highest) → picks_fit highest picks ≡ true
unfolding picks_fit
picks_fit_lem highest picks h = all_of (λ pick. leb pick highest) 0 picks (λ k. le-leb _ highest (h k))

-- Stamp 0 is 0 and the others are blank or within their limit.
pub stamps_fit_lem : (stamps : List Trop) → is_zero (get_or stamps 0 bot) ≡ true → ((k : ℕ) → blank_or_within stamp_limit (get_or stamps k bot) ≡ true)
    → stamps_fit stamps ≡ true
unfolding stamps_fit
stamps_fit_lem [] z h = refl
stamps_fit_lem (x ∷ xs) z h = (and-eq-true_iff (is_zero x) (all (blank_or_within stamp_limit) xs)).1 (z, all_of (blank_or_within stamp_limit) bot xs (λ k. h (suc k)))

pub no_stamps_fit : stamps_fit [] ≡ true
unfolding stamps_fit
no_stamps_fit = refl

-- The counts of a cut.
pub cut_count : (k : ℕ) (xs : List ℕ) → k ≤ length xs → eqb (length (take k xs)) k ≡ true
cut_count k xs h = eq-eqb _ k (length-take-le k xs h)

pub cut_count_map : (k : ℕ) (xs : List ℕ) → k ≤ length xs → eqb (length (map trop_of (take k xs))) k ≡ true
cut_count_map k xs h = eq-eqb _ k (length-map (take k xs) trop_of ∙ length-take-le k xs h)
