-- The problems in the memory: one that is copied to its place stands there, and those of the other places stay.
use Prim.Native.Nat.{ℕ, suc, ◌+◌, ◌*◌, ◌-◌, ◌≤◌, ◌<◌}
use mathlib.Core.Path.{◌≡◌, refl, sym, subst, ◌∙◌}
use mathlib.Core.Logic.{⊎_elim}
use mathlib.Core.List.{List, [], ◌∷◌, ◌++◌}
use native.Mathlib.Omega.{arith}
use native.Mathlib.Nat.{mul-le-mul_left, mul-le-mul_right}
use lib.ListN.{length, get_or, take, drop, get_or-append, get_or-eq_default}
use borrow.Rule.Slice.PartMut.{put_mid}
use lib.Seq.{drop-drop, ext_get_or, get_or-take, take-append_seam, drop_at, length-take-le}
use Rattle.base.proofs.Numbers.{nat_le_or_lt}
use Rattle.definitions.specs.Limits.{desk_places, desk_memory, problem_most}
use Rattle.definitions.specs.Bytes.{Bytes, put}
use Rattle.definitions.specs.ProblemRecord.{problem_size, meant}
use Rattle.definitions.specs.Desk.{WithinDesk}
use Rattle.definitions.specs.Questions.{part}
use Rattle.definitions.proofs.Put.{drop_put, length_put}
use Rattle.definitions.proofs.Questions.{part_length, part_at}
use Rattle.definitions.proofs.Layouts.{plain_desk}
use Rattle.engine.specs.declared.one_trial.Pending.{Pending}
use Rattle.engine.specs.OneTrial.{TrialFor}
use Rattle.desk.specs.State.{bytes_at}

-- What a list with values put holds at them, before them and after them.
module _ (l : List ℕ) (at : ℕ) (vs : List ℕ) (inside : at + length vs ≤ length l) where
  pub part_put : (n : ℕ) → n ≡ length vs → part (put l at vs) at n ≡ vs
  unfolding put
  part_put n e = rw (e, drop_at (take at l) (vs ++ drop (at + length vs) l) at (length-take-le at l (omega arith)), take-append_seam) refl

  before_at : (k : ℕ) → k < at → get_or (put l at vs) k 0 ≡ get_or l k 0
  unfolding put
  before_at k h = get_or-append (take at l) (vs ++ drop (at + length vs) l) 0 k (omega (arith, length-take-le at l (omega arith))) ∙ get_or-take at l k 0 h

  pub part_before : (from size : ℕ) → from + size ≤ at → part (put l at vs) from size ≡ part l from size
  part_before from size h =
      let long = length_put l at vs (omega arith) inside in
      let new = part_length (put l at vs) from size (omega arith) in
      ext_get_or 0 (part (put l at vs) from size) (part l from size) (new ∙ sym (part_length l from size (omega arith)))
      (λ k b. part_at (put l at vs) from size k (omega arith) ∙ before_at (from + k) (omega arith) ∙ sym (part_at l from size k (omega arith)))

  pub part_after : (from size : ℕ) → at + length vs ≤ from → part (put l at vs) from size ≡ part l from size
  part_after from size h = rw (drop_put l at vs (omega arith) from h) refl

module _ (memory p : List ℕ) (i : ℕ) (enough : desk_memory ≤ length memory) (inside : i < desk_places) (short : length p ≤ problem_most) where
  -- The problem stands at its place.
  pub kept_here : bytes_at (put memory (i * problem_most) p) i (length p) ≡ p
  kept_here = part_put memory (i * problem_most) p (omega arith) (length p) refl

  -- The others stay.
  pub kept_there : (k size : ℕ) → (k ≡ i → ⊥) → size ≤ problem_most → bytes_at (put memory (i * problem_most) p) k size ≡ bytes_at memory k size
  kept_there k size d t = ⊎_elim
      (λ (g : suc i ≤ k). part_after memory (i * problem_most) p (omega arith) (k * problem_most) size (omega arith))
      (λ (g : k < suc i). part_before memory (i * problem_most) p (omega arith) (k * problem_most) size (before (omega arith)))
      (nat_le_or_lt (suc i) k)
    where
      before : k < i → k * problem_most + size ≤ i * problem_most
      before g = omega arith

-- A problem that nothing refuses fits its place.
pub fits_place : (p : List ℕ) → WithinDesk (meant p) → length p ≤ problem_most
fits_place [] w = omega arith
fits_place (b ∷ s) w = let f = plain_desk (b ∷ s) w in size_small f.size_is f.n_most f.m_most
  where
    size_small : {n m : ℕ} → length (b ∷ s) ≡ problem_size n m → n ≤ 31 → m ≤ 63 → length (b ∷ s) ≤ problem_most
    size_small {n} {m} e h g =
        let wide = mul-le-mul_right {m = suc n} {n = 32} (suc m) (omega arith) in
        let high = mul-le-mul_left {m = suc m} {n = 64} 32 (omega arith) in
        omega (arith, wide, high)

-- The bytes of a part are bytes.
pub part_bytes : (memory : List ℕ) (from size : ℕ) → Bytes memory → from + size ≤ length memory → Bytes (part memory from size)
part_bytes memory from size b h = record {
  byte = λ k. ⊎_elim
      (λ (l : size ≤ k). let z : get_or (part memory from size) k 0 ≡ 0 = get_or-eq_default (part memory from size) 0 (omega (arith, part_length memory from size h)) in omega arith)
      (λ (l : k < size). rw (part_at memory from size k l) (b.byte (from + k)))
      (nat_le_or_lt size k);
}

-- ---- what is copied

-- Values that are copied to a place are put there.
pub copied_put : (l : List ℕ) (at n : ℕ) (vs : List ℕ) → n ≡ length vs → put_mid at n l vs ≡ put l at vs
unfolding put
copied_put l at n vs e = rw (e, drop-drop) refl

-- The part of the memory up to its end.
pub part_end : (memory : List ℕ) (from size : ℕ) → take (from + size - from) (drop from memory) ≡ part memory from size
part_end memory from size = let e : from + size - from ≡ size = omega arith in rw e refl

pub trial_part : (memory : List ℕ) (from size : ℕ) {p r : Pending} → TrialFor (meant (take (from + size - from) (drop from memory))) p r
    → TrialFor (meant (part memory from size)) p r
trial_part memory from size {p} {r} t = subst (λ (z : List ℕ). TrialFor (meant z) p r) (part_end memory from size) t
