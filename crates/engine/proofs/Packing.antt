-- Laws of cells: what is packed is found again.
use Prim.Native.Nat.{ℕ, ◌+◌, ◌*◌, ◌-◌, ◌≤◌, ◌<◌}
use mathlib.Core.Path.{◌≡◌, sym, subst, ◌∙◌}
use mathlib.Core.Logic.{⊎_elim}
use mathlib.Core.List.{List}
use native.Mathlib.Omega.{arith}
use lib.ListN.{get_or}
use lib.Seq.{ext_get_or}
use borrow.Author.Tests.{lt-ltb, le-ltb}
use Rattle.base.specs.Filled.{Filled}
use Rattle.base.proofs.Numbers.{nat_le_or_lt}
use Rattle.definitions.specs.Limits.{signed_full}
use Rattle.engine.specs.Packing.{most_picks, stamp_in, pick_in, far_pick_in, pick_at, Packed, Packable, PackedCells}

-- One cell.
pub packed : (stamp pick far : ℕ) → stamp < signed_full → pick < most_picks → Packed stamp pick far (stamp + signed_full * (pick + most_picks * far))
packed stamp pick far h k = record { stamp_is = omega arith; pick_is = omega arith; far_is = omega arith }

-- The pick at a place.
pub near_pick : (cells : List ℕ) (k : ℕ) → k < 32 → pick_in (get_or cells k 0) ≡ pick_at cells k
unfolding pick_at
near_pick cells k h = rw (lt-ltb k 32 h)

pub far_pick : (cells : List ℕ) (k : ℕ) → 32 ≤ k → far_pick_in (get_or cells (k - 32) 0) ≡ pick_at cells k
unfolding pick_at
far_pick cells k h = rw (le-ltb k 32 h)

module _ {stamps picks cells : List ℕ} (a : Packable stamps picks) (p : PackedCells stamps picks 32 cells) where
  -- The stamps are found again,
  pub stamps_back : {r : List ℕ} → Filled (λ j v. v ≡ stamp_in (get_or cells j 0)) 32 32 r → r ≡ stamps
  stamps_back {r} f = ext_get_or 0 r stamps (f.size_is ∙ sym a.stamps_size)
      (λ j h. let b : j < 32 = omega (arith, f.size_is) in f.each j b ∙ (p.each j b).stamp_is)

  -- and the picks.
  pub picks_back : {r : List ℕ} → Filled (λ k v. v ≡ pick_at cells k) 64 64 r → r ≡ picks
  picks_back {r} f = ext_get_or 0 r picks (f.size_is ∙ sym a.picks_size) (λ k h. f.each k (omega (arith, f.size_is)) ∙ at k (omega (arith, f.size_is)))
    where
      at : (k : ℕ) → k < 64 → pick_at cells k ≡ get_or picks k 0
      at k b = ⊎_elim
          (λ (h : 32 ≤ k).
          let e : k - 32 + 32 ≡ k = omega arith in
          sym (far_pick cells k h) ∙ subst (λ (i : ℕ). far_pick_in (get_or cells (k - 32) 0) ≡ get_or picks i 0) e (p.each (k - 32) (omega arith)).far_is)
          (λ (h : k < 32). sym (near_pick cells k h) ∙ (p.each k h).pick_is)
          (nat_le_or_lt 32 k)
