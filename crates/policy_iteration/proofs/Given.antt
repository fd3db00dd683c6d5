-- What a row gives a variable: where that is lower than the variable's own value the row fails, else it stands.
use Prim.Native.Nat.{ℕ, ◌+◌, ◌-◌, ◌≤◌, ◌<◌}
use mathlib.Core.Path.{◌≡◌, sym, subst}
use mathlib.Core.Logic.{⊎_elim}
use native.Mathlib.Omega.{arith}
use native.Mathlib.Nat.{eq-zero-or-pos}
use lib.IntN.{sub_ℕ}
use Rattle.definitions.specs.Limits.{signed_half, lead_limit}
use Rattle.definitions.specs.Tropical.{Trop, plus, ◌⊑◌, blank_least}
use Rattle.definitions.specs.Offset.{trop_of}
use Rattle.definitions.proofs.Tropical.{⊑_refl, plus_mono, plus_cancel_left}
use Rattle.definitions.proofs.Offset.{trop_fin, trop_order, plus_trop_zero}
use Rattle.duality.proofs.Weights.{difference_whole}
use Rattle.records.specs.Decoded.{Near}
use Rattle.policy_iteration.specs.Tables.{value_limit, side_least, high}
use Rattle.policy_iteration.specs.Steps.{Gives, blank_top}
use Rattle.policy_iteration.proofs.Low.{high_whole, high_mono, high_strict}
use Rattle.policy_iteration.proofs.Rounds.{given_blank_side, given_whole}

-- A blank right side.
pub gives_blank : Gives 0 blank_top
gives_blank = record {
  is = λ left n p. let e : blank_top - left ≡ 0 = omega (arith, n.lo p) in rw e (given_blank_side left);
  above = omega arith;
}

-- A whole right side.
pub gives_whole : (side : ℕ) → side_least ≤ side → Gives side (side + signed_half)
gives_whole side k = record { is = λ left n p. given_whole side left k p n.hi; above = omega arith }

module _ (side top : ℕ) (g : Gives side top) (left v : ℕ) (n : Near lead_limit left) (m : Near value_limit (high v)) where
  -- A row that gives less holds the variable,
  pub gives_held : top - left < v → 0 < left
  gives_held h = ⊎_elim
      (λ (z : left ≡ 0). absurd (omega (arith, g.above, high_whole v (omega (arith, g.above)), m.hi)))
      (λ p. p)
      (eq-zero-or-pos left)

  back : 0 < left → plus (trop_of left) (trop_of (high (top - left))) ≡ trop_of (high side)
  back p = rw (g.is left n p, trop_fin left p) (difference_whole (trop_of (high side)) (sub_ℕ left signed_half))

  -- and fails there;
  pub gives_fails : top - left < v → (plus (trop_of left) (trop_of (high v)) ⊑ trop_of (high side)) → ⊥
  gives_fails h a =
      let p = gives_held h in
      let b = subst (λ (z : Trop). plus (trop_of left) (trop_of (high v)) ⊑ z) (sym (back p)) a in
      omega (arith, high_strict _ _ h, (trop_order (high v) (high (top - left))).0 (plus_cancel_left (sub_ℕ left signed_half) (rw (trop_fin left p) at b)))

  -- one that does not, stands.
  pub gives_stands : v ≤ top - left → plus (trop_of left) (trop_of (high v)) ⊑ trop_of (high side)
  gives_stands h = ⊎_elim
      (λ (z : left ≡ 0). rw (z, (plus_trop_zero (trop_of (high v))).0) blank_least)
      (λ p. subst (λ (z : Trop). plus (trop_of left) (trop_of (high v)) ⊑ z) (back p) (plus_mono (⊑_refl (trop_of left)) ((trop_order _ _).1 (high_mono _ _ h))))
      (eq-zero-or-pos left)
