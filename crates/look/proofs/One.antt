-- A look is one: two looks at the same tables have the same second side, the same start and the same picks.
use Prim.Native.Nat.{ℕ, ◌+◌, ◌*◌, ◌-◌, ◌≤◌, ◌<◌}
use mathlib.Core.Path.{◌≡◌, sym, ap, subst, ◌∙◌}
use mathlib.Core.Logic.{⊎_elim}
use mathlib.Core.List.{List}
use native.Mathlib.Omega.{arith}
use native.Mathlib.Nat.{eq-zero-or-pos}
use Rattle.base.proofs.Lists.{lists_same, filled_one}
use Rattle.base.proofs.Numbers.{nat_le_or_lt}
use Rattle.definitions.proofs.Tropical.{bot_not_fin}
use Rattle.definitions.proofs.Offset.{trop_fin, trop_of_injective}
use Rattle.duality.proofs.Iteration.{side_same, values_same, iterated_one}
use Rattle.policy_iteration.specs.Tables.{entry_of, pick_of}
use Rattle.look.specs.declared.greatest.Look.{Look}
use Rattle.look.specs.Frames.{Raised}
use Rattle.look.specs.Look.{start_for, rules_in, second_in, found_values, Under, Looks}
use Rattle.look.specs.Point.{rows_in, PointFor}
use Rattle.look.specs.SecondList.{SecondIs}

-- The same look, as far as an answer depends on it.
pub record SameLook (n : ℕ) (g h : Look) : Type 0 where
  pub second : g.second ≡ h.second
  pub start : g.start ≡ h.start
  pub picks : (j : ℕ) → j < n + 1 → pick_of g.picks j ≡ pick_of h.picks j

-- Under the same caps.
module _ {n m : ℕ} {left right caps : List ℕ} {g h : Look} (u : Under n m left right caps g) (v : Under n m left right caps h) where
  picks_one : (j : ℕ) → j < n + 1 → pick_of g.picks j ≡ pick_of h.picks j
  picks_one j b = iterated_one (rules_in n m left right caps) (omega arith) u.iterated v.iterated j b

  value_one : found_values n m left right caps g 0 ≡ found_values n m left right caps h 0
  value_one = values_same (rules_in n m left right caps) picks_one 0 (omega arith)

  side_one : second_in n m left right caps (found_values n m left right caps g) ≡ second_in n m left right caps (found_values n m left right caps h)
  side_one = side_same (rules_in n m left right caps) (entry_of right m) (values_same (rules_in n m left right caps) picks_one)

-- A blank second side is not also told.
blank_not_whole : {n m : ℕ} {left right caps : List ℕ} {g h : Look} → Under n m left right caps g → Under n m left right caps h → g.second ≡ 0 → 0 < h.second → ⊥
blank_not_whole {h = h} u v e b = ⊎_elim
    (λ z. v.whole_anchor b (sym (value_one u v) ∙ z.1))
    (λ z. bot_not_fin (sym z.1 ∙ side_one u v ∙ sym (v.whole_second b) ∙ trop_fin h.second b))
    (u.blank e)

under_one : {n m : ℕ} {left right caps : List ℕ} {g h : Look} → Under n m left right caps g → Under n m left right caps h → SameLook n g h
under_one {m = m} {right = right} {g = g} {h} u v = record { second = second; start = start; picks = picks_one u v }
  where
    second : g.second ≡ h.second
    second = ⊎_elim
        (λ (e : g.second ≡ 0). ⊎_elim (λ (f : h.second ≡ 0). e ∙ sym f) (λ (b : 0 < h.second). absurd (blank_not_whole u v e b)) (eq-zero-or-pos h.second))
        (λ (a : 0 < g.second). ⊎_elim
        (λ (f : h.second ≡ 0). absurd (blank_not_whole v u f a))
        (λ (b : 0 < h.second). trop_of_injective g.second h.second (u.whole_second a ∙ side_one u v ∙ sym (v.whole_second b)))
        (eq-zero-or-pos h.second))
        (eq-zero-or-pos g.second)

    start : g.start ≡ h.start
    start = ⊎_elim
        (λ (e : g.second ≡ 0). ⊎_elim
        (λ y. ⊎_elim (λ z. y.0 ∙ sym z.0) (λ z. absurd (z.2 (sym (value_one u v) ∙ y.1))) (v.blank (sym second ∙ e)))
        (λ y. ⊎_elim (λ z. absurd (y.2 (value_one u v ∙ z.1))) (λ z. y.0 ∙ sym z.0) (v.blank (sym second ∙ e)))
        (u.blank e))
        (λ (a : 0 < g.second). u.whole_start a ∙ ap (λ (k : ℕ). start_for right m k) second ∙ sym (v.whole_start (omega (arith, second))))
        (eq-zero-or-pos g.second)

pub looks_one : {n m : ℕ} {left right : List ℕ} {g h : Look} → Looks n m left right g → Looks n m left right h → SameLook n g h
looks_one (Looks.none u e) (Looks.none v f) = under_one u v
looks_one (Looks.none u e) (Looks.some w d c v) = absurd (d (sym (under_one u w).second ∙ e))
looks_one (Looks.some w d c u) (Looks.none v f) = absurd (d ((under_one w v).second ∙ f))
looks_one {n} {m} {left} {right} {h = h} (Looks.some w d c u) (Looks.some w' d' c' v) =
    under_one u (subst (λ (k : List ℕ). Under n m left right k h) (filled_one (λ k v w b p q. p ∙ sym q) c' c) v)

-- A row raised by the same t gives the same table,
pub raised_one : {right a b : List ℕ} {row t : ℕ} → Raised right row t 32 a → Raised right row t 32 b → a ≡ b
raised_one {row = row} r q = lists_same _ _ (r.size ∙ sym q.size) (λ k _. ⊎_elim
    (λ (h : row * 32 ≤ k). ⊎_elim
    (λ (c : row * 32 + 32 ≤ k). r.below k c ∙ sym (q.below k c))
    (λ (c : k < row * 32 + 32). let e : k ≡ row * 32 + (k - row * 32) = omega arith in rw e (r.raised _ (omega arith) ∙ sym (q.raised _ (omega arith))))
    (nat_le_or_lt (row * 32 + 32) k))
    (λ (h : k < row * 32). r.above k h ∙ sym (q.above k h))
    (nat_le_or_lt (row * 32) k))

-- and the same tables the same point.
pub point_one : {n m : ℕ} {left raised x y : List ℕ} → PointFor n m left raised x → PointFor n m left raised y → x ≡ y
point_one {n} {m} {left} {raised} p q = filled_one (λ k v w b c d. trop_of_injective v w (c ∙ values_same (rows_in n m left raised) (λ j h. iterated_one (rows_in n m left raised) (omega arith) p.ended.iterated q.ended.iterated j h) k b ∙ sym d))
    p.ended.values_are q.ended.values_are

-- The first variable of the second list that has a value is one.
second_under : {objective values : List ℕ} {width a b : ℕ} → SecondIs objective values width a → SecondIs objective values width b → b ≤ a
second_under {a = a} {b} p q = ⊎_elim
    (λ (h : b ≤ a). h)
    (λ (h : a < b). absurd (q.first a h (p.some (omega (arith, q.most)))))
    (nat_le_or_lt b a)

pub second_one : {objective values : List ℕ} {width a b : ℕ} → SecondIs objective values width a → SecondIs objective values width b → a ≡ b
second_one p q = omega (arith, second_under p q, second_under q p)
