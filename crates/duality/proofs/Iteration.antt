-- Laws of the policy iteration: passes keep what falls, lower the values where a row failed, and end with the values of the strategy;
-- and the strategy at the end is one.
use Prim.Native.Nat.{ℕ, suc, ◌≤◌, ◌<◌}
use mathlib.Core.Path.{◌≡◌, refl, sym, ap, subst, ◌∙◌}
use mathlib.Core.Logic.{◌⊎◌, inl, inr, ⊎_elim}
use native.Mathlib.Omega.{arith}
use Rattle.base.proofs.Numbers.{nat_le_or_lt, below_or_last}
use Rattle.definitions.specs.Tropical.{Trop, bot, plus, ◌⊑◌}
use Rattle.definitions.specs.Problem.{Point}
use Rattle.definitions.specs.Certificate.{Strategy}
use Rattle.definitions.proofs.Tropical.{⊑_refl, ⊑_trans, ⊑_of_eq, plus_mono, largest_ext}
use Rattle.duality.specs.System.{System, side_of, Solves}
use Rattle.duality.specs.Values.{difference, values, Policy}
use Rattle.duality.specs.Height.{Bounded, height}
use Rattle.duality.specs.Falling.{Falling, Stays, Falls, RowFalls}
use Rattle.duality.specs.Iteration.{SamePoint, SamePicks, RowStands, RowsFall, Passes, Iterates, Iterated}
use Rattle.duality.proofs.Weights.{difference_whole}
use Rattle.duality.proofs.Policy.{fails_finite}
use Rattle.duality.proofs.Falling.{values_falling, falling_over, falling_policy, falling_values, row_lower, row_falling}
use Rattle.duality.proofs.Agree.{agree_refl, agree_values}
use Rattle.duality.proofs.Ends.{finished}
use Rattle.duality.proofs.Height.{height_lower}
use Rattle.duality.proofs.Strong.{Some, all_or_some}

-- A variable has become lower.
record Dropped (s : System) (x x' : Point) : Type 0 where
  place : ℕ
  inside : place < s.variables
  drops : (x place ⊑ x' place) → ⊥

module _ (s : System) where
  -- ---- rows in turn

  rows_falling : {τ : Strategy} {x : Point} {τ' : Strategy} {x' : Point} {n failed : ℕ} → RowsFall s τ x n failed τ' x' → n ≤ s.rows → Falling s τ x → Falling s τ' x'
  rows_falling RowsFall.none h f = f
  rows_falling (RowsFall.stands p r) h f = rows_falling p (omega arith) f
  rows_falling (RowsFall.falls {n = n} p d row) h f = row_falling s _ _ (rows_falling p (omega arith) f) n (omega arith) _ _ row

  rows_lower : {τ : Strategy} {x : Point} {τ' : Strategy} {x' : Point} {n failed : ℕ} → RowsFall s τ x n failed τ' x' → n ≤ s.rows → Falling s τ x → (j : ℕ) → j < s.variables → x' j ⊑ x j
  rows_lower {x = x} RowsFall.none h f j b = ⊑_refl (x j)
  rows_lower (RowsFall.stands p r) h f j b = rows_lower p (omega arith) f j b
  rows_lower (RowsFall.falls {n = n} p d row) h f j b =
      ⊑_trans (row_lower s _ _ (rows_falling p (omega arith) f) n (omega arith) _ _ row j b) (rows_lower p (omega arith) f j b)

  -- Where none has failed nothing has changed, and all stand.
  rows_stand : {τ : Strategy} {x : Point} {τ' : Strategy} {x' : Point} {n failed : ℕ} → RowsFall s τ x n failed τ' x' → failed ≡ 0 → (i : ℕ) → i < n → RowStands s i x'
  rows_stand RowsFall.none e i h = absurd (omega arith)
  rows_stand {x' = x'} (RowsFall.stands {n = n} p r) e i h =
      ⊎_elim (λ (b : i < n). rows_stand p e i b) (λ (z : i ≡ n). subst (λ (k : ℕ). RowStands s k x') (sym z) r) (below_or_last i n (omega arith))
  rows_stand (RowsFall.falls p d row) e i h = absurd (omega arith)

  -- Where one has failed a variable is lower.
  rows_dropped : {τ : Strategy} {x : Point} {τ' : Strategy} {x' : Point} {n failed : ℕ} → RowsFall s τ x n failed τ' x' → n ≤ s.rows → Falling s τ x → (failed ≡ 0 → ⊥) → Dropped s x x'
  rows_dropped RowsFall.none h f d = absurd (d refl)
  rows_dropped (RowsFall.stands p r) h f d = rows_dropped p (omega arith) f d
  rows_dropped {x = x} {τ' = σ} {x' = y} (RowsFall.falls {n = n} {x' = x'} p d row) h f e =
      ⊎_elim (λ (a : (j : ℕ) → j < s.variables → j < s.variables → plus (s.left n j) (x' j) ⊑ side_of s (s.right n) x'). absurd (d (λ j b. a j b b))) at_place
      (all_or_some (λ j. j < s.variables → plus (s.left n j) (x' j) ⊑ side_of s (s.right n) x') (λ j. Dropped s x y) each s.variables)
    where
      each : (j : ℕ) → (j < s.variables → plus (s.left n j) (x' j) ⊑ side_of s (s.right n) x') ⊎ Dropped s x y
      each j = ⊎_elim (λ (h : s.variables ≤ j). inl (λ b. absurd (omega arith))) turn (nat_le_or_lt s.variables j)
        where
          turn : j < s.variables → (j < s.variables → plus (s.left n j) (x' j) ⊑ side_of s (s.right n) x') ⊎ Dropped s x y
          turn b = ⊎_elim (λ c. inl (λ _. c.stands)) (λ c. inr (record { place = j; inside = b; drops = λ q. c.fails (fallen c (⊑_trans (rows_lower p (omega arith) f j b) q)) })) (row j b)
            where
              fallen : Falls s n x' σ y j → x' j ⊑ y j → plus (s.left n j) (x' j) ⊑ side_of s (s.right n) x'
              fallen c q = let a = fails_finite s x' n j c.fails in
                  rw a.is (⊑_trans (plus_mono (⊑_refl _) (rw (c.value, a.is) at q)) (⊑_of_eq (difference_whole (side_of s (s.right n) x') a.whole)))

      at_place : Some (λ j. Dropped s x y) s.variables → Dropped s x y
      at_place q = q.holds

  -- ---- passes

  passes_falling : {τ : Strategy} {x : Point} {τ' : Strategy} {x' : Point} {failed : ℕ} → Passes s τ x failed τ' x' → Falling s τ x → Falling s τ' x'
  passes_falling (Passes.none b) f = f
  passes_falling (Passes.once b p e) f = rows_falling p (omega arith) f
  passes_falling (Passes.twice b p d e n q) f = rows_falling q (omega arith) (rows_falling p (omega arith) f)

  passes_lower : {τ : Strategy} {x : Point} {τ' : Strategy} {x' : Point} {failed : ℕ} → Passes s τ x failed τ' x' → Falling s τ x → (j : ℕ) → j < s.variables → x' j ⊑ x j
  passes_lower {x = x} (Passes.none b) f j h = ⊑_refl (x j)
  passes_lower (Passes.once b p e) f j h = rows_lower p (omega arith) f j h
  passes_lower (Passes.twice b p d e n q) f j h = ⊑_trans (rows_lower q (omega arith) (rows_falling p (omega arith) f) j h) (rows_lower p (omega arith) f j h)

  passes_dropped : {τ : Strategy} {x : Point} {τ' : Strategy} {x' : Point} {failed : ℕ} → Passes s τ x failed τ' x' → Falling s τ x → (failed ≡ 0 → ⊥) → Dropped s x x'
  passes_dropped (Passes.none b) f d = absurd (d refl)
  passes_dropped (Passes.once b p e) f d = rows_dropped p (omega arith) f d
  passes_dropped (Passes.twice b p d e n q) f _ =
      let m = rows_dropped p (omega arith) f d in
      record { place = m.place; inside = m.inside; drops = λ b. m.drops (⊑_trans b (rows_lower q (omega arith) (rows_falling p (omega arith) f) m.place m.inside)) }

  passes_stand : {τ : Strategy} {x : Point} {τ' : Strategy} {x' : Point} {failed : ℕ} → Passes s τ x failed τ' x' → failed ≡ 0 → (x' 0 ≡ bot → ⊥)
      → (i : ℕ) → i < s.rows → RowStands s i x'
  passes_stand (Passes.none b) z d = absurd (d b)
  passes_stand (Passes.once b p e) z d = rows_stand p z
  passes_stand (Passes.twice b p c e n q) z d = rows_stand q z

  passes_values : {τ : Strategy} {x : Point} {τ' : Strategy} {x' : Point} {failed : ℕ} → Passes s τ x failed τ' x' → failed ≡ 0 → Falling s τ x → SamePoint s x (values s τ)
      → SamePoint s x' (values s τ')
  passes_values (Passes.none b) e f v = v
  passes_values (Passes.once b p d) e f v = falling_values s _ _ (rows_falling p (omega arith) f) (λ i j h k. rows_stand p e i h j k)
  passes_values (Passes.twice b p d c n q) e f v =
      falling_values s _ _ (rows_falling q (omega arith) (rows_falling p (omega arith) f)) (λ i j h k. rows_stand q e i h j k)

  module _ {τ τ' : Strategy} {x x' : Point} {failed : ℕ} (policy : Policy s τ) (v : SamePoint s x (values s τ)) (p : Passes s τ x failed τ' x') where
    before : Falling s τ x
    before = values_falling s τ x policy v

    after : Falling s τ' x'
    after = passes_falling p before

    -- From the values of a kept strategy passes lead to one that is kept,
    pub next_kept : Policy s τ'
    next_kept = falling_policy s τ' x' after

    -- and lower, where a row has failed;
    pub next_lower : (C : ℕ) → Bounded s C → (failed ≡ 0 → ⊥) → height s C τ' < height s C τ
    next_lower C bounded d = height_lower s C bounded τ τ'
        (λ j h. ⊑_trans (falling_over s τ' x' after j h) (⊑_trans (passes_lower p before j h) (⊑_of_eq (v j h))))
        m.place m.inside (λ b. m.drops (⊑_trans (⊑_of_eq (v m.place m.inside)) (⊑_trans b (falling_over s τ' x' after m.place m.inside))))
      where
        m : Dropped s x x'
        m = passes_dropped p before d

    -- else to its values, which solve the system, where that of variable 0 is not blank.
    pub last_values : failed ≡ 0 → SamePoint s x' (values s τ')
    last_values e = passes_values p e before v

    pub last_solves : failed ≡ 0 → (x' 0 ≡ bot → ⊥) → Solves s x'
    last_solves e d = finished s x' (λ i j h k. passes_stand p e d i h j k)

  -- ---- one end

  pub side_same : {x y : Point} (c : ℕ → Trop) → SamePoint s x y → side_of s c x ≡ side_of s c y
  side_same c e = largest_ext _ _ s.variables (λ j h. ap (plus (c j)) (e j h))

  stands_same : (x y : Point) (i : ℕ) → SamePoint s x y → RowStands s i x → RowStands s i y
  stands_same x y i e r j h = rw (← e j h, ← side_same (s.right i) e) (r j h)

  record One (τ σ : Strategy) (x y : Point) (failed lost : ℕ) : Type 0 where
    picks : SamePicks s τ σ
    point : SamePoint s x y
    count : failed ≡ lost

  -- Of a row,
  row_one : {τ τ' σ σ' : Strategy} {x x' y y' : Point} {i j : ℕ} → SamePicks s τ σ → SamePoint s x y → RowFalls s i τ x τ' x' → RowFalls s i σ y σ' y'
      → j < s.variables → (τ' j ≡ σ' j) × (x' j ≡ y' j)
  row_one {τ} {τ'} {σ} {σ'} {x} {x'} {y} {y'} {i} {j} t e p q h = ⊎_elim
      (λ (c : Stays s i τ x τ' x' j). ⊎_elim
      (λ (d : Stays s i σ y σ' y' j). (c.pick ∙ t j h ∙ sym d.pick, c.value ∙ e j h ∙ sym d.value))
      (λ (d : Falls s i y σ' y' j). absurd (d.fails (rw (← e j h, ← side_same (s.right i) e) c.stands)))
      (q j h))
      (λ (c : Falls s i x τ' x' j). ⊎_elim
      (λ (d : Stays s i σ y σ' y' j). absurd (c.fails (rw (e j h, side_same (s.right i) e) d.stands)))
      (λ (d : Falls s i y σ' y' j). (c.pick ∙ sym d.pick, c.value ∙ ap (λ (z : Trop). difference z (s.left i j)) (side_same (s.right i) e) ∙ sym d.value))
      (q j h))
      (p j h)

  -- of rows in turn,
  rows_one : {τ : Strategy} {x : Point} {σ : Strategy} {y : Point} {τ' σ' : Strategy} {x' y' : Point} {n k failed lost : ℕ} → RowsFall s τ x n failed τ' x' → RowsFall s σ y k lost σ' y' → n ≡ k
      → SamePicks s τ σ → SamePoint s x y → One τ' σ' x' y' failed lost
  rows_one RowsFall.none RowsFall.none h t e = record { picks = t; point = e; count = refl }
  rows_one RowsFall.none (RowsFall.stands q r) h t e = absurd (omega arith)
  rows_one RowsFall.none (RowsFall.falls q d row) h t e = absurd (omega arith)
  rows_one (RowsFall.stands p r) RowsFall.none h t e = absurd (omega arith)
  rows_one (RowsFall.stands p r) (RowsFall.stands q r') h t e = rows_one p q (omega arith) t e
  rows_one {x' = x'} (RowsFall.stands {n = n} p r) (RowsFall.falls {n = k} {x' = y} q d row) h t e =
      let z : n ≡ k = omega arith in absurd (d (stands_same x' y k (rows_one p q z t e).point (subst (λ (i : ℕ). RowStands s i x') z r)))
  rows_one (RowsFall.falls p d row) RowsFall.none h t e = absurd (omega arith)
  rows_one {y' = y'} (RowsFall.falls {n = n} {x' = x} p d row) (RowsFall.stands {n = k} q r) h t e =
      let z : k ≡ n = omega arith in
      absurd (d (stands_same y' x n (λ j b. sym ((rows_one p q (omega arith) t e).point j b)) (subst (λ (i : ℕ). RowStands s i y') z r)))
  rows_one {σ' = σ'} {y' = y'} (RowsFall.falls {n = n} p d row) (RowsFall.falls {n = k} {τ' = σ} {x' = y} q d' row') h t e =
      let z : k ≡ n = omega arith in
      let same = subst (λ (i : ℕ). RowFalls s i σ y σ' y') z row' in
      let o = rows_one p q (omega arith) t e in
      record {
        picks = λ j b. (row_one o.picks o.point row same b).0;
        point = λ j b. (row_one o.picks o.point row same b).1;
        count = ap suc o.count;
      }

  pub values_same : {τ σ : Strategy} → SamePicks s τ σ → SamePoint s (values s τ) (values s σ)
  values_same {τ} {σ} t j h = agree_values s s τ σ (agree_refl s) t j h

  start_same : {τ σ : Strategy} {x y : Point} → SamePicks s τ σ → SamePoint s x (values s τ) → SamePoint s y (values s σ) → SamePoint s x y
  start_same t v w j h = v j h ∙ values_same t j h ∙ sym (w j h)

  -- of passes,
  passes_one : {τ τ' σ σ' : Strategy} {x x' y y' : Point} {failed lost : ℕ} → 0 < s.variables → Passes s τ x failed τ' x' → Passes s σ y lost σ' y'
      → SamePicks s τ σ → SamePoint s x y → One τ' σ' x' y' failed lost
  passes_one v (Passes.none b) (Passes.none c) t e = record { picks = t; point = e; count = refl }
  passes_one v (Passes.none b) (Passes.once c q k) t e = absurd (c (sym (e 0 v) ∙ b))
  passes_one v (Passes.none b) (Passes.twice c q d k n q') t e = absurd (c (sym (e 0 v) ∙ b))
  passes_one v (Passes.once b p h) (Passes.none c) t e = absurd (b (e 0 v ∙ c))
  passes_one v (Passes.once b p h) (Passes.once c q k) t e = rows_one p q refl t e
  passes_one v (Passes.once b p h) (Passes.twice c q d k n q') t e =
      let o = rows_one p q refl t e in
      absurd (⊎_elim (λ z. d (sym o.count ∙ z)) (λ y. ⊎_elim (λ z. k (sym (o.point 0 v) ∙ z)) (λ z. n (λ j b. rw (← o.picks j b) (z j b))) y) h)
  passes_one v (Passes.twice b p d h n p') (Passes.none c) t e = absurd (b (e 0 v ∙ c))
  passes_one v (Passes.twice b p d h n p') (Passes.once c q k) t e =
      let o = rows_one p q refl t e in
      absurd (⊎_elim (λ z. d (o.count ∙ z)) (λ y. ⊎_elim (λ z. h (o.point 0 v ∙ z)) (λ z. n (λ j b. rw (o.picks j b) (z j b))) y) k)
  passes_one v (Passes.twice b p d h n p') (Passes.twice c q d' h' n' q') t e =
      let o = rows_one p q refl t e in rows_one p' q' refl o.picks o.point

  -- and of the iteration.
  iterates_one : {τ τ' σ σ' : Strategy} → 0 < s.variables → Iterates s τ τ' → Iterates s σ σ' → SamePicks s τ σ → SamePicks s τ' σ'
  iterates_one b (Iterates.ends v p z) (Iterates.ends w q y) t = (passes_one b p q t (start_same t v w)).picks
  iterates_one b (Iterates.ends v p z) (Iterates.onward w q n i) t = absurd (n (sym (passes_one b p q t (start_same t v w)).count ∙ z))
  iterates_one b (Iterates.onward v p n i) (Iterates.ends w q z) t = absurd (n ((passes_one b p q t (start_same t v w)).count ∙ z))
  iterates_one b (Iterates.onward v p n i) (Iterates.onward w q m k) t = iterates_one b i k (passes_one b p q t (start_same t v w)).picks

  pub iterated_one : {τ σ : Strategy} → 0 < s.variables → Iterated s τ → Iterated s σ → SamePicks s τ σ
  iterated_one b p q = iterates_one b p.iterates q.iterates (λ j h. p.none j h ∙ sym (q.none j h))
