-- What document 01 lists of a strategy is what the theory says of it: picks that count and cycles below zero at t
-- are blocking the system at t; rows that pick and cycles of zero or more at t are saving it.
use Prim.Native.Nat.{ℕ, zero, suc, ◌≤◌, ◌<◌}
use mathlib.Core.Path.{◌≡◌, refl}
use mathlib.Core.Bool.{Bool, true, false, cond}
use mathlib.Core.Logic.{◌↔◌}
use native.Mathlib.Omega.{arith}
use lib.Dec.{ltb}
use lib.IntN.{ℤ, ◌+ℤ◌, ◌-ℤ◌}
use borrow.Author.Tests.{ltb-true, ltb-false}
use Rattle.definitions.specs.Tropical.{Trop, fin, plus, Finite}
use Rattle.definitions.specs.Problem.{Problem}
use Rattle.definitions.specs.Certificate.{Strategy, raise, ArcBy, Leads, Arc, HasPick, PicksCount, BelowZero, RowLeads, RowArc, RowHasPick, RowPicksCount, AtLeastZero}
use Rattle.definitions.proofs.Whole.{whole, plus_read, minus_read}
use Rattle.definitions.proofs.Tropical.{plus_is, plus_from}
use Rattle.duality.specs.System as Theory
use Rattle.duality.specs.System.{system_at, Blocks, Saves}
use Rattle.duality.specs.Picks.{unpick, strategy_of, picks_from, NoneAbove, Joined}
use Rattle.duality.proofs.Reach.{reach_keep, reach_map, circuit_keep, circuit_map}
use Rattle.duality.proofs.Cycles.{cycle_circuit, below_exactly, at_least_exactly}

-- ---- the two forms

unpicked : (many k i : ℕ) → k ≤ many → k ≡ suc i → (unpick many k ≡ i) × (i < many)
unfolding unpick
unpicked many zero i h e = absurd (omega arith)
unpicked many (suc k) i h e = (omega arith, omega arith)

picked : (many k : ℕ) → unpick many k < many → k ≡ suc (unpick many k)
unfolding unpick
picked many zero h = absurd (omega arith)
picked many (suc k) h = refl

-- Picks none above the number of rows, as a strategy of the theory.
pub strategy_joined : (picks : Strategy) (many width : ℕ) → NoneAbove many width picks
    → Joined picks (strategy_of picks many) many width
unfolding strategy_of
strategy_joined picks many width h = record
    { read = λ j i k e. unpicked many (picks j) i (h j k) e; show = λ j k l. picked many (picks j) l }

-- A strategy of the theory as picks.
pub picks_joined : (τ : Strategy) (many width : ℕ) → Joined (picks_from τ many) τ many width
unfolding picks_from
picks_joined τ many width = record
    { read = λ j i k e. reads (τ j) i (ltb (τ j) many) refl e; show = λ j k l. shows (τ j) (ltb (τ j) many) refl l }
  where
    reads : (t i : ℕ) (b : Bool) → ltb t many ≡ b → cond b (suc t) 0 ≡ suc i → (t ≡ i) × (i < many)
    reads t i true e d = let h : t < many = ltb-true t many e in (omega arith, omega arith)
    reads t i false e d = absurd (omega arith)

    shows : (t : ℕ) (b : Bool) → ltb t many ≡ b → t < many → cond b (suc t) 0 ≡ suc t
    shows t true e h = refl
    shows t false e h = let k : many ≤ t = ltb-false t many e in absurd (omega arith)

-- Such picks are none above the number of rows.
pub picks_none_above : (τ : Strategy) (many width : ℕ) → NoneAbove many width (picks_from τ many)
unfolding picks_from
picks_none_above τ many width j h = go (τ j) (ltb (τ j) many) refl
  where
    go : (t : ℕ) (b : Bool) → ltb t many ≡ b → cond b (suc t) 0 ≤ many
    go t true e = ltb-true t many e
    go t false e = omega arith

-- ---- coefficients of a problem and of its system

-- An arc by a row, in the coefficients of the system: what the raised right one is, and the weight.
by_raised : {p : Problem} {t : ℤ} {i j l : ℕ} {w : ℤ} (c : ArcBy p t i j l w)
    → (plus (p.right i l) (fin (raise p t i)) ≡ fin (c.b +ℤ raise p t i)) × (w ≡ (c.b +ℤ raise p t i) -ℤ c.a)
by_raised {p} {t} {i} c =
    let r = raise p t i in (
      plus_is c.right_is refl,
      omega (whole, c.weighs, plus_read c.b r, minus_read (c.b +ℤ r) c.a, minus_read c.b c.a, plus_read (c.b -ℤ c.a) r),
    )

-- And back.
raised_by : (p : Problem) (t : ℤ) {i j l : ℕ} {w : ℤ} (a b : ℤ) → p.left i j ≡ fin a
    → plus (p.right i l) (fin (raise p t i)) ≡ fin b → w ≡ b -ℤ a → ArcBy p t i j l w
raised_by p t {i} {w = w} a b e d q =
    let r = raise p t i in
    record {
      a = a;
      b = b -ℤ r;
      left_is = e;
      right_is = plus_from r d;
      weighs = omega (whole, minus_read b a, minus_read b r, minus_read (b -ℤ r) a, plus_read ((b -ℤ r) -ℤ a) r);
    }

raised_finite : {x : Trop} (c : ℤ) → Finite x → Finite (plus x (fin c))
raised_finite c f = record { whole = f.whole +ℤ c; is = plus_is f.is refl }

finite_raised : {x : Trop} (c : ℤ) → Finite (plus x (fin c)) → Finite x
finite_raised c f = record { whole = f.whole -ℤ c; is = plus_from c f.is }

-- ---- strategies of variables

module _ (p : Problem) (t : ℤ) {picks τ : Strategy} (same : Joined picks τ (suc p.m) (suc p.n)) where
  leads_to : (j l : ℕ) → j < suc p.n → Leads p picks j l → Theory.Leads (system_at p t) τ j l × (l < suc p.n)
  unfolding system_at
  leads_to j l h a =
      let r = same.read j a.row h a.picked in
      let f : Finite (p.right (τ j) l) = rw r.0 a.right in
      (record { picked = omega arith; inside = omega arith; right = raised_finite (raise p t (τ j)) f }, omega arith)

  leads_back : (j l : ℕ) → j < suc p.n → Theory.Leads (system_at p t) τ j l → Leads p picks j l × (l < suc p.n)
  unfolding system_at
  leads_back j l h a = (
    record { row = τ j; picked = same.show j h a.picked; inside = omega (arith, a.inside); right = finite_raised (raise p t (τ j)) a.right },
    a.inside,
  )

  arc_to : (j l : ℕ) (w : ℤ) → j < suc p.n → Arc p picks t j l w → Theory.Arc (system_at p t) τ j l w × (l < suc p.n)
  unfolding system_at
  arc_to j l w h a =
      let r = same.read j a.row h a.picked in
      let c : ArcBy p t (τ j) j l w = rw r.0 a.by in (
        record {
          picked = omega arith;
          inside = omega arith;
          a = c.a;
          b = c.b +ℤ raise p t (τ j);
          left_is = c.left_is;
          right_is = (by_raised c).0;
          weighs = (by_raised c).1;
        },
        omega arith,
      )

  arc_back : (j l : ℕ) (w : ℤ) → j < suc p.n → Theory.Arc (system_at p t) τ j l w → Arc p picks t j l w × (l < suc p.n)
  unfolding system_at
  arc_back j l w h a = (
    record {
      row = τ j;
      picked = same.show j h a.picked;
      inside = omega (arith, a.inside);
      by = raised_by p t a.a a.b a.left_is a.right_is a.weighs;
    },
    a.inside,
  )

  pick_to : (j : ℕ) → j < suc p.n → HasPick p picks j → Theory.HasPick (system_at p t) τ j
  unfolding system_at
  pick_to j h a =
      let r = same.read j a.row h a.picked in
      let f : Finite (p.left (τ j) j) = rw r.0 a.left in
      record { picked = omega arith; left = f }

  pick_back : (j : ℕ) → j < suc p.n → Theory.HasPick (system_at p t) τ j → HasPick p picks j
  unfolding system_at
  pick_back j h a = record { row = τ j; picked = same.show j h a.picked; left = a.left }

  module _ {Start : ℕ → Type 0} (inside : (j : ℕ) → Start j → j ≤ p.n) where
    begins : (j : ℕ) → Start j → Start j × (j < suc p.n)
    begins j h = (h, omega (arith, inside j h))

    -- From any start inside the problem, picks that count and cycles below zero at t block the system at t.
    pub picks_block : PicksCount Start p picks → BelowZero Start p picks t → Blocks (system_at p t) Start τ
    picks_block count below = record {
      counts = λ j r. let q = reach_keep (λ j. j < suc p.n) begins leads_back r in pick_to j q.1 (count j q.0);
      negative = λ w c. (below_exactly Start p picks t).0 below w (circuit_keep (λ j. j < suc p.n) begins leads_back arc_back c);
    }

    -- And what blocks it are such picks.
    pub block_picks : Blocks (system_at p t) Start τ → PicksCount Start p picks × BelowZero Start p picks t
    block_picks b = (
      λ j r. let q = reach_keep (λ j. j < suc p.n) begins leads_to r in pick_back j q.1 (b.counts j q.0),
      λ w c. b.negative w (circuit_keep (λ j. j < suc p.n) begins leads_to arc_to (cycle_circuit c)),
    )

-- ---- strategies of rows

module _ (p : Problem) (t : ℤ) {picks σ : Strategy} (same : Joined picks σ (suc p.n) (suc p.m)) where
  row_leads_to : (j l : ℕ) → RowLeads p picks j l → Theory.RowLeads (system_at p t) σ j l
  unfolding system_at
  row_leads_to j l a =
      let r = same.read a.row l (omega (arith, a.inside)) a.picked in
      record { row = a.row; inside = omega (arith, a.inside); left = a.left; picked = r.0; target = r.1 }

  row_leads_back : (j l : ℕ) → Theory.RowLeads (system_at p t) σ j l → RowLeads p picks j l
  unfolding system_at
  row_leads_back j l a =
      let e : σ a.row < suc p.n = rw a.picked a.target in
      let d : picks a.row ≡ suc l = cc (same.show a.row a.inside e) in
      record { row = a.row; inside = omega (arith, a.inside); left = a.left; picked = d }

  row_arc_to : (j l : ℕ) (w : ℤ) → RowArc p picks t j l w → Theory.RowArc (system_at p t) σ j l w
  unfolding system_at
  row_arc_to j l w a =
      let r = same.read a.row l (omega (arith, a.inside)) a.picked in
      record {
        row = a.row;
        inside = omega (arith, a.inside);
        picked = r.0;
        target = r.1;
        a = a.by.a;
        b = a.by.b +ℤ raise p t a.row;
        left_is = a.by.left_is;
        right_is = (by_raised a.by).0;
        weighs = (by_raised a.by).1;
      }

  row_arc_back : (j l : ℕ) (w : ℤ) → Theory.RowArc (system_at p t) σ j l w → RowArc p picks t j l w
  unfolding system_at
  row_arc_back j l w a =
      let e : σ a.row < suc p.n = rw a.picked a.target in
      let d : picks a.row ≡ suc l = cc (same.show a.row a.inside e) in
      record {
        row = a.row;
        inside = omega (arith, a.inside);
        picked = d;
        by = raised_by p t a.a a.b a.left_is a.right_is a.weighs;
      }

  row_pick_to : (i : ℕ) → i < suc p.m → RowHasPick p picks i → Theory.RowHasPick (system_at p t) σ i
  unfolding system_at
  row_pick_to i h a =
      let r = same.read i a.variable h a.picked in
      let f : Finite (p.right i (σ i)) = rw r.0 a.right in
      record { picked = rw r.0 r.1; right = raised_finite (raise p t i) f }

  row_pick_back : (i : ℕ) → i < suc p.m → Theory.RowHasPick (system_at p t) σ i → RowHasPick p picks i
  unfolding system_at
  row_pick_back i h a = record { variable = σ i; picked = same.show i h a.picked; right = finite_raised (raise p t i) a.right }

  -- From any start, rows in use that pick and cycles of zero or more at t save the system at t.
  pub picks_save : {Start : ℕ → Type 0} → RowPicksCount Start p picks → AtLeastZero Start p picks t → Saves (system_at p t) Start σ
  unfolding system_at
  picks_save {Start} count more = record {
    counts = λ i j h r l. row_pick_to i h (count i j (omega arith) (reach_map (λ j e. e) row_leads_back r) l);
    nonnegative = λ w c. (at_least_exactly Start p picks t).0 more w (circuit_map (λ j e. e) row_leads_back row_arc_back c);
  }

  -- And what saves it are such picks.
  pub save_picks : {Start : ℕ → Type 0} → Saves (system_at p t) Start σ → RowPicksCount Start p picks × AtLeastZero Start p picks t
  unfolding system_at
  save_picks b = (
    λ i j h r l. row_pick_back i (omega arith) (b.counts i j (omega arith) (reach_map (λ j e. e) row_leads_to r) l),
    λ w c. b.nonnegative w (circuit_map (λ j e. e) row_leads_to row_arc_to (cycle_circuit c)),
  )

-- ---- exactly when

-- For picks none above the number of rows, from any start inside the problem: what document 01 lists at t, and blocking the system
-- at t.
pub blocks_exactly : (Start : ℕ → Type 0) (p : Problem) (t : ℤ) (picks : Strategy) → ((j : ℕ) → Start j → j ≤ p.n)
    → NoneAbove (suc p.m) (suc p.n) picks
    → (PicksCount Start p picks × BelowZero Start p picks t) ↔ Blocks (system_at p t) Start (strategy_of picks (suc p.m))
blocks_exactly Start p t picks inside h =
    let s = strategy_joined picks (suc p.m) (suc p.n) h in
    (λ b. picks_block p t s inside b.0 b.1, block_picks p t s inside)

-- For row picks none above the number of variables, from any start: what document 01 lists at t, and saving the system at t.
pub saves_exactly : (Start : ℕ → Type 0) (p : Problem) (t : ℤ) (picks : Strategy) → NoneAbove (suc p.n) (suc p.m) picks
    → (RowPicksCount Start p picks × AtLeastZero Start p picks t) ↔ Saves (system_at p t) Start (strategy_of picks (suc p.n))
saves_exactly Start p t picks h =
    let s = strategy_joined picks (suc p.n) (suc p.m) h in
    (λ b. picks_save p t s b.0 b.1, save_picks p t s)
