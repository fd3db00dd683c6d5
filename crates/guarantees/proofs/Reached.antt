-- What a strategy reaches from a start is decided, so the picks that play no part can be set to 0, and what was accepted still is.
use Prim.Native.Nat.{ℕ, zero, suc, ◌+◌, ◌*◌, ◌/◌, ◌%◌, ◌≤◌, ◌<◌}
use mathlib.Core.Path.{◌≡◌, refl, sym, subst, fun_ext, ◌∙◌}
use mathlib.Core.List.{List}
use mathlib.Core.Logic.{◌⊎◌, inl, inr, ⊎_elim}
use native.Mathlib.Omega.{arith}
use native.Mathlib.Nat.{eq-zero-or-pos}
use lib.ListN.{length, get_or, get_or-eq_default}
use Rattle.base.proofs.Numbers.{nat_le_or_lt}
use Rattle.definitions.specs.Limits.{highest_n}
use Rattle.definitions.specs.Tropical.{Trop, bot, fin, Finite}
use Rattle.definitions.specs.Problem.{Problem}
use Rattle.definitions.specs.Certificate.{Strategy, Reachable, start, onward, Leads, RowLeads}
use Rattle.definitions.specs.ProblemRecord.{list_of}
use Rattle.definitions.specs.Verdict.{strategy_of}
use Rattle.definitions.specs.Solved.{IdleVariables, IdleRows}
use Rattle.definitions.proofs.Tropical.{bot_not_fin}
use Rattle.definitions.proofs.ProblemBack.{listed-length, listed_at}
use Rattle.duality.specs.Starts.{StartBelow}
use Rattle.duality.specs.Picks.{NoneAbove, AgreeReached, AgreeInUse}
use Rattle.duality.proofs.Reach.{reach_keep, reach_map}
use Rattle.duality.proofs.Strong.{all_or_some}
use Rattle.reach.specs.Marks.{Led, StartMarked}
use Rattle.reach.proofs.Marks.{reached_from, from_reached}
use Rattle.reach.proofs.Existence.{MarksOf, reach_exists}

-- P holds or not.
abbrev Known : Type 0 → Type 0
Known P = P ⊎ (P → ⊥)

-- 1 where P holds, else 0.
flag : {P : Type 0} → Known P → ℕ
flag (inl h) = 1
flag (inr d) = 0

flag_yes : {P : Type 0} (k : Known P) → P → 0 < flag k
unfolding flag
flag_yes (inl h) g = omega arith
flag_yes (inr d) g = absurd (d g)

yes_flag : {P : Type 0} (k : Known P) → 0 < flag k → P
unfolding flag
yes_flag (inl h) g = h
yes_flag (inr d) g = absurd (omega arith)

-- The pick where P holds, else none.
kept : {P : Type 0} → Known P → ℕ → ℕ
kept (inl h) pick = pick
kept (inr d) pick = 0

kept_yes : {P : Type 0} (k : Known P) (pick : ℕ) → P → kept k pick ≡ pick
unfolding kept
kept_yes (inl h) pick g = refl
kept_yes (inr d) pick g = absurd (d g)

kept_no : {P : Type 0} (k : Known P) (pick : ℕ) → (P → ⊥) → kept k pick ≡ 0
unfolding kept
kept_no (inl h) pick g = absurd (g h)
kept_no (inr d) pick g = refl

kept_most : {P : Type 0} (k : Known P) (pick many : ℕ) → pick ≤ many → kept k pick ≤ many
unfolding kept
kept_most (inl h) pick many g = g
kept_most (inr d) pick many g = omega arith

finite_known : (x : Trop) → Known (Finite x)
finite_known bot = inr (λ f. bot_not_fin f.is)
finite_known (fin z) = inl (record { whole = z; is = refl })

-- ---- reach, from a start, for leads that are known and stay inside

flag_most : {P : Type 0} (k : Known P) → flag k ≤ 1
unfolding flag
flag_most (inl h) = omega arith
flag_most (inr d) = omega arith

module _ (width : ℕ) (most : width ≤ 32) {Start : ℕ → Type 0} (starts : StartBelow width Start) (L : ℕ → ℕ → Type 0) (known : (j l : ℕ) → Known (L j l)) (inside : (j l : ℕ) → L j l → l < width) where
  arcs : List ℕ
  arcs = list_of (λ k. flag (known (k / 32) (k % 32))) 1024

  cell : (j l : ℕ) → j < 32 → l < 32 → get_or arcs (j * 32 + l) 0 ≡ flag (known j l)
  unfolding arcs
  cell j l h g =
      let a : (j * 32 + l) / 32 ≡ j = omega arith in
      let b : (j * 32 + l) % 32 ≡ l = omega arith in
      listed_at (λ k. flag (known (k / 32) (k % 32))) 0 1024 (j * 32 + l) (omega arith) ∙ rw (a, b) refl

  led : (j l : ℕ) → Led arcs width j l → L j l
  led j l h = yes_flag (known j l) (rw (cell j l (omega (arith, h.from)) (omega (arith, h.to))) at h.arc)

  leads : (j l : ℕ) → j < width → L j l → Led arcs width j l
  leads j l b h = record { from = b; to = inside j l h; arc = rw (cell j l (omega arith) (omega (arith, inside j l h))) (flag_yes (known j l) h) }

  begin : List ℕ
  begin = list_of (λ j. flag (starts.decided j)) 32

  begin_at : (j : ℕ) → j < 32 → get_or begin j 0 ≡ flag (starts.decided j)
  unfolding begin
  begin_at j h = listed_at (λ j. flag (starts.decided j)) 0 32 j h

  begin_flag : (j : ℕ) → get_or begin j 0 ≤ 1
  unfolding begin
  begin_flag j = ⊎_elim
      (λ (h : 32 ≤ j).
      let past : length (list_of (λ j. flag (starts.decided j)) 32) ≤ j = rw listed-length h in
      omega (arith, get_or-eq_default (list_of (λ j. flag (starts.decided j)) 32) 0 past))
      (λ (h : j < 32). rw (begin_at j h) (flag_most (starts.decided j)))
      (nat_le_or_lt 32 j)

  begun : StartMarked Start width begin
  unfolding begin
  begun = record {
    flags = record { length_is = listed-length (λ j. flag (starts.decided j)) 32; flag = begin_flag };
    marked = λ j s. record { inside = starts.inside j s; marked = rw (begin_at j (omega (arith, starts.inside j s))) (flag_yes (starts.decided j) s) };
    only = λ j b. yes_flag (starts.decided j) (rw (begin_at j (omega (arith, b.inside))) at b.marked);
  }

  marks : MarksOf arcs width begin
  marks = reach_exists arcs width begin most begun.flags

  there : {j : ℕ} → Reachable Start L j → Reachable Start (Led arcs width) j × (j < width)
  there r = reach_keep (λ j. j < width) (λ j s. (s, starts.inside j s)) (λ j l b h. (leads j l b h, inside j l h)) r

  pub reach_known : (j : ℕ) → Known (Reachable Start L j)
  reach_known j = ⊎_elim
      (λ (h : width ≤ j). inr (λ r. omega (arith, (there r).1)))
      (λ (h : j < width). ⊎_elim
      (λ (z : get_or marks.marks j 0 ≡ 0). inr (λ r. omega (arith, (from_reached begun marks.reached j (there r).0).1)))
      (λ m. inl (reach_map (λ j e. e) led (reached_from begun marks.reached j h m)))
      (eq-zero-or-pos (get_or marks.marks j 0)))
      (nat_le_or_lt width j)

-- A list of the first picks is the strategy, where the others are 0.
pub listed_whole : (picks : Strategy) (k : ℕ) → ((j : ℕ) → k ≤ j → picks j ≡ 0) → strategy_of (list_of picks k) ≡ picks
unfolding strategy_of
listed_whole picks k past = fun_ext (λ j. ⊎_elim
    (λ (h : k ≤ j). get_or-eq_default (list_of picks k) 0 (rw listed-length h) ∙ sym (past j h))
    (λ (h : j < k). listed_at picks 0 k j h)
    (nat_le_or_lt k j))

-- ---- classes 1 and 3

module _ {Start : ℕ → Type 0} (p : Problem) (starts : StartBelow (suc p.n) Start) (picks : Strategy) (most : p.n ≤ highest_n) where
  leads_known : (j l : ℕ) → Known (Leads p picks j l)
  leads_known j l = go (picks j) refl
    where
      go : (k : ℕ) → picks j ≡ k → Known (Leads p picks j l)
      go zero e = inr (λ h. omega (arith, h.picked))
      go (suc i) e = ⊎_elim
          (λ (b : l ≤ p.n). ⊎_elim
          (λ f. inl (record { row = i; picked = e; inside = b; right = f }))
          (λ d. inr (λ h. d (let same : h.row ≡ i = omega (arith, h.picked) in subst (λ (k : ℕ). Finite (p.right k l)) same h.right)))
          (finite_known (p.right i l)))
          (λ (b : p.n < l). inr (λ h. omega (arith, h.inside)))
          (nat_le_or_lt l p.n)

  reached_known : (j : ℕ) → Known (Reachable Start (Leads p picks) j)
  reached_known = reach_known (suc p.n) (omega arith) starts (Leads p picks) leads_known (λ j l h. omega (arith, h.inside))

  -- The picks of reached variables, and 0.
  pub shown : Strategy
  shown j = kept (reached_known j) (picks j)

  pub shown_agree : AgreeReached Start p picks shown
  unfolding shown
  shown_agree j r = kept_yes (reached_known j) (picks j) r

  reached_inside : {j : ℕ} → Reachable Start (Leads p picks) j → j ≤ p.n
  reached_inside (start b) = omega (arith, starts.inside _ b)
  reached_inside (onward r h) = h.inside

  pub shown_past : (j : ℕ) → suc p.n ≤ j → shown j ≡ 0
  unfolding shown
  shown_past j h = kept_no (reached_known j) (picks j) (λ r. omega (arith, reached_inside r))

  pub shown_idle : IdleVariables Start p shown
  unfolding shown
  shown_idle j d = kept_no (reached_known j) (picks j) (λ r. d (forward r))
    where
      forward : {j : ℕ} → Reachable Start (Leads p picks) j → Reachable Start (Leads p shown) j
      forward r = (reach_keep {L' = Leads p shown} (Reachable Start (Leads p picks)) (λ j e. (e, start e))
          (λ j l q h. (record { row = h.row; picked = shown_agree j q ∙ h.picked; inside = h.inside; right = h.right }, onward q h)) r).0

  pub shown_most : (many : ℕ) → NoneAbove many (suc p.n) picks → NoneAbove many (suc p.n) shown
  unfolding shown
  shown_most many h j b = kept_most (reached_known j) (picks j) many (h j b)

-- ---- class 2

module _ {Start : ℕ → Type 0} (p : Problem) (starts : StartBelow (suc p.n) Start) (picks : Strategy) (most : p.n ≤ highest_n) (none_above : NoneAbove (suc p.n) (suc p.m) picks) where
  row_leads_known : (j l : ℕ) → Known (RowLeads p picks j l)
  row_leads_known j l = ⊎_elim
      (λ none. inr (λ h. none h.row (omega (arith, h.inside)) (h.left, h.picked)))
      (λ s. inl (record { row = s.place; inside = omega (arith, s.inside); left = s.holds.0; picked = s.holds.1 }))
      (all_or_some (λ i. (Finite (p.left i j) × (picks i ≡ suc l)) → ⊥) (λ i. Finite (p.left i j) × (picks i ≡ suc l)) by_row (suc p.m))
    where
      by_row : (i : ℕ) → ((Finite (p.left i j) × (picks i ≡ suc l)) → ⊥) ⊎ (Finite (p.left i j) × (picks i ≡ suc l))
      by_row i = ⊎_elim
          (λ f. ⊎_elim
          (λ (b : picks i ≤ suc l). ⊎_elim (λ (c : suc l ≤ picks i). inr (f, omega arith)) (λ (c : picks i < suc l). inl (λ g. omega (arith, g.1))) (nat_le_or_lt (suc l) (picks i)))
          (λ (b : suc l < picks i). inl (λ g. omega (arith, g.1)))
          (nat_le_or_lt (picks i) (suc l)))
          (λ d. inl (λ g. d g.0))
          (finite_known (p.left i j))

  rows_known : (j : ℕ) → Known (Reachable Start (RowLeads p picks) j)
  rows_known = reach_known (suc p.n) (omega arith) starts (RowLeads p picks) row_leads_known
      (λ j l h. let b = none_above h.row (omega (arith, h.inside)) in omega (arith, b, h.picked))

  rows_inside : {j : ℕ} → Reachable Start (RowLeads p picks) j → j < suc p.n
  rows_inside (start b) = starts.inside _ b
  rows_inside (onward r h) = let b = none_above h.row (omega (arith, h.inside)) in omega (arith, b, h.picked)

  -- A row of the problem with a non-blank left coefficient of a reached variable.
  record Used (i : ℕ) : Type 0 where
    row : i ≤ p.m
    at : ℕ
    reached : Reachable Start (RowLeads p picks) at
    left : Finite (p.left i at)

  used_known : (i : ℕ) → Known (Used i)
  used_known i = ⊎_elim
      (λ (h : i ≤ p.m). ⊎_elim
      (λ none. inr (λ u. none u.at (rows_inside u.reached) (u.reached, u.left)))
      (λ s. inl (record { row = h; at = s.place; reached = s.holds.0; left = s.holds.1 }))
      (all_or_some (λ j. (Reachable Start (RowLeads p picks) j × Finite (p.left i j)) → ⊥) (λ j. Reachable Start (RowLeads p picks) j × Finite (p.left i j)) by_variable (suc p.n)))
      (λ (h : p.m < i). inr (λ u. omega (arith, u.row)))
      (nat_le_or_lt i p.m)
    where
      by_variable : (j : ℕ) → ((Reachable Start (RowLeads p picks) j × Finite (p.left i j)) → ⊥) ⊎ (Reachable Start (RowLeads p picks) j × Finite (p.left i j))
      by_variable j = ⊎_elim
          (λ r. ⊎_elim (λ f. inr (r, f)) (λ d. inl (λ g. d g.1)) (finite_known (p.left i j)))
          (λ d. inl (λ g. d g.0))
          (rows_known j)

  -- The picks of rows in use, and 0.
  pub rows_shown : Strategy
  rows_shown i = kept (used_known i) (picks i)

  pub rows_shown_agree : AgreeInUse Start p picks rows_shown
  unfolding rows_shown
  rows_shown_agree i j h r f = kept_yes (used_known i) (picks i) (record { row = h; at = j; reached = r; left = f })

  pub rows_shown_past : (i : ℕ) → suc p.m ≤ i → rows_shown i ≡ 0
  unfolding rows_shown
  rows_shown_past i h = kept_no (used_known i) (picks i) (λ u. omega (arith, u.row))

  pub rows_shown_idle : IdleRows Start p rows_shown
  unfolding rows_shown
  rows_shown_idle i d = kept_no (used_known i) (picks i) (λ u. d u.at (forward u.reached) u.left)
    where
      forward : {j : ℕ} → Reachable Start (RowLeads p picks) j → Reachable Start (RowLeads p rows_shown) j
      forward r = (reach_keep {L' = RowLeads p rows_shown} (Reachable Start (RowLeads p picks)) (λ j e. (e, start e))
          (λ j l q h. (record { row = h.row; inside = h.inside; left = h.left; picked = rows_shown_agree h.row j h.inside q h.left ∙ h.picked }, onward q h)) r).0

  pub rows_shown_most : NoneAbove (suc p.n) (suc p.m) rows_shown
  unfolding rows_shown
  rows_shown_most i b = kept_most (used_known i) (picks i) (suc p.n) (none_above i b)
