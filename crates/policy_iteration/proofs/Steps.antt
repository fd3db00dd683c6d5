-- Laws of a row that lowers values in place, of passes over the rows, and of the iteration.
use Prim.Native.Nat.{ℕ, zero, suc, ◌+◌, ◌*◌, ◌≤◌, ◌<◌}
use mathlib.Core.Path.{◌≡◌, refl, sym, ap, subst, ◌∙◌}
use mathlib.Core.Logic.{◌⊎◌, inl, inr, ⊎_elim}
use mathlib.Core.List.{List, [], ◌∷◌}
use native.Mathlib.Omega.{arith}
use native.Mathlib.Numerals.{add-one}
use lib.ListN.{length, get_or, replicate, length-map, length-replicate, get_or-replicate}
use Rattle.base.proofs.Numbers.{nat_le_or_lt}
use Rattle.definitions.specs.Limits.{lead_limit}
use Rattle.definitions.specs.Tropical.{Trop, bot, plus, largest, ◌⊑◌, blank_least}
use Rattle.definitions.specs.Certificate.{Strategy}
use Rattle.definitions.specs.Offset.{trop_of}
use Rattle.definitions.proofs.Tropical.{⊑_trans, largest_above, largest_least}
use Rattle.definitions.proofs.Offset.{trop_zero, trop_order, trop_of_injective, plus_trop_zero}
use Rattle.duality.specs.System.{System, side_of}
use Rattle.duality.specs.Values.{difference, values, Policy, Fails}
use Rattle.duality.specs.Height.{Bounded, height}
use Rattle.duality.specs.Falling.{RowFalls}
use Rattle.duality.specs.Iteration.{RowStands, RowsFall, Passes, Iterates, Iterated}
use Rattle.duality.proofs.Ends.{none_policy}
use Rattle.duality.proofs.Iteration.{next_kept, next_lower, last_values, last_solves}
use Rattle.records.specs.Decoded.{Near}
use Rattle.policy_iteration.specs.Tables.{entry_of, system_of, point_of, pick_of, raised_limit, cap_limit, turn_limit, first_limit, value_limit, high, highs, Table, Ranged, Lows, Within, Caps, Tables}
use Rattle.policy_iteration.specs.Rounds.{SideIs, ValuesIs}
use Rattle.policy_iteration.specs.declared.rows.Rows.{Rows}
use Rattle.policy_iteration.specs.Steps.{Gives, given_by, LoweredPlace, LoweredAt, Passing, Passed, AllPicked, Turned, Ended}
use Rattle.policy_iteration.proofs.Low.{high_zero, high_whole, high_blank, high_mono, high_strict, highs_at}
use Rattle.policy_iteration.proofs.Small.{Small, near_small, near_abs, small_near, small_more, small_plus, small_difference, small_largest}
use Rattle.policy_iteration.proofs.Rounds.{within_more, level_ranged, level_lows, level_within}
use Rattle.policy_iteration.proofs.Given.{gives_held, gives_fails, gives_stands}
use Rattle.policy_iteration.proofs.Lowering.{lesser_first, lesser_second, chosen_first, chosen_second}

-- ---- ranges

past : (l : List ℕ) (k : ℕ) → length l ≤ k → get_or l k 0 ≡ 0
past [] k h = refl
past (v ∷ l) zero h = absurd (omega arith)
past (v ∷ l) (suc k) h = past l k (omega arith)

-- ---- a row

then_picked : {rows a b c : ℕ} → (c < rows) ⊎ (c ≡ b) → (b < rows) ⊎ (b ≡ a) → (c < rows) ⊎ (c ≡ a)
then_picked (inl h) p = inl h
then_picked (inr e) (inl h) = inl (rw e h)
then_picked (inr e) (inr f) = inr (e ∙ f)

module _ (left right : List ℕ) (width rows n : ℕ) (x picks x' picks' : List ℕ) (j : ℕ) where
  -- Row n has left variable j as it was: it stands there,
  record KeptHere : Type 0 where
    value : get_or x' j 0 ≡ get_or x j 0
    pick : pick_of picks' j ≡ pick_of picks j
    stands : j < width → plus (entry_of left n j) (point_of (highs x) j) ⊑ side_of (system_of left right [] width rows) (entry_of right n) (point_of (highs x))

  -- or has lowered it: it fails there.
  record FellHere : Type 0 where
    inside : j < width
    lower : get_or x' j 0 < get_or x j 0
    pick : pick_of picks' j ≡ n
    fails : Fails (system_of left right [] width rows) (point_of (highs x)) n j
    value : point_of (highs x') j ≡ difference (side_of (system_of left right [] width rows) (entry_of right n) (point_of (highs x))) (entry_of left n j)

module _ (left right : List ℕ) (width rows n : ℕ) (t : Tables left right width rows) (h : n < rows) (x picks : List ℕ) (g : Lows width x) (s : length picks ≡ 32)
    (here there : ℕ) (si : SideIs right n (highs x) width here) (li : SideIs left n (highs x) width there) where
  abbrev here_side : Trop
  here_side = side_of (system_of left right [] width rows) (entry_of right n) (point_of (highs x))

  -- In the words of the system.
  row_stands : (j : ℕ) → plus (entry_of left n j) (trop_of (high (get_or x j 0))) ⊑ trop_of (high here) → plus (entry_of left n j) (point_of (highs x) j) ⊑ here_side
  row_stands j a = subst (λ (z : Trop). plus (entry_of left n j) (point_of (highs x) j) ⊑ z) si.is (rw (highs_at x j) a)

  row_fails : (j : ℕ) → ((plus (entry_of left n j) (trop_of (high (get_or x j 0))) ⊑ trop_of (high here)) → ⊥) → Fails (system_of left right [] width rows) (point_of (highs x)) n j
  row_fails j d a = d (rw (highs_at x j) at (subst (λ (z : Trop). plus (entry_of left n j) (point_of (highs x) j) ⊑ z) (sym si.is) a))

  near : (j : ℕ) → Near value_limit (high (get_or x j 0))
  near j = rw (highs_at x j) at (g.ranged.near j)

  -- A row whose left side is at most its right side stands everywhere.
  row_whole : (caps : List ℕ) → there ≤ here → RowStands (system_of left right caps width rows) n (point_of (highs x))
  row_whole caps b j k = ⊑_trans (largest_above (λ l. plus (entry_of left n l) (point_of (highs x) l)) width j k)
      (subst (λ (z : Trop). largest (λ l. plus (entry_of left n l) (point_of (highs x) l)) width ⊑ z) si.is
      (subst (λ (z : Trop). z ⊑ trop_of (high here)) li.is ((trop_order (high there) (high here)).1 (high_mono there here b))))

  -- Another does not.
  row_not : (caps : List ℕ) → here < there → RowStands (system_of left right caps width rows) n (point_of (highs x)) → ⊥
  row_not caps b r = omega (
    arith,
    high_strict here there b,
    (trop_order (high there) (high here)).0 (rw (li.is, si.is) (largest_least (λ l. plus (entry_of left n l) (point_of (highs x) l)) width r)),
  )

  module _ (x' picks' : List ℕ) where
    abbrev HadTurn : ℕ → Type 0
    HadTurn j = KeptHere left right width rows n x picks x' picks' j ⊎ FellHere left right width rows n x picks x' picks' j

    -- A variable that had its turn.
    place_turned : (top j : ℕ) → Gives here top → LoweredPlace left n top j x picks x' picks'
        → HadTurn j
    place_turned top j gi p = ⊎_elim kept fell (nat_le_or_lt (get_or x j 0) (given_by left n top j))
      where
        kept : get_or x j 0 ≤ given_by left n top j → HadTurn j
        kept b = inl (record {
          value = p.value ∙ sym (lesser_second _ _ b);
          pick = p.choice ∙ sym (chosen_second _ _ _ _ b);
          stands = λ _. row_stands j (gives_stands here top gi _ _ (t.lefts.near (n * 32 + j)) (near j) b);
        })

        fell : given_by left n top j < get_or x j 0 → HadTurn j
        fell b =
            let e : get_or x' j 0 ≡ given_by left n top j = p.value ∙ sym (lesser_first _ _ b) in
            inr (record {
              inside = ⊎_elim (λ (w : width ≤ j). absurd (omega (arith, g.rest j w))) (λ w. w) (nat_le_or_lt width j);
              lower = omega arith;
              pick = p.choice ∙ sym (chosen_first _ _ _ _ b);
              fails = row_fails j (gives_fails here top gi _ _ (t.lefts.near (n * 32 + j)) (near j) b);
              value = ap trop_of (highs_at x' j) ∙ rw e (gi.is _ (t.lefts.near (n * 32 + j)) (gives_held here top gi _ _ (t.lefts.near (n * 32 + j)) (near j) b)) ∙ ap (λ (z : Trop). difference z (entry_of left n j)) si.is;
            })

    -- A row that fails.
    module _ (b : here < there) (l : LoweredAt left n here x picks x' picks') where
      row_place : (j : ℕ) → HadTurn j
      row_place j = ⊎_elim
          (λ (k : 32 ≤ j). inl (record {
            value = past x' j (omega (arith, l.lowered.x_size)) ∙ sym (past x j (omega (arith, g.size)));
            pick = past picks' j (omega (arith, l.lowered.picks_size)) ∙ sym (past picks j (omega arith));
            stands = λ q. absurd (omega (arith, t.width_most));
          }))
          (λ (k : j < 32). ⊎_elim
          (λ p. place_turned l.top j l.gives p)
          (λ p. inl (record { value = p.1.value; pick = p.1.choice; stands = λ q. rw (p.0, (plus_trop_zero (point_of (highs x) j)).0) blank_least }))
          (l.lowered.each j k))
          (nat_le_or_lt 32 j)

      -- What the row makes of strategy and point, whatever the caps.
      row_falls : (caps : List ℕ) → RowFalls (system_of left right caps width rows) n (pick_of picks) (point_of (highs x)) (pick_of picks') (point_of (highs x'))
      row_falls caps j k = ⊎_elim
          (λ c. inl (record { stands = c.stands k; value = ap trop_of (highs_at x' j ∙ ap high c.value ∙ sym (highs_at x j)); pick = c.pick }))
          (λ c. inr (record { fails = c.fails; value = c.value; pick = c.pick }))
          (row_place j)

      row_picked : (j : ℕ) → (pick_of picks' j < rows) ⊎ (pick_of picks' j ≡ pick_of picks j)
      row_picked j = ⊎_elim (λ c. inr c.pick) (λ c. inl (rw c.pick h)) (row_place j)

      -- A row gives little more or less than a variable has.
      row_within : (d : ℕ) → Within d width x → Within (d + turn_limit) width x'
      row_within d i = record {
        size = l.lowered.x_size;
        near = λ k. ⊎_elim
            (λ c. rw c.value ((within_more {c = d} {d = d + turn_limit} (omega arith) i).near k))
            (λ c. small_near (d + turn_limit) (high (get_or x' k 0)) (subst (Small (d + turn_limit)) (sym c.value ∙ ap trop_of (highs_at x' k)) (given k)))
            (row_place k);
        rest = λ k b. ⊎_elim (λ c. c.value ∙ i.rest k b) (λ c. absurd (omega (arith, c.inside))) (row_place k);
      }
        where
          given : (k : ℕ) → Small (d + turn_limit) (difference (here_side) (entry_of left n k))
          given k = small_more {c = raised_limit + d + lead_limit} (omega arith)
              (small_difference _ _
              (small_largest _ width (λ l b. small_plus _ _ (near_small raised_limit _ (t.rights.near (n * 32 + l))) (near_small d _ (rw (highs_at x l) (i.near l)))))
              (near_small lead_limit _ (t.lefts.near (n * 32 + k))))

      -- One row more of a pass, which fails,
      pub passed_fails : {x₀ picks₀ : List ℕ} {failed : ℕ} → Passed left right width rows n x₀ picks₀ x picks failed
          → Passed left right width rows (n + 1) x₀ picks₀ x' picks' (failed + 1)
      passed_fails p = record {
        size = l.lowered.picks_size;
        within = λ d i. within_more (omega arith) (row_within (d + n * turn_limit) (p.within d i));
        picked = λ j. then_picked (row_picked j) (p.picked j);
        falls = λ caps. rw (add-one, add-one) (RowsFall.falls (p.falls caps) (row_not caps b) (row_falls caps));
      }

  -- or one that stands.
  pub passed_stands : {x₀ picks₀ : List ℕ} {failed : ℕ} → there ≤ here → Passed left right width rows n x₀ picks₀ x picks failed
      → Passed left right width rows (n + 1) x₀ picks₀ x picks failed
  passed_stands b p = record {
    size = p.size;
    within = λ d i. within_more (omega arith) (p.within d i);
    picked = p.picked;
    falls = λ caps. rw add-one (RowsFall.stands (p.falls caps) (row_whole caps b));
  }

-- ---- a pass

pub passed_none : (left right : List ℕ) (width rows : ℕ) (x picks : List ℕ) → length picks ≡ 32 → Passed left right width rows 0 x picks x picks 0
passed_none left right width rows x picks e =
    record { size = e; within = λ d w. within_more (omega arith) w; picked = λ j. inr refl; falls = λ caps. RowsFall.none }

-- Variable 0 is blank where its number is 0.
blank_is : (x : List ℕ) → get_or x 0 0 ≡ 0 → point_of (highs x) 0 ≡ bot
blank_is x e = rw (highs_at x 0, e, high_zero) trop_zero

blank_not : (x : List ℕ) → (get_or x 0 0 ≡ 0 → ⊥) → point_of (highs x) 0 ≡ bot → ⊥
blank_not x d e = d (high_blank (get_or x 0 0) (trop_of_injective (high (get_or x 0 0)) 0 (rw (highs_at x 0) at e ∙ sym trop_zero)))

-- What passes start from, and what they make of it.
module _ {rows : Rows} {x picks : List ℕ} (p : Passing first_limit rows x picks) where
  pub passing_first : Passing (first_limit + 64 * turn_limit) rows x picks
  passing_first = record { sides = p.sides; within = within_more (omega arith) p.within; size = p.size }

  pub turned_none : get_or x 0 0 ≡ 0 → Turned rows.left.now rows.right.now rows.width rows.count x picks x picks 0
  turned_none e = record { size = p.size; within = within_more (omega arith) p.within; picked = λ j. inr refl; passes = λ caps. Passes.none (blank_is x e) }

  module _ {y there : List ℕ} {r : ℕ} (d : get_or x 0 0 ≡ 0 → ⊥) (q : Passed rows.left.now rows.right.now rows.width rows.count rows.count x picks y there r) where
    pub passing_second : Passing (first_limit + 64 * turn_limit) rows y there
    passing_second = record {
      sides = p.sides;
      within = within_more (omega (arith, p.sides.right.tables.rows_most)) (q.within first_limit p.within);
      size = q.size;
    }

    pub turned_once : (r ≡ 0) ⊎ ((get_or y 0 0 ≡ 0) ⊎ AllPicked there rows.width rows.count) → Turned rows.left.now rows.right.now rows.width rows.count x picks y there r
    turned_once e = record {
      size = q.size;
      within = within_more (omega (arith, p.sides.right.tables.rows_most)) (q.within first_limit p.within);
      picked = q.picked;
      passes = λ caps. Passes.once (blank_not x d) (q.falls caps) (⊎_elim (λ z. inl z) (λ z. inr (⊎_elim (λ b. inl (blank_is y b)) (λ n. inr n) z)) e);
    }

    pub turned_twice : {x' picks' : List ℕ} {failed : ℕ} → (r ≡ 0 → ⊥) → (get_or y 0 0 ≡ 0 → ⊥) → (AllPicked there rows.width rows.count → ⊥) → Passed rows.left.now rows.right.now rows.width rows.count rows.count y there x' picks' failed
        → Turned rows.left.now rows.right.now rows.width rows.count x picks x' picks' failed
    turned_twice e f n a = record {
      size = a.size;
      within = within_more (omega (arith, p.sides.right.tables.rows_most)) (a.within _ (q.within first_limit p.within));
      picked = λ j. then_picked (a.picked j) (q.picked j);
      passes = λ caps. Passes.twice (blank_not x d) (q.falls caps) e (blank_not y f) n (a.falls caps);
    }

-- ---- the iteration

-- Coefficients are bounded.
pub tables_bounded : (left right caps : List ℕ) (width rows : ℕ) → Tables left right width rows → Caps width caps → Bounded (system_of left right caps width rows) cap_limit
tables_bounded left right caps width rows t g = record {
  left = λ i j a h k e. omega (arith, (near_small lead_limit _ (t.lefts.near (i * 32 + j))).size a e);
  right = λ i j b h k e. omega (arith, (near_small raised_limit _ (t.rights.near (i * 32 + j))).size b e);
  caps = λ j h. near_abs cap_limit (high (get_or caps j 0)) (omega (arith, high_whole (get_or caps j 0) (g.whole j h), g.whole j h)) (g.near j h);
}

-- Values are within their limit.
pub values_ranged : (left right caps picks x : List ℕ) (width rows : ℕ) → Tables left right width rows → Caps width caps
    → ValuesIs (system_of left right caps width rows) (pick_of picks) x → Ranged x
unfolding values
values_ranged left right caps picks x width rows t g v = level_ranged left right caps picks x width rows width t g (omega arith) v

pub values_lows : (left right caps picks x : List ℕ) (width rows : ℕ) → Tables left right width rows → Caps width caps
    → ValuesIs (system_of left right caps width rows) (pick_of picks) (highs x) → Lows width x
unfolding values
values_lows left right caps picks x width rows t g v = level_lows left right caps picks x width rows width t g (omega arith) v

pub values_within : (left right caps picks x : List ℕ) (width rows : ℕ) → Tables left right width rows → Caps width caps
    → ValuesIs (system_of left right caps width rows) (pick_of picks) (highs x) → Within first_limit width x
unfolding values
values_within left right caps picks x width rows t g v = level_within left right caps picks x width rows width t g (omega arith) v

-- A table that was not raised is within the limit of raised ones.
pub table_raised : {table : List ℕ} → Table lead_limit table → Table raised_limit table
table_raised t = record { size = t.size; near = λ k. record { hi = omega (arith, (t.near k).hi); lo = λ h. omega (arith, (t.near k).lo h) } }

-- What the iteration keeps: a strategy that is kept, and that the strategy without picks has led to.
pub record Kept (s : System) (kept : List ℕ) : Type 0 where
  pub policy : Policy s (pick_of kept)
  pub size : length kept ≡ 32
  pub picked : (j : ℕ) → j < 32 → pick_of kept j ≤ s.rows
  pub so_far : (τ : Strategy) → Iterates s (pick_of kept) τ → Iterated s τ

pub kept_none : (s : System) → s.variables ≤ 32 → Kept s (replicate 32 s.rows)
kept_none s h = record {
  policy = none_policy s _ (λ j k. omega (arith, at j (omega arith)));
  size = length-replicate {A = ℕ} 32 s.rows;
  picked = λ j k. omega (arith, at j k);
  so_far = λ τ i. record { first = pick_of (replicate 32 s.rows); none = λ j k. at j (omega arith); iterates = i };
}
  where
    at : (j : ℕ) → j < 32 → pick_of (replicate 32 s.rows) j ≡ s.rows
    at j k = get_or-replicate {A = ℕ} 32 j s.rows 0 k

-- Passes from the values of a kept strategy.
module _ {left right caps x kept x' kept' : List ℕ} {width rows r : ℕ} (q : Turned left right width rows x kept x' kept' r)
    (g : Caps width caps) (t : Tables left right width rows) (k : Kept (system_of left right caps width rows) kept)
    (v : ValuesIs (system_of left right caps width rows) (pick_of kept) (highs x)) where
  abbrev s : System
  s = system_of left right caps width rows

  step_picked : (j : ℕ) → j < 32 → pick_of kept' j ≤ rows
  step_picked j h = ⊎_elim (λ (b : pick_of kept' j < rows). omega arith) (λ e. omega (arith, k.picked j h)) (q.picked j)

  -- The next strategy is kept,
  pub step_kept : (r ≡ 0 → ⊥) → Kept s kept'
  step_kept d = record {
    policy = next_kept s k.policy v.each (q.passes caps);
    size = q.size;
    picked = step_picked;
    so_far = λ τ i. k.so_far τ (Iterates.onward v.each (q.passes caps) d i);
  }

  -- and lower, where a row has failed;
  pub step_lower : (r ≡ 0 → ⊥) → height s cap_limit (pick_of kept') < height s cap_limit (pick_of kept)
  step_lower d = next_lower s k.policy v.each (q.passes caps) cap_limit (tables_bounded left right caps width rows t g) d

  -- else it is the end.
  pub step_end : r ≡ 0 → Ended s (highs x') kept'
  step_end e = record {
    size = q.size;
    picked = step_picked;
    policy = next_kept s k.policy v.each (q.passes caps);
    iterated = k.so_far (pick_of kept') (Iterates.ends v.each (q.passes caps) e);
    values_are = record {
      size_is = length-map x' high ∙ q.within.size;
      each = last_values s k.policy v.each (q.passes caps) e;
      rest = λ j h. highs_at x' j ∙ ap high (q.within.rest j h) ∙ high_zero;
    };
    solves = λ h. last_solves s k.policy v.each (q.passes caps) e
        (blank_not x' (λ z. absurd (omega (arith, h, highs_at x' 0 ∙ ap high z ∙ high_zero))));
  }
