-- The closed-walk test: fields that are raised are tropical numbers that are raised; a round in which nothing moved shows
-- that no closed walk weighs above zero; a value above the limit, or more rounds than variables, show a short one that does.
use Rattle.std.proofs.Common.{◌≡◌, ℕ, zero, suc, ◌+◌, ◌-◌, ◌*◌, ◌%◌, ◌<◌, ◌≤◌, Bool, true, false, ◌⊎◌, List, get_or, set, replicate, ℤ, pos, ◌+ℤ◌, ◌≤ℤ◌, sym, refl, ap, ◌∙◌, inl, inr, ⊎_elim, eq-zero-or-pos, add-one, arith, length-set, eq-eqb, ne_eqb}
use mathlib.Core.Bool.{false≢true}
use lib.IntN.{sub_ℕ}
use Rattle.base.specs.Numbers.{most}
use Rattle.base.proofs.Numbers.{nat_le_or_lt, same_or_not, most_one, most_left, most_right, one_more}
use Rattle.base.proofs.Filled.{zeros, set_here, set_there}
use Rattle.definitions.specs.Limits.{signed_half, signed_full}
use Rattle.definitions.specs.Offset.{off}
use Rattle.definitions.specs.Tropical.{Trop, bot, fin, plus, ◌⊑◌, blank_least, whole_least, larger}
use Rattle.definitions.proofs.Whole.{whole, subℕ_read, plus_read}
use Rattle.definitions.proofs.Tropical.{fin_below, finite_fin, ⊑_refl, ⊑_trans, ⊑_antisym, bot_plus, plus_fin, plus_mono, larger_left, larger_right, larger_least}
use Rattle.duality.specs.Values.{value_at}
use Rattle.duality.specs.Sweeps.{Climbed}
use Rattle.duality.proofs.Longest.{round_least, potential_closed}
use Rattle.duality.proofs.Sweeps.{SomeGain, entries_back, gain_back, swept_none, swept_kept, swept_more, all_fixed_or_gains, climbed_start, climbed_more, climbed_part, climbed_under, climbed_beyond}
use Rattle.reach.specs.Marks.{Marked}
use Rattle.std.specs.Prelude.{Option, Some, None}
use Rattle.closed_walks.specs.Gains.{arc_zero, arc_most, weight_of, matrix, anywhere, Table, NoneGains, SomeGains, Tested}
use Rattle.closed_walks.specs.Order.{past, Ordered}
use Rattle.closed_walks.specs.GainRound.{walk_limit, end_value, Pushed, backward, level, RoundReady, Pushing, Ended, finished, stopped, Rounds}
use Rattle.closed_walks.proofs.Order.{past_most}

-- ---- weights

pub weight_none : weight_of 0 ≡ bot
unfolding weight_of
weight_none = refl

pub weight_some : (k : ℕ) → 0 < k → weight_of k ≡ fin (sub_ℕ k arc_zero)
unfolding weight_of
weight_some k h = rw (ne_eqb k 0 (omega arith))

-- A weight within the table's range is at most the heaviest.
weight_most : (k : ℕ) → k ≤ arc_zero + arc_most → weight_of k ⊑ fin (pos arc_most)
weight_most k h = ⊎_elim
    (λ (z : k ≡ 0). rw (z, weight_none) blank_least)
    (λ (z : 0 < k). rw (weight_some k z) (whole_least {a = sub_ℕ k arc_zero} {b = pos arc_most} (omega (whole, subℕ_read k arc_zero))))
    (eq-zero-or-pos k)

-- ---- the value at the end of an arc

larger_blank : (x : Trop) → larger x bot ≡ x
larger_blank x = ⊑_antisym (larger_least (⊑_refl x) blank_least) (larger_left x bot)

-- The larger of two whole numbers is the one that is at least both.
larger_is : {a b z : ℤ} → a ≤ℤ z → b ≤ℤ z → (z ≡ a) ⊎ (z ≡ b) → fin z ≡ larger (fin a) (fin b)
larger_is {a} {b} {z} h k s = ⊑_antisym
    (⊎_elim (λ e. rw e (larger_left (fin a) (fin b))) (λ e. rw e (larger_right (fin a) (fin b))) s)
    (larger_least (whole_least h) (whole_least k))

-- The offset number of a field without a sign, and of one with it.
off_low : (w : ℕ) → w < signed_half → off w ≡ w + signed_half
unfolding off
off_low w h = omega arith

off_high : (w : ℕ) → signed_half ≤ w → w < signed_full → off w ≡ w - signed_half
unfolding off
off_high w h k = omega arith

-- The field that is the offset number of `by`, with an arc added, has the offset number by + arc.
field_plus : (by arc c : ℕ) → by + arc < signed_full → c ≡ (off by + arc) % signed_full → off c ≡ by + arc
field_plus by arc c h e = ⊎_elim
    (λ (l : signed_half ≤ by).
    let q : c ≡ by - signed_half + arc = omega (arith, off_high by l (omega arith)) in
    omega (arith, off_low c (omega arith)))
    (λ (l : by < signed_half).
    let f = off_low by l in
    ⊎_elim
    (λ (g : signed_half ≤ by + arc). let q : c ≡ by + arc - signed_half = omega arith in omega (arith, off_low c (omega arith)))
    (λ (g : by + arc < signed_half). let q : c ≡ by + arc + signed_half = omega arith in omega (arith, off_high c (omega arith) (omega arith)))
    (nat_le_or_lt signed_half (by + arc)))
    (nat_le_or_lt signed_half by)

-- A field with the offset number k is k − 2³¹ where that is not below zero.
field_low : (r k : ℕ) → r < signed_full → off r ≡ k → signed_half ≤ k → r ≡ k - signed_half
field_low r k b e h = ⊎_elim
    (λ (l : signed_half ≤ r). omega (arith, off_high r l b))
    (λ (l : r < signed_half). omega (arith, off_low r l))
    (nat_le_or_lt signed_half r)

-- The later of two fields is the value at the end of the arc.
pub end_value_lem : (was by arc c r : ℕ) → was < arc_zero → by + arc < signed_full → c ≡ (off by + arc) % signed_full → r < signed_full
    → off r ≡ most (off was) (off c) → r ≡ end_value was by arc
end_value_lem was by arc c r h k e b q =
    let f = field_plus by arc c k e in
    let g = off_low was h in
    let p = most_right (off was) (off c) in
    let o = most_left (off was) (off c) in
    let s : r ≡ most (off was) (off c) - signed_half = field_low r (most (off was) (off c)) b q (omega arith) in
    ⊎_elim (λ t. ⊎_elim (λ m. omega arith) (λ m. omega arith) (most_one was (by + arc - arc_zero))) (λ t. ⊎_elim (λ m. omega arith) (λ m. omega arith) (most_one was (by + arc - arc_zero)))
    (most_one (off was) (off c))

-- It is the larger of what was and, where there is an arc, its weight with the start's value.
end_level : (was by arc : ℕ) → by ≤ arc_zero
    → fin (pos (end_value was by arc)) ≡ larger (fin (pos was)) (plus (weight_of arc) (fin (pos by)))
end_level was by arc h = ⊎_elim none some (eq-zero-or-pos arc)
  where
    none : arc ≡ 0 → fin (pos (end_value was by arc)) ≡ larger (fin (pos was)) (plus (weight_of arc) (fin (pos by)))
    none z =
        let q : end_value was by arc ≡ was = ⊎_elim (λ r. omega arith) (λ r. omega arith) (most_one was (by + arc - arc_zero)) in
        rw (q, z, weight_none, bot_plus) (sym (larger_blank _))

    some : 0 < arc → fin (pos (end_value was by arc)) ≡ larger (fin (pos was)) (plus (weight_of arc) (fin (pos by)))
    some z =
        let v = plus_read (sub_ℕ arc arc_zero) (pos by) in
        let w = subℕ_read arc arc_zero in
        let m = most_one was (by + arc - arc_zero) in
        rw (weight_some arc z, plus_fin)
        (larger_is (⊎_elim (λ r. omega whole) (λ r. omega whole) m) (⊎_elim (λ r. omega whole) (λ r. omega whole) m) (⊎_elim by_arc (λ r. inl (ap pos r.0)) m))
      where
        by_arc : (end_value was by arc ≡ by + arc - arc_zero) × (was ≤ by + arc - arc_zero)
            → (pos (end_value was by arc) ≡ pos was) ⊎ (pos (end_value was by arc) ≡ sub_ℕ arc arc_zero +ℤ pos by)
        by_arc r = ⊎_elim
            (λ (l : arc_zero ≤ by + arc). inr (omega (whole, plus_read (sub_ℕ arc arc_zero) (pos by), subℕ_read arc arc_zero)))
            (λ (l : by + arc < arc_zero). let e : end_value was by arc ≡ was = omega arith in inl (ap pos e))
            (nat_le_or_lt arc_zero (by + arc))

-- ---- what the test says

pub tested_yes : {arcs marks : List ℕ} {width : ℕ} → NoneGains arcs marks width → Tested arcs marks width true
tested_yes h = record { yes = λ _. h; no = λ e. absurd (false≢true (sym e)) }

pub tested_no : {arcs marks : List ℕ} {width : ℕ} → SomeGains arcs marks width → Tested arcs marks width false
tested_no h = record { yes = λ e. absurd (false≢true e); no = λ _. h }

-- ---- a round

module _ (arcs marks : List ℕ) (width : ℕ) (table : Table arcs width) where
  -- A variable that is not marked has no arcs.
  unmarked : (j l : ℕ) → get_or marks j 0 ≡ 0 → matrix arcs marks j l ≡ bot
  unfolding matrix
  unmarked j l z = rw (eq-eqb (get_or marks j 0) 0 z)

  -- One that is has those of the table.
  marked : (j l : ℕ) → (get_or marks j 0 ≡ 0 → ⊥) → matrix arcs marks j l ≡ weight_of (get_or arcs (j * 32 + l) 0)
  unfolding matrix
  marked j l n = rw (ne_eqb (get_or marks j 0) 0 n)

  pub pushing_none : {values done : List ℕ} → RoundReady arcs marks width values done → Pushing arcs marks width values done 0 values done false
  pushing_none {values} r = record {
    length_is = r.length_is;
    done_length = r.done_length;
    small = r.small;
    held = r.held;
    swept = swept_none (backward arcs marks) width (level values);
    passed = λ j h. absurd (omega arith);
    others = λ j h. refl;
    still = λ e j l h. absurd (omega arith);
    moves = λ e. absurd (false≢true e);
  }

  module _ {values done new pushed : List ℕ} {k : ℕ} {moved : Bool} (p : Pushing arcs marks width values done k new pushed moved) (b : k < width) where
    -- A variable that would raise nothing.
    kept : ((l : ℕ) → l < width → plus (matrix arcs marks k l) (level new k) ⊑ level new l)
        → (Marked marks k → get_or values k 0 < get_or pushed k 0) → Pushing arcs marks width values done (k + 1) new pushed moved
    kept q s = record {
      length_is = p.length_is;
      done_length = p.done_length;
      small = p.small;
      held = p.held;
      swept = swept_kept p.swept b q;
      passed = one_more k p.passed s;
      others = λ j h. p.others j (omega arith);
      still = λ e j l c h. one_more {P = λ j. plus (matrix arcs marks j l) (level new j) ⊑ level new l} k (λ j d. p.still e j l d h) (q l h) j c;
      moves = p.moves;
    }

    -- One that is not marked.
    pub pushing_unmarked : get_or marks k 0 ≡ 0 → Pushing arcs marks width values done (k + 1) new pushed moved
    pushing_unmarked z = kept (λ l h. rw (unmarked k l z, bot_plus) blank_least) (λ m. absurd (omega arith))

    -- One that has raised the ends of its arcs with its value.
    pub pushing_held : get_or new k 0 < get_or pushed k 0 → Pushing arcs marks width values done (k + 1) new pushed moved
    pushing_held c = kept (λ l h. p.held k l (get_or new k 0) b h c) (λ m. omega (whole, fin_below (p.swept.grows k b)))

    module _ {more : List ℕ} (n : get_or marks k 0 ≡ 0 → ⊥) (few : get_or new k 0 ≤ walk_limit) (r : Pushed arcs (k * 32) (get_or new k 0) 32 new more) where
      -- The values after the push,
      cell : (l : ℕ) → l < width → get_or more l 0 ≡ end_value (get_or new l 0) (get_or new k 0) (get_or arcs (k * 32 + l) 0)
      cell l h = r.cells l (omega (arith, table.width_most)) (omega (arith, p.small l h)) (omega (arith, table.cells k l b h))

      -- as tropical numbers,
      raised_level : (l : ℕ) → l < width → level more l ≡ larger (level new l) (plus (matrix arcs marks k l) (level new k))
      raised_level l h =
          ap (λ v. fin (pos v)) (cell l h)
          ∙ end_level (get_or new l 0) (get_or new k 0) (get_or arcs (k * 32 + l) 0) (omega arith)
          ∙ ap (λ w. larger (level new l) (plus w (level new k))) (sym (marked k l n))

      -- none of them less than before.
      rises : (l : ℕ) → l < width → get_or new l 0 ≤ get_or more l 0
      rises l h = omega (arith, cell l h, most_left (get_or new l 0) (get_or new k 0 + get_or arcs (k * 32 + l) 0 - arc_zero))

      -- What the variable has raised the ends of its arcs with.
      row_held : (j l v : ℕ) → j < width → l < width → v < get_or (set pushed k (get_or new k 0 + 1)) j 0
          → plus (matrix arcs marks j l) (fin (pos v)) ⊑ level more l
      row_held j l v c h i = ⊎_elim
          (λ (e : j ≡ k).
          let u : v ≤ get_or new k 0 = omega (arith, rw (e, set_here pushed k (get_or new k 0 + 1) (omega (arith, p.done_length, table.width_most))) at i) in
          rw (e, raised_level l h) (⊑_trans (plus_mono (⊑_refl (matrix arcs marks k l)) (whole_least (omega whole))) (larger_right (level new l) _)))
          (λ (e : j ≡ k → ⊥).
          rw (raised_level l h) (⊑_trans (p.held j l v c h (rw (set_there pushed k j (get_or new k 0 + 1) e) at i)) (larger_left (level new l) _)))
          (same_or_not j k)

      -- A marked variable raises the values at the ends of its arcs.
      pub pushing_row : get_or pushed k 0 ≤ get_or new k 0 → Pushing arcs marks width values done (k + 1) more (set pushed k (get_or new k 0 + 1)) true
      pushing_row u = record {
        length_is = r.same ∙ p.length_is;
        done_length = length-set pushed k (get_or new k 0 + 1) ∙ p.done_length;
        small = λ l h. let m = most_one (get_or new l 0) (get_or new k 0 + get_or arcs (k * 32 + l) 0 - arc_zero) in
            ⊎_elim (λ q. omega (arith, cell l h, table.cells k l b h)) (λ q. omega (arith, cell l h, p.small l h)) m;
        held = row_held;
        swept = swept_more p.swept b raised_level;
        passed = one_more k
            (λ j h m. rw (set_there pushed k j (get_or new k 0 + 1) (λ e. omega arith)) (p.passed j h m))
            (λ m. rw (set_here pushed k (get_or new k 0 + 1) (omega (arith, p.done_length, table.width_most))) (omega (whole, fin_below (p.swept.grows k b))));
        others = λ j h. set_there pushed k j (get_or new k 0 + 1) (λ e. omega arith) ∙ p.others j (omega arith);
        still = λ e. absurd (false≢true (sym e));
        moves = λ e h. omega (arith, h k b (omega arith), p.others k (omega arith), rises k b);
      }

  -- Variables that are not marked are passed over.
  pub pushing_over : {values done new pushed : List ℕ} {k : ℕ} {moved : Bool} (j : ℕ) → Pushing arcs marks width values done k new pushed moved → k ≤ j → j ≤ width
      → ((i : ℕ) → k ≤ i → i < j → Marked marks i → ⊥) → Pushing arcs marks width values done j new pushed moved
  pushing_over {k = k} zero p h b none = let e : k ≡ 0 = omega arith in rw e at p
  pushing_over {k = k} (suc j) p h b none = ⊎_elim
      (λ (l : suc j ≤ k). let e : k ≡ suc j = omega arith in rw e at p)
      (λ (l : k < suc j).
      rw (← add-one) (pushing_unmarked (pushing_over j p (omega arith) (omega arith) (λ i c d. none i c (omega arith))) (omega arith)
      (⊎_elim (λ e. e) (λ q. absurd (none j (omega arith) (omega arith) q)) (eq-zero-or-pos (get_or marks j 0)))))
      (nat_le_or_lt (suc j) k)

  -- A variable of the order has its turn once those before it have had theirs; at the end all have.
  module _ {places : List ℕ} {count : ℕ} (o : Ordered marks width places count) {values done new pushed : List ℕ} {i : ℕ} {moved : Bool}
      (p : Pushing arcs marks width values done (past places i) new pushed moved) where
    pub pushing_turn : i < count → Pushing arcs marks width values done (get_or places i 0) new pushed moved
    pushing_turn h = pushing_over (get_or places i 0) p (o.ascending i h) (omega (arith, o.inside i h)) (λ j. o.between i j h)

    pub pushing_all : i ≡ count → Pushing arcs marks width values done width new pushed moved
    pushing_all e = pushing_over width p (past_most o i (omega arith)) (omega arith) (rw (← e) at o.after)

  -- ---- rounds

  pub rounds_start : Rounds arcs marks width 0 (replicate 32 0) (replicate 32 0)
  unfolding anywhere
  rounds_start = record {
    ready = record {
      length_is = refl;
      done_length = refl;
      small = λ j b. rw (zeros 32 j) (omega arith);
      held = λ j l v b c h. absurd (omega (arith, zeros 32 j));
    };
    climbed = climbed_start (backward arcs marks) anywhere width (λ j b. ap (λ k. fin (pos k)) (zeros 32 j));
    passed = λ k e. absurd (omega arith);
    moved = λ k e. absurd (omega arith);
  }

  -- A round in which nothing moved.
  pub rounds_still : {values done new pushed : List ℕ} {moved : Bool} → Pushing arcs marks width values done width new pushed moved
      → moved ≡ false → NoneGains arcs marks width
  rounds_still {new = new} p e j n w b r =
      potential_closed {e = level new} (record { bounds = λ j l h i. p.still e l j i h }) b (finite_fin (pos (get_or new j 0))) (entries_back {W = matrix arcs marks} b r)

  -- One in which something did.
  pub rounds_more : {i : ℕ} {values done new pushed : List ℕ} {moved : Bool} → Rounds arcs marks width i values done
      → Pushing arcs marks width values done width new pushed moved → moved ≡ true → Rounds arcs marks width (i + 1) new pushed
  rounds_more {i} {values} {done} {new} {pushed} r p t = record {
    ready = record { length_is = p.length_is; done_length = p.done_length; small = p.small; held = p.held };
    climbed = rw add-one next;
    passed = λ k e j v b m h.
        let f : k ≡ i = omega arith in
        let low : fin (pos v) ⊑ level values j = ⊑_trans (rw f at h) (r.climbed.lower j b) in
        omega (whole, fin_below low, p.passed j b m);
    moved = λ k e f. p.moves t (λ j b m. r.passed k (omega arith) j (get_or new j 0) b m (climbed_under (backward arcs marks) anywhere width next k f j b));
  }
    where
      next : Climbed (backward arcs marks) anywhere width (suc i) (level new)
      next = climbed_more (backward arcs marks) anywhere width r.climbed p.swept

  -- Some closed walk gains.
  some_gains : SomeGain (backward arcs marks) width → SomeGains arcs marks width
  some_gains s = let g : SomeGain (matrix arcs marks) width = gain_back s in record { from = g.from; gain = g.gain }

  -- No entry is above the heaviest arc,
  entry_most : (j l : ℕ) → j < width → l < width → matrix arcs marks j l ⊑ fin (pos arc_most)
  entry_most j l b c = ⊎_elim
      (λ (z : get_or marks j 0 ≡ 0). rw (unmarked j l z) blank_least)
      (λ (z : 0 < get_or marks j 0). rw (marked j l (λ e. omega arith)) (weight_most (get_or arcs (j * 32 + l) 0) (table.cells j l b c)))
      (eq-zero-or-pos (get_or marks j 0))

  -- and no value above as many of these as there were rounds.
  value_most : (i j : ℕ) → j < width → value_at (backward arcs marks) anywhere width i j ⊑ fin (pos (i * arc_most))
  unfolding value_at anywhere
  value_most zero j b = ⊑_refl (fin (pos 0))
  value_most (suc i) j b = round_least (backward arcs marks) anywhere width i j (whole_least (omega whole))
      (λ l c. ⊑_trans (plus_mono (entry_most l j c b) (value_most i l c)) (rw plus_fin (whole_least more)))
    where
      more : (pos arc_most +ℤ pos (i * arc_most)) ≤ℤ pos (suc i * arc_most)
      more = omega (whole, plus_read (pos arc_most) (pos (i * arc_most)))

  -- A round that was whole; and one that stopped at a value above the limit.
  pub ended_whole : {values done new pushed : List ℕ} {r : Option Bool} {moved : Bool} → Ended arcs marks width values done new pushed r → r ≡ Some moved
      → Pushing arcs marks width values done width new pushed moved
  ended_whole {moved = moved} (finished {moved = was} p) e = let f : was ≡ moved = cc in rw f at p
  ended_whole (stopped p h a) e = absurd (let z : ◌≡◌ {A = ℕ} 0 1 = cc in omega arith)

  pub rounds_beyond : {i : ℕ} {values done new pushed : List ℕ} {r : Option Bool} → Rounds arcs marks width i values done
      → Ended arcs marks width values done new pushed r → r ≡ None → SomeGains arcs marks width
  rounds_beyond s (finished p) e = absurd (let z : ◌≡◌ {A = ℕ} 0 1 = cc in omega arith)
  rounds_beyond s (stopped {l = l} p h a) e = some_gains (climbed_beyond (backward arcs marks) anywhere width
      (climbed_part (backward arcs marks) anywhere width s.climbed p.swept) (fin (pos walk_limit))
      (λ j b. ⊑_trans (value_most (width - 1) j b) (whole_least (omega (whole, table.width_most)))) (omega arith)
      (λ q. omega (whole, fin_below (q l h))))

  -- More rounds than variables, in each of which something moved.
  pub rounds_end : {i : ℕ} {values done : List ℕ} → Rounds arcs marks width i values done → i ≡ width + 1 → 0 < width → SomeGains arcs marks width
  rounds_end r q h = ⊎_elim (λ f. absurd (r.moved (width - 1) (omega arith) f)) some_gains
      (all_fixed_or_gains (backward arcs marks) anywhere width (width - 1) width (omega arith) (omega arith))

  -- Below k every value of the matrix is fixed, or a closed walk gains. For `checker`.
  pub all_or_gain : (i k : ℕ) → k ≤ width → width ≤ suc i
      → ((j : ℕ) → j < k → value_at (matrix arcs marks) anywhere width (suc i) j ≡ value_at (matrix arcs marks) anywhere width i j) ⊎ SomeGains arcs marks width
  all_or_gain i k b h = ⊎_elim
      (λ f. inl f)
      (λ g. inr (record { from = g.from; gain = g.gain }))
      (all_fixed_or_gains (matrix arcs marks) anywhere width i k b h)
