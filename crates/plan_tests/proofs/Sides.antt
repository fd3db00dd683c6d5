-- The sides of a row on offset numbers are the sides of the definitions.
use Prim.Native.Nat.{ℕ, zero, suc, ◌+◌, ◌*◌, ◌-◌, ◌≤◌, ◌<◌}
use mathlib.Core.Path.{◌≡◌, refl, ap, sym, ◌∙◌}
use mathlib.Core.Bool.{Bool, true, false, ◌&&◌}
use mathlib.Core.List.{List}
use mathlib.Core.Logic.{◌⊎◌, inl, inr, ⊎_elim, ◌↔◌}
use native.Mathlib.Omega.{arith}
use native.Mathlib.Nat.{eq-zero-or-pos, mul-le-mul_right}
use native.Mathlib.Numerals.{add-one}
use lib.Dec.{leb}
use lib.ListN.{get_or}
use lib.IntN.{ℤ, ◌-ℤ◌}
use borrow.Author.Tests.{eq-eqb, ne_eqb, leb-true, leb-false}
use Rattle.base.specs.Numbers.{most}
use Rattle.base.specs.Decides.{Decides}
use Rattle.base.proofs.Numbers.{nat_le_or_lt, positive, most_one, most_left, most_right, most_under}
use Rattle.base.proofs.Decides.{decides_as, said_yes, said_no}
use Rattle.definitions.specs.Limits.{signed_half, lead_limit, stamp_limit, signed_bytes, problem_most}
use Rattle.definitions.specs.Tropical.{Trop, bot, fin, plus, blank_least, larger, largest}
use Rattle.definitions.specs.Problem.{Keeps, side, value, minus, minus_infinity, plus_infinity, whole}
use Rattle.definitions.specs.ProblemRecord.{n_field, left_place, right_place, problem_of}
use Rattle.definitions.specs.Offset.{trop_of, off}
use Rattle.definitions.proofs.Whole as Whole
use Rattle.definitions.proofs.Whole.{minus_read}
use Rattle.definitions.proofs.Tropical.{⊑_refl, ⊑_antisym, larger_left, larger_least, largest_ext, bot_plus, plus_bot}
use Rattle.definitions.proofs.Offset.{off_off, trop_zero, trop_fin, trop_read, trop_order, trop_larger, plus_trop}
use Rattle.records.specs.Decoded.{Near}
use Rattle.records.proofs.ProblemHeader.{product_most}
use Rattle.problem_records.specs.Tables.{Laid}
use Rattle.problem_records.proofs.LeadTables.{row_inside, left_near_at, right_near_at, left_lead_means, right_lead_means}
use Rattle.records.specs.Stamps.{Stamped, stamps_point}
use Rattle.plan_tests.specs.Sides.{stamp_drop, lowered, Lowered, side_floor, run, best_sum, side_by, side_of, Low, RowSized}

-- ---- the largest sum

module _ (f : ℕ → ℕ) (x : List ℕ) where
  pub best_none : best_sum f x 0 ≡ side_floor
  unfolding best_sum
  best_none = refl

  pub best_more : (k : ℕ) → best_sum f x (k + 1) ≡ most (best_sum f x k) (f k + get_or x k 0)
  unfolding best_sum
  best_more k = rw add-one

  -- As the offset number of a field: at the start, and with one sum more.
  pub best_start : {r : ℕ} → r ≡ off side_floor → off r ≡ best_sum f x 0
  best_start e = rw e (off_off side_floor (omega arith)) ∙ sym best_none

  pub best_turn : (k : ℕ) {a b v : ℕ} → a ≡ best_sum f x k → b ≡ f k + get_or x k 0 → v ≡ most a b → v ≡ best_sum f x (k + 1)
  best_turn k e g h = rw (best_more k, h, e, g) refl

  -- It is at least the floor,
  pub best_floor : (k : ℕ) → side_floor ≤ best_sum f x k
  unfolding best_sum
  best_floor zero = omega arith
  best_floor (suc k) = omega (arith, best_floor k, most_left (best_sum f x k) (f k + get_or x k 0))

  -- and at most what the floor and all sums are.
  pub best_under : (k bound : ℕ) → side_floor ≤ bound → ((l : ℕ) → l < k → f l + get_or x l 0 ≤ bound) → best_sum f x k ≤ bound
  unfolding best_sum
  best_under zero bound b h = b
  best_under (suc k) bound b h =
      let i : best_sum f x k ≤ bound = best_under k bound b (λ l c. h l (omega arith)) in
      let j : f k + get_or x k 0 ≤ bound = h k (omega arith) in
      ⊎_elim (λ q. omega arith) (λ q. omega arith) (most_one (best_sum f x k) (f k + get_or x k 0))

  -- Whether it is at most a limit: at the start it is,
  pub under_none : (limit : ℕ) → side_floor ≤ limit → Decides (best_sum f x 0 ≤ limit) true
  under_none limit h = said_yes (omega (arith, best_none))

  -- and with one sum more.
  pub under_more : (k limit : ℕ) {sum : ℕ} {r : Bool} → Decides (best_sum f x k ≤ limit) r → sum ≡ f k + get_or x k 0
      → Decides (best_sum f x (k + 1) ≤ limit) (r && leb sum limit)
  under_more k limit {sum} {r = true} d e = decides_as
      (λ h. omega (arith, best_more k, most_under (best_sum f x k) (f k + get_or x k 0) limit (d.yes refl) (omega arith)))
      (λ h. omega (arith, best_more k, most_right (best_sum f x k) (f k + get_or x k 0)))
      (record { yes = leb-true sum limit; no = λ q h. omega (arith, leb-false sum limit q) })
  under_more k limit {sum} {r = false} d e = said_no (λ h. d.no refl (omega (arith, best_more k, most_left (best_sum f x k) (f k + get_or x k 0))))

-- ---- what it stands for

larger_blank : (x : Trop) → larger x bot ≡ x
larger_blank x = ⊑_antisym (larger_least (⊑_refl x) blank_least) (larger_left x bot)

-- What a best sum stands for: blank at the floor, else the sum.
pub side_none : {b : ℕ} → b ≡ side_floor → side_by b ≡ 0
side_none {b} e = rw (eq-eqb b side_floor e)

pub side_some : {b : ℕ} → (b ≡ side_floor → ⊥) → side_by b ≡ b - stamp_drop
side_some {b} d = rw (ne_eqb b side_floor d)

-- A side is blank, or its best sum is above the floor.
side_cases : (b : ℕ) → side_floor ≤ b → ((b ≡ side_floor) × (side_by b ≡ 0)) ⊎ ((side_floor < b) × (side_by b ≡ b - stamp_drop))
side_cases b h = ⊎_elim
    (λ (l : b ≤ side_floor). let e : b ≡ side_floor = omega arith in inl (e, side_none e))
    (λ (l : side_floor < b). inr (l, side_some (λ e. omega arith)))
    (nat_le_or_lt b side_floor)

trop_most : (a b : ℕ) → larger (trop_of a) (trop_of b) ≡ trop_of (most a b)
unfolding most
trop_most a b = trop_larger a b

-- A stamp that is not blank.
lowered_some : {e : ℕ} → 0 < e → lowered e ≡ e - stamp_drop
unfolding lowered
lowered_some {e} h = rw (ne_eqb e 0 (omega arith))

lowered_none : {e : ℕ} → e ≡ 0 → lowered e ≡ 0
unfolding lowered
lowered_none {e} z = rw (eq-eqb e 0 z)

lowered_small : (e : ℕ) → Near stamp_limit e → lowered e ≤ stamp_drop + stamp_limit
lowered_small e near = ⊎_elim
    (λ (z : e ≡ 0). omega (arith, lowered_none z))
    (λ (h : 0 < e). omega (arith, lowered_some h, near.hi))
    (eq-zero-or-pos e)

-- They are in range.
pub low_small : {stamps : List ℕ} {k : ℕ} {x : List ℕ} → Stamped stamps → Lowered stamps k x → Low x
low_small {stamps} {k} stamped low l = ⊎_elim
    (λ (b : k ≤ l). omega (arith, low.rest l b))
    (λ (b : l < k). rw (low.each l b) (lowered_small (get_or stamps l 0) (stamped.near l)))
    (nat_le_or_lt k l)

-- One more term: a coefficient and a stamp, either of which may be blank.
term_more : (b c e : ℕ) → side_floor ≤ b → Near lead_limit c → Near stamp_limit e
    → larger (trop_of (side_by b)) (plus (trop_of c) (trop_of e)) ≡ trop_of (side_by (most b (c + lowered e)))
term_more b c e h near near' = ⊎_elim
    (λ (z : c ≡ 0). blank (rw (z, trop_zero) (bot_plus _)) (omega (arith, lowered_small e near')))
    (λ (z : 0 < c). ⊎_elim
    (λ (y : e ≡ 0). blank (rw (y, trop_zero) (plus_bot _)) (omega (arith, near.hi, lowered_none y)))
    (λ (y : 0 < e).
    let l : lowered e ≡ e - stamp_drop = lowered_some y in
    let q : c + e - signed_half ≡ c + lowered e - stamp_drop = omega (arith, near.lo z, near'.lo y) in
    rw (plus_trop c e z y (omega (arith, near.lo z, near'.lo y)), q) (trop_most _ _ ∙ ap trop_of (both (omega (arith, near.lo z, near'.lo y)))))
    (eq-zero-or-pos e))
    (eq-zero-or-pos c)
  where
    blank : plus (trop_of c) (trop_of e) ≡ bot → c + lowered e < side_floor
        → larger (trop_of (side_by b)) (plus (trop_of c) (trop_of e)) ≡ trop_of (side_by (most b (c + lowered e)))
    blank q l =
        let d : most b (c + lowered e) ≡ b = ⊎_elim (λ r. omega arith) (λ r. omega arith) (most_one b (c + lowered e)) in
        rw (q, d) (larger_blank _)

    both : side_floor < c + lowered e → most (side_by b) (c + lowered e - stamp_drop) ≡ side_by (most b (c + lowered e))
    both l = ⊎_elim
        (λ r. ⊎_elim
        (λ s. let d : side_by (most b (c + lowered e)) ≡ most b (c + lowered e) - stamp_drop = side_some (λ k. omega arith) in
        ⊎_elim (λ t. omega arith) (λ t. omega arith) (most_one (side_by b) (c + lowered e - stamp_drop)))
        (λ s. let d : side_by (most b (c + lowered e)) ≡ most b (c + lowered e) - stamp_drop = side_some (λ k. omega arith) in
        ⊎_elim (λ t. omega arith) (λ t. omega arith) (most_one (side_by b) (c + lowered e - stamp_drop)))
        (side_cases b h))
        (λ r. ⊎_elim
        (λ s. absurd (omega arith))
        (λ s. let d : side_by (most b (c + lowered e)) ≡ most b (c + lowered e) - stamp_drop = side_some (λ k. omega arith) in
        ⊎_elim (λ t. omega arith) (λ t. omega arith) (most_one (side_by b) (c + lowered e - stamp_drop)))
        (side_cases b h))
        (most_one b (c + lowered e))

-- The largest of the terms.
terms_value : (f : ℕ → ℕ) (stamps x : List ℕ) (k : ℕ) → ((l : ℕ) → l < k → Near lead_limit (f l)) → ((l : ℕ) → Near stamp_limit (get_or stamps l 0))
    → ((l : ℕ) → l < k → get_or x l 0 ≡ lowered (get_or stamps l 0))
    → trop_of (side_by (best_sum f x k)) ≡ largest (λ l. plus (trop_of (f l)) (trop_of (get_or stamps l 0))) k
unfolding largest best_sum
terms_value f stamps x zero near g d = trop_zero
terms_value f stamps x (suc k) near g d =
    sym (ap (λ z. larger z (plus (trop_of (f k)) (trop_of (get_or stamps k 0)))) (sym (terms_value f stamps x k (λ l b. near l (omega arith)) g (λ l b. d l (omega arith))))
    ∙ term_more (best_sum f x k) (f k) (get_or stamps k 0) (best_floor f x k) (near k (omega arith)) (g k)
    ∙ ap (λ e. trop_of (side_by (most (best_sum f x k) (f k + e)))) (sym (d k (omega arith))))

-- A larger sum stands for a later side.
side_order : {a b : ℕ} → side_floor ≤ a → a ≤ b → side_by a ≤ side_by b
side_order {a} {b} h k = ⊎_elim
    (λ r. omega arith)
    (λ r. ⊎_elim (λ q. omega arith) (λ q. omega arith) (side_cases b (omega arith)))
    (side_cases a h)

side_strict : {a b : ℕ} → side_floor ≤ a → a < b → side_by a < side_by b
side_strict {a} {b} h k = ⊎_elim
    (λ r. ⊎_elim (λ q. omega arith) (λ q. omega arith) (side_cases b (omega arith)))
    (λ r. ⊎_elim (λ q. omega arith) (λ q. omega arith) (side_cases b (omega arith)))
    (side_cases a h)

-- A side in range: below 2³².
pub side_small : {s : List ℕ} {at count : ℕ} {x : List ℕ} → RowSized s at count x → side_of (run s at) x count ≤ 4294967296
unfolding side_of
side_small {s} {at} {count} {x} z =
    let q : best_sum (run s at) x count ≤ 4294967296 =
    best_under (run s at) x count 4294967296 (omega arith) (λ l b. omega (arith, (z.leads l b).hi, z.points l)) in
    ⊎_elim (λ r. omega arith) (λ r. omega arith) (side_cases (best_sum (run s at) x count) (best_floor (run s at) x count))

-- A row of the full width.
pub full : {n : ℕ} → n ≡ 31 → n + 1 ≡ 32
full e = omega arith

-- ---- the rows of a problem

-- A row ends within the longest problem.
pub row_small : {s : List ℕ} {n m : ℕ} → Laid s n m → (i : ℕ) {left : ℕ} → i ≤ m → left ≡ left_place n i 0 → left + 2 * signed_bytes * (n + 1) ≤ problem_most
row_small {n = n} {m} laid i row place = omega (arith, mul-le-mul_right {m = i + 1} {n = m + 1} (n + 1) (omega arith), product_most n m laid.n_most laid.m_most)

-- Both sides of row i are in range.
module _ {s : List ℕ} {n m : ℕ} (laid : Laid s n m) {x : List ℕ} (small : Low x) (i : ℕ) {left right : ℕ} (row : i ≤ m) (place : left ≡ left_place n i 0)
    (next : right ≡ right_place n i 0) where
  pub left_sized : RowSized s left (n + 1) x
  left_sized = record {
    inside = omega (arith, row_inside laid i row);
    few = omega (arith, laid.n_most);
    leads = λ l h. left_near_at laid i left l row place (omega arith);
    points = small;
  }

  pub right_sized : RowSized s right (n + 1) x
  right_sized = record {
    inside = omega (arith, row_inside laid i row);
    few = omega (arith, laid.n_most);
    leads = λ l h. let e : right ≡ left + 4 * (n + 1) = omega arith in rw e (right_near_at laid i left l row place (omega arith));
    points = small;
  }

module _ {s : List ℕ} {n m : ℕ} (laid : Laid s n m) {stamps x : List ℕ} (stamped : Stamped stamps) (low : Lowered stamps (n + 1) x) where
  module _ (i : ℕ) {left right : ℕ} (row : i ≤ m) (place : left ≡ left_place n i 0) (next : right ≡ right_place n i 0) where
    one_side : (at : ℕ) (coefficients : ℕ → Trop) → RowSized s at (n + 1) x → ((j : ℕ) → j ≤ n → trop_of (run s at j) ≡ coefficients j)
        → trop_of (side_of (run s at) x (n + 1)) ≡ side (problem_of s).n coefficients (stamps_point stamps)
    unfolding side side_of stamps_point problem_of
    one_side at coefficients sized is =
        terms_value (run s at) stamps x (n + 1) sized.leads stamped.near low.each
        ∙ largest_ext _ _ (n + 1) (λ j b. ap (λ z. plus z (trop_of (get_or stamps j 0))) (is j (omega arith)))
        ∙ (let e : n + 1 ≡ suc (n_field s) = omega (arith, laid.n_is) in ap (largest (λ j. plus (coefficients j) (trop_of (get_or stamps j 0)))) e)

    -- The left side of the row, and the right side.
    pub left_side : trop_of (side_of (run s left) x (n + 1)) ≡ side (problem_of s).n ((problem_of s).left i) (stamps_point stamps)
    left_side = one_side left ((problem_of s).left i) (left_sized laid (low_small stamped low) i row place next) (λ j b.
        let e : left + 4 * j ≡ left_place n i j = omega arith in rw e (left_lead_means laid i j row b))

    pub right_side : trop_of (side_of (run s right) x (n + 1)) ≡ side (problem_of s).n ((problem_of s).right i) (stamps_point stamps)
    right_side = one_side right ((problem_of s).right i) (right_sized laid (low_small stamped low) i row place next) (λ j b.
        let e : right + 4 * j ≡ right_place n i j = omega arith in rw e (right_lead_means laid i j row b))

    -- The row is kept exactly when no left sum is above the right side.
    pub row_kept : {r : Bool} → Decides (best_sum (run s left) x (n + 1) ≤ best_sum (run s right) x (n + 1)) r → Decides (Keeps (problem_of s) (stamps_point stamps) i) r
    unfolding side_of
    row_kept d = decides_as
        (λ h. rw (← left_side, ← right_side) ((trop_order _ _).1 (side_order (best_floor (run s left) x (n + 1)) h)))
        (λ k. ⊎_elim
        (λ h. h)
        (λ h. absurd (omega (arith, side_strict (best_floor (run s right) x (n + 1)) h, (trop_order (side_of (run s left) x (n + 1)) (side_of (run s right) x (n + 1))).0 (rw (left_side, right_side) k))))
        (nat_le_or_lt (best_sum (run s left) x (n + 1)) (best_sum (run s right) x (n + 1))))
        d

  m_of : (problem_of s).m ≡ m
  unfolding problem_of
  m_of = laid.m_is

  -- The value: first side less second side, where both are whole.
  module _ {left right : ℕ} (place : left ≡ left_place n m 0) (next : right ≡ right_place n m 0) where
    abbrev first : ℕ
    first = side_of (run s left) x (n + 1)

    abbrev second : ℕ
    second = side_of (run s right) x (n + 1)

    value_sides : value (problem_of s) (stamps_point stamps) ≡ minus (trop_of first) (trop_of second)
    unfolding value
    value_sides = rw (left_side m (omega arith) place next, right_side m (omega arith) place next, m_of)

    pub first_blank : {z : ℤ} → side_of (run s left) x (n + 1) ≡ 0 → value (problem_of s) (stamps_point stamps) ≡ whole z → ⊥
    unfolding minus
    first_blank {z} e v = let q : minus_infinity ≡ whole z = sym (value_sides ∙ rw (e, trop_zero)) ∙ v in differ q
      where
        differ : minus_infinity ≡ whole z → ⊥
        differ q = let d : ◌≡◌ {A = ℕ} 0 1 = cc in omega arith

    pub second_blank : {z : ℤ} → (side_of (run s left) x (n + 1) ≡ 0 → ⊥) → side_of (run s right) x (n + 1) ≡ 0 → value (problem_of s) (stamps_point stamps) ≡ whole z → ⊥
    unfolding minus
    second_blank {z} d e v =
        let q : plus_infinity ≡ whole z = sym (value_sides ∙ rw (trop_fin first (positive _ d), e, trop_zero)) ∙ v in differ q
      where
        differ : plus_infinity ≡ whole z → ⊥
        differ q = let d : ◌≡◌ {A = ℕ} 0 1 = cc in omega arith

    -- Both whole: the value is their difference.
    pub value_read : (span : ℕ) {z : ℤ} → (side_of (run s left) x (n + 1) ≡ 0 → ⊥) → (side_of (run s right) x (n + 1) ≡ 0 → ⊥) → trop_of span ≡ fin z
        → (value (problem_of s) (stamps_point stamps) ≡ whole z) ↔ (side_of (run s left) x (n + 1) + signed_half ≡ side_of (run s right) x (n + 1) + span)
    unfolding minus
    value_read span {z} d d' e = (
      λ v. let k : a -ℤ b ≡ z = same (sym is ∙ v) in
          omega (Whole.whole, read, read', trop_read span e, minus_read a b),
      λ q. is ∙ ap whole (let k : a -ℤ b ≡ z = omega (Whole.whole, read, read', trop_read span e, minus_read a b) in k),
    )
      where
        a : ℤ
        a = lib.IntN.sub_ℕ first signed_half

        b : ℤ
        b = lib.IntN.sub_ℕ second signed_half

        read : Whole.up a + signed_half ≡ first + Whole.down a
        read = Whole.subℕ_read first signed_half

        read' : Whole.up b + signed_half ≡ second + Whole.down b
        read' = Whole.subℕ_read second signed_half

        is : value (problem_of s) (stamps_point stamps) ≡ whole (a -ℤ b)
        is = value_sides ∙ rw (trop_fin first (positive _ d), trop_fin second (positive _ d'))

        same : {u v : ℤ} → whole u ≡ whole v → u ≡ v
        same q = cc
