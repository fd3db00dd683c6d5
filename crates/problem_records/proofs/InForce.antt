-- The record in force: states judged one by one, its bytes filled row by row, and what it means: the problem of the record of kind 5,
-- as a record of kind 1. Document 02, 2.10.
use Prim.Native.Nat.{ℕ, zero, suc, ◌+◌, ◌*◌, ◌-◌, ◌/◌, ◌%◌, ◌≤◌, ◌<◌}
use mathlib.Core.Path.{◌≡◌, refl, ap, sym, ◌∙◌}
use mathlib.Core.Bool.{Bool, true, false, not, cond, ◌&&◌, ◌||◌}
use mathlib.Core.Logic.{⊎_elim}
use mathlib.Core.List.{List, [], ◌∷◌, append-nil}
use native.Mathlib.Omega.{arith}
use native.Mathlib.Nat.{mul-le-mul_left, mul-le-mul_right}
use lib.Dec.{eqb, ltb, leb}
use lib.ListN.{length, get_or}
use borrow.Author.Tests.{eq-eqb, ne_eqb, lt-ltb, le-ltb, leb-true}
use Rattle.base.specs.Filled.{FilledFrom}
use Rattle.base.proofs.Numbers.{nat_le_or_lt}
use Rattle.definitions.specs.Limits.{highest_n, highest_m, length_bytes, short_bytes, signed_half, problem_kind, states_kind, states_place, problem_header, problem_most, table_size}
use Rattle.definitions.specs.Tropical.{bot}
use Rattle.definitions.specs.Bytes.{Bytes, num_at, le, trop_field, trop_at, some_below}
use Rattle.definitions.specs.Offset.{off}
use Rattle.definitions.specs.ProblemRecord.{kind_field, n_field, m_field, state_field, wrong_state, leads_place, row_place, left_from, right_from, left_place, right_place, suspended, header_bytes, problem_of, problem_size}
use Rattle.definitions.specs.Questions.{rows_size}
use Rattle.definitions.proofs.Bytes.{num_at_same}
use Rattle.definitions.proofs.Agree.{Agree}
use Rattle.definitions.proofs.Layouts.{left_within, right_within}
use Rattle.definitions.proofs.Suspended.{plain_left, plain_right}
use Rattle.definitions.proofs.ProblemBack.{read_kind, read_n, read_m}
use Rattle.problem_records.specs.Tables.{cell, cell_of, lead_at, left_table, right_table, Laid}
use Rattle.problem_records.specs.Filling.{Framed, Tabled}
use Rattle.problem_records.specs.InForce.{blank_byte, lifted, row_byte, StatesHeld, RowsInForce, InForce}
use Rattle.problem_records.proofs.Leads.{some_last}
use Rattle.problem_records.proofs.Tables.{is_list_of}

-- ---- states

-- A state above 1 is neither 0 nor 1.
above_one : (w : ℕ) → ltb 1 w ≡ not (eqb w 0 || eqb w 1)
above_one zero = refl
above_one (suc zero) = refl
above_one (suc (suc w)) = rw (lt-ltb 1 (suc (suc w)) (omega arith), ne_eqb (suc (suc w)) 0 (λ e. omega arith), ne_eqb (suc (suc w)) 1 (λ e. omega arith)) refl

pub state_tested : (s : List ℕ) (i : ℕ) {w : ℕ} → w ≡ state_field s i → ltb 1 w ≡ wrong_state s i
state_tested s i {w} e = rw (← e) (above_one w)

-- Where kind 5 is judged, its states are; another kind has none.
pub states_of_five : {r : Bool} (s : List ℕ) (kind m : ℕ) → kind ≡ states_kind → r ≡ some_below (wrong_state s) m → r ≡ (eqb kind states_kind && some_below (wrong_state s) m)
states_of_five s kind m e f = rw (eq-eqb kind states_kind e) f

pub states_of_others : (s : List ℕ) (kind m : ℕ) → (kind ≡ states_kind → ⊥) → false ≡ (eqb kind states_kind && some_below (wrong_state s) m)
states_of_others s kind m d = rw (ne_eqb kind states_kind d)

-- None below 0 is wrong.
pub states_none : (test : ℕ → Bool) → some_below test 0 ≡ false
unfolding some_below
states_none test = refl

-- None below i is wrong; one more is not; one is; none of all is.
pub states_more : (test : ℕ → Bool) (i : ℕ) {r : Bool} → some_below test i ≡ false → r ≡ test i → r ≡ false → some_below test (i + 1) ≡ false
unfolding some_below
states_more test i none e f =
    let next : i + 1 ≡ suc i = omega arith in
    let here : test i ≡ false = sym e ∙ f in
    rw (next, none, here)

pub states_some : (test : ℕ → Bool) (m i : ℕ) {r : Bool} → i < m → r ≡ test i → r ≡ true → true ≡ some_below test m
states_some test m i h e f = some_last test i m h (sym e ∙ f)

pub states_end : (test : ℕ → Bool) (m i : ℕ) → i ≤ m → m ≤ i → some_below test i ≡ false → false ≡ some_below test m
states_end test m i h g none = let e : m ≡ i = omega arith in rw e (sym none)

-- A rule is suspended, or not.
pub lifted_question : (s : List ℕ) (m i : ℕ) → m ≤ i → false ≡ lifted s m i
lifted_question s m i h = rw (le-ltb i m h)

pub lifted_rule : (s : List ℕ) (m i : ℕ) {w : ℕ} → i < m → w ≡ state_field s i → eqb w 0 ≡ lifted s m i
lifted_rule s m i h e = rw (lt-ltb i m h, ← e)

-- ---- bytes

pub blank_last : (k : ℕ) → k % 4 ≡ 3 → 128 ≡ blank_byte k
blank_last k e = rw (eq-eqb (k % 4) 3 e)

pub blank_other : (k : ℕ) → (k % 4 ≡ 3 → ⊥) → 0 ≡ blank_byte k
blank_other k d = rw (ne_eqb (k % 4) 3 d)

-- A row is put: blank, or as it stands.
module _ (s : List ℕ) (n m i : ℕ) {r : Bool} {old new : List ℕ} (e : r ≡ lifted s m i) where
  pub row_blank_lem : {at count : ℕ} → r ≡ true → at ≡ left_place n i 0 → count ≡ 2 * 4 * (n + 1) → FilledFrom blank_byte at count old new
      → FilledFrom (row_byte s n m i) (row_place problem_header n i) (rows_size n 1) old new
  row_blank_lem {at} {count} f p c l =
      let is : lifted s m i ≡ true = sym e ∙ f in
      let place : at ≡ row_place problem_header n i = omega arith in
      let size : count ≡ rows_size n 1 = omega arith in
      let l' = rw (place, size) at l in
      record { same = l'.same; before = l'.before; cells = λ k b. rw is (l'.cells k b); after = l'.after }

  pub row_stands : {at from count : ℕ} → r ≡ false → at ≡ left_place n i 0 → from ≡ at + 2 * m → count ≡ 2 * 4 * (n + 1)
      → FilledFrom (λ k. get_or s (from + k) 0) at count old new → FilledFrom (row_byte s n m i) (row_place problem_header n i) (rows_size n 1) old new
  row_stands {at} {from} {count} f p g c l =
      let is : lifted s m i ≡ false = sym e ∙ f in
      let place : at ≡ row_place problem_header n i = omega arith in
      let start : from ≡ row_place (states_place + short_bytes * m) n i = omega arith in
      let size : count ≡ rows_size n 1 = omega arith in
      let l' = rw (place, start, size) at l in
      record { same = l'.same; before = l'.before; cells = λ k b. rw is (l'.cells k b); after = l'.after }

-- Row i of m + 1 lies inside, in the record and in the room.
pub row_lies : {s : List ℕ} {n m : ℕ} → StatesHeld s n m → (i : ℕ) {at : ℕ} → i ≤ m → at ≡ left_place n i 0
    → (at + 2 * m + 2 * 4 * (n + 1) ≤ length s) × (at + 2 * 4 * (n + 1) ≤ problem_most)
row_lies {s} {n} {m} h i {at} g e =
    let row = mul-le-mul_right {m = i + 1} {n = m + 1} (n + 1) (omega arith) in
    let wide = mul-le-mul_right {m = n + 1} {n = 32} (m + 1) (omega (arith, h.n_most)) in
    (omega (arith, h.holds, row), omega (arith, row, wide, h.m_most))

-- Rows one after another.
pub rows_none : (s : List ℕ) (n m : ℕ) {room : List ℕ} → length room ≡ problem_most → RowsInForce s n m 0 room
rows_none s n m e = record { size_is = e; rows = λ i k h g. absurd (omega arith) }

pub rows_next : {s : List ℕ} {n m i : ℕ} {old new : List ℕ} → RowsInForce s n m i old → FilledFrom (row_byte s n m i) (row_place problem_header n i) (rows_size n 1) old new
    → RowsInForce s n m (i + 1) new
rows_next {s} {n} {m} {i} {old} {new} r l = record { size_is = l.same ∙ r.size_is; rows = λ j k h g. ⊎_elim (here j k g (omega arith)) (above j k g) (nat_le_or_lt i j) }
  where
    here : (j k : ℕ) → k < rows_size n 1 → j ≤ i → i ≤ j → get_or new (row_place problem_header n j + k) 0 ≡ row_byte s n m j k
    here j k g b q = let e : j ≡ i = omega arith in rw e (l.cells k g)

    above : (j k : ℕ) → k < rows_size n 1 → j < i → get_or new (row_place problem_header n j + k) 0 ≡ row_byte s n m j k
    above j k g q = l.before _ (omega (arith, mul-le-mul_right {m = j + 1} {n = i} (n + 1) (omega arith))) ∙ r.rows j k q g

pub rows_done : {s : List ℕ} {n m i : ℕ} {room : List ℕ} → RowsInForce s n m i room → i ≤ m + 1 → m + 1 ≤ i → RowsInForce s n m (m + 1) room
rows_done {s} {n} {m} {i} {room} r h g = let e : i ≡ m + 1 = omega arith in rw e at r

-- The header in front of them.
pub headed : {s : List ℕ} {n m : ℕ} {old new : List ℕ} → RowsInForce s n m (m + 1) old → FilledFrom (λ k. get_or (header_bytes n m) (0 + k) 0) 0 problem_header old new → InForce s n m new
headed r l = record {
  header = λ k h. let e : 0 + k ≡ k = omega arith in rw e at (l.cells k h);
  in_force = record { size_is = l.same ∙ r.size_is; rows = λ i k h g. l.after _ (omega arith) ∙ r.rows i k h g };
}

-- ---- the header

module _ (n m long : ℕ) (n_most : n ≤ highest_n) (m_most : m ≤ highest_m) (is : long + 4 ≡ problem_header + rows_size n (m + 1)) where
  long_is : problem_size n m - length_bytes ≡ long
  long_is = omega arith

  pub long_small : long < 65536
  long_small =
      let wide = mul-le-mul_right {m = n + 1} {n = 32} (m + 1) (omega arith) in
      let high = mul-le-mul_left {m = m + 1} {n = 64} 32 (omega arith) in
      omega (arith, wide, high)

  -- Byte by byte.
  pub head_is : (long % 256) ∷ (long / 256 % 256) ∷ 0 ∷ 0 ∷ 1 ∷ 0 ∷ n ∷ 0 ∷ m ∷ 0 ∷ [] ≡ header_bytes n m
  unfolding header_bytes le
  head_is =
      let third : (long / 256 / 256) % 256 ≡ 0 = omega (arith, long_small) in
      let fourth : (long / 256 / 256 / 256) % 256 ≡ 0 = omega (arith, long_small) in
      let n-low : n % 256 ≡ n = omega arith in
      let n-high : (n / 256) % 256 ≡ 0 = omega arith in
      let m-low : m % 256 ≡ m = omega arith in
      let m-high : (m / 256) % 256 ≡ 0 = omega arith in
      rw (long_is, third, fourth, n-low, n-high, m-low, m-high) refl

-- ---- what the record in force means

module _ {s : List ℕ} {n m : ℕ} {room : List ℕ} (held : StatesHeld s n m) (f : InForce s n m room) where
  -- Its header.
  field : (at : ℕ) → at + 2 ≤ problem_header → num_at 2 room at ≡ num_at 2 (header_bytes n m) at
  field at h = num_at_same 2 room (header_bytes n m) at at (λ i b. f.header (at + i) (omega arith))

  room_kind : kind_field room ≡ problem_kind
  room_kind = field 4 (omega arith) ∙ rw append-nil at (read_kind n m [])

  room_n : n_field room ≡ n
  room_n = field 6 (omega arith) ∙ rw append-nil at (read_n n m [] (omega (arith, held.n_most)))

  room_m : m_field room ≡ m
  room_m = field 8 (omega arith) ∙ rw append-nil at (read_m n m [] (omega (arith, held.m_most)))

  -- Where the leads of the record start.
  start_is : leads_place (kind_field s) (m_field s) ≡ states_place + short_bytes * m
  start_is = rw (held.kind_is, held.m_is) refl

  lifted_is : (i : ℕ) → suspended s i ≡ lifted s m i
  lifted_is i = rw (held.kind_is, held.m_is) refl

  -- A lead, 2 (n + 1) of them in a row.
  blank_lead : (i j : ℕ) → i ≤ m → j < 2 * (n + 1) → lifted s m i ≡ true → num_at 4 room (row_place problem_header n i + 4 * j) ≡ signed_half
  unfolding num_at
  blank_lead i j h g e = num_at_same 4 room (0 ∷ 0 ∷ 0 ∷ 128 ∷ []) (row_place problem_header n i + 4 * j) 0 (λ b t. let e : 0 + b ≡ b = omega arith in rw e (each b t)) ∙ refl
    where
      last : (b : ℕ) → b < 4 → ◌≡◌ {A = ℕ} (cond (eqb b 3) 128 0) (get_or (0 ∷ 0 ∷ 0 ∷ 128 ∷ []) b 0)
      last zero t = refl
      last (suc zero) t = refl
      last (suc (suc zero)) t = refl
      last (suc (suc (suc zero))) t = refl
      last (suc (suc (suc (suc b)))) t = absurd (omega arith)

      each : (b : ℕ) → b < 4 → get_or room (row_place problem_header n i + 4 * j + b) 0 ≡ get_or (0 ∷ 0 ∷ 0 ∷ 128 ∷ []) b 0
      each b t =
          let place : row_place problem_header n i + 4 * j + b ≡ row_place problem_header n i + (4 * j + b) = omega arith in
          let rest : (4 * j + b) % 4 ≡ b = omega arith in
          rw place (f.in_force.rows i (4 * j + b) (omega arith) (omega arith) ∙ rw (e, rest) (last b t))

  standing_lead : (i j : ℕ) → i ≤ m → j < 2 * (n + 1) → lifted s m i ≡ false
      → num_at 4 room (row_place problem_header n i + 4 * j) ≡ num_at 4 s (row_place (states_place + short_bytes * m) n i + 4 * j)
  standing_lead i j h g e = num_at_same 4 room s _ _ (λ b t.
      let place : row_place problem_header n i + 4 * j + b ≡ row_place problem_header n i + (4 * j + b) = omega arith in
      let from : row_place (states_place + short_bytes * m) n i + 4 * j + b ≡ row_place (states_place + short_bytes * m) n i + (4 * j + b) = omega arith in
      rw (place, from) (f.in_force.rows i (4 * j + b) (omega arith) (omega arith) ∙ rw e refl))

  row_lead : (i j : ℕ) → i ≤ m → j < 2 * (n + 1)
      → num_at 4 room (row_place problem_header n i + 4 * j) ≡ cond (lifted s m i) signed_half (num_at 4 s (row_place (states_place + short_bytes * m) n i + 4 * j))
  row_lead i j h g = go (lifted s m i) refl
    where
      go : (t : Bool) → lifted s m i ≡ t → num_at 4 room (row_place problem_header n i + 4 * j) ≡ cond t signed_half (num_at 4 s (row_place (states_place + short_bytes * m) n i + 4 * j))
      go true e = blank_lead i j h g e
      go false e = standing_lead i j h g e

  -- As a coefficient, and as an offset number.
  trop_cond : (t : Bool) (w : ℕ) → trop_field (cond t signed_half w) ≡ cond t bot (trop_field w)
  unfolding trop_field
  trop_cond true w = refl
  trop_cond false w = refl

  off_cond : (t : Bool) (w : ℕ) → off (cond t signed_half w) ≡ cond t 0 (off w)
  unfolding off
  off_cond true w = refl
  off_cond false w = refl

  left_trop : (i j : ℕ) → i ≤ m → j ≤ n → trop_at room (left_place n i j) ≡ (problem_of s).left i j
  unfolding trop_at problem_of
  left_trop i j h g = rw (lifted_is i, start_is, ← held.n_is) (ap trop_field (row_lead i j h (omega arith)) ∙ trop_cond (lifted s m i) _)

  right_trop : (i j : ℕ) → i ≤ m → j ≤ n → trop_at room (right_place n i j) ≡ (problem_of s).right i j
  unfolding trop_at problem_of
  right_trop i j h g =
      let place : right_place n i j ≡ row_place problem_header n i + 4 * (suc n + j) = omega arith in
      let from : right_from (states_place + short_bytes * m) n i j ≡ row_place (states_place + short_bytes * m) n i + 4 * (suc n + j) = omega arith in
      rw (lifted_is i, start_is, ← held.n_is) (rw (place, from) (ap trop_field (row_lead i (suc n + j) h (omega arith)) ∙ trop_cond (lifted s m i) _))

  left_cell : (i j : ℕ) → i ≤ m → j ≤ n → lead_at room (left_place n i j) ≡ cond (suspended s i) 0 (lead_at s (left_from (leads_place (kind_field s) (m_field s)) (n_field s) i j))
  left_cell i j h g = rw (lifted_is i, start_is, ← held.n_is) (ap off (row_lead i j h (omega arith)) ∙ off_cond (lifted s m i) _)

  right_cell : (i j : ℕ) → i ≤ m → j ≤ n → lead_at room (right_place n i j) ≡ cond (suspended s i) 0 (lead_at s (right_from (leads_place (kind_field s) (m_field s)) (n_field s) i j))
  right_cell i j h g =
      let place : right_place n i j ≡ row_place problem_header n i + 4 * (suc n + j) = omega arith in
      let from : right_from (states_place + short_bytes * m) n i j ≡ row_place (states_place + short_bytes * m) n i + 4 * (suc n + j) = omega arith in
      rw (lifted_is i, start_is, ← held.n_is) (rw (place, from) (ap off (row_lead i (suc n + j) h (omega arith)) ∙ off_cond (lifted s m i) _))

  -- It is laid out as kind 1, and means the same problem.
  pub room_laid : Bytes room → Laid room n m
  room_laid b = record {
    bytes = b;
    kind_is = room_kind;
    n_is = room_n;
    m_is = room_m;
    n_most = held.n_most;
    m_most = held.m_most;
    holds =
        let wide = mul-le-mul_right {m = n + 1} {n = 32} (m + 1) (omega (arith, held.n_most)) in
        omega (arith, f.in_force.size_is, wide, held.m_most);
    lefts_fit = λ i j h g. rw (left_trop i j h g) (left_within s held.within i j (rw (← held.m_is) h) (rw (← held.n_is) g));
    rights_fit = λ i j h g. rw (right_trop i j h g) (right_within s held.within i j (rw (← held.m_is) h) (rw (← held.n_is) g));
  }

  pub room_agrees : Agree (problem_of room) (problem_of s)
  unfolding problem_of
  room_agrees = record {
    same_n = room_n ∙ held.n_is;
    same_m = room_m ∙ held.m_is;
    left = λ i j h g. plain_left room room_kind i j ∙ rw room_n (left_trop i j (rw room_m at h) (rw room_n at g));
    right = λ i j h g. plain_right room room_kind i j ∙ rw room_n (right_trop i j (rw room_m at h) (rw room_n at g));
  }

  -- What reading the tables asks, and its tables are those of the record.
  pub room_framed : {left right : List ℕ} → length left ≡ table_size → length right ≡ table_size → Framed room n m left right
  room_framed e g = record {
    n_most = held.n_most;
    m_most = held.m_most;
    holds =
        let wide = mul-le-mul_right {m = n + 1} {n = 32} (m + 1) (omega (arith, held.n_most)) in
        omega (arith, f.in_force.size_is, wide, held.m_most);
    left_room = e;
    right_room = g;
  }

  cells_same : (place from : ℕ → ℕ → ℕ) → ((i j : ℕ) → i ≤ m → j ≤ n → lead_at room (place i j) ≡ cond (suspended s i) 0 (lead_at s (from i j)))
      → (k : ℕ) → cell place room n m k ≡ cell_of from s k
  unfolding cell
  cells_same place from same k = rw (held.n_is, held.m_is) (go (leb (k / 32) (m_field s)) (leb (k % 32) (n_field s)) refl refl)
    where
      blank : (t : Bool) → ◌≡◌ {A = ℕ} 0 (cond t 0 0)
      blank true = refl
      blank false = refl

      go : (a b : Bool) → leb (k / 32) (m_field s) ≡ a → leb (k % 32) (n_field s) ≡ b
          → cond (a && b) (lead_at room (place (k / 32) (k % 32))) 0 ≡ cond (suspended s (k / 32)) 0 (cond (a && b) (lead_at s (from (k / 32) (k % 32))) 0)
      go true true e d = same (k / 32) (k % 32) (omega (arith, held.m_is, leb-true (k / 32) (m_field s) e)) (omega (arith, held.n_is, leb-true (k % 32) (n_field s) d))
      go true false e d = blank (suspended s (k / 32))
      go false b e d = blank (suspended s (k / 32))

  pub room_tables : {left right : List ℕ} → Tabled room n m table_size left right → (left ≡ left_table s) × (right ≡ right_table s)
  unfolding left_table right_table
  room_tables {left} {right} t = (
    is_list_of (cell_of (left_from (leads_place (kind_field s) (m_field s)) (n_field s)) s) 2048 left t.left_size (λ k h. t.lefts k h ∙ cells_same (left_place n) _ left_cell k),
    is_list_of (cell_of (right_from (leads_place (kind_field s) (m_field s)) (n_field s)) s) 2048 right t.right_size (λ k h. t.rights k h ∙ cells_same (right_place n) _ right_cell k),
  )
