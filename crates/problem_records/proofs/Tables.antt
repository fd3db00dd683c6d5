-- Laws of the lent tables: elements filled one after the other, rows after rows, and what a filled table holds.
use Prim.Native.Nat.{ℕ, zero, suc, ◌+◌, ◌*◌, ◌-◌, ◌/◌, ◌%◌, ◌≤◌, ◌<◌}
use mathlib.Core.Path.{◌≡◌, refl, ap, sym, ◌∙◌}
use mathlib.Core.Bool.{cond, ◌&&◌}
use mathlib.Core.List.{List, [], ◌∷◌}
use mathlib.Core.Logic.{⊎_elim}
use native.Mathlib.Omega.{arith}
use native.Mathlib.Nat.{mul-le-mul_right}
use lib.Dec.{eqb, ltb}
use lib.ListN.{length, get_or, length-append, get_or-append}
use lib.Seq.{get_or_at, ext_get_or}
use borrow.Author.Tests.{le-leb, lt-leb}
use Rattle.base.specs.Filled.{FilledFrom}
use Rattle.base.proofs.Numbers.{nat_le_or_lt}
use Rattle.definitions.specs.Bytes.{num_at}
use Rattle.definitions.specs.Offset.{off}
use Rattle.definitions.specs.Limits.{problem_kind, states_kind}
use Rattle.definitions.specs.ProblemRecord.{kind_field, n_field, m_field, state_field, leads_place, left_from, right_from, left_place, right_place, list_of}
use Rattle.problem_records.specs.Tables.{cell, lead_at, left_table, right_table}
use Rattle.problem_records.specs.Filling.{row_cell, RowOf, Framed, Tabled}

-- ---- elements

-- A lead is read, and its offset number taken.
pub lead_read : (s : List ℕ) {w x from place : ℕ} → w ≡ num_at 4 s from → x ≡ off w → from ≡ place → x ≡ lead_at s place
lead_read s e f g = rw (f, e, g)

-- ---- rows

-- A row is copied: its leads, then blanks.
pub filled_row : (s : List ℕ) (at n : ℕ) {base : ℕ} {row old new : List ℕ} → RowOf (λ j. lead_at s (at + 4 * j)) (n + 1) row
    → FilledFrom (λ j. get_or row j 0) base 32 old new → FilledFrom (row_cell s at n) base 32 old new
unfolding row_cell
filled_row s at n {row = row} r l = record { same = l.same; before = l.before; cells = λ j b. l.cells j b ∙ cell_of_lem j; after = l.after }
  where
    cell_of_lem : (j : ℕ) → get_or row j 0 ≡ row_cell s at n j
    cell_of_lem j = ⊎_elim
        (λ (q : n + 1 ≤ j). r.rest j q ∙ rw (lt-leb j n (omega arith)))
        (λ (q : j < n + 1). r.each j q ∙ rw (le-leb j n (omega arith)))
        (nat_le_or_lt (n + 1) j)

-- Element 32 i + j of a table is element j of its row i.
pub cell_row : (place : ℕ → ℕ → ℕ) (s : List ℕ) (n m i j at : ℕ) → i ≤ m → j < 32 → place i j ≡ at + 4 * j → cell place s n m (32 * i + j) ≡ row_cell s at n j
unfolding cell row_cell
cell_row place s n m i j at h k e =
    let row : (32 * i + j) / 32 ≡ i = omega arith in
    let column : (32 * i + j) % 32 ≡ j = omega arith in
    rw (row, column, le-leb i m h, e)

-- Element k of a table past row m is blank.
pub cell_past : (place : ℕ → ℕ → ℕ) (s : List ℕ) (n m k : ℕ) → 32 * (m + 1) ≤ k → cell place s n m k ≡ 0
unfolding cell
cell_past place s n m k h = let row : m < k / 32 = omega arith in rw (lt-leb (k / 32) m row)

-- Row i of m + 1 ends inside the bytes.
pub row_ends : {s : List ℕ} {n m i at : ℕ} {left right : List ℕ} → Framed s n m left right → i < m + 1 → at ≡ 10 + 8 * (i * (n + 1)) → at + 8 * (n + 1) ≤ length s
row_ends {n = n} {m} {i} f h e = omega (arith, f.holds, mul-le-mul_right {m = i + 1} {n = m + 1} (n + 1) (omega arith))

-- What holds below 32 i, and in row i, holds below 32 (i + 1).
rows_more : {f g : ℕ → ℕ} (i : ℕ) {old new : List ℕ} → ((k : ℕ) → k < 32 * i → get_or old k 0 ≡ f k) → FilledFrom g (32 * i) 32 old new
    → ((j : ℕ) → j < 32 → f (32 * i + j) ≡ g j) → (k : ℕ) → k < 32 * (i + 1) → get_or new k 0 ≡ f k
rows_more {f} i {new = new} l r e k h = ⊎_elim in_row (λ (q : k < 32 * i). r.before k q ∙ l k q) (nat_le_or_lt (32 * i) k)
  where
    in_row : 32 * i ≤ k → get_or new k 0 ≡ f k
    in_row q =
        let place : 32 * i + (k - 32 * i) ≡ k = omega arith in
        rw place at (r.cells (k - 32 * i) (omega arith) ∙ sym (e (k - 32 * i) (omega arith)))

-- No row is read yet.
pub tabled_none : {s : List ℕ} {n m : ℕ} {left right : List ℕ} → Framed s n m left right → Tabled s n m (32 * 0) left right
tabled_none f = record { left_size = f.left_room; right_size = f.right_room; lefts = λ i h. absurd (omega arith); rights = λ i h. absurd (omega arith) }

-- One more row is read, into both tables.
pub tabled_row : {s : List ℕ} {n m i at : ℕ} {left right left' right' : List ℕ} → Tabled s n m (32 * i) left right → i < m + 1 → at ≡ 10 + 8 * (i * (n + 1))
    → FilledFrom (row_cell s at n) (32 * i) 32 left left' → FilledFrom (row_cell s (at + 4 * (n + 1)) n) (32 * i) 32 right right'
    → Tabled s n m (32 * (i + 1)) left' right'
tabled_row {s} {n} {m} {i} {at} t h e l r =
    record {
      left_size = l.same ∙ t.left_size;
      right_size = r.same ∙ t.right_size;
      lefts = rows_more {f = cell (left_place n) s n m} i t.lefts l (λ j q. cell_row (left_place n) s n m i j at (omega arith) q (omega arith));
      rights = rows_more {f = cell (right_place n) s n m} i t.rights r (λ j q. cell_row (right_place n) s n m i j (at + 4 * (n + 1)) (omega arith) q (omega arith));
    }

-- All rows are read.
pub tabled_end : {s : List ℕ} {n m i : ℕ} {left right : List ℕ} → Tabled s n m (32 * i) left right → m + 1 ≤ i → Tabled s n m (32 * (m + 1)) left right
tabled_end t h =
    record { left_size = t.left_size; right_size = t.right_size; lefts = λ k q. t.lefts k (omega arith); rights = λ k q. t.rights k (omega arith) }

-- What lies past the rows is blank.
past_rows : {f : ℕ → ℕ} {used : ℕ} {old new : List ℕ} → ((k : ℕ) → k < used → get_or old k 0 ≡ f k) → FilledFrom (λ _. 0) used (2048 - used) old new
    → ((k : ℕ) → used ≤ k → f k ≡ 0) → (k : ℕ) → k < 2048 → get_or new k 0 ≡ f k
past_rows {f} {used} {old} {new} l r e k h = ⊎_elim past (λ (q : k < used). r.before k q ∙ l k q) (nat_le_or_lt used k)
  where
    past : used ≤ k → get_or new k 0 ≡ f k
    past q =
        let place : used + (k - used) ≡ k = omega arith in
        (rw place at (r.cells (k - used) (omega arith))) ∙ sym (e k q)

-- Both tables are filled.
pub tabled_past : {s : List ℕ} {n m : ℕ} {left right left' right' : List ℕ} → Tabled s n m (32 * (m + 1)) left right
    → FilledFrom (λ _. 0) (32 * (m + 1)) (2048 - 32 * (m + 1)) left left' → FilledFrom (λ _. 0) (32 * (m + 1)) (2048 - 32 * (m + 1)) right right'
    → Tabled s n m 2048 left' right'
tabled_past {s} {n} {m} t l r =
    record {
      left_size = l.same ∙ t.left_size;
      right_size = r.same ∙ t.right_size;
      lefts = past_rows {f = cell (left_place n) s n m} t.lefts l (cell_past (left_place n) s n m);
      rights = past_rows {f = cell (right_place n) s n m} t.rights r (cell_past (right_place n) s n m);
    }

-- ---- a filled table is the table of the definition

-- f 0, …, f (k − 1) are k elements.
pub length_list_of : (f : ℕ → ℕ) (k : ℕ) → length (list_of f k) ≡ k
unfolding list_of
length_list_of f zero = refl
length_list_of f (suc k) = rw (length-append, length_list_of f k) (omega arith)

-- Element i of them is f i.
pub get_d_list_of : (f : ℕ → ℕ) (k i : ℕ) → i < k → get_or (list_of f k) i 0 ≡ f i
unfolding list_of
get_d_list_of f zero i h = absurd (omega arith)
get_d_list_of f (suc k) i h = ⊎_elim
    (λ (q : k ≤ i). let e : i ≡ k = omega arith in rw e (get_or_at (list_of f k) (f k) [] 0 k (length_list_of f k)))
    (λ (q : i < k). get_or-append (list_of f k) (f k ∷ []) 0 i (rw (length_list_of f k) q) ∙ get_d_list_of f k i q)
    (nat_le_or_lt k i)

-- A list of k elements that are f 0, …, f (k − 1) is theirs.
pub is_list_of : (f : ℕ → ℕ) (k : ℕ) (l : List ℕ) → length l ≡ k → ((i : ℕ) → i < k → get_or l i 0 ≡ f i) → l ≡ list_of f k
is_list_of f k l e h =
    ext_get_or 0 l (list_of f k) (e ∙ sym (length_list_of f k)) (λ i q. let r : i < k = rw e at q in h i r ∙ sym (get_d_list_of f k i r))

-- ---- the tables of a record of kind 1: no rule is suspended

pub plain_left_table : (s : List ℕ) → kind_field s ≡ problem_kind → left_table s ≡ list_of (cell (left_place (n_field s)) s (n_field s) (m_field s)) 2048
unfolding left_table
plain_left_table s k = ap (λ (kind : ℕ). list_of (λ i.
    cond (eqb kind states_kind && (ltb (i / 32) (m_field s) && eqb (state_field s (i / 32)) 0)) 0
    (cell (left_from (leads_place kind (m_field s)) (n_field s)) s (n_field s) (m_field s) i)) 2048) k

pub plain_right_table : (s : List ℕ) → kind_field s ≡ problem_kind → right_table s ≡ list_of (cell (right_place (n_field s)) s (n_field s) (m_field s)) 2048
unfolding right_table
plain_right_table s k = ap (λ (kind : ℕ). list_of (λ i.
    cond (eqb kind states_kind && (ltb (i / 32) (m_field s) && eqb (state_field s (i / 32)) 0)) 0
    (cell (right_from (leads_place kind (m_field s)) (n_field s)) s (n_field s) (m_field s) i)) 2048) k
