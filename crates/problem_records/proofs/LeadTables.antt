-- What the tables of a problem mean: each element is its lead as an offset number, blank where there is no lead, and near 2³¹.
use Prim.Native.Nat.{ℕ, ◌+◌, ◌*◌, ◌/◌, ◌%◌, ◌≤◌, ◌<◌}
use mathlib.Core.Path.{◌≡◌, refl, ◌∙◌}
use mathlib.Core.Bool.{Bool, true, false, cond, ◌&&◌, and-eq-true_iff}
use mathlib.Core.List.{List}
use mathlib.Core.Logic.{◌⊎◌, ⊎_elim}
use native.Mathlib.Omega.{arith}
use native.Mathlib.Nat.{mul-le-mul_right}
use lib.Dec.{leb}
use lib.ListN.{length, get_or, get_or-eq_default}
use borrow.Author.Tests.{le-leb, lt-leb, leb-true}
use Rattle.base.proofs.Numbers.{nat_le_or_lt}
use Rattle.definitions.specs.Limits.{highest_n, highest_m, lead_limit, signed_full, table_size}
use Rattle.definitions.specs.Tropical.{bot}
use Rattle.definitions.specs.Bytes.{Bytes, num_at, trop_at, blank_or_within}
use Rattle.definitions.specs.Offset.{trop_of}
use Rattle.definitions.specs.ProblemRecord.{kind_field, n_field, m_field, leads_place, left_from, right_from, left_place, right_place, suspended, list_of, WithinLayout, problem_of}
use Rattle.definitions.proofs.Bytes.{num_at_bound}
use Rattle.definitions.proofs.Offset.{trop_off, trop_zero}
use Rattle.definitions.proofs.Layouts.{problem_fits, left_within, right_within}
use Rattle.definitions.proofs.Suspended.{plain_left, plain_right, stands_left, stands_right}
use Rattle.problem_records.specs.Tables.{cell, cell_of, lead_at, left_table, right_table, Laid}
use Rattle.records.specs.Decoded.{Near, Decoded}
use Rattle.records.proofs.Near.{near_zero, near_within}
use Rattle.problem_records.proofs.Tables.{length_list_of, get_d_list_of, plain_left_table, plain_right_table}

-- ---- one lead

-- The offset number of a lead stands for the lead.
pub lead_means : (s : List ℕ) (at : ℕ) → Bytes s → trop_of (lead_at s at) ≡ trop_at s at
unfolding trop_at
lead_means s at b =
    let h : num_at 4 s at < signed_full = num_at_bound 4 at b in
    trop_off (num_at 4 s at) h

-- ---- a table whose row i has its lead j at `place i j`

module _ (place : ℕ → ℕ → ℕ) (s : List ℕ) (n m : ℕ) where
  -- Where there is a lead, it is the element.
  cell_lead : (i j : ℕ) → i ≤ m → j ≤ n → n ≤ 31 → cell place s n m (i * 32 + j) ≡ lead_at s (place i j)
  unfolding cell
  cell_lead i j h g l =
      let row : (i * 32 + j) / 32 ≡ i = omega arith in
      let column : (i * 32 + j) % 32 ≡ j = omega arith in
      rw (row, column, le-leb i m h, le-leb j n g)

  -- Past row m, and past column n, the element is blank.
  cell_blank : (i j : ℕ) → j < 32 → (m < i) ⊎ (n < j) → cell place s n m (i * 32 + j) ≡ 0
  unfolding cell
  cell_blank i j h p =
      let row : (i * 32 + j) / 32 ≡ i = omega arith in
      let column : (i * 32 + j) % 32 ≡ j = omega arith in
      rw (row, column) (⊎_elim (λ (q : m < i). rw (lt-leb i m q)) (λ (q : n < j). rw (lt-leb j n q) (neither (leb i m))) p)
    where
      neither : (t : Bool) → cond (t && false) (lead_at s (place i j)) 0 ≡ 0
      neither true = refl
      neither false = refl

  -- Where each lead is near, each element is, at every index.
  cell_near : (d : ℕ) → ((i j : ℕ) → i ≤ m → j ≤ n → Near d (lead_at s (place i j))) → (k : ℕ) → Near d (cell place s n m k)
  unfolding cell
  cell_near d near k = go (leb (k / 32) m && leb (k % 32) n) refl
    where
      go : (t : Bool) → (leb (k / 32) m && leb (k % 32) n) ≡ t → Near d (cond t (lead_at s (place (k / 32) (k % 32))) 0)
      go false e = near_zero d
      go true e =
          let both = (and-eq-true_iff (leb (k / 32) m) (leb (k % 32) n)).0 e in
          near (k / 32) (k % 32) (leb-true (k / 32) m both.0) (leb-true (k % 32) n both.1)

-- A list of near elements is near at every index, past its end too.
list_of_near : (d : ℕ) (f : ℕ → ℕ) (size : ℕ) → ((k : ℕ) → Near d (f k)) → (k : ℕ) → Near d (get_or (list_of f size) k 0)
list_of_near d f size near k = ⊎_elim
    (λ (h : size ≤ k). rw (get_or-eq_default (list_of f size) 0 (past h)) (near_zero d))
    (λ (h : k < size). rw (get_d_list_of f size k h) (near k))
    (nat_le_or_lt size k)
  where
    past : size ≤ k → length (list_of f size) ≤ k
    past h = rw length_list_of h

-- ---- the two tables of a problem

-- Both tables have 2,048 elements.
pub left_length : (s : List ℕ) → length (left_table s) ≡ table_size
unfolding left_table
left_length s = length_list_of (cell_of (left_from (leads_place (kind_field s) (m_field s)) (n_field s)) s) 2048

pub right_length : (s : List ℕ) → length (right_table s) ≡ table_size
unfolding right_table
right_length s = length_list_of (cell_of (right_from (leads_place (kind_field s) (m_field s)) (n_field s)) s) 2048

module _ (place : ℕ → ℕ → ℕ) (s : List ℕ) where
  -- An element is blank in the row of a suspended rule, else its lead.
  cell_of_lem : (i j : ℕ) → i ≤ m_field s → j ≤ n_field s → n_field s ≤ 31 → cell_of place s (i * 32 + j) ≡ cond (suspended s i) 0 (lead_at s (place i j))
  cell_of_lem i j h g l =
      let row : (i * 32 + j) / 32 ≡ i = omega arith in
      rw (row, cell_lead place s (n_field s) (m_field s) i j h g l)

  cell_of_near : (d : ℕ) → ((i j : ℕ) → i ≤ m_field s → j ≤ n_field s → suspended s i ≡ false → Near d (lead_at s (place i j))) → (k : ℕ) → Near d (cell_of place s k)
  unfolding cell
  cell_of_near d near k = go (suspended s (k / 32)) refl
    where
      lead : suspended s (k / 32) ≡ false → (t : Bool) → (leb (k / 32) (m_field s) && leb (k % 32) (n_field s)) ≡ t → Near d (cond t (lead_at s (place (k / 32) (k % 32))) 0)
      lead stands false e = near_zero d
      lead stands true e =
          let both = (and-eq-true_iff (leb (k / 32) (m_field s)) (leb (k % 32) (n_field s))).0 e in
          near (k / 32) (k % 32) (leb-true (k / 32) (m_field s) both.0) (leb-true (k % 32) (n_field s) both.1) stands

      go : (t : Bool) → suspended s (k / 32) ≡ t → Near d (cond t 0 (cell place s (n_field s) (m_field s) k))
      go true e = near_zero d
      go false e = lead e (leb (k / 32) (m_field s) && leb (k % 32) (n_field s)) refl

-- Blank or a lead, as an offset number and as a coefficient.
row_means : (t : Bool) (s : List ℕ) (at : ℕ) → Bytes s → trop_of (cond t 0 (lead_at s at)) ≡ cond t bot (trop_at s at)
row_means true s at b = trop_zero
row_means false s at b = lead_means s at b

-- A problem of one question whose coefficients are blank or within the limit.
pub record Fit (s : List ℕ) : Type 0 where
  pub n_most : n_field s ≤ highest_n
  pub m_most : m_field s ≤ highest_m
  pub lefts : (i j : ℕ) → i ≤ m_field s → j ≤ n_field s → blank_or_within lead_limit ((problem_of s).left i j) ≡ true
  pub rights : (i j : ℕ) → i ≤ m_field s → j ≤ n_field s → blank_or_within lead_limit ((problem_of s).right i j) ≡ true

-- One within the layout is,
pub within_fit : {s : List ℕ} → WithinLayout s → Fit s
within_fit {s} w = let f = problem_fits s w in record { n_most = f.n_most; m_most = f.m_most; lefts = left_within s w; rights = right_within s w }

-- and what is laid out as kind 1.
pub laid_fit : {s : List ℕ} {n m : ℕ} → Laid s n m → Fit s
laid_fit {s} l = record {
  n_most = omega (arith, l.n_is, l.n_most);
  m_most = omega (arith, l.m_is, l.m_most);
  lefts = λ i j h g. rw (plain_left s l.kind_is i j, l.n_is) (l.lefts_fit i j (omega (arith, l.m_is)) (omega (arith, l.n_is)));
  rights = λ i j h g. rw (plain_right s l.kind_is i j, l.n_is) (l.rights_fit i j (omega (arith, l.m_is)) (omega (arith, l.n_is)));
}

module _ (s : List ℕ) (b : Bytes s) (f : Fit s) where
  abbrev start : ℕ
  start = leads_place (kind_field s) (m_field s)

  -- The elements of the tables stand for the problem's coefficients.
  pub left_means : (i j : ℕ) → i ≤ m_field s → j ≤ n_field s → trop_of (get_or (left_table s) (i * 32 + j) 0) ≡ (problem_of s).left i j
  unfolding left_table problem_of
  left_means i j h g =
      rw (
        get_d_list_of (cell_of (left_from start (n_field s)) s) 2048 (i * 32 + j) (omega (arith, f.n_most, f.m_most)),
        cell_of_lem (left_from start (n_field s)) s i j h g f.n_most,
      )
      (row_means (suspended s i) s (left_from start (n_field s) i j) b)

  pub right_means : (i j : ℕ) → i ≤ m_field s → j ≤ n_field s → trop_of (get_or (right_table s) (i * 32 + j) 0) ≡ (problem_of s).right i j
  unfolding right_table problem_of
  right_means i j h g =
      rw (
        get_d_list_of (cell_of (right_from start (n_field s)) s) 2048 (i * 32 + j) (omega (arith, f.n_most, f.m_most)),
        cell_of_lem (right_from start (n_field s)) s i j h g f.n_most,
      )
      (row_means (suspended s i) s (right_from start (n_field s) i j) b)

  -- Every element is blank or within the limit of leads, at every index.
  pub left_near : (k : ℕ) → Near lead_limit (get_or (left_table s) k 0)
  unfolding left_table
  left_near = list_of_near lead_limit (cell_of (left_from start (n_field s)) s) 2048
      (cell_of_near (left_from start (n_field s)) s lead_limit (λ i j h g e.
      near_within lead_limit (lead_at s (left_from start (n_field s) i j)) (omega arith) (rw (lead_means s (left_from start (n_field s) i j) b) (rw (stands_left s i e j) at (f.lefts i j h g)))))

  pub right_near : (k : ℕ) → Near lead_limit (get_or (right_table s) k 0)
  unfolding right_table
  right_near = list_of_near lead_limit (cell_of (right_from start (n_field s)) s) 2048
      (cell_of_near (right_from start (n_field s)) s lead_limit (λ i j h g e.
      near_within lead_limit (lead_at s (right_from start (n_field s) i j)) (omega arith) (rw (lead_means s (right_from start (n_field s) i j) b) (rw (stands_right s i e j) at (f.rights i j h g)))))

  -- The tables hold the problem.
  pub fit_decoded : Decoded (problem_of s) (left_table s) (right_table s)
  unfolding problem_of
  fit_decoded = record {
    n_most = f.n_most;
    m_most = f.m_most;
    left_length = left_length s;
    right_length = right_length s;
    left_is = left_means;
    right_is = right_means;
    left_near = left_near;
    right_near = right_near;
  }

pub problem_decoded : (s : List ℕ) → Bytes s → WithinLayout s → Decoded (problem_of s) (left_table s) (right_table s)
problem_decoded s b w = fit_decoded s b (within_fit w)

-- Past row m, and past column n, both tables are blank.
either_blank : (t : Bool) → ◌≡◌ {A = ℕ} (cond t 0 0) 0
either_blank true = refl
either_blank false = refl

cell_of_blank : (place : ℕ → ℕ → ℕ) (s : List ℕ) (i j : ℕ) → j < 32 → (m_field s < i) ⊎ (n_field s < j) → cell_of place s (i * 32 + j) ≡ 0
cell_of_blank place s i j h p = rw (cell_blank place s (n_field s) (m_field s) i j h p) (either_blank (suspended s ((i * 32 + j) / 32)))

pub left_blank : (s : List ℕ) (i j : ℕ) → i ≤ 63 → j < 32 → (m_field s < i) ⊎ (n_field s < j) → get_or (left_table s) (i * 32 + j) 0 ≡ 0
unfolding left_table
left_blank s i j g h p =
    let place : ℕ → ℕ → ℕ = left_from (leads_place (kind_field s) (m_field s)) (n_field s) in
    get_d_list_of (cell_of place s) 2048 (i * 32 + j) (omega arith) ∙ cell_of_blank place s i j h p

pub right_blank : (s : List ℕ) (i j : ℕ) → i ≤ 63 → j < 32 → (m_field s < i) ⊎ (n_field s < j) → get_or (right_table s) (i * 32 + j) 0 ≡ 0
unfolding right_table
right_blank s i j g h p =
    let place : ℕ → ℕ → ℕ = right_from (leads_place (kind_field s) (m_field s)) (n_field s) in
    get_d_list_of (cell_of place s) 2048 (i * 32 + j) (omega arith) ∙ cell_of_blank place s i j h p

-- ---- leads where they stand

module _ {s : List ℕ} {n m : ℕ} (l : Laid s n m) where
  -- Row i ends inside the bytes.
  pub row_inside : (i : ℕ) → i ≤ m → left_place n i 0 + 8 * (n + 1) ≤ length s
  row_inside i h = omega (arith, l.holds, mul-le-mul_right {m = i + 1} {n = m + 1} (n + 1) (omega arith))

  module _ (i j : ℕ) (row : i ≤ m) (column : j ≤ n) where
    -- The elements of the tables are the leads in the bytes.
    pub left_lead : get_or (left_table s) (i * 32 + j) 0 ≡ lead_at s (left_place n i j)
    left_lead = rw (plain_left_table s l.kind_is, l.n_is, l.m_is) (get_d_list_of (cell (left_place n) s n m) 2048 (i * 32 + j) (omega (arith, l.n_most, l.m_most))
        ∙ cell_lead (left_place n) s n m i j row column l.n_most)

    pub right_lead : get_or (right_table s) (i * 32 + j) 0 ≡ lead_at s (right_place n i j)
    right_lead = rw (plain_right_table s l.kind_is, l.n_is, l.m_is) (get_d_list_of (cell (right_place n) s n m) 2048 (i * 32 + j) (omega (arith, l.n_most, l.m_most))
        ∙ cell_lead (right_place n) s n m i j row column l.n_most)

    -- They stand for the problem's coefficients.
    pub left_lead_means : trop_of (lead_at s (left_place n i j)) ≡ (problem_of s).left i j
    left_lead_means = rw (plain_left s l.kind_is i j, l.n_is) (lead_means s (left_place n i j) l.bytes)

    pub right_lead_means : trop_of (lead_at s (right_place n i j)) ≡ (problem_of s).right i j
    right_lead_means = rw (plain_right s l.kind_is i j, l.n_is) (lead_means s (right_place n i j) l.bytes)

  -- The leads of row i, which start at a place: elements of the tables, blank or within the limit.
  module _ (i at j : ℕ) (row : i ≤ m) (place : at ≡ left_place n i 0) (column : j ≤ n) where
    pub left_lead_at : get_or (left_table s) (i * 32 + j) 0 ≡ lead_at s (at + 4 * j)
    left_lead_at = let e : at + 4 * j ≡ left_place n i j = omega arith in rw e (left_lead i j row column)

    pub right_lead_at : get_or (right_table s) (i * 32 + j) 0 ≡ lead_at s (at + 4 * (n + 1) + 4 * j)
    right_lead_at = let e : at + 4 * (n + 1) + 4 * j ≡ right_place n i j = omega arith in rw e (right_lead i j row column)

    pub left_near_at : Near lead_limit (lead_at s (at + 4 * j))
    left_near_at = rw left_lead_at at (left_near s l.bytes (laid_fit l) (i * 32 + j))

    pub right_near_at : Near lead_limit (lead_at s (at + 4 * (n + 1) + 4 * j))
    right_near_at = rw right_lead_at at (right_near s l.bytes (laid_fit l) (i * 32 + j))
