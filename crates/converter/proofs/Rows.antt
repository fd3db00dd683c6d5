-- The rules that stay: their rows as bytes.
use Prim.Native.Nat.{ℕ, zero, suc, ◌+◌, ◌≤◌, ◌<◌}
use mathlib.Core.Path.{◌≡◌, refl, ◌∙◌}
use mathlib.Core.Bool.{Bool, true, false, cond}
use mathlib.Core.List.{List, []}
use mathlib.Core.Logic.{⊎_elim}
use native.Mathlib.Omega.{arith}
use native.Mathlib.Nat.{mul-le-mul_right}
use lib.ListN.{length, get_or, length-append, get_or-append}
use lib.Seq.{get_or-append-add}
use borrow.Author.Tests.{lt-ltb, le-ltb}
use Rattle.base.proofs.Numbers.{nat_le_or_lt}
use Rattle.definitions.specs.ProblemRecord.{converter_kinds, kind_field, n_field, m_field, count_field, leads_place, questions_asked, row_place, blank_left}
use Rattle.definitions.specs.Questions.{part, rows_size}
use Rattle.definitions.specs.Selection.{left_below, left_at}
use Rattle.definitions.specs.Conversion.{rules_left, rows_left}
use Rattle.definitions.proofs.Chosen.{last_stays}
use Rattle.definitions.proofs.Refusals.{HeaderPasses}
use Rattle.definitions.proofs.Questions.{part_length, part_at}

-- ---- bytes

module _ (s : List ℕ) (h : HeaderPasses converter_kinds s (length s)) where
  -- Rows lie inside.
  pub row_inside : (k : ℕ) → k < m_field s + questions_asked (kind_field s) (count_field s)
      → row_place (leads_place (kind_field s) (m_field s)) (n_field s) k + rows_size (n_field s) 1 ≤ length s
  row_inside k l = omega (arith, h.size_is, mul-le-mul_right {m = suc k} {n = m_field s + questions_asked (kind_field s) (count_field s)} (suc (n_field s)) l)

  -- One row, or none.
  kept_row : ℕ → Bool → List ℕ
  kept_row k b = cond b [] (part s (row_place (leads_place (kind_field s) (m_field s)) (n_field s) k) (rows_size (n_field s) 1))

  kept_length : (k : ℕ) → k < m_field s → (b : Bool) → length (kept_row k b) ≡ rows_size (n_field s) (cond b 0 1)
  unfolding kept_row
  kept_length k l true = omega arith
  kept_length k l false = part_length s (row_place (leads_place (kind_field s) (m_field s)) (n_field s) k) (rows_size (n_field s) 1) (row_inside k (omega arith))

  -- The rows that stay have eight bytes a variable.
  pub rows_length : (k : ℕ) → k ≤ m_field s → length (rows_left s k) ≡ rows_size (n_field s) (rules_left s k)
  unfolding rows_left left_below kept_row
  rows_length zero l = omega arith
  rows_length (suc k) l =
      rw (length-append, rows_length k (omega arith), kept_length k (omega arith) (blank_left s k)) (omega arith)

  -- Byte o of the i-th row that stays is that byte of its row in the record.
  pub rows_at : (k i o : ℕ) → k ≤ m_field s → i < rules_left s k → o < rows_size (n_field s) 1
      → get_or (rows_left s k) (rows_size (n_field s) i + o) 0 ≡ get_or s (row_place (leads_place (kind_field s) (m_field s)) (n_field s) (left_at (blank_left s) k i) + o) 0
  unfolding rows_left left_below left_at
  rows_at zero i o l g b = absurd (omega arith)
  rows_at (suc k) i o l g b = ⊎_elim
      (λ (q : rules_left s k ≤ i).
      let t = last_stays (blank_left s) k i (blank_left s k) refl g q in
      let place : rows_size (n_field s) i + o ≡ length (rows_left s k) + o = rw (rows_length k (omega arith), t.1) refl in
      rw (le-ltb i (rules_left s k) q, t.0, place)
      (get_or-append-add (rows_left s k) (part s (row_place (leads_place (kind_field s) (m_field s)) (n_field s) k) (rows_size (n_field s) 1)) o 0
      ∙ part_at s (row_place (leads_place (kind_field s) (m_field s)) (n_field s) k) (rows_size (n_field s) 1) o b))
      (λ (q : i < rules_left s k).
      let inside : rows_size (n_field s) i + o < length (rows_left s k) =
      rw (rows_length k (omega arith)) (omega (arith, mul-le-mul_right {m = suc i} {n = rules_left s k} (suc (n_field s)) q)) in
      rw (lt-ltb i (rules_left s k) q) (get_or-append (rows_left s k) _ 0 (rows_size (n_field s) i + o) inside ∙ rows_at k i o (omega arith) q b))
      (nat_le_or_lt (rules_left s k) i)
