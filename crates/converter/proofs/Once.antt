-- A record whose rules all say something is converted to itself; so converting again changes nothing.
use Prim.Native.Nat.{ℕ, zero, suc, ◌+◌, ◌-◌, ◌≤◌, ◌<◌}
use mathlib.Core.Path.{◌≡◌, refl, sym}
use mathlib.Core.Bool.{false}
use mathlib.Core.List.{List, ◌++◌}
use native.Mathlib.Omega.{arith}
use lib.ListN.{length, drop}
use lib.Seq.{take-add, drop-drop, take_all}
use Rattle.definitions.specs.Limits.{length_bytes, short_bytes}
use Rattle.definitions.specs.Bytes.{Bytes, le}
use Rattle.definitions.specs.ProblemRecord.{converter_kinds, length_field, kind_field, n_field, m_field, count_field, leads_place, questions_asked, blank_left, refusal_for}
use Rattle.definitions.specs.Questions.{part, rows_size}
use Rattle.definitions.specs.Selection.{left_below}
use Rattle.definitions.specs.Conversion.{rules_left, rows_left, converted_size, converted}
use Rattle.definitions.proofs.Bytes.{le_num}
use Rattle.definitions.proofs.Refusals.{HeaderPasses, record_fits}
use Rattle.definitions.proofs.Silent.{none_below}
use Rattle.converter.proofs.Converted.{from_least}

-- Two parts, one after the other.
part_part : (s : List ℕ) (from first second : ℕ) → part s from first ++ part s (from + first) second ≡ part s from (first + second)
part_part s from first second = rw (take-add first second (drop from s), drop-drop first from s) refl

module _ (s : List ℕ) (h : HeaderPasses converter_kinds s (length s)) (speak : (i : ℕ) → i < m_field s → blank_left s i ≡ false) where
  -- All rules stay, and their rows stand as they stood.
  pub all_left : (k : ℕ) → k ≤ m_field s → rules_left s k ≡ k
  unfolding left_below
  all_left zero l = refl
  all_left (suc k) l = rw (speak k (omega arith), all_left k (omega arith)) (omega arith)

  rows_all : (k : ℕ) → k ≤ m_field s → rows_left s k ≡ part s (leads_place (kind_field s) (m_field s)) (rows_size (n_field s) k)
  unfolding rows_left
  rows_all zero l = let e : rows_size (n_field s) 0 ≡ 0 = omega arith in rw e refl
  rows_all (suc k) l =
      let e : rows_size (n_field s) (suc k) ≡ rows_size (n_field s) k + rows_size (n_field s) 1 = omega arith in
      rw (speak k (omega arith), rows_all k (omega arith), e) (part_part s (leads_place (kind_field s) (m_field s)) (rows_size (n_field s) k) (rows_size (n_field s) 1))

  pub converted_itself : Bytes s → converted s ≡ s
  unfolding converted
  converted_itself b =
      let from : ℕ = leads_place (kind_field s) (m_field s) in
      let rows : ℕ = rows_size (n_field s) (m_field s) in
      let ends : ℕ = rows_size (n_field s) (questions_asked (kind_field s) (count_field s)) in
      let least = from_least s h in
      let whole : converted_size s ≡ length s = rw (all_left (m_field s) (omega arith)) (sym h.size_is) in
      let long : le length_bytes (converted_size s - length_bytes) ≡ part s 0 4 =
      let e : converted_size s - length_bytes ≡ length_field s = omega (arith, whole, h.length_is) in
      rw e (le_num 4 0 b (omega (arith, h.size_enough))) in
      let many : le short_bytes (rules_left s (m_field s)) ≡ part s 8 2 = rw (all_left (m_field s) (omega arith)) (le_num 2 8 b (omega (arith, h.size_enough))) in
      let size : 4 + (4 + (2 + ((from - 10) + (rows + ends)))) ≡ length s = omega (arith, h.size_is, least) in
      let a = part_part s from rows ends in
      let place : 10 + (from - 10) ≡ from = omega arith in
      let c : part s 10 (from - 10) ++ part s from (rows + ends) ≡ part s 10 ((from - 10) + (rows + ends)) = rw place at (part_part s 10 (from - 10) (rows + ends)) in
      let d = part_part s 8 2 ((from - 10) + (rows + ends)) in
      let e = part_part s 4 4 (2 + ((from - 10) + (rows + ends))) in
      let f = part_part s 0 4 (4 + (2 + ((from - 10) + (rows + ends)))) in
      rw (long, many, rows_all (m_field s) (omega arith), a, c, d, e, f, size) (take_all (length s) s (omega arith))

-- A record of these kinds that the engine takes stays as it is.
pub stays : (s : List ℕ) → Bytes s → refusal_for converter_kinds s ≡ 0 → converted s ≡ s
stays s b w =
    let r = (record_fits converter_kinds s).0 w in
    converted_itself s r.header ((none_below (blank_left s) (m_field s)).0 r.rules_speak) b
