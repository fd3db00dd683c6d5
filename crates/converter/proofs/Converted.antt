-- The converted record: its size, its fields, and each of its rows, which is a row of the record. So nothing refuses it.
use Prim.Native.Nat.{ℕ, zero, suc, ◌+◌, ◌*◌, ◌-◌, ◌≤◌, ◌<◌}
use mathlib.Core.Path.{◌≡◌, refl, ap, ◌∙◌}
use mathlib.Core.Bool.{Bool, true, false, cond, ◌&&◌, ◌||◌}
use mathlib.Core.List.{List, [], ◌++◌, append_assoc}
use mathlib.Core.Logic.{◌⊎◌, ⊎_elim}
use native.Mathlib.Omega.{arith}
use native.Mathlib.Nat.{mul-le-mul_right}
use lib.Dec.{eqb, ltb, leb}
use lib.ListN.{length, get_or, length-append, get_or-append}
use lib.Seq.{get_or-append-add}
use borrow.Author.Tests.{lt-ltb, le-ltb, ne_eqb}
use Rattle.base.proofs.Numbers.{nat_le_or_lt, divided}
use Rattle.definitions.specs.Limits.{lead_limit, length_bytes, short_bytes, signed_bytes, kind_place, m_place, problem_header, questions_header, problem_kind, questions_kind, most_questions}
use Rattle.definitions.specs.Bytes.{Bytes, num_at, le, trop_field, trop_at, all, blank_or_within}
use Rattle.definitions.specs.ProblemRecord.{Kinds, converter_kinds, engine_kinds, refusal_for, length_field, kind_field, n_field, m_field, count_field, leads_place, questions_asked, wrong_count, row_place, blank_left, leads_of, silent_refused, WithinLayouts}
use Rattle.definitions.specs.Questions.{part, rows_size}
use Rattle.definitions.specs.Selection.{left_at}
use Rattle.definitions.specs.Conversion.{stored_refusal, rules_left, rows_left, converted_size, question_rows, converted}
use Rattle.definitions.proofs.Bytes.{num_at_same, num_at_back, length_le, all-numsAt, bytes_append, bytes_le, bytes_take, bytes_drop}
use Rattle.definitions.proofs.Refusals.{HeaderPasses, header_passes, record_fits, or_else_none, passes_clause}
use Rattle.definitions.proofs.KnownKinds.{few_questions, kind_stored}
use Rattle.definitions.proofs.RoundTrip.{num_here}
use Rattle.definitions.proofs.Silent.{none_below, run_same}
use Rattle.definitions.proofs.Questions.{part_length, part_at}
use Rattle.converter.specs.Steps.{head_left}
use Rattle.definitions.proofs.Chosen.{left_most, left_inside, left_stays}
use Rattle.converter.proofs.Rows.{rows_length, rows_at}

-- A count of 1 to 8 is not wrong.
few_right : (size count : ℕ) → 0 < count → count ≤ most_questions → (leb questions_header size && (eqb count 0 || ltb most_questions count)) ≡ false
few_right size count h g = rw (ne_eqb count 0 (omega arith), le-ltb most_questions count g) (neither (leb questions_header size))
  where
    neither : (t : Bool) → (t && (false || false)) ≡ false
    neither true = refl
    neither false = refl

-- What stands before the leads, and what stands behind.
pub converted_parts : (s : List ℕ) → converted s ≡ head_left s (converted_size s - length_bytes) (rules_left s (m_field s)) ++ (rows_left s (m_field s) ++ question_rows s)
unfolding converted
converted_parts s = simp append_assoc

-- A record that only 17 may refuse.
pub record StoredFits (s : List ℕ) : Type 0 where
  pub header : HeaderPasses converter_kinds s (length s)
  pub leads_fit : all (blank_or_within lead_limit) (leads_of s) ≡ true

pub stored_fits : (s : List ℕ) → stored_refusal s ≡ 0 → StoredFits s
unfolding stored_refusal
stored_fits s e =
    let h = (or_else_none _ _).0 e in
    record { header = (header_passes converter_kinds s (length s)).0 h.0; leads_fit = ((passes_clause (all (blank_or_within lead_limit) (leads_of s)) _ _).0 h.1).0 }

module _ (s : List ℕ) (h : HeaderPasses converter_kinds s (length s)) where
  -- Abbreviations: how many rules stay, how many questions are asked, where the leads start.
  abbrev left : ℕ
  left = rules_left s (m_field s)

  abbrev asked : ℕ
  asked = questions_asked (kind_field s) (count_field s)

  abbrev from : ℕ
  from = leads_place (kind_field s) (m_field s)

  either : (kind_field s ≡ problem_kind) ⊎ (kind_field s ≡ questions_kind)
  either = kind_stored (kind_field s) h.kind_known

  pub from_least : problem_header ≤ from
  from_least = ⊎_elim (λ (k : kind_field s ≡ problem_kind). rw k (omega arith)) (λ (k : kind_field s ≡ questions_kind). rw k (omega arith)) either

  pub from_most : from ≤ questions_header
  from_most = ⊎_elim (λ (k : kind_field s ≡ problem_kind). rw k (omega arith)) (λ (k : kind_field s ≡ questions_kind). rw k (omega arith)) either

  -- These kinds have no states: the leads start there, whatever the number of rules.
  start_same : (m : ℕ) → leads_place (kind_field s) m ≡ from
  start_same m = ⊎_elim (λ (k : kind_field s ≡ problem_kind). rw k refl) (λ (k : kind_field s ≡ questions_kind). rw k refl) either

  pub size_from : converted_size s ≡ from + 2 * signed_bytes * (suc (n_field s) * (left + asked))
  size_from = ap (λ (x : ℕ). x + 2 * signed_bytes * (suc (n_field s) * (left + asked))) (start_same left)

  pub asked_least : 0 < asked
  asked_least = ⊎_elim
      (λ (k : kind_field s ≡ problem_kind). rw k (omega arith))
      (λ (k : kind_field s ≡ questions_kind). let c = few_questions s (length s) k h in rw k c.some)
      either

  pub asked_most : asked ≤ most_questions
  asked_most = ⊎_elim
      (λ (k : kind_field s ≡ problem_kind). rw k (omega arith))
      (λ (k : kind_field s ≡ questions_kind). let c = few_questions s (length s) k h in rw k c.few)
      either

  rows_inside : (k : ℕ) → k ≤ m_field s + asked → from + rows_size (n_field s) k ≤ length s
  rows_inside k l = omega (arith, h.size_is, mul-le-mul_right {m = k} {n = m_field s + asked} (suc (n_field s)) l)

  -- ---- its size

  kind_part : length (part s kind_place (m_place - kind_place)) ≡ 4
  kind_part = part_length s kind_place (m_place - kind_place) (omega (arith, h.size_enough))

  count_part : length (part s problem_header (from - problem_header)) ≡ from - problem_header
  count_part = part_length s problem_header (from - problem_header) (omega (arith, from_least, rows_inside 0 (omega arith)))

  pub head_length : (long m : ℕ) → length (head_left s long m) ≡ from
  head_length long m = rw (length-append, length-append, length-append, length_le, kind_part, length_le, count_part) (omega (arith, from_least))

  questions_length : length (question_rows s) ≡ rows_size (n_field s) asked
  questions_length =
      part_length s (row_place from (n_field s) (m_field s)) (rows_size (n_field s) asked)
      (omega (arith, h.size_is))

  pub converted_length : length (converted s) ≡ converted_size s
  converted_length =
      let head : List ℕ = head_left s (converted_size s - length_bytes) left in
      ap length (converted_parts s)
      ∙ omega (arith, size_from, length-append head (rows_left s (m_field s) ++ question_rows s), length-append (rows_left s (m_field s)) (question_rows s), head_length (converted_size s - length_bytes) left, rows_length s h (m_field s) (omega arith), questions_length)

  pub converted_most : converted_size s ≤ 18188
  converted_most =
      let wide = mul-le-mul_right {m = suc (n_field s)} {n = 32} (left + asked) (omega (arith, h.n_most)) in
      omega (arith, size_from, wide, left_most (blank_left s) (m_field s), h.m_most, asked_most, from_most)

  pub converted_least : problem_header ≤ converted_size s
  converted_least = omega (arith, size_from, from_least)

  -- ---- its fields

  pub converted_length_field : length_field (converted s) ≡ converted_size s - length_bytes
  unfolding converted
  converted_length_field = num_here length_bytes (converted_size s - length_bytes) _ (omega (arith, converted_most))

  -- What stands behind kind and n.
  abbrev tail : List ℕ
  tail = le short_bytes left ++ (part s problem_header (from - problem_header) ++ (rows_left s (m_field s) ++ question_rows s))

  -- Kind and n.
  head_byte : (k : ℕ) → k < 4 → get_or (converted s) (kind_place + k) 0 ≡ get_or s (kind_place + k) 0
  unfolding converted
  head_byte k l =
      let e : kind_place + k ≡ length (le length_bytes (converted_size s - length_bytes)) + k = rw length_le refl in
      let g : k < length (part s kind_place (m_place - kind_place)) = rw kind_part l in
      rw e (get_or-append-add (le length_bytes (converted_size s - length_bytes)) (part s kind_place (m_place - kind_place) ++ tail) k 0)
      ∙ get_or-append (part s kind_place (m_place - kind_place)) tail 0 k g
      ∙ part_at s kind_place (m_place - kind_place) k l

  pub converted_kind : kind_field (converted s) ≡ kind_field s
  converted_kind = num_at_same short_bytes (converted s) s kind_place kind_place (λ i l. head_byte i (omega arith))

  pub converted_n : n_field (converted s) ≡ n_field s
  converted_n = num_at_same short_bytes (converted s) s 6 6 (λ i l.
      let e : 6 + i ≡ kind_place + (2 + i) = omega arith in
      rw e (head_byte (2 + i) (omega arith)))

  behind_n : (k at : ℕ) → num_at k (converted s) (length_bytes + (4 + at)) ≡ num_at k tail at
  unfolding converted
  behind_n k at =
      num_at_back k (le length_bytes (converted_size s - length_bytes)) _ length_bytes (4 + at) (length_le length_bytes _)
      ∙ num_at_back k (part s kind_place (m_place - kind_place)) _ 4 at kind_part

  pub converted_m : m_field (converted s) ≡ left
  converted_m = behind_n short_bytes 0 ∙ num_here short_bytes left _ (omega (arith, left_most (blank_left s) (m_field s), h.m_most))

  pub converted_count : kind_field s ≡ questions_kind → count_field (converted s) ≡ count_field s
  converted_count k =
      let twelve : from ≡ questions_header = rw k refl in
      let room : length (part s problem_header (from - problem_header)) ≡ 2 = count_part ∙ omega arith in
      behind_n short_bytes 2
      ∙ num_at_back short_bytes (le short_bytes left) _ short_bytes 0 (length_le short_bytes left)
      ∙ num_at_same short_bytes _ s 0 problem_header (λ i l.
      let g : i < length (part s problem_header (from - problem_header)) = omega arith in
      let here : 0 + i ≡ i = omega arith in
      rw here (get_or-append (part s problem_header (from - problem_header)) (rows_left s (m_field s) ++ question_rows s) 0 i g)
      ∙ part_at s problem_header (from - problem_header) i (omega arith))

  pub converted_asked : questions_asked (kind_field (converted s)) (count_field (converted s)) ≡ asked
  converted_asked = ⊎_elim
      (λ (k : kind_field s ≡ problem_kind). rw (converted_kind, k) refl)
      (λ (k : kind_field s ≡ questions_kind). rw (converted_kind, k) (converted_count k))
      either

  -- ---- its rows

  -- Row i of the converted record is this row of the record.
  unfoldable pub row_left : ℕ → ℕ
  row_left i = cond (ltb i left) (left_at (blank_left s) (m_field s) i) (m_field s + (i - left))

  pub row_rule : (i : ℕ) → i < left → row_left i ≡ left_at (blank_left s) (m_field s) i
  unfolding row_left
  row_rule i l = rw (lt-ltb i left l)

  pub row_question : (q : ℕ) → row_left (left + q) ≡ m_field s + q
  unfolding row_left
  row_question q = rw (le-ltb (left + q) left (omega arith)) (omega arith)

  pub row_one : (i : ℕ) → i < left + asked → row_left i < m_field s + asked
  row_one i l = ⊎_elim
      (λ (q : left ≤ i). let e : i ≡ left + (i - left) = omega arith in rw e (rw (row_question (i - left)) (omega arith)))
      (λ (q : i < left). rw (row_rule i q) (omega (arith, left_inside (blank_left s) (m_field s) i q)))
      (nat_le_or_lt left i)

  behind_head : (k : ℕ) → get_or (converted s) (from + k) 0 ≡ get_or (rows_left s (m_field s) ++ question_rows s) k 0
  behind_head k =
      let e : from + k ≡ length (head_left s (converted_size s - length_bytes) left) + k = rw (head_length (converted_size s - length_bytes) left) refl in
      rw (converted_parts s, e) (get_or-append-add (head_left s (converted_size s - length_bytes) left) (rows_left s (m_field s) ++ question_rows s) k 0)

  question_byte : (r o : ℕ) → r < asked → o < rows_size (n_field s) 1
      → get_or (converted s) (row_place from (n_field s) (left + r) + o) 0 ≡ get_or s (row_place from (n_field s) (m_field s + r) + o) 0
  question_byte r o l b =
      let at : ℕ = rows_size (n_field s) r + o in
      let place : row_place from (n_field s) (left + r) + o ≡ from + (rows_size (n_field s) left + (rows_size (n_field s) r + o)) = omega arith in
      let inner : rows_size (n_field s) left + (rows_size (n_field s) r + o) ≡ length (rows_left s (m_field s)) + (rows_size (n_field s) r + o) = rw (rows_length s h (m_field s) (omega arith)) refl in
      let to : row_place from (n_field s) (m_field s + r) + o ≡ row_place from (n_field s) (m_field s) + (rows_size (n_field s) r + o) = omega arith in
      let small : rows_size (n_field s) r + o < rows_size (n_field s) asked = omega (arith, mul-le-mul_right {m = suc r} {n = asked} (suc (n_field s)) l) in
      rw (place, to)
      (behind_head (rows_size (n_field s) left + (rows_size (n_field s) r + o))
      ∙ rw inner (get_or-append-add (rows_left s (m_field s)) (question_rows s) (rows_size (n_field s) r + o) 0)
      ∙ part_at s (row_place from (n_field s) (m_field s)) (rows_size (n_field s) asked) (rows_size (n_field s) r + o) small)

  pub row_byte_lem : (i o : ℕ) → i < left + asked → o < rows_size (n_field s) 1
      → get_or (converted s) (row_place from (n_field s) i + o) 0 ≡ get_or s (row_place from (n_field s) (row_left i) + o) 0
  row_byte_lem i o l b = ⊎_elim
      (λ (q : left ≤ i).
      let e : i ≡ left + (i - left) = omega arith in
      rw e (rw (row_question (i - left)) (question_byte (i - left) o (omega arith) b)))
      (λ (q : i < left).
      let place : row_place from (n_field s) i + o ≡ from + (rows_size (n_field s) i + o) = omega arith in
      let inside : rows_size (n_field s) i + o < length (rows_left s (m_field s)) =
      rw (rows_length s h (m_field s) (omega arith)) (omega (arith, mul-le-mul_right {m = suc i} {n = left} (suc (n_field s)) q)) in
      rw (place, row_rule i q)
      (behind_head (rows_size (n_field s) i + o) ∙ get_or-append (rows_left s (m_field s)) (question_rows s) 0 (rows_size (n_field s) i + o) inside
      ∙ rows_at s h (m_field s) i o (omega arith) q b))
      (nat_le_or_lt left i)

  -- Each lead of it.
  pub row_lead : (i o : ℕ) → i < left + asked → o + 4 ≤ rows_size (n_field s) 1
      → num_at signed_bytes (converted s) (row_place from (n_field s) i + o) ≡ num_at signed_bytes s (row_place from (n_field s) (row_left i) + o)
  row_lead i o l b =
      num_at_same signed_bytes (converted s) s (row_place from (n_field s) i + o) (row_place from (n_field s) (row_left i) + o) (λ t g.
      let a : row_place from (n_field s) i + o + t ≡ row_place from (n_field s) i + (o + t) = omega arith in
      let c : row_place from (n_field s) (row_left i) + o + t ≡ row_place from (n_field s) (row_left i) + (o + t) = omega arith in
      rw (a, c) (row_byte_lem i (o + t) l (omega arith)))

  -- ---- nothing refuses it

  pub converted_header : HeaderPasses converter_kinds (converted s) (length (converted s))
  converted_header = record {
    size_enough = rw converted_length converted_least;
    length_is = rw (converted_length, converted_length_field) (omega (arith, converted_least));
    kind_known = rw converted_kind h.kind_known;
    n_most = rw converted_n h.n_most;
    m_most = rw converted_m (omega (arith, left_most (blank_left s) (m_field s), h.m_most));
    count_right = right;
    size_is = rw (converted_length, converted_n, converted_m) sizes;
  }
    where
      right : wrong_count (length (converted s)) (kind_field (converted s)) (count_field (converted s)) ≡ false
      right = ⊎_elim
          (λ (k : kind_field s ≡ problem_kind). rw (converted_kind, k) refl)
          (λ (k : kind_field s ≡ questions_kind).
          let c = few_questions s (length s) k h in
          let twelve : from ≡ questions_header = rw k refl in
          rw (converted_kind, converted_count k, k) (few_right (length (converted s)) (count_field s) c.some c.few))
          either

      sizes : converted_size s ≡ leads_place (kind_field (converted s)) left + 2 * signed_bytes * (suc (n_field s) * (left + questions_asked (kind_field (converted s)) (count_field (converted s))))
      sizes = rw (converted_asked, converted_kind) refl

  -- Its leads start where those of the record do.
  pub from_converted : leads_place (kind_field (converted s)) (m_field (converted s)) ≡ from
  from_converted = rw converted_kind (start_same (m_field (converted s)))

  -- Its rules are rules that stay.
  pub converted_blank : (i : ℕ) → i < left → blank_left (converted s) i ≡ blank_left s (row_left i)
  converted_blank i l =
      rw (from_converted, converted_n)
      (run_same (converted s) s (suc (n_field s)) (row_place from (n_field s) i) (row_place from (n_field s) (row_left i)) (λ j g.
      row_lead i (signed_bytes * j) (omega arith) (omega arith)))

  pub converted_speaks : silent_refused (converted s) ≡ false
  converted_speaks = (none_below (blank_left (converted s)) (m_field (converted s))).1 (λ i l.
      let g : i < left = rw converted_m at l in
      converted_blank i g ∙ rw (row_rule i g) (left_stays (blank_left s) (m_field s) i g))

  -- Lead k of row i, of the left ones and the right ones counted together.
  lead_left : (i k : ℕ) → i < left + asked → k < 2 * suc (n_field s)
      → trop_at (converted s) (from + signed_bytes * (i * (2 * suc (n_field s)) + k)) ≡ trop_at s (from + signed_bytes * (row_left i * (2 * suc (n_field s)) + k))
  unfolding trop_at
  lead_left i k l g =
      let a : from + signed_bytes * (i * (2 * suc (n_field s)) + k) ≡ row_place from (n_field s) i + signed_bytes * k = omega arith in
      let c : from + signed_bytes * (row_left i * (2 * suc (n_field s)) + k) ≡ row_place from (n_field s) (row_left i) + signed_bytes * k = omega arith in
      rw (a, c) (ap trop_field (row_lead i (signed_bytes * k) l (omega arith)))

  pub converted_leads : all (blank_or_within lead_limit) (leads_of s) ≡ true → all (blank_or_within lead_limit) (leads_of (converted s)) ≡ true
  unfolding leads_of trop_at
  converted_leads fit =
      let every = (all-numsAt (blank_or_within lead_limit) trop_field signed_bytes (2 * (suc (n_field s) * (m_field s + asked))) s from).0 fit in
      rw (from_converted, converted_asked, converted_n, converted_m)
      ((all-numsAt (blank_or_within lead_limit) trop_field signed_bytes (2 * (suc (n_field s) * (left + asked))) (converted s) from).1 (λ k l.
      let c = divided (2 * suc (n_field s)) k (left + asked) (omega arith) in
      let r = row_one c.turns c.few in
      let inside : row_left c.turns * (2 * suc (n_field s)) + c.rest < 2 * (suc (n_field s) * (m_field s + asked)) =
      omega (arith, c.small, mul-le-mul_right {m = suc (row_left c.turns)} {n = m_field s + asked} (suc (n_field s)) r) in
      rw c.is (rw (lead_left c.turns c.rest c.few c.small) (every (row_left c.turns * (2 * suc (n_field s)) + c.rest) inside))))

-- The engine knows the converter's kinds.
taken : {s : List ℕ} {size : ℕ} → HeaderPasses converter_kinds s size → HeaderPasses engine_kinds s size
taken {s} h = record {
  size_enough = h.size_enough;
  length_is = h.length_is;
  kind_known = ⊎_elim (λ (k : kind_field s ≡ problem_kind). rw k refl) (λ (k : kind_field s ≡ questions_kind). rw k refl) (kind_stored (kind_field s) h.kind_known);
  n_most = h.n_most;
  m_most = h.m_most;
  count_right = h.count_right;
  size_is = h.size_is;
}

-- So whoever knows its kind takes it,
converted_by : (kinds : Kinds) (s : List ℕ) → StoredFits s → HeaderPasses kinds (converted s) (length (converted s)) → refusal_for kinds (converted s) ≡ 0
converted_by kinds s f passes = (record_fits kinds (converted s)).1 (record {
  header = passes;
  states_fit = ⊎_elim (λ (k : kind_field (converted s) ≡ problem_kind). rw k refl) (λ (k : kind_field (converted s) ≡ questions_kind). rw k refl) (kind_stored (kind_field (converted s)) (converted_header s f.header).kind_known);
  leads_fit = converted_leads s f.header f.leads_fit;
  rules_speak = converted_speaks s f.header;
})

-- the engine,
pub converted_within : (s : List ℕ) → StoredFits s → WithinLayouts (converted s)
converted_within s f = converted_by engine_kinds s f (taken (converted_header s f.header))

-- and the converter itself finds no rule to drop.
pub converted_stored : (s : List ℕ) → StoredFits s → refusal_for converter_kinds (converted s) ≡ 0
converted_stored s f = converted_by converter_kinds s f (converted_header s f.header)

-- Its bytes are bytes.
rows_bytes_lem : (s : List ℕ) → Bytes s → (k : ℕ) → Bytes (rows_left s k)
unfolding rows_left
rows_bytes_lem s b zero = bytes_take 0 b
rows_bytes_lem s b (suc k) = bytes_append (rows_bytes_lem s b k) (go (blank_left s k))
  where
    go : (t : Bool) → Bytes (cond t [] (part s (row_place (leads_place (kind_field s) (m_field s)) (n_field s) k) (rows_size (n_field s) 1)))
    go true = bytes_take 0 b
    go false = bytes_take (rows_size (n_field s) 1) (bytes_drop (row_place (leads_place (kind_field s) (m_field s)) (n_field s) k) b)

pub converted_bytes : (s : List ℕ) → Bytes s → Bytes (converted s)
unfolding converted
converted_bytes s b =
    bytes_append (bytes_le length_bytes _)
    (bytes_append (bytes_take (m_place - kind_place) (bytes_drop kind_place b))
    (bytes_append (bytes_le short_bytes _)
    (bytes_append (bytes_take (leads_place (kind_field s) (m_field s) - problem_header) (bytes_drop problem_header b))
    (bytes_append (rows_bytes_lem s b (m_field s))
    (bytes_take (rows_size (n_field s) (questions_asked (kind_field s) (count_field s))) (bytes_drop (row_place (leads_place (kind_field s) (m_field s)) (n_field s) (m_field s)) b))))))
