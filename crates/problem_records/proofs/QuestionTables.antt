-- The tables of one question: the rules as they were read, and its row. Document 02, 2.1.
use Prim.Native.Nat.{ℕ, ◌+◌, ◌*◌, ◌/◌, ◌%◌, ◌-◌, ◌≤◌, ◌<◌}
use mathlib.Core.Path.{◌≡◌, refl, ap, sym, ◌∙◌}
use mathlib.Core.Bool.{cond}
use mathlib.Core.Logic.{⊎_elim}
use mathlib.Core.List.{List}
use native.Mathlib.Omega.{arith}
use lib.Dec.{leb}
use lib.ListN.{length, get_or, drop, get_or-eq_default}
use borrow.Author.Tests.{le-leb, lt-leb, eq-eqb, ne_eqb}
use Rattle.definitions.specs.Limits.{highest_n, highest_m, most_questions, signed_bytes, problem_header, questions_header, table_size}
use Rattle.definitions.specs.Bytes.{num_at}
use Rattle.definitions.specs.Offset.{off}
use Rattle.definitions.specs.ProblemRecord.{engine_kinds, n_field, m_field, row_place, left_place, right_place, list_of}
use Rattle.definitions.specs.Questions.{rows_size, alone, asked_row}
use Rattle.base.specs.Filled.{FilledFrom}
use Rattle.base.proofs.Numbers.{nat_le_or_lt}
use Rattle.definitions.proofs.Bytes.{num_at_drop}
use Rattle.definitions.proofs.Inputs.{header_none}
use Rattle.definitions.proofs.Questions.{Asks, Several, several_passes, row_inside, alone_kind, alone_n, alone_m, alone_lead}
use Rattle.records.specs.Decoded.{Steady, Rewritten}
use Rattle.problem_records.specs.Tables.{lead_at, cell, left_table, right_table}
use Rattle.problem_records.specs.Filling.{row_cell, QuestionHeld}
use Rattle.problem_records.proofs.Tables.{is_list_of, get_d_list_of, length_list_of, cell_row, cell_past, plain_left_table, plain_right_table}

-- A table whose rows before and behind the question's are those of the record, and whose question is question q: `side` is where
-- a row's leads of this table start.
pub record AskedTable (s : List ℕ) (n m q side : ℕ) (place : ℕ → ℕ → ℕ) (l : List ℕ) : Type 0 where
  pub size : length l ≡ 2048
  pub rules : (k : ℕ) → k < 32 * m → get_or l k 0 ≡ cell place s n m k
  pub row : (j : ℕ) → j < 32 → get_or l (32 * m + j) 0 ≡ row_cell s (row_place problem_header n (m + q) + side) n j
  pub past : (k : ℕ) → 32 * m + 32 ≤ k → get_or l k 0 ≡ 0

module _
    (s : List ℕ) {count : ℕ} (asks : Asks s count) (q : ℕ) (h : q < count) (side : ℕ) (place : ℕ → ℕ → ℕ)
    (place_is : (i j : ℕ) → place i j ≡ row_place problem_header (n_field s) i + side + 4 * j) (fits : side + 4 * (n_field s + 1) ≤ rows_size (n_field s) 1)
  where
    -- A lead of the question's own record is one of the record of all, whose leads start two bytes later.
    lead_is : (i j : ℕ) → i ≤ m_field s → j ≤ n_field s → lead_at (alone s q) (place i j) ≡ lead_at (drop 2 s) (place (asked_row (m_field s) q i) j)
    lead_is i j g l =
        let from : place i j ≡ row_place problem_header (n_field s) i + (side + 4 * j) = place_is i j ∙ omega arith in
        let to : 2 + place (asked_row (m_field s) q i) j ≡ row_place questions_header (n_field s) (asked_row (m_field s) q i) + (side + 4 * j) =
        ap (λ (x : ℕ). 2 + x) (place_is (asked_row (m_field s) q i) j) ∙ omega arith in
        ap off (rw from (alone_lead s asks q h i (side + 4 * j) g (omega (arith, fits)))
        ∙ sym (num_at_drop signed_bytes 2 s (place (asked_row (m_field s) q i) j) ∙ ap (num_at signed_bytes s) to))

    row_same : (i j : ℕ) → i ≤ m_field s → row_cell (alone s q) (row_place problem_header (n_field s) i + side) (n_field s) j
        ≡ row_cell (drop 2 s) (row_place problem_header (n_field s) (asked_row (m_field s) q i) + side) (n_field s) j
    unfolding row_cell
    row_same i j g = ⊎_elim
        (λ (b : n_field s + 1 ≤ j). rw (lt-leb j (n_field s) (omega arith)))
        (λ (b : j < n_field s + 1).
        rw (le-leb j (n_field s) (omega arith))
        (ap (lead_at (alone s q)) (sym (place_is i j)) ∙ lead_is i j g (omega arith) ∙ ap (lead_at (drop 2 s)) (place_is (asked_row (m_field s) q i) j)))
        (nat_le_or_lt (n_field s + 1) j)

    cell_asked : (i j : ℕ) → i ≤ m_field s → j < 32
        → cell place (alone s q) (n_field s) (m_field s) (32 * i + j) ≡ row_cell (drop 2 s) (row_place problem_header (n_field s) (asked_row (m_field s) q i) + side) (n_field s) j
    cell_asked i j g l =
        cell_row place (alone s q) (n_field s) (m_field s) i j (row_place problem_header (n_field s) i + side) g l (place_is i j) ∙ row_same i j g

    -- The rules' cells are those of the record.
    pub rule_cell : (k : ℕ) → k < 32 * m_field s → cell place (alone s q) (n_field s) (m_field s) k ≡ cell place (drop 2 s) (n_field s) (m_field s) k
    rule_cell k b =
        let e : k ≡ 32 * (k / 32) + k % 32 = omega arith in
        let same : asked_row (m_field s) q (k / 32) ≡ k / 32 = rw (ne_eqb (k / 32) (m_field s) (λ z. omega arith)) in
        let old : cell place (drop 2 s) (n_field s) (m_field s) (32 * (k / 32) + k % 32) ≡ row_cell (drop 2 s) (row_place problem_header (n_field s) (k / 32) + side) (n_field s) (k % 32) =
        cell_row place (drop 2 s) (n_field s) (m_field s) (k / 32) (k % 32) _ (omega arith) (omega arith) (place_is (k / 32) (k % 32)) in
        let new : cell place (alone s q) (n_field s) (m_field s) (32 * (k / 32) + k % 32) ≡ row_cell (drop 2 s) (row_place problem_header (n_field s) (k / 32) + side) (n_field s) (k % 32) =
        cell_asked (k / 32) (k % 32) (omega arith) (omega arith) ∙ ap (λ (x : ℕ). row_cell (drop 2 s) (row_place problem_header (n_field s) x + side) (n_field s) (k % 32)) same in
        ap (cell place (alone s q) (n_field s) (m_field s)) e ∙ new ∙ sym old ∙ ap (cell place (drop 2 s) (n_field s) (m_field s)) (sym e)

    -- The table is that of the question's own record.
    pub asked_table : {l : List ℕ} → AskedTable (drop 2 s) (n_field s) (m_field s) q side place l → l ≡ list_of (cell place (alone s q) (n_field s) (m_field s)) 2048
    asked_table {l} t = is_list_of (cell place (alone s q) (n_field s) (m_field s)) 2048 l t.size (λ k b. ⊎_elim (behind k) (before k) (nat_le_or_lt (32 * m_field s + 32) k))
      where
        rule : (k : ℕ) → k < 32 * m_field s → get_or l k 0 ≡ cell place (alone s q) (n_field s) (m_field s) k
        rule k b = t.rules k b ∙ sym (rule_cell k b)

        question : (k : ℕ) → 32 * m_field s ≤ k → k < 32 * m_field s + 32 → get_or l k 0 ≡ cell place (alone s q) (n_field s) (m_field s) k
        question k b c =
            let j : ℕ = k - 32 * m_field s in
            let e : k ≡ 32 * m_field s + (k - 32 * m_field s) = omega arith in
            let asked : asked_row (m_field s) q (m_field s) ≡ m_field s + q = rw (eq-eqb (m_field s) (m_field s) refl) in
            let new = cell_asked (m_field s) (k - 32 * m_field s) (omega arith) (omega arith)
            ∙ ap (λ (x : ℕ). row_cell (drop 2 s) (row_place problem_header (n_field s) x + side) (n_field s) (k - 32 * m_field s)) asked in
            ap (λ (x : ℕ). get_or l x 0) e ∙ t.row (k - 32 * m_field s) (omega arith) ∙ sym new ∙ ap (cell place (alone s q) (n_field s) (m_field s)) (sym e)

        behind : (k : ℕ) → 32 * m_field s + 32 ≤ k → get_or l k 0 ≡ cell place (alone s q) (n_field s) (m_field s) k
        behind k b = t.past k b ∙ sym (cell_past place (alone s q) (n_field s) (m_field s) k (omega arith))

        before : (k : ℕ) → k < 32 * m_field s + 32 → get_or l k 0 ≡ cell place (alone s q) (n_field s) (m_field s) k
        before k b = ⊎_elim (λ c. question k c b) (rule k) (nat_le_or_lt (32 * m_field s) k)

-- ---- from one question to the next

-- A row of the record, read where it stands and behind two bytes.
row_dropped : (s : List ℕ) (n at j : ℕ) → row_cell (drop 2 s) at n j ≡ row_cell s (2 + at) n j
unfolding row_cell
row_dropped s n at j =
    let e : 2 + (at + 4 * j) ≡ 2 + at + 4 * j = omega arith in
    ap (λ (x : ℕ). cond (leb j n) (off x) 0) (num_at_drop signed_bytes 2 s (at + 4 * j) ∙ ap (num_at signed_bytes s) e)

-- Behind the question's row a table is blank.
table_past : (place : ℕ → ℕ → ℕ) (s : List ℕ) (n m k : ℕ) → 32 * m + 32 ≤ k → get_or (list_of (cell place s n m) 2048) k 0 ≡ 0
table_past place s n m k h = ⊎_elim
    (λ (b : 2048 ≤ k). get_or-eq_default (list_of (cell place s n m) 2048) 0 (rw (length_list_of (cell place s n m) 2048) b))
    (λ (b : k < 2048). get_d_list_of (cell place s n m) 2048 k b ∙ cell_past place s n m k (omega arith))
    (nat_le_or_lt 2048 k)

module _
    (s : List ℕ) {count : ℕ} (asks : Asks s count) (some : 0 < count) (q : ℕ) (h : q < count) (side : ℕ) (place : ℕ → ℕ → ℕ)
    (place_is : (i j : ℕ) → place i j ≡ row_place problem_header (n_field s) i + side + 4 * j) (fits : side + 4 * (n_field s + 1) ≤ rows_size (n_field s) 1)
  where
    table_for : ℕ → List ℕ
    table_for k = list_of (cell place (alone s k) (n_field s) (m_field s)) 2048

    -- An element of the rules.
    rule_at : (i : ℕ) → i < count → (k : ℕ) → k < 32 * m_field s → get_or (table_for i) k 0 ≡ cell place (drop 2 s) (n_field s) (m_field s) k
    unfolding table_for
    rule_at i b k l =
        get_d_list_of (cell place (alone s i) (n_field s) (m_field s)) 2048 k (omega (arith, asks.m_most)) ∙ rule_cell s asks i b side place place_is fits k l

    -- The tables of two questions differ in the question's row alone.
    questions_steady : Steady (m_field s) (table_for 0) (table_for q)
    unfolding table_for
    questions_steady = record {
      above = λ k b. rule_at q h k (omega arith) ∙ sym (rule_at 0 some k (omega arith));
      below = λ k b. table_past place (alone s q) (n_field s) (m_field s) k (omega arith) ∙ sym (table_past place (alone s 0) (n_field s) (m_field s) k (omega arith));
    }

    -- Question q, read into the tables of any other, gives its own table.
    question_table : {l l' : List ℕ} → Rewritten (m_field s) (table_for 0) l
        → FilledFrom (row_cell s (row_place questions_header (n_field s) (m_field s + q) + side) (n_field s)) (32 * m_field s) 32 l l' → l' ≡ table_for q
    unfolding table_for
    question_table {l} {l'} r f = asked_table s asks q h side place place_is fits (record {
      size = f.same ∙ r.size;
      rules = λ k b. f.before k b ∙ r.steady.above k (omega arith) ∙ rule_at 0 some k b;
      row = λ j b.
          let e : 2 + (row_place problem_header (n_field s) (m_field s + q) + side) ≡ row_place questions_header (n_field s) (m_field s + q) + side = omega arith in
          f.cells j b ∙ sym (row_dropped s (n_field s) (row_place problem_header (n_field s) (m_field s + q) + side) j ∙ ap (λ (x : ℕ). row_cell s x (n_field s) j) e);
      past = λ k b. f.after k b ∙ r.steady.below k (omega arith) ∙ table_past place (alone s 0) (n_field s) (m_field s) k b;
    })

-- Both tables.
module _ (s : List ℕ) {count : ℕ} (asks : Asks s count) (q : ℕ) (h : q < count) where
  pub asked_left : {l : List ℕ} → AskedTable (drop 2 s) (n_field s) (m_field s) q 0 (left_place (n_field s)) l → l ≡ left_table (alone s q)
  asked_left t =
      rw (plain_left_table (alone s q) (alone_kind s asks q h), alone_n s asks q h, alone_m s asks q h) (asked_table s asks q h 0 (left_place (n_field s)) (λ i j. omega arith) (omega arith) t)

  pub asked_right : {l : List ℕ} → AskedTable (drop 2 s) (n_field s) (m_field s) q (4 * (n_field s + 1)) (right_place (n_field s)) l → l ≡ right_table (alone s q)
  asked_right t =
      rw (plain_right_table (alone s q) (alone_kind s asks q h), alone_n s asks q h, alone_m s asks q h) (asked_table s asks q h (4 * (n_field s + 1)) (right_place (n_field s)) (λ i j. omega arith) (omega arith) t)

  left_is : left_table (alone s q) ≡ list_of (cell (left_place (n_field s)) (alone s q) (n_field s) (m_field s)) 2048
  left_is = rw (plain_left_table (alone s q) (alone_kind s asks q h), alone_n s asks q h, alone_m s asks q h) refl

  right_is : right_table (alone s q) ≡ list_of (cell (right_place (n_field s)) (alone s q) (n_field s) (m_field s)) 2048
  right_is = rw (plain_right_table (alone s q) (alone_kind s asks q h), alone_n s asks q h, alone_m s asks q h) refl

module _ (s : List ℕ) {count : ℕ} (asks : Asks s count) (some : 0 < count) (q : ℕ) (h : q < count) where
  -- The tables of two questions differ in the question's row alone.
  pub left_steady : Steady (m_field s) (left_table (alone s 0)) (left_table (alone s q))
  unfolding table_for
  left_steady = rw (left_is s asks 0 some, left_is s asks q h) (questions_steady s asks some q h 0 (left_place (n_field s)) (λ i j. omega arith) (omega arith))

  pub right_steady : Steady (m_field s) (right_table (alone s 0)) (right_table (alone s q))
  unfolding table_for
  right_steady = rw (right_is s asks 0 some, right_is s asks q h) (questions_steady s asks some q h (4 * (n_field s + 1)) (right_place (n_field s)) (λ i j. omega arith) (omega arith))

  -- A question read gives its own tables.
  pub left_question : {l l' : List ℕ} → Rewritten (m_field s) (left_table (alone s 0)) l
      → FilledFrom (row_cell s (row_place questions_header (n_field s) (m_field s + q)) (n_field s)) (32 * m_field s) 32 l l' → l' ≡ left_table (alone s q)
  unfolding table_for
  left_question {l} {l'} r f =
      let e : row_place questions_header (n_field s) (m_field s + q) ≡ row_place questions_header (n_field s) (m_field s + q) + 0 = omega arith in
      rw (left_is s asks q h) (question_table s asks some q h 0 (left_place (n_field s)) (λ i j. omega arith) (omega arith) (rw (left_is s asks 0 some) at r) (rw e at f))

  pub right_question : {l l' : List ℕ} → Rewritten (m_field s) (right_table (alone s 0)) l
      → FilledFrom (row_cell s (row_place questions_header (n_field s) (m_field s + q) + 4 * (n_field s + 1)) (n_field s)) (32 * m_field s) 32 l l' → l' ≡ right_table (alone s q)
  unfolding table_for
  right_question r f =
      rw (right_is s asks q h) (question_table s asks some q h (4 * (n_field s + 1)) (right_place (n_field s)) (λ i j. omega arith) (omega arith) (rw (right_is s asks 0 some) at r) f)

-- ---- reading a question

-- The numbers of it.
pub record QuestionSizes (s : List ℕ) (n m q : ℕ) (left right : List ℕ) : Type 0 where
  pub n_most : n ≤ highest_n
  pub m_most : m ≤ highest_m
  pub q_most : q < most_questions
  pub holds : row_place questions_header n (m + q) + 8 * (n + 1) ≤ length s
  pub left_room : length left ≡ table_size
  pub right_room : length right ≡ table_size

module _ {s : List ℕ} {n m q : ℕ} {left right : List ℕ} (held : QuestionHeld s n m q left right) where
  several : Several s
  several = several_passes engine_kinds held.kind_is (header_none engine_kinds s held.within)

  pub question_sizes : QuestionSizes s n m q left right
  question_sizes =
      let inside = row_inside several.asks (m_field s + q) (omega (arith, held.asked)) in
      record {
        n_most = rw held.n_is several.asks.n_most;
        m_most = rw held.m_is several.asks.m_most;
        q_most = omega (arith, held.asked, several.few);
        holds = rw (held.n_is, held.m_is) (omega (arith, inside));
        left_room = held.lefts.size;
        right_room = held.rights.size;
      }

  -- Both rows read, the tables are those of the question's own record.
  pub question_read : {left' right' : List ℕ} (at : ℕ) → at ≡ row_place questions_header n (m + q)
      → FilledFrom (row_cell s at n) (32 * m) 32 left left' → FilledFrom (row_cell s (at + 4 * (n + 1)) n) (32 * m) 32 right right'
      → (left' ≡ left_table (alone s q)) × (right' ≡ right_table (alone s q))
  question_read at e f g =
      let own = held.n_is in
      let rows = held.m_is in (
        left_question s several.asks several.some q held.asked (rw rows at held.lefts) (rw (e, own, rows) at f),
        right_question s several.asks several.some q held.asked (rw rows at held.rights) (rw (e, own, rows) at g),
      )
