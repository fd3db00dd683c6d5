-- A problem written by `problem_bytes` is within the layout and reads back as itself.
use Prim.Native.Nat.{ℕ, zero, suc, ◌+◌, ◌*◌, ◌-◌, ◌≤◌, ◌<◌}
use mathlib.Core.Path.{◌≡◌, refl, ap, sym, ◌∙◌}
use mathlib.Core.Bool.{Bool, true, false, and-eq-true_iff}
use mathlib.Core.List.{List, [], ◌∷◌, ◌++◌, map, append_assoc, append-nil, map-append}
use mathlib.Core.Logic.{⊎_elim}
use native.Mathlib.Omega.{arith}
use native.Mathlib.Nat.{mul-le-mul_left, mul-le-mul_right}
use lib.ListN.{length, get_or, length-append, length-map, get_or-append, get_or-map}
use lib.Seq.{get_or_at, get_or-append-add}
use Rattle.base.proofs.Numbers.{nat_le_or_lt}
use Rattle.definitions.specs.Limits.{highest_n, highest_m, lead_limit, length_bytes, short_bytes, signed_bytes, signed_full, problem_kind, problem_header, problem_most}
use Rattle.definitions.specs.Tropical.{Trop, bot}
use Rattle.definitions.specs.Problem.{Problem}
use Rattle.definitions.specs.Bytes.{num_at, nums_at, fields, trop_field, field_of, trop_at, all, blank_or_within}
use Rattle.definitions.specs.ProblemRecord.{WithinLayout, problem_of, problem_size, header_bytes, problem_bytes, row_bytes, rows_bytes, leads_of, list_of, n_field, m_field, length_field, kind_field, leads_place, row_place, blank_left, left_place, right_place, silent_refused}
use Rattle.definitions.proofs.Bytes.{length_le, length_fields, fields_append, nums_fields, Below, get_d_nums_at, all_true}
use Rattle.definitions.proofs.Layouts.{plain_within, leads_one}
use Rattle.definitions.proofs.Silent.{none_below, run_speaks}
use Rattle.definitions.proofs.RoundTrip.{trops_back, trops_below, num_here, num_past}

-- ---- a function as a list

pub listed-length {ℓ} : {A : Type ℓ} (f : ℕ → A) (k : ℕ) → length (list_of f k) ≡ k
unfolding list_of
listed-length f zero = refl
listed-length f (suc k) = rw (length-append, listed-length f k) (omega arith)

pub listed_at {ℓ} : {A : Type ℓ} (f : ℕ → A) (d : A) (k i : ℕ) → i < k → get_or (list_of f k) i d ≡ f i
unfolding list_of
listed_at f d zero i h = absurd (omega arith)
listed_at f d (suc k) i h = ⊎_elim
    (λ (q : k ≤ i). let e : i ≡ k = omega arith in rw e (get_or_at (list_of f k) (f k) [] d k (listed-length f k)))
    (λ (q : i < k). let l : i < length (list_of f k) = rw listed-length q in get_or-append (list_of f k) (f k ∷ []) d i l ∙ listed_at f d k i q)
    (nat_le_or_lt k i)

-- ---- leads

-- Leads that may stand in a record: blank or within the limit.
pub record SmallLeads (p : Problem) : Type 0 where
  pub left : (i j : ℕ) → i ≤ p.m → j ≤ p.n → blank_or_within lead_limit (p.left i j) ≡ true
  pub right : (i j : ℕ) → i ≤ p.m → j ≤ p.n → blank_or_within lead_limit (p.right i j) ≡ true

-- Every rule has a left lead that is not blank.
pub record RulesSpeak (p : Problem) : Type 0 where
  pub column : ℕ → ℕ
  pub inside : (i : ℕ) → i < p.m → column i ≤ p.n
  pub given : (i : ℕ) → i < p.m → p.left i (column i) ≡ bot → ⊥

all_append : (test : Trop → Bool) (xs ys : List Trop) → all test xs ≡ true → all test ys ≡ true → all test (xs ++ ys) ≡ true
unfolding all
all_append test [] ys e f = f
all_append test (x ∷ xs) ys e f = let h = (and-eq-true_iff (test x) (all test xs)).0 e in (and-eq-true_iff (test x) (all test (xs ++ ys))).1 (h.0, all_append test xs ys h.1 f)

all_listed : (test : Trop → Bool) (f : ℕ → Trop) (k : ℕ) → ((i : ℕ) → i < k → test (f i) ≡ true) → all test (list_of f k) ≡ true
all_listed test f k h =
    (all_true test bot (list_of f k)).1 (λ i l. let b : i < k = rw listed-length at l in rw (listed_at f bot k i b) (h i b))

module _ (p : Problem) where
  -- Those of a row, and those of the first k rows, in their order.
  row : ℕ → List Trop
  row i = list_of (p.left i) (suc p.n) ++ list_of (p.right i) (suc p.n)

  rows : ℕ → List Trop
  rows zero = []
  rows (suc k) = rows k ++ row k

  length_row : (i : ℕ) → length (row i) ≡ 2 * suc p.n
  unfolding row
  length_row i = simp (length-append, listed-length) (omega arith)

  length_rows : (k : ℕ) → length (rows k) ≡ 2 * (k * suc p.n)
  unfolding rows
  length_rows zero = omega arith
  length_rows (suc k) = rw (length-append, length_rows k, length_row k) (omega arith)

  -- Their bytes.
  row_bytes_lem : (i : ℕ) → row_bytes p i ≡ fields signed_bytes (map field_of (row i))
  unfolding row_bytes row
  row_bytes_lem i = rw (map-append, fields_append)

  rows_bytes_lem : (k : ℕ) → rows_bytes p k ≡ fields signed_bytes (map field_of (rows k))
  unfolding rows_bytes rows fields
  rows_bytes_lem zero = refl
  rows_bytes_lem (suc k) = rw (map-append, fields_append, rows_bytes_lem k, row_bytes_lem k)

  -- Lead k of row i stands at this place among all.
  rows_at : (d : Trop) (count i k : ℕ) → i < count → k < 2 * suc p.n → get_or (rows count) (2 * (i * suc p.n) + k) d ≡ get_or (row i) k d
  unfolding rows
  rows_at d zero i k h g = absurd (omega arith)
  rows_at d (suc count) i k h g = ⊎_elim
      (λ (q : count ≤ i).
      let e : i ≡ count = omega arith in
      let place : 2 * (i * suc p.n) + k ≡ length (rows count) + k = rw (e, length_rows count) refl in
      rw (place, e) (get_or-append-add (rows count) (row count) k d))
      (λ (q : i < count).
      let inside : 2 * (i * suc p.n) + k < length (rows count) = rw (length_rows count) (omega (arith, mul-le-mul_right {m = suc i} {n = count} (suc p.n) (omega arith))) in
      get_or-append (rows count) (row count) d _ inside ∙ rows_at d count i k q g)
      (nat_le_or_lt count i)

  row_left_lem : (d : Trop) (i j : ℕ) → j ≤ p.n → get_or (row i) j d ≡ p.left i j
  unfolding row
  row_left_lem d i j h =
      let inside : j < length (list_of (p.left i) (suc p.n)) = rw listed-length (omega arith) in
      get_or-append (list_of (p.left i) (suc p.n)) _ d j inside ∙ listed_at (p.left i) d (suc p.n) j (omega arith)

  row_right : (d : Trop) (i j : ℕ) → j ≤ p.n → get_or (row i) (suc p.n + j) d ≡ p.right i j
  unfolding row
  row_right d i j h =
      let e : suc p.n + j ≡ length (list_of (p.left i) (suc p.n)) + j = rw listed-length refl in
      rw e (get_or-append-add (list_of (p.left i) (suc p.n)) (list_of (p.right i) (suc p.n)) j d) ∙ listed_at (p.right i) d (suc p.n) j (omega arith)

  -- They are all blank or within the limit.
  rows_fit : SmallLeads p → (k : ℕ) → k ≤ suc p.m → all (blank_or_within lead_limit) (rows k) ≡ true
  unfolding rows row all
  rows_fit l zero h = refl
  rows_fit l (suc k) h =
      all_append (blank_or_within lead_limit) (rows k) _ (rows_fit l k (omega arith))
      (all_append (blank_or_within lead_limit) (list_of (p.left k) (suc p.n)) _ (all_listed _ (p.left k) (suc p.n) (λ j b. l.left k j (omega arith) (omega arith)))
      (all_listed _ (p.right k) (suc p.n) (λ j b. l.right k j (omega arith) (omega arith))))

-- ---- the record

-- What is written is within the layout, and its bytes mean the problem.
pub record ReadsAsItself (p : Problem) : Type 0 where
  pub within : WithinLayout (problem_bytes p)
  pub n_is : (problem_of (problem_bytes p)).n ≡ p.n
  pub m_is : (problem_of (problem_bytes p)).m ≡ p.m
  pub left_is : (i j : ℕ) → i ≤ p.m → j ≤ p.n → (problem_of (problem_bytes p)).left i j ≡ p.left i j
  pub right_is : (i j : ℕ) → i ≤ p.m → j ≤ p.n → (problem_of (problem_bytes p)).right i j ≡ p.right i j

-- The ten bytes of a header, and what stands behind them.
module _ (n m : ℕ) (rest : List ℕ) where
  pub length_header : length (header_bytes n m) ≡ problem_header
  unfolding header_bytes
  length_header = simp (length-append, length_le)

  pub read_length : problem_size n m - length_bytes < signed_full → length_field (header_bytes n m ++ rest) ≡ problem_size n m - length_bytes
  unfolding header_bytes
  read_length h = simp append_assoc (num_here length_bytes (problem_size n m - length_bytes) _ h)

  pub read_kind : kind_field (header_bytes n m ++ rest) ≡ problem_kind
  unfolding header_bytes
  read_kind = simp append_assoc (num_past short_bytes length_bytes (problem_size n m - length_bytes) _ 0 ∙ num_here short_bytes problem_kind _ (omega arith))

  pub read_n : n < 65536 → n_field (header_bytes n m ++ rest) ≡ n
  unfolding header_bytes
  read_n h = simp append_assoc (num_past short_bytes length_bytes (problem_size n m - length_bytes) _ 2 ∙ num_past short_bytes short_bytes problem_kind _ 0 ∙ num_here short_bytes n _ h)

  pub read_m : m < 65536 → m_field (header_bytes n m ++ rest) ≡ m
  unfolding header_bytes
  read_m h = simp append_assoc (num_past short_bytes length_bytes (problem_size n m - length_bytes) _ 4 ∙ num_past short_bytes short_bytes problem_kind _ 2 ∙ num_past short_bytes short_bytes n _ 0 ∙ num_here short_bytes m _ h)

-- A header, and fields behind it.
module _ (n m : ℕ) (xs : List ℕ) where
  whole : List ℕ
  whole = header_bytes n m ++ fields signed_bytes xs

  length_whole : length whole ≡ problem_header + signed_bytes * length xs
  unfolding whole
  length_whole = rw (length-append, length_header n m [], length_fields) (omega arith)

  read_leads : Below signed_full xs → nums_at signed_bytes (length xs) whole problem_header ≡ xs
  unfolding whole
  read_leads b =
      rw (← append-nil (fields signed_bytes xs)) (nums_fields signed_bytes xs (header_bytes n m) [] problem_header (length_header n m []) b)

  -- Field k of them.
  read_lead : Below signed_full xs → (k : ℕ) → k < length xs → num_at signed_bytes whole (problem_header + signed_bytes * k) ≡ get_or xs k 0
  read_lead b k h = sym (get_d_nums_at signed_bytes (length xs) whole problem_header k h) ∙ ap (λ (l : List ℕ). get_or l k 0) (read_leads b)

module _ (p : Problem) (n_most : p.n ≤ highest_n) (m_most : p.m ≤ highest_m) (l : SmallLeads p) where
  all_leads : List Trop
  all_leads = rows p (suc p.m)

  fit : all (blank_or_within lead_limit) all_leads ≡ true
  unfolding all_leads
  fit = rows_fit p l (suc p.m) (omega arith)

  fields_of_lem : List ℕ
  fields_of_lem = map field_of all_leads

  many : length fields_of_lem ≡ 2 * (suc p.n * suc p.m)
  unfolding fields_of_lem all_leads
  many = length-map (rows p (suc p.m)) field_of ∙ length_rows p (suc p.m) ∙ omega arith

  small : Below signed_full fields_of_lem
  unfolding fields_of_lem
  small = trops_below lead_limit (omega arith) all_leads fit

  size_most : problem_size p.n p.m ≤ problem_most
  size_most =
      let wide = mul-le-mul_right {m = suc p.n} {n = 32} (suc p.m) (omega arith) in
      let high = mul-le-mul_left {m = suc p.m} {n = 64} 32 (omega arith) in
      omega (arith, wide, high)

  record_is : problem_bytes p ≡ whole p.n p.m fields_of_lem
  unfolding problem_bytes whole fields_of_lem all_leads
  record_is = rw (rows_bytes_lem p (suc p.m)) refl

  -- Lead k of row i stands in its place.
  lead_is : (i k : ℕ) → i ≤ p.m → k < 2 * suc p.n → trop_at (problem_bytes p) (problem_header + signed_bytes * (2 * (i * suc p.n) + k)) ≡ get_or (row p i) k (trop_field 0)
  unfolding trop_at fields_of_lem all_leads
  lead_is i k h g =
      let at : ℕ = 2 * (i * suc p.n) + k in
      let inside : 2 * (i * suc p.n) + k < length fields_of_lem = rw many (omega (arith, mul-le-mul_right {m = suc i} {n = suc p.m} (suc p.n) (omega arith))) in
      let number = read_lead p.n p.m fields_of_lem small at inside in
      let meant : trop_field (get_or (map field_of all_leads) at 0) ≡ get_or all_leads at (trop_field 0) =
      sym (get_or-map trop_field (map field_of all_leads) at 0) ∙ ap (λ (xs : List Trop). get_or xs at (trop_field 0)) (trops_back lead_limit (omega arith) all_leads fit) in
      rw (record_is, number) (meant ∙ rows_at p (trop_field 0) (suc p.m) i k (omega arith) g)

  read_back : (n_field (problem_bytes p) ≡ p.n) × (m_field (problem_bytes p) ≡ p.m)
  unfolding whole
  read_back = rw record_is (read_n p.n p.m _ (omega arith), read_m p.n p.m _ (omega arith))

  kind_back : kind_field (problem_bytes p) ≡ problem_kind
  unfolding whole
  kind_back = rw record_is (read_kind p.n p.m _)

  leads_back : leads_of (problem_bytes p) ≡ all_leads
  unfolding fields_of_lem
  leads_back =
      let e : 2 * (suc (n_field (problem_bytes p)) * suc (m_field (problem_bytes p))) ≡ length fields_of_lem = rw (read_back.0, read_back.1) (sym many) in
      leads_one (problem_bytes p) kind_back ∙ rw (e, record_is) (ap (map trop_field) (read_leads p.n p.m fields_of_lem small) ∙ trops_back lead_limit (omega arith) all_leads fit)

  size_is : length (problem_bytes p) ≡ problem_size p.n p.m
  size_is = rw record_is (length_whole p.n p.m fields_of_lem ∙ rw many (omega arith))

-- No rule of the record says nothing.
rules_back : (p : Problem) (n_most : p.n ≤ highest_n) (m_most : p.m ≤ highest_m) (l : SmallLeads p) → RulesSpeak p → silent_refused (problem_bytes p) ≡ false
rules_back p n_most m_most l speak =
    let back = read_back p n_most m_most l in
    let start : leads_place (kind_field (problem_bytes p)) (m_field (problem_bytes p)) ≡ problem_header = rw (kind_back p n_most m_most l) refl in
    (none_below (blank_left (problem_bytes p)) (m_field (problem_bytes p))).1 (λ i b.
    let h : i < p.m = rw back.1 at b in
    rw (start, back.0) (run_speaks (problem_bytes p) (suc p.n) (row_place problem_header p.n i) (speak.column i) (omega (arith, speak.inside i h)) (λ e.
    let place : row_place problem_header p.n i + signed_bytes * speak.column i ≡ problem_header + signed_bytes * (2 * (i * suc p.n) + speak.column i) = omega arith in
    speak.given i h
    (sym (row_left_lem p (trop_field 0) i (speak.column i) (speak.inside i h)) ∙ sym (lead_is p n_most m_most l i (speak.column i) (omega arith) (omega (arith, speak.inside i h)))
    ∙ rw place at e))))

-- A problem within the limits whose rules all say something, written, reads back as itself.
pub problem_back : (p : Problem) → p.n ≤ highest_n → p.m ≤ highest_m → SmallLeads p → RulesSpeak p → ReadsAsItself p
unfolding problem_of whole
problem_back p n_most m_most l speak =
    let back = read_back p n_most m_most l in
    let size = size_is p n_most m_most l in
    let most = size_most p n_most m_most l in
    let same = record_is p n_most m_most l in
    let kind = kind_back p n_most m_most l in
    let xs : List ℕ = fields_of_lem p n_most m_most l in
    let long : length_field (problem_bytes p) ≡ problem_size p.n p.m - length_bytes = rw same (read_length p.n p.m _ (omega arith)) in
    record {
      within = plain_within (problem_bytes p) (record {
        size_enough = omega arith;
        length_is = omega arith;
        kind_is = kind;
        n_most = omega (arith, back.0);
        m_most = omega (arith, back.1);
        size_is = rw (back.0, back.1) size;
        leads_fit = rw (leads_back p n_most m_most l) (fit p n_most m_most l);
        rules_speak = rules_back p n_most m_most l speak;
      });
      n_is = back.0;
      m_is = back.1;
      left_is = λ i j h g.
          let place : left_place p.n i j ≡ problem_header + signed_bytes * (2 * (i * suc p.n) + j) = omega arith in
          rw (kind, back.0, place) (lead_is p n_most m_most l i j h (omega arith) ∙ row_left_lem p (trop_field 0) i j g);
      right_is = λ i j h g.
          let place : right_place p.n i j ≡ problem_header + signed_bytes * (2 * (i * suc p.n) + (suc p.n + j)) = omega arith in
          rw (kind, back.0, place) (lead_is p n_most m_most l i (suc p.n + j) h (omega arith) ∙ row_right p (trop_field 0) i j g);
    }
