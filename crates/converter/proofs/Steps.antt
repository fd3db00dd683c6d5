-- Laws of the code's steps: rules counted and copied one after the other, and the record put together.
use Prim.Native.Nat.{ℕ, zero, suc, ◌+◌, ◌*◌, ◌-◌, ◌≤◌, ◌<◌}
use mathlib.Core.Path.{◌≡◌, refl, ap, sym, ◌∙◌}
use mathlib.Core.Bool.{Bool, true, false, not, cond}
use mathlib.Core.List.{List, [], ◌∷◌, ◌++◌, append_assoc, append-nil}
use native.Mathlib.Omega.{arith}
use Rattle.std.proofs.lemmas.Bool.{not-true, not-false}
use Rattle.std.specs.List.{filter, range_with_len}
use native.Mathlib.Nat.{mul-le-mul_right}
use lib.ListN.{length, length-append}
use lib.Seq.{drop-drop}
use borrow.Rule.Slice.PartMut.{put_mid}
use Rattle.definitions.specs.Limits.{length_bytes}
use Rattle.definitions.specs.Bytes.{le, put}
use Rattle.definitions.specs.ProblemRecord.{converter_kinds, kind_field, n_field, m_field, count_field, leads_place, questions_asked, row_place, run_blank, blank_left}
use Rattle.definitions.specs.Questions.{part, rows_size}
use Rattle.definitions.specs.Selection.{left_below}
use Rattle.definitions.specs.Conversion.{rules_left, rows_left, converted_size, question_rows, converted}
use Rattle.definitions.proofs.Bytes.{length_le}
use Rattle.definitions.proofs.Put.{put_nil, put_put, length_put}
use Rattle.definitions.proofs.Refusals.{HeaderPasses, header_passes}
use Rattle.definitions.proofs.Questions.{part_length}
use Rattle.records.specs.declared.problem.Layout.{Layout}
use Rattle.problem_records.proofs.ReadProblem.{Leads-told}
use Rattle.converter.specs.Steps.{Stored, head_left}
use Rattle.definitions.proofs.Chosen.{left_most, left_grows}
use Rattle.converter.proofs.Rows.{rows_length}
use Rattle.converter.proofs.Converted.{size_from, from_most, converted_parts, head_length}

-- A record whose leads fit is stored.
pub stored_of : {s : List ℕ} {l : Layout} → Leads-told converter_kinds s l → Stored s l
stored_of {s} t = record {
  none = t.fits.none;
  n_is = t.fits.n_is;
  m_is = t.fits.m_is;
  leads_is = t.fits.leads_is;
  questions_is = t.fits.questions_is;
  n_most = t.fits.n_most;
  m_most = t.fits.m_most;
  questions_most = t.fits.questions_most;
  leads_least = t.fits.leads_least;
  leads_most = rw t.fits.leads_is (from_most s ((header_passes converter_kinds s (length s)).0 t.fits.none));
  size_is = t.fits.size_is;
}

-- A part that was written whole is put.
pub mid_put : (l : List ℕ) (at : ℕ) {k : ℕ} {new vs : List ℕ} → new ≡ vs → length vs ≡ k → put_mid at k l new ≡ put l at vs
unfolding put
mid_put l at e f = rw (e, ← f, drop-drop)

-- The rules of a range that stay, counted.
kept_length : (out : ℕ → Bool) (k : ℕ) (ks : List ℕ) → length (filter (λ i. not (out i)) (k ∷ ks)) ≡ cond (out k) 0 1 + length (filter (λ i. not (out i)) ks)
kept_length out k ks = go (out k)
  where
    go : (b : Bool) → length (cond (not b) (k ∷ filter (λ i. not (out i)) ks) (filter (λ i. not (out i)) ks)) ≡ cond b 0 1 + length (filter (λ i. not (out i)) ks)
    go true = omega arith
    go false = omega arith

counted_more : (out : ℕ → Bool) (a n : ℕ) → length (filter (λ i. not (out i)) (range_with_len a (suc n))) ≡ length (filter (λ i. not (out i)) (range_with_len a n)) + cond (out (a + n)) 0 1
counted_more out a zero = let e : a + 0 ≡ a = omega arith in kept_length out a [] ∙ rw e (omega arith)
counted_more out a (suc n) =
    let e : a + 1 + n ≡ a + suc n = omega arith in
    kept_length out a (range_with_len (a + 1) (suc n)) ∙ rw (counted_more out (a + 1) n, kept_length out a (range_with_len (a + 1) n), e) (omega arith)

counted : (out : ℕ → Bool) (n : ℕ) → length (filter (λ i. not (out i)) (range_with_len 0 n)) ≡ left_below out n
unfolding left_below
counted out zero = refl
counted out (suc n) = let e : 0 + n ≡ n = omega arith in counted_more out 0 n ∙ rw (counted out n, e) refl

-- The rows of the first k rules that stay stand behind the head, up to a place.
pub record Copying (s : List ℕ) (l : Layout) (before : List ℕ) (k to : ℕ) (out : List ℕ) : Type 0 where
  pub to_is : to ≡ l.leads + length (rows_left s k)
  pub out_is : out ≡ put before l.leads (rows_left s k)

module _ {s : List ℕ} {l : Layout} (st : Stored s l) where
  passes : HeaderPasses converter_kinds s (length s)
  passes = (header_passes converter_kinds s (length s)).0 st.none

  -- ---- rows

  -- Rule k's row starts here,
  row_starts : (k : ℕ) → l.leads + 2 * 4 * (l.n + 1) * k ≡ row_place (leads_place (kind_field s) (m_field s)) (n_field s) k
  row_starts k = rw (← st.leads_is, ← st.n_is) (omega arith)

  -- so that this left list is the rule's,
  pub rule_stays : (k : ℕ) {b : Bool} → b ≡ run_blank s (l.n + 1) (l.leads + 2 * 4 * (l.n + 1) * k) → not b ≡ not (blank_left s k)
  rule_stays k e =
      let wide : l.n + 1 ≡ suc (n_field s) = omega (arith, st.n_is) in
      ap not (rw (row_starts k, wide) at e)

  -- and the row lies inside.
  pub row_inside : (k : ℕ) → k < l.m + l.questions → l.leads + 2 * 4 * (l.n + 1) * k + 2 * 4 * (l.n + 1) ≤ length s
  row_inside k h = omega (arith, st.size_is, mul-le-mul_right {m = suc k} {n = l.m + l.questions} (suc l.n) (omega arith))

  -- ---- counting

  pub counted_all : {left : ℕ} → left ≡ length (filter (λ i. not (blank_left s i)) (range_with_len 0 l.m)) → (left ≡ rules_left s (m_field s)) × (left ≤ l.m)
  counted_all e = rw (← st.m_is) (e ∙ counted (blank_left s) l.m, omega (arith, e, counted (blank_left s) l.m, left_most (blank_left s) l.m))

  -- ---- copying

  -- and its row is copied, or not.
  copy_stays : (k : ℕ) {b : Bool} → b ≡ not (blank_left s k) → b ≡ true → rows_left s (k + 1) ≡ rows_left s k ++ part s (l.leads + 2 * 4 * (l.n + 1) * k) (2 * 4 * (l.n + 1))
  unfolding rows_left
  copy_stays k e t =
      let next : k + 1 ≡ suc k = omega arith in
      let given : blank_left s k ≡ false = not-true _ (sym e ∙ t) in
      let one : 2 * 4 * (l.n + 1) ≡ rows_size (n_field s) 1 = rw (← st.n_is) (omega arith) in
      rw (next, given, row_starts k, one) refl

  copy_goes : (k : ℕ) {b : Bool} → b ≡ not (blank_left s k) → b ≡ false → rows_left s (k + 1) ≡ rows_left s k
  unfolding rows_left
  copy_goes k e t =
      let next : k + 1 ≡ suc k = omega arith in
      let blank : blank_left s k ≡ true = not-false _ (sym e ∙ t) in
      rw (next, blank) (append-nil (rows_left s k))

  -- The rows of the first k rules stand behind the head.
  pub copying_none : (before : List ℕ) → Copying s l before 0 l.leads before
  unfolding rows_left
  copying_none before = record { to_is = omega arith; out_is = sym (put_nil before l.leads) }

  module _ {before out : List ℕ} {k to : ℕ} (c : Copying s l before k to out) (room : l.leads + length (rows_left s (m_field s)) ≤ length before) where
    rows_most : (k : ℕ) → k ≤ m_field s → length (rows_left s k) ≤ length (rows_left s (m_field s))
    rows_most k h =
        let here = rows_length s passes k h in
        let all_rows = rows_length s passes (m_field s) (omega arith) in
        omega (arith, here, all_rows, mul-le-mul_right {m = rules_left s k} {n = rules_left s (m_field s)} (suc (n_field s)) (left_grows (blank_left s) k (m_field s) h))

    -- There is room for one more.
    pub copying_room : {b : Bool} → k < l.m → b ≡ not (blank_left s k) → b ≡ true → to + 2 * 4 * (l.n + 1) ≤ length out
    copying_room h e t =
        let more : length (rows_left s (k + 1)) ≡ length (rows_left s k) + 2 * 4 * (l.n + 1) =
        ap length (copy_stays k e t) ∙ length-append (rows_left s k) (part s (l.leads + 2 * 4 * (l.n + 1) * k) (2 * 4 * (l.n + 1))) ∙ rw (part_length s (l.leads + 2 * 4 * (l.n + 1) * k) (2 * 4 * (l.n + 1)) (row_inside k (omega arith))) refl in
        let most = rows_most (k + 1) (omega (arith, st.m_is)) in
        let few = rows_most k (omega (arith, st.m_is)) in
        let same : length out ≡ length before = ap length c.out_is ∙ length_put before l.leads (rows_left s k) (omega arith) (omega arith) in
        omega (arith, more, most, same, c.to_is)

    pub copying_stays : {b : Bool} {after : List ℕ} → k < l.m → b ≡ not (blank_left s k) → b ≡ true → after ≡ put out to (part s (l.leads + 2 * 4 * (l.n + 1) * k) (2 * 4 * (l.n + 1)))
        → Copying s l before (k + 1) (to + 2 * 4 * (l.n + 1)) after
    copying_stays h e t f =
        let row : List ℕ = part s (l.leads + 2 * 4 * (l.n + 1) * k) (2 * 4 * (l.n + 1)) in
        let size = part_length s (l.leads + 2 * 4 * (l.n + 1) * k) (2 * 4 * (l.n + 1)) (row_inside k (omega arith)) in
        record {
          to_is = rw (copy_stays k e t, length-append, size) (omega (arith, c.to_is));
          out_is = f ∙ rw (copy_stays k e t, c.out_is) (put_put before l.leads (rows_left s k) to row (omega arith) c.to_is);
        }

    pub copying_goes : {b : Bool} → b ≡ not (blank_left s k) → b ≡ false → Copying s l before (k + 1) to out
    copying_goes e t = let same = copy_goes k e t in record { to_is = rw same c.to_is; out_is = rw same c.out_is }

    pub copying_end : k ≡ l.m → out ≡ put before l.leads (rows_left s (m_field s))
    copying_end e = let m : k ≡ m_field s = omega (arith, st.m_is) in rw m at c.out_is

  -- ---- the head

  pub head_put : (b₀ : List ℕ) (long m : ℕ) {b₁ b₂ b₃ b₄ : List ℕ} → l.leads ≤ length b₀
      → b₁ ≡ put b₀ 0 (le 4 long) → b₂ ≡ put b₁ 4 (part s 4 4) → b₃ ≡ put b₂ 8 (le 2 m) → b₄ ≡ put b₃ 10 (part s 10 (l.leads - 10))
      → b₄ ≡ put b₀ 0 (head_left s long m)
  head_put b₀ long m {b₁} {b₂} {b₃} {b₄} room e f g i =
      let kind = part_length s 4 4 (omega (arith, st.leads_least, st.size_is)) in
      let a : b₂ ≡ put b₀ 0 (le 4 long ++ part s 4 4) = f ∙ rw e (put_put b₀ 0 (le 4 long) 4 (part s 4 4) (omega arith) (rw length_le refl)) in
      let c : b₃ ≡ put b₀ 0 ((le 4 long ++ part s 4 4) ++ le 2 m) = g ∙ rw a (put_put b₀ 0 (le 4 long ++ part s 4 4) 8 (le 2 m) (omega arith) (rw (length-append, length_le, kind) refl)) in
      let d : b₄ ≡ put b₀ 0 (((le 4 long ++ part s 4 4) ++ le 2 m) ++ part s 10 (l.leads - 10)) =
      i ∙ rw c (put_put b₀ 0 ((le 4 long ++ part s 4 4) ++ le 2 m) 10 (part s 10 (l.leads - 10)) (omega arith) (rw (length-append, length-append, length_le, kind, length_le) refl)) in
      d ∙ ap (put b₀ 0) (rw st.leads_is (simp append_assoc))

  -- ---- the record

  -- Where the questions go.
  pub questions_place : {left : ℕ} → left ≡ rules_left s (m_field s) → l.leads + 2 * 4 * (l.n + 1) * left ≡ l.leads + length (rows_left s (m_field s))
  questions_place e = rw (rows_length s passes (m_field s) (omega arith), e, ← st.n_is) (omega arith)

  pub record_put : (b₀ : List ℕ) {b₁ b₂ b₃ : List ℕ} {left size : ℕ} → left ≡ rules_left s (m_field s) → size ≡ converted_size s → size ≤ length b₀
      → b₁ ≡ put b₀ 0 (head_left s (size - 4) left) → b₂ ≡ put b₁ l.leads (rows_left s (m_field s))
      → b₃ ≡ put b₂ (l.leads + 2 * 4 * (l.n + 1) * left) (part s (l.leads + 2 * 4 * (l.n + 1) * l.m) (2 * 4 * (l.n + 1) * l.questions))
      → b₃ ≡ put b₀ 0 (converted s)
  record_put b₀ {b₁} {b₂} {b₃} {left} {size} e z room f g i =
      let long : length (head_left s (size - 4) left) ≡ l.leads = head_length s passes (size - 4) left ∙ sym st.leads_is in
      let a : b₂ ≡ put b₀ 0 (head_left s (size - 4) left ++ rows_left s (m_field s)) =
      g ∙ rw f (put_put b₀ 0 (head_left s (size - 4) left) l.leads (rows_left s (m_field s)) (omega arith) (sym long ∙ omega arith)) in
      let questions : part s (l.leads + 2 * 4 * (l.n + 1) * l.m) (2 * 4 * (l.n + 1) * l.questions) ≡ question_rows s =
      let count : 2 * 4 * (l.n + 1) * l.questions ≡ rows_size (n_field s) (questions_asked (kind_field s) (count_field s)) = rw (← st.questions_is, ← st.n_is) (omega arith) in
      rw (row_starts l.m, count, st.m_is) refl in
      let place : l.leads + 2 * 4 * (l.n + 1) * left ≡ 0 + length (head_left s (size - 4) left ++ rows_left s (m_field s)) = questions_place e ∙ rw (length-append, long) (omega arith) in
      let c : b₃ ≡ put b₀ 0 ((head_left s (size - 4) left ++ rows_left s (m_field s)) ++ question_rows s) =
      i ∙ rw (a, questions) (put_put b₀ 0 (head_left s (size - 4) left ++ rows_left s (m_field s)) (l.leads + 2 * 4 * (l.n + 1) * left) (question_rows s) (omega arith) place) in
      c ∙ ap (put b₀ 0) (append_assoc (head_left s (size - 4) left) (rows_left s (m_field s)) (question_rows s) ∙ rw (z, e) (sym (converted_parts s)))

  -- There is room for what stands before the leads,
  pub head_room : {size : ℕ} (b₀ : List ℕ) → size ≡ converted_size s → size ≤ length b₀ → (l.leads ≤ length b₀) × (length_bytes ≤ size)
  head_room b₀ z room = (omega (arith, z, size_from s passes, room, st.leads_is), omega (arith, z, size_from s passes, st.leads_is, st.leads_least))

  -- for the rows, and then for the questions.
  pub rows_room : {size length₁ : ℕ} (b₀ : List ℕ) → size ≡ converted_size s → size ≤ length b₀ → length₁ ≡ length b₀ → l.leads + length (rows_left s (m_field s)) ≤ length₁
  rows_room b₀ z room same =
      let long = rows_length s passes (m_field s) (omega arith) in
      let grows = mul-le-mul_right {m = rules_left s (m_field s)} {n = rules_left s (m_field s) + questions_asked (kind_field s) (count_field s)} (suc (n_field s)) (omega arith) in
      omega (arith, z, size_from s passes, room, same, long, grows, st.leads_is)

  pub questions_room : {left size length₂ : ℕ} (b₀ : List ℕ) → left ≡ rules_left s (m_field s) → size ≡ converted_size s → size ≤ length b₀ → length₂ ≡ length b₀
      → (l.leads + 2 * 4 * (l.n + 1) * l.m + 2 * 4 * (l.n + 1) * l.questions ≤ length s) × (l.leads + 2 * 4 * (l.n + 1) * left + 2 * 4 * (l.n + 1) * l.questions ≤ length₂)
  questions_room b₀ e z room same =
      let long = rows_length s passes (m_field s) (omega arith) in
      let asked : 2 * 4 * (l.n + 1) * l.questions ≡ rows_size (n_field s) (questions_asked (kind_field s) (count_field s)) = rw (← st.questions_is, ← st.n_is) (omega arith) in
      (omega (arith, st.size_is), rw (questions_place e, asked) (omega (arith, z, size_from s passes, room, same, long, st.leads_is)))

  -- The size is the converted record's.
  pub size_is : {left size : ℕ} → left ≡ rules_left s (m_field s) → size ≡ l.leads + 2 * 4 * ((l.n + 1) * (left + l.questions)) → size ≡ converted_size s
  size_is {left} e f =
      let wide : l.n + 1 ≡ suc (n_field s) = omega (arith, st.n_is) in
      f ∙ rw (wide, e, st.leads_is, st.questions_is) (sym (size_from s passes))
