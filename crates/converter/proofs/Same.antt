-- Class and least span of each question are the same before and after: the rules dropped are kept by every plan.
use Prim.Native.Nat.{ℕ, suc, ◌+◌, ◌*◌, ◌≤◌, ◌<◌}
use mathlib.Core.Path.{◌≡◌, refl, ap, sym, ◌∙◌}
use mathlib.Core.Bool.{Bool, true, false}
use mathlib.Core.List.{List}
use mathlib.Core.Logic.{⊎_elim}
use native.Mathlib.Omega.{arith}
use lib.ListN.{length}
use borrow.Author.Tests.{eq-eqb, ne_eqb}
use Rattle.base.proofs.Numbers.{nat_le_or_lt}
use Rattle.definitions.specs.Limits.{signed_bytes, problem_header, questions_header, problem_kind, questions_kind}
use Rattle.definitions.specs.Problem.{Problem}
use Rattle.definitions.specs.Bytes.{trop_field, trop_at}
use Rattle.definitions.specs.ProblemRecord.{converter_kinds, kind_field, n_field, m_field, count_field, leads_place, questions_asked, row_place, right_place, blank_left, problem_of}
use Rattle.definitions.specs.Questions.{alone, asking, asked_row}
use Rattle.definitions.specs.Selection.{left_at, row_of, selected, Choice, LeftOut, BlankLeft, SameClass}
use Rattle.definitions.specs.Conversion.{rules_left, converted}
use Rattle.definitions.proofs.Refusals.{HeaderPasses, header_passes}
use Rattle.definitions.proofs.KnownKinds.{kind_stored}
use Rattle.definitions.proofs.Silent.{run_blank_lem}
use Rattle.definitions.proofs.Selection.{row_chosen, row_objective}
use Rattle.definitions.proofs.Agree.{Agree, agree_sym, agree_optimal, agree_unbounded, agree_infeasible}
use Rattle.definitions.proofs.Suspended.{plain_left, plain_right}
use Rattle.definitions.proofs.Questions.{several_passes, alone_kind, alone_n, alone_m, alone_lead}
use Rattle.selection.proofs.Requests.{blank_left_dropped}
use Rattle.definitions.proofs.Chosen.{left_inside, left_found}
use Rattle.converter.proofs.Converted.{row_left, row_rule, row_question, row_lead, from_converted, converted_n, converted_m, converted_asked, converted_header}

-- A problem that agrees with a second, which has the class of a first, has it too.
pub same_agree : {p r q : Problem} → SameClass p r → Agree r q → SameClass p q
same_agree c a = record {
  least_exactly = λ s. (λ o. agree_optimal a ((c.least_exactly s).0 o), λ o. (c.least_exactly s).1 (agree_optimal (agree_sym a) o));
  bottomless_exactly = (λ u. agree_unbounded a (c.bottomless_exactly.0 u), λ u. c.bottomless_exactly.1 (agree_unbounded (agree_sym a) u));
  none_exactly = (λ i. agree_infeasible a (c.none_exactly.0 i), λ i. c.none_exactly.1 (agree_infeasible (agree_sym a) i));
}

-- The rows of question q's problem stand in the record: the rules, and the question for the question.
pub record Asks (p : Problem) (s : List ℕ) (q : ℕ) : Type 0 where
  pub n_is : p.n ≡ n_field s
  pub m_is : p.m ≡ m_field s
  pub left_is : (i j : ℕ) → i ≤ m_field s → j ≤ n_field s → p.left i j ≡ trop_at s (row_place (leads_place (kind_field s) (m_field s)) (n_field s) (asked_row (m_field s) q i) + signed_bytes * j)
  pub right_is : (i j : ℕ) → i ≤ m_field s → j ≤ n_field s
      → p.right i j ≡ trop_at s (row_place (leads_place (kind_field s) (m_field s)) (n_field s) (asked_row (m_field s) q i) + (signed_bytes * suc (n_field s) + signed_bytes * j))

module _ (s : List ℕ) (h : HeaderPasses converter_kinds s (length s)) (q : ℕ) (l : q < questions_asked (kind_field s) (count_field s)) where
  one_asks : kind_field s ≡ problem_kind → Asks (problem_of (asking s q)) s q
  unfolding problem_of
  one_asks k =
      let own : asking s q ≡ s = rw k refl in
      let first : q ≡ 0 = let one : questions_asked (kind_field s) (count_field s) ≡ 1 = rw k refl in omega arith in
      let start : leads_place (kind_field s) (m_field s) ≡ problem_header = rw k refl in
      rw own (record {
        n_is = refl;
        m_is = refl;
        left_is = λ i j g c. rw (row first i) (plain_left s k i j ∙ rw start refl);
        right_is = λ i j g c.
            let place : right_place (n_field s) i j ≡ row_place problem_header (n_field s) i + (signed_bytes * suc (n_field s) + signed_bytes * j) = omega arith in
            rw (row first i) (plain_right s k i j ∙ rw (start, place) refl);
      })
    where
      row : q ≡ 0 → (i : ℕ) → asked_row (m_field s) q i ≡ i
      row e i = ⊎_elim
          (λ (t : m_field s ≤ i). ⊎_elim
          (λ (u : i ≤ m_field s). let d : i ≡ m_field s = omega arith in rw (eq-eqb i (m_field s) d) (omega arith))
          (λ (u : m_field s < i). rw (ne_eqb i (m_field s) (λ d. omega arith)) refl)
          (nat_le_or_lt i (m_field s)))
          (λ (t : i < m_field s). rw (ne_eqb i (m_field s) (λ d. omega arith)) refl)
          (nat_le_or_lt (m_field s) i)

  several_asks : kind_field s ≡ questions_kind → Asks (problem_of (asking s q)) s q
  unfolding problem_of trop_at
  several_asks k =
      let v = several_passes converter_kinds k ((header_passes converter_kinds s (length s)).1 h) in
      let own : asking s q ≡ alone s q = rw k refl in
      let start : leads_place (kind_field s) (m_field s) ≡ questions_header = rw k refl in
      let few : q < count_field s = rw k at l in
      rw own (record {
        n_is = alone_n s v.asks q few;
        m_is = alone_m s v.asks q few;
        left_is = λ i j g c. plain_left (alone s q) (alone_kind s v.asks q few) i j ∙ rw (start, alone_n s v.asks q few) (ap trop_field (alone_lead s v.asks q few i (signed_bytes * j) g (omega arith)));
        right_is = λ i j g c.
            let place : right_place (n_field s) i j ≡ row_place problem_header (n_field s) i + (signed_bytes * suc (n_field s) + signed_bytes * j) = omega arith in
            plain_right (alone s q) (alone_kind s v.asks q few) i j ∙ rw (start, alone_n s v.asks q few, place) (ap trop_field (alone_lead s v.asks q few i (signed_bytes * suc (n_field s) + signed_bytes * j) g (omega arith)));
      })

  pub asks : Asks (problem_of (asking s q)) s q
  asks = ⊎_elim one_asks several_asks (kind_stored (kind_field s) h.kind_known)

-- A row other than the question's is itself; the question's is question q.
asked_rule : (m q i : ℕ) → i < m → asked_row m q i ≡ i
asked_rule m q i h = rw (ne_eqb i m (λ e. omega arith)) refl

asked_question : (m q i : ℕ) → i ≡ m → asked_row m q i ≡ m + q
asked_question m q i e = rw (eq-eqb i m e) refl

module _ (s : List ℕ) (h : HeaderPasses converter_kinds s (length s)) (q : ℕ) (l : q < questions_asked (kind_field s) (count_field s)) where
  abbrev before : Problem
  before = problem_of (asking s q)

  abbrev after : Problem
  after = problem_of (asking (converted s) q)

  abbrev left : ℕ
  left = rules_left s (m_field s)

  a : Asks before s q
  a = asks s h q l

  b : Asks after (converted s) q
  b = asks (converted s) (converted_header s h) q (rw (converted_asked s h) l)

  choice : Choice before (left_at (blank_left s) (m_field s)) left
  choice = record { inside = λ i g. rw a.m_is (left_inside (blank_left s) (m_field s) i g) }

  -- The rules dropped have blank left lists.
  dropped : (i : ℕ) → LeftOut before (left_at (blank_left s) (m_field s)) left i → BlankLeft before i
  dropped i o = go (blank_left s i) refl
    where
      rule : i < m_field s
      rule = rw a.m_is at o.inside

      go : (t : Bool) → blank_left s i ≡ t → BlankLeft before i
      go true e = record {
        left = λ j c.
            let column : j ≤ n_field s = rw a.n_is at c in
            a.left_is i j (omega (arith, rule)) column
            ∙ rw (asked_rule (m_field s) q i rule) (run_blank_lem s (suc (n_field s)) (row_place (leads_place (kind_field s) (m_field s)) (n_field s) i) e j (omega arith));
      }
      go false e = let f = left_found (blank_left s) (m_field s) i rule e in absurd (o.nowhere f.place f.inside f.is)

  -- A row of the selection is the row of the record that stands there in the converted one.
  rows_meet : (i : ℕ) → i ≤ left
      → (row_of before (left_at (blank_left s) (m_field s)) left i ≤ m_field s) × (asked_row (m_field s) q (row_of before (left_at (blank_left s) (m_field s)) left i) ≡ row_left s h (asked_row left q i)) × (asked_row left q i < left + questions_asked (kind_field s) (count_field s))
  rows_meet i g = ⊎_elim
      (λ (t : left ≤ i).
      let e : i ≡ left = omega arith in
      let here : row_of before (left_at (blank_left s) (m_field s)) left i ≡ m_field s = rw e (row_objective before (left_at (blank_left s) (m_field s)) left ∙ a.m_is) in (
        omega (arith, here),
        asked_question (m_field s) q _ here ∙ sym (row_question s h q) ∙ ap (row_left s h) (sym (asked_question left q i e)),
        rw (asked_question left q i e) (omega arith),
      ))
      (λ (t : i < left).
      let here : row_of before (left_at (blank_left s) (m_field s)) left i ≡ left_at (blank_left s) (m_field s) i = row_chosen before (left_at (blank_left s) (m_field s)) left i t in
      let inside = left_inside (blank_left s) (m_field s) i t in (
        omega (arith, here, inside),
        rw (here, asked_rule (m_field s) q (left_at (blank_left s) (m_field s) i) inside, asked_rule left q i t) (sym (row_rule s h i t)),
        rw (asked_rule left q i t) (omega arith),
      ))
      (nat_le_or_lt left i)

  -- Places of its leads in the converted record.
  place : (i o : ℕ) → row_place (leads_place (kind_field (converted s)) (m_field (converted s))) (n_field (converted s)) (asked_row (m_field (converted s)) q i) + o ≡ row_place (leads_place (kind_field s) (m_field s)) (n_field s) (asked_row left q i) + o
  place i o = rw (from_converted s h, converted_n s h, converted_m s h) refl

  place_right : (i j : ℕ)
      → row_place (leads_place (kind_field (converted s)) (m_field (converted s))) (n_field (converted s)) (asked_row (m_field (converted s)) q i) + (signed_bytes * suc (n_field (converted s)) + signed_bytes * j)
      ≡ row_place (leads_place (kind_field s) (m_field s)) (n_field s) (asked_row left q i) + (signed_bytes * suc (n_field s) + signed_bytes * j)
  place_right i j = rw (from_converted s h, converted_n s h, converted_m s h) refl

  agree : Agree (selected before (left_at (blank_left s) (m_field s)) left) after
  unfolding trop_at
  agree = record {
    same_n = a.n_is ∙ sym (b.n_is ∙ converted_n s h);
    same_m = sym (b.m_is ∙ converted_m s h);
    left = λ i j g c.
        let column : j ≤ n_field s = rw a.n_is at c in
        let r = rows_meet i g in
        a.left_is (row_of before (left_at (blank_left s) (m_field s)) left i) j r.0 column
        ∙ rw r.1 (sym (ap trop_field (row_lead s h (asked_row left q i) (signed_bytes * j) r.2 (omega arith))))
        ∙ sym (b.left_is i j (rw (converted_m s h) g) (rw (converted_n s h) column) ∙ ap (trop_at (converted s)) (place i (signed_bytes * j)));
    right = λ i j g c.
        let column : j ≤ n_field s = rw a.n_is at c in
        let r = rows_meet i g in
        a.right_is (row_of before (left_at (blank_left s) (m_field s)) left i) j r.0 column
        ∙ rw r.1 (sym (ap trop_field (row_lead s h (asked_row left q i) (signed_bytes * suc (n_field s) + signed_bytes * j) r.2 (omega arith))))
        ∙ sym (b.right_is i j (rw (converted_m s h) g) (rw (converted_n s h) column) ∙ ap (trop_at (converted s)) (place_right i j));
  }

  pub same_class : SameClass before after
  same_class = same_agree (blank_left_dropped choice dropped) agree
