-- The kind 1 record of one question: its fields, and where its leads stand in the record of all questions. Document 02, 2.1.
use Prim.Native.Nat.{ℕ, suc, ◌+◌, ◌*◌, ◌-◌, ◌≤◌, ◌<◌}
use mathlib.Core.Path.{◌≡◌, refl, ap, ◌∙◌}
use mathlib.Core.Bool.{Bool, true}
use mathlib.Core.Logic.{◌↔◌, ⊎_elim}
use mathlib.Core.List.{List, [], ◌++◌}
use native.Mathlib.Omega.{arith}
use native.Mathlib.Nat.{mul-le-mul_left, mul-le-mul_right}
use borrow.Author.Tests.{eq-eqb, ne_eqb}
use lib.ListN.{length, get_or, drop, length-append, length-drop, get_or-append}
use lib.Seq.{get_or-append-add, get_or-take, get_or-drop, length-take-le}
use Rattle.definitions.specs.Limits.{highest_n, highest_m, lead_limit, length_bytes, short_bytes, signed_bytes, problem_kind, questions_kind, most_questions, problem_header, questions_header}
use Rattle.definitions.specs.Tropical.{Trop}
use Rattle.definitions.specs.Bytes.{Bytes, num_at, trop_field, trop_at, all, blank_or_within}
use Rattle.definitions.specs.ProblemRecord.{Kinds, engine_kinds, n_field, m_field, length_field, kind_field, count_field, problem_size, leads_of, leads_place, questions_asked, header_refusal, WithinLayout, WithinLayouts, row_place, header_bytes, blank_left, silent_refused}
use Rattle.definitions.specs.Questions.{part, rows_size, alone, asking, asked_row}
use Rattle.base.proofs.Numbers.{nat_le_or_lt, divided}
use Rattle.definitions.proofs.Bytes.{num_at_same, all-numsAt, bytes_append, bytes_le, bytes_take, bytes_drop}
use Rattle.definitions.proofs.Refusals.{header_passes, record_fits}
use Rattle.definitions.proofs.KnownKinds.{few_questions}
use Rattle.definitions.proofs.Layouts.{plain_within, within_asks, leads_one}
use Rattle.definitions.proofs.Silent.{some_same, run_same}
use Rattle.definitions.proofs.ProblemBack.{length_header, read_length, read_kind, read_n, read_m}

-- ---- parts of a string

pub part_length : (s : List ℕ) (from size : ℕ) → from + size ≤ length s → length (part s from size) ≡ size
part_length s from size h = length-take-le size (drop from s) (rw (length-drop from s) (omega arith))

pub part_at : (s : List ℕ) (from size k : ℕ) → k < size → get_or (part s from size) k 0 ≡ get_or s (from + k) 0
part_at s from size k h = get_or-take size (drop from s) k 0 h ∙ get_or-drop from s k 0

-- ---- one question

-- A record that holds its rules and `count` questions.
pub record Asks (s : List ℕ) (count : ℕ) : Type 0 where
  pub n_most : n_field s ≤ highest_n
  pub m_most : m_field s ≤ highest_m
  pub size_is : length s ≡ questions_header + rows_size (n_field s) (m_field s + count)

-- Rows lie inside.
pub row_inside : {s : List ℕ} {count : ℕ} → Asks s count → (i : ℕ) → i < m_field s + count
    → row_place questions_header (n_field s) i + rows_size (n_field s) 1 ≤ length s
row_inside {s} {count} a i h = omega (arith, a.size_is, mul-le-mul_right {m = suc i} {n = m_field s + count} (suc (n_field s)) h)

module _ (s : List ℕ) {count : ℕ} (asks : Asks s count) (q : ℕ) (h : q < count) where
  rules : List ℕ
  rules = part s questions_header (rows_size (n_field s) (m_field s))

  question : List ℕ
  question = part s (row_place questions_header (n_field s) (m_field s + q)) (rows_size (n_field s) 1)

  alone_is : alone s q ≡ header_bytes (n_field s) (m_field s) ++ (rules ++ question)
  unfolding alone rules question
  alone_is = refl

  length_rules : length rules ≡ rows_size (n_field s) (m_field s)
  unfolding rules
  length_rules =
      part_length s questions_header (rows_size (n_field s) (m_field s))
      (omega (arith, asks.size_is, mul-le-mul_right {m = m_field s} {n = m_field s + count} (suc (n_field s)) (omega arith)))

  length_question : length question ≡ rows_size (n_field s) 1
  unfolding question
  length_question = part_length s _ (rows_size (n_field s) 1) (row_inside asks (m_field s + q) (omega arith))

  pub alone_length : length (alone s q) ≡ problem_size (n_field s) (m_field s)
  alone_length = rw (alone_is, length-append, length-append, length_header (n_field s) (m_field s) [], length_rules, length_question) (omega arith)

  size_small : problem_size (n_field s) (m_field s) ≤ 16394
  size_small =
      let wide = mul-le-mul_right {m = suc (n_field s)} {n = 32} (suc (m_field s)) (omega (arith, asks.n_most)) in
      let high = mul-le-mul_left {m = suc (m_field s)} {n = 64} 32 (omega (arith, asks.m_most)) in
      omega (arith, wide, high)

  pub alone_length_field : length_field (alone s q) ≡ problem_size (n_field s) (m_field s) - 4
  alone_length_field = rw alone_is (read_length (n_field s) (m_field s) _ (omega (arith, size_small)))

  pub alone_kind : kind_field (alone s q) ≡ problem_kind
  alone_kind = rw alone_is (read_kind (n_field s) (m_field s) _)

  pub alone_n : n_field (alone s q) ≡ n_field s
  alone_n = rw alone_is (read_n (n_field s) (m_field s) _ (omega (arith, asks.n_most)))

  pub alone_m : m_field (alone s q) ≡ m_field s
  alone_m = rw alone_is (read_m (n_field s) (m_field s) _ (omega (arith, asks.m_most)))

  -- Behind the header: the rules, then the question.
  behind : (k : ℕ) → get_or (alone s q) (problem_header + k) 0 ≡ get_or (rules ++ question) k 0
  behind k =
      let e : problem_header + k ≡ length (header_bytes (n_field s) (m_field s)) + k = rw (length_header (n_field s) (m_field s) []) refl in
      rw (alone_is, e) (get_or-append-add (header_bytes (n_field s) (m_field s)) (rules ++ question) k 0)

  rule_byte : (k : ℕ) → k < rows_size (n_field s) (m_field s) → get_or (alone s q) (problem_header + k) 0 ≡ get_or s (questions_header + k) 0
  unfolding rules
  rule_byte k l = behind k ∙ get_or-append rules question 0 k (rw length_rules l) ∙ part_at s questions_header (rows_size (n_field s) (m_field s)) k l

  question_byte : (k : ℕ) → k < rows_size (n_field s) 1
      → get_or (alone s q) (problem_header + (rows_size (n_field s) (m_field s) + k)) 0 ≡ get_or s (row_place questions_header (n_field s) (m_field s + q) + k) 0
  unfolding question
  question_byte k l =
      let e : rows_size (n_field s) (m_field s) + k ≡ length rules + k = rw length_rules refl in
      behind (rows_size (n_field s) (m_field s) + k) ∙ rw e (get_or-append-add rules question k 0)
      ∙ part_at s (row_place questions_header (n_field s) (m_field s + q)) (rows_size (n_field s) 1) k l

  -- Each byte of row i, in both records.
  pub alone_row : (i k : ℕ) → i ≤ m_field s → k < rows_size (n_field s) 1
      → get_or (alone s q) (row_place problem_header (n_field s) i + k) 0 ≡ get_or s (row_place questions_header (n_field s) (asked_row (m_field s) q i) + k) 0
  alone_row i k g l = ⊎_elim
      (λ (b : m_field s ≤ i).
      let e : i ≡ m_field s = omega arith in
      let place : row_place problem_header (n_field s) i + k ≡ problem_header + (rows_size (n_field s) (m_field s) + k) = rw e (omega arith) in
      let asked : asked_row (m_field s) q i ≡ m_field s + q = rw (eq-eqb i (m_field s) e) in
      rw (place, asked) (question_byte k l))
      (λ (b : i < m_field s).
      let place : row_place problem_header (n_field s) i + k ≡ problem_header + (2 * signed_bytes * (i * suc (n_field s)) + k) = omega arith in
      let asked : asked_row (m_field s) q i ≡ i = rw (ne_eqb i (m_field s) (λ e. omega arith)) in
      let to : row_place questions_header (n_field s) i + k ≡ questions_header + (2 * signed_bytes * (i * suc (n_field s)) + k) = omega arith in
      rw (place, asked, to)
      (rule_byte (2 * signed_bytes * (i * suc (n_field s)) + k) (omega (arith, mul-le-mul_right {m = suc i} {n = m_field s} (suc (n_field s)) b))))
      (nat_le_or_lt (m_field s) i)

  -- Each lead of row i, in both records.
  pub alone_lead : (i o : ℕ) → i ≤ m_field s → o + 4 ≤ rows_size (n_field s) 1
      → num_at signed_bytes (alone s q) (row_place problem_header (n_field s) i + o) ≡ num_at signed_bytes s (row_place questions_header (n_field s) (asked_row (m_field s) q i) + o)
  alone_lead i o g l =
      num_at_same signed_bytes (alone s q) s (row_place problem_header (n_field s) i + o) (row_place questions_header (n_field s) (asked_row (m_field s) q i) + o)
      (λ b t.
      let from : row_place problem_header (n_field s) i + o + b ≡ row_place problem_header (n_field s) i + (o + b) = omega arith in
      let to : row_place questions_header (n_field s) (asked_row (m_field s) q i) + o + b ≡ row_place questions_header (n_field s) (asked_row (m_field s) q i) + (o + b) = omega arith in
      rw (from, to) (alone_row i (o + b) g (omega arith)))

  -- Lead k of the rules, and lead r of the question, counted from where the leads start.
  rule_lead : (k : ℕ) → k < 2 * (m_field s * suc (n_field s)) → trop_at (alone s q) (problem_header + signed_bytes * k) ≡ trop_at s (questions_header + signed_bytes * k)
  unfolding trop_at
  rule_lead k l =
      ap trop_field (num_at_same signed_bytes (alone s q) s (problem_header + signed_bytes * k) (questions_header + signed_bytes * k) (λ b t.
      let from : problem_header + signed_bytes * k + b ≡ problem_header + (signed_bytes * k + b) = omega arith in
      let to : questions_header + signed_bytes * k + b ≡ questions_header + (signed_bytes * k + b) = omega arith in
      rw (from, to) (rule_byte (signed_bytes * k + b) (omega arith))))

  question_lead : (r : ℕ) → r < 2 * suc (n_field s)
      → trop_at (alone s q) (problem_header + signed_bytes * (2 * (m_field s * suc (n_field s)) + r)) ≡ trop_at s (questions_header + signed_bytes * (2 * ((m_field s + q) * suc (n_field s)) + r))
  unfolding trop_at
  question_lead r l =
      ap trop_field (num_at_same signed_bytes (alone s q) s (problem_header + signed_bytes * (2 * (m_field s * suc (n_field s)) + r)) (questions_header + signed_bytes * (2 * ((m_field s + q) * suc (n_field s)) + r)) (λ b t.
      let from : problem_header + signed_bytes * (2 * (m_field s * suc (n_field s)) + r) + b ≡ problem_header + (rows_size (n_field s) (m_field s) + (signed_bytes * r + b)) = omega arith in
      let to : questions_header + signed_bytes * (2 * ((m_field s + q) * suc (n_field s)) + r) + b ≡ row_place questions_header (n_field s) (m_field s + q) + (signed_bytes * r + b) = omega arith in
      rw (from, to) (question_byte (signed_bytes * r + b) (omega arith))))

-- ---- refusals

-- The facts of a record of several questions whose header passes.
pub record Several (s : List ℕ) : Type 0 where
  pub kind_is : kind_field s ≡ questions_kind
  pub some : 0 < count_field s
  pub few : count_field s ≤ most_questions
  pub asks : Asks s (count_field s)

pub several_passes : (kinds : Kinds) {s : List ℕ} → kind_field s ≡ questions_kind → header_refusal kinds s (length s) ≡ 0 → Several s
several_passes kinds {s} k e =
    let h = (header_passes kinds s (length s)).0 e in
    let f = few_questions s (length s) k h in
    record {
      kind_is = k;
      some = f.some;
      few = f.few;
      asks = record { n_most = h.n_most; m_most = h.m_most; size_is = f.size_is ∙ omega arith };
    }

-- Each lead of such a record stands among its rules, or in a question.
leads_of_lem : (fits : Trop → Bool) (s : List ℕ) → Several s → (all fits (leads_of s) ≡ true)
    ↔ ((k : ℕ) → k < 2 * ((m_field s + count_field s) * suc (n_field s)) → fits (trop_at s (questions_header + signed_bytes * k)) ≡ true)
unfolding leads_of trop_at
leads_of_lem fits s v =
    let place : leads_place (kind_field s) (m_field s) ≡ questions_header = rw v.kind_is refl in
    let count : 2 * (suc (n_field s) * (m_field s + questions_asked (kind_field s) (count_field s))) ≡ 2 * ((m_field s + count_field s) * suc (n_field s)) = rw v.kind_is (omega arith) in
    rw (place, count) (all-numsAt fits trop_field signed_bytes (2 * ((m_field s + count_field s) * suc (n_field s))) s questions_header)

-- Those of one question's record likewise.
alone_leads : (fits : Trop → Bool) (s : List ℕ) (v : Several s) (q : ℕ) → q < count_field s → (all fits (leads_of (alone s q)) ≡ true)
    ↔ ((k : ℕ) → k < 2 * (suc (m_field s) * suc (n_field s)) → fits (trop_at (alone s q) (problem_header + signed_bytes * k)) ≡ true)
unfolding trop_at
alone_leads fits s v q h =
    let count : 2 * (suc (n_field (alone s q)) * suc (m_field (alone s q))) ≡ 2 * (suc (m_field s) * suc (n_field s)) = rw (alone_n s v.asks q h, alone_m s v.asks q h) (omega arith) in
    rw (leads_one (alone s q) (alone_kind s v.asks q h), count)
    (all-numsAt fits trop_field signed_bytes (2 * (suc (m_field s) * suc (n_field s))) (alone s q) problem_header)

-- Every lead is one that fits.
abbrev pub LeadsFit : (Trop → Bool) → List ℕ → Type 0
LeadsFit fits t = all fits (leads_of t) ≡ true

module _ (fits : Trop → Bool) (s : List ℕ) (v : Several s) where
  -- The leads of a question's record are leads of the record.
  pub leads_alone : LeadsFit fits s → (q : ℕ) → q < count_field s → LeadsFit fits (alone s q)
  leads_alone w q h = (alone_leads fits s v q h).1 (λ k l. ⊎_elim (asked k l) (rule k) (nat_le_or_lt (2 * (m_field s * suc (n_field s))) k))
    where
      rule : (k : ℕ) → k < 2 * (m_field s * suc (n_field s)) → fits (trop_at (alone s q) (problem_header + signed_bytes * k)) ≡ true
      rule k l = rw (rule_lead s v.asks q h k l) ((leads_of_lem fits s v).0 w k (omega (arith, mul-le-mul_right {m = m_field s} {n = m_field s + count_field s} (suc (n_field s)) (omega arith))))

      asked : (k : ℕ) → k < 2 * (suc (m_field s) * suc (n_field s)) → 2 * (m_field s * suc (n_field s)) ≤ k → fits (trop_at (alone s q) (problem_header + signed_bytes * k)) ≡ true
      asked k l g =
          let r : ℕ = k - 2 * (m_field s * suc (n_field s)) in
          let e : k ≡ 2 * (m_field s * suc (n_field s)) + (k - 2 * (m_field s * suc (n_field s))) = omega arith in
          rw e (rw (question_lead s v.asks q h r (omega arith))
          ((leads_of_lem fits s v).0 w (2 * ((m_field s + q) * suc (n_field s)) + r) (omega (arith, mul-le-mul_right {m = suc (m_field s + q)} {n = m_field s + count_field s} (suc (n_field s)) (omega arith)))))

  -- And every lead of the record is one of some question's record.
  pub leads_each : ((q : ℕ) → q < count_field s → LeadsFit fits (alone s q)) → LeadsFit fits s
  leads_each w = (leads_of_lem fits s v).1 (λ k l. ⊎_elim (asked k l) (rule k) (nat_le_or_lt (2 * (m_field s * suc (n_field s))) k))
    where
      rule : (k : ℕ) → k < 2 * (m_field s * suc (n_field s)) → fits (trop_at s (questions_header + signed_bytes * k)) ≡ true
      rule k l = rw (rule_lead s v.asks 0 v.some k l) at ((alone_leads fits s v 0 v.some).0 (w 0 v.some) k (omega arith))

      asked : (k : ℕ) → k < 2 * ((m_field s + count_field s) * suc (n_field s)) → 2 * (m_field s * suc (n_field s)) ≤ k → fits (trop_at s (questions_header + signed_bytes * k)) ≡ true
      asked k l g =
          let c = divided (2 * suc (n_field s)) (k - 2 * (m_field s * suc (n_field s))) (count_field s) (omega arith) in
          let e : k ≡ 2 * ((m_field s + c.turns) * suc (n_field s)) + c.rest = omega (arith, c.is) in
          rw e (rw (question_lead s v.asks c.turns c.few c.rest c.small)
          at ((alone_leads fits s v c.turns c.few).0 (w c.turns c.few) (2 * (m_field s * suc (n_field s)) + c.rest) (omega (arith, c.small))))

-- A rule of one question's record says nothing exactly when it does in the record of all.
pub alone_blank : (s : List ℕ) (v : Several s) (q : ℕ) → q < count_field s → (i : ℕ) → i < m_field s → blank_left (alone s q) i ≡ blank_left s i
alone_blank s v q h i g =
    let from : leads_place (kind_field (alone s q)) (m_field (alone s q)) ≡ problem_header = rw (alone_kind s v.asks q h) refl in
    let to : leads_place (kind_field s) (m_field s) ≡ questions_header = rw v.kind_is refl in
    let asked : asked_row (m_field s) q i ≡ i = rw (ne_eqb i (m_field s) (λ e. omega arith)) in
    rw (from, to, alone_n s v.asks q h)
    (run_same (alone s q) s (suc (n_field s)) (row_place problem_header (n_field s) i) (row_place questions_header (n_field s) i) (λ j l.
    rw asked at (alone_lead s v.asks q h i (signed_bytes * j) (omega arith) (omega arith))))

-- So 17 applies to both or to neither.
pub alone_silent : (s : List ℕ) (v : Several s) (q : ℕ) → q < count_field s → silent_refused (alone s q) ≡ silent_refused s
alone_silent s v q h = rw (alone_m s v.asks q h) (some_same (blank_left (alone s q)) (blank_left s) (m_field s) (alone_blank s v q h))

-- A question's record is within the layout if the record is.
pub alone_within : (s : List ℕ) → kind_field s ≡ questions_kind → WithinLayouts s → (q : ℕ) → q < count_field s → WithinLayout (alone s q)
alone_within s k w q h =
    let r = (record_fits engine_kinds s).0 w in
    let v = several_passes engine_kinds k ((header_passes engine_kinds s (length s)).1 r.header) in
    let size = alone_length s v.asks q h in
    let n_is = alone_n s v.asks q h in
    let m_is = alone_m s v.asks q h in
    plain_within (alone s q) (record {
      size_enough = rw size (omega arith);
      length_is = rw (size, alone_length_field s v.asks q h) (omega arith);
      kind_is = alone_kind s v.asks q h;
      n_most = rw n_is r.header.n_most;
      m_most = rw m_is r.header.m_most;
      size_is = rw (n_is, m_is) size;
      leads_fit = leads_alone (blank_or_within lead_limit) s v r.leads_fit q h;
      rules_speak = alone_silent s v q h ∙ r.rules_speak;
    })

-- A problem within the layout asks one question, and is its own record.
pub asking_itself : (p : List ℕ) (q : ℕ) → WithinLayout p → asking p q ≡ p
asking_itself p q w = rw (within_asks p w) refl

-- Its bytes are bytes.
header_all_bytes : (n m : ℕ) → Bytes (header_bytes n m)
unfolding header_bytes
header_all_bytes n m =
    bytes_append (bytes_append (bytes_le length_bytes (problem_size n m - length_bytes)) (bytes_le short_bytes problem_kind))
    (bytes_append (bytes_le short_bytes n) (bytes_le short_bytes m))

pub alone_bytes : (s : List ℕ) (q : ℕ) → Bytes s → Bytes (alone s q)
unfolding alone
alone_bytes s q b =
    bytes_append (header_all_bytes (n_field s) (m_field s))
    (bytes_append (bytes_take (rows_size (n_field s) (m_field s)) (bytes_drop questions_header b))
    (bytes_take (rows_size (n_field s) 1) (bytes_drop (row_place questions_header (n_field s) (m_field s + q)) b)))
