-- What it means that nothing is refused: clauses one after another, and a record's header, leads and rules, as records of facts.
use Prim.Native.Nat.{ℕ, zero, suc, ◌+◌, ◌≤◌, ◌<◌}
use mathlib.Core.Path.{◌≡◌, refl, ap, sym}
use mathlib.Core.Bool.{Bool, true, false, not, cond, ◌&&◌, ◌||◌, and-eq-true_iff, false≢true}
use mathlib.Core.List.{List}
use mathlib.Core.Logic.{◌↔◌}
use native.Mathlib.Omega.{arith}
use lib.Dec.{eqb, ltb}
use lib.ListN.{length}
use borrow.Author.Tests.{ltb-false, eqb-true, not-false, le-ltb, eq-eqb}
use Rattle.definitions.specs.Limits.{highest_n, highest_m, lead_limit, length_bytes, problem_header}
use Rattle.definitions.specs.Bytes.{all, blank_or_within, or_else}
use Rattle.definitions.specs.ProblemRecord.{Kinds, state_refused, record_size, length_field, kind_field, n_field, m_field, count_field, leads_of, known_kind, above_limits, wrong_count, header_refusal, header_judged, refusal_for, silent_refused}

-- ---- the first of several

-- Where the first is one, it counts.
pub or_else_suc : (a b : ℕ) → 0 < a → or_else a b ≡ a
or_else_suc zero b h = absurd (omega arith)
or_else_suc (suc a) b h = refl

-- Neither applies exactly when none is the answer.
pub or_else_none : (a b : ℕ) → (or_else a b ≡ 0) ↔ ((a ≡ 0) × (b ≡ 0))
or_else_none zero b = (λ e. (refl, e), λ h. h.1)
or_else_none (suc a) b = (λ e. absurd (omega arith), λ h. h.0)

-- A clause and the clauses after it: none applies exactly when its test fails and none after it applies.
clause_none : (t : Bool) (n k : ℕ) → (cond t (suc n) k ≡ 0) ↔ ((t ≡ false) × (k ≡ 0))
clause_none true n k = (λ e. absurd (omega arith), λ h. absurd (false≢true (sym h.0)))
clause_none false n k = (λ e. (refl, e), λ h. h.1)

-- The same where the test's failing means P.
clause : {P : Type 0} (t : Bool) → (t ≡ false) ↔ P → (n k : ℕ) → (cond t (suc n) k ≡ 0) ↔ (P × (k ≡ 0))
clause t f n k =
    let c = clause_none t n k in
    (λ e. (f.0 (c.0 e).0, (c.0 e).1), λ h. c.1 (f.1 h.0, h.1))

-- A clause of a negated test.
pub passes_clause : (t : Bool) (n k : ℕ) → (cond (not t) (suc n) k ≡ 0) ↔ ((t ≡ true) × (k ≡ 0))
passes_clause t n k = clause (not t) (not-false t, λ e. ap not e) n k

-- A clause of two negated tests.
pub both_clause : (s t : Bool) (n k : ℕ) → (cond (not (s && t)) (suc n) k ≡ 0) ↔ (((s ≡ true) × (t ≡ true)) × (k ≡ 0))
both_clause s t n k =
    let both = and-eq-true_iff s t in
    clause (not (s && t)) (λ e. both.0 (not-false (s && t) e), λ h. ap not (both.1 h)) n k

-- A clause of "not equal".
pub equal_clause : (a b n k : ℕ) → (cond (not (eqb a b)) (suc n) k ≡ 0) ↔ ((a ≡ b) × (k ≡ 0))
equal_clause a b n k = clause (not (eqb a b)) (λ e. eqb-true a b (not-false (eqb a b) e), λ e. ap not (eq-eqb a b e)) n k

-- A clause of "below".
pub enough_clause : (a b n k : ℕ) → (cond (ltb a b) (suc n) k ≡ 0) ↔ ((b ≤ a) × (k ≡ 0))
enough_clause a b n k = clause (ltb a b) (ltb-false a b, le-ltb a b) n k

pub or_false : (s t : Bool) → ((s || t) ≡ false) ↔ ((s ≡ false) × (t ≡ false))
or_false true t = (λ e. absurd (false≢true (sym e)), λ h. h.0)
or_false false t = (λ e. (refl, e), λ h. h.1)

-- A clause of the limits of n and m.
pub limits_clause : (n m c k : ℕ) → (cond (above_limits n m) (suc c) k ≡ 0) ↔ (((n ≤ highest_n) × (m ≤ highest_m)) × (k ≡ 0))
limits_clause n m c k =
    let either = or_false (ltb highest_n n) (ltb highest_m m) in
    clause (above_limits n m) (
      λ e. (ltb-false highest_n n (either.0 e).0, ltb-false highest_m m (either.0 e).1),
      λ h. either.1 (le-ltb highest_n n h.0, le-ltb highest_m m h.1),
    )
    c
    k

-- ---- headers and records

-- A clause of a test.
pub fails_clause : (t : Bool) (n k : ℕ) → (cond t (suc n) k ≡ 0) ↔ ((t ≡ false) × (k ≡ 0))
fails_clause t n k = clause_none t n k

-- The facts of a header that nothing refuses, of one question or several.
pub record HeaderPasses (kinds : Kinds) (s : List ℕ) (size : ℕ) : Type 0 where
  pub size_enough : problem_header ≤ size
  pub length_is : length_field s + length_bytes ≡ size
  pub kind_known : known_kind kinds (kind_field s) ≡ true
  pub n_most : n_field s ≤ highest_n
  pub m_most : m_field s ≤ highest_m
  pub count_right : wrong_count size (kind_field s) (count_field s) ≡ false
  pub size_is : size ≡ record_size (kind_field s) (n_field s) (m_field s) (count_field s)

pub header_passes : (kinds : Kinds) (s : List ℕ) (size : ℕ) → (header_refusal kinds s size ≡ 0) ↔ HeaderPasses kinds s size
unfolding header_refusal header_judged
header_passes kinds s size = (passes, none)
  where
    passes : header_refusal kinds s size ≡ 0 → HeaderPasses kinds s size
    passes e =
        let a = (enough_clause size problem_header _ _).0 e in
        let b = (equal_clause (length_field s + length_bytes) size _ _).0 a.1 in
        let c = (passes_clause (known_kind kinds (kind_field s)) _ _).0 b.1 in
        let d = (limits_clause (n_field s) (m_field s) _ _).0 c.1 in
        let f = (fails_clause (wrong_count size (kind_field s) (count_field s)) _ _).0 d.1 in
        let g = (equal_clause size (record_size (kind_field s) (n_field s) (m_field s) (count_field s)) _ _).0 f.1 in
        record {
          size_enough = a.0;
          length_is = b.0;
          kind_known = c.0;
          n_most = d.0.0;
          m_most = d.0.1;
          count_right = f.0;
          size_is = g.0;
        }

    none : HeaderPasses kinds s size → header_refusal kinds s size ≡ 0
    none f =
        (enough_clause size problem_header _ _).1 (
          f.size_enough,
          (equal_clause _ _ _ _).1 (
            f.length_is,
            (passes_clause (known_kind kinds (kind_field s)) _ _).1 (
              f.kind_known,
              (limits_clause _ _ _ _).1 ((f.n_most, f.m_most), (fails_clause _ _ _).1 (f.count_right, (equal_clause _ _ _ _).1 (f.size_is, refl))),
            ),
          ),
        )

-- A record that nothing refuses: its header, its leads, and no rule that says nothing.
pub record RecordFits (kinds : Kinds) (s : List ℕ) : Type 0 where
  pub header : HeaderPasses kinds s (length s)
  pub states_fit : state_refused s ≡ false
  pub leads_fit : all (blank_or_within lead_limit) (leads_of s) ≡ true
  pub rules_speak : silent_refused s ≡ false

pub record_fits : (kinds : Kinds) (s : List ℕ) → (refusal_for kinds s ≡ 0) ↔ RecordFits kinds s
unfolding refusal_for
record_fits kinds s = (
  λ e.
      let h = (or_else_none (header_refusal kinds s (length s)) _).0 e in
      let a = (fails_clause (state_refused s) _ _).0 h.1 in
      let b = (passes_clause (all (blank_or_within lead_limit) (leads_of s)) _ _).0 a.1 in
      record {
        header = (header_passes kinds s (length s)).0 h.0;
        states_fit = a.0;
        leads_fit = b.0;
        rules_speak = ((fails_clause (silent_refused s) _ _).0 b.1).0;
      },
  λ f.
      (or_else_none (header_refusal kinds s (length s)) _).1 (
        (header_passes kinds s (length s)).1 f.header,
        (fails_clause _ _ _).1 (f.states_fit, (passes_clause _ _ _).1 (f.leads_fit, (fails_clause _ _ _).1 (f.rules_speak, refl))),
      ),
)
