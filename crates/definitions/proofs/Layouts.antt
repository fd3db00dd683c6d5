-- A problem of one question within the layout: what its header says, and its leads.
use Prim.Native.Nat.{ℕ, suc, ◌+◌, ◌*◌, ◌≤◌, ◌<◌}
use mathlib.Core.Path.{◌≡◌, refl, sym, ◌∙◌}
use mathlib.Core.Bool.{Bool, true, false, cond, false≢true}
use mathlib.Core.List.{List, map}
use native.Mathlib.Omega.{arith}
use native.Mathlib.Nat.{mul-le-mul_right}
use lib.ListN.{length}
use borrow.Author.Tests.{eq-eqb}
use Rattle.definitions.specs.Limits.{highest_n, highest_m, lead_limit, length_bytes, signed_bytes, problem_kind, questions_kind, problem_header}
use Rattle.definitions.specs.Tropical.{Trop, bot}
use Rattle.definitions.specs.Bytes.{nums_at, trop_field, trop_at, all, blank_or_within}
use Rattle.definitions.specs.ProblemRecord.{Kinds, checker_kinds, desk_kinds, AsksOne, state_refused, suspended, left_from, right_from, problem_size, record_size, length_field, kind_field, n_field, m_field, count_field, leads_place, questions_asked, leads_of, known_kind, header_refusal, header_judged, refusal_for, silent_refused, WithinLayout, problem_of, problem_refusal, record_refusal}
use Rattle.definitions.proofs.Bytes.{all-numsAt}
use Rattle.definitions.proofs.Refusals.{record_fits}
use Rattle.definitions.proofs.KnownKinds.{KnownKind, OneKind, kind_known, kind_one, kind_plain, one_asks, size_one}

-- ---- problems of one question

-- A record of one question has the same refusal, whether the entry takes several questions too or not.
pub one_question : (s : List ℕ) → AsksOne s → record_refusal s ≡ problem_refusal s
unfolding refusal_for header_refusal header_judged
one_question s k = rw k refl

-- The facts of a problem record that nothing refuses.
pub record ProblemFits (s : List ℕ) : Type 0 where
  pub size_enough : problem_header ≤ length s
  pub length_is : length_field s + length_bytes ≡ length s
  pub one_kind : OneKind (kind_field s)
  pub n_most : n_field s ≤ highest_n
  pub m_most : m_field s ≤ highest_m
  pub size_is : length s ≡ record_size (kind_field s) (n_field s) (m_field s) (count_field s)
  pub states_fit : state_refused s ≡ false
  pub leads_fit : all (blank_or_within lead_limit) (leads_of s) ≡ true
  pub rules_speak : silent_refused s ≡ false

-- They hold of one within the layout, which asks one question.
pub problem_fits : (s : List ℕ) → WithinLayout s → ProblemFits s
problem_fits s e =
    let r = (record_fits checker_kinds s).0 e in
    record {
      size_enough = r.header.size_enough;
      length_is = r.header.length_is;
      one_kind = kind_one (kind_field s) r.header.kind_known;
      n_most = r.header.n_most;
      m_most = r.header.m_most;
      size_is = r.header.size_is;
      states_fit = r.states_fit;
      leads_fit = r.leads_fit;
      rules_speak = r.rules_speak;
    }

pub within_asks : (s : List ℕ) → WithinLayout s → AsksOne s
within_asks s w = one_asks (kind_field s) (problem_fits s w).one_kind

-- A record of one question that any entry takes is within the layout.
pub within_one : (kinds : Kinds) (s : List ℕ) → AsksOne s → refusal_for kinds s ≡ 0 → WithinLayout s
within_one kinds s one w =
    let r = (record_fits kinds s).0 w in
    (record_fits checker_kinds s).1 (record {
      header = record {
        size_enough = r.header.size_enough;
        length_is = r.header.length_is;
        kind_known = known (kind_known kinds (kind_field s) r.header.kind_known);
        n_most = r.header.n_most;
        m_most = r.header.m_most;
        count_right = r.header.count_right;
        size_is = r.header.size_is;
      };
      states_fit = r.states_fit;
      leads_fit = r.leads_fit;
      rules_speak = r.rules_speak;
    })
  where
    known : KnownKind (kind_field s) → known_kind checker_kinds (kind_field s) ≡ true
    known (KnownKind.plain k) = rw k refl
    known (KnownKind.several k) = absurd (false≢true (sym one ∙ eq-eqb (kind_field s) questions_kind k))
    known (KnownKind.stated k) = rw k refl

-- The facts of a record of kind 1 that nothing refuses.
pub record PlainFits (s : List ℕ) : Type 0 where
  pub size_enough : problem_header ≤ length s
  pub length_is : length_field s + length_bytes ≡ length s
  pub kind_is : kind_field s ≡ problem_kind
  pub n_most : n_field s ≤ highest_n
  pub m_most : m_field s ≤ highest_m
  pub size_is : length s ≡ problem_size (n_field s) (m_field s)
  pub leads_fit : all (blank_or_within lead_limit) (leads_of s) ≡ true
  pub rules_speak : silent_refused s ≡ false

-- Then it is within the layout.
pub plain_within : (s : List ℕ) → PlainFits s → WithinLayout s
plain_within s f = (record_fits checker_kinds s).1 (record {
  header = record {
    size_enough = f.size_enough;
    length_is = f.length_is;
    kind_known = rw f.kind_is refl;
    n_most = f.n_most;
    m_most = f.m_most;
    count_right = rw f.kind_is refl;
    size_is = f.size_is ∙ sym (size_one (kind_field s) (n_field s) (m_field s) (count_field s) f.kind_is);
  };
  states_fit = rw f.kind_is refl;
  leads_fit = f.leads_fit;
  rules_speak = f.rules_speak;
})

-- So it is where the desk takes it.
pub plain_desk : (s : List ℕ) → refusal_for desk_kinds s ≡ 0 → PlainFits s
plain_desk s w =
    let r = (record_fits desk_kinds s).0 w in
    let k = kind_plain (kind_field s) r.header.kind_known in
    record {
      size_enough = r.header.size_enough;
      length_is = r.header.length_is;
      kind_is = k;
      n_most = r.header.n_most;
      m_most = r.header.m_most;
      size_is = r.header.size_is ∙ size_one (kind_field s) (n_field s) (m_field s) (count_field s) k;
      leads_fit = r.leads_fit;
      rules_speak = r.rules_speak;
    }

pub desk_within : (s : List ℕ) → refusal_for desk_kinds s ≡ 0 → WithinLayout s
desk_within s w = plain_within s (plain_desk s w)

-- ---- leads

-- Each lead of a record is blank or within a limit, if all are.
pub lead_each : (limit : ℕ) (s : List ℕ) → all (blank_or_within limit) (leads_of s) ≡ true → (k : ℕ) → k < 2 * (suc (n_field s) * (m_field s + questions_asked (kind_field s) (count_field s)))
    → blank_or_within limit (trop_at s (leads_place (kind_field s) (m_field s) + signed_bytes * k)) ≡ true
unfolding leads_of trop_at
lead_each limit s =
    (all-numsAt (blank_or_within limit) trop_field signed_bytes (2 * (suc (n_field s) * (m_field s + questions_asked (kind_field s) (count_field s)))) s (leads_place (kind_field s) (m_field s))).0

-- Each lead of a record that nothing refuses is blank or within the limit.
pub record_lead : (kinds : Kinds) (s : List ℕ) → refusal_for kinds s ≡ 0 → (k : ℕ) → k < 2 * (suc (n_field s) * (m_field s + questions_asked (kind_field s) (count_field s)))
    → blank_or_within lead_limit (trop_at s (leads_place (kind_field s) (m_field s) + signed_bytes * k)) ≡ true
record_lead kinds s w = lead_each lead_limit s ((record_fits kinds s).0 w).leads_fit

-- The leads of a record of kind 1.
pub leads_one : (s : List ℕ) → kind_field s ≡ problem_kind → leads_of s ≡ map trop_field (nums_at signed_bytes (2 * (suc (n_field s) * suc (m_field s))) s problem_header)
unfolding leads_of
leads_one s e =
    let place : leads_place (kind_field s) (m_field s) ≡ problem_header = rw e refl in
    let count : 2 * (suc (n_field s) * (m_field s + questions_asked (kind_field s) (count_field s))) ≡ 2 * (suc (n_field s) * suc (m_field s)) = rw e (omega arith) in
    rw (place, count)

-- Lead k of row i, of the left ones and the right ones counted together, stands at this place among all leads.
pub lead_inside : (n m i k : ℕ) → i ≤ m → k < 2 * suc n → 2 * (i * suc n) + k < 2 * (suc n * suc m)
lead_inside n m i k row h = omega (arith, mul-le-mul_right {m = suc i} {n = suc m} (suc n) (omega arith))

-- A lead of a row is blank or within a limit where the one that stands there is.
row_limited : (limit : ℕ) (t : Bool) (x : Trop) → blank_or_within limit x ≡ true → blank_or_within limit (cond t bot x) ≡ true
unfolding blank_or_within
row_limited limit true x e = refl
row_limited limit false x e = e

module _ (limit : ℕ) (s : List ℕ) (one : AsksOne s) (f : all (blank_or_within limit) (leads_of s) ≡ true)
    (i j : ℕ) (row : i ≤ m_field s) (column : j ≤ n_field s) where
  -- Where one question is asked, there are so many leads.
  many : m_field s + questions_asked (kind_field s) (count_field s) ≡ suc (m_field s)
  many = rw one (omega arith)

  -- So are the left coefficients of what it means,
  pub left_limited : blank_or_within limit ((problem_of s).left i j) ≡ true
  unfolding problem_of
  left_limited =
      let k : ℕ = 2 * (i * suc (n_field s)) + j in
      let place : leads_place (kind_field s) (m_field s) + signed_bytes * (2 * (i * suc (n_field s)) + j) ≡ left_from (leads_place (kind_field s) (m_field s)) (n_field s) i j = omega arith in
      row_limited limit (suspended s i) _ (rw place at (lead_each limit s f k (rw many (lead_inside (n_field s) (m_field s) i j row (omega arith)))))

  -- and the right ones.
  pub right_limited : blank_or_within limit ((problem_of s).right i j) ≡ true
  unfolding problem_of
  right_limited =
      let k : ℕ = 2 * (i * suc (n_field s)) + (suc (n_field s) + j) in
      let place : leads_place (kind_field s) (m_field s) + signed_bytes * (2 * (i * suc (n_field s)) + (suc (n_field s) + j)) ≡ right_from (leads_place (kind_field s) (m_field s)) (n_field s) i j = omega arith in
      row_limited limit (suspended s i) _ (rw place at (lead_each limit s f k (rw many (lead_inside (n_field s) (m_field s) i (suc (n_field s) + j) row (omega arith)))))

module _ (s : List ℕ) (w : WithinLayout s) (i j : ℕ) (row : i ≤ m_field s) (column : j ≤ n_field s) where
  -- The left coefficients of a problem within the layout are blank or within the limit.
  pub left_within : blank_or_within lead_limit ((problem_of s).left i j) ≡ true
  left_within = left_limited lead_limit s (within_asks s w) (problem_fits s w).leads_fit i j row column

  -- The right coefficients are.
  pub right_within : blank_or_within lead_limit ((problem_of s).right i j) ≡ true
  right_within = right_limited lead_limit s (within_asks s w) (problem_fits s w).leads_fit i j row column
