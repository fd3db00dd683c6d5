-- Long inputs: what is decided from the first bytes and the size holds of every input that begins so.
use Prim.Native.Nat.{ℕ, suc, ◌+◌, ◌-◌, ◌≤◌, ◌<◌}
use mathlib.Core.Path.{◌≡◌, refl, ap, sym, ◌∙◌}
use mathlib.Core.Bool.{◌&&◌}
use mathlib.Core.List.{List}
use mathlib.Core.Logic.{⊎_elim}
use native.Mathlib.Omega.{arith}
use native.Mathlib.Nat.{eq-zero-or-pos}
use lib.Dec.{eqb}
use lib.ListN.{length, get_or, take, drop, length-drop}
use lib.Seq.{get_or-take, get_or-drop, length-take-le, ext_get_or}
use borrow.Author.Tests.{eqb-true}
use Rattle.base.proofs.Numbers.{nat_le_or_lt}
use Rattle.definitions.specs.Limits.{kept_bytes, length_bytes, problem_header, answer_header, answer_most, highest_n, highest_m, answer_kind, states_most}
use Rattle.definitions.specs.ProblemRecord.{checker_kinds, length_field, kind_field, n_field, m_field, count_field, questions_asked, header_refusal, header_outcome, problem_refusal, refusal_for, meant}
use Rattle.definitions.specs.AnswerRecord.{known_class, start_fits, class_field, span_field, start_field, answer_size, answer_header_refusal, answer_header_judged, answer_header_outcome, answer_refusal}
use Rattle.definitions.specs.Verdict.{Verdict, refused, check_refusal, Judged}
use Rattle.definitions.specs.Programs.{cut_place, problem_part, answer_part, KeptOf}
use Rattle.definitions.proofs.Refusals.{or_else_suc, limits_clause, enough_clause, equal_clause, both_clause}
use Rattle.definitions.proofs.KnownKinds.{leads_place_most, KnownKind, OneKind}
use Rattle.definitions.proofs.Layouts.{problem_fits, within_asks}
use Rattle.definitions.proofs.Inputs.{kept_at, length_agrees, one_agrees, answer_agrees, header_short, header_length, cut_past, cut_inside, part_meant}
use Rattle.definitions.proofs.RoundTrip.{size_most}
use Rattle.std.specs.Prelude.{Result, Ok, Err, IsErr}
use Rattle.records.specs.declared.refusal.Refusal.{Refusal}
use Rattle.records.specs.Refusals.{number_of}
use Rattle.records.specs.declared.problem.Layout.{Layout}
use Rattle.answer_reader.specs.declared.answer.Head.{Head}
use Rattle.records.specs.ProblemHeader.{header_of}
use Rattle.records.proofs.Refusing.{was_ok, was_err}
use Rattle.answer_reader.specs.AnswerReading.{told_by, head_of}
use Rattle.records.proofs.ProblemHeader.{fits_one, header_fits, header_refuses, product_most}
use Rattle.checker.specs.LongInput.{Longer}
use Rattle.checker.proofs.Verdicts.{HeaderRead, turned}

-- ---- long problems

-- A header that is right says a size that is kept whole.
pub header_small : (kept : List ℕ) (end : ℕ) {header : Result Layout Refusal} {l : Layout} → header_of header ≡ header_outcome checker_kinds kept end → header ≡ Ok l
    → (problem_header ≤ end) × (end ≤ states_most) × (l.n ≤ highest_n) × (l.m ≤ highest_m)
header_small kept end {l = l} e f =
    let h = header_fits checker_kinds kept end e f in
    (omega (arith, fits_one h, h.leads_least), omega (arith, fits_one h, h.leads_most, product_most l.n l.m h.n_most h.m_most), h.n_most, h.m_most)

-- One of one question is one of the three kinds.
known : {kind : ℕ} → OneKind kind → KnownKind kind
known (OneKind.plain k) = KnownKind.plain k
known (OneKind.stated k) = KnownKind.stated k

-- A problem that is read is no longer than the longest.
pub read_small : {s : List ℕ} {n m : ℕ} → HeaderRead s n m → (length s ≤ states_most) × (n ≤ highest_n) × (m ≤ highest_m)
read_small {s} {n} {m} h =
    let f = problem_fits s h.none in
    let start = leads_place_most (kind_field s) (m_field s) f.m_most (known f.one_kind) in
    let one : questions_asked (kind_field s) (count_field s) ≡ 1 = rw (within_asks s h.none) refl in
    let rows : m_field s + questions_asked (kind_field s) (count_field s) ≡ suc (m_field s) = omega (arith, one) in
    let size = rw rows at f.size_is in
    (omega (arith, size, start, product_most (n_field s) (m_field s) f.n_most f.m_most), omega (arith, h.n_is, f.n_most), omega (arith, h.m_is, f.m_most))

pub kept_small : (kept : List ℕ) (end : ℕ) {n m : ℕ} → HeaderRead (take end kept) n m → end ≤ length kept → (end ≤ states_most) × (n ≤ highest_n) × (m ≤ highest_m)
kept_small kept end h l = let s = read_small h in (omega (arith, s.0, length-take-le end kept l), s.1, s.2)

-- ---- long answers

-- What is longer than every answer record is refused by its header.
pub long_refused : (s : List ℕ) (size n m : ℕ) → n ≤ highest_n → m ≤ highest_m → answer_most < size → 0 < answer_header_refusal s size n m
unfolding answer_header_refusal answer_header_judged
long_refused s size n m h k l = ⊎_elim
    (λ (e : answer_header_refusal s size n m ≡ 0).
    let a = (limits_clause n m _ _).0 e in
    let b = (enough_clause size answer_header _ _).0 a.1 in
    let c = (equal_clause (length_field s + length_bytes) size _ _).0 b.1 in
    let d = (both_clause (eqb (kind_field s) answer_kind) (known_class (class_field s) && start_fits (class_field s) (start_field s) n) _ _).0 c.1 in
    let g = (both_clause (eqb (n_field s) n) (eqb size (answer_size (class_field s) n m)) _ _).0 d.1 in
    absurd (omega (arith, eqb-true size (answer_size (class_field s) n m) g.0.1, size_most (class_field s) n m h k)))
    (λ q. q)
    (eq-zero-or-pos (answer_header_refusal s size n m))

-- So reading its header answers a refusal,
pub long_answer_refused : (s : List ℕ) (size n m : ℕ) (head : Result Head Refusal) → n ≤ highest_n → m ≤ highest_m → answer_most < size → head_of head ≡ answer_header_outcome s size n m → IsErr head
unfolding answer_header_outcome
long_answer_refused s size n m (Ok head) h k l e =
    let some = long_refused s size n m h k l in
    let none = (was_ok told_by (answer_header_refusal s size n m) (class_field s, span_field s, start_field s) e refl).0 in
    absurd (omega arith)
long_answer_refused s size n m (Err r) h k l e = search

-- with the header's number.
pub long_answer : (s : List ℕ) (size n m : ℕ) {head : Result Head Refusal} {r : Refusal} → head_of head ≡ answer_header_outcome s size n m → head ≡ Err r → number_of r ≡ answer_header_refusal s size n m
unfolding answer_header_outcome
long_answer s size n m e f = sym (was_err told_by (answer_header_refusal s size n m) (class_field s, span_field s, start_field s) e f).0

-- A problem that was not kept whole is refused by its header.
pub long_problem_refused : (kept : List ℕ) (end : ℕ) (header : Result Layout Refusal) → kept_bytes < end → header_of header ≡ header_outcome checker_kinds kept end → IsErr header
long_problem_refused kept end (Ok l) far e = absurd (omega (arith, (header_small kept end e refl).1))
long_problem_refused kept end (Err r) far e = search

-- ---- inputs that are kept whole

pub judged_parts : (s : List ℕ) {cut : ℕ} {v : Verdict} → cut ≡ cut_place s → Judged (meant (take cut s)) (drop cut s) v
    → Judged (meant (problem_part s)) (answer_part s) v
unfolding problem_part answer_part
judged_parts s e j = rw (← e) j

-- Where there is a length field, the problem part has bytes.
pub judged_long : (s : List ℕ) {cut : ℕ} {v : Verdict} → length_bytes ≤ length s → cut ≡ cut_place s → Judged (take cut s) (drop cut s) v
    → Judged (meant (problem_part s)) (answer_part s) v
unfolding problem_part answer_part
judged_long s h e j = rw (part_meant s h, ← e) j

-- ---- inputs that are longer

pub kept_longer : {kept input : List ℕ} {size : ℕ} → KeptOf kept size input → kept_bytes < size → Longer kept size input
kept_longer {kept} {input} {size} k h = record {
  size_is = k.size_is;
  begins = kept_at k h;
}

module _ {kept input : List ℕ} {size end : ℕ} (longer : Longer kept size input) (ends : end ≤ size) where
  part_length : length (take end input) ≡ end
  part_length = length-take-le end input (omega (arith, longer.size_is))

  part_same : (i : ℕ) → i < end → i < kept_bytes → get_or (take end input) i 0 ≡ get_or kept i 0
  part_same i h k = get_or-take end input i 0 h ∙ longer.begins i k

  header_same : header_refusal checker_kinds (take end input) (length (take end input)) ≡ header_refusal checker_kinds kept end
  header_same = rw part_length (⊎_elim
      (λ (h : problem_header ≤ end). one_agrees (take end input) kept (λ i b. part_same i (omega arith) (omega arith)) end)
      (λ (h : end < problem_header). header_short checker_kinds (take end input) end h ∙ sym (header_short checker_kinds kept end h))
      (nat_le_or_lt problem_header end))

  -- The header is refused, as it is where the problem was not kept whole.
  pub header_turned : (r : Refusal) → header_of (Err r) ≡ header_outcome checker_kinds kept end → Judged (take end input) (drop end input) (refused (number_of r))
  unfolding refusal_for check_refusal
  header_turned r e =
      let q = header_refuses checker_kinds kept end e refl in
      let first : header_refusal checker_kinds (take end input) (length (take end input)) ≡ number_of r = header_same ∙ q.0 in
      let some : 0 < header_refusal checker_kinds (take end input) (length (take end input)) = omega (arith, q.1) in
      let whole : problem_refusal (take end input) ≡ header_refusal checker_kinds (take end input) (length (take end input)) = or_else_suc _ _ some in
      turned (take end input) (drop end input) (number_of r) (or_else_suc _ _ (omega arith) ∙ whole ∙ first) (omega (arith, q.1))

  -- The problem is kept whole.
  pub problem_kept : length kept ≡ kept_bytes → end ≤ kept_bytes → take end kept ≡ take end input
  problem_kept l h =
      let long : length (take end kept) ≡ end = length-take-le end kept (omega arith) in
      ext_get_or 0 (take end kept) (take end input) (long ∙ sym part_length)
      (λ i b. get_or-take end kept i 0 (omega arith) ∙ sym (part_same i (omega arith) (omega arith)))

  -- The problem is not refused, and the answer is, by its header.
  pub long_answered : {n m r : ℕ} → HeaderRead (take end input) n m → r ≡ answer_header_refusal (drop end kept) (size - end) n m → 0 < r
      → Judged (take end input) (drop end input) (refused r)
  unfolding check_refusal answer_refusal
  long_answered {n} {m} {r} h g some =
      let small = read_small h in
      let rest : length (drop end input) ≡ size - end = length-drop end input ∙ ap (λ k. k - end) longer.size_is in
      let agree : answer_header_refusal (drop end input) (size - end) n m ≡ answer_header_refusal (drop end kept) (size - end) n m =
      answer_agrees (drop end input) (drop end kept)
      (λ i b. get_or-drop end input i 0 ∙ longer.begins (end + i) (omega (arith, small.0, part_length)) ∙ sym (get_or-drop end kept i 0)) (size - end) n m in
      let head : answer_header_refusal (drop end input) (length (drop end input)) n m ≡ r = rw rest (agree ∙ sym g) in
      turned (take end input) (drop end input) r (rw (h.none, ← h.n_is, ← h.m_is) (or_else_suc _ _ (omega arith) ∙ head)) some

-- The length field reaches past the input: all of it is the problem, and refusal 2 applies.
pub long_past : {kept input : List ℕ} {size : ℕ} → Longer kept size input → kept_bytes < size → size < length_field kept + length_bytes
    → Judged (meant (problem_part input)) (answer_part input) (refused 2)
unfolding refusal_for check_refusal
long_past {kept} {input} {size} longer h k =
    let e = length_agrees input kept (λ i b. longer.begins i (omega arith)) in
    let cut : size ≡ cut_place input = sym longer.size_is ∙ cut_past input (omega (arith, longer.size_is)) (omega (arith, longer.size_is)) in
    let first : header_refusal checker_kinds (take size input) (length (take size input)) ≡ 2 =
    header_same {end = size} longer (omega arith) ∙ header_length checker_kinds kept size (omega arith) (λ q. omega arith) in
    let whole : problem_refusal (take size input) ≡ header_refusal checker_kinds (take size input) (length (take size input)) = or_else_suc _ _ (omega arith) in
    judged_long input (omega (arith, longer.size_is)) cut (turned (take size input) (drop size input) 2 (or_else_suc _ _ (omega arith) ∙ whole ∙ first) (omega arith))

-- It does not: the problem is cut there.
pub long_cut : {kept input : List ℕ} {size : ℕ} → Longer kept size input → kept_bytes < size → length_field kept + length_bytes ≤ size
    → length_field kept + length_bytes ≡ cut_place input
long_cut {kept} {input} longer h k =
    let e = length_agrees input kept (λ i b. longer.begins i (omega arith)) in
    rw (← e) (cut_inside input (omega (arith, longer.size_is)) (omega (arith, longer.size_is)))
