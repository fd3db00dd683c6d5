-- Inputs of which the first bytes were kept: what is decided from them and the size holds of every such input. From 2³³
-- bytes on the size counts no more.
use Prim.Native.Nat.{ℕ, zero, suc, ◌+◌, ◌*◌, ◌≤◌, ◌<◌}
use mathlib.Core.Path.{◌≡◌, refl, ap, sym, subst, ◌∙◌}
use mathlib.Core.List.{List}
use mathlib.Core.Logic.{⊎_elim}
use native.Mathlib.Omega.{arith}
use native.Mathlib.Nat.{eq-zero-or-pos, mul-le-mul_left, mul-le-mul_right}
use mathlib.Core.Bool.{Bool, true, false}
use lib.Dec.{eqb}
use lib.ListN.{length, get_or, take, drop, replicate, length-take, length-drop, length-replicate}
use lib.Seq.{get_or-take, length-take-le, ext_get_or, take_all, take-take}
use borrow.Author.Tests.{lt-ltb, le-ltb, eqb-true, ne_eqb}
use Rattle.base.proofs.Numbers.{nat_le_or_lt}
use Rattle.definitions.specs.Limits.{kept_bytes, word_values, length_bytes, problem_header, answer_header, signed_full, highest_n, highest_m, questions_header, questions_kind}
use Rattle.definitions.specs.Bytes.{Bytes, num_at, put}
use Rattle.definitions.specs.ProblemRecord.{Kinds, engine_kinds, checker_kinds, questions_asked, length_field, kind_field, n_field, m_field, header_refusal, header_judged, problem_refusal, meant, refusal_for, count_field}
use Rattle.definitions.specs.AnswerRecord.{answer_header_refusal, answer_header_judged, answer_refusal}
use Rattle.definitions.specs.Verdict.{Verdict, refused, check_refusal, Judged, turned_away, certified, uncertified}
use Rattle.definitions.specs.Programs.{cut_place, problem_part, answer_part, KeptOf, SpanOutput, VerdictOutput, read_most, ReadFrom}
use Rattle.definitions.specs.Programs as Programs
use Rattle.definitions.proofs.Bytes.{num_at_same, num_at_bound, bytes_take, bytes_drop, bytes_put, zero_bytes}
use Rattle.definitions.proofs.Put.{take_put, length_put}
use Rattle.definitions.proofs.IdleDay.{meant_some}
use Rattle.definitions.proofs.Refusals.{or_else_suc, or_else_none, HeaderPasses, header_passes}
use Rattle.definitions.proofs.KnownKinds.{kind_known, one_or_several, leads_place_most, few_questions}
use Rattle.definitions.proofs.Layouts.{problem_fits}

-- ---- what was kept

-- An input that was kept whole.
pub kept_whole : {kept input : List ℕ} {size : ℕ} → KeptOf kept size input → size ≤ kept_bytes → input ≡ take size kept
kept_whole {kept} {input} {size} k h =
    let all : take kept_bytes input ≡ input = take_all kept_bytes input (omega (arith, k.size_is)) in
    let most : length (take size kept) ≤ kept_bytes = rw length-take (omega arith) in
    sym all ∙ k.begins ∙ take_all kept_bytes (take size kept) most

-- The first bytes of a longer one.
pub kept_at : {kept input : List ℕ} {size : ℕ} → KeptOf kept size input → kept_bytes < size → (i : ℕ) → i < kept_bytes → get_or input i 0 ≡ get_or kept i 0
kept_at {kept} {input} {size} k h i b =
    sym (get_or-take kept_bytes input i 0 b) ∙ ap (λ (l : List ℕ). get_or l i 0) k.begins ∙ get_or-take kept_bytes (take size kept) i 0 b
    ∙ get_or-take size kept i 0 (omega arith)

-- What is kept of the bytes that came: their first 20,000, in their places.
pub kept_of : (before bytes : List ℕ) → length before ≡ kept_bytes → KeptOf (put before 0 (take kept_bytes bytes)) (length bytes) bytes
kept_of before bytes l = record {
  size_is = refl;
  begins = ⊎_elim
      (λ (h : length bytes ≤ kept_bytes).
      let all : take kept_bytes bytes ≡ bytes = take_all kept_bytes bytes h in
      let kept : take (length bytes) (put before 0 (take kept_bytes bytes)) ≡ bytes = rw all (first bytes (length bytes) (omega arith)) in
      ap (take kept_bytes) (sym kept))
      (λ (h : kept_bytes < length bytes).
      let many : length (take kept_bytes bytes) ≡ kept_bytes = length-take-le kept_bytes bytes (omega arith) in
      sym (take-take kept_bytes (length bytes) (put before 0 (take kept_bytes bytes)) (omega arith) ∙ first (take kept_bytes bytes) kept_bytes (sym many)))
      (nat_le_or_lt (length bytes) kept_bytes);
}
  where
    first : (vs : List ℕ) (n : ℕ) → n ≡ length vs → take n (put before 0 vs) ≡ vs
    first vs n e = let m : n ≡ 0 + length vs = omega arith in rw m (take_put before 0 vs (omega arith))

-- For every input there are 20,000 kept bytes and a size of 64 bits of which it may have been read.
pub record Kept (input : List ℕ) : Type 0 where
  pub kept : List ℕ
  pub size : ℕ
  pub bytes : Bytes kept
  pub length_is : length kept ≡ kept_bytes
  pub size_fits : size < word_values
  pub read : ReadFrom kept size input

module _ (zeros : List ℕ) (blank : Bytes zeros) (long : length zeros ≡ kept_bytes) (input : List ℕ) (b : Bytes input) where
  keep : (came : List ℕ) (size : ℕ) → length came ≡ size → Bytes came → size < word_values → (KeptOf (put zeros 0 (take kept_bytes came)) size came → ReadFrom (put zeros 0 (take kept_bytes came)) size input)
      → Kept input
  keep came size e c s r = record {
    kept = put zeros 0 (take kept_bytes came);
    size = size;
    bytes = bytes_put 0 blank (bytes_take kept_bytes c);
    length_is = length_put zeros 0 (take kept_bytes came) (omega arith) (rw length-take (omega arith)) ∙ long;
    size_fits = s;
    read = r (subst (λ (n : ℕ). KeptOf (put zeros 0 (take kept_bytes came)) n came) e (kept_of zeros came long));
  }

  kept_by : Kept input
  kept_by = ⊎_elim
      (λ (h : length input ≤ read_most). keep input (length input) refl b (omega arith) Programs.whole)
      (λ (h : read_most < length input).
      keep (take read_most input) read_most (length-take-le read_most input (omega arith)) (bytes_take read_most b) (omega arith)
      (Programs.part b (omega arith) (omega arith)))
      (nat_le_or_lt (length input) read_most)

pub kept_exists : (input : List ℕ) → Bytes input → Kept input
kept_exists = kept_by (replicate kept_bytes 0) (zero_bytes kept_bytes) (length-replicate {A = ℕ} kept_bytes 0)

-- ---- headers of lists whose first bytes agree

fields_agree : (n : ℕ) (s t : List ℕ) → ((i : ℕ) → i < n → get_or s i 0 ≡ get_or t i 0) → (k at : ℕ) → at + k ≤ n → num_at k s at ≡ num_at k t at
fields_agree n s t same k at h = num_at_same k s t at at (λ i b. same (at + i) (omega arith))

-- A count plays no part where one question is asked for.
count_idle : (size len kind n m c d : ℕ) → header_judged checker_kinds size len kind n m c ≡ header_judged checker_kinds size len kind n m d
unfolding header_judged
count_idle size len kind n m c d = go (eqb kind questions_kind) refl
  where
    go : (b : Bool) → eqb kind questions_kind ≡ b → header_judged checker_kinds size len kind n m c ≡ header_judged checker_kinds size len kind n m d
    go true e = rw (eqb-true kind questions_kind e) refl
    go false e = rw e refl

module _ (s t : List ℕ) (same : (i : ℕ) → i < problem_header → get_or s i 0 ≡ get_or t i 0) where
  pub length_agrees : length_field s ≡ length_field t
  length_agrees = fields_agree problem_header s t same 4 0 (omega arith)

  pub n_agrees : n_field s ≡ n_field t
  n_agrees = fields_agree problem_header s t same 2 6 (omega arith)

  pub m_agrees : m_field s ≡ m_field t
  m_agrees = fields_agree problem_header s t same 2 8 (omega arith)

  -- Where one question is asked for, ten bytes decide: what stands behind them is a count only in another kind.
  pub one_agrees : (size : ℕ) → header_refusal checker_kinds s size ≡ header_refusal checker_kinds t size
  unfolding header_refusal
  one_agrees size =
      rw (length_agrees, fields_agree problem_header s t same 2 4 (omega arith), n_agrees, m_agrees)
      (count_idle size (length_field t) (kind_field t) (n_field t) (m_field t) (count_field s) (count_field t))

-- Where several may be, twelve do.
pub header_agrees : (kinds : Kinds) (s t : List ℕ) → ((i : ℕ) → i < questions_header → get_or s i 0 ≡ get_or t i 0) → (size : ℕ)
    → header_refusal kinds s size ≡ header_refusal kinds t size
unfolding header_refusal
header_agrees kinds s t same size =
    let at = fields_agree questions_header s t same in
    rw (at 4 0 (omega arith), at 2 4 (omega arith), at 2 6 (omega arith), at 2 8 (omega arith), at 2 10 (omega arith))

pub answer_agrees : (s t : List ℕ) → ((i : ℕ) → i < answer_header → get_or s i 0 ≡ get_or t i 0) → (size n m : ℕ)
    → answer_header_refusal s size n m ≡ answer_header_refusal t size n m
unfolding answer_header_refusal answer_header_judged
answer_agrees s t same size n m =
    let at = fields_agree answer_header s t same in
    rw (at 4 0 (omega arith), at 2 4 (omega arith), at 2 6 (omega arith), at 2 8 (omega arith), at 2 14 (omega arith))

-- Fewer than 10 bytes: refusal 1, whatever they are.
pub header_short : (kinds : Kinds) (s : List ℕ) (size : ℕ) → size < problem_header → header_refusal kinds s size ≡ 1
unfolding header_refusal header_judged
header_short kinds s size h = rw (lt-ltb size problem_header h)

-- The length field is another than the size: refusal 2.
pub header_length : (kinds : Kinds) (s : List ℕ) (size : ℕ) → problem_header ≤ size → (length_field s + length_bytes ≡ size → ⊥) → header_refusal kinds s size ≡ 2
unfolding header_refusal header_judged
header_length kinds s size h d = rw (le-ltb size problem_header h, ne_eqb (length_field s + length_bytes) size d)

-- ---- where an input is cut

pub cut_short : (s : List ℕ) → length s < length_bytes → length s ≡ cut_place s
unfolding cut_place
cut_short s h = rw (lt-ltb (length s) length_bytes h)

pub cut_past : (s : List ℕ) → length_bytes ≤ length s → length s < length_field s + length_bytes → length s ≡ cut_place s
unfolding cut_place
cut_past s h k = rw (le-ltb (length s) length_bytes h, lt-ltb (length s) (length_field s + length_bytes) k)

pub cut_inside : (s : List ℕ) → length_bytes ≤ length s → length_field s + length_bytes ≤ length s → length_field s + length_bytes ≡ cut_place s
unfolding cut_place
cut_inside s h k = rw (le-ltb (length s) length_bytes h, le-ltb (length s) (length_field s + length_bytes) k)

-- Where there is a length field, the problem part has bytes: it is no idle day.
pub part_meant : (s : List ℕ) → length_bytes ≤ length s → meant (problem_part s) ≡ problem_part s
unfolding problem_part
part_meant s h = ⊎_elim
    (λ (k : length_field s + length_bytes ≤ length s). inside (omega (arith, cut_inside s h k)) (omega (arith, cut_inside s h k)))
    (λ (k : length s < length_field s + length_bytes). inside (omega (arith, cut_past s h k)) (omega (arith, cut_past s h k)))
    (nat_le_or_lt (length_field s + length_bytes) (length s))
  where
    inside : 0 < cut_place s → cut_place s ≤ length s → meant (take (cut_place s) s) ≡ take (cut_place s) s
    inside g l = meant_some (take (cut_place s) s) (omega (arith, length-take-le (cut_place s) s l))

-- ---- from 2³³ bytes on

field_below : {s : List ℕ} → Bytes s → length_field s + length_bytes < signed_full + length_bytes
field_below b = let h = num_at_bound length_bytes 0 b in omega arith

-- The length field of so long a problem is another than its size.
far_problem : (kinds : Kinds) {s : List ℕ} → Bytes s → read_most ≤ length s → refusal_for kinds s ≡ 2
unfolding refusal_for
far_problem kinds {s} b h =
    let two = header_length kinds s (length s) (omega arith) (λ e. omega (arith, field_below b)) in
    or_else_suc (header_refusal kinds s (length s)) _ (omega arith) ∙ two

-- And so is that of so long an answer.
far_answer : {a : List ℕ} → Bytes a → signed_full + length_bytes ≤ length a → (n m : ℕ) → n ≤ highest_n → m ≤ highest_m → answer_refusal a n m ≡ 9
unfolding answer_refusal answer_header_refusal answer_header_judged
far_answer {a} b h n m f g =
    let nine : answer_header_refusal a (length a) n m ≡ 9 =
    rw (le-ltb highest_n n f, le-ltb highest_m m g, le-ltb (length a) answer_header (omega arith), ne_eqb (length_field a + length_bytes) (length a) (λ e. omega (arith, field_below b))) in
    or_else_suc (answer_header_refusal a (length a) n m) _ (omega arith) ∙ nine

-- What the span program puts out is the same for all inputs that are so long.
pub span_far : (input other : List ℕ) → Bytes input → Bytes other → read_most ≤ length input → read_most ≤ length other → {output : List ℕ}
    → SpanOutput other output → SpanOutput input output
span_far input other b c h g (Programs.refusal {k = k} e) = Programs.refusal (far_problem engine_kinds b h ∙ sym (far_problem engine_kinds c g) ∙ e)
span_far input other b c h g (Programs.answer a k e ans) = absurd (let z = far_problem engine_kinds c g in omega arith)
span_far input other b c h g (Programs.answers k e all) = absurd (let z = far_problem engine_kinds c g in omega arith)

-- ---- the verdict program on them

-- A header that nothing refuses says a size that is kept.
pub header_most : (kinds : Kinds) (s : List ℕ) (size : ℕ) → header_refusal kinds s size ≡ 0 → size ≤ kept_bytes
header_most kinds s size e =
    let start = leads_place_most (kind_field s) (m_field s) h.m_most (kind_known kinds (kind_field s) h.kind_known) in
    ⊎_elim
    (λ (k : eqb (kind_field s) questions_kind ≡ false).
    let one : m_field s + questions_asked (kind_field s) (count_field s) ≡ suc (m_field s) = rw k (omega arith) in
    omega (arith, h.size_is, start, one, product_most (n_field s) (m_field s + questions_asked (kind_field s) (count_field s)) 71 h.n_most (omega (arith, h.m_most))))
    (λ (k : kind_field s ≡ questions_kind). let c = few_questions s size k h in omega (arith, c.size_is, product_most (n_field s) (m_field s + count_field s) 71 h.n_most (omega (arith, h.m_most, c.few))))
    (one_or_several (kind_field s))
  where
    h : HeaderPasses kinds s size
    h = (header_passes kinds s size).0 e

    product_most : (n rows most : ℕ) → n ≤ highest_n → rows ≤ most → suc n * rows ≤ 32 * most
    product_most n rows most h k =
        omega (arith, mul-le-mul_right {m = suc n} {n = 32} rows (omega arith), mul-le-mul_left {m = rows} {n = most} 32 k)

pub header_none : (kinds : Kinds) (s : List ℕ) → refusal_for kinds s ≡ 0 → header_refusal kinds s (length s) ≡ 0
unfolding refusal_for
header_none kinds s w = ((or_else_none (header_refusal kinds s (length s)) _).0 w).0

-- Two inputs whose first bytes agree, and whose problem parts end at the same place.
module _ (x y : List ℕ) (same : (i : ℕ) → i < kept_bytes → get_or x i 0 ≡ get_or y i 0) (end : ℕ) (inside : end ≤ length x) (inside' : end ≤ length y) where
  parts_length : length (take end x) ≡ length (take end y)
  parts_length = length-take-le end x inside ∙ sym (length-take-le end y inside')

  parts_kept : end ≤ kept_bytes → take end x ≡ take end y
  parts_kept h =
      ext_get_or 0 (take end x) (take end y) parts_length
      (λ i b. let l = length-take-le end x inside in get_or-take end x i 0 (omega arith) ∙ same i (omega arith) ∙ sym (get_or-take end y i 0 (omega arith)))

  parts_header : kept_bytes < end → header_refusal checker_kinds (take end x) (length (take end x)) ≡ header_refusal checker_kinds (take end y) (length (take end y))
  parts_header h =
      one_agrees (take end x) (take end y) (λ i b. get_or-take end x i 0 (omega arith) ∙ same i (omega arith) ∙ sym (get_or-take end y i 0 (omega arith))) (length (take end x))
      ∙ ap (header_refusal checker_kinds (take end y)) parts_length

  -- A problem part that reaches past what is kept is refused by its header.
  parts_refused : kept_bytes < end → 0 < header_refusal checker_kinds (take end x) (length (take end x))
  parts_refused h = ⊎_elim
      (λ (e : header_refusal checker_kinds (take end x) (length (take end x)) ≡ 0). absurd (omega (arith, header_most checker_kinds (take end x) (length (take end x)) e, length-take-le end x inside)))
      (λ q. q)
      (eq-zero-or-pos (header_refusal checker_kinds (take end x) (length (take end x))))

  problem_alike : problem_refusal (take end x) ≡ problem_refusal (take end y)
  unfolding refusal_for
  problem_alike = ⊎_elim
      (λ (h : end ≤ kept_bytes). ap problem_refusal (parts_kept h))
      (λ (h : kept_bytes < end).
      let some = parts_refused h in
      let alike = parts_header h in
      or_else_suc (header_refusal checker_kinds (take end x) (length (take end x))) _ some ∙ alike ∙ sym (or_else_suc (header_refusal checker_kinds (take end y) (length (take end y))) _ (omega arith)))
      (nat_le_or_lt end kept_bytes)

-- The refusal of the two parts is the same for inputs that are so long and begin alike, and there is one.
module _ (x y : List ℕ) (same : (i : ℕ) → i < kept_bytes → get_or x i 0 ≡ get_or y i 0) (b : Bytes x) (c : Bytes y) (long : read_most ≤ length x) (long' : read_most ≤ length y) where
  cuts_alike : cut_place x ≡ cut_place y
  cuts_alike =
      sym (cut_inside x (omega arith) (omega (arith, field_below b))) ∙ ap (λ (k : ℕ). k + length_bytes) (length_agrees x y (λ i h. same i (omega arith)))
      ∙ cut_inside y (omega arith) (omega (arith, field_below c))

  cut_below : cut_place x < signed_full + length_bytes
  cut_below = let e = cut_inside x (omega arith) (omega (arith, field_below b)) in omega (arith, field_below b)

  far_part : (s : List ℕ) → Bytes s → read_most ≤ length s → cut_place s ≤ kept_bytes → (n m : ℕ) → n ≤ highest_n → m ≤ highest_m → answer_refusal (drop (cut_place s) s) n m ≡ 9
  far_part s d h e n m f g = far_answer (bytes_drop (cut_place s) d) (rw length-drop (omega arith)) n m f g

  pub refusals_alike : (check_refusal (problem_part x) (answer_part x) ≡ check_refusal (problem_part y) (answer_part y)) × (0 < check_refusal (problem_part x) (answer_part x))
  unfolding check_refusal problem_part answer_part
  refusals_alike = go (problem_refusal (take (cut_place x) x)) refl
    where
      alike : problem_refusal (take (cut_place x) x) ≡ problem_refusal (take (cut_place y) y)
      alike = rw (← cuts_alike) (problem_alike x y same (cut_place x) (omega (arith, cut_below)) (omega (arith, cut_below)))

      go : (k : ℕ) → problem_refusal (take (cut_place x) x) ≡ k
          → (check_refusal (take (cut_place x) x) (drop (cut_place x) x) ≡ check_refusal (take (cut_place y) y) (drop (cut_place y) y)) × (0 < check_refusal (take (cut_place x) x) (drop (cut_place x) x))
      go zero e =
          let f = problem_fits (take (cut_place x) x) e in
          let g = problem_fits (take (cut_place y) y) (sym alike ∙ e) in
          let most : cut_place x ≤ kept_bytes =
          let l = length-take-le (cut_place x) x (omega (arith, cut_below)) in omega (arith, header_most checker_kinds (take (cut_place x) x) (length (take (cut_place x) x)) (header_none checker_kinds (take (cut_place x) x) e)) in
          let nine = far_part x b long most _ _ f.n_most f.m_most in
          let nine' = far_part y c long' (omega (arith, cuts_alike)) _ _ g.n_most g.m_most in
          (rw (e, sym alike ∙ e, nine, nine') refl, rw (e, nine) (omega arith))
      go (suc k) e = (rw (e, sym alike ∙ e) refl, rw e (omega arith))

-- A verdict on bytes that are refused.
refused_with : {p a : List ℕ} {v : Verdict} → Judged p a v → (k : ℕ) → check_refusal p a ≡ suc k → v ≡ refused (suc k)
refused_with (turned_away e) k f = ap refused (sym e ∙ f)
refused_with (certified e g) k f = absurd (omega arith)
refused_with (uncertified e g) k f = absurd (omega arith)

judged_with : {p a : List ℕ} {v : Verdict} (k : ℕ) → check_refusal p a ≡ k → 0 < k → v ≡ refused k → Judged p a v
judged_with zero e h f = absurd (omega arith)
judged_with (suc k) e h f = rw f (turned_away e)

-- What is so long is no idle day.
far_meant : (s : List ℕ) → read_most ≤ length s → meant s ≡ s
far_meant s h = meant_some s (omega arith)

-- What the verdict program puts out is the same for all inputs that are so long and begin alike.
pub verdict_far : (input other : List ℕ) → Bytes input → Bytes other → read_most ≤ length input → read_most ≤ length other → take kept_bytes input ≡ take kept_bytes other
    → {output : List ℕ} → VerdictOutput other output → VerdictOutput input output
verdict_far input other b c h g begins o =
    let same : (i : ℕ) → i < kept_bytes → get_or input i 0 ≡ get_or other i 0 =
    λ i l. sym (get_or-take kept_bytes input i 0 l) ∙ ap (λ (s : List ℕ). get_or s i 0) begins ∙ get_or-take kept_bytes other i 0 l in
    let alike = refusals_alike input other same b c h g in
    record { verdict = o.verdict; judged = go (check_refusal (problem_part other) (answer_part other)) refl alike.0 alike.1; line = o.line }
  where
    go : (k : ℕ) → check_refusal (problem_part other) (answer_part other) ≡ k → check_refusal (problem_part input) (answer_part input) ≡ check_refusal (problem_part other) (answer_part other)
        → 0 < check_refusal (problem_part input) (answer_part input) → Judged (meant (problem_part input)) (answer_part input) o.verdict
    go zero e f some = absurd (omega arith)
    go (suc k) e f some = rw (part_meant input (omega arith)) (judged_with (suc k) (f ∙ e) (omega arith) (refused_with (rw (part_meant other (omega arith)) at o.judged) k e))

-- ---- what is put out for all inputs of which the same was read

module _ (kept : List ℕ) (size : ℕ) (output : List ℕ) where
  part_long : (input : List ℕ) → size ≤ length input → length (take size input) ≡ size
  part_long input h = length-take-le size input h

  pub span_read : ((input : List ℕ) → KeptOf kept size input → SpanOutput (meant input) output) → (input : List ℕ) → ReadFrom kept size input
      → SpanOutput (meant input) output
  span_read f input (Programs.whole k) = f input k
  span_read f input (Programs.part b h g k) =
      let far : SpanOutput (take size input) output = rw (far_meant (take size input) (omega (arith, part_long input g))) at (f (take size input) k) in
      rw (far_meant input (omega arith)) (span_far input (take size input) b (bytes_take size b) (omega arith) (omega (arith, part_long input g)) far)

  pub verdict_read : ((input : List ℕ) → KeptOf kept size input → VerdictOutput input output) → (input : List ℕ) → ReadFrom kept size input → VerdictOutput input output
  verdict_read f input (Programs.whole k) = f input k
  verdict_read f input (Programs.part b h g k) =
      verdict_far input (take size input) b (bytes_take size b) (omega arith) (omega (arith, part_long input g)) (sym (take-take kept_bytes size input (omega arith))) (f (take size input) k)
