-- Answers and their bytes: what the writer takes is read back as it was, and what is read is written back as it was.
use Prim.Native.Nat.{ℕ, zero, suc, ◌+◌, ◌*◌, ◌-◌, ◌^◌, ◌≤◌, ◌<◌}
use mathlib.Core.Path.{◌≡◌, refl, ap, ap₂, sym, subst, ◌∙◌}
use mathlib.Core.Bool.{Bool, true, false, cond, ◌||◌, and-eq-true_iff, false≢true}
use mathlib.Core.List.{List, [], ◌∷◌, ◌++◌, map, append_assoc, append-nil}
use native.Mathlib.Omega.{arith}
use lib.Dec.{eqb, ltb, leb}
use lib.ListN.{length, get_or, drop, length-append, length-map, take-append-drop, drop_of_length-le}
use lib.IntN.{nat_abs}
use lib.Seq.{drop-drop}
use borrow.Author.Tests.{leb-true, le-leb, eqb-true}
use Rattle.definitions.specs.Limits.{span_limit, stamp_limit, length_bytes, short_bytes, signed_bytes, signed_half, signed_full, answer_kind, class_optimal, class_unbounded, class_infeasible, answer_header, answer_most, highest_n, highest_m, table_rows}
use Rattle.definitions.specs.Tropical.{Trop, bot, fin}
use Rattle.definitions.specs.Bytes.{Bytes, num_at, nums_at, le, fields, trop_field, field_of, trop_at, all, whole_within, blank_or_within}
use Rattle.definitions.specs.ProblemRecord.{length_field, kind_field, n_field}
use Rattle.definitions.specs.AnswerRecord.{Answer, known_class, by_class, start_fits, stamp_count, pick_count, highest_pick, answer_size, is_zero, is_blank, span_fits, stamps_fit, picks_fit, class_field, span_field, start_field, answer_of, answer_bytes, answer_refusal, writer_refusal}
use Rattle.definitions.proofs.Bytes.{length_le, length_fields, length_nums_at, num_at_back, num_le, num_at_bound, le_num, Below, nums_at_below, nums_fields, fields_nums, all_true, bytes_append, bytes_le, bytes_fields}
use Rattle.definitions.proofs.Offset.{FitsField, within_fits, field_of_bound, trop_field_field_of, field_of_trop_field}
use Rattle.definitions.proofs.AnswerFits.{WriterFits, answer_fits, writer_fits}

-- ---- numbers of a run, as tropical numbers and back

-- Numbers within a limit below 2³¹ are what their fields stand for.
pub trops_back : (limit : ℕ) → limit < signed_half → (xs : List Trop) → all (blank_or_within limit) xs ≡ true → map trop_field (map field_of xs) ≡ xs
unfolding all
trops_back limit l [] e = refl
trops_back limit l (x ∷ xs) e =
    let b = (and-eq-true_iff (blank_or_within limit x) (all (blank_or_within limit) xs)).0 e in
    ap₂ ◌∷◌ (trop_field_field_of x (within_fits limit l b.0)) (trops_back limit l xs b.1)

-- Their fields are below 2³².
pub trops_below : (limit : ℕ) → limit < signed_half → (xs : List Trop) → all (blank_or_within limit) xs ≡ true → Below signed_full (map field_of xs)
unfolding all
trops_below limit l [] e = record { below = λ i h. absurd (omega arith) }
trops_below limit l (x ∷ xs) e =
    let b = (and-eq-true_iff (blank_or_within limit x) (all (blank_or_within limit) xs)).0 e in
    record { below = go (field_of_bound x (within_fits limit l b.0)) (trops_below limit l xs b.1) }
  where
    go : field_of x < signed_full → Below signed_full (map field_of xs) → (i : ℕ) → i < suc (length (map field_of xs)) → get_or (field_of x ∷ map field_of xs) i 0 < signed_full
    go h r zero l = h
    go h r (suc i) l = r.below i (omega arith)

-- Fields below 2³² are those of what they stand for.
pub fields_back : (xs : List ℕ) → Below signed_full xs → map field_of (map trop_field xs) ≡ xs
fields_back [] b = refl
fields_back (x ∷ xs) b =
    ap₂ ◌∷◌ (field_of_trop_field x (b.below 0 (omega arith))) (fields_back xs (record { below = λ i h. b.below (suc i) (omega arith) }))

-- ---- what the form gives

-- What holds of each class, and where there is none, holds of what a class number gives.
pub by_class_each : {A : Type 0} (P : A → Type 0) (class : ℕ) {least bottomless none no_class : A} → P least → P bottomless → P none → P no_class
    → P (by_class class least bottomless none no_class)
by_class_each P class {least} {bottomless} {none} {no_class} p q r s = go (eqb class class_optimal) (eqb class class_unbounded) (eqb class class_infeasible)
  where
    go : (a b c : Bool) → P (cond a least (cond b bottomless (cond c none no_class)))
    go true b c = p
    go false true c = q
    go false false true = r
    go false false false = s

-- A span that has its form is blank or within its limit.
pub span_within : (class : ℕ) (x : Trop) → span_fits class x ≡ true → blank_or_within span_limit x ≡ true
unfolding span_fits whole_within is_blank blank_or_within
span_within class bot e = refl
span_within class (fin z) e =
    by_class_each (λ (t : Bool). t ≡ true → leb (nat_abs z) span_limit ≡ true) class (λ t. t) false≢true_at false≢true_at false≢true_at e
  where
    false≢true_at : false ≡ true → leb (nat_abs z) span_limit ≡ true
    false≢true_at t = absurd (false≢true t)

-- Stamps that have their form are blank or within their limit, stamp 0 among them.
pub stamps_within : (xs : List Trop) → stamps_fit xs ≡ true → all (blank_or_within stamp_limit) xs ≡ true
unfolding stamps_fit all is_zero blank_or_within
stamps_within [] e = refl
stamps_within (bot ∷ xs) e = absurd (false≢true e)
stamps_within (fin z ∷ xs) e =
    let b = (and-eq-true_iff (eqb (nat_abs z) 0) (all (blank_or_within stamp_limit) xs)).0 e in
    let anchor : nat_abs z ≤ stamp_limit = omega (arith, eqb-true (nat_abs z) 0 b.0) in
    (and-eq-true_iff (leb (nat_abs z) stamp_limit) (all (blank_or_within stamp_limit) xs)).1 (le-leb (nat_abs z) stamp_limit anchor, b.1)

-- Picks that have their form are at most their highest.
pub picks_below : (bound highest : ℕ) (xs : List ℕ) → highest < bound → picks_fit highest xs ≡ true → Below bound xs
unfolding picks_fit
picks_below bound highest xs l e =
    record { below = λ i h. let b = leb-true (get_or xs i 0) highest ((all_true (λ pick. leb pick highest) 0 xs).0 e i h) in omega arith }

-- A known class is 1, 2 or 3.
pub class_most : (class : ℕ) → known_class class ≡ true → class ≤ 3
class_most class e = go (eqb class 1) (eqb class 2) (eqb class 3) refl refl refl e
  where
    go : (r s t : Bool) → eqb class 1 ≡ r → eqb class 2 ≡ s → eqb class 3 ≡ t → (r || (s || t)) ≡ true → class ≤ 3
    go true s t a b c e = omega (arith, eqb-true class 1 a)
    go false true t a b c e = omega (arith, eqb-true class 2 b)
    go false false true a b c e = omega (arith, eqb-true class 3 c)
    go false false false a b c e = absurd (false≢true e)

-- A start of a class is at most n + 1.
pub start_most : (class start n : ℕ) → start_fits class start n ≡ true → start ≤ suc n
start_most class start n =
    by_class_each (λ (t : Bool). t ≡ true → start ≤ suc n) class
    (λ e. omega (arith, leb-true start 1 e))
    (λ e. leb-true start (suc n) ((and-eq-true_iff (ltb 0 start) (leb start (suc n))).0 e).1)
    (λ e. omega (arith, leb-true start 1 e))
    (λ e. absurd (false≢true e))

-- An answer has at most 208 bytes.
pub size_most : (class n m : ℕ) → n ≤ highest_n → m ≤ highest_m → answer_size class n m ≤ answer_most
size_most class n m h k = go (eqb class class_optimal) (eqb class class_unbounded) (eqb class class_infeasible)
  where
    go : (r s t : Bool)
        → answer_header + signed_bytes * cond r (suc n) (cond s 0 (cond t 0 0)) + short_bytes * cond r (suc n) (cond s (suc m) (cond t (suc n) 0)) ≤ answer_most
    go true s t = omega arith
    go false true t = omega arith
    go false false true = omega arith
    go false false false = omega arith

-- No pick is above 64.
pub highest_most : (class n m : ℕ) → n ≤ highest_n → m ≤ highest_m → highest_pick class n m ≤ table_rows
highest_most class n m h k = by_class_each (λ k. k ≤ table_rows) class (omega arith) (omega arith) (omega arith) (omega arith)

-- ---- from an answer to its bytes and back

-- A field at the front is read.
pub num_here : (k x : ℕ) (q : List ℕ) → x < 256 ^ k → num_at k (le k x ++ q) 0 ≡ x
num_here k x q h = num_le k x [] q 0 refl h

-- A field behind another is read behind it.
pub num_past : (k j x : ℕ) (q : List ℕ) (at : ℕ) → num_at k (le j x ++ q) (j + at) ≡ num_at k q at
num_past k j x q at = num_at_back k (le j x) q j at (length_le j x)

-- The first sixteen bytes of an answer as fields one after the other.
front : ℕ → ℕ → ℕ → ℕ → ℕ → ℕ → List ℕ
front size kind n class span start =
    le length_bytes size ++ (le short_bytes kind ++ (le short_bytes n ++ (le short_bytes class ++ (le signed_bytes span ++ le short_bytes start))))

module _ (size kind n class span start : ℕ) where
  -- They are sixteen.
  length_front : length (front size kind n class span start) ≡ answer_header
  unfolding front
  length_front = simp (length-append, length_le)

  module _ (rest : List ℕ) where
    -- The length field is read.
    read_size : size < signed_full → num_at length_bytes (front size kind n class span start ++ rest) 0 ≡ size
    unfolding front
    read_size h = simp append_assoc (num_here length_bytes size _ h)

    -- The kind is read.
    read_kind : kind < 65536 → num_at short_bytes (front size kind n class span start ++ rest) 4 ≡ kind
    unfolding front
    read_kind h = simp append_assoc (num_past short_bytes length_bytes size _ 0 ∙ num_here short_bytes kind _ h)

    -- The n is read.
    read_n : n < 65536 → num_at short_bytes (front size kind n class span start ++ rest) 6 ≡ n
    unfolding front
    read_n h = simp append_assoc (num_past short_bytes length_bytes size _ 2 ∙ num_past short_bytes short_bytes kind _ 0 ∙ num_here short_bytes n _ h)

    -- The class is read.
    read_class : class < 65536 → num_at short_bytes (front size kind n class span start ++ rest) 8 ≡ class
    unfolding front
    read_class h = simp append_assoc
        (num_past short_bytes length_bytes size _ 4 ∙ num_past short_bytes short_bytes kind _ 2 ∙ num_past short_bytes short_bytes n _ 0
        ∙ num_here short_bytes class _ h)

    -- The span's field is read.
    read_span : span < signed_full → num_at signed_bytes (front size kind n class span start ++ rest) 10 ≡ span
    unfolding front
    read_span h = simp append_assoc
        (num_past signed_bytes length_bytes size _ 6 ∙ num_past signed_bytes short_bytes kind _ 4 ∙ num_past signed_bytes short_bytes n _ 2
        ∙ num_past signed_bytes short_bytes class _ 0
        ∙ num_here signed_bytes span _ h)

    -- The start is read.
    read_start : start < 65536 → num_at short_bytes (front size kind n class span start ++ rest) 14 ≡ start
    unfolding front
    read_start h = simp append_assoc
        (num_past short_bytes length_bytes size _ 10 ∙ num_past short_bytes short_bytes kind _ 8 ∙ num_past short_bytes short_bytes n _ 6
        ∙ num_past short_bytes short_bytes class _ 4 ∙ num_past short_bytes signed_bytes span _ 0
        ∙ num_here short_bytes start _ h)

-- An answer's record is a string of bytes.
pub answer_bytes_lem : (n : ℕ) (a : Answer) → Bytes (answer_bytes n a)
unfolding answer_bytes
answer_bytes_lem n a = search (bytes_append, bytes_le, bytes_fields) depth 8

module _ (a : Answer) (n m room : ℕ) (f : WriterFits a n m room) where
  -- The record is as long as its class asks for.
  pub answer_length : length (answer_bytes n a) ≡ answer_size a.class n m
  unfolding answer_bytes
  answer_length = simp (length-append, length_le, length_fields, length-map, f.stamps_count, f.picks_count) (omega arith)

  -- It has at most 208 bytes.
  pub answer_length_most : length (answer_bytes n a) ≤ answer_most
  answer_length_most = rw answer_length (size_most a.class n m f.n_most f.m_most)

  -- The length that is written is the record's own, less the length field.
  length_written : answer_header + signed_bytes * length a.stamps + short_bytes * length a.picks ≡ length (answer_bytes n a)
  length_written = rw (answer_length, f.stamps_count, f.picks_count)

  -- The length field says it.
  length_back : length_field (answer_bytes n a) + length_bytes ≡ length (answer_bytes n a)
  unfolding answer_bytes front
  length_back =
      let small = answer_length_most in
      let same = length_written in
      omega (arith, read_size (answer_header + signed_bytes * length a.stamps + short_bytes * length a.picks - length_bytes) answer_kind n a.class (field_of a.span) a.start (fields signed_bytes (map field_of a.stamps) ++ fields short_bytes a.picks) (omega arith))

  -- The kind is that of an answer.
  kind_back : kind_field (answer_bytes n a) ≡ answer_kind
  unfolding answer_bytes front
  kind_back = read_kind _ _ _ _ _ _ _ (omega arith)

  -- The n is the one given.
  n_back : n_field (answer_bytes n a) ≡ n
  unfolding answer_bytes front
  n_back = read_n _ _ _ _ _ _ _ (omega (arith, f.n_most))

  -- The class is the answer's.
  class_back : class_field (answer_bytes n a) ≡ a.class
  unfolding answer_bytes front
  class_back = read_class _ _ _ _ _ _ _ (omega (arith, class_most a.class f.class_known))

  -- The span is the answer's.
  span_back : span_field (answer_bytes n a) ≡ a.span
  unfolding answer_bytes front trop_at
  span_back =
      let fit : FitsField a.span = within_fits span_limit (omega arith) (span_within a.class a.span f.form.span_fits_is) in
      ap trop_field (read_span _ _ _ _ _ _ _ (field_of_bound a.span fit)) ∙ trop_field_field_of a.span fit

  -- The start is the answer's.
  start_back : start_field (answer_bytes n a) ≡ a.start
  unfolding answer_bytes front
  start_back = read_start _ _ _ _ _ _ _ (omega (arith, f.n_most, start_most a.class a.start n f.start_fits_is))

  -- The stamps are the answer's.
  stamps_back : map trop_field (nums_at signed_bytes (stamp_count (class_field (answer_bytes n a)) n) (answer_bytes n a) answer_header) ≡ a.stamps
  unfolding answer_bytes front
  stamps_back =
      let inside = stamps_within a.stamps f.form.stamps_fit_lem in
      let count : stamp_count (class_field (answer_bytes n a)) n ≡ length (map field_of a.stamps) = rw (class_back, length-map, f.stamps_count) in
      ap (λ (k : ℕ). map trop_field (nums_at signed_bytes k (answer_bytes n a) answer_header)) count
      ∙ ap (map trop_field) (nums_fields signed_bytes (map field_of a.stamps) (front _ _ _ _ _ _) (fields short_bytes a.picks) answer_header (length_front _ _ _ _ _ _) (trops_below stamp_limit (omega arith) a.stamps inside))
      ∙ trops_back stamp_limit (omega arith) a.stamps inside

  -- The picks stand behind the stamps.
  picks_read : nums_at short_bytes (length a.picks) (answer_bytes n a) (answer_header + signed_bytes * length a.stamps) ≡ a.picks
  unfolding answer_bytes front
  picks_read =
      let head : List ℕ =
      front (answer_header + signed_bytes * length a.stamps + short_bytes * length a.picks - length_bytes) answer_kind n a.class (field_of a.span) a.start
      ++ fields signed_bytes (map field_of a.stamps) in
      let ends : answer_bytes n a ≡ head ++ (fields short_bytes a.picks ++ []) = simp (append_assoc, append-nil) in
      let place : length head ≡ answer_header + signed_bytes * length a.stamps = simp (length-append, length_le, length_fields, length-map) in
      let most = highest_most a.class n m f.n_most f.m_most in
      subst (λ (s : List ℕ). nums_at short_bytes (length a.picks) s (answer_header + signed_bytes * length a.stamps) ≡ a.picks)
      (sym ends)
      (nums_fields short_bytes a.picks head [] (answer_header + signed_bytes * length a.stamps) place (picks_below 65536 (highest_pick a.class n m) a.picks (omega arith) f.form.picks_fit_lem))

  -- The picks are the answer's.
  picks_back : nums_at short_bytes (pick_count (class_field (answer_bytes n a)) n m) (answer_bytes n a) (answer_header + signed_bytes * stamp_count (class_field (answer_bytes n a)) n) ≡ a.picks
  picks_back = rw (class_back, ← f.picks_count, ← f.stamps_count) picks_read

  -- What the writer takes is read back from its bytes.
  pub answer_back : answer_of (answer_bytes n a) n m ≡ a
  unfolding answer_of
  answer_back = λ i. record { class = class_back i; span = span_back i; start = start_back i; stamps = stamps_back i; picks = picks_back i }

  -- Nothing refuses these bytes.
  pub answer_accepted : answer_refusal (answer_bytes n a) n m ≡ 0
  answer_accepted =
      (answer_fits (answer_bytes n a) n m).1
      (record {
        n_most = f.n_most;
        m_most = f.m_most;
        size_enough = rw answer_length (omega arith);
        length_is = length_back;
        kind_is = kind_back;
        class_known = rw class_back f.class_known;
        start_fits_is = rw (class_back, start_back) f.start_fits_is;
        n_is = n_back;
        size_is = rw (answer_length, class_back);
        form = rw answer_back f.form;
      })

-- ---- from bytes to an answer and back

module _ {s : List ℕ} (bytes : Bytes s) where
  -- A field that is read, and what follows, is what stands there.
  pub le_then : (k at : ℕ) → at + k ≤ length s → le k (num_at k s at) ++ drop (at + k) s ≡ drop at s
  le_then k at h = rw (le_num k at bytes h, ← drop-drop k at s) (take-append-drop k (drop at s))

  -- A run that is read, and what follows, is what stands there.
  pub fields_then : (k count at : ℕ) → at + k * count ≤ length s → fields k (nums_at k count s at) ++ drop (at + k * count) s ≡ drop at s
  fields_then k count at h = rw (fields_nums k count at bytes h, ← drop-drop (k * count) at s) (take-append-drop (k * count) (drop at s))

  -- The first sixteen bytes.
  front_then : answer_header ≤ length s → front (length_field s) (kind_field s) (n_field s) (class_field s) (num_at signed_bytes s 10) (start_field s) ++ drop answer_header s ≡ s
  unfolding front
  front_then h = simp append_assoc (rw (le_then 2 14 (omega arith), le_then 4 10 (omega arith), le_then 2 8 (omega arith), le_then 2 6 (omega arith), le_then 2 4 (omega arith)) (le_then 4 0 (omega arith)))

  -- Two runs that end with the bytes.
  runs_then : (k j p q at : ℕ) → length s ≡ at + k * p + j * q → fields k (nums_at k p s at) ++ fields j (nums_at j q s (at + k * p)) ≡ drop at s
  runs_then k j p q at e =
      let none : drop (at + k * p + j * q) s ≡ [] = drop_of_length-le s {i = at + k * p + j * q} (omega arith) in
      let ends : fields j (nums_at j q s (at + k * p)) ≡ drop (at + k * p) s = rw (none, append-nil) at (fields_then j q (at + k * p) (omega arith)) in
      rw ends (fields_then k p at (omega arith))

  -- An answer that is read is written back as it stands.
  pub bytes_back : (n m : ℕ) → answer_refusal s n m ≡ 0 → answer_bytes n (answer_of s n m) ≡ s
  unfolding answer_bytes answer_of front trop_at
  bytes_back n m accepted =
      let f = (answer_fits s n m).0 accepted in
      let size : answer_header + signed_bytes * length (answer_of s n m).stamps + short_bytes * length (answer_of s n m).picks - length_bytes ≡ length_field s =
      simp (length-map, length_nums_at) (omega (arith, f.size_is, f.length_is)) in
      let span : field_of (span_field s) ≡ num_at signed_bytes s 10 = field_of_trop_field (num_at signed_bytes s 10) (num_at_bound signed_bytes 10 bytes) in
      let stamps : map field_of (answer_of s n m).stamps ≡ nums_at signed_bytes (stamp_count (class_field s) n) s answer_header =
      fields_back _ (nums_at_below signed_bytes (stamp_count (class_field s) n) answer_header bytes) in
      let runs = runs_then signed_bytes short_bytes (stamp_count (class_field s) n) (pick_count (class_field s) n m) answer_header f.size_is in
      let ends = front_then f.size_enough in
      cc

-- The writer takes what is read.
pub writer_accepts : (s : List ℕ) (n m room : ℕ) → answer_refusal s n m ≡ 0 → answer_most ≤ room → writer_refusal (answer_of s n m) n m room ≡ 0
unfolding answer_of
writer_accepts s n m room accepted h =
    let f = (answer_fits s n m).0 accepted in
    (writer_fits (answer_of s n m) n m room).1
    (record {
      n_most = f.n_most;
      m_most = f.m_most;
      room_enough = h;
      class_known = f.class_known;
      start_fits_is = f.start_fits_is;
      stamps_count = rw (length-map, length_nums_at);
      picks_count = length_nums_at _ _ _ _;
      form = f.form;
    })

-- What the writer takes becomes bytes of its class's size that nothing refuses and that mean the same.
pub write_read : (a : Answer) (n m room : ℕ) → writer_refusal a n m room ≡ 0
    → (answer_refusal (answer_bytes n a) n m ≡ 0) × (answer_of (answer_bytes n a) n m ≡ a) × (length (answer_bytes n a) ≡ answer_size a.class n m)
write_read a n m room e =
    let f = (writer_fits a n m room).0 e in
    (answer_accepted a n m room f, answer_back a n m room f, answer_length a n m room f)

-- Bytes that nothing refuses are written back as they stand, and the writer takes what they mean.
pub read_write : {s : List ℕ} (n m room : ℕ) → Bytes s → answer_refusal s n m ≡ 0 → answer_most ≤ room
    → (answer_bytes n (answer_of s n m) ≡ s) × (writer_refusal (answer_of s n m) n m room ≡ 0)
read_write {s} n m room bytes e h = (bytes_back bytes n m e, writer_accepts s n m room e h)
