-- The record of a problem of a census: it has its n, m and leads; nothing refuses it but, perhaps, 17; and what the engine says of it is
-- what it counts as.
use Prim.Native.Nat.{ℕ, zero, suc, ◌+◌, ◌*◌, ◌-◌, ◌%◌, ◌/◌, ◌≤◌}
use mathlib.Core.Path.{◌≡◌, refl, ap, sym, subst, ◌∙◌}
use mathlib.Core.Bool.{Bool, true, false, cond, and-eq-true_iff}
use mathlib.Core.List.{List, [], ◌∷◌, ◌++◌, map, append-nil, append_assoc}
use native.Mathlib.Omega.{arith}
use native.Mathlib.Nat.{mod-lt, mul-le-mul_left, mul-le-mul_right, zero-add}
use lib.Dec.{ltb}
use lib.IntN.{nat_abs}
use lib.ListN.{length, length-append, length-map, take, drop}
use lib.Seq.{take_at, length-take-le}
use borrow.Author.Tests.{le-ltb, le-leb, leb-true}
use Rattle.definitions.specs.Limits.{highest_n, highest_m, lead_limit, length_bytes, short_bytes, signed_bytes, kind_place, n_place, m_place, problem_header, problem_kind, answer_most, refused_silent}
use Rattle.definitions.specs.Tropical.{Trop, bot, fin}
use Rattle.definitions.specs.Bytes.{le, nums_at, fields, field_of, trop_field, put, all, blank_or_within, or_else}
use Rattle.definitions.specs.Offset.{trop_of}
use Rattle.definitions.specs.ProblemRecord.{checker_kinds, problem_size, problem_refusal, record_refusal, refusal_for, silent_refused, length_field, kind_field, n_field, m_field, leads_of, header_bytes, problem_of, meant, WithinLayout, questions_asked, count_field}
use Rattle.definitions.specs.Solved as Results
use Rattle.definitions.specs.Solved.{Solved, Found, Solves, solved, all_solved, engine_refusal}
use Rattle.definitions.proofs.Bytes.{length_le, length_fields, nums_fields, bytes_append, bytes_le, bytes_fields}
use Rattle.definitions.proofs.Refusals.{header_passes}
use Rattle.definitions.proofs.KnownKinds.{size_one}
use Rattle.definitions.proofs.Layouts.{one_question, leads_one}
use Rattle.definitions.proofs.RoundTrip.{trops_back, trops_below}
use Rattle.definitions.proofs.ProblemBack.{length_header, read_length, read_kind, read_n, read_m}
use Rattle.definitions.proofs.Put.{take_put, length_put}
use Rattle.definitions.proofs.IdleDay.{meant_some}
use Rattle.answer_writer.proofs.Writing.{trail_start, trail_put}
use Rattle.engine.specs.Outcome.{solved_of}
use Rattle.engine.specs.declared.solve.Answered.{Answered}
use Rattle.engine.specs.declared.solve.Solution.{Solution}
use Rattle.engine.specs.declared.solve.Solution.TheVariants.{One, All}
use Rattle.records.specs.declared.refusal.Refusal.{Refusal}
use Rattle.records.specs.Classes.{class_number}
use Rattle.records.specs.Refusals.{number_of}
use Rattle.std.specs.Prelude.{Result, Ok, Err}
use Rattle.definitions.specs.Census.{CountsAs, least, bottomless, none, silent, Small, leads_up_to, leads_record, lead_count}
use Rattle.counting.specs.Steps.{small_most, few_leads, Posed, CensusFits, Headed, leads_at, record_at}
use Rattle.counting.proofs.Leads.{lead_small}
use Rattle.counting.proofs.Totals.{leads_few}

-- ---- the record with given leads

module _ (n m w : ℕ) (leads : List Trop) (n_most : n ≤ highest_n) (m_most : m ≤ highest_m) (w_most : w ≤ lead_limit) (many : length leads ≡ lead_count n m) (fit : all (blank_or_within w) leads ≡ true) where
  size_limit : problem_size n m ≤ 16394
  size_limit =
      let wide = mul-le-mul_right {m = suc n} {n = 32} (suc m) (omega arith) in
      let high = mul-le-mul_left {m = suc m} {n = 64} 32 (omega arith) in
      omega (arith, wide, high)

  kind_back : kind_field (leads_record n m leads) ≡ problem_kind
  unfolding leads_record
  kind_back = read_kind n m _

  n_back : n_field (leads_record n m leads) ≡ n
  unfolding leads_record
  n_back = read_n n m _ (omega arith)

  m_back : m_field (leads_record n m leads) ≡ m
  unfolding leads_record
  m_back = read_m n m _ (omega arith)

  pub size_back : length (leads_record n m leads) ≡ problem_size n m
  unfolding leads_record
  size_back = rw (length-append, length_header n m [], length_fields, length-map) (omega (arith, many))

  -- Its leads are these.
  pub leads_back : leads_of (leads_record n m leads) ≡ leads
  unfolding leads_record
  leads_back =
      let count : 2 * (suc (n_field (leads_record n m leads)) * suc (m_field (leads_record n m leads))) ≡ length (map field_of leads) = rw (n_back, m_back, length-map) (sym many) in
      let numbers : nums_at signed_bytes (length (map field_of leads)) (leads_record n m leads) problem_header ≡ map field_of leads =
      rw (← append-nil (fields signed_bytes (map field_of leads))) (nums_fields signed_bytes (map field_of leads) (header_bytes n m) [] problem_header (length_header n m []) (trops_below w (omega arith) leads fit)) in
      leads_one (leads_record n m leads) kind_back ∙ rw count (ap (map trop_field) numbers ∙ trops_back w (omega arith) leads fit)

  pub record_small : Small n m w (leads_record n m leads)
  unfolding leads_record header_bytes
  record_small =
      let long : length_field (leads_record n m leads) ≡ problem_size n m - length_bytes = read_length n m _ (omega (arith, size_limit)) in
      record {
        bytes = bytes_append (bytes_append (bytes_append (bytes_le _ _) (bytes_le _ _)) (bytes_append (bytes_le _ _) (bytes_le _ _))) (bytes_fields _ _);
        length_is = omega (arith, long, size_back);
        kind_is = kind_back;
        n_is = n_back;
        m_is = m_back;
        size_is = size_back;
        leads = rw leads_back fit;
      }

-- ---- what refuses it

within_wider : (a b : ℕ) → a ≤ b → (x : Trop) → blank_or_within a x ≡ true → blank_or_within b x ≡ true
unfolding blank_or_within
within_wider a b h bot e = refl
within_wider a b h (fin z) e = le-leb (nat_abs z) b (omega (arith, leb-true (nat_abs z) a e))

all_wider : (a b : ℕ) → a ≤ b → (xs : List Trop) → all (blank_or_within a) xs ≡ true → all (blank_or_within b) xs ≡ true
unfolding all
all_wider a b h [] e = refl
all_wider a b h (x ∷ xs) e =
    let both = (and-eq-true_iff (blank_or_within a x) (all (blank_or_within a) xs)).0 e in
    (and-eq-true_iff (blank_or_within b x) (all (blank_or_within b) xs)).1 (within_wider a b h x both.0, all_wider a b h xs both.1)

pub small_posed : {n m w : ℕ} {s : List ℕ} → n ≤ highest_n → m ≤ highest_m → w ≤ lead_limit → Small n m w s → Posed s
unfolding refusal_for
small_posed {n} {m} {w} {s} a b h f =
    let passes = (header_passes checker_kinds s (length s)).1 (record {
      size_enough = omega (arith, f.size_is);
      length_is = f.length_is;
      kind_known = rw f.kind_is refl;
      n_most = omega (arith, f.n_is);
      m_most = omega (arith, f.m_is);
      count_right = rw f.kind_is refl;
      size_is = sym (size_one (kind_field s) (n_field s) (m_field s) _ f.kind_is ∙ rw (f.n_is, f.m_is) (sym f.size_is));
    }) in
    record {
      some = omega (arith, f.size_is);
      kind_is = f.kind_is;
      refusal_is = rw (passes, all_wider w lead_limit h (leads_of s) f.leads, f.kind_is) refl;
    }

-- ---- what the engine says

or_none : (k : ℕ) (t : Bool) (j : ℕ) → t ≡ false → or_else k (cond t j 0) ≡ k
or_none zero t j e = rw e refl
or_none (suc k) t j e = refl

-- The engine's refusal of it is its own.
engine_refusal_lem : {s : List ℕ} (room : ℕ) → Posed s → answer_most ≤ room → engine_refusal s room ≡ problem_refusal s
unfolding engine_refusal
engine_refusal_lem {s} room p h =
    let asked : ltb room (questions_asked (kind_field s) (count_field s) * answer_most) ≡ false = rw p.kind_is (le-ltb room (1 * answer_most) (omega arith)) in
    or_none (record_refusal s) _ 7 asked ∙ one_question s (rw p.kind_is refl)

silent_or : (t : Bool) (k : ℕ) → cond t refused_silent 0 ≡ suc k → suc k ≡ refused_silent
silent_or true k e = sym e
silent_or false k e = absurd (omega arith)

found_counts : {s : List ℕ} {class trials : ℕ} {span : Trop} → WithinLayout s → Found (problem_of s) class span trials → CountsAs s class
found_counts w (Results.optimal o) = least w o
found_counts w (Results.unbounded u) = bottomless w u
found_counts w (Results.infeasible n) = none w n

-- A refusal is 17, and an answer's class the problem's; it is never answered like several questions.
refused_as : {s before after : List ℕ} {q : Solved} {k : ℕ} → Posed s → answer_most ≤ length before → Solves s before q after → q ≡ Results.refused k → CountsAs s refused_silent
refused_as {s} p h (Results.turned_away {k = j} e) f =
    let own = sym (engine_refusal_lem _ p h) ∙ e in
    silent (own ∙ silent_or (silent_refused s) j (sym p.refusal_is ∙ own))
refused_as p h (solved a k e ans) f = absurd (let z : ◌≡◌ {A = ℕ} 0 1 = cc in omega arith)
refused_as p h (all_solved k e turn) f = absurd (let z : ◌≡◌ {A = ℕ} 0 1 = cc in omega arith)

answered_as : {s before after : List ℕ} {q : Solved} {class trials size : ℕ} {span : Trop} → Posed s → answer_most ≤ length before → Solves s before q after
    → q ≡ Results.answered class span trials size → CountsAs s class
answered_as p h (Results.turned_away e) f = absurd (let z : ◌≡◌ {A = ℕ} 0 1 = cc in omega arith)
answered_as {s} {class = class} p h (solved {class = c} a k e ans) f =
    let same : c ≡ class = cc in
    subst (CountsAs s) same (found_counts (sym (engine_refusal_lem _ p h) ∙ e) ans.found)
answered_as p h (all_solved k e turn) f = absurd (let z : ◌≡◌ {A = ℕ} 0 1 = cc in omega arith)

not_several : {s before after : List ℕ} {q : Solved} {count trials size : ℕ} → Posed s → Solves s before q after → q ≡ Results.all_answered count trials size → ⊥
not_several p (Results.turned_away e) f = absurd (let z : ◌≡◌ {A = ℕ} 0 1 = cc in omega arith)
not_several p (solved a k e ans) f = absurd (let z : ◌≡◌ {A = ℕ} 0 1 = cc in omega arith)
not_several p (all_solved k e turn) f = absurd (let z : ◌≡◌ {A = ℕ} 1 3 = sym p.kind_is ∙ k in omega arith)

-- The same of the code's result.
module _ {s before after : List ℕ} (r : Result Solution Refusal) (p : Posed s) (t : Solves (meant s) before (solved_of r) after) where
  own : {q : Solved} → solved_of r ≡ q → Solves s before q after
  own e = rw e at (rw (meant_some s p.some) at t)

  pub counts_silent : {k : Refusal} → answer_most ≤ length before → r ≡ Err k → CountsAs s refused_silent
  unfolding solved_of
  counts_silent {k} h e = let is : solved_of r ≡ Results.refused (number_of k) = rw e refl in refused_as p h (own is) refl

  pub counts_answered : {a : Answered} → answer_most ≤ length before → r ≡ Ok (One a) → CountsAs s (class_number a.class)
  unfolding solved_of
  counts_answered {a} h e = let is : solved_of r ≡ Results.answered (class_number a.class) (trop_of a.span) a.trials a.size = rw e refl in answered_as p h (own is) refl

  pub counts_no_several : {count trials size : ℕ} → r ≡ Ok (All count trials size) → ⊥
  unfolding solved_of
  counts_no_several {count} {trials} {size} e = let is : solved_of r ≡ Results.all_answered count trials size = rw e refl in not_several p (own is) refl

-- ---- the record of a number

leads_many : (w k c : ℕ) → length (leads_at w k c) ≡ k
unfolding leads_at
leads_many w zero c = refl
leads_many w (suc k) c = ap suc (leads_many w k (c / leads_up_to w))

leads_fit : (w k c : ℕ) → all (blank_or_within w) (leads_at w k c) ≡ true
unfolding leads_at all
leads_fit w zero c = refl
leads_fit w (suc k) c =
    (and-eq-true_iff _ _).1 (lead_small w (c % leads_up_to w) (mod-lt c {m = leads_up_to w} (omega arith)), leads_fit w k (c / leads_up_to w))

pub number_posed : {n m w : ℕ} (c : ℕ) → CensusFits n m w → Posed (record_at n m w c)
number_posed {n} {m} {w} c f =
    small_posed f.n_most f.m_most f.w_most
    (record_small n m w (leads_at w (lead_count n m) c) f.n_most f.m_most f.w_most (leads_many w (lead_count n m) c) (leads_fit w (lead_count n m) c))

-- ---- the record in the buffer

take_before : (l : List ℕ) (at : ℕ) (vs : List ℕ) → at ≤ length l → take at (put l at vs) ≡ take at l
unfolding put
take_before l at vs h = take_at (take at l) (vs ++ drop (at + length vs) l) at (length-take-le at l h)

lead_bytes : (w k c : ℕ) → length (fields signed_bytes (map field_of (leads_at w k c))) ≡ signed_bytes * k
lead_bytes w k c = rw (length_fields, length-map, leads_many w k c) refl

pub headed_start : (n m : ℕ) (l : List ℕ) {after : List ℕ} → length l ≡ small_most → after ≡ put l 0 (header_bytes n m) → Headed n m after
headed_start n m l h e =
    let long = length_header n m [] in
    record {
      size_is = rw e (length_put l 0 (header_bytes n m) (omega arith) (omega (arith, long))) ∙ h;
      header_is = rw e (subst (λ (k : ℕ). take k (put l 0 (header_bytes n m)) ≡ header_bytes n m) (zero-add _ ∙ long) (take_put l 0 (header_bytes n m) (omega arith)));
    }

pub headed_next : {n m : ℕ} {l after : List ℕ} (w k c : ℕ) → Headed n m l → k ≤ few_leads → after ≡ put l problem_header (fields signed_bytes (map field_of (leads_at w k c))) → Headed n m after
headed_next {l = l} w k c h few e =
    let fs = fields signed_bytes (map field_of (leads_at w k c)) in
    let long = lead_bytes w k c in
    record {
      size_is = rw e (length_put l problem_header (fields signed_bytes (map field_of (leads_at w k c))) (omega (arith, h.size_is)) (omega (arith, long, h.size_is))) ∙ h.size_is;
      header_is = rw e (take_before l problem_header (fields signed_bytes (map field_of (leads_at w k c))) (omega (arith, h.size_is))) ∙ h.header_is;
    }

-- Problem number c stands at the buffer's start.
pub record_here : {n m : ℕ} {l after : List ℕ} (w k c size : ℕ) → Headed n m l → k ≡ lead_count n m → size ≡ problem_header + signed_bytes * k
    → after ≡ put l problem_header (fields signed_bytes (map field_of (leads_at w k c))) → take size after ≡ record_at n m w c
unfolding leads_record
record_here {n} {m} {l} w k c size h many s e =
    let long : problem_header + length (fields signed_bytes (map field_of (leads_at w k c))) ≡ size = omega (arith, lead_bytes w k c) in
    let front = take_put l problem_header (fields signed_bytes (map field_of (leads_at w k c))) (omega (arith, h.size_is)) in
    let here : take size (put l problem_header (fields signed_bytes (map field_of (leads_at w k c)))) ≡ take problem_header l ++ fields signed_bytes (map field_of (leads_at w k c)) = rw (← long) front in
    let same : take problem_header l ++ fields signed_bytes (map field_of (leads_at w k c)) ≡ header_bytes n m ++ fields signed_bytes (map field_of (leads_at w (lead_count n m) c)) = rw (h.header_is, many) refl in
    rw e (here ∙ same)

-- The header's four fields.
pub header_put : (l : List ℕ) (n m leads : ℕ) {l₁ l₂ l₃ l₄ : List ℕ} → problem_header ≤ length l → leads ≡ lead_count n m
    → l₁ ≡ put l 0 (le length_bytes (problem_header + signed_bytes * leads - length_bytes)) → l₂ ≡ put l₁ kind_place (le short_bytes problem_kind)
    → l₃ ≡ put l₂ n_place (le short_bytes n) → l₄ ≡ put l₃ m_place (le short_bytes m) → l₄ ≡ put l 0 (header_bytes n m)
unfolding header_bytes
header_put l n m leads h k a b c d =
    let size : problem_header + signed_bytes * leads - length_bytes ≡ problem_size n m - length_bytes = omega arith in
    let t₁ = trail_put (le length_bytes (problem_header + signed_bytes * leads - length_bytes)) (trail_start l) a refl (rw length_le (omega arith)) in
    let t₂ = trail_put (le short_bytes problem_kind) t₁ b (simp (length-append, length_le)) (rw length_le (omega arith)) in
    let t₃ = trail_put (le short_bytes n) t₂ c (simp (length-append, length_le)) (rw length_le (omega arith)) in
    let t₄ = trail_put (le short_bytes m) t₃ d (simp (length-append, length_le)) (rw length_le (omega arith)) in
    t₄.is
    ∙ rw size (ap (put l 0) (append_assoc (le length_bytes (problem_size n m - length_bytes) ++ le short_bytes problem_kind) (le short_bytes n) (le short_bytes m)))

-- Problem number c made in the buffer.
pub record Made (n m w c leads : ℕ) (after : List ℕ) : Type 0 where
  pub headed : Headed n m after
  pub here : take (problem_header + signed_bytes * leads) after ≡ record_at n m w c
  pub few : leads ≤ few_leads
  pub posed : Posed (record_at n m w c)

pub made : {n m w leads : ℕ} {l after : List ℕ} (c : ℕ) → CensusFits n m w → leads ≡ 2 * ((n + 1) * (m + 1)) → Headed n m l
    → after ≡ put l problem_header (fields signed_bytes (map field_of (leads_at w leads c))) → Made n m w c leads after
made {n} {m} {w} {leads} c f e h p =
    let many : leads ≡ lead_count n m = omega arith in
    let few : leads ≤ few_leads = omega (arith, leads_few n m w f) in
    record { headed = headed_next w leads c h few p; here = record_here w leads c _ h many refl p; few = few; posed = number_posed c f }
