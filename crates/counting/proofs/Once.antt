-- Each problem of a census stands exactly once among all, and nothing else does.
use Prim.Native.Nat.{ℕ, zero, suc, ◌+◌, ◌-◌, ◌*◌, ◌≤◌, ◌<◌}
use mathlib.Core.Path.{◌≡◌, refl, ap, ap₂, sym, subst, ◌∙◌}
use mathlib.Core.Bool.{true, and-eq-true_iff}
use mathlib.Core.Logic.{◌↔◌, ⊎_elim}
use mathlib.Core.List.{List, [], ◌∷◌, ◌++◌, map, append-nil, append_assoc}
use native.Mathlib.Omega.{arith}
use native.Mathlib.Nat.{zero-add}
use lib.ListN.{length, drop, length-map, drop_of_length-le}
use lib.IntN.{ℤ, nat_abs}
use Rattle.base.proofs.Numbers.{below_or_last}
use Rattle.definitions.specs.Limits.{highest_n, highest_m, lead_limit, length_bytes, short_bytes, signed_bytes, problem_header, problem_kind}
use Rattle.definitions.specs.Tropical.{Trop, bot, fin}
use Rattle.definitions.specs.Bytes.{nums_at, le, fields, field_of, all, blank_or_within}
use Rattle.definitions.specs.ProblemRecord.{problem_size, header_bytes, length_field, kind_field, n_field, m_field, leads_of, list_of}
use Rattle.definitions.specs.Census.{Counted, nothing, holds, holds_not, census_lead, census_leads, leads_up_to, fronted, lists, lead_count, leads_record, problems, Small, EachOnce, Census, Censuses, CensusHolds, refused, turned_away, counts}
use Rattle.definitions.proofs.Bytes.{length_nums_at, nums_at_below}
use Rattle.definitions.proofs.Whole.{up, down, whole, subℕ_read, abs_read, eq_read}
use Rattle.definitions.proofs.Tropical.{fin_injective, bot_not_fin}
use Rattle.definitions.proofs.Offset.{within_size}
use Rattle.definitions.proofs.Layouts.{leads_one}
use Rattle.definitions.proofs.RoundTrip.{fields_back, le_then, fields_then}
use Rattle.counting.proofs.Counting.{counted_unique, counted_append, Each, no_more, one_more, each_append, each_map, counted_map, counted_none}
use Rattle.counting.proofs.Leads.{lead_small}
use Rattle.counting.proofs.Problems.{problems_length}
use Rattle.counting.proofs.Posing.{leads_back, record_small}

-- ---- a function as a list

each_all : {A : Type 0} {P : A → Type 0} → ((x : A) → P x) → (xs : List A) → Each P xs
each_all h [] = no_more
each_all h (x ∷ xs) = one_more (h x) (each_all h xs)

each_same : {A : Type 0} {P Q : A → Type 0} {xs : List A} → ((x : A) → P x → Q x) → Each P xs → Each Q xs
each_same h no_more = no_more
each_same h (one_more p e) = one_more (h _ p) (each_same h e)

each_listed : {A : Type 0} {P : A → Type 0} (f : ℕ → A) (k : ℕ) → ((i : ℕ) → i < k → P (f i)) → Each P (list_of f k)
unfolding list_of
each_listed f zero h = no_more
each_listed f (suc k) h = each_append (each_listed f k (λ i b. h i (omega arith))) (one_more (h k (omega arith)) no_more)

-- An element that stands at one place stands there once.
listed_once : {A : Type 0} (f : ℕ → A) (x : A) (k i : ℕ) → i < k → f i ≡ x → ((j : ℕ) → j < k → f j ≡ x → j ≡ i) → Counted (λ y. y ≡ x) (list_of f k) 1
unfolding list_of
listed_once f x zero i h e one = absurd (omega arith)
listed_once f x (suc k) i h e one = ⊎_elim
    (λ (b : i < k). counted_append (listed_once f x k i b e (λ j l. one j (omega arith))) (holds_not (λ q. let s = one k (omega arith) q in absurd (omega arith)) nothing))
    (λ (b : i ≡ k). counted_append (counted_none (each_listed f k (λ j l q. let s = one j (omega arith) q in absurd (omega arith)))) (holds (rw (← b) e) nothing))
    (below_or_last i k (omega arith))

-- ---- leads

blank_lead : (w : ℕ) → census_lead w 0 ≡ bot
unfolding census_lead
blank_lead w = refl

only_blank : (w j : ℕ) → census_lead w j ≡ bot → j ≡ 0
unfolding census_lead
only_blank w zero e = refl
only_blank w (suc j) e = absurd (bot_not_fin (sym e))

-- The number of a whole lead.
place_of : ℕ → ℤ → ℕ
place_of w z = suc (up z + w - down z)

whole_lead : (w : ℕ) (z : ℤ) → nat_abs z ≤ w → census_lead w (place_of w z) ≡ fin z
unfolding census_lead place_of
whole_lead w z h = ap fin (omega (whole, subℕ_read (up z + w - down z) w, abs_read z))

only_whole : (w : ℕ) (z : ℤ) (j : ℕ) → nat_abs z ≤ w → census_lead w j ≡ fin z → j ≡ place_of w z
unfolding census_lead place_of
only_whole w z zero h e = absurd (bot_not_fin e)
only_whole w z (suc j) h e = omega (whole, subℕ_read j w, abs_read z, eq_read (fin_injective e))

-- A lead that is blank or within w stands once among those of the census.
lead_once : (w : ℕ) (x : Trop) → blank_or_within w x ≡ true → Counted (λ y. y ≡ x) (census_leads w) 1
unfolding census_leads place_of
lead_once w bot t = listed_once (census_lead w) bot (leads_up_to w) 0 (omega arith) (blank_lead w) (λ j b e. only_blank w j e)
lead_once w (fin z) t =
    let size = within_size w {x = fin z} t refl in
    listed_once (census_lead w) (fin z) (leads_up_to w) (place_of w z) (omega (arith, size, abs_read z)) (whole_lead w z size) (λ j b e. only_whole w z j size e)

-- ---- lists of leads

-- With one element in front.
cons_same : {A : Type 0} {x y : A} {l k : List A} → l ≡ k → (y ≡ x) ↔ (◌≡◌ {A = List A} (y ∷ l) (x ∷ k))
cons_same e = (λ f. ap₂ ◌∷◌ f e, λ f. cc)

fronted_once : {A : Type 0} {x : A} {xs : List A} {l : List A} {ls : List (List A)} {j : ℕ} → Counted (λ y. y ≡ x) xs 1 → Counted (λ k. k ≡ l) ls j → Counted (λ k. k ≡ x ∷ l) (fronted xs ls) j
unfolding fronted
fronted_once c nothing = nothing
fronted_once {xs = xs} c (holds {x = k} {k = j} e d) =
    let one : 1 + j ≡ suc j = omega arith in
    subst (Counted _ _) one (counted_append {j = 1} {k = j} (counted_map (λ y. y ∷ k) (each_all (λ y. cons_same e) xs) c) (fronted_once c d))
fronted_once {xs = xs} {j = j} c (holds_not {x = k} e d) =
    subst (Counted _ _) (zero-add j) (counted_append {j = 0} {k = j} (counted_none (each_map {P = λ _. Unit {0}} (λ y. y ∷ k) (λ y u f. e cc) (each_all (λ _. tt) xs))) (fronted_once c d))

lists_once : (w : ℕ) (l : List Trop) → all (blank_or_within w) l ≡ true → Counted (λ k. k ≡ l) (lists (census_leads w) (length l)) 1
unfolding lists all
lists_once w [] t = holds refl nothing
lists_once w (x ∷ l) t =
    let both = (and-eq-true_iff (blank_or_within w x) (all (blank_or_within w) l)).0 t in
    fronted_once (lead_once w x both.0) (lists_once w l both.1)

-- What holds of each list.
fronted_each : {A : Type 0} {P : A → Type 0} {Q R : List A → Type 0} {xs : List A} {ls : List (List A)} → ((x : A) (l : List A) → P x → Q l → R (x ∷ l)) → Each P xs → Each Q ls → Each R (fronted xs ls)
unfolding fronted
fronted_each h e no_more = no_more
fronted_each h e (one_more {x = l} q f) = each_append (each_map (λ x. x ∷ l) (λ x p. h x l p q) e) (fronted_each h e f)

record Fit (w k : ℕ) (l : List Trop) : Type 0 where
  many : length l ≡ k
  within : all (blank_or_within w) l ≡ true

lists_fit : (w k : ℕ) → Each (Fit w k) (lists (census_leads w) k)
unfolding lists all census_leads
lists_fit w zero = one_more (record { many = refl; within = refl }) no_more
lists_fit w (suc k) =
    fronted_each
    (λ x l p q. record { many = ap suc q.many; within = (and-eq-true_iff (blank_or_within w x) (all (blank_or_within w) l)).1 (p, q.within) })
    (each_listed (census_lead w) (leads_up_to w) (λ i b. lead_small w i b))
    (lists_fit w k)

-- ---- records

-- A record of the census is that of its leads.
record_back : {n m w : ℕ} {s : List ℕ} → Small n m w s → leads_record n m (leads_of s) ≡ s
unfolding leads_record header_bytes
record_back {n} {m} {w} {s} f =
    let long : problem_size n m - length_bytes ≡ length_field s = omega (arith, f.length_is, f.size_is) in
    let leads : map field_of (leads_of s) ≡ nums_at signed_bytes (lead_count n m) s problem_header =
    ap (map field_of) (rw (f.n_is, f.m_is) at (leads_one s f.kind_is)) ∙ fields_back _ (nums_at_below signed_bytes (lead_count n m) problem_header f.bytes) in
    let none : drop (problem_header + signed_bytes * lead_count n m) s ≡ [] = drop_of_length-le s {i = problem_header + signed_bytes * lead_count n m} (omega (arith, f.size_is)) in
    let ends : fields signed_bytes (nums_at signed_bytes (lead_count n m) s problem_header) ≡ drop problem_header s =
    rw (none, append-nil) at (fields_then f.bytes signed_bytes (lead_count n m) problem_header (omega (arith, f.size_is))) in
    let front : ((le length_bytes (length_field s) ++ le short_bytes (kind_field s)) ++ (le short_bytes (n_field s) ++ le short_bytes (m_field s))) ++ drop problem_header s ≡ s =
    simp append_assoc (rw (le_then f.bytes 2 8 (omega (arith, f.size_is)), le_then f.bytes 2 6 (omega (arith, f.size_is)), le_then f.bytes 2 4 (omega (arith, f.size_is))) (le_then f.bytes 4 0 (omega (arith, f.size_is)))) in
    let same : ((le length_bytes (problem_size n m - length_bytes) ++ le short_bytes problem_kind) ++ (le short_bytes n ++ le short_bytes m)) ++ fields signed_bytes (map field_of (leads_of s))
    ≡ ((le length_bytes (length_field s) ++ le short_bytes (kind_field s)) ++ (le short_bytes (n_field s) ++ le short_bytes (m_field s))) ++ drop problem_header s =
    rw (leads, ends, ← long, f.kind_is, f.n_is, f.m_is) refl in
    same ∙ front

module _ (n m w : ℕ) (n_most : n ≤ highest_n) (m_most : m ≤ highest_m) (w_most : w ≤ lead_limit) where
  problems_small : Each (Small n m w) (problems n m w)
  unfolding problems
  problems_small = each_map (leads_record n m) (λ l q. record_small n m w l n_most m_most w_most q.many q.within) (lists_fit w (lead_count n m))

  leads_many : {s : List ℕ} → Small n m w s → length (leads_of s) ≡ lead_count n m
  leads_many {s} f = ap length (leads_one s f.kind_is) ∙ rw (length-map, length_nums_at, f.n_is, f.m_is) refl

  pub problem_once : (s : List ℕ) → Small n m w s → Counted (λ t. t ≡ s) (problems n m w) 1
  unfolding problems
  problem_once s f =
      let c : Counted (λ l. l ≡ leads_of s) (lists (census_leads w) (lead_count n m)) 1 = rw (leads_many f) at (lists_once w (leads_of s) f.leads) in
      counted_map (leads_record n m) (each_same (λ l q. (
        λ e. ap (leads_record n m) e ∙ record_back f,
        λ e. sym (leads_back n m w l n_most m_most w_most q.many q.within) ∙ ap leads_of e,
      )) (lists_fit w (lead_count n m))) c

  pub each_once : EachOnce n m w
  each_once =
      record {
        once = problem_once;
        no_other = λ s no. counted_none (each_same (λ t f e. no (subst (Small n m w) e f)) problems_small);
        total = problems_length n m w;
      }

-- ---- one census

pub one_census : (n m w : ℕ) (r q : Census) → Censuses n m w r → Censuses n m w q → r ≡ q
one_census n m w r q (turned_away {k = j} e) (turned_away {k = k} f) = ap refused (sym e ∙ f)
one_census n m w r q (turned_away e) (counts f d) = absurd (let z = sym e ∙ f in omega arith)
one_census n m w r q (counts e c) (turned_away f) = absurd (let z = sym e ∙ f in omega arith)
one_census n m w r q (counts e c) (counts f d) =
    let a = counted_unique c.least_is d.least_is in
    let b = counted_unique c.bottomless_is d.bottomless_is in
    let g = counted_unique c.none_is d.none_is in
    let h = counted_unique c.silent_is d.silent_is in
    cc

-- Request 2.14 on the definitions.
pub census_holds : CensusHolds
census_holds = record { one_census = one_census; each_once = each_once }
