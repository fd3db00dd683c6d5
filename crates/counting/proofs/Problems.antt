-- All problems of a census stand in the order of their numbers.
use Prim.Native.Nat.{ℕ, zero, suc, ◌+◌, ◌*◌, ◌^◌, ◌/◌, ◌%◌, ◌<◌}
use mathlib.Core.Path.{◌≡◌, refl, ap, ap₂, sym, ◌∙◌}
use mathlib.Core.List.{List, [], ◌∷◌, ◌++◌, map, append_assoc, append-nil, map-append}
use native.Mathlib.Omega.{arith}
use native.Mathlib.Nat.{pow-zero, pow-suc, add-zero, mul-add-mod_self_right, mul-add-div_right, mod-eq_of_lt, div-eq_of_lt}
use lib.ListN.{length}
use Rattle.definitions.specs.ProblemRecord.{list_of}
use Rattle.definitions.proofs.ProblemBack.{listed-length}
use Rattle.definitions.specs.Census.{fronted, lists, census_lead, census_leads, leads_up_to, leads_record, lead_count, problems, census_total}
use Rattle.counting.specs.Steps.{leads_at, record_at}

-- ---- functions as lists

map_listed : {A B : Type 0} (h : A → B) (f : ℕ → A) (k : ℕ) → map h (list_of f k) ≡ list_of (λ i. h (f i)) k
unfolding list_of
map_listed h f zero = refl
map_listed h f (suc k) = map-append h (list_of f k) (f k ∷ []) ∙ ap (λ l. l ++ (h (f k) ∷ [])) (map_listed h f k)

listed_same : {A : Type 0} (f g : ℕ → A) (k : ℕ) → ((i : ℕ) → i < k → f i ≡ g i) → list_of f k ≡ list_of g k
unfolding list_of
listed_same f g zero h = refl
listed_same f g (suc k) h = ap₂ (λ l x. l ++ (x ∷ [])) (listed_same f g k (λ i b. h i (omega arith))) (h k (omega arith))

-- The first j, then the k behind them.
listed_add : {A : Type 0} (f : ℕ → A) (j k : ℕ) → list_of f (j + k) ≡ list_of f j ++ list_of (λ i. f (j + i)) k
unfolding list_of
listed_add f j zero = rw add-zero (sym (append-nil (list_of f j)))
listed_add f j (suc k) =
    let e : j + suc k ≡ suc (j + k) = omega arith in
    rw e (ap (λ l. l ++ (f (j + k) ∷ [])) (listed_add f j k) ∙ append_assoc (list_of f j) (list_of (λ i. f (j + i)) k) (f (j + k) ∷ []))

-- ---- lists by numbers

fronted_append : {A : Type 0} (xs : List A) (ls ms : List (List A)) → fronted xs (ls ++ ms) ≡ fronted xs ls ++ fronted xs ms
unfolding fronted
fronted_append xs [] ms = refl
fronted_append xs (l ∷ ls) ms = ap (λ r. map (λ x. x ∷ l) xs ++ r) (fronted_append xs ls ms) ∙ sym (append_assoc (map (λ x. x ∷ l) xs) (fronted xs ls) (fronted xs ms))

-- Each of b elements in front of each of N lists: the element by the lowest digit, the list by the others.
fronted_listed : {A : Type 0} (f : ℕ → A) (b : ℕ) → 0 < b → (g : ℕ → List A) (N : ℕ) → fronted (list_of f b) (list_of g N) ≡ list_of (λ c. f (c % b) ∷ g (c / b)) (N * b)
unfolding fronted list_of
fronted_listed f b pos g zero = let e : 0 * b ≡ 0 = omega arith in rw e refl
fronted_listed f b pos g (suc N) =
    let e : suc N * b ≡ N * b + b = omega arith in
    let last : map (λ x. x ∷ g N) (list_of f b) ≡ list_of (λ r. f ((N * b + r) % b) ∷ g ((N * b + r) / b)) b =
    map_listed (λ x. x ∷ g N) f b
    ∙ listed_same (λ r. f r ∷ g N) (λ r. f ((N * b + r) % b) ∷ g ((N * b + r) / b)) b
    (λ r h.
    let low : (N * b + r) % b ≡ r = mul-add-mod_self_right N b r ∙ mod-eq_of_lt h in
    let high : (N * b + r) / b ≡ N = mul-add-div_right pos N r ∙ (rw (div-eq_of_lt h, add-zero) refl) in
    rw (low, high) refl) in
    rw e
    (fronted_append (list_of f b) (list_of g N) (g N ∷ [])
    ∙ ap₂ (λ l r. l ++ r) (fronted_listed f b pos g N) (append-nil (map (λ x. x ∷ g N) (list_of f b)) ∙ last)
    ∙ sym (listed_add (λ c. f (c % b) ∷ g (c / b)) (N * b) b))

-- All lists of k leads.
pub lists_listed : (w k : ℕ) → lists (census_leads w) k ≡ list_of (leads_at w k) (leads_up_to w ^ k)
unfolding lists census_leads leads_at list_of
lists_listed w zero = rw (pow-zero (leads_up_to w)) refl
lists_listed w (suc k) =
    rw (pow-suc (leads_up_to w) k)
    (ap (fronted (list_of (census_lead w) (leads_up_to w))) (lists_listed w k)
    ∙ fronted_listed (census_lead w) (leads_up_to w) (omega arith) (leads_at w k) (leads_up_to w ^ k))

-- All problems.
pub problems_listed : (n m w : ℕ) → problems n m w ≡ list_of (record_at n m w) (census_total n m w)
unfolding problems
problems_listed n m w =
    ap (map (leads_record n m)) (lists_listed w (lead_count n m)) ∙ map_listed (leads_record n m) (leads_at w (lead_count n m)) (census_total n m w)

pub problems_length : (n m w : ℕ) → length (problems n m w) ≡ census_total n m w
problems_length n m w = ap length (problems_listed n m w) ∙ listed-length (record_at n m w) (census_total n m w)
