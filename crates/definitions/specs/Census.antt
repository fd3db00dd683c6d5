-- A census of small problems: how often each class occurs. Document 02, 2.14. "For given n, m and w, all kind 1 problems whose leads are
-- blank or −w to w are counted by class, with those under refusal 17 as a fourth count."
use Rattle.std.specs.Prelude.{ℕ, zero, suc, ◌+◌, ◌-◌, ◌*◌, ◌^◌, ◌≤◌, ◌≡◌, Bool, true, false, ◌&&◌, List, [], ◌∷◌, ◌++◌, map, eqb, ltb, leb, length, ℤ}
use Rattle.std.proofs.Math.IntN.{sub_ℕ}
use Rattle.definitions.specs.Limits.{highest_n, highest_m, lead_limit, length_bytes, signed_bytes, problem_kind, class_optimal, class_unbounded, class_infeasible, refused_silent, census_most, refused_census}
use Rattle.definitions.specs.Tropical.{Trop, bot, fin}
use Rattle.definitions.specs.Problem.{Optimal, Unbounded, Infeasible}
use Rattle.definitions.specs.Bytes.{Bytes, fields, field_of, all, blank_or_within, first}
use Rattle.definitions.specs.Programs.{decimal, newline, refused_line}
use Rattle.definitions.specs.ProblemRecord.{problem_size, header_bytes, problem_refusal, WithinLayout, problem_of, length_field, kind_field, n_field, m_field, leads_of, list_of, above_limits}

-- ---- counting

-- The number of elements of a list of which P holds: 0 in an empty list; an element of which it holds counts one, another none.
pub data Counted {A : Type 0} (P : A → Type 0) : List A → ℕ → Type 0 where
  nothing : Counted P [] 0
  holds : {x : A} {xs : List A} {k : ℕ} → P x → Counted P xs k → Counted P (x ∷ xs) (suc k)
  holds_not : {x : A} {xs : List A} {k : ℕ} → (P x → ⊥) → Counted P xs k → Counted P (x ∷ xs) k

-- ---- all problems of a census

-- The leads: blank, then −w to w. There are 2w + 2.
unfoldable pub census_lead : ℕ → ℕ → Trop
census_lead w zero = bot
census_lead w (suc k) = fin (sub_ℕ k w)

abbrev pub leads_up_to : ℕ → ℕ
leads_up_to w = 2 * w + 2

unfoldable pub census_leads : ℕ → List Trop
census_leads w = list_of (census_lead w) (leads_up_to w)

-- Each of some lists with each of some elements put in front of it.
unfoldable pub fronted : {A : Type 0} → List A → List (List A) → List (List A)
fronted xs [] = []
fronted xs (l ∷ ls) = map (λ x. x ∷ l) xs ++ fronted xs ls

-- All lists of k elements.
unfoldable pub lists : {A : Type 0} → List A → ℕ → List (List A)
lists xs zero = [] ∷ []
lists xs (suc k) = fronted xs (lists xs k)

-- The leads that a problem has: n + 1 left and n + 1 right for each rule and the question.
abbrev pub lead_count : ℕ → ℕ → ℕ
lead_count n m = 2 * (suc n * suc m)

-- The record of kind 1 with these leads.
unfoldable pub leads_record : ℕ → ℕ → List Trop → List ℕ
leads_record n m leads = header_bytes n m ++ fields signed_bytes (map field_of leads)

-- All problems, as records.
unfoldable pub problems : ℕ → ℕ → ℕ → List (List ℕ)
problems n m w = map (leads_record n m) (lists (census_leads w) (lead_count n m))

-- How many there are: (2w + 2) to the power 2 × (n + 1) × (m + 1).
abbrev pub census_total : ℕ → ℕ → ℕ → ℕ
census_total n m w = leads_up_to w ^ lead_count n m

-- ---- how each is counted

-- By its class, 1 least, 2 bottomless, 3 none, where nothing refuses it; by 17 where it is under that refusal.
pub data CountsAs (s : List ℕ) : ℕ → Type 0 where
  least : {z : ℤ} → WithinLayout s → Optimal (problem_of s) z → CountsAs s class_optimal
  bottomless : WithinLayout s → Unbounded (problem_of s) → CountsAs s class_unbounded
  none : WithinLayout s → Infeasible (problem_of s) → CountsAs s class_infeasible
  silent : problem_refusal s ≡ refused_silent → CountsAs s refused_silent

-- "Each count equals the number by definition; the four add up to" the total.
pub record FourCounts (n m w of_least of-bottomless of_none of-silent : ℕ) : Type 0 where
  pub least_is : Counted (λ s. CountsAs s class_optimal) (problems n m w) of_least
  pub bottomless_is : Counted (λ s. CountsAs s class_unbounded) (problems n m w) of-bottomless
  pub none_is : Counted (λ s. CountsAs s class_infeasible) (problems n m w) of_none
  pub silent_is : Counted (λ s. CountsAs s refused_silent) (problems n m w) of-silent
  pub sum_is : of_least + of-bottomless + of_none + of-silent ≡ census_total n m w

-- ---- what is answered

-- Refusal 27: "w is 0 or above 20,160, n or m is beyond its limit, or the total is above 65,536"; 0 where it does not apply.
unfoldable pub census_refusal : ℕ → ℕ → ℕ → ℕ
census_refusal n m w =
    first
    (record { applies = eqb w 0; number = refused_census }
    ∷ record { applies = ltb lead_limit w; number = refused_census }
    ∷ record { applies = above_limits n m; number = refused_census }
    ∷ record { applies = ltb census_most (census_total n m w); number = refused_census }
    ∷ [])

-- The four counts, or the number of the refusal.
pub data Census : Type 0 where
  refused : ℕ → Census
  counted : ℕ → ℕ → ℕ → ℕ → Census

pub data Censuses (n m w : ℕ) : Census → Type 0 where
  turned_away : {k : ℕ} → census_refusal n m w ≡ suc k → Censuses n m w (refused (suc k))
  counts : {a b c d : ℕ} → census_refusal n m w ≡ 0 → FourCounts n m w a b c d → Censuses n m w (counted a b c d)

-- ---- what the program puts out

-- Numbers in decimal with a space between two, as a line.
unfoldable pub numbers_line : List ℕ → List ℕ
numbers_line [] = newline
numbers_line (x ∷ []) = decimal x ++ newline
numbers_line (x ∷ y ∷ ys) = decimal x ++ (32 ∷ numbers_line (y ∷ ys))

-- The line of a census: the counts of least, bottomless, none and refused, or `refused 27`.
unfoldable pub census_line : Census → List ℕ
census_line (refused k) = refused_line k
census_line (counted a b c d) = numbers_line (a ∷ b ∷ c ∷ d ∷ [])

-- Its line in the handbook's table: n, m and w before the counts; where the census is refused there is none.
unfoldable pub table_line : ℕ → ℕ → ℕ → Census → List ℕ
table_line n m w (refused k) = []
table_line n m w (counted a b c d) = numbers_line (n ∷ m ∷ w ∷ a ∷ b ∷ c ∷ d ∷ [])

-- A word that is a number: one digit or more; and the number, with `before` for the digits before these.
unfoldable pub is_digit : ℕ → Bool
is_digit d = leb 48 d && leb d 57

unfoldable pub is_number : List ℕ → Bool
is_number [] = false
is_number (d ∷ ds) = all is_digit (d ∷ ds)

unfoldable pub number_from : ℕ → List ℕ → ℕ
number_from before [] = before
number_from before (d ∷ ds) = number_from (10 * before + (d - 48)) ds

abbrev pub number_of : List ℕ → ℕ
number_of word = number_from 0 word

-- What the program puts out for n, m and w: the line of the census; and in the handbook's table.
pub record CensusOutput (n m w : ℕ) (output : List ℕ) : Type 0 where
  pub census : Census
  pub is : Censuses n m w census
  pub line : output ≡ census_line census

pub record TableOutput (n m w : ℕ) (output : List ℕ) : Type 0 where
  pub census : Census
  pub is : Censuses n m w census
  pub line : output ≡ table_line n m w census

-- ---- what is promised

-- A problem that belongs to a census: a record of kind 1 with this n and m, whose leads are blank or −w to w.
pub record Small (n m w : ℕ) (s : List ℕ) : Type 0 where
  pub bytes : Bytes s
  pub length_is : length_field s + length_bytes ≡ length s
  pub kind_is : kind_field s ≡ problem_kind
  pub n_is : n_field s ≡ n
  pub m_is : m_field s ≡ m
  pub size_is : length s ≡ problem_size n m
  pub leads : all (blank_or_within w) (leads_of s) ≡ true

-- Each of them stands exactly once among all problems of the census, and nothing else does.
pub record EachOnce (n m w : ℕ) : Type 0 where
  pub once : (s : List ℕ) → Small n m w s → Counted (λ t. t ≡ s) (problems n m w) 1
  pub no_other : (s : List ℕ) → (Small n m w s → ⊥) → Counted (λ t. t ≡ s) (problems n m w) 0
  pub total : length (problems n m w) ≡ census_total n m w

-- A number by definition is one number.
abbrev pub OneNumber : Type 1
OneNumber = (A : Type 0) (P : A → Type 0) (xs : List A) (j k : ℕ) → Counted P xs j → Counted P xs k → j ≡ k

-- Request 2.14: there are no two censuses (that there is one is the contract of `counting::census::take_census`), and it is about each problem
-- once.
pub record CensusHolds : Type 0 where
  pub one_census : (n m w : ℕ) (r q : Census) → Censuses n m w r → Censuses n m w q → r ≡ q
  pub each_once : (n m w : ℕ) → n ≤ highest_n → m ≤ highest_m → w ≤ lead_limit → EachOnce n m w
