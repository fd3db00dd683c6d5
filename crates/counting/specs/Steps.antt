-- What the steps of a census ask and leave, and its answer in the words of the definitions.
use Rattle.std.specs.Prelude.{ℕ, zero, suc, ◌+◌, ◌*◌, ◌/◌, ◌%◌, ◌≤◌, ◌<◌, ◌≡◌, cond, List, [], ◌∷◌, eqb, length, take, Option, Some, None, Result, Ok, Err}
use Rattle.definitions.specs.Limits.{highest_n, highest_m, lead_limit, problem_header, signed_bytes, problem_kind, class_optimal, class_unbounded, class_infeasible, refused_silent, census_most}
use Rattle.definitions.specs.Tropical.{Trop}
use Rattle.definitions.specs.Bytes.{Outcome}
use Rattle.definitions.specs.ProblemRecord.{problem_refusal, silent_refused, kind_field, header_bytes, list_of}
use Rattle.definitions.specs.Census as Papers
use Rattle.definitions.specs.Census.{Counted, CountsAs, census_lead, leads_up_to, leads_record, lead_count, census_total}
use Rattle.records.specs.declared.class.Class.{Class}
use Rattle.records.specs.declared.refusal.Refusal.{Refusal}
use Rattle.records.specs.Classes.{class_number}
use Rattle.records.specs.Refusals.{number_of, outcome_by}
use Rattle.counting.specs.declared.tally.Tally.{Tally}

-- The papers' result for each case: the number of the refusal, or the four counts.
abbrev pub census_of : Result Tally Refusal → Papers.Census
census_of (Err r) = Papers.refused (number_of r)
census_of (Ok t) = Papers.counted t.least t.bottomless t.none t.silent

abbrev pub total_of : Result ℕ Refusal → Outcome ℕ
total_of r = outcome_by (λ total. total) r

-- The number by which a problem is counted: that of its class, or 17.
abbrev pub counts_as : Option Class → ℕ
counts_as (Some class) = class_number class
counts_as None = refused_silent

-- The most leads of a problem of a census: already of four leads each, blank and −1 to 1, eight make 65,536.
abbrev pub few_leads : ℕ
few_leads = 8

-- The largest record of a census, 42 bytes.
abbrev pub small_most : ℕ
small_most = problem_header + signed_bytes * few_leads

-- Refusal 27 does not apply.
pub record CensusFits (n m w : ℕ) : Type 0 where
  pub some : (w ≡ 0 → ⊥)
  pub w_most : w ≤ lead_limit
  pub n_most : n ≤ highest_n
  pub m_most : m ≤ highest_m
  pub total_most : census_total n m w ≤ census_most

-- The leads of problem number c: its digits to the base 2w + 2, the lowest first.
unfoldable pub leads_at : ℕ → ℕ → ℕ → List Trop
leads_at w zero c = []
leads_at w (suc k) c = census_lead w (c % leads_up_to w) ∷ leads_at w k (c / leads_up_to w)

-- Its record.
abbrev pub record_at : ℕ → ℕ → ℕ → ℕ → List ℕ
record_at n m w c = leads_record n m (leads_at w (lead_count n m) c)

-- A record of kind 1 to which no refusal applies but, perhaps, 17.
pub record Posed (s : List ℕ) : Type 0 where
  pub some : 0 < length s
  pub kind_is : kind_field s ≡ problem_kind
  pub refusal_is : problem_refusal s ≡ cond (silent_refused s) refused_silent 0

-- 1 where two numbers are the same.
abbrev pub hit : ℕ → ℕ → ℕ
hit r class = cond (eqb r class) 1 0

-- A tally with one problem more, which counts as r: its class, or 17.
pub record OneMore (t : Tally) (r : ℕ) (after : Tally) : Type 0 where
  pub least_is : after.least ≡ t.least + hit r class_optimal
  pub bottomless_is : after.bottomless ≡ t.bottomless + hit r class_unbounded
  pub none_is : after.none ≡ t.none + hit r class_infeasible
  pub silent_is : after.silent ≡ t.silent + hit r refused_silent

-- The tally of the first c problems.
pub record Tallied (n m w c : ℕ) (t : Tally) : Type 0 where
  pub least_is : Counted (λ s. CountsAs s class_optimal) (list_of (record_at n m w) c) t.least
  pub bottomless_is : Counted (λ s. CountsAs s class_unbounded) (list_of (record_at n m w) c) t.bottomless
  pub none_is : Counted (λ s. CountsAs s class_infeasible) (list_of (record_at n m w) c) t.none
  pub silent_is : Counted (λ s. CountsAs s refused_silent) (list_of (record_at n m w) c) t.silent
  pub sum_is : t.least + t.bottomless + t.none + t.silent ≡ c

-- A buffer with the header of these problems.
pub record Headed (n m : ℕ) (buffer : List ℕ) : Type 0 where
  pub size_is : length buffer ≡ small_most
  pub header_is : take problem_header buffer ≡ header_bytes n m
