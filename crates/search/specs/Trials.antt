-- Document 01's trials by what a look found. The look gives one offset number, its second side: 0 for blank, S + 2³¹ else. A span t is
-- possible exactly when the side is not blank and −t ≤ S; in offset numbers that is one comparison.
use Rattle.std.specs.Prelude.{ℕ, ◌+◌, ◌-◌, ◌/◌, ◌≤◌, ◌<◌, ◌≡◌, ℤ}
use Rattle.std.proofs.Math.IntN.{sub_ℕ}
use Rattle.definitions.specs.Limits.{signed_half, span_limit, class_optimal, class_unbounded, class_infeasible}
use Rattle.definitions.specs.Bisection.{Bracket, Brackets, halved, trials_infeasible, trials_unbounded, trials_optimal}

-- The whole number that an offset number above 0 stands for.
abbrev pub whole_of : ℕ → ℤ
whole_of k = sub_ℕ k signed_half

-- The offset numbers of 0 and of the two outer trials, 1,290,240 and −1,290,241.
abbrev pub zero_offset : ℕ
zero_offset = signed_half

abbrev pub top_offset : ℕ
top_offset = signed_half + span_limit

abbrev pub lowest_offset : ℕ
lowest_offset = signed_half - (span_limit + 1)

-- The offset numbers of the trials: from −1,290,241 to 1,290,240.
pub record Trialled (t : ℕ) : Type 0 where
  pub lowest : signed_half ≤ t + (span_limit + 1)
  pub highest : t ≤ signed_half + span_limit

-- A span of at most t is possible, by what a look found: −t is at most the second side. A blank side, 0, makes no t
-- below 2³² possible.
abbrev pub PossibleBy : ℕ → ℕ → Type 0
PossibleBy second t = signed_half + signed_half ≤ t + second

-- ---- the bracket

-- A bracket of offset numbers as one of whole numbers.
abbrev pub bracket_of : ℕ → ℕ → Bracket
bracket_of low high = record { low = whole_of low; high = whole_of high }

-- The middle of a bracket of offset numbers.
pub record Between (low high r : ℕ) : Type 0 where
  pub is : r ≡ (low + high + 1) / 2

-- The trials counted, and those to come for a least span in the bracket, are the trials of the bisection.
pub record Counted (low high trials : ℕ) : Type 0 where
  pub count : (s : ℤ) → Brackets (bracket_of low high) s → trials_optimal s ≡ trials + (halved (bracket_of low high) s).halvings

-- The bracket after so many trials: low is not possible, high is.
pub record Halving (second low high trials : ℕ) : Type 0 where
  pub lowest : lowest_offset ≤ low
  pub highest : high ≤ top_offset
  pub impossible : PossibleBy second low → ⊥
  pub possible : PossibleBy second high
  pub counted : Counted low high trials

-- ---- what the trials find

-- The least possible span: it is possible, and one below it is not.
pub record LeastBy (second span : ℕ) : Type 0 where
  pub possible : PossibleBy second span
  pub impossible : PossibleBy second (span - 1) → ⊥
  pub lowest : lowest_offset < span
  pub highest : span ≤ top_offset

-- Class, span and trials: none where the top is not possible, bottomless where the lowest is, else the least span. The trials are
-- document 01's for that class and span.
pub data FoundBy (second : ℕ) : ℕ → ℕ → ℕ → Type 0 where
  none : (PossibleBy second top_offset → ⊥) → FoundBy second class_infeasible 0 trials_infeasible
  bottomless : PossibleBy second lowest_offset → FoundBy second class_unbounded 0 trials_unbounded
  least : {span : ℕ} → LeastBy second span → FoundBy second class_optimal span (trials_optimal (whole_of span))
