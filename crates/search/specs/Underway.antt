-- A search under way, one trial at a time: what holds before each trial, and what a trial leaves.
use Rattle.std.specs.Prelude.{ℕ, ◌+◌, ◌≤◌, ◌<◌, ◌≡◌, Bool, cond, eqb, Option, Some, None}
use Rattle.base.specs.Decides.{Decides}
use Rattle.definitions.specs.Limits.{class_optimal, class_unbounded, class_infeasible}
use Rattle.definitions.specs.Bisection.{middle, next}
use Rattle.records.specs.declared.class.Class.{Class}
use Rattle.records.specs.declared.class.Class.TheVariants.{Optimal, Unbounded, Infeasible}
use Rattle.records.specs.Classes.{class_number}
use Rattle.search.specs.declared.search.Found.{Found}
use Rattle.search.specs.declared.steps.Search.{Search}
use Rattle.search.specs.declared.steps.Told.{Told}
use Rattle.search.specs.Trials.{whole_of, top_offset, lowest_offset, PossibleBy, bracket_of, Halving, FoundBy}

-- The word of a search that is open.
abbrev pub class_open : ℕ
class_open = 0

-- The word that keeps a search's class: its number, 0 while the search is open.
abbrev pub class_word : Option Class → ℕ
class_word None = class_open
class_word (Some c) = class_number c

-- The class that a word keeps.
abbrev pub class_from : ℕ → Option Class
class_from w =
    cond (eqb w class_optimal) (Some Optimal)
    (cond (eqb w class_unbounded) (Some Unbounded)
    (cond (eqb w class_infeasible) (Some Infeasible) None))

-- No trial is made, and the bracket is the two outer trials.
abbrev pub at_start : Search
at_start = record { made = 0; bracket = record { low = lowest_offset; high = top_offset }; class = None }

-- Before each trial. The first two leave the bracket as it is; before the second the top is possible; before each further one low is
-- not possible, high is, and something lies between them.
pub record Underway (second : ℕ) (s : Search) : Type 0 where
  pub class_is : s.class ≡ None
  pub outer : s.made < 2 → (s.bracket.low ≡ lowest_offset) × (s.bracket.high ≡ top_offset)
  pub top_possible : s.made ≡ 1 → PossibleBy second top_offset
  pub halving : 2 ≤ s.made → Halving second s.bracket.low s.bracket.high s.made
  pub wide : 2 ≤ s.made → s.bracket.low + 1 < s.bracket.high

-- Document 01's next trial: the top, the lowest, then the middle.
pub record NextIs (s : Search) (t : ℕ) : Type 0 where
  pub top : s.made ≡ 0 → t ≡ top_offset
  pub lowest : s.made ≡ 1 → t ≡ lowest_offset
  pub halfway : 2 ≤ s.made → whole_of t ≡ middle (bracket_of s.bracket.low s.bracket.high)

abbrev span_for : Option Class → ℕ → ℕ
span_for (Some Optimal) high = high
span_for (Some Unbounded) high = 0
span_for (Some Infeasible) high = 0
span_for None high = 0

-- The span of a search: its high where it closed as least, else 0.
abbrev pub span_of : Search → ℕ
span_of s = span_for s.class s.bracket.high

-- What a search tells: its class, none while it is open, its span and its trials.
abbrev pub found_of : Search → Told
found_of s = record { class = s.class; span = span_of s; trials = s.made }

-- What was found: nothing while the search is open.
abbrev found_for : Option Class → ℕ → ℕ → Option Found
found_for None span trials = None
found_for (Some c) span trials = Some (record { class = c; span = span; trials = trials })

abbrev pub closed_of : Told → Option Found
closed_of r = found_for r.class r.span r.trials

-- The trial that was made: at document 01's next t, with this outcome. It is counted; the first two leave the bracket as it is, each
-- further one leaves document 01's next bracket.
pub record TrialMade (second : ℕ) (s r : Search) : Type 0 where
  pub t : ℕ
  pub possible : Bool
  pub next_is : NextIs s t
  pub decided : Decides (PossibleBy second t) possible
  pub counted : r.made ≡ s.made + 1
  pub outer : s.made < 2 → r.bracket ≡ s.bracket
  pub halved : 2 ≤ s.made → bracket_of r.bracket.low r.bracket.high ≡ next (bracket_of s.bracket.low s.bracket.high) possible

-- What one trial leaves: a search that is open still, or one that is closed by what the trials find.
pub record Tried (second : ℕ) (s r : Search) : Type 0 where
  pub trial : TrialMade second s r
  pub goes_on : r.class ≡ None → Underway second r
  pub ends : (c : Class) → r.class ≡ Some c → FoundBy second (class_number c) (span_of r) r.made
