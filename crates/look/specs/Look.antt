-- What a look finds: caps, the greatest point under them, and how its second side decides every trial.
use Rattle.std.specs.Prelude.{ℕ, ◌+◌, ◌*◌, ◌-◌, ◌≤◌, ◌<◌, ◌≡◌, cond, ◌⊎◌, List, eqb, length, get_or, replicate}
use Rattle.base.specs.Filled.{Filled}
use Rattle.definitions.specs.Limits.{signed_half, signed_full, stride}
use Rattle.definitions.specs.Tropical.{Trop, bot}
use Rattle.definitions.specs.Problem.{Problem, Point, Attainable}
use Rattle.definitions.specs.Certificate.{start_of}
use Rattle.definitions.specs.Offset.{trop_of}
use Rattle.duality.specs.System.{System, side_of, Solves, Blocks, system_at}
use Rattle.duality.specs.Values.{values, Policy}
use Rattle.duality.specs.Iteration.{Iterated}
use Rattle.policy_iteration.specs.Tables.{entry_of, system_of, pick_of, low_half, cap_limit}
use Rattle.search.specs.Trials.{whole_of, Trialled, PossibleBy}
use Rattle.look.specs.declared.greatest.Look.{Look}
use Rattle.look.specs.Frames.{Held}

-- ---- caps

-- Every cap is 0.
abbrev pub level : List ℕ
level = replicate stride low_half

-- The cap of a variable with this coefficient in the first list, as a low number: its opposite, or far where it is blank.
unfoldable pub cap_for : ℕ → ℕ
cap_for k = cond (eqb k 0) (low_half + cap_limit) (low_half + signed_half - k)

-- The caps that a row of the left table sets.
abbrev pub CapsFor : List ℕ → ℕ → ℕ → List ℕ → Type 0
CapsFor left row n out = Filled (λ j v. v ≡ cap_for (get_or left (row * stride + j) 0)) stride n out

-- ---- the greatest point under caps

-- The inequalities in the tables, with these caps.
abbrev pub rules_in : ℕ → ℕ → List ℕ → List ℕ → List ℕ → System
rules_in n m left right caps = system_of left right caps (n + 1) m

-- The second side at a point.
abbrev pub second_in : ℕ → ℕ → List ℕ → List ℕ → List ℕ → Point → Trop
second_in n m left right caps x = side_of (rules_in n m left right caps) (entry_of right m) x

-- The start from which what is not possible is blocked: the second list, 1; where the anchor is of it, the anchor alone, 0.
unfoldable pub start_for : List ℕ → ℕ → ℕ → ℕ
start_for right row second = cond (eqb second 0) 1 (cond (eqb (get_or right (row * stride) 0) 0) 1 0)

-- The greatest point under caps, as the values of the strategy that the iteration ends with: a pick is an inequality, or m for none. Where
-- the second side is not blank, and variable 0 has a value, the point solves the inequalities; else the second side is told as blank, 0.
module _ (n m : ℕ) (left right caps : List ℕ) (g : Look) where
  abbrev pub found_values : Point
  found_values = values (rules_in n m left right caps) (pick_of g.picks)

  pub record Under : Type 0 where
    pub size : length g.picks ≡ stride
    pub picked : (j : ℕ) → j < stride → pick_of g.picks j ≤ m
    pub policy : Policy (rules_in n m left right caps) (pick_of g.picks)
    pub iterated : Iterated (rules_in n m left right caps) (pick_of g.picks)
    pub second_most : g.second < signed_full
    pub whole_start : 0 < g.second → g.start ≡ start_for right m g.second
    pub whole_anchor : 0 < g.second → found_values 0 ≡ bot → ⊥
    pub whole_second : 0 < g.second → trop_of g.second ≡ second_in n m left right caps found_values
    pub whole_solves : 0 < g.second → Solves (rules_in n m left right caps) found_values
    pub blank : g.second ≡ 0
        → ((g.start ≡ 0) × (found_values 0 ≡ bot))
        ⊎ ((g.start ≡ 1) × (second_in n m left right caps found_values ≡ bot) × (found_values 0 ≡ bot → ⊥))

-- ---- every trial, decided

-- A trial that the second side shows possible is; where it does not, the strategy blocks from the start.
pub record Decided (p : Problem) (start second : ℕ) (picks : List ℕ) : Type 0 where
  pub possible : (t : ℕ) → Trialled t → PossibleBy second t → Attainable p (whole_of t)
  pub impossible : (t : ℕ) → Trialled t → (PossibleBy second t → ⊥) → Blocks (system_at p (whole_of t)) (start_of p start) (pick_of picks)

-- The look at two tables, which is one: under level caps, where these tell that no span is possible; else under the caps of the first list.
pub data Looks (n m : ℕ) (left right : List ℕ) (l : Look) : Type 0 where
  none : Under n m left right level l → l.second ≡ 0 → Looks n m left right l
  some : {free : Look} {caps : List ℕ} → Under n m left right level free → (free.second ≡ 0 → ⊥) → CapsFor left m stride caps → Under n m left right caps l
      → Looks n m left right l

-- What a look at the problem in two tables finds.
pub record Looked (n m : ℕ) (left right : List ℕ) (l : Look) : Type 0 where
  pub picks_size : length l.picks ≡ stride
  pub picks_most : (j : ℕ) → j < stride → pick_of l.picks j ≤ m
  pub start_most : l.start ≤ 1
  pub second_most : l.second < signed_full
  pub looks : Looks n m left right l
  pub decided : (p : Problem) → Held p n m left right → Decided p l.start l.second l.picks
