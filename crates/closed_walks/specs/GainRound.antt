-- The rounds of the closed-walk test, in place: each marked variable in turn raises the values at the ends of its arcs,
-- unless it did so with the value that it has.
-- A value is what the heaviest walk found so far weighs that ends there. Values start at 0 and never fall, so they are plain
-- numbers; a variable whose value is above a limit raises no others, so that none wraps.
use Rattle.std.specs.Prelude.{◌≡◌, ℕ, suc, ◌+◌, ◌-◌, ◌*◌, ◌<◌, ◌≤◌, Bool, true, false, Option, Some, None, List, length, pos, slice_index}
use Rattle.base.specs.Numbers.{most}
use Rattle.definitions.specs.Limits.{signed_full, stride}
use Rattle.definitions.specs.Tropical.{Trop, fin, plus, ◌⊑◌}
use Rattle.duality.specs.Values.{value_at}
use Rattle.duality.specs.Sweeps.{turned, Swept, Fixed, Climbed}
use Rattle.reach.specs.Marks.{Marked}
use Rattle.closed_walks.specs.Gains.{arc_zero, arc_most, matrix, anywhere}

-- No walk of at most 32 arcs weighs more.
abbrev pub walk_limit : ℕ
walk_limit = stride * arc_most

-- The first `width` values are at most one arc above the limit: none was raised by a value that is above it.
abbrev pub Small : ℕ → List ℕ → Type 0
Small width values = (l : ℕ) → l < width → slice_index values l ≤ walk_limit + arc_most

-- The value at the end of an arc: the larger of what it was and the start's value with the arc's weight, this cut off at 0.
-- Where there is no arc it stays, as a start's value is below 2³¹.
abbrev pub end_value : ℕ → ℕ → ℕ → ℕ
end_value was by arc = most was (by + arc - arc_zero)

-- The first k places have their values by the arcs of a row, wherever none wraps; the others are as they were.
pub record Pushed (arcs : List ℕ) (base by k : ℕ) (old new : List ℕ) : Type 0 where
  pub same : length new ≡ length old
  pub cells :
      (l : ℕ) → l < k → slice_index old l < arc_zero → by + slice_index arcs (base + l) < signed_full
      → slice_index new l ≡ end_value (slice_index old l) by (slice_index arcs (base + l))
  pub others : (l : ℕ) → k ≤ l → slice_index new l ≡ slice_index old l

-- The arcs from end to start.
abbrev pub backward : List ℕ → List ℕ → ℕ → ℕ → Trop
backward arcs marks = turned (matrix arcs marks)

-- What a place's value stands for.
abbrev pub level : List ℕ → ℕ → Trop
level values l = fin (pos (slice_index values l))

-- What a round may start from: values that are small, and for each variable that it has raised the ends of its arcs
-- with every value below `done`: one more than the value with which it last did, 0 for none.
pub record RoundReady (arcs marks : List ℕ) (width : ℕ) (values done : List ℕ) : Type 0 where
  pub length_is : length values ≡ stride
  pub done_length : length done ≡ stride
  pub small : Small width values
  pub held :
      (j l v : ℕ) → j < width → l < width → v < slice_index done j → plus (matrix arcs marks j l) (fin (pos v)) ⊑ level values l

-- A round, once the first k variables have had their turn. Each marked one of them has raised the ends of its arcs with at
-- least the value that it had when the round started; `pushed` says of the new values what `done` said of the old. If nothing moved, the first k have raised with the values that they have now; if something
-- moved, not every marked variable had, before the round, raised with the value that it has now.
pub record Pushing (arcs marks : List ℕ) (width : ℕ) (values done : List ℕ) (k : ℕ) (new pushed : List ℕ) (moved : Bool) : Type 0 where
  pub length_is : length new ≡ stride
  pub done_length : length pushed ≡ stride
  pub small : Small width new
  pub held :
      (j l v : ℕ) → j < width → l < width → v < slice_index pushed j → plus (matrix arcs marks j l) (fin (pos v)) ⊑ level new l
  pub swept : Swept (backward arcs marks) width k (level values) (level new)
  pub passed : (j : ℕ) → j < k → Marked marks j → slice_index values j < slice_index pushed j
  pub others : (j : ℕ) → k ≤ j → slice_index pushed j ≡ slice_index done j
  pub still : moved ≡ false → (j l : ℕ) → j < k → l < width → plus (matrix arcs marks j l) (level new j) ⊑ level new l
  pub moves : moved ≡ true → ((j : ℕ) → j < width → Marked marks j → slice_index new j < slice_index done j) → ⊥

-- What a round comes to: all variables have had their turn, or only some, and a value is above the limit.
pub data Ended (arcs marks : List ℕ) (width : ℕ) (values done new pushed : List ℕ) : Option Bool → Type 0 where
  finished : {moved : Bool} → Pushing arcs marks width values done width new pushed moved → Ended arcs marks width values done new pushed (Some moved)
  stopped : {k l : ℕ} {moved : Bool} → Pushing arcs marks width values done k new pushed moved → l < width → walk_limit < slice_index new l
      → Ended arcs marks width values done new pushed None

-- After i rounds that moved something: a round may start; the values lie between those of i rounds of Bellman–Ford and every
-- potential that is at least 0; each marked variable has raised with its value of i − 1 rounds of Bellman–Ford; and those of
-- i − 2 rounds are not fixed, else the last round had moved nothing.
pub record Rounds (arcs marks : List ℕ) (width i : ℕ) (values done : List ℕ) : Type 0 where
  pub ready : RoundReady arcs marks width values done
  pub climbed : Climbed (backward arcs marks) anywhere width i (level values)
  pub passed :
      (k : ℕ) → suc k ≡ i → (j v : ℕ) → j < width → Marked marks j
      → fin (pos v) ⊑ value_at (backward arcs marks) anywhere width k j → v < slice_index done j
  pub moved : (k : ℕ) → suc (suc k) ≡ i → Fixed (backward arcs marks) anywhere width k → ⊥
