-- Reach on the way: marks of coefficients; variables mark all to which they lead, each once; one that has is done.
use Rattle.std.specs.Prelude.{ℕ, ◌+◌, ◌-◌, ◌≤◌, ◌<◌, ◌≡◌, cond, List, eqb, length, get_or}
use Rattle.base.specs.Filled.{Filled}
use Rattle.definitions.specs.Limits.{stride}
use Rattle.definitions.specs.Certificate.{Reachable}
use Rattle.duality.specs.Height.{total}
use Rattle.reach.specs.Marks.{Marked, Led, Begins, Flags}

-- The mark of a place to which an arc leads, or not, from a marked one.
unfoldable pub mark_of : ℕ → ℕ → ℕ
mark_of mark arc = cond (eqb arc 0) mark 1

-- Of the first n places those are marked whose coefficient is not blank; the others are not.
abbrev pub MarksOf : List ℕ → ℕ → List ℕ → Type 0
MarksOf coefficients n marks = Filled (λ l v. v ≡ mark_of 0 (get_or coefficients l 0)) stride n marks

-- The first k places are marked by the arcs of a row; the others are as they were.
pub record RowMarked (arcs : List ℕ) (base k : ℕ) (old new : List ℕ) : Type 0 where
  pub same : length new ≡ length old
  pub cells : (l : ℕ) → l < k → get_or new l 0 ≡ mark_of (get_or old l 0) (get_or arcs (base + l) 0)
  pub others : (l : ℕ) → k ≤ l → get_or new l 0 ≡ get_or old l 0

-- The start is marked, whatever is marked is reachable, and all to which a variable that is done leads is marked.
pub record Reaching (arcs : List ℕ) (width : ℕ) (start marks done : List ℕ) : Type 0 where
  pub begun : (j : ℕ) → Begins start width j → Marked marks j
  pub only : (j : ℕ) → j < width → Marked marks j → Reachable (Begins start width) (Led arcs width) j
  pub onward : (j l : ℕ) → Marked done j → Led arcs width j l → Marked marks l

-- How many of the first `width` places have no mark.
unfoldable pub unmarked : ℕ → List ℕ → ℕ
unmarked width marks = total (λ j. 1 - get_or marks j 0) width

-- A round, once the first k variables have had their turn: from whatever start the old marks were reached, the new ones are; the old
-- marks stay, and each of the first k variables that had one is done. (So where a round has reached no new one, all are done.)
pub record Spreading (arcs : List ℕ) (width : ℕ) (marks done : List ℕ) (k : ℕ) (new spread : List ℕ) : Type 0 where
  pub flags : Flags new
  pub done_flags : Flags spread
  pub reaching : (start : List ℕ) → Reaching arcs width start marks done → Reaching arcs width start new spread
  pub kept : (j : ℕ) → Marked marks j → Marked new j
  pub settled : (j : ℕ) → j < k → Marked marks j → Marked spread j
