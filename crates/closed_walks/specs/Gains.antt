-- Closed walks over a table of arcs. An arc stands in the table as 2³¹ plus its weight, 0 is no arc. The weight here is the
-- table's: 32 w + 1 in classes 1 and 3 and −w in class 2, for document 01's weight w, raised by t on the objective's arcs (Arcs),
-- so that in each class some closed walk is above zero exactly when there is one that must not be.
use Rattle.std.specs.Prelude.{◌≡◌, ℕ, suc, ◌+◌, ◌*◌, ◌<◌, ◌≤◌, Bool, true, false, cond, List, length, ℤ, pos, ◌≤ℤ◌, ◌==◌, slice_index}
use Rattle.std.proofs.Math.IntN.{sub_ℕ}
use Rattle.definitions.specs.Limits.{lead_limit, span_limit, signed_half, stride, arcs_size}
use Rattle.definitions.specs.Tropical.{Trop, bot, fin}
use Rattle.definitions.specs.Certificate.{Walk}
use Rattle.duality.specs.Gains.{Entry, Gain}

-- The number in the table of an arc that weighs 0.
abbrev pub arc_zero : ℕ
arc_zero = signed_half

-- No arc weighs more: 32 times two leads and a trial, and one.
abbrev pub arc_most : ℕ
arc_most = stride * (2 * lead_limit + suc span_limit) + 1

-- What a number in the table stands for.
unfoldable pub weight_of : ℕ → Trop
weight_of k = cond (k == 0) bot (fin (sub_ℕ k arc_zero))

-- The arcs of the table that start from a marked variable.
unfoldable pub matrix : List ℕ → List ℕ → ℕ → ℕ → Trop
matrix arcs marks j l = cond (slice_index marks j == 0) bot (weight_of (slice_index arcs (j * stride + l)))

-- An exit of 0 at every variable: walks may end anywhere, those over turned arcs may start anywhere.
unfoldable pub anywhere : ℕ → Trop
anywhere j = fin (pos 0)

-- A table of 32 × 32 entries, of which `width` rows and columns are used: no arc there weighs more than the heaviest.
pub record Table (arcs : List ℕ) (width : ℕ) : Type 0 where
  pub width_most : width ≤ stride
  pub length_is : length arcs ≡ arcs_size
  pub cells : (j l : ℕ) → j < width → l < width → slice_index arcs (j * stride + l) ≤ arc_zero + arc_most

-- No closed walk over arcs from marked variables weighs above zero.
abbrev pub NoneGains : List ℕ → List ℕ → ℕ → Type 0
NoneGains arcs marks width = (j n : ℕ) (w : ℤ) → j < width → Walk (Entry (matrix arcs marks) width) j j n w → w ≤ℤ pos 0

-- A closed walk of at most `width` arcs weighs above zero.
pub record SomeGains (arcs marks : List ℕ) (width : ℕ) : Type 0 where
  pub from : ℕ
  pub gain : Gain (matrix arcs marks) width from

-- What the test of closed walks says. Neither answer is worded as the other's opposite: yes speaks of all closed walks, no
-- of a short one.
pub record Tested (arcs marks : List ℕ) (width : ℕ) (r : Bool) : Type 0 where
  pub yes : r ≡ true → NoneGains arcs marks width
  pub no : r ≡ false → SomeGains arcs marks width
