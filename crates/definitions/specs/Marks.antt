-- Mark bytes compared. Document 02, 2.3: "The test whether a round has reached a new moment, however it is done now, is to compare
-- mark bytes eight to a word. For every pair of lists of n+1 mark bytes, also where n+1 is no multiple of eight, it says yes
-- exactly when they differ in some byte." That it goes by words of eight is the code's; what it says stands here, for any count
-- in place of n + 1.
use Rattle.std.specs.Prelude.{ℕ, ◌<◌, ◌≡◌, Bool, true, ◌↔◌, List, get_or}

-- Two lists differ in some byte of their first `count`. Who compares them has both lists at least so long; past its end a list's byte
-- counts as 0.
pub record DifferBelow (count : ℕ) (xs ys : List ℕ) : Type 0 where
  pub place : ℕ
  pub inside : place < count
  pub unequal : get_or xs place 0 ≡ get_or ys place 0 → ⊥

-- What the test says of the first `count` bytes of two lists: yes exactly when they differ in some byte of these.
pub record MarksCompared (count : ℕ) (xs ys : List ℕ) (says : Bool) : Type 0 where
  pub yes_exactly : (says ≡ true) ↔ DifferBelow count xs ys
