-- Appending to a lent buffer where there is room, and what a program puts out by it.
use Prim.Native.Nat.{ℕ, ◌+◌, ◌≤◌, ◌<◌}
use mathlib.Core.Path.{◌≡◌, refl}
use mathlib.Core.Bool.{Bool, true, false, cond}
use mathlib.Core.List.{List}
use native.Mathlib.Omega.{arith}
use lib.Dec.{leb}
use lib.ListN.{length, take}
use borrow.Author.Tests.{le-leb, lt-leb, leb-true}
use Rattle.definitions.specs.Bytes.{put}
use Rattle.definitions.proofs.Put.{take_put, length_put}
use Rattle.printing.specs.Text.{Putting, Appended, Output, appended, place_after}

-- ---- appending

-- Where the values fit, they are put.
pub append_fits : {l : List ℕ} {at : ℕ} {text after : List ℕ} {next : ℕ} → Putting l at text after next → at + length text ≤ length l → Appended l at text after next
unfolding appended place_after
append_fits {l} {at} {text} p room = record {
  next_is = rw (le-leb (at + length text) (length l) room) p.next_is;
  after_is = rw (le-leb (at + length text) (length l) room) p.after_is;
}

-- Where there is no room, nothing is.
pub append_none : (l : List ℕ) (at : ℕ) (text : List ℕ) → length l < at + length text → Appended l at text l at
unfolding appended place_after
append_none l at text full = record { next_is = rw (lt-leb (at + length text) (length l) full); after_is = rw (lt-leb (at + length text) (length l) full) }

-- The length stays.
pub length_appended : (l : List ℕ) (at : ℕ) (text : List ℕ) → length (appended l at text) ≡ length l
unfolding appended
length_appended l at text = go (leb (at + length text) (length l)) refl
  where
    go : (t : Bool) → leb (at + length text) (length l) ≡ t → length (cond t (put l at text) l) ≡ length l
    go true e = let room : at + length text ≤ length l = leb-true (at + length text) (length l) e in length_put l at text (omega arith) room
    go false e = refl

-- ---- what is put out

-- Appending at the front: the bytes where there is room, nothing where there is not.
pub output_of : {l text after : List ℕ} {size : ℕ} → Appended l 0 text after size → Output l text after size
unfolding appended place_after
output_of {l} {text} {after} {size} a = record {
  all = a;
  shown = λ room.
      let fits : leb (0 + length text) (length l) ≡ true = le-leb (0 + length text) (length l) (omega arith) in
      let e : size ≡ 0 + length text = rw fits at a.next_is in
      let f : after ≡ put l 0 text = rw fits at a.after_is in
      (omega arith, rw (e, f) (take_put l 0 text (omega arith)));
  none = λ full.
      let fails : leb (0 + length text) (length l) ≡ false = lt-leb (0 + length text) (length l) (omega arith) in
      (rw fails at a.next_is, rw fails at a.after_is);
}

-- A line that was put at the front of a buffer, and the part of it up to its end appended: the line is put out.
pub output_line : {line text written : List ℕ} {size : ℕ} {l after : List ℕ} {end : ℕ} → Putting line 0 text written size → Appended l 0 (take size written) after end
    → Output l text after end
output_line {line} {text} {written} {size} {l} {after} {end} p a =
    let e : size ≡ 0 + length text = p.next_is in
    output_of (rw (e, p.after_is, take_put line 0 text (omega arith)) at a)
