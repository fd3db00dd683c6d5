-- What several reads take of the bytes that a reader has left.
use Prim.Native.Nat.{ℕ, ◌+◌, ◌≤◌}
use mathlib.Core.Path.{◌≡◌, refl, sym, subst, ◌∙◌}
use mathlib.Core.List.{List, [], ◌++◌, append_assoc, append-nil}
use native.Mathlib.Omega.{arith}
use lib.ListN.{length, take, length-append}
use lib.Seq.{take-append_seam}
use Rattle.std.specs.Prelude.{Option, None, Some, Ok}
use Rattle.std.specs.Io.KnownBytes.{Consumes, IsAtEnd}
use Rattle.definitions.specs.Limits.{kept_bytes}
use Rattle.definitions.specs.Programs as Programs
use Rattle.definitions.specs.Programs.{read_most, KeptOf}
use Rattle.input.specs.Taken.{Taken, AllTaken}
use Rattle.input.proofs.Coming.{came_none, came_more}
use Rattle.input.proofs.Reading.{came_kept}

-- What was taken in two turns.
consumes_more : (left mid rest : Option (List ℕ)) (a b : List ℕ) → Consumes left mid a → Consumes mid rest b → Consumes left rest (a ++ b)
consumes_more None mid rest a b h g = tt
consumes_more (Some xs) None rest a b h g = absurd h
consumes_more (Some xs) (Some ys) None a b h g = absurd g
consumes_more (Some xs) (Some ys) (Some zs) a b h g = h ∙ rw g (sym (append_assoc a b zs))

consumes_none : (left : Option (List ℕ)) → Consumes left left []
consumes_none None = tt
consumes_none (Some xs) = refl

-- Before the first read.
pub taken_none : (left : Option (List ℕ)) (kept : List ℕ) → Taken left left kept 0 0 kept
unfolding came_none
taken_none left kept = record { came = came_none kept; first = consumes_none left }

-- After one more.
pub taken_more :
    {left mid rest : Option (List ℕ)} {before : List ℕ} {size : ℕ} {kept : List ℕ} {r : ℕ} {after : List ℕ} {total : ℕ}
    → Taken left mid before 0 size kept → Taken mid rest kept size r after → total ≡ size + r → Taken left rest before 0 total after
unfolding came_more
taken_more {left} {mid} {rest} a b t = record {
  came = came_more a.came b.came t;
  first = consumes_more left mid rest a.came.bytes b.came.bytes a.first b.first;
}

-- At the reader's end all that it had left was read.
pub taken_end :
    (left rest : Option (List ℕ)) {before : List ℕ} {size : ℕ} {after : List ℕ} → length before ≡ kept_bytes → Taken left rest before 0 size after → IsAtEnd rest
    → AllTaken left (Ok size) after
taken_end None rest l t e = tt
taken_end (Some xs) None l t e = absurd t.first
taken_end (Some xs) (Some ys) {size = size} {after} l t e = λ b.
    let same : xs ≡ t.came.bytes = t.first ∙ rw e (append-nil t.came.bytes) in
    Programs.whole (subst (KeptOf after size) (sym same) (came_kept l t.came))

-- From 2³³ bytes on what it had left begins with what was read.
pub taken_enough :
    (left rest : Option (List ℕ)) {before : List ℕ} {size : ℕ} {after : List ℕ} → length before ≡ kept_bytes → Taken left rest before 0 size after
    → read_most ≤ size → AllTaken left (Ok size) after
taken_enough None rest l t h = tt
taken_enough (Some xs) None l t h = absurd t.first
taken_enough (Some xs) (Some ys) {size = size} {after} l t h = λ b.
    let long : size ≤ length xs = rw t.first (rw length-append (omega (arith, t.came.count))) in
    let front : take size xs ≡ t.came.bytes = rw (t.first, ← t.came.count) (take-append_seam t.came.bytes ys) in
    Programs.part b h long (subst (KeptOf after size) (sym front) (came_kept l t.came))
