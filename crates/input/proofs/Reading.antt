-- From what reading says to what the programs ask: these bytes and this size were read of the input.
use Prim.Native.Nat.{ℕ}
use mathlib.Core.Path.{◌≡◌, subst}
use mathlib.Core.List.{List}
use lib.ListN.{length}
use Rattle.definitions.specs.Limits.{kept_bytes}
use Rattle.definitions.specs.Programs as Programs
use Rattle.definitions.specs.Programs.{KeptOf, ReadFrom}
use Rattle.definitions.proofs.Inputs.{kept_of}
use Rattle.input.specs.Came.{Came, Ends, AllCame, InputOf, all, more}

-- What is kept is the first bytes that came.
pub came_kept : {before : List ℕ} {size : ℕ} {after : List ℕ} → length before ≡ kept_bytes → (c : Came before 0 size after) → KeptOf after size c.bytes
came_kept {before} {size} {after} l c =
    let k = kept_of before c.bytes l in
    let kept : KeptOf after (length c.bytes) c.bytes = rw c.kept k in
    subst (λ (n : ℕ). KeptOf after n c.bytes) c.count kept

-- Whatever the input of which `read_all` read: its kept bytes and its size are such as the programs' contracts ask for.
pub all_read : {before : List ℕ} {size : ℕ} {after : List ℕ} → length before ≡ kept_bytes → (a : AllCame before size after)
    → (input : List ℕ) → InputOf a.came.bytes size a.ends input → ReadFrom after size input
all_read {size = size} {after} l a input i = go (came_kept l a.came) i
  where
    go : {bytes : List ℕ} {ends : Ends size} {input : List ℕ} → KeptOf after size bytes → InputOf bytes size ends input → ReadFrom after size input
    go k (all last e) = Programs.whole k
    go k (more h b s e) = Programs.part b h s (rw e k)
