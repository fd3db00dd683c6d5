-- What reading adds to what is kept, and how it ends.
use Rattle.std.specs.Prelude.{ℕ, ◌+◌, ◌-◌, ◌≤◌, ◌≡◌, List, length, take, Result, Ok, IsErr}
use Rattle.std.specs.declared.io.Error.{Error}
use Rattle.definitions.specs.Limits.{kept_bytes}
use Rattle.definitions.specs.Bytes.{Bytes, put}
use Rattle.definitions.specs.Programs.{read_most}

-- What a read answers: so many bytes, or an error.
abbrev pub Answer : Type 0
Answer = Result ℕ Error

-- So many bytes came behind the first `size`, and are kept in their places as far as they fit.
pub record Came (before : List ℕ) (size r : ℕ) (after : List ℕ) : Type 0 where
  pub bytes : List ℕ
  pub count : length bytes ≡ r
  pub kept : after ≡ put before size (take (kept_bytes - size) bytes)

-- Reading ends where a read answers 0, or where so many bytes were counted that no outcome changes from there on.
pub data Ends (size : ℕ) : Type 0 where
  at_end : (last : Answer) → last ≡ Ok 0 → Ends size
  enough : read_most ≤ size → Ends size

-- The most bytes that one read gives.
abbrev pub read_size : ℕ
read_size = 4096

-- All that was read: so many bytes came, the first are kept in their places, and reading ended there.
pub record AllCame (before : List ℕ) (size : ℕ) (after : List ℕ) : Type 0 where
  pub came : Came before 0 size after
  pub ends : Ends size
  pub most : size ≤ read_most + read_size

-- What one read left: the bytes that came, as many as it answered; or its error, and nothing.
pub data OnceRead (before : List ℕ) (size : ℕ) : Answer → List ℕ → Type 0 where
  once : {r : ℕ} {after : List ℕ} (answer : Answer) → answer ≡ Ok r → r ≤ read_size → Came before size r after → OnceRead before size (Ok r) after
  broken : (answer : Answer) → IsErr answer → OnceRead before size answer before

-- What reading to the end left: all that was read; or the error that some read answered.
pub data AllRead (before : List ℕ) : Answer → List ℕ → Type 0 where
  whole : {size : ℕ} {after : List ℕ} → AllCame before size after → AllRead before (Ok size) after
  broken : {after : List ℕ} (answer : Answer) → IsErr answer → AllRead before answer after

-- The input of which these bytes came: all of it where a read answered 0, else one that begins with them.
pub data InputOf (bytes : List ℕ) (size : ℕ) : Ends size → List ℕ → Type 0 where
  all : (last : Answer) (e : last ≡ Ok 0) → InputOf bytes size (at_end last e) bytes
  more : (h : read_most ≤ size) {input : List ℕ} → Bytes input → size ≤ length input → take size input ≡ bytes → InputOf bytes size (enough h) input
