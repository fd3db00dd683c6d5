-- What putting bytes into a lent buffer leaves.
use Rattle.std.specs.Prelude.{ℕ, ◌+◌, ◌≤◌, ◌<◌, ◌≡◌, cond, List, leb, length, take}
use Rattle.definitions.specs.Bytes.{put}

-- `values` stand in the buffer from place `at` on, everything else is as it was, and `next` is the place after them.
pub record Putting (before : List ℕ) (at : ℕ) (values after : List ℕ) (next : ℕ) : Type 0 where
  pub next_is : next ≡ at + length values
  pub after_is : after ≡ put before at values
  pub kept : length after ≡ length before

-- The buffer with `values` from place `at` on where they fit; where there is no room, as it was.
unfoldable pub appended : List ℕ → ℕ → List ℕ → List ℕ
appended before at values = cond (leb (at + length values) (length before)) (put before at values) before

-- The place after them where they fit; where there is no room, the same place.
unfoldable pub place_after : List ℕ → ℕ → List ℕ → ℕ
place_after before at values = cond (leb (at + length values) (length before)) (at + length values) at

-- `values` were appended at place `at`, or there was no room and nothing was written; `next` is the next place.
pub record Appended (before : List ℕ) (at : ℕ) (values after : List ℕ) (next : ℕ) : Type 0 where
  pub next_is : next ≡ place_after before at values
  pub after_is : after ≡ appended before at values

-- The buffer begins with `bytes` where there is room for them, and its first `size` bytes are then what is put out; every other
-- byte is as it was. Where there is no room nothing is written, and the size is 0.
pub record Output (before bytes after : List ℕ) (size : ℕ) : Type 0 where
  pub all : Appended before 0 bytes after size
  pub shown : length bytes ≤ length before → (size ≡ length bytes) × (take size after ≡ bytes)
  pub none : length before < length bytes → (size ≡ 0) × (after ≡ before)

-- No line that a program prints is longer.
abbrev pub line_most : ℕ
line_most = 64
