-- An answer as the programs hold it: class, span and start as numbers, stamps as offset numbers, picks, and arrays padded with 0.
use Rattle.std.specs.Prelude.{ℕ, ◌+◌, ◌*◌, ◌≡◌, Bool, cond, List, map, eqb, length, get_or}
use Rattle.definitions.specs.Limits.{short_bytes, signed_bytes, stamp_limit, answer_header}
use Rattle.definitions.specs.Tropical.{Trop}
use Rattle.definitions.specs.Bytes.{nums_at, blank_or_within}
use Rattle.definitions.specs.Offset.{trop_of, off}
use Rattle.definitions.specs.AnswerRecord.{Answer, is_zero, stamp_count, pick_count, class_field}
use Rattle.answer_reader.specs.declared.answer.Head.{Head}

-- The answer that class, span and start, stamps and picks give, span and stamps as offset numbers.
abbrev pub fields_of : Head → List ℕ → List ℕ → Answer
fields_of head stamps picks =
    record { class = head.class; span = trop_of head.span; start = head.start; stamps = map trop_of stamps; picks = picks }

-- The offset numbers in a run of 4-byte fields behind an answer's header.
unfoldable pub stamps_at : List ℕ → ℕ → List ℕ
stamps_at s count = map off (nums_at signed_bytes count s answer_header)

-- The picks that follow so many stamps.
unfoldable pub picks_at : List ℕ → ℕ → ℕ → List ℕ
picks_at s stamps count = nums_at short_bytes count s (answer_header + signed_bytes * stamps)

-- The stamps and the picks of an answer in bytes, read by its own class.
unfoldable pub stamps_of : List ℕ → ℕ → List ℕ
stamps_of s n = stamps_at s (stamp_count (class_field s) n)

unfoldable pub picks_of : List ℕ → ℕ → ℕ → List ℕ
picks_of s n m = picks_at s (stamp_count (class_field s) n) (pick_count (class_field s) n m)

-- The answer in bytes whose header gave this class, span and start.
abbrev pub body_of : List ℕ → Head → ℕ → ℕ → Answer
body_of s head n m =
    fields_of head (stamps_at s (stamp_count head.class n)) (picks_at s (stamp_count head.class n) (pick_count head.class n m))

-- The form of stamp i: stamp 0 is 0, the others are blank or within their limit.
unfoldable pub stamp_fits : ℕ → Trop → Bool
stamp_fits i x = cond (eqb i 0) (is_zero x) (blank_or_within stamp_limit x)

-- An array of `width` elements that holds the list, and 0 behind it.
pub record Padded (width : ℕ) (xs array : List ℕ) : Type 0 where
  pub width_is : length array ≡ width
  pub element : (k : ℕ) → get_or array k 0 ≡ get_or xs k 0
