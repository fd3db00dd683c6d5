-- What can be handed over, at its edges: nothing is left out by `Word`, `Slice`, `Words`, `Numbered` and `Handed` but what 64 bits do not hold.
use Prim.Native.Nat.{ℕ, ◌<◌}
use mathlib.Core.Path.{refl}
use mathlib.Core.List.{List}
use native.Mathlib.Omega.{arith}
use lib.ListN.{length, get_or}
use Rattle.definitions.specs.Tropical.{bot}
use Rattle.definitions.specs.Bytes.{Bytes}
use Rattle.definitions.specs.Offset.{trop_of}
use Rattle.definitions.specs.AnswerRecord.{Answer}
use Rattle.definitions.specs.Demands.{Word, Slice, Words, Numbered, Handed}

-- 2⁶⁴ − 1 is a word, 2⁶⁴ is none.
pub last_word : Word 18446744073709551615
last_word = omega arith

pub past_words : Word 18446744073709551616 → ⊥
past_words h = omega arith

-- Bytes of a length that is a word are a slice, whatever they are; words of such a length are a slice of words.
pub bytes_lendable : (s : List ℕ) → Bytes s → length s < 18446744073709551616 → Slice s
bytes_lendable s b w = record { bytes = b; size = w }

pub words_lendable : (xs : List ℕ) → ((i : ℕ) → get_or xs i 0 < 18446744073709551616) → length xs < 18446744073709551616 → Words xs
words_lendable xs h w = record { word = h; size = w }

-- Every offset number that is a word can be handed over, and so can every answer of words and of such numbers, of whatever class and form.
pub number_lendable : (k : ℕ) → k < 18446744073709551616 → Numbered (trop_of k)
number_lendable k w = record { number = k; fits = w; means = refl }

pub answer_lendable :
    (a : Answer) → a.class < 18446744073709551616 → Numbered a.span → a.start < 18446744073709551616
    → ((i : ℕ) → Numbered (get_or a.stamps i bot)) → length a.stamps < 18446744073709551616 → Words a.picks → Handed a
answer_lendable a class span start stamps count picks =
    record { class = class; span = span; start = start; stamps = stamps; stamps_size = count; picks = picks }
