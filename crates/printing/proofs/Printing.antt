-- The lines that the programs print, by the cases of the code that puts them.
use Prim.Native.Nat.{ℕ, suc, ◌-◌, ◌≤◌, ◌<◌}
use mathlib.Core.Path.{◌≡◌}
use mathlib.Core.List.{List, [], ◌∷◌, ◌++◌}
use native.Mathlib.Omega.{arith}
use lib.ListN.{length}
use lib.IntN.{pos, negsuc}
use borrow.Author.Tests.{ne_eqb}
use Rattle.definitions.specs.Limits.{signed_half, class_optimal, class_unbounded, class_infeasible}
use Rattle.definitions.specs.Tropical.{Trop}
use Rattle.definitions.specs.Offset.{trop_of}
use Rattle.definitions.specs.Verdict.{refused, not_certified}
use Rattle.definitions.specs.Programs.{decimal, whole_decimal, span_decimal, text_least, text_bottomless, text_none, text_not_certified, newline, class_words, refused_line, verdict_line}
use Rattle.definitions.proofs.Offset.{trop_zero, trop_show}
use Rattle.printing.specs.Text.{Putting}
use Rattle.printing.proofs.Copy.{put_nothing, put_then}

-- ---- a span

-- A blank span has no digits.
pub span_blank : (l : List ℕ) (at span : ℕ) → span ≡ 0 → Putting l at (span_decimal (trop_of span)) l at
unfolding span_decimal
span_blank l at span e = rw (e, trop_zero) (put_nothing l at)

-- A span of 0 or more is its number.
pub span_up : {l : List ℕ} {at span : ℕ} {after : List ℕ} {next : ℕ} → Putting l at (decimal (span - signed_half)) after next → signed_half ≤ span
    → Putting l at (span_decimal (trop_of span)) after next
unfolding span_decimal whole_decimal
span_up {span = span} p h = rw (trop_show span (pos (span - signed_half)) (omega arith) (omega arith)) p

-- A negative span is a minus and its number.
pub span_down : {l : List ℕ} {at span : ℕ} {mid : List ℕ} {next : ℕ} {after : List ℕ} {end : ℕ} → Putting l at (45 ∷ []) mid next
    → Putting mid next (decimal (signed_half - span)) after end → (span ≡ 0 → ⊥) → span < signed_half → at ≤ length l → Putting l at (span_decimal (trop_of span)) after end
unfolding span_decimal whole_decimal
span_down {span = span} p q n h inside =
    let e : suc (signed_half - span - 1) ≡ signed_half - span = omega arith in
    rw (trop_show span (negsuc (signed_half - span - 1)) (omega arith) (omega arith), e) (put_then p q inside)

-- ---- the class

module _ {l : List ℕ} {at : ℕ} (class : ℕ) (span : Trop) {after : List ℕ} {next : ℕ} where
  -- Class 1 is least.
  pub words_least : Putting l at (text_least ++ span_decimal span) after next → class ≡ class_optimal → Putting l at (class_words class span) after next
  unfolding class_words
  words_least p e = rw e p

  -- Class 2 is bottomless.
  pub words_bottomless : Putting l at text_bottomless after next → class ≡ class_unbounded → Putting l at (class_words class span) after next
  unfolding class_words
  words_bottomless p e = rw e p

  -- Class 3 is none.
  pub words_none : Putting l at text_none after next → class ≡ class_infeasible → Putting l at (class_words class span) after next
  unfolding class_words
  words_none p e = rw e p

-- A number that is no class has no words.
pub words_other : (l : List ℕ) (at class : ℕ) (span : Trop) → (class ≡ class_optimal → ⊥) → (class ≡ class_unbounded → ⊥) → (class ≡ class_infeasible → ⊥)
    → Putting l at (class_words class span) l at
unfolding class_words
words_other l at class span x y z = rw (ne_eqb class class_optimal x, ne_eqb class class_unbounded y, ne_eqb class class_infeasible z) (put_nothing l at)

-- ---- lines

-- Words, then a part, then the newline.
pub line_puts : {l a one : List ℕ} {i : ℕ} {b two : List ℕ} {j : ℕ} {after : List ℕ} {next : ℕ} → Putting l 0 a one i → Putting one i b two j → Putting two j newline after next
    → i ≤ length one → Putting l 0 (a ++ (b ++ newline)) after next
line_puts p q r inside = put_then p (put_then q r inside) (omega arith)

-- Refusal 14 is printed in words.
pub verdict_uncertified : {l : List ℕ} {after : List ℕ} {next : ℕ} → Putting l 0 (text_not_certified ++ newline) after next → Putting l 0 (verdict_line (refused not_certified)) after next
unfolding verdict_line
verdict_uncertified p = p

-- Any other by its number.
pub verdict_refused : {l : List ℕ} (k : ℕ) {after : List ℕ} {next : ℕ} → Putting l 0 (refused_line k) after next → (k ≡ not_certified → ⊥) → Putting l 0 (verdict_line (refused k)) after next
unfolding verdict_line
verdict_refused k p n = rw (ne_eqb k not_certified n) p
