-- The rules behind an answer and the binding round, in lent places, with their counts as one number: the low byte is the refusal, 0 where
-- there is none, 255 where too few places are lent.
use Rattle.std.specs.Prelude.{ℕ, ◌+◌, ◌*◌, ◌≤◌, ◌<◌, ◌≡◌, List, ◌⊎◌, length}
use Rattle.definitions.specs.Bytes.{put}
use Rattle.definitions.specs.Reasons as Reasons
use Rattle.definitions.specs.Reasons.{Reasoned, of_none, of_least}
use Rattle.capi.specs.Numbers.{low_byte, low_quarter, stamp_places, pick_places, too_few_places}

-- How many rules, and how many moments the round has.
abbrev pub counts_number : ℕ → ℕ → ℕ
counts_number rules round = low_byte * rules + low_quarter * round

-- The tool's answer: the refusal, or that there are too few places, 64 for rules and 32 for the round, and both as they were; or the rules
-- at the start of their places, for least the round at the start of its own, and what follows as it was. The round of a least span has a
-- moment; none has no round.
pub data ReasonsAs (p a rules-before round-before : List ℕ) : ℕ → List ℕ → List ℕ → Type 0 where
  turned_away : {k : ℕ} → Reasoned p a (Reasons.refused k) → ReasonsAs p a rules-before round-before k rules-before round-before
  too_few :
      {r : Reasons.Reasons} → Reasoned p a r → ((k : ℕ) → r ≡ Reasons.refused k → ⊥)
      → (length round-before < stamp_places) ⊎ (length rules-before < pick_places)
      → ReasonsAs p a rules-before round-before too_few_places rules-before round-before
  none :
      {rules : List ℕ} → Reasoned p a (of_none rules) → stamp_places ≤ length round-before → pick_places ≤ length rules-before
      → ReasonsAs p a rules-before round-before (counts_number (length rules) 0) (put rules-before 0 rules) round-before
  least :
      {rules round : List ℕ} → Reasoned p a (of_least rules round) → stamp_places ≤ length round-before → pick_places ≤ length rules-before
      → ReasonsAs p a rules-before round-before (counts_number (length rules) (length round)) (put rules-before 0 rules) (put round-before 0 round)
