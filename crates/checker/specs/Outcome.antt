-- What the checker's functions answer, in the words of the definitions.
use Rattle.std.specs.Prelude.{Result, Ok, Err, ℕ, suc, ◌<◌, ◌≡◌, true, List, get_or}
use Rattle.definitions.specs.Limits.{signed_half, span_limit}
use Rattle.definitions.specs.Offset.{trop_of}
use Rattle.definitions.specs.Problem.{Problem}
use Rattle.definitions.specs.AnswerRecord.{Answer, known_class, start_fits, highest_pick, answer_refusal, answer_of}
use Rattle.definitions.specs.Verdict as Verdicts
use Rattle.definitions.specs.Verdict.{Accepted, not_certified, point_of, strategy_of}
use Rattle.answer_reader.specs.declared.answer.Head.{Head}
use Rattle.records.specs.declared.refusal.Refusal.{Refusal}
use Rattle.records.specs.Refusals.{number_of}
use Rattle.records.specs.Decoded.{Near}
use Rattle.records.specs.Stamps.{Stamped}
use Rattle.checker.specs.declared.check.Certified.{Certified}
use Rattle.closed_walks.specs.Tables.{Picked}

-- Document 01's verdict for each case: accepted with class and span, or refused with the number.
abbrev pub verdict_of : Result Certified Refusal → Verdicts.Verdict
verdict_of (Ok c) = Verdicts.accepted c.class (trop_of c.span)
verdict_of (Err r) = Verdicts.refused (number_of r)

-- The offset number of a whole span within its limit.
pub record Span (span : ℕ) : Type 0 where
  pub some : 0 < span
  pub near : Near span_limit span

-- Class, span, start, stamps and picks, as the reader gives them, are of the form of the class as far as the tests need it.
pub record Formed (n m : ℕ) (head : Head) (stamps picks : List ℕ) : Type 0 where
  pub class_known : known_class head.class ≡ true
  pub start_fits_is : start_fits head.class head.start n ≡ true
  pub stamped : Stamped stamps
  pub picked : Picked picks (highest_pick head.class n m)
  pub anchored : head.class ≡ 1 → get_or stamps 0 0 ≡ signed_half
  pub whole_span : head.class ≡ 1 → Span head.span

-- They mean this answer.
pub record Meant (a : Answer) (head : Head) (stamps picks : List ℕ) : Type 0 where
  pub class_is : a.class ≡ head.class
  pub span_is : a.span ≡ trop_of head.span
  pub start_is : a.start ≡ head.start
  pub point_is : (j : ℕ) → trop_of (get_or stamps j 0) ≡ point_of a.stamps j
  pub strategy_is : (j : ℕ) → get_or picks j 0 ≡ strategy_of a.picks j

-- The verdict on an answer for a problem that is not refused: as `Judged`, with the problem at hand.
pub data Answered (p : Problem) (n m : ℕ) (a : List ℕ) : Verdicts.Verdict → Type 0 where
  turned_away : {k : ℕ} → answer_refusal a n m ≡ suc k → Answered p n m a (Verdicts.refused (suc k))
  certified :
      answer_refusal a n m ≡ 0 → Accepted p (answer_of a n m)
      → Answered p n m a (Verdicts.accepted (answer_of a n m).class (answer_of a n m).span)
  uncertified : answer_refusal a n m ≡ 0 → (Accepted p (answer_of a n m) → ⊥) → Answered p n m a (Verdicts.refused not_certified)
