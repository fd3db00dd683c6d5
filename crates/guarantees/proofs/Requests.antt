-- The requests of document 02, each by its theorem. Whoever asks why one is kept starts reading here and goes down as far as they like; PROMISES
-- has them sentence by sentence.
use Prim.Native.Nat.{ℕ}
use mathlib.Core.Path.{◌≡◌}
use mathlib.Core.Bool.{true, false}
use mathlib.Core.Logic.{◌⊎◌}
use mathlib.Core.List.{List, []}
use Rattle.definitions.specs.Marks.{MarksCompared}
use Rattle.definitions.specs.Verdict.{refused}
use Rattle.definitions.specs.Programs.{VerdictOutput, verdict_line}
use Rattle.definitions.specs.Demands.{Engine, Checker, Reader, EngineSolves, CheckerJudges, ReadsFields, EachQuestion}
use Rattle.definitions.specs.OneAnswer.{OneAnswer}
use Rattle.definitions.specs.Hours.{HoursReader, HoursWriter, ReaderReads, WriterWrites, HoursAndMinutes}
use Rattle.definitions.specs.Reasons.{ReasonsKeep}
use Rattle.definitions.specs.Conversion.{ConversionKeeps}
use Rattle.definitions.specs.Week.{OpeningHours}
use Rattle.definitions.specs.Scaling.{PartsGainNothing}
use Rattle.definitions.specs.Merging.{MergingKeeps}
use Rattle.definitions.specs.Census.{CensusHolds}
use Rattle.definitions.specs.Examples.{examples}
use Rattle.definitions.proofs.Marks as Marks
use Rattle.definitions.proofs.Hours as Hours
use Rattle.duality.specs.OlderProblems.{older_lead_limit, OlderStay}
use Rattle.duality.proofs.OlderProblems.{older_problems_stay}
use Rattle.selection.specs.Suspended.{RulesInForce}
use Rattle.selection.proofs.Suspended as Suspended
use Rattle.binding.proofs.Keeps.{reasons_keep}
use Rattle.scaling.proofs.Parts.{parts_gain_nothing}
use Rattle.converter.proofs.Keeps.{conversion_keeps}
use Rattle.opening_hours.proofs.OpeningHours as Opening
use Rattle.merging.proofs.Keeps.{merging_keeps}
use Rattle.counting.proofs.Once.{census_holds}
use Rattle.guarantees.specs.DeskCalls.{DeskCalls}
use Rattle.guarantees.proofs.Engine.{each_question}
use Rattle.guarantees.proofs.OneAnswer.{SolvesGiving, one_answer}
use Rattle.guarantees.proofs.Starred as Starred
use Rattle.guarantees.proofs.IdleDay as IdleDay
use Rattle.guarantees.proofs.DeskCalls as Desk

-- 2.1: demands 2 and 3 hold for each question with its kind 1 problem, and each is the answer to that problem alone, byte for byte.
pub several_questions : (engine : Engine) → EngineSolves engine → (check : Checker) → CheckerJudges check → (read : Reader) → ReadsFields read → EachQuestion engine check read
several_questions = each_question

pub each_alone : (engine : Engine) → SolvesGiving engine → OneAnswer engine
each_alone = one_answer

-- 2.2: class and least span of an older problem do not move.
pub stays_of_two_weeks : OlderStay older_lead_limit
stays_of_two_weeks = older_problems_stay

-- 2.3: yes exactly when the lists differ in some byte, and there is always an answer.
pub marks_by_words : (count : ℕ) (xs ys : List ℕ) → MarksCompared count xs ys true ⊎ MarksCompared count xs ys false
marks_by_words = Marks.marks_compared

-- 2.4: the demands speak of the plans that count; the examples have their new classes and spans.
pub about_somebody : Starred.Each Starred.Shown examples
about_somebody = Starred.starred_examples

-- 2.5: there is one list of rules and one round; the problem with only these rules has the same class and span, and the round uses the question once
-- and weighs 0.
pub rules_behind_an_answer : ReasonsKeep
rules_behind_an_answer = reasons_keep

-- 2.6: class and least span of each question are the same before and after.
pub rules_that_say_nothing : ConversionKeeps
rules_that_say_nothing = conversion_keeps

-- 2.7: each value has just one text, and the reader takes only such texts.
pub hours_on_the_sheet : (reader : HoursReader) → ReaderReads reader → (writer : HoursWriter) → WriterWrites writer → HoursAndMinutes reader writer
hours_on_the_sheet = Hours.hours_and_minutes

-- 2.8: the answer is open, nothing between is, and with any window it is less than 10,080 away.
pub opening_hours : OpeningHours
opening_hours = Opening.opening_hours

-- 2.9: in the verdict program empty input gives `refused 8`; that no bytes get least 0 is `IdleDay.idle_answered`.
pub idle_day : (output : List ℕ) → VerdictOutput [] output → output ≡ verdict_line (refused 8)
idle_day = IdleDay.empty_input

-- 2.10: class and span are those of the problem that holds only the rules in force.
pub suspended_rules : (s : List ℕ) → RulesInForce s
suspended_rules = Suspended.rules_in_force_lem

-- 2.11: of every sequence of the desk's calls since an opening.
pub desk : (check : Checker) → CheckerJudges check → DeskCalls check
desk = Desk.desk_calls

-- 2.12: for every whole d of 1 or more.
pub parts_of_a_minute : PartsGainNothing
parts_of_a_minute = parts_gain_nothing

-- 2.13: the merged plan keeps the rules, counts where both do, and its span is at most the greater.
pub two_plans_into_one : MergingKeeps
two_plans_into_one = merging_keeps

-- 2.14: each count equals the number by definition, and there is one census.
pub census : CensusHolds
census = census_holds
