-- The checker, by its own call, accepts every answer that is collected from the desk. Document 02, 2.11.
use Prim.Native.Nat.{ℕ}
use mathlib.Core.Path.{◌≡◌, subst}
use mathlib.Core.List.{List}
use lib.ListN.{take}
use Rattle.definitions.specs.Tropical.{Trop}
use Rattle.definitions.specs.ProblemRecord.{WithinLayout, problem_of, meant}
use Rattle.definitions.specs.Solved.{Answers, Giving}
use Rattle.definitions.specs.Verdict.{accepted}
use Rattle.definitions.specs.Demands.{Slice, Checker, CheckerJudges}
use Rattle.definitions.specs.Desk as Desks
use Rattle.definitions.specs.Desk.{Desk, FromOpening, TakesIn, Run, Collects, handed_over}
use Rattle.definitions.specs.DeskLaws.{CollectedRight, CollectedAccepted}
use Rattle.definitions.proofs.Layouts.{desk_within}
use Rattle.definitions.proofs.Solved.{record_stands}
use Rattle.tickets.proofs.Reported.{run_on}
use Rattle.tickets.proofs.Holds.{desk_holds}
use Rattle.guarantees.proofs.Engine.{accepts_record, accepts_it}

module _ (check : Checker) (judges : CheckerJudges check) where
  -- Of every sequence of calls from an opening on.
  each_accepted : {memory number class own size : ℕ} {span : Trop} {d e : Desk} {before after : List ℕ} {Gives : Giving} → FromOpening Gives memory d → Collects memory d number before (Desks.collected class span own size) e after
      → CollectedRight check d number class span own (take size after)
  each_accepted {span = span} {before = before} opening (handed_over {i = i} {class = class} {own = own} {problem = problem} {a = a} h st room) =
      let v = desk_holds.answers_alone opening st in
      let w : WithinLayout problem × Answers (problem_of problem) class span own a = (desk_within problem v.0, v.1) in
      record {
        place = i;
        problem = problem;
        answer = a;
        there = st;
        bytes_are = record_stands problem before w.0 a w.1;
        accepted_is = λ slice. rw (record_stands problem before w.0 a w.1) (accepts_record check judges problem slice w.0 a w.1);
      }

  -- Of a problem that was taken in, by the bytes that were handed over.
  taken_accepted : {memory number k class own size : ℕ} {span : Trop} {d e f g : Desk} {p before after : List ℕ} {Gives : Giving} → FromOpening Gives memory d → TakesIn memory d p (Desks.ticket number) e → Run Gives memory e k f
      → Collects memory f number before (Desks.collected class span own size) g after → Slice p → check p (take size after) ≡ accepted class span
  taken_accepted {span = span} {p = p} {before = before} opening t run (handed_over {class = class} {own = own} {problem = problem} {a = a} h st room) slice =
      let mine : problem ≡ meant p = desk_holds.ticket_answered opening t run st in
      let v = desk_holds.answers_alone (run_on opening t run) st in
      let w : WithinLayout problem × Answers (problem_of problem) class span own a = (desk_within problem v.0, v.1) in
      let u : WithinLayout (meant p) × Answers (problem_of (meant p)) class span own a = subst (λ (z : List ℕ). WithinLayout z × Answers (problem_of z) class span own a) mine w in
      rw (record_stands problem before w.0 a w.1) (rw mine (accepts_it check judges p slice u.0 a u.1))

  pub collected_accepted : {Gives : Giving} → CollectedAccepted Gives check
  collected_accepted = record { each = each_accepted; taken_in = taken_accepted }
