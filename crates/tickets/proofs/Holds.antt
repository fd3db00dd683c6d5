-- All that document 02 says of every sequence of calls on a desk.
use Rattle.definitions.specs.Solved.{Giving}
use Rattle.definitions.specs.DeskLaws.{DeskHolds}
use Rattle.duality.proofs.Classes.{found_one}
use Rattle.tickets.proofs.Sound.{desk_few, waits_fit, answered_fit, from_opening_sound}
use Rattle.tickets.proofs.Reported.{reported_by_trials, reported_within, waiting_or_reported}
use Rattle.tickets.proofs.Turns.{turns_waiting, turns_answered}
use Rattle.tickets.proofs.Changes.{stepped_given, collected_given, answered_given}
use Rattle.tickets.proofs.Tickets.{waits_mine, answered_mine, held_some, from_opening_apart, collected_gone, tickets_later, tickets_next}
use Rattle.tickets.proofs.Places.{freed_usable, room_ticket, kept_or_handed, reported_answered}
use Rattle.tickets.proofs.Outcomes.{waiting_still, idle_still, unheld_still, handed_so, short_still, refused_taking, refused_steps, refused_collects, taking_short, step_short, collecting_short, busy}

pub desk_holds : {Gives : Giving} → DeskHolds Gives
desk_holds = record {
  own_trials = λ f st. (waits_fit (from_opening_sound f) st).1;
  trials_of_answered = λ f st. let h = answered_fit (from_opening_sound f) st in desk_few _ h.0 h.1.found;
  own_waiting = turns_waiting;
  own_answered = turns_answered;
  steps_after = reported_within;
  steps_by_trials = reported_by_trials;
  held_until_reported = waiting_or_reported;
  ticket_waits = waits_mine;
  ticket_answered = answered_mine;
  answers_alone = λ f st. let h = answered_fit (from_opening_sound f) st in (h.0, h.1, answered_given f st);
  independent = λ f g st same.
      let e = found_one (answered_fit (from_opening_sound f) st).1.found (answered_fit (from_opening_sound g) same).1.found in
      (e.0, e.1, e.2, λ v. v.one _ _ _ (answered_given f st) (answered_given g same));
  short_taking = taking_short;
  short_step = step_short;
  short_collecting = collecting_short;
  busy_tells = busy;
  waiting_says_so = waiting_still;
  idle_says_so = idle_still;
  unheld_says_so = unheld_still;
  answered_handed = λ o h st room c. handed_so o h st room c;
  short_says_so = λ o h st room c. short_still o h st room c;
  room_taken = room_ticket;
  usable_again = freed_usable;
  reported_held = reported_answered;
  kept_until_handed = kept_or_handed;
  first_ticket = λ t. (tickets_next t).0;
  tickets_count = tickets_next;
  steps_give_none = stepped_given;
  collecting_gives_none = collected_given;
  refused_still = refused_taking;
  refused_step = refused_steps;
  refused_collecting = refused_collects;
  held_given = held_some;
  tickets_apart = λ o. (from_opening_apart o).apart;
  collected_once = collected_gone;
  tickets_rise = tickets_later;
}
