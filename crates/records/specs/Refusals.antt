-- Refusals and their numbers, and what a function that may refuse answers. Document 01, "What is turned away".
use Rattle.std.specs.Prelude.{ℕ, Result, Ok, Err}
use Rattle.definitions.specs.Limits.{refused_short, refused_length, refused_kind, refused_limits, refused_size, refused_lead, refused_room, refused_answer_short, refused_answer_length, refused_answer_class, refused_answer_size, refused_form, refused_pick, refused_count, refused_silent, refused_state, refused_full, refused_ticket, refused_memory, refused_shift, refused_rule, refused_early, refused_census}
use Rattle.definitions.specs.Bytes.{Outcome, refusal, gives}
use Rattle.records.specs.declared.refusal.Refusal.{Refusal}
use Rattle.records.specs.declared.refusal.Refusal.TheVariants.{Short, Length, Kind, Limits, Size, Lead, Room, AnswerShort, AnswerLength, AnswerClass, AnswerSize, Form, Pick, NotCertified, Count, Bottomless, Silent, NoText, Week, State, Full, Ticket, Memory, Shift, Rule, Early, Census}

-- The number of a refusal.
abbrev pub number_of : Refusal → ℕ
number_of Short = refused_short
number_of Length = refused_length
number_of Kind = refused_kind
number_of Limits = refused_limits
number_of Size = refused_size
number_of Lead = refused_lead
number_of Room = refused_room
number_of AnswerShort = refused_answer_short
number_of AnswerLength = refused_answer_length
number_of AnswerClass = refused_answer_class
number_of AnswerSize = refused_answer_size
number_of Form = refused_form
number_of Pick = refused_pick
number_of NotCertified = 14
number_of Count = refused_count
number_of Bottomless = 16
number_of Silent = refused_silent
number_of NoText = 18
number_of Week = 19
number_of State = refused_state
number_of Full = refused_full
number_of Ticket = refused_ticket
number_of Memory = refused_memory
number_of Shift = refused_shift
number_of Rule = refused_rule
number_of Early = refused_early
number_of Census = refused_census

-- The number with which something was refused, 0 where it was not.
abbrev pub refused_by : {A : Type 0} → Result A Refusal → ℕ
refused_by (Ok x) = 0
refused_by (Err r) = number_of r

-- What a function that may refuse answers, in the definitions' form.
abbrev pub outcome_by : {A B : Type 0} → (A → B) → Result A Refusal → Outcome B
outcome_by f (Ok x) = gives (f x)
outcome_by f (Err r) = refusal (number_of r)
