use Rattle.desk.proofs.Looking.{ticket_some, ticket_zero}
use Rattle.desk_words.proofs.stored.place_of.Goals as goal

pub returns-then-ticket-eq0 : goal.returns-then-ticket-eq0
returns-then-ticket-eq0 c = ticket_zero c.if-ticket-eq0.true

pub returns : goal.returns
returns c = ticket_some c.if-ticket-eq0.false c.place_with.ensures
