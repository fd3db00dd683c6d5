use Rattle.counting.proofs.Leads.{blank_field, whole_field}
use Rattle.counting.proofs.small.lead_field.Goals as goal

pub returns-then-number-eq0 : goal.returns-then-number-eq0
returns-then-number-eq0 c = blank_field _ _ c.if-number-eq0.true

pub returns : goal.returns
returns c = whole_field _ _ _ c.requires.0 c.if-number-eq0.false c.requires.1 c.offset.ensures.0
