use Rattle.look.proofs.Tables.{decoded_held}
use Rattle.class_answers.proofs.answer.solve_tables.Goals as goal

pub returns : goal.returns
returns c = let o = c.frame_of-frame.ensures in record {
  given = rw (← o.n_is, ← o.m_is, ← o.left_is, ← o.right_is) c.answer_of.ensures.given;
  answers = λ p d e g.
      rw (← o.n_is, ← o.m_is) (c.answer_of.ensures.answers p (rw (o.n_is, o.m_is, o.left_is, o.right_is) (decoded_held e g d)));
}
