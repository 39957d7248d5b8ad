use Rattle.amqp_session.proofs.session.Session.numbers_of.Goals as goal

pub returns-clause-fits : goal.returns-clause-fits
returns-clause-fits g c = rw (← c.flow.view_is, ← c.self.view_is, ← c.self-inside.view_is) record {
  incoming_window = c.new.ensures.incoming_window;
  base = rw c.unwrap_or.ensures at c.new.ensures.base;
  next_outgoing_id = c.new.ensures.next_outgoing_id;
  outgoing_window = c.new.ensures.outgoing_window;
}
