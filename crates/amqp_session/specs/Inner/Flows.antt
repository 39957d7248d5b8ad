-- Part: inner.
-- The numbers of a flow, by which the windows move.
use Rattle.amqp_types.specs.Flow.{FlowModel}
use Rattle.amqp_session.specs.declared.session.flows.FlowNumbers.{FlowNumbers}
use Rattle.amqp_session.specs.Sending.{moved}
use Rattle.amqp_session.specs.Receiving.{numbered_anew}
use Rattle.amqp_session.specs.Session.{SessionView}
use Rattle.amqp_session.specs.Step.{flow_base}

-- those that a flow says
abbrev pub numbers_of : {R : Type 0} → SessionView R → FlowModel → FlowNumbers
numbers_of v f = record { base = flow_base v f; incoming_window = f.incoming_window; next_outgoing_id = f.next_outgoing_id; outgoing_window = f.outgoing_window }

-- the session with both windows as they say
abbrev pub moved_by : {R : Type 0} → FlowNumbers → SessionView R → SessionView R
moved_by n v = record v {
  sending = moved v.sending n.base n.incoming_window;
  receiving = numbered_anew n.next_outgoing_id n.outgoing_window v.receiving;
}
