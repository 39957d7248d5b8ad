-- Part: every call exactly; other calls.
-- What contracts see of a session, and the frames that it makes (AMQP 1.0 part 2, sections 2.5 and 2.7).
use Rattle.std.specs.Prelude.{ℕ, List, [], Option, Some, None, Bool, false, if◌then◌else◌, ◌/◌, nat_le}
use Rattle.amqp_types.specs.Error.{ErrorModel}
use Rattle.amqp_types.specs.Flow.{FlowModel}
use Rattle.amqp_types.specs.declared.states.SessionState.{SessionState}
use Rattle.amqp_session.specs.declared.deliveries.WalkCount.{WalkCount}
use Rattle.amqp_session.specs.declared.flow.LinkFlow.{LinkFlow}
use Rattle.amqp_session.specs.declared.keys.KeyHash.{KeyHash}
use Rattle.amqp_session.specs.declared.frame.SessionFrame.{SessionFrame}
use Rattle.amqp_session.specs.declared.frame.SessionFrameBody.TheVariants as Body
use Rattle.amqp_session.specs.declared.session.receiving.Receiving.{Receiving}
use Rattle.amqp_session.specs.declared.stop.ConnectionStopReason.{ConnectionStopReason}
use Rattle.amqp_session.specs.declared.stop.SessionStopReason.{SessionStopReason}
use Rattle.amqp_session.specs.Settings.{SettingsModel, begin_of}
use Rattle.amqp_session.specs.States.{is_mapped}
use Rattle.amqp_session.specs.Sending.{SendingView, new_sending, let_out, opened_by, drained}
use Rattle.amqp_session.specs.Receiving.{nothing_received}
use Rattle.amqp_session.specs.Deliveries.{OpenReads, OpenView}
use Rattle.amqp_session.specs.Links.{LinksView, no_links}

pub record SessionView (R : Type 0) : Type 0 where
  pub state : SessionState
  pub settings : SettingsModel
  pub outgoing_channel : ℕ
  pub incoming_channel : Option ℕ  -- that of the Begin that was received
  pub connection_stop : Option ConnectionStopReason
  pub session_stop : Option SessionStopReason
  pub sending : SendingView
  pub receiving : Receiving
  pub links : LinksView R
  pub deliveries : OpenView

-- A session as contracts see it: its view, and beside it the counts of its latest walk, and what its tables of open deliveries
-- have counted.
pub record SessionModel (R : Type 0) : Type 0 where
  pub view : SessionView R
  pub last_walk : WalkCount
  pub reads : OpenReads

abbrev pub new_session : {R : Type 0} → KeyHash → SettingsModel → ℕ → SessionState → Option ConnectionStopReason → SessionView R
new_session hash settings channel state stop = record {
  state = state;
  settings = settings;
  outgoing_channel = channel;
  incoming_channel = None;
  connection_stop = stop;
  session_stop = None;
  sending = new_sending settings.next_outgoing_id;
  receiving = nothing_received;
  links = no_links hash;
  deliveries = record { receiver = []; sender = [] };
}

-- the Begin that is sent: the settings, with the number of the next transfer (section 2.7.2)
abbrev pub begin_frame : {R : Type 0} → SessionView R → SessionFrame
begin_frame v = record {
  channel = v.outgoing_channel;
  body = Body.Begin (begin_of v.settings v.incoming_channel v.sending.next_outgoing_id);
}

-- the End that is sent (section 2.7.8)
abbrev pub end_frame : {R : Type 0} → SessionView R → Option ErrorModel → SessionFrame
end_frame v error = record { channel = v.outgoing_channel; body = Body.End (record { error = error }) }

-- a Flow that speaks of the session alone (section 2.7.4)
abbrev pub session_flow : {R : Type 0} → SessionView R → FlowModel
session_flow v = record {
  next_incoming_id = Some v.receiving.next_incoming_id;
  incoming_window = v.settings.incoming_window;
  next_outgoing_id = v.sending.next_outgoing_id;
  outgoing_window = v.settings.outgoing_window;
  handle = None;
  delivery_count = None;
  link_credit = None;
  available = None;
  drain = false;
  echo = false;
  properties = None;
}

abbrev pub session_flow_frame : {R : Type 0} → SessionView R → SessionFrame
session_flow_frame v = record { channel = v.outgoing_channel; body = Body.Flow (session_flow v) }

-- a Flow that speaks of a link too
abbrev pub flow_frame : {R : Type 0} → SessionView R → LinkFlow → SessionFrame
flow_frame v l = record {
  channel = v.outgoing_channel;
  body = Body.Flow (record (session_flow v) {
    handle = Some l.handle.0;
    delivery_count = l.delivery_count;
    link_credit = l.link_credit;
    available = l.available;
    drain = l.drain;
    echo = l.echo;
    properties = l.properties;
  });
}

-- Transfers go out in Mapped alone: no transfer may come before a Begin of the peer, or after an End.
abbrev pub lets : {R : Type 0} → SessionView R → List SessionFrame
lets v = if is_mapped v.state then let_out v.outgoing_channel v.sending else []

-- the session after what it lets out
abbrev pub let_gone : {R : Type 0} → SessionView R → SessionView R
let_gone v = record v {
  sending = if is_mapped v.state then drained v.sending else v.sending;
  deliveries =
      record v.deliveries { receiver = if is_mapped v.state then opened_by v.sending v.deliveries.receiver else v.deliveries.receiver };
}

-- a session flow is due: half of the incoming window, rounded down, has come since the last one
abbrev pub is_due : {R : Type 0} → SessionView R → Bool
is_due v = if is_mapped v.state then nat_le (v.settings.incoming_window / 2) v.receiving.unreported else false
