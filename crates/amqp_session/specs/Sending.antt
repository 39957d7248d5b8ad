-- Part: every call exactly; other calls; inner.
-- What contracts see of the sending half of a session (AMQP 1.0 part 2, section 2.5.6).
use Rattle.std.specs.Prelude.{ℕ, ◌+◌, ◌-◌, ◌%◌, ◌^◌, List, [], ◌∷◌, ◌++◌, length, take, drop, min}
use Rattle.amqp_session.specs.declared.deliveries.Delivery.{Delivery}
use Rattle.amqp_session.specs.declared.frame.SessionFrame.{SessionFrame}
use Rattle.amqp_session.specs.Serial.{remaining}
use Rattle.amqp_session.specs.Transfers.{RequestedTransfer, numbered, firsts, opened}

pub record SendingView : Type 0 where
  pub next_outgoing_id : ℕ  -- the number of the next transfer
  pub remote_incoming_window : ℕ  -- how many transfers may still go out
  pub next_delivery : ℕ  -- the number of the next delivery
  pub held : List RequestedTransfer  -- the transfers that wait, the oldest first

abbrev pub new_sending : ℕ → SendingView
new_sending n = record { next_outgoing_id = n; remote_incoming_window = 0; next_delivery = 0; held = [] }

-- a transfer waits after the others
abbrev pub joined : SendingView → RequestedTransfer → SendingView
joined v h = record v { held = v.held ++ h ∷ [] }

-- a received Begin gives the window
abbrev pub begun : SendingView → ℕ → SendingView
begun v width = record v { remote_incoming_window = width }

-- a received Flow gives the window, from this number on
abbrev pub moved : SendingView → ℕ → ℕ → SendingView
moved v base width = record v { remote_incoming_window = remaining v.next_outgoing_id (base, width) }

-- how many transfers the window lets out
abbrev pub ready_count : SendingView → ℕ
ready_count v = min v.remote_incoming_window (length v.held)

-- their frames, on this channel
abbrev pub let_out : ℕ → SendingView → List SessionFrame
let_out channel v = numbered channel v.next_delivery (take v.remote_incoming_window v.held)

-- the deliveries that are open with them
abbrev pub opened_by : SendingView → List Delivery → List Delivery
opened_by v rows = opened v.next_delivery (take v.remote_incoming_window v.held) rows

-- what is left after them
abbrev pub drained : SendingView → SendingView
drained v = record v {
  next_outgoing_id = (v.next_outgoing_id + min v.remote_incoming_window (length v.held)) % 2 ^ 32;
  remote_incoming_window = v.remote_incoming_window - length v.held;
  next_delivery = (v.next_delivery + firsts (take v.remote_incoming_window v.held)) % 2 ^ 32;
  held = drop v.remote_incoming_window v.held;
}

-- The number of the next delivery that is accepted: past those that wait, each of which keeps its own. What waits later is numbered
-- later, so it is known before that one goes out (section 2.6.12).
abbrev pub number_shown : SendingView → ℕ
number_shown v = (v.next_delivery + firsts v.held) % 2 ^ 32
