-- Part: every call exactly.
-- The numbers of what the peer sends (AMQP 1.0 part 2, section 2.5.6).
use Rattle.std.specs.Prelude.{ℕ, ◌+◌, ◌-◌, ◌%◌, ◌^◌, min}
use Rattle.amqp_session.specs.declared.session.receiving.Receiving.{Receiving}

abbrev pub nothing_received : Receiving
nothing_received = record { next_incoming_id = 0; remote_outgoing_window = 0; unreported = 0 }

-- a Begin or a Flow of the peer says its next number and its outgoing window
abbrev pub numbered_anew : ℕ → ℕ → Receiving → Receiving
numbered_anew next window r = record r { next_incoming_id = next; remote_outgoing_window = window }

-- a transfer came: its window falls, but not below 0, and the count of transfers since the last session flow grows
abbrev pub counted : Receiving → Receiving
counted r = record {
  next_incoming_id = (r.next_incoming_id + 1) % 2 ^ 32;
  remote_outgoing_window = r.remote_outgoing_window - 1;
  unreported = min (r.unreported + 1) 4294967295;
}

-- a session flow went out
abbrev pub reported : Receiving → Receiving
reported r = record r { unreported = 0 }
