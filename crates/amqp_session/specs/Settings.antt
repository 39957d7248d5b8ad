-- Part: the promise; every call exactly; other calls.
-- What a session begins with (AMQP 1.0 part 2, section 2.7.2).
use Rattle.std.specs.Prelude.{ℕ, List, Option, None}
use Rattle.amqp_types.specs.Begin.{BeginModel}

pub record SettingsModel : Type 0 where
  pub next_outgoing_id : ℕ
  pub incoming_window : ℕ
  pub outgoing_window : ℕ
  pub handle_max : ℕ
  pub offered_capabilities : Option (List (List ℕ))
  pub desired_capabilities : Option (List (List ℕ))
  pub properties : Option (List ℕ)

abbrev pub default_settings : SettingsModel
default_settings = record {
  next_outgoing_id = 0;
  incoming_window = 5000;
  outgoing_window = 5000;
  handle_max = 4294967295;
  offered_capabilities = None;
  desired_capabilities = None;
  properties = None;
}

-- the Begin that names them, the channel of the Begin that it answers, and the number of the next transfer
abbrev pub begin_of : SettingsModel → Option ℕ → ℕ → BeginModel
begin_of s remote_channel next_outgoing_id = record {
  remote_channel = remote_channel;
  next_outgoing_id = next_outgoing_id;
  incoming_window = s.incoming_window;
  outgoing_window = s.outgoing_window;
  handle_max = s.handle_max;
  offered_capabilities = s.offered_capabilities;
  desired_capabilities = s.desired_capabilities;
  properties = s.properties;
}
