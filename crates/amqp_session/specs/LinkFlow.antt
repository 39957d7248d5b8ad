-- Part: every call exactly; other calls.
-- The part of a Flow that speaks of one link (AMQP 1.0 part 2, section 2.7.4).
use Rattle.std.specs.Prelude.{ℕ, Option, None, false}
use Rattle.std.specs.Option.{option_map}
use Rattle.amqp_types.specs.Flow.{FlowModel}
use Rattle.amqp_session.specs.declared.flow.LinkFlow.{LinkFlow}

-- the link's fields of a flow, under this handle
abbrev pub link_flow_of : ℕ → FlowModel → LinkFlow
link_flow_of h f = record {
  handle = record { 0 = h };
  delivery_count = f.delivery_count;
  link_credit = f.link_credit;
  available = f.available;
  drain = f.drain;
  echo = f.echo;
  properties = f.properties;
}

-- the link's part of a flow, where it names a link
abbrev pub link_part : FlowModel → Option LinkFlow
link_part f = option_map (λ h. link_flow_of h f) f.handle

-- a flow of a link that says nothing of it but its handle
abbrev pub plain_link_flow : ℕ → LinkFlow
plain_link_flow h = record {
  handle = record { 0 = h };
  delivery_count = None;
  link_credit = None;
  available = None;
  drain = false;
  echo = false;
  properties = None;
}
