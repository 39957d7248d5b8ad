-- Part: other calls.
-- What contracts see of what lies in a place.
use Rattle.std.specs.FinMap as map
use Rattle.std.specs.Ordering.{nat_cmp}
use Rattle.amqp_endpoints.specs.Endpoint.{EndpointView}
use Rattle.amqp1.specs.ClientView.{ClientView}

-- the links of sessions, by the session's number
abbrev pub LinksTable : Type 0
LinksTable = map.FinMap nat_cmp EndpointView

-- a client, and the links of each of its sessions that has any
pub record OccupantView : Type 0 where
  pub client : ClientView
  pub links : LinksTable
