-- Part: other calls.
-- A client and the links of its sessions: which session has any, and what a call on one of them does.
use Rattle.std.specs.Prelude.{◌≡◌, ℕ, Bool, Option, Some, None, is_some}
use Rattle.std.specs.FinMap as map
use Rattle.amqp_types.specs.declared.states.ConnectionState.{ConnectionState}
use Rattle.amqp_driver.specs.declared.plain.PlainRelay.{PlainRelay}
use Rattle.amqp_driver.specs.Stream.{StreamView}
use Rattle.amqp_links.specs.declared.end.End.{End}
use Rattle.amqp_links.specs.declared.end.End.TheVariants as end
use Rattle.amqp_links.specs.Ends.{end_at}
use Rattle.amqp_endpoints.specs.declared.event.LinkAnswer.{LinkAnswer}
use Rattle.amqp_endpoints.specs.declared.event.LinkAnswer.TheVariants as answer
use Rattle.amqp_endpoints.specs.Endpoint.{EndpointView, new_endpoint}
use Rattle.amqp1.specs.declared.status.Status.{Status}
use Rattle.amqp1.specs.declared.status.Status.TheVariants as status
use Rattle.amqp1.specs.ClientView.{ClientView}
use Rattle.amqp1.specs.OccupantView.{OccupantView}
use Rattle.amqp1.specs.Refused.{RefusedModel, last_by}
use Rattle.amqp1.specs.Status.{status_of}

-- a client whose sessions have no links
abbrev pub newly : ClientView → OccupantView
newly c = record { client = c; links = map.empty }

-- the links of the session that has this number, if it has any
abbrev pub links_of : OccupantView → ℕ → Option EndpointView
links_of o n = map.get o.links n

-- The client takes a step, and no session's links change.
abbrev pub OnClient : (ClientView → ClientView → Type 0) → OccupantView → OccupantView → Type 0
OnClient Step o o' = Step o.client o'.client × (o'.links ≡ o.links)

-- The session has links: those that it had, or none of them yet.
abbrev pub ProvidesBy : Option EndpointView → OccupantView → ℕ → OccupantView → Type 0
ProvidesBy (Some v) o n o' = o' ≡ o
ProvidesBy None o n o' = o' ≡ record o { links = map.insert o.links n (new_endpoint (record { 0 = n })) }

abbrev pub Provides : OccupantView → ℕ → OccupantView → Type 0
Provides o n o' = ProvidesBy (links_of o n) o n o'

-- The session has none any more.
abbrev pub ForgetsLinks : OccupantView → ℕ → Bool → OccupantView → Type 0
ForgetsLinks o n had o' = (had ≡ is_some (links_of o n)) × (o' ≡ record o { links = map.remove o.links n })

-- ---- what is seen of a link

abbrev pub credit_of : Option End → ℕ
credit_of None = 0
credit_of (Some (end.Sending s)) = s.credit.credit
credit_of (Some (end.Receiving r)) = r.credit.credit

abbrev pub credit_at : Option EndpointView → ℕ → ℕ
credit_at None h = 0
credit_at (Some v) h = credit_of (end_at v.links.ends h)

-- ---- what is requested on a link

abbrev pub said_status : LinkAnswer → Status
said_status answer.NotWanted = status.Nothing
said_status answer.HeldBack = status.HeldBack
said_status (answer.Asked a) = status_of a

abbrev pub last_said : RefusedModel → ConnectionState → LinkAnswer → RefusedModel
last_said last s (answer.Asked a) = last_by last s a
last_said last s answer = last

-- a step of the links of a session and of the stream, which may be a request
abbrev pub Saying : Type 1
Saying = EndpointView → StreamView PlainRelay → LinkAnswer → StreamView PlainRelay → EndpointView → Type 0

-- The links take that step, with the stream of the client; the status says what became of the request, and a refusal is kept.
abbrev pub LinksSay : Saying → EndpointView → ClientView → Status → ClientView → EndpointView → Type 0
LinksSay Step v c s c' w = (a : LinkAnswer) × Step v c.stream a c'.stream w × (s ≡ said_status a)
    × (c'.last ≡ last_said c.last c'.stream.driver.engine.connection.state a)

-- The links of the session do. Nothing happens where there are none.
abbrev pub SaysBy : Option EndpointView → Saying → ℕ → OccupantView → Status → OccupantView → Type 0
SaysBy None Step n o s o' = (s ≡ status.Nothing) × (o' ≡ o)
SaysBy (Some v) Step n o s o' = (w : EndpointView) × LinksSay Step v o.client s o'.client w × (o'.links ≡ map.insert o.links n w)

abbrev pub Says : Saying → ℕ → OccupantView → Status → OccupantView → Type 0
Says Step n o s o' = SaysBy (links_of o n) Step n o s o'
