-- Part: other calls.
-- What a link owes for what came, and sends (AMQP 1.0 part 2, sections 2.6.3 to 2.6.14 and 2.7.4).
use Rattle.std.specs.Prelude.{ℕ, ◌≡◌, None}
use Rattle.amqp_session.specs.Relay.{Relays}
use Rattle.amqp_driver.specs.Stream.{StreamView}
use Rattle.amqp_links.specs.declared.session.granting.FlowWish.TheVariants as wish
use Rattle.amqp_endpoints.specs.declared.event.LinkAnswer.{LinkAnswer}
use Rattle.amqp_endpoints.specs.declared.event.LinkEvent.{LinkEvent}
use Rattle.amqp_endpoints.specs.declared.event.LinkEvent.TheVariants as event
use Rattle.amqp_endpoints.specs.Endpoint.{EndpointView}
use Rattle.amqp_endpoints.specs.Flowing.{Detaches, Pays, Releases, SaysFlow}
use Rattle.amqp_endpoints.specs.Forgetting.{EndsAfter, PassesAfter, RenewsAfter, settled_number}
use Rattle.amqp_endpoints.specs.Places.{place_at}
use Rattle.amqp_endpoints.specs.Waiting.{SendsNone}

-- A link that is attached, or has told a part, renews its credit; a flow is answered where the peer asks for it; a fault ends the link; and a Detach of the
-- peer's is answered, where this side has sent none; what is due is paid. What is settled, at fault or passed over the session lets go first. Any other event
-- asks for nothing.
abbrev pub Responds : {R : Type 0} → Relays R → EndpointView → StreamView R → LinkEvent → ℕ → LinkAnswer → StreamView R → EndpointView → Type 0
Responds g v s (event.Attached h life) available answer s' w = SaysFlow g v s h wish.Renew answer s' w
Responds g v s (event.Part h told) available answer s' w = RenewsAfter (settled_number told) g v s h answer s' w
Responds g v s (event.Flow h used) available answer s' w = SaysFlow g v s h (wish.Answer available) answer s' w
Responds g v s (event.Fault h f n) available answer s' w = EndsAfter n g v s h f answer s' w
Responds g v s (event.PassedOver h n) available answer s' w = PassesAfter n g v s answer s' × (w ≡ v)
Responds g v s (event.Ended h end closed) available answer s' w = Detaches g v s h closed None answer s' w
Responds g v s (event.Due h) available answer s' w = Pays (place_at v.places h).owes g v s h available answer s' w
Responds g v s (event.Settled role first last by_peer) available answer s' w = Releases by_peer g v s role first last answer s' × (w ≡ v)
Responds g v s event.Nothing available answer s' w = SendsNone v s answer s' w
