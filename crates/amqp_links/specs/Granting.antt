-- Part: other calls.
-- Flows of a session's links (AMQP 1.0 part 2, sections 2.6.7 and 2.7.4).
use Rattle.std.specs.Prelude.{ℕ, ◌≡◌, Option, Some, None, Result, Ok, option_map}
use Rattle.amqp_credit.specs.declared.receiver.Grant.{Grant}
use Rattle.amqp_links.specs.declared.end.End.{End}
use Rattle.amqp_links.specs.declared.end.End.TheVariants.{Sending, Receiving}
use Rattle.amqp_links.specs.declared.receiving.LinkFault.{LinkFault}
use Rattle.amqp_links.specs.declared.sending.CreditFlow.{CreditFlow}
use Rattle.amqp_links.specs.declared.sending.SenderFlow.{SenderFlow}
use Rattle.amqp_links.specs.declared.session.granting.LinkFlow.{LinkFlow}
use Rattle.amqp_links.specs.Sending.{SendingView, FlowsStep}
use Rattle.amqp_links.specs.Sending as sending
use Rattle.amqp_links.specs.Receiving.{ReceivingView, HeardStep, GrantStep, DrainStep, RenewStep}
use Rattle.amqp_links.specs.Receiving as receiving
use Rattle.amqp_links.specs.Session.{LinksView, PutsEnd}

-- what a flow says of a link: of a sender, and of a receiver
abbrev pub of_sender : SenderFlow → LinkFlow
of_sender f = record { delivery_count = f.delivery_count; link_credit = f.link_credit; available = Some f.available; drain = f.drain }

abbrev pub of_receiver : Grant → LinkFlow
of_receiver g = record { delivery_count = g.delivery_count; link_credit = g.link_credit; available = None; drain = g.drain }

-- a flow of the peer's
abbrev pub FlowsAt : Option End → LinksView → ℕ → CreditFlow → Option (Result ℕ LinkFault) → LinksView → Type 0
FlowsAt None v h f result w = (result ≡ None) × (w ≡ v)
FlowsAt (Some (Sending s)) v h f result w =
    (t : SendingView) × FlowsStep s f t × PutsEnd v h (Sending t) w × (result ≡ Some (Ok 0))
FlowsAt (Some (Receiving s)) v h f result w =
    (t : ReceivingView) × (used : Result ℕ LinkFault) × HeardStep s f.delivery_count f.echo used t × PutsEnd v h (Receiving t) w × (result ≡ Some used)

-- An end that says something in a flow has stepped; and else nothing has changed.
abbrev pub SaysOrNot : {X : Type 0} → Option X → LinksView → ℕ → End → LinksView → Type 0
SaysOrNot None v h next w = w ≡ v
SaysOrNot (Some told) v h next w = PutsEnd v h next w

-- a receiving end says this in a flow, if anything
pub record ReceiverSays (Step : ReceivingView → Option Grant → ReceivingView → Type 0) (s : ReceivingView) (v : LinksView) (h : ℕ)
    (result : Option LinkFlow) (w : LinksView) : Type 0 where
  pub told : Option Grant
  pub next : ReceivingView
  pub step : Step s told next
  pub says : result ≡ option_map of_receiver told
  pub left : SaysOrNot told v h (Receiving next) w

-- the same of a sending end
pub record SenderSays (s : SendingView) (available : ℕ) (v : LinksView) (h : ℕ) (result : Option LinkFlow) (w : LinksView) : Type 0 where
  pub told : Option SenderFlow
  pub next : SendingView
  pub step : sending.AnswerStep s available told next
  pub says : result ≡ option_map of_sender told
  pub left : SaysOrNot told v h (Sending next) w

-- the flow that the peer waits for
abbrev pub AnswersAt : Option End → LinksView → ℕ → ℕ → Option LinkFlow → LinksView → Type 0
AnswersAt None v h available result w = (result ≡ None) × (w ≡ v)
AnswersAt (Some (Sending s)) v h available result w = SenderSays s available v h result w
AnswersAt (Some (Receiving s)) v h available result w = ReceiverSays (λ a told b. receiving.AnswerStep a told b) s v h result w

-- only a receiving end grants
abbrev pub IfReceiver : (ReceivingView → Option Grant → ReceivingView → Type 0) → Option End → LinksView → ℕ → Option LinkFlow → LinksView → Type 0
IfReceiver Step (Some (Receiving s)) v h result w = ReceiverSays Step s v h result w
IfReceiver Step e v h result w = (result ≡ None) × (w ≡ v)

abbrev pub GrantsAt : Option End → LinksView → ℕ → ℕ → Option LinkFlow → LinksView → Type 0
GrantsAt e v h credit result w = IfReceiver (λ a told b. GrantStep a credit told b) e v h result w

abbrev pub DrainsAt : Option End → LinksView → ℕ → Option LinkFlow → LinksView → Type 0
DrainsAt e v h result w = IfReceiver (λ a told b. DrainStep a told b) e v h result w

abbrev pub RenewsAt : Option End → LinksView → ℕ → Option LinkFlow → LinksView → Type 0
RenewsAt e v h result w = IfReceiver (λ a told b. RenewStep a told b) e v h result w
