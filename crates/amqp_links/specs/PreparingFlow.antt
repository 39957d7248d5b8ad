-- Part: other calls.
-- A flow of a link is said in two halves, where memory for it may still be refused (AMQP 1.0 part 2, sections 2.6.7 and 2.7.4).
use Rattle.std.specs.Prelude.{ℕ, ◌≡◌, Bool, false, Option, Some, None, option_map}
use Rattle.amqp_credit.specs.declared.receiver.Grant.{Grant}
use Rattle.amqp_links.specs.declared.end.End.{End}
use Rattle.amqp_links.specs.declared.end.End.TheVariants.{Sending, Receiving}
use Rattle.amqp_links.specs.declared.sending.SenderFlow.{SenderFlow}
use Rattle.amqp_links.specs.declared.session.granting.FlowWish.{FlowWish}
use Rattle.amqp_links.specs.declared.session.granting.FlowWish.TheVariants as wish
use Rattle.amqp_links.specs.declared.session.granting.LinkFlow.{LinkFlow}
use Rattle.amqp_links.specs.declared.session.granting.PreparedFlow.{PreparedFlow}
use Rattle.amqp_links.specs.Ends.{end_at}
use Rattle.amqp_links.specs.Granting.{AnswersAt, GrantsAt, DrainsAt, RenewsAt, of_sender, of_receiver}
use Rattle.amqp_links.specs.Sending.{SendingView}
use Rattle.amqp_links.specs.Sending as sending
use Rattle.amqp_links.specs.Receiving.{ReceivingView, GrantStep, DrainStep, RenewStep, is_renewal_due}
use Rattle.amqp_links.specs.Receiving as receiving
use Rattle.amqp_links.specs.Session.{LinksView, PutsEnd}

-- the call of a wish
abbrev pub SaysAt : FlowWish → Option End → LinksView → ℕ → Option LinkFlow → LinksView → Type 0
SaysAt (wish.Grant n) e v h result w = GrantsAt e v h n result w
SaysAt wish.Drain e v h result w = DrainsAt e v h result w
SaysAt wish.Renew e v h result w = RenewsAt e v h result w
SaysAt (wish.Answer n) e v h result w = AnswersAt e v h n result w

-- what a receiving end says for it
abbrev pub WishStep : FlowWish → ReceivingView → Option Grant → ReceivingView → Type 0
WishStep (wish.Grant n) s told t = GrantStep s n told t
WishStep wish.Drain s told t = DrainStep s told t
WishStep wish.Renew s told t = RenewStep s told t
WishStep (wish.Answer n) s told t = receiving.AnswerStep s told t

abbrev pub of_grant : ℕ → ReceivingView → Grant → PreparedFlow
of_grant h t g = record { handle = h; said = of_receiver g; end = Receiving t }

abbrev pub of_flow : ℕ → SendingView → SenderFlow → PreparedFlow
of_flow h t f = record { handle = h; said = of_sender f; end = Sending t }

-- what it says, if anything, and where it stands then
pub record PreparesReceiver (wished : FlowWish) (s : ReceivingView) (h : ℕ) (result : Option PreparedFlow) : Type 0 where
  pub told : Option Grant
  pub next : ReceivingView
  pub step : WishStep wished s told next
  pub is : result ≡ option_map (of_grant h next) told

-- the same of a sending end, which only answers
pub record AnswersSender (s : SendingView) (available h : ℕ) (result : Option PreparedFlow) : Type 0 where
  pub told : Option SenderFlow
  pub next : SendingView
  pub step : sending.AnswerStep s available told next
  pub is : result ≡ option_map (of_flow h next) told

abbrev pub PreparesSender : FlowWish → SendingView → ℕ → Option PreparedFlow → Type 0
PreparesSender (wish.Answer n) s h result = AnswersSender s n h result
PreparesSender wished s h result = result ≡ None

abbrev pub PreparesFlow : FlowWish → Option End → ℕ → Option PreparedFlow → Type 0
PreparesFlow wished None h result = result ≡ None
PreparesFlow wished (Some (Sending s)) h result = PreparesSender wished s h result
PreparesFlow wished (Some (Receiving s)) h result = PreparesReceiver wished s h result

-- a flow would renew the credit of the link
abbrev pub due_at : Option End → Bool
due_at None = false
due_at (Some (Sending s)) = false
due_at (Some (Receiving s)) = is_renewal_due s

-- The end stands as after the flow.
abbrev pub FinishesFlow : Option End → PreparedFlow → LinksView → LinksView → Type 0
FinishesFlow None q v w = w ≡ v
FinishesFlow (Some e) q v w = PutsEnd v q.handle q.end w

-- A flow that is prepared and then finished is what the whole call says.
abbrev pub HalvesSay : Type 0
HalvesSay = (wished : FlowWish) (l m : LinksView) (h : ℕ) (q : PreparedFlow) → PreparesFlow wished (end_at l.ends h) h (Some q)
    → FinishesFlow (end_at l.ends q.handle) q l m → SaysAt wished (end_at l.ends h) l h (Some q.said) m
