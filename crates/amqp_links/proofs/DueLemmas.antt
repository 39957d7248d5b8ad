-- Where no flow is due that renews a link's credit, none is prepared.
use Rattle.std.proofs.Common.{◌≡◌, ℕ, false, Option, Some, None, refl, is_some}
use Rattle.amqp_credit.specs.Receiver.{ReceiverView, renewed, wanted}
use Rattle.amqp_links.specs.declared.end.End.{End}
use Rattle.amqp_links.specs.declared.end.End.TheVariants.{Sending, Receiving}
use Rattle.amqp_links.specs.declared.life.Life.{Life}
use Rattle.amqp_links.specs.declared.life.Life.TheVariants.{Attaching, Refused, Attached, Detaching, Detached}
use Rattle.amqp_links.specs.declared.session.granting.FlowWish.TheVariants.{Renew}
use Rattle.amqp_links.specs.PreparingFlow.{PreparesFlow, due_at}
use Rattle.amqp_links.specs.Receiving.{ReceivingView, RenewsIfAttached, due_if_attached}

none_wanted : (v : ReceiverView) (n : Option ℕ) → is_some n ≡ false → renewed n v None v
none_wanted v None h = (refl, refl)
none_wanted v (Some n) h = absurd cc

none_renewed : (l : Life) (s : ReceivingView) → due_if_attached l s ≡ false → RenewsIfAttached l s None s
none_renewed Attaching s h = (refl, refl)
none_renewed Refused s h = (refl, refl)
none_renewed Attached s h = (none_wanted s.credit (wanted s.credit) h, refl)
none_renewed Detaching s h = (refl, refl)
none_renewed Detached s h = (refl, refl)

pub none_prepared : (e : Option End) (h : ℕ) → due_at e ≡ false → PreparesFlow Renew e h None
none_prepared None h due = refl
none_prepared (Some (Sending s)) h due = refl
none_prepared (Some (Receiving s)) h due = record { told = None; next = s; step = none_renewed s.life s due; is = refl }
