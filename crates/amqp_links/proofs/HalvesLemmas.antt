-- Two halves of a call are the whole one.
use Rattle.std.proofs.Common.{ℕ, ◌≡◌, Option, Some, None, refl, sym, ap, subst}
use Rattle.std.specs.Prelude.{option_map}
use Rattle.std.proofs.lemmas.Option.{none-some}
use Rattle.amqp_credit.specs.declared.receiver.Grant.{Grant}
use Rattle.amqp_links.specs.declared.end.End.{End}
use Rattle.amqp_links.specs.declared.end.End.TheVariants.{Sending, Receiving}
use Rattle.amqp_links.specs.declared.sending.SenderFlow.{SenderFlow}
use Rattle.amqp_links.specs.declared.session.granting.FlowWish.{FlowWish}
use Rattle.amqp_links.specs.declared.session.granting.FlowWish.TheVariants as wish
use Rattle.amqp_links.specs.declared.session.granting.PreparedFlow.{PreparedFlow}
use Rattle.amqp_links.specs.Ends.{end_at}
use Rattle.amqp_links.specs.Granting.{ReceiverSays, SenderSays}
use Rattle.amqp_links.specs.Preparing.{HalvesSend}
use Rattle.amqp_links.specs.PreparingFlow.{FinishesFlow, HalvesSay, PreparesFlow, SaysAt, of_flow, of_grant}
use Rattle.amqp_links.specs.Sending.{SendingView}
use Rattle.amqp_links.specs.Sending as sending
use Rattle.amqp_links.specs.Receiving.{ReceivingView, GrantStep, DrainStep, RenewStep}
use Rattle.amqp_links.specs.Receiving as receiving
use Rattle.amqp_links.specs.Session.{LinksView}
use Rattle.amqp_links.proofs.SessionLemmas.{sends_by}

abbrev some_or : {X : Type 0} → X → Option X → X
some_or d None = d
some_or d (Some x) = x

some_same : {X : Type 0} (a b : X) → Some a ≡ Some b → a ≡ b
some_same a b e = ap (some_or a) e

receiver_by : (Step : ReceivingView → Option Grant → ReceivingView → Type 0) (s next : ReceivingView) (l m : LinksView) (h : ℕ) (q : PreparedFlow)
    (told : Option Grant) → end_at l.ends h ≡ Some (Receiving s) → Step s told next → Some q ≡ option_map (of_grant h next) told
    → FinishesFlow (end_at l.ends q.handle) q l m → ReceiverSays Step s l h (Some q.said) m
receiver_by Step s next l m h q None there step is finishes = absurd (none-some q (sym is))
receiver_by Step s next l m h q (Some g) there step is finishes =
    let e : q ≡ of_grant h next g = some_same q (of_grant h next g) is in
    record {
      told = Some g;
      next = next;
      step = step;
      says = ap (λ (x : PreparedFlow). Some x.said) e;
      left = subst (λ o. FinishesFlow o (of_grant h next g) l m) there (subst (λ (x : PreparedFlow). FinishesFlow (end_at l.ends x.handle) x l m) e finishes);
    }

sender_by : (s next : SendingView) (l m : LinksView) (h available : ℕ) (q : PreparedFlow) (told : Option SenderFlow)
    → end_at l.ends h ≡ Some (Sending s) → sending.AnswerStep s available told next → Some q ≡ option_map (of_flow h next) told
    → FinishesFlow (end_at l.ends q.handle) q l m → SenderSays s available l h (Some q.said) m
sender_by s next l m h available q None there step is finishes = absurd (none-some q (sym is))
sender_by s next l m h available q (Some f) there step is finishes =
    let e : q ≡ of_flow h next f = some_same q (of_flow h next f) is in
    record {
      told = Some f;
      next = next;
      step = step;
      says = ap (λ (x : PreparedFlow). Some x.said) e;
      left = subst (λ o. FinishesFlow o (of_flow h next f) l m) there (subst (λ (x : PreparedFlow). FinishesFlow (end_at l.ends x.handle) x l m) e finishes);
    }

says_by : (wished : FlowWish) (l m : LinksView) (h : ℕ) (q : PreparedFlow) (e : Option End) → end_at l.ends h ≡ e → PreparesFlow wished e h (Some q)
    → FinishesFlow (end_at l.ends q.handle) q l m → SaysAt wished e l h (Some q.said) m
says_by wished l m h q None there prepares finishes = absurd (none-some q (sym prepares))
says_by (wish.Answer n) l m h q (Some (Sending s)) there p finishes = sender_by s p.next l m h n q p.told there p.step p.is finishes
says_by (wish.Grant n) l m h q (Some (Sending s)) there p finishes = absurd (none-some q (sym p))
says_by wish.Drain l m h q (Some (Sending s)) there p finishes = absurd (none-some q (sym p))
says_by wish.Renew l m h q (Some (Sending s)) there p finishes = absurd (none-some q (sym p))
says_by (wish.Grant n) l m h q (Some (Receiving s)) there p finishes =
    receiver_by (λ a told b. GrantStep a n told b) s p.next l m h q p.told there p.step p.is finishes
says_by wish.Drain l m h q (Some (Receiving s)) there p finishes =
    receiver_by (λ a told b. DrainStep a told b) s p.next l m h q p.told there p.step p.is finishes
says_by wish.Renew l m h q (Some (Receiving s)) there p finishes =
    receiver_by (λ a told b. RenewStep a told b) s p.next l m h q p.told there p.step p.is finishes
says_by (wish.Answer n) l m h q (Some (Receiving s)) there p finishes =
    receiver_by (λ a told b. receiving.AnswerStep a told b) s p.next l m h q p.told there p.step p.is finishes

pub halves_say : HalvesSay
halves_say wished l m h q prepares finishes = says_by wished l m h q (end_at l.ends h) refl prepares finishes

pub halves_send : HalvesSend
halves_send v m w h p q given prepares finishes = sends_by v m w h p q given (end_at v.ends h) refl prepares finishes
