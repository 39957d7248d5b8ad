-- What a sending end's history says of its life and of its credit.
use Rattle.std.proofs.Common.{◌≡◌, ◌<◌, ◌||◌, ℕ, Bool, true, false, List, [], ◌∷◌, ◌++◌, Option, Some, None}
use Rattle.std.proofs.Common.{Result, Ok, Err, refl, sym, ap, ap₂, ◌∙◌, subst}
use Rattle.amqp_credit.specs.Chain.{Chain}
use Rattle.amqp_credit.specs.Sender.{taken_from, drainable}
use Rattle.amqp_credit.specs.SenderHistory.{SenderCall, SenderStep}
use Rattle.amqp_credit.specs.SenderHistory as credit
use Rattle.amqp_credit.specs.declared.part.PartEnd.{PartEnd}
use Rattle.amqp_credit.specs.declared.part.PartEnd.TheVariants.{More, Last, Aborted}
use Rattle.amqp_credit.proofs.ChainLemmas.{joined, split_of}
use Rattle.amqp_links.specs.declared.life.Life.{Life}
use Rattle.amqp_links.specs.declared.life.Life.TheVariants.{Attaching, Refused, Attached, Detaching, Detached}
use Rattle.amqp_links.specs.declared.sending.CreditFlow.{CreditFlow}
use Rattle.amqp_links.specs.declared.sending.SenderFlow.{SenderFlow}
use Rattle.amqp_links.specs.declared.sending.SendError.{SendError}
use Rattle.amqp_links.specs.Life.{having_detached}
use Rattle.amqp_links.specs.Sending.{SendingView, new_sending, drained, BegunBy, WithinStep, SizedStep, AttachedSend, AnsweredIf, AttachedAnswer}
use Rattle.amqp_links.specs.Sending.{is_drained, is_too_large, size_with, left_under_way, with_limit, flowing}
use Rattle.amqp_links.specs.SendingHistory.{SendingCall, SendingStep, SendingLeadsTo, OfSendings, life_after, life_by, busy_after, busy_by, is_more}
use Rattle.amqp_links.specs.SendingHistory.{counted_of, counted_flow, counted_send, counted_by, counted_in, IsCreditOf, StandsBy, WhereSent, SentWhereAttached, Flowed, Begun}
use Rattle.amqp_links.specs.SendingHistory.{Attaches, Flows, Sends, Answers, Detaches, Ends, AsksLife, AsksCredit, AsksCount, AsksUnderWay}

abbrev pub is_busy : Option ℕ → Bool
is_busy None = false
is_busy (Some n) = true

-- what is done is not refused
abbrev is_done : {A B : Type 0} → Result A B → Type 0
is_done (Ok a) = Unit {0}
is_done (Err b) = ⊥

pub ok≢err : {A B : Type 0} {a : A} {b : B} → Ok a ≡ Err b → ⊥
ok≢err e = subst is_done e tt

-- what a call makes of the credit, by calls of it, and where the link stands then
pub record Made (v m : SendingView) (c : SendingCall) : Type 0 where
  pub calls : List SenderCall
  pub leads : Chain SenderStep v.credit calls m.credit
  pub same : counted_in calls ≡ counted_of v.life (is_busy v.under_way) c
  pub life : m.life ≡ life_after c v.life
  pub busy : is_busy m.under_way ≡ busy_after c (is_busy v.under_way)

credit_is : (v m : SendingView) → m ≡ v → m.credit ≡ v.credit
credit_is v m e = ap (λ (x : SendingView). x.credit) e

life_is : (v m : SendingView) → m ≡ v → m.life ≡ v.life
life_is v m e = ap (λ (x : SendingView). x.life) e

busy_is : (v m : SendingView) → m ≡ v → is_busy m.under_way ≡ is_busy v.under_way
busy_is v m e = ap (λ (x : SendingView). is_busy x.under_way) e

-- a call that changes nothing, and counts for nothing
idle : (v m : SendingView) (c : SendingCall) → m ≡ v → [] ≡ counted_of v.life (is_busy v.under_way) c → life_after c v.life ≡ v.life →
    busy_after c (is_busy v.under_way) ≡ is_busy v.under_way → Made v m c
idle v m c e s l b = record {
  calls = [];
  leads = credit_is v m e;
  same = s;
  life = life_is v m e ∙ sym l;
  busy = busy_is v m e ∙ sym b;
}

-- ---- an Attach

pub limit_credit : (life : Life) (limit : Option ℕ) (v : SendingView) → (with_limit life limit v).credit ≡ v.credit
limit_credit Attaching limit v = refl
limit_credit Refused limit v = refl
limit_credit Attached limit v = refl
limit_credit Detaching limit v = refl
limit_credit Detached limit v = refl

limit_way : (life : Life) (limit : Option ℕ) (v : SendingView) → (with_limit life limit v).under_way ≡ v.under_way
limit_way Attaching limit v = refl
limit_way Refused limit v = refl
limit_way Attached limit v = refl
limit_way Detaching limit v = refl
limit_way Detached limit v = refl

attaches : (v m : SendingView) (accepts : Bool) (limit : Option ℕ) → SendingStep v (Attaches accepts limit) m → Made v m (Attaches accepts limit)
attaches v m accepts limit e = record {
  calls = [];
  leads = ap (λ (x : SendingView). x.credit) e ∙ limit_credit v.life limit v;
  same = refl;
  life = ap (λ (x : SendingView). x.life) e;
  busy = ap is_busy (ap (λ (x : SendingView). x.under_way) e ∙ limit_way v.life limit v);
}

-- ---- a flow

flows : (life : Life) (v m : SendingView) (f : CreditFlow) → v.life ≡ life → m ≡ flowing life f v → Made v m (Flows f)
flows Attached v m f h e = record {
  calls = credit.Flows f.delivery_count f.link_credit f.drain ∷ [];
  leads = (m.credit, ap (λ (x : SendingView). x.credit) e, refl);
  same = ap (λ l. counted_flow l f) (sym h);
  life = ap (λ (x : SendingView). x.life) e;
  busy = ap (λ (x : SendingView). is_busy x.under_way) e;
}
flows Attaching v m f h e = idle v m (Flows f) e (ap (λ l. counted_flow l f) (sym h)) refl refl
flows Refused v m f h e = idle v m (Flows f) e (ap (λ l. counted_flow l f) (sym h)) refl refl
flows Detaching v m f h e = idle v m (Flows f) e (ap (λ l. counted_flow l f) (sym h)) refl refl
flows Detached v m f h e = idle v m (Flows f) e (ap (λ l. counted_flow l f) (sym h)) refl refl

-- ---- a transfer

more_is : (end : PartEnd) (size : ℕ) → is_busy (left_under_way end size) ≡ is_more end
more_is More size = refl
more_is Last size = refl
more_is Aborted size = refl

abbrev Sent : SendingView → SendingView → ℕ → PartEnd → Type 0
Sent v m size end = Made v m (Sends size end (Ok tt))

begun : (v b m : SendingView) (size whole : ℕ) (end : PartEnd) → v.under_way ≡ None → 0 < v.credit.credit →
    b ≡ record v { credit = taken_from 1 v.credit } → m ≡ record b { under_way = left_under_way end whole } → Sent v m size end
begun v b m size whole end none some e f = record {
  calls = credit.Sends (Ok tt) ∷ [];
  leads = (m.credit, (some, ap (λ (x : SendingView). x.credit) f ∙ ap (λ (x : SendingView). x.credit) e), refl);
  same = ap (λ u. counted_send (is_busy u)) (sym none);
  life = ap (λ (x : SendingView). x.life) f ∙ ap (λ (x : SendingView). x.life) e;
  busy = ap (λ (x : SendingView). is_busy x.under_way) f ∙ more_is end whole;
}

begins : (end : PartEnd) (v m : SendingView) (size whole : ℕ) → v.under_way ≡ None → BegunBy v whole end (Ok tt) m → Sent v m size end
begins More v m size whole none h = begun v h.0 m size whole More none h.1.0 h.1.1 h.2
begins Last v m size whole none h = begun v h.0 m size whole Last none h.1.0 h.1.1 h.2
begins Aborted v m size whole none h = absurd (ok≢err h.1.0)

goes_on : (v m : SendingView) (size whole n : ℕ) (end : PartEnd) → v.under_way ≡ Some n →
    m ≡ record v { under_way = left_under_way end whole } → Sent v m size end
goes_on v m size whole n end some e = record {
  calls = [];
  leads = ap (λ (x : SendingView). x.credit) e;
  same = ap (λ u. counted_send (is_busy u)) (sym some);
  life = ap (λ (x : SendingView). x.life) e;
  busy = ap (λ (x : SendingView). is_busy x.under_way) e ∙ more_is end whole;
}

within : (u : Option ℕ) (v m : SendingView) (size whole : ℕ) (end : PartEnd) → v.under_way ≡ u → WithinStep u v whole end (Ok tt) m → Sent v m size end
within None v m size whole end h s = begins end v m size whole h s
within (Some n) v m size whole end h s = goes_on v m size whole n end h s

sized : (b : Bool) (v m : SendingView) (size whole : ℕ) (end : PartEnd) → SizedStep b v whole end (Ok tt) m → Sent v m size end
sized true v m size whole end h = absurd (ok≢err h.0)
sized false v m size whole end h = within v.under_way v m size whole end refl h

sends : (life : Life) (v m : SendingView) (size : ℕ) (end : PartEnd) → AttachedSend life v size end (Ok tt) m → Sent v m size end
sends Attached v m size end h = sized (is_too_large v.limit (size_with v.under_way size end) end) v m size (size_with v.under_way size end) end h
sends Attaching v m size end h = absurd (ok≢err h.0)
sends Refused v m size end h = absurd (ok≢err h.0)
sends Detaching v m size end h = absurd (ok≢err h.0)
sends Detached v m size end h = absurd (ok≢err h.0)

-- what is refused changes nothing
refused_begin : (end : PartEnd) (v m : SendingView) (whole : ℕ) (e : SendError) → BegunBy v whole end (Err e) m → m ≡ v
refused_begin More v m whole e h = h.2
refused_begin Last v m whole e h = h.2
refused_begin Aborted v m whole e h = h.1

refused_within : (u : Option ℕ) (v m : SendingView) (whole : ℕ) (end : PartEnd) (e : SendError) → WithinStep u v whole end (Err e) m → m ≡ v
refused_within None v m whole end e h = refused_begin end v m whole e h
refused_within (Some n) v m whole end e h = absurd h

refused_sized : (b : Bool) (v m : SendingView) (whole : ℕ) (end : PartEnd) (e : SendError) → SizedStep b v whole end (Err e) m → m ≡ v
refused_sized true v m whole end e h = h.1
refused_sized false v m whole end e h = refused_within v.under_way v m whole end e h

pub refused : (life : Life) (v m : SendingView) (size : ℕ) (end : PartEnd) (e : SendError) → AttachedSend life v size end (Err e) m → m ≡ v
refused Attached v m size end e h =
    refused_sized (is_too_large v.limit (size_with v.under_way size end) end) v m (size_with v.under_way size end) end e h
refused Attaching v m size end e h = h.1
refused Refused v m size end e h = h.1
refused Detaching v m size end e h = h.1
refused Detached v m size end e h = h.1

-- ---- what is answered

drained_by : (b : Bool) (v m : SendingView) (available : ℕ) (answer : Option SenderFlow) →
    m ≡ record v { credit = drained b v.credit; echo = false } → Made v m (Answers available answer)
drained_by true v m available answer e = record {
  calls = credit.UsesUp (drainable v.credit) ∷ [];
  leads = (m.credit, (refl, ap (λ (x : SendingView). x.credit) e), refl);
  same = refl;
  life = ap (λ (x : SendingView). x.life) e;
  busy = ap (λ (x : SendingView). is_busy x.under_way) e;
}
drained_by false v m available answer e = record {
  calls = [];
  leads = ap (λ (x : SendingView). x.credit) e;
  same = refl;
  life = ap (λ (x : SendingView). x.life) e;
  busy = ap (λ (x : SendingView). is_busy x.under_way) e;
}

answered : (b : Bool) (v m : SendingView) (available : ℕ) (answer : Option SenderFlow) → AnsweredIf b available v answer m →
    Made v m (Answers available answer)
answered true v m available answer h = drained_by (is_drained available v) v m available answer h.0
answered false v m available answer h = idle v m (Answers available answer) h.1 refl refl refl

answers : (life : Life) (v m : SendingView) (available : ℕ) (answer : Option SenderFlow) → AttachedAnswer life available v answer m →
    Made v m (Answers available answer)
answers Attached v m available answer h = answered (is_drained available v || v.echo) v m available answer h
answers Attaching v m available answer h = idle v m (Answers available answer) h.1 refl refl refl
answers Refused v m available answer h = idle v m (Answers available answer) h.1 refl refl refl
answers Detaching v m available answer h = idle v m (Answers available answer) h.1 refl refl refl
answers Detached v m available answer h = idle v m (Answers available answer) h.1 refl refl refl

-- ---- each call

stands : (v m : SendingView) (c : SendingCall) (life : Life) → m ≡ record v { life = life } → [] ≡ counted_of v.life (is_busy v.under_way) c →
    life ≡ life_after c v.life → is_busy v.under_way ≡ busy_after c (is_busy v.under_way) → Made v m c
stands v m c life e s l b = record {
  calls = [];
  leads = ap (λ (x : SendingView). x.credit) e;
  same = s;
  life = ap (λ (x : SendingView). x.life) e ∙ l;
  busy = ap (λ (x : SendingView). is_busy x.under_way) e ∙ b;
}

made : (v m : SendingView) (c : SendingCall) → SendingStep v c m → Made v m c
made v m (Attaches accepts limit) h = attaches v m accepts limit h
made v m (Flows f) h = flows v.life v m f refl h
made v m (Sends size end (Ok done)) h = sends v.life v m size end h
made v m (Sends size end (Err e)) h = idle v m (Sends size end (Err e)) (refused v.life v m size end e h) refl refl refl
made v m (Answers available answer) h = answers v.life v m available answer h
made v m Detaches h = stands v m Detaches (having_detached v.life) h refl refl refl
made v m (Ends told) h = stands v m (Ends told) Detached h.1 refl refl refl
made v m (AsksLife answer) h = idle v m (AsksLife answer) h.1 refl refl refl
made v m (AsksCredit n) h = idle v m (AsksCredit n) h.1 refl refl refl
made v m (AsksCount n) h = idle v m (AsksCount n) h.1 refl refl refl
made v m (AsksUnderWay answer) h = idle v m (AsksUnderWay answer) h.1 refl refl refl

-- ---- a chain of calls

counted_twice : (a b : List SenderCall) → counted_in (a ++ b) ≡ counted_in a ++ counted_in b
counted_twice [] b = refl
counted_twice (credit.Flows seen granted drain ∷ a) b = ap (λ cs. Flowed seen granted drain ∷ cs) (counted_twice a b)
counted_twice (credit.Sends (Ok done) ∷ a) b = ap (λ cs. Begun ∷ cs) (counted_twice a b)
counted_twice (credit.Sends (Err e) ∷ a) b = counted_twice a b
counted_twice (credit.UsesUp n ∷ a) b = counted_twice a b
counted_twice (credit.AsksCredit n ∷ a) b = counted_twice a b
counted_twice (credit.AsksCount n ∷ a) b = counted_twice a b
counted_twice (credit.AsksDrain answer ∷ a) b = counted_twice a b

pub record MadeBy (v w : SendingView) (H : List SendingCall) : Type 0 where
  pub calls : List SenderCall
  pub leads : Chain SenderStep v.credit calls w.credit
  pub same : counted_in calls ≡ counted_by v.life (is_busy v.under_way) H
  pub life : w.life ≡ life_by v.life H
  pub busy : is_busy w.under_way ≡ busy_by (is_busy v.under_way) H

made_on : (v k w : SendingView) (c : SendingCall) (cs : List SendingCall) → Made v k c → MadeBy k w cs → MadeBy v w (c ∷ cs)
made_on v k w c cs m r = record {
  calls = m.calls ++ r.calls;
  leads = joined SenderStep v.credit k.credit w.credit m.calls r.calls m.leads r.leads;
  same = counted_twice m.calls r.calls ∙ ap₂ (λ xs ys. xs ++ ys) m.same (r.same ∙ ap₂ (λ l b. counted_by l b cs) m.life m.busy);
  life = r.life ∙ ap (λ l. life_by l cs) m.life;
  busy = r.busy ∙ ap (λ b. busy_by b cs) m.busy;
}

pub made_by : (v w : SendingView) (H : List SendingCall) → Chain SendingStep v H w → MadeBy v w H
made_by v w [] h = record { calls = []; leads = credit_is v w h; same = refl; life = life_is v w h; busy = busy_is v w h }
made_by v w (c ∷ cs) h = made_on v h.0 w c cs (made v h.0 c h.1) (made_by h.0 w cs h.2)

-- ---- the law

pub stands_by : OfSendings (λ initial H v. StandsBy H v)
stands_by initial H v h = (made_by (new_sending initial) v H h.1).life

pub is_credit_of : OfSendings (λ initial H v. IsCreditOf initial H v)
is_credit_of initial H v h =
    let m = made_by (new_sending initial) v H h.1 in record { calls = m.calls; leads = (h.0, m.leads); same = m.same }

attached_sent : (life : Life) (v m : SendingView) (size : ℕ) (end : PartEnd) → AttachedSend life v size end (Ok tt) m → life ≡ Attached
attached_sent Attached v m size end h = refl
attached_sent Attaching v m size end h = absurd (ok≢err h.0)
attached_sent Refused v m size end h = absurd (ok≢err h.0)
attached_sent Detaching v m size end h = absurd (ok≢err h.0)
attached_sent Detached v m size end h = absurd (ok≢err h.0)

where_sent : (v m : SendingView) (c : SendingCall) (life : Life) → v.life ≡ life → SendingStep v c m → WhereSent c (life ≡ Attached)
where_sent v m (Sends size end (Ok done)) life e h = sym e ∙ attached_sent v.life v m size end h
where_sent v m (Sends size end (Err error)) life e h = tt
where_sent v m (Attaches accepts limit) life e h = tt
where_sent v m (Flows f) life e h = tt
where_sent v m (Answers available answer) life e h = tt
where_sent v m Detaches life e h = tt
where_sent v m (Ends told) life e h = tt
where_sent v m (AsksLife answer) life e h = tt
where_sent v m (AsksCredit n) life e h = tt
where_sent v m (AsksCount n) life e h = tt
where_sent v m (AsksUnderWay answer) life e h = tt

pub sent_where_attached : OfSendings (λ initial H v. SentWhereAttached H)
sent_where_attached initial H v h before after c e =
    let s = split_of SendingStep (new_sending initial) v H before after c h.1 e in
    where_sent s.at s.next c (life_by Attaching before) (made_by (new_sending initial) s.at before s.reached).life s.step

-- whether a delivery is under way, by the history
pub is_busy_by : (initial : ℕ) (H : List SendingCall) (v : SendingView) → SendingLeadsTo initial H v → is_busy v.under_way ≡ busy_by false H
is_busy_by initial H v h = (made_by (new_sending initial) v H h.1).busy
