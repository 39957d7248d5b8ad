-- What holds of every history of both ends of a link.
use Rattle.std.proofs.Common.{◌≡◌, ◌+◌, ◌%◌, ◌^◌, ◌≤◌, ℕ, List, [], ◌∷◌, Option, Ok, Err}
use Rattle.std.proofs.Common.{refl, sym, ap, ◌∙◌, subst, arith}
use Rattle.amqp_credit.specs.declared.receiver.Grant.{Grant}
use Rattle.amqp_credit.specs.Sender.{SenderView}
use Rattle.amqp_credit.specs.ReceiverHistory as receiver
use Rattle.amqp_credit.specs.ReceiverHistory.{ReceiverCall, ReceiverStep}
use Rattle.amqp_credit.specs.Pair.{Sent, Pair, PairCall, new_pair, FlowStep, ComeStep, PairStep, OfPairs}
use Rattle.amqp_credit.specs.Pair.{IsRefused, NoneRefused, CreditIsKept, EndsAgree, begun_in, Begun, Says, AtSender}
use Rattle.amqp_credit.specs.Pair.{AtReceiver, FlowComes, Comes}
use Rattle.amqp_credit.proofs.ChainLemmas.{split_of, kept}
use Rattle.amqp_credit.proofs.PairLemmas.{Way, Limits, way_begun, PairStands, new_stands, flow_came}
use Rattle.amqp_credit.proofs.PairCalls.{at_sender, at_receiver, comes, within, begun_refused, flow_refused}

-- ---- a call of both ends

flow_comes : (p q : Pair) (gs : List Grant) → PairStands p → p.to_sender ≡ gs → FlowStep gs p q → PairStands q
flow_comes p q [] k e h = absurd h
flow_comes p q (told ∷ others) k e h =
    subst PairStands (sym h.1)
    (flow_came p q.sender told others k e (ap (λ (x : SenderView). x.count) h.0)
    (ap (λ (x : SenderView). x.credit) h.0) (ap (λ (x : SenderView). x.drain) h.0))

it_comes : (p q : Pair) (xs : List Sent) (c : ReceiverCall) → PairStands p → p.to_receiver ≡ xs → ComeStep xs p c q →
    PairStands q
it_comes p q [] c k e h = absurd h
it_comes p q (it ∷ others) c k e h = subst PairStands (sym h.2) (comes p q.receiver it others c k e h.0 h.1)

keeps : (p q : Pair) (c : PairCall) → PairStands p → PairStep p c q → PairStands q
keeps p q (AtSender c) k h = subst PairStands (sym h.2) (at_sender p q.sender c k h.0 h.1)
keeps p q (AtReceiver c) k h = subst PairStands (sym h.2) (at_receiver p q.receiver c k h.0 h.1)
keeps p q FlowComes k h = flow_comes p q p.to_sender k refl h
keeps p q (Comes c) k h = it_comes p q p.to_receiver c k refl h

pub stands : OfPairs (λ H p. PairStands p)
stands initial renewal H p small rule h =
    kept PairStep PairStands keeps (new_pair initial renewal) p H (new_stands initial renewal small rule) h

-- ---- none is refused

delivery_refused : (p q : Pair) (xs : List Sent) (e : _) → PairStands p → p.to_receiver ≡ xs →
    ComeStep xs p (receiver.Takes (Err e)) q → ⊥
delivery_refused p q [] r k e h = h
delivery_refused p q (Begun ∷ others) r k e h = begun_refused p others k e h.1.0
delivery_refused p q (Says n ∷ others) r k e h = h.0

count_refused : (p q : Pair) (xs : List Sent) (said : Option ℕ) (e : _) → PairStands p → p.to_receiver ≡ xs →
    ComeStep xs p (receiver.Hears said (Err e)) q → ⊥
count_refused p q [] said r k e h = h
count_refused p q (Begun ∷ others) said r k e h = h.0
count_refused p q (Says n ∷ others) said r k e h = flow_refused p n others said k e h.0 h.1.0

not_refused : (p q : Pair) (c : PairCall) → PairStands p → PairStep p c q → IsRefused c → ⊥
not_refused p q (AtSender c) k h r = r
not_refused p q (AtReceiver c) k h r = r
not_refused p q FlowComes k h r = r
not_refused p q (Comes (receiver.Takes (Err e))) k h r = delivery_refused p q p.to_receiver e k refl h
not_refused p q (Comes (receiver.Takes (Ok done))) k h r = r
not_refused p q (Comes (receiver.Hears said (Err e))) k h r = count_refused p q p.to_receiver said e k refl h
not_refused p q (Comes (receiver.Hears said (Ok used))) k h r = r
not_refused p q (Comes (receiver.Grants credit told)) k h r = r
not_refused p q (Comes (receiver.Drains told)) k h r = r
not_refused p q (Comes (receiver.Renews told)) k h r = r
not_refused p q (Comes (receiver.AsksWanted answer)) k h r = r
not_refused p q (Comes (receiver.AsksFlowState told)) k h r = r
not_refused p q (Comes (receiver.AsksCredit n)) k h r = r
not_refused p q (Comes (receiver.AsksCount n)) k h r = r
not_refused p q (Comes (receiver.AsksDraining answer)) k h r = r

pub none_refused : OfPairs (λ H p. NoneRefused H)
none_refused initial renewal H p small rule h before after c e =
    let s = split_of PairStep (new_pair initial renewal) p H before after c h e in
    not_refused s.at s.next c (stands initial renewal before s.at small rule s.reached) s.step

-- ---- credit

less : (come gone begun credit granted : ℕ) → come + begun ≤ gone → gone + credit ≤ come + granted →
    credit + begun ≤ granted
less come gone begun credit granted p q = omega (arith, p, q)

pub credit_is_kept : OfPairs (λ H p. CreditIsKept p)
credit_is_kept initial renewal H p small rule h =
    let k = stands initial renewal H p small rule h in
    less k.come k.gone (begun_in p.to_receiver) p.sender.credit p.receiver.credit
    (way_begun k.come p.to_receiver k.gone k.way) (within p k)

same_credit : (come gone a b : ℕ) → come ≡ gone → gone + a ≡ come + b → a ≡ b
same_credit come gone a b e f = omega (arith, e, f)

pub ends_agree : OfPairs (λ H p. EndsAgree p)
ends_agree initial renewal H p small rule h no_flow nothing =
    let k = stands initial renewal H p small rule h in
    let way = subst (λ xs. Way k.come xs k.gone) nothing k.way in
    let limits = subst
    (λ gs. Limits k.come (k.gone + p.sender.credit) p.sender.drain gs (k.come + p.receiver.credit)
    p.receiver.draining) no_flow k.limits in (
      k.gone_is ∙ ap (λ n. n % 2 ^ 32) (sym way) ∙ sym k.come_is,
      same_credit k.come k.gone p.sender.credit p.receiver.credit way limits.0,
      limits.1,
    )
