-- What is known of both ends of a link that are joined, and of what is on the way between them.
use Rattle.std.proofs.Common.{◌≡◌, ◌^◌, ◌<◌, ◌≤◌, ◌&&◌, ◌||◌, ℕ, zero, suc, nat_eq, Bool, true, false, List, [], ◌∷◌, ◌++◌, Option, Some, None}
use Rattle.std.proofs.Common.{Result, Ok, Err, if◌then◌else◌, refl, sym, ap, ◌∙◌, subst, arith, true≢false}
use Rattle.std.proofs.lemmas.Bool.Decides.{nat_tests}
use Rattle.std.proofs.lemmas.Grind.{common_steps}
use Rattle.amqp_credit.specs.declared.assembly.Delivery.{Delivery}
use Rattle.amqp_credit.specs.declared.part.Part.{Part}
use Rattle.amqp_credit.specs.declared.part.PartEnd.{PartEnd}
use Rattle.amqp_credit.specs.declared.part.PartEnd.TheVariants.{More, Last, Aborted}
use Rattle.amqp_credit.specs.declared.part.PartError.{PartError}
use Rattle.amqp_credit.specs.declared.part.PartError.TheVariants as part
use Rattle.amqp_credit.specs.declared.part.PartHead.{PartHead}
use Rattle.amqp_credit.specs.declared.receiver.Grant.{Grant}
use Rattle.amqp_credit.specs.declared.receiver.Renewal.{Renewal}
use Rattle.amqp_credit.specs.Assembly as assembly
use Rattle.amqp_credit.specs.Assembly.{AssemblyView, TriedStep, belongs, end_of, fits, part_of, with_part}
use Rattle.amqp_credit.specs.Pair as pair
use Rattle.amqp_credit.specs.Pair.{IsRule, Pair}
use Rattle.amqp_credit.specs.Receiver.{ReceiverView, or_zero, taken_off, told_by, used_up}
use Rattle.amqp_credit.specs.ReceiverHistory as receiver
use Rattle.amqp_credit.specs.Sender.{SenderView, drainable, flowed, taken_from}
use Rattle.amqp_credit.specs.SenderHistory as sender
use Rattle.amqp_credit.proofs.PairLemmas.{PairStands, flow_came, new_stands}
use Rattle.amqp_credit.proofs.PairCalls.{at_receiver, at_sender, begun_refused, comes, flow_refused}
use Rattle.amqp_links.specs.declared.life.Life.TheVariants.{Attached}
use Rattle.amqp_links.specs.declared.receiving.LinkFault.{LinkFault}
use Rattle.amqp_links.specs.declared.receiving.TransferError.{TransferError}
use Rattle.amqp_links.specs.declared.receiving.TransferError.TheVariants as transfer
use Rattle.amqp_links.specs.declared.sending.SenderFlow.{SenderFlow}
use Rattle.amqp_links.specs.declared.sending.SendError.{SendError}
use Rattle.amqp_links.specs.Joined.{Joined, JoinedCall, JoinedStep, IsHead, Sent, Transfer, Flow, begun_by, counts, flow_by, grants, joined, transfers}
use Rattle.amqp_links.specs.Joined.{FlowStep, TransferStep, CountStep}
use Rattle.amqp_links.specs.Joined as call
use Rattle.amqp_links.specs.Receiving as receiving
use Rattle.amqp_links.specs.Receiving.{ReceivingView, CountsIf, HeardOf, SaysOf, TakenAs, counted, is_over, or_fault}
use Rattle.amqp_links.specs.Sending as sending
use Rattle.amqp_links.specs.Sending.{SendingView, AttachedSend, BeginsStep, SizedStep, WithinStep, drained, is_drained, is_too_large, left_under_way, size_with}
use Rattle.amqp_links.specs.Sending.{told_of}
use Rattle.amqp_links.proofs.JoinedParts.{Fits, Under, first_of, under_flow, under_more}

abbrev is_fine : {A E : Type 0} → Result A E → Type 0
is_fine (Ok x) = Unit {0}
is_fine (Err e) = ⊥

ok≢err : {A E : Type 0} {x : A} {y : E} → Ok x ≡ Err y → ⊥
ok≢err {A} {E} e = subst (λ (r : Result A E). is_fine r) e tt

pub append_none : {X : Type 0} (xs : List X) → xs ++ [] ≡ xs
append_none [] = refl
append_none (x ∷ xs) = ap (λ ys. x ∷ ys) (append_none xs)

-- ---- the credit of both ends

-- what is on the way, as the credit counts it
abbrev pub begins : Option ℕ → List pair.Sent
begins None = []
begins (Some n) = pair.Begun ∷ []

abbrev pub credit_way : List Sent → List pair.Sent
credit_way [] = []
credit_way (Transfer head ∷ others) = begins head.number ++ credit_way others
credit_way (Flow n ∷ others) = pair.Says n ∷ credit_way others

abbrev pub pair_of : Joined → Pair
pair_of p = record {
  sender = p.sender.credit;
  receiver = p.receiver.credit;
  to_sender = p.to_sender;
  to_receiver = credit_way p.to_receiver;
}

begins_then : (o : Option ℕ) (xs ys : List pair.Sent) → begins o ++ (xs ++ ys) ≡ (begins o ++ xs) ++ ys
begins_then None xs ys = refl
begins_then (Some n) xs ys = refl

way_append : (xs ys : List Sent) → credit_way (xs ++ ys) ≡ credit_way xs ++ credit_way ys
way_append [] ys = refl
way_append (Transfer head ∷ xs) ys =
    ap (λ zs. begins head.number ++ zs) (way_append xs ys) ∙ begins_then head.number (credit_way xs) (credit_way ys)
way_append (Flow n ∷ xs) ys = ap (λ zs. pair.Says n ∷ zs) (way_append xs ys)

pub record Stands (p : Joined) : Type 0 where
  pub sends : p.sender.life ≡ Attached
  pub takes : p.receiver.life ≡ Attached
  pub credit : PairStands (pair_of p)
  pub limit : p.receiver.parts.limit ≡ p.sender.limit
  pub parts : Under p.sender.limit p.receiver.parts.current p.to_receiver p.sender.under_way

pub first_stands : (initial : ℕ) (renewal : Option Renewal) (limit : Option ℕ) → initial < 2 ^ 32 → IsRule renewal → Stands (joined initial renewal limit)
first_stands initial renewal limit small rule =
    record { sends = refl; takes = refl; credit = new_stands initial renewal small rule; limit = refl; parts = tt }

-- ---- a transfer is sent

abbrev SentAs : Option ℕ → SendingView → ℕ → PartEnd → SendingView → Type 0
SentAs None s size end w = (is_too_large s.limit (size_with None size end) end ≡ false) × (0 < s.credit.credit)
    × (w ≡ record s { credit = taken_from 1 s.credit; under_way = left_under_way end (size_with None size end) })
SentAs (Some n) s size end w = (is_too_large s.limit (size_with (Some n) size end) end ≡ false)
    × (w ≡ record s { under_way = left_under_way end (size_with (Some n) size end) })

sized : (b : Bool) (s w : SendingView) (whole : ℕ) (end : PartEnd) (done : Unit {0}) → SizedStep b s whole end (Ok done) w
    → (b ≡ false) × WithinStep s.under_way s whole end (Ok done) w
sized true s w whole end done h = absurd (ok≢err h.0)
sized false s w whole end done h = (refl, h)

begun_as : (s m w : SendingView) (end : PartEnd) (whole : ℕ) (done : Unit {0}) → BeginsStep s end (Ok done) m → w ≡ record m { under_way = left_under_way end whole }
    → (0 < s.credit.credit) × (w ≡ record s { credit = taken_from 1 s.credit; under_way = left_under_way end whole })
begun_as s m w Aborted whole done h e = absurd (ok≢err h.0)
begun_as s m w More whole done h e = (h.0, e ∙ ap (λ (x : SendingView). record x { under_way = left_under_way More whole }) h.1)
begun_as s m w Last whole done h e = (h.0, e ∙ ap (λ (x : SendingView). record x { under_way = left_under_way Last whole }) h.1)

within_as : (u : Option ℕ) (s w : SendingView) (size : ℕ) (end : PartEnd) (done : Unit {0}) → is_too_large s.limit (size_with u size end) end ≡ false
    → WithinStep u s (size_with u size end) end (Ok done) w → SentAs u s size end w
within_as None s w size end done small h =
    let begun = begun_as s h.0 w end (size_with None size end) tt h.1 h.2 in
    (small, begun.0, begun.1)
within_as (Some n) s w size end done small h = (small, h)

sent_as : (s w : SendingView) (size : ℕ) (end : PartEnd) (done : Unit {0}) → s.life ≡ Attached → sending.SendsStep s size end (Ok done) w
    → SentAs s.under_way s size end w
sent_as s w size end done life h =
    let attached : AttachedSend Attached s size end (Ok done) w = subst (λ l. AttachedSend l s size end (Ok done) w) life h in
    let it = sized (is_too_large s.limit (size_with s.under_way size end) end) s w (size_with s.under_way size end) end done attached in
    within_as s.under_way s w size end done it.0 it.1

one_more : (xs : List Sent) (head : PartHead) (o : Option ℕ) → head.number ≡ o → credit_way (xs ++ Transfer head ∷ []) ≡ credit_way xs ++ (begins o ++ [])
one_more xs head o is = way_append xs (Transfer head ∷ []) ∙ ap (λ n. credit_way xs ++ (begins n ++ [])) is

sends_by : (p : Joined) (w : SendingView) (head : PartHead) (u : Option ℕ) → Stands p → p.sender.under_way ≡ u → IsHead u head
    → SentAs u p.sender head.size (end_of head.more head.aborted) w → Stands (record p { sender = w; to_receiver = p.to_receiver ++ Transfer head ∷ [] })
sends_by p w head None k u is h =
    let c = at_sender (pair_of p) (taken_from 1 p.sender.credit) (sender.Sends (Ok tt)) k.credit tt (h.1, refl) in
    subst (λ (x : SendingView). Stands (record p { sender = x; to_receiver = p.to_receiver ++ Transfer head ∷ [] })) (sym h.2) (record {
      sends = k.sends;
      takes = k.takes;
      credit = subst (λ xs. PairStands (record (pair_of p) { sender = taken_from 1 p.sender.credit; to_receiver = xs }))
          (sym (one_more p.to_receiver head (Some is.0) is.1)) c;
      limit = k.limit;
      parts = under_more p.sender.limit p.receiver.parts.current p.to_receiver None head
          (subst (λ v. Under p.sender.limit p.receiver.parts.current p.to_receiver v) u k.parts) is h.0;
    })
sends_by p w head (Some n) k u is h =
    subst (λ (x : SendingView). Stands (record p { sender = x; to_receiver = p.to_receiver ++ Transfer head ∷ [] })) (sym h.1) (record {
      sends = k.sends;
      takes = k.takes;
      credit = subst (λ xs. PairStands (record (pair_of p) { to_receiver = xs }))
          (sym (one_more p.to_receiver head None is.0 ∙ append_none (credit_way p.to_receiver))) k.credit;
      limit = k.limit;
      parts = under_more p.sender.limit p.receiver.parts.current p.to_receiver (Some n) head
          (subst (λ v. Under p.sender.limit p.receiver.parts.current p.to_receiver v) u k.parts) is h.0;
    })

-- one that is refused changes nothing
begins_none : (s w : SendingView) (end : PartEnd) (e : SendError) → BeginsStep s end (Err e) w → w ≡ s
begins_none s w Aborted e h = h.1
begins_none s w More e h = h.2
begins_none s w Last e h = h.2

within_none : (u : Option ℕ) (s w : SendingView) (whole : ℕ) (end : PartEnd) (e : SendError) → WithinStep u s whole end (Err e) w → w ≡ s
within_none None s w whole end e h = begins_none s w end e h
within_none (Some n) s w whole end e h = absurd h

sized_none : (b : Bool) (s w : SendingView) (whole : ℕ) (end : PartEnd) (e : SendError) → SizedStep b s whole end (Err e) w → w ≡ s
sized_none true s w whole end e h = h.1
sized_none false s w whole end e h = within_none s.under_way s w whole end e h

sent_none : (s w : SendingView) (size : ℕ) (end : PartEnd) (e : SendError) → s.life ≡ Attached → sending.SendsStep s size end (Err e) w → w ≡ s
sent_none s w size end e life h =
    sized_none (is_too_large s.limit (size_with s.under_way size end) end) s w (size_with s.under_way size end) end e
    (subst (λ l. AttachedSend l s size end (Err e) w) life h)

-- the sender stands as before, and nothing goes out
no_more : (p : Joined) (w : SendingView) → Stands p → w ≡ p.sender → Stands (record p { sender = w; to_receiver = p.to_receiver ++ [] })
no_more p w k e =
    subst (λ (x : SendingView). Stands (record p { sender = x; to_receiver = p.to_receiver ++ [] })) (sym e)
    (subst (λ xs. Stands (record p { to_receiver = xs })) (sym (append_none p.to_receiver)) k)

sends_step : (p : Joined) (w : SendingView) (head : PartHead) (answer : Result (Unit {0}) SendError) → Stands p → IsHead p.sender.under_way head
    → sending.SendsStep p.sender head.size (end_of head.more head.aborted) answer w
    → Stands (record p { sender = w; to_receiver = p.to_receiver ++ transfers head answer })
sends_step p w head (Ok done) k is h =
    sends_by p w head p.sender.under_way k refl is (sent_as p.sender w head.size (end_of head.more head.aborted) done k.sends h)
sends_step p w head (Err e) k is h = no_more p w k (sent_none p.sender w head.size (end_of head.more head.aborted) e k.sends h)

-- ---- the sender answers

says : (p : Joined) (c : SenderView) (echo : Bool) → Stands p
    → PairStands (record (pair_of p) { sender = c; to_receiver = credit_way p.to_receiver ++ pair.Says c.count ∷ [] })
    → Stands (record p { sender = record p.sender { credit = c; echo = echo }; to_receiver = p.to_receiver ++ Flow c.count ∷ [] })
says p c echo k stands = record {
  sends = k.sends;
  takes = k.takes;
  credit = subst (λ xs. PairStands (record (pair_of p) { sender = c; to_receiver = xs })) (sym (way_append p.to_receiver (Flow c.count ∷ []))) stands;
  limit = k.limit;
  parts = under_flow p.sender.limit p.receiver.parts.current p.to_receiver p.sender.under_way c.count k.parts;
}

drains_by : (d : Bool) (p : Joined) → Stands p
    → PairStands (record (pair_of p) { sender = drained d p.sender.credit; to_receiver = credit_way p.to_receiver ++ pair.Says (drained d p.sender.credit).count ∷ [] })
drains_by true p k =
    at_sender (pair_of p) (taken_from (drainable p.sender.credit) p.sender.credit) (sender.UsesUp (drainable p.sender.credit)) k.credit tt (refl, refl)
drains_by false p k = at_sender (pair_of p) p.sender.credit (sender.AsksCount p.sender.credit.count) k.credit tt (refl, refl)

answers_by : (b : Bool) (p : Joined) (w : SendingView) (available : ℕ) (answer : Option SenderFlow) → Stands p
    → sending.AnsweredIf b available p.sender answer w → Stands (record p { sender = w; to_receiver = p.to_receiver ++ counts answer })
answers_by true p w available answer k h =
    let c = drained (is_drained available p.sender) p.sender.credit in
    let stands = says p c false k (drains_by (is_drained available p.sender) p k) in
    subst (λ a. Stands (record p { sender = w; to_receiver = p.to_receiver ++ counts a })) (sym h.1)
    (subst (λ (x : SendingView). Stands (record p { sender = x; to_receiver = p.to_receiver ++ counts (Some (told_of available x)) })) (sym h.0) stands)
answers_by false p w available answer k h =
    subst (λ a. Stands (record p { sender = w; to_receiver = p.to_receiver ++ counts a })) (sym h.0) (no_more p w k h.1)

answers_step : (p : Joined) (w : SendingView) (available : ℕ) (answer : Option SenderFlow) → Stands p
    → sending.AnswerStep p.sender available answer w → Stands (record p { sender = w; to_receiver = p.to_receiver ++ counts answer })
answers_step p w available answer k h =
    answers_by (is_drained available p.sender || p.sender.echo) p w available answer k
    (subst (λ l. sending.AttachedAnswer l available p.sender answer w) k.sends h)

-- ---- the receiver says its credit

credited : (p : Joined) (c : ReceiverView) (echo : Bool) (gs : List Grant) → Stands p → PairStands (record (pair_of p) { receiver = c; to_sender = gs })
    → Stands (record p { receiver = record p.receiver { credit = c; echo = echo }; to_sender = gs })
credited p c echo gs k stands = record { sends = k.sends; takes = k.takes; credit = stands; limit = k.limit; parts = k.parts }

-- by a call of its credit, that says this
credited_by : (p : Joined) (r : ReceivingView) (gs : List Grant) → Stands p → r ≡ record p.receiver { credit = r.credit }
    → PairStands (record (pair_of p) { receiver = r.credit; to_sender = gs }) → Stands (record p { receiver = r; to_sender = gs })
credited_by p r gs k e stands =
    subst (λ (x : ReceivingView). Stands (record p { receiver = x; to_sender = gs })) (sym e) (credited p r.credit p.receiver.echo gs k stands)

grants_step : (p : Joined) (r : ReceivingView) (n : ℕ) (answer : Option Grant) → Stands p → p.receiver.credit.credit ≤ n → n < 2 ^ 32
    → receiving.GrantStep p.receiver n answer r → Stands (record p { receiver = r; to_sender = p.to_sender ++ grants answer })
grants_step p r n answer k more small h =
    by answer (subst (λ l. receiving.IfAttached l (λ c told d. receiver.ReceiverStep c (receiver.Grants n told) d) p.receiver answer r) k.takes h)
  where
    by : (a : Option Grant) → SaysOf (λ c told d. receiver.ReceiverStep c (receiver.Grants n told) d) p.receiver a r
        → Stands (record p { receiver = r; to_sender = p.to_sender ++ grants a })
    by (Some told) x = credited_by p r (p.to_sender ++ told ∷ []) k x.1 (at_receiver (pair_of p) r.credit (receiver.Grants n told) k.credit (more, small) x.0)
    by None x = absurd x

drains_step : (p : Joined) (r : ReceivingView) (answer : Option Grant) → Stands p → receiving.DrainStep p.receiver answer r
    → Stands (record p { receiver = r; to_sender = p.to_sender ++ grants answer })
drains_step p r answer k h =
    by answer (subst (λ l. receiving.IfAttached l (λ c told d. receiver.ReceiverStep c (receiver.Drains told) d) p.receiver answer r) k.takes h)
  where
    by : (a : Option Grant) → SaysOf (λ c told d. receiver.ReceiverStep c (receiver.Drains told) d) p.receiver a r
        → Stands (record p { receiver = r; to_sender = p.to_sender ++ grants a })
    by (Some told) x = credited_by p r (p.to_sender ++ told ∷ []) k x.1 (at_receiver (pair_of p) r.credit (receiver.Drains told) k.credit tt x.0)
    by None x = absurd x

renews_step : (p : Joined) (r : ReceivingView) (answer : Option Grant) → Stands p → receiving.RenewStep p.receiver answer r
    → Stands (record p { receiver = r; to_sender = p.to_sender ++ grants answer })
renews_step p r answer k h = by answer (subst (λ l. receiving.RenewsIfAttached l p.receiver answer r) k.takes h)
  where
    by : (a : Option Grant) → receiving.RenewsIfAttached Attached p.receiver a r → Stands (record p { receiver = r; to_sender = p.to_sender ++ grants a })
    by (Some told) x = credited_by p r (p.to_sender ++ told ∷ []) k x.1 (at_receiver (pair_of p) r.credit (receiver.Renews (Some told)) k.credit tt x.0)
    by None x = credited_by p r (p.to_sender ++ []) k x.1 (at_receiver (pair_of p) r.credit (receiver.Renews None) k.credit tt x.0)

echoes_step : (p : Joined) (r : ReceivingView) (answer : Option Grant) → Stands p → receiving.AnswerStep p.receiver answer r
    → Stands (record p { receiver = r; to_sender = p.to_sender ++ grants answer })
echoes_step p r answer k h = by p.receiver.echo (subst (λ l. receiving.AnswersIfAttached l p.receiver answer r) k.takes h)
  where
    by : (b : Bool) → receiving.AnsweredIf b p.receiver answer r → Stands (record p { receiver = r; to_sender = p.to_sender ++ grants answer })
    by true x =
        let told = told_by p.receiver.credit in
        let stands = credited p p.receiver.credit false (p.to_sender ++ told ∷ []) k
        (at_receiver (pair_of p) p.receiver.credit (receiver.AsksFlowState told) k.credit tt (refl, refl)) in
        subst (λ a. Stands (record p { receiver = r; to_sender = p.to_sender ++ grants a })) (sym x.0)
        (subst (λ (y : ReceivingView). Stands (record p { receiver = y; to_sender = p.to_sender ++ told ∷ [] })) (sym x.1) stands)
    by false x =
        subst (λ a. Stands (record p { receiver = r; to_sender = p.to_sender ++ grants a })) (sym x.0)
        (subst (λ (y : ReceivingView). Stands (record p { receiver = y; to_sender = p.to_sender ++ [] })) (sym x.1)
        (subst (λ gs. Stands (record p { to_sender = gs })) (sym (append_none p.to_sender)) k))

-- ---- a flow comes to the sender

flow_step : (p q : Joined) (gs : List Grant) (echo : Bool) → Stands p → p.to_sender ≡ gs → FlowStep gs p echo q → Stands q
flow_step p q [] echo k e h = absurd h
flow_step p q (told ∷ others) echo k e h =
    let c = flowed (Some told.delivery_count) (Some told.link_credit) told.drain p.sender.credit in
    let is : q.sender ≡ sending.flowing Attached (flow_by told echo) p.sender = h.0 ∙ ap (λ l. sending.flowing l (flow_by told echo) p.sender) k.sends in
    subst Stands (sym h.1)
    (subst (λ (x : SendingView). Stands (record p { sender = x; to_sender = others })) (sym is) (record {
      sends = k.sends;
      takes = k.takes;
      credit = flow_came (pair_of p) c told others k.credit e refl refl refl;
      limit = k.limit;
      parts = k.parts;
    }))

-- ---- a transfer comes to the receiver

one≢zero : ◌≡◌ {A = ℕ} 0 1 → ⊥
one≢zero e = omega (arith, e)

is_zero : (n : ℕ) → nat_eq n 0 ≡ true → n ≡ 0
is_zero n e = grind (arith, nat_tests, common_steps)

is_pos : (n : ℕ) → (n ≡ 0 → ⊥) → 0 < n
is_pos zero h = absurd (h refl)
is_pos (suc n) h = omega arith

-- a delivery begins with the first one on the way, where none is under way at the receiver; and then there is credit
begins_first : (p : Joined) (others : List Sent) (head : PartHead) → p.to_receiver ≡ Transfer head ∷ others → (o : Option ℕ) → head.number ≡ o → begun_by o ≡ 1
    → credit_way p.to_receiver ≡ pair.Begun ∷ credit_way others
begins_first p others head e None n one = absurd (one≢zero one)
begins_first p others head e (Some m) n one = ap credit_way e ∙ ap (λ x. begins x ++ credit_way others) n

goes_first : (p : Joined) (others : List Sent) (head : PartHead) → p.to_receiver ≡ Transfer head ∷ others → (o : Option ℕ) → head.number ≡ o → begun_by o ≡ 0
    → credit_way p.to_receiver ≡ credit_way others
goes_first p others head e None n none = ap credit_way e ∙ ap (λ x. begins x ++ credit_way others) n
goes_first p others head e (Some m) n none = absurd (one≢zero (sym none))

has_credit : (p : Joined) (others : List Sent) → Stands p → credit_way p.to_receiver ≡ pair.Begun ∷ credit_way others → 0 < p.receiver.credit.credit
has_credit p others k way = is_pos p.receiver.credit.credit (λ none. begun_refused (pair_of p) (credit_way others) k.credit way none)

and_right : (a b : Bool) → a && b ≡ true → (a ≡ true) × (b ≡ true)
and_right true b e = (refl, e)
and_right false b e = absurd (true≢false (sym e))

not_over : (p : Joined) (others : List Sent) (head : PartHead) (d : Option Delivery) → Stands p → p.to_receiver ≡ Transfer head ∷ others
    → p.receiver.parts.current ≡ d → begun_by head.number ≡ first_of d → is_over p.receiver ≡ true → ⊥
not_over p others head None k e is first over =
    begun_refused (pair_of p) (credit_way others) k.credit (begins_first p others head e head.number refl first)
    (is_zero p.receiver.credit.credit (and_right (assembly.is_none p.receiver.parts.current) (nat_eq p.receiver.credit.credit 0) over).1)
not_over p others head (Some d) k e is first over =
    true≢false (sym ((and_right (assembly.is_none p.receiver.parts.current) (nat_eq p.receiver.credit.credit 0) over).0)
    ∙ ap assembly.is_none is)

abbrev part_in : ReceivingView → Delivery → PartHead → Part
part_in v e head = part_of (with_part e head) (assembly.is_none v.parts.current) (end_of head.more head.aborted)

abbrev taken_as : ReceivingView → Delivery → PartHead → ReceivingView
taken_as v e head = record v {
  credit = counted (Ok (part_in v e head)) v.credit;
  parts = record v.parts { current = assembly.left_under_way (end_of head.more head.aborted) (with_part e head) };
}

abbrev TookPart : ReceivingView → Delivery → PartHead → Result Part LinkFault → ReceivingView → Type 0
TookPart v e head a m = (a ≡ Ok (part_in v e head)) × (m ≡ taken_as v e head)

part_taken : (v : ReceivingView) (parts : AssemblyView) (head : PartHead) (e : Delivery) (told : Result Part PartError) → belongs v.parts.current head ≡ Ok e
    → fits v.parts.limit (with_part e head).size (end_of head.more head.aborted) ≡ true → assembly.PartStep v.parts head told parts
    → (told ≡ Ok (part_in v e head)) × (parts ≡ record v.parts { current = assembly.left_under_way (end_of head.more head.aborted) (with_part e head) })
part_taken v parts head e told is small h =
    let x = subst (λ b. TriedStep v.parts head b told parts) is h in
    let end = end_of head.more head.aborted in
    let d = with_part e head in (
      x.0 ∙ ap (λ b. if b then Ok (part_of d (assembly.is_none v.parts.current) end) else Err part.TooLarge) small,
      x.1 ∙ ap (λ b. if b then record v.parts { current = assembly.left_under_way end d } else v.parts) small,
    )

counts_as : (over : Bool) (v m : ReceivingView) (head : PartHead) (e : Delivery) (a : Result Part LinkFault) → (over ≡ true → ⊥)
    → belongs v.parts.current head ≡ Ok e → fits v.parts.limit (with_part e head).size (end_of head.more head.aborted) ≡ true → CountsIf over v head a m
    → TookPart v e head a m
counts_as true v m head e a never is small h = absurd (never refl)
counts_as false v m head e a never is small h =
    let x = part_taken v m.parts head e h.0 is small h.1 in (
      h.2 ∙ ap or_fault x.0,
      h.3 ∙ ap (λ t. record v { credit = counted t v.credit; parts = m.parts }) x.0
          ∙ ap (λ (y : AssemblyView). record v { credit = counted (Ok (part_in v e head)) v.credit; parts = y }) x.1,
    )

-- what is told of it, and what stands then
abbrev Took : Joined → List Sent → Result Part TransferError → ReceivingView → Type 0
Took p others answer r = (told : Part) × (answer ≡ Ok told) × Stands (record p { receiver = r; to_receiver = others })

takes_stand : (p : Joined) (others : List Sent) (head : PartHead) (e : Delivery) (d : Option Delivery) → Stands p → p.to_receiver ≡ Transfer head ∷ others
    → p.receiver.parts.current ≡ d → begun_by head.number ≡ first_of d
    → PairStands (record (pair_of p) { receiver = counted (Ok (part_in p.receiver e head)) p.receiver.credit; to_receiver = credit_way others })
takes_stand p others head e None k is current first =
    let way = begins_first p others head is head.number refl first in
    let c = comes (pair_of p) (taken_off 1 p.receiver.credit) pair.Begun (credit_way others) (receiver.Takes (Ok tt)) k.credit way tt
    (has_credit p others k way, refl) in
    subst (λ b. PairStands (record (pair_of p) { receiver = if b then taken_off 1 p.receiver.credit else p.receiver.credit; to_receiver = credit_way others }))
    (sym (ap assembly.is_none current)) c
takes_stand p others head e (Some d) k is current first =
    let way = goes_first p others head is head.number refl first in
    subst (λ b. PairStands (record (pair_of p) { receiver = if b then taken_off 1 p.receiver.credit else p.receiver.credit; to_receiver = credit_way others }))
    (sym (ap assembly.is_none current)) (subst (λ xs. PairStands (record (pair_of p) { to_receiver = xs })) way k.credit)

takes_by : (p : Joined) (r : ReceivingView) (others : List Sent) (head : PartHead) (answer : Result Part TransferError) → Stands p
    → p.to_receiver ≡ Transfer head ∷ others → (f : Fits p.sender.limit p.receiver.parts.current head)
    → Under p.sender.limit (assembly.left_under_way (end_of head.more head.aborted) (with_part f.of head)) others p.sender.under_way
    → TakenAs p.receiver head answer r → Took p others answer r
takes_by p r others head answer k is f rest h = by answer h
  where
    small : fits p.receiver.parts.limit (with_part f.of head).size (end_of head.more head.aborted) ≡ true
    small = subst (λ l. fits l (with_part f.of head).size (end_of head.more head.aborted) ≡ true) (sym k.limit) f.small

    took : (a : Result Part LinkFault) (m : ReceivingView) → receiving.CountsStep p.receiver head a m → TookPart p.receiver f.of head a m
    took a m x = counts_as (is_over p.receiver) p.receiver m head f.of a (λ over. not_over p others head p.receiver.parts.current k is refl f.first over) f.is small x

    stands : Stands (record p { receiver = taken_as p.receiver f.of head; to_receiver = others })
    stands = record {
      sends = k.sends;
      takes = k.takes;
      credit = takes_stand p others head f.of p.receiver.parts.current k is refl f.first;
      limit = k.limit;
      parts = rest;
    }

    by : (a : Result Part TransferError) → TakenAs p.receiver head a r → Took p others a r
    by (Ok told) x =
        let t = took (Ok told) r x in
        (told, refl, subst (λ (y : ReceivingView). Stands (record p { receiver = y; to_receiver = others })) (sym t.1) stands)
    by (Err (transfer.Fault f')) x = absurd (ok≢err (sym (took (Err f') x.0 x.1).0))
    by (Err transfer.NotAttached) x = absurd x

transfer_took : (p q : Joined) (xs : List Sent) (head : PartHead) (answer : Result Part TransferError) → Stands p → p.to_receiver ≡ xs
    → TransferStep xs p head answer q → (told : Part) × (answer ≡ Ok told) × Stands q
transfer_took p q [] head answer k e h = absurd h
transfer_took p q (Flow n ∷ others) head answer k e h = absurd h
transfer_took p q (Transfer first ∷ others) head answer k e h =
    let is = e ∙ ap (λ x. Transfer x ∷ others) (sym h.0) in
    let under = subst (λ xs. Under p.sender.limit p.receiver.parts.current xs p.sender.under_way) is k.parts in
    let taken = subst (λ l. receiving.TakesIfAttached l p.receiver head answer q.receiver) k.takes h.1 in
    let t = takes_by p q.receiver others head answer k is under.0 under.1 taken in
    (t.0, t.1, subst Stands (sym h.2) t.2)

-- ---- a flow comes to the receiver

heard_by : (p : Joined) (r : ReceivingView) (others : List Sent) (n : ℕ) (echo : Bool) (answer : Result ℕ LinkFault) → Stands p
    → p.to_receiver ≡ Flow n ∷ others → (o : Option ℕ) → used_up p.receiver.credit (Some n) ≡ o → HeardOf o p.receiver (Some n) echo answer r
    → (used : ℕ) × (answer ≡ Ok used) × Stands (record p { receiver = r; to_receiver = others })
heard_by p r others n echo answer k is None used h =
    absurd (flow_refused (pair_of p) n (credit_way others) (Some n) k.credit (ap credit_way is) refl (sym used))
heard_by p r others n echo answer k is (Some m) used h =
    let c = comes (pair_of p) (taken_off m p.receiver.credit) (pair.Says n) (credit_way others) (receiver.Hears (Some n) (Ok m)) k.credit (ap credit_way is) refl
    (sym used, ap (λ o. taken_off (or_zero o) p.receiver.credit) (sym used)) in
    let under = subst (λ xs. Under p.sender.limit p.receiver.parts.current xs p.sender.under_way) is k.parts in (
      m,
      h.0,
      subst (λ (y : ReceivingView). Stands (record p { receiver = y; to_receiver = others })) (sym h.1)
          (record { sends = k.sends; takes = k.takes; credit = c; limit = k.limit; parts = under }),
    )

count_heard : (p q : Joined) (xs : List Sent) (n : ℕ) (echo : Bool) (answer : Result ℕ LinkFault) → Stands p → p.to_receiver ≡ xs
    → CountStep xs p n echo answer q → (used : ℕ) × (answer ≡ Ok used) × Stands q
count_heard p q [] n echo answer k e h = absurd h
count_heard p q (Transfer first ∷ others) n echo answer k e h = absurd h
count_heard p q (Flow first ∷ others) n echo answer k e h =
    let is = e ∙ ap (λ x. Flow x ∷ others) (sym h.0) in
    let heard = subst (λ l. receiving.HeardIfAttached l p.receiver (Some n) echo answer q.receiver) k.takes h.1 in
    let t = heard_by p q.receiver others n echo answer k is (used_up p.receiver.credit (Some n)) refl heard in
    (t.0, t.1, subst Stands (sym h.2) t.2)

-- ---- each call

pub keeps : (p q : Joined) (c : JoinedCall) → Stands p → JoinedStep p c q → Stands q
keeps p q (call.Sends head answer) k h = subst Stands (sym h.2) (sends_step p q.sender head answer k h.0 h.1)
keeps p q (call.Answers available answer) k h = subst Stands (sym h.1) (answers_step p q.sender available answer k h.0)
keeps p q (call.Grants n answer) k h = subst Stands (sym h.2.1) (grants_step p q.receiver n answer k h.0 h.1 h.2.0)
keeps p q (call.Drains answer) k h = subst Stands (sym h.1) (drains_step p q.receiver answer k h.0)
keeps p q (call.Renews answer) k h = subst Stands (sym h.1) (renews_step p q.receiver answer k h.0)
keeps p q (call.Echoes answer) k h = subst Stands (sym h.1) (echoes_step p q.receiver answer k h.0)
keeps p q (call.FlowComes echo) k h = flow_step p q p.to_sender echo k refl h
keeps p q (call.TransferComes head answer) k h = (transfer_took p q p.to_receiver head answer k refl h).2
keeps p q (call.CountComes n echo answer) k h = (count_heard p q p.to_receiver n echo answer k refl h).2

pub not_refused : (p q : Joined) (c : JoinedCall) → Stands p → JoinedStep p c q → call.IsRefused c → ⊥
not_refused p q (call.TransferComes head (Err e)) k h r = ok≢err (sym (transfer_took p q p.to_receiver head (Err e) k refl h).1)
not_refused p q (call.TransferComes head (Ok told)) k h r = r
not_refused p q (call.CountComes n echo (Err e)) k h r = ok≢err (sym (count_heard p q p.to_receiver n echo (Err e) k refl h).1)
not_refused p q (call.CountComes n echo (Ok used)) k h r = r
not_refused p q (call.Sends head answer) k h r = r
not_refused p q (call.Answers available answer) k h r = r
not_refused p q (call.Grants n answer) k h r = r
not_refused p q (call.Drains answer) k h r = r
not_refused p q (call.Renews answer) k h r = r
not_refused p q (call.Echoes answer) k h r = r
not_refused p q (call.FlowComes echo) k h r = r
