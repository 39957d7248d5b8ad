-- What holds of every history of both ends of a link that are joined.
use Rattle.std.proofs.Common.{◌≡◌, ◌+◌, ◌%◌, ◌^◌, ◌≤◌, ℕ, Bool, List, [], ◌∷◌, ◌++◌, Option, Some, None, Ok, Err}
use Rattle.std.proofs.Common.{refl, sym, ap, ◌∙◌, subst, arith}
use Rattle.amqp_credit.specs.declared.assembly.Delivery.{Delivery}
use Rattle.amqp_credit.specs.declared.part.PartHead.{PartHead}
use Rattle.amqp_credit.specs.declared.receiver.Grant.{Grant}
use Rattle.amqp_credit.specs.Assembly as assembly
use Rattle.amqp_credit.specs.Chain.{Chain}
use Rattle.amqp_credit.specs.Pair as pair
use Rattle.amqp_credit.proofs.ChainLemmas.{kept, split_of}
use Rattle.amqp_credit.proofs.PairCalls.{within}
use Rattle.amqp_credit.proofs.PairLemmas.{Limits, Way, way_begun}
use Rattle.amqp_links.specs.Joined.{Joined, JoinedCall, JoinedStep, ComeInOrder, CreditIsKept, EndsAgree, NoneRefused, OfJoined, Sent, Transfer, Flow}
use Rattle.amqp_links.specs.Joined.{FlowStep, TransferStep, CountStep, begun_by, begun_in, come_by, come_in, joined, on_way, sent_by, sent_in, way_of}
use Rattle.amqp_links.specs.Joined as call
use Rattle.amqp_links.specs.Sending as sending
use Rattle.amqp_links.proofs.JoinedLemmas.{Stands, append_none, begins, credit_way, first_stands, keeps, not_refused, pair_of}
use Rattle.amqp_links.proofs.JoinedParts.{Same, Under}

pub stands : OfJoined (λ H p. Stands p)
stands initial renewal limit H p small rule h =
    kept JoinedStep Stands keeps (joined initial renewal limit) p H (first_stands initial renewal limit small rule) h

pub none_refused : OfJoined (λ H p. NoneRefused H)
none_refused initial renewal limit H p small rule h before after c e =
    let s = split_of JoinedStep (joined initial renewal limit) p H before after c h e in
    not_refused s.at s.next c (stands initial renewal limit before s.at small rule s.reached) s.step

-- ---- the order

assoc : {X : Type 0} (xs ys zs : List X) → (xs ++ ys) ++ zs ≡ xs ++ (ys ++ zs)
assoc [] ys zs = refl
assoc (x ∷ xs) ys zs = ap (λ it. x ∷ it) (assoc xs ys zs)

way_on : (xs ys : List Sent) → on_way (xs ++ ys) ≡ on_way xs ++ on_way ys
way_on [] ys = refl
way_on (it ∷ xs) ys = ap (λ zs. way_of it ++ zs) (way_on xs ys) ∙ sym (assoc (way_of it) (on_way xs) (on_way ys))

-- by a call what is on the way goes on by what is sent, and what comes is taken off
abbrev Onward : Joined → JoinedCall → Joined → Type 0
Onward p c q = on_way p.to_receiver ++ sent_by c ≡ come_by c ++ on_way q.to_receiver

-- what is on the way stays
still : (p q : Joined) → q.to_receiver ≡ p.to_receiver → on_way p.to_receiver ++ [] ≡ on_way q.to_receiver
still p q e = append_none (on_way p.to_receiver) ∙ ap on_way (sym e)

-- it goes on by these
longer : (p q : Joined) (more : List Sent) → q.to_receiver ≡ p.to_receiver ++ more → on_way p.to_receiver ++ on_way more ≡ on_way q.to_receiver
longer p q more e = sym (way_on p.to_receiver more) ∙ ap on_way (sym e)

to_receiver : (p q : Joined) → q ≡ p → q.to_receiver ≡ p.to_receiver
to_receiver p q e = ap (λ (x : Joined). x.to_receiver) e

flow_on : (p q : Joined) (gs : List Grant) (echo : Bool) → FlowStep gs p echo q → Onward p (call.FlowComes echo) q
flow_on p q [] echo h = absurd h
flow_on p q (told ∷ others) echo h = still p q (to_receiver (record p { sender = q.sender; to_sender = others }) q h.1)

transfer_on : (p q : Joined) (xs : List Sent) (head : PartHead) (answer : _) → p.to_receiver ≡ xs → TransferStep xs p head answer q
    → Onward p (call.TransferComes head answer) q
transfer_on p q [] head answer e h = absurd h
transfer_on p q (Flow n ∷ others) head answer e h = absurd h
transfer_on p q (Transfer first ∷ others) head answer e h =
    append_none (on_way p.to_receiver) ∙ ap on_way e ∙ ap (λ x. x ∷ on_way others) (sym h.0)
    ∙ ap (λ xs. head ∷ on_way xs) (sym (to_receiver (record p { receiver = q.receiver; to_receiver = others }) q h.2))

count_on : (p q : Joined) (xs : List Sent) (n : ℕ) (echo : Bool) (answer : _) → p.to_receiver ≡ xs → CountStep xs p n echo answer q
    → Onward p (call.CountComes n echo answer) q
count_on p q [] n echo answer e h = absurd h
count_on p q (Transfer first ∷ others) n echo answer e h = absurd h
count_on p q (Flow first ∷ others) n echo answer e h =
    append_none (on_way p.to_receiver) ∙ ap on_way e ∙ ap on_way (sym (to_receiver (record p { receiver = q.receiver; to_receiver = others }) q h.2))

onward : (p q : Joined) (c : JoinedCall) → JoinedStep p c q → Onward p c q
onward p q (call.Sends head (Ok done)) h = longer p q (Transfer head ∷ []) (ap (λ (x : Joined). x.to_receiver) h.2)
onward p q (call.Sends head (Err e)) h = longer p q [] (ap (λ (x : Joined). x.to_receiver) h.2)
onward p q (call.Answers available None) h = longer p q [] (ap (λ (x : Joined). x.to_receiver) h.1)
onward p q (call.Answers available (Some told)) h = longer p q (Flow told.delivery_count ∷ []) (ap (λ (x : Joined). x.to_receiver) h.1)
onward p q (call.Grants n answer) h = still p q (ap (λ (x : Joined). x.to_receiver) h.2.1)
onward p q (call.Drains answer) h = still p q (ap (λ (x : Joined). x.to_receiver) h.1)
onward p q (call.Renews answer) h = still p q (ap (λ (x : Joined). x.to_receiver) h.1)
onward p q (call.Echoes answer) h = still p q (ap (λ (x : Joined). x.to_receiver) h.1)
onward p q (call.FlowComes echo) h = flow_on p q p.to_sender echo h
onward p q (call.TransferComes head answer) h = transfer_on p q p.to_receiver head answer refl h
onward p q (call.CountComes n echo answer) h = count_on p q p.to_receiver n echo answer refl h

goes_on : (p q : Joined) (H : List JoinedCall) → Chain JoinedStep p H q → on_way p.to_receiver ++ sent_in H ≡ come_in H ++ on_way q.to_receiver
goes_on p q [] h = append_none (on_way p.to_receiver) ∙ ap on_way (sym (ap (λ (x : Joined). x.to_receiver) h))
goes_on p q (c ∷ cs) h =
    sym (assoc (on_way p.to_receiver) (sent_by c) (sent_in cs)) ∙ ap (λ xs. xs ++ sent_in cs) (onward p h.0 c h.1)
    ∙ assoc (come_by c) (on_way h.0.to_receiver) (sent_in cs) ∙ ap (λ xs. come_by c ++ xs) (goes_on h.0 q cs h.2)
    ∙ sym (assoc (come_by c) (come_in cs) (on_way q.to_receiver))

pub come_in_order : OfJoined (λ H p. ComeInOrder H p)
come_in_order initial renewal limit H p small rule h = sym (goes_on (joined initial renewal limit) p H h)

-- ---- credit

none_more : (n : ℕ) → n ≡ 0 + n
none_more n = omega arith

begun_same : (o : Option ℕ) (xs : List pair.Sent) → pair.begun_in (begins o ++ xs) ≡ begun_by o + pair.begun_in xs
begun_same None xs = none_more (pair.begun_in xs)
begun_same (Some n) xs = refl

begun_is : (xs : List Sent) → pair.begun_in (credit_way xs) ≡ begun_in (on_way xs)
begun_is [] = refl
begun_is (Transfer head ∷ xs) = begun_same head.number (credit_way xs) ∙ ap (λ n. begun_by head.number + n) (begun_is xs)
begun_is (Flow n ∷ xs) = begun_is xs

less : (come gone begun credit granted : ℕ) → come + begun ≤ gone → gone + credit ≤ come + granted → credit + begun ≤ granted
less come gone begun credit granted p q = omega (arith, p, q)

pub credit_is_kept : OfJoined (λ H p. CreditIsKept p)
credit_is_kept initial renewal limit H p small rule h =
    let k = (stands initial renewal limit H p small rule h).credit in
    subst (λ n. p.sender.credit.credit + n ≤ p.receiver.credit.credit) (begun_is p.to_receiver)
    (less k.come k.gone (pair.begun_in (credit_way p.to_receiver)) p.sender.credit.credit p.receiver.credit.credit
    (way_begun k.come (credit_way p.to_receiver) k.gone k.way) (within (pair_of p) k))

same_credit : (come gone a b : ℕ) → come ≡ gone → gone + a ≡ come + b → a ≡ b
same_credit come gone a b e f = omega (arith, e, f)

under_same : (d : Option Delivery) (u : Option ℕ) → Same d u → sending.is_none u ≡ assembly.is_none d
under_same None None h = refl
under_same (Some d) (Some n) h = refl
under_same None (Some n) h = absurd h
under_same (Some d) None h = absurd h

pub ends_agree : OfJoined (λ H p. EndsAgree p)
ends_agree initial renewal limit H p small rule h no_flow nothing =
    let s = stands initial renewal limit H p small rule h in
    let k = s.credit in
    let way = subst (λ xs. Way k.come (credit_way xs) k.gone) nothing k.way in
    let limits = subst
    (λ gs. Limits k.come (k.gone + p.sender.credit.credit) p.sender.credit.drain gs (k.come + p.receiver.credit.credit) p.receiver.credit.draining)
    no_flow k.limits in (
      k.gone_is ∙ ap (λ n. n % 2 ^ 32) (sym way) ∙ sym k.come_is,
      same_credit k.come k.gone p.sender.credit.credit p.receiver.credit.credit way limits.0,
      under_same p.receiver.parts.current p.sender.under_way
          (subst (λ xs. Under p.sender.limit p.receiver.parts.current xs p.sender.under_way) nothing s.parts),
    )
