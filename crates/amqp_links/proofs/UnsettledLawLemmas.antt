-- What a call of a session's links makes of the two tables of what is unsettled.
use Rattle.std.proofs.Common.{ℕ, ◌^◌, ◌<◌, ◌≡◌, not, Bool, true, false, List, [], ◌∷◌, ◌++◌, Option, Some, None, Result, Ok, Err, refl, sym, ap, subst, ◌∙◌}
use Rattle.std.specs.List.{find}
use Rattle.std.proofs.lemmas.Bool.{eqb-true}
use Rattle.std.proofs.lemmas.Option.{none-some}
use Rattle.amqp_credit.specs.Chain.{Chain as SessionChain}
use Rattle.amqp_credit.specs.declared.part.PartHead.{PartHead}
use Rattle.amqp_credit.specs.declared.receiver.Grant.{Grant}
use Rattle.amqp_unsettled.specs.declared.entry.Entry.{Entry}
use Rattle.amqp_unsettled.specs.Chain.{Chain}
use Rattle.amqp_unsettled.specs.Table.{TakeStep, has_number}
use Rattle.amqp_unsettled.specs.History.{TableStep}
use Rattle.amqp_unsettled.proofs.ChainLemmas.{joined}
use Rattle.amqp_unsettled.proofs.ListLemmas.{found_passes}
use Rattle.amqp_links.specs.declared.end.End.{End}
use Rattle.amqp_links.specs.declared.end.End.TheVariants.{Sending, Receiving}
use Rattle.amqp_links.specs.declared.life.Life.{Life}
use Rattle.amqp_links.specs.declared.life.Life.TheVariants as life
use Rattle.amqp_links.specs.declared.life.LinkEnd.{LinkEnd}
use Rattle.amqp_links.specs.declared.receiving.LinkFault.{LinkFault}
use Rattle.amqp_links.specs.declared.sending.CreditFlow.{CreditFlow}
use Rattle.amqp_links.specs.declared.session.AddError.{AddError}
use Rattle.amqp_links.specs.declared.session.AddError.TheVariants as add
use Rattle.amqp_links.specs.declared.session.RemoveError.{RemoveError}
use Rattle.amqp_links.specs.declared.session.RemoveError.TheVariants as rem
use Rattle.amqp_links.specs.declared.session.attaching.PeerAttach.{PeerAttach}
use Rattle.amqp_links.specs.declared.session.granting.LinkFlow.{LinkFlow}
use Rattle.amqp_links.specs.declared.session.sending.SentPart.{SentPart}
use Rattle.amqp_links.specs.declared.session.sending.SendPartError.{SendPartError}
use Rattle.amqp_links.specs.declared.session.sending.SendPartError.TheVariants as send
use Rattle.amqp_links.specs.declared.session.taking.ReceivedPart.{ReceivedPart}
use Rattle.amqp_links.specs.declared.session.taking.TakePartError.{TakePartError}
use Rattle.amqp_links.specs.declared.session.taking.TakePartError.TheVariants as take
use Rattle.amqp_links.specs.Ends.{end_at}
use Rattle.amqp_links.specs.Sending.{new_sending}
use Rattle.amqp_links.specs.Sending as sending
use Rattle.amqp_links.specs.Receiving.{ReceivingView, new_receiving, GrantStep, DrainStep, RenewStep}
use Rattle.amqp_links.specs.SendingHistory.{busy_by}
use Rattle.amqp_links.specs.SendingHistory as sending_history
use Rattle.amqp_links.specs.ReceivingHistory as receiving_history
use Rattle.amqp_links.specs.Session.{LinksView, no_links, AddsEnd, RemovesEnd}
use Rattle.amqp_links.specs.Attaching.{AttachesAt, DetachesAt, EndsAt}
use Rattle.amqp_links.specs.Granting.{FlowsAt, AnswersAt, IfReceiver, SaysOrNot}
use Rattle.amqp_links.specs.Noting.{GivesOwn, Notes, entry_of}
use Rattle.amqp_links.specs.SendingParts.{SendsAt, settles}
use Rattle.amqp_links.specs.TakingParts.{TakesAt}
use Rattle.amqp_links.specs.Settling.{LeavesNext, LeavesSent, LeavesReceived}
use Rattle.amqp_links.specs.SessionHistory.{LinksCall, LinksStep, IsNumbered, OfLinks, Owner, nobody, a_sender, a_receiver, IsOwn, owner_after, owner_by}
use Rattle.amqp_links.specs.SessionHistory.{MakesRoom, AddsSender, AddsReceiver, Attaches, Detaches, Ends, Flows, Answers, Grants, Drains, Renews, Sends, Takes}
use Rattle.amqp_links.specs.SessionHistory.{Leaves, Removes, SettlesOfSent, SettlesOfReceived, LeavesOfSent, LeavesOfReceived, AsksEnd, AsksSent, AsksReceived}
use Rattle.amqp_links.specs.UnsettledHistory.{handle_of, noted, left_by, sent_calls, received_calls, table_calls, AreTables}
use Rattle.amqp_links.proofs.SendingLemmas.{is_busy, is_busy_by}
use Rattle.amqp_links.proofs.SendingLemmas as sending_law
use Rattle.amqp_links.proofs.ReceivingHistoryLemmas as receiving_law
use Rattle.amqp_links.proofs.SessionLawLemmas.{none_there, alone}

-- ---- a part that is noted

-- the delivery that is found is the one that is given back
own_is : (t : List Entry) (e : Entry) (n h given : ℕ) → find (has_number n) t ≡ Some e → e.link ≡ h → given ≡ e.given
    → e ≡ record { number = n; link = h; given = given }
own_is t e n h given f l g =
    let q : e.number ≡ n = eqb-true e.number n (found_passes (has_number n) t e f) in
    ap (λ x. record { number = x; link = e.link; given = e.given }) q ∙ ap (λ x. record { number = n; link = x; given = e.given }) l
    ∙ ap (λ x. record { number = n; link = h; given = x }) (sym g)

taken_out : (t u : List Entry) (h n : ℕ) (o : Option Entry) (e : Entry) (back : Option ℕ) → e.link ≡ h → e.number ≡ n → find (has_number n) t ≡ o
    → GivesOwn o t h n back u → Chain TableStep t (noted false true e back) u
taken_out t u h n None e None l q f g = g.1
taken_out t u h n None e (Some back) l q f g = absurd (none-some back (sym g.0))
taken_out t u h n (Some x) e None l q f g = g.1
taken_out t u h n (Some x) e (Some back) l q f g =
    let same : x ≡ record e { given = back } = own_is t x e.number e.link back (subst (λ k. find (has_number k) t ≡ Some x) (sym q) f) (g.0 ∙ sym l) g.1 in
    let step : TakeStep (has_number n) t (Some x) u = g.2 in
    (u, subst (λ k. TakeStep (has_number k) t (Some (record e { given = back })) u) (sym q) (subst (λ y. TakeStep (has_number n) t (Some y) u) same step), refl)

notes : (is_first is_settled : Bool) (t u : List Entry) (e : Entry) (given : Option ℕ) → e.number < 2 ^ 32 → Notes is_first is_settled t e (Ok given) u
    → Chain TableStep t (noted is_first is_settled e given) u
notes true true t u e given small n = n.1
notes false false t u e given small n = n.1
notes true false t u e given small n = (u, (small, n.1), refl)
notes false true t u e given small n = taken_out t u e.link e.number (find (has_number e.number) t) e given refl refl refl n

-- ---- what keeps both tables

abbrev Kept : LinksView → LinksView → Type 0
Kept v w = (w.sent ≡ v.sent) × (w.received ≡ v.received)

put : (v w : LinksView) → w ≡ record v { ends = w.ends } → Kept v w
put v w q = (ap (λ x. x.sent) q, ap (λ x. x.received) q)

same : (v w : LinksView) → w ≡ v → Kept v w
same v w q = (ap (λ x. x.sent) q, ap (λ x. x.received) q)

adds_kept : (v w : LinksView) (k : ℕ) (e : End) (answer : Result (Unit {0}) AddError) → AddsEnd v k e answer w → Kept v w
adds_kept v w k e (Ok done) s = put v w s.1.1
adds_kept v w k e (Err add.InUse) s = same v w s.1
adds_kept v w k e (Err add.OutOfMemory) s = same v w s.1

attaches_kept : (v w : LinksView) (k : ℕ) (a : PeerAttach) (answer : Option Life) (e : Option End) → AttachesAt e v k a answer w → Kept v w
attaches_kept v w k a answer None s = same v w s.1
attaches_kept v w k a answer (Some (Sending x)) s = put v w s.2.1
attaches_kept v w k a answer (Some (Receiving x)) s = put v w s.2.1

detaches_kept : (v w : LinksView) (k : ℕ) (answer : Option Life) (e : Option End) → DetachesAt e v k answer w → Kept v w
detaches_kept v w k answer None s = same v w s.1
detaches_kept v w k answer (Some (Sending x)) s = put v w s.2.1
detaches_kept v w k answer (Some (Receiving x)) s = put v w s.2.1

ends_kept : (v w : LinksView) (k : ℕ) (answer : Option LinkEnd) (e : Option End) → EndsAt e v k answer w → Kept v w
ends_kept v w k answer None s = same v w s.1
ends_kept v w k answer (Some (Sending x)) s = put v w s.3.1
ends_kept v w k answer (Some (Receiving x)) s = put v w s.3.1

flows_kept : (v w : LinksView) (k : ℕ) (f : CreditFlow) (answer : Option (Result ℕ LinkFault)) (e : Option End) → FlowsAt e v k f answer w → Kept v w
flows_kept v w k f answer None s = same v w s.1
flows_kept v w k f answer (Some (Sending x)) s = put v w s.2.1
flows_kept v w k f answer (Some (Receiving x)) s = put v w s.3.1

says_kept : {X : Type 0} (v w : LinksView) (k : ℕ) (e : End) (told : Option X) → SaysOrNot told v k e w → Kept v w
says_kept v w k e None s = same v w s
says_kept v w k e (Some x) s = put v w s.1

answers_kept : (v w : LinksView) (k available : ℕ) (answer : Option LinkFlow) (e : Option End) → AnswersAt e v k available answer w → Kept v w
answers_kept v w k available answer None s = same v w s.1
answers_kept v w k available answer (Some (Sending x)) s = says_kept v w k (Sending s.next) s.told s.left
answers_kept v w k available answer (Some (Receiving x)) s = says_kept v w k (Receiving s.next) s.told s.left

receiver_kept : (Step : ReceivingView → Option Grant → ReceivingView → Type 0) (v w : LinksView) (k : ℕ) (answer : Option LinkFlow) (e : Option End)
    → IfReceiver Step e v k answer w → Kept v w
receiver_kept Step v w k answer None s = same v w s.1
receiver_kept Step v w k answer (Some (Sending x)) s = same v w s.1
receiver_kept Step v w k answer (Some (Receiving x)) s = says_kept v w k (Receiving s.next) s.told s.left

removes_kept : (v w : LinksView) (k : ℕ) (answer : Result (Unit {0}) RemoveError) (e : Option End) → RemovesEnd e v k answer w → Kept v w
removes_kept v w k answer None s = same v w s.1
removes_kept v w k (Ok done) (Some e) s = put v w s.3
removes_kept v w k (Err rem.NoLink) (Some e) s = absurd s
removes_kept v w k (Err rem.NotDetached) (Some e) s = same v w s.1
removes_kept v w k (Err rem.Unsettled) (Some e) s = same v w s.2

-- ---- what changes one of them

-- what a call makes of both tables
abbrev Tables : LinksView → LinksCall → Owner → LinksView → Type 0
Tables v c o w = Chain TableStep v.sent (sent_calls c o) w.sent × Chain TableStep v.received (received_calls c o) w.received

first_is : (u : Option ℕ) (b : Bool) → is_busy u ≡ b → sending.is_none u ≡ not b
first_is None b q = ap not q
first_is (Some n) b q = ap not q

sends_tables : (v w : LinksView) (k : ℕ) (p : SentPart) (answer : Result (Option ℕ) SendPartError) (e : Option End) (o : Owner) → IsOwn o e
    → p.number < 2 ^ 32 → SendsAt e v k p answer w → Tables v (Sends k p answer) o w
sends_tables v w k p (Ok given) None nobody own small s = same v w s.1
sends_tables v w k p (Err error) None nobody own small s = same v w s.1
sends_tables v w k p answer None (a_sender i K) own small s = absurd own
sends_tables v w k p answer None (a_receiver r l K) own small s = absurd own
sends_tables v w k p answer (Some e) nobody own small s = absurd (none-some e (sym own))
sends_tables v w k p answer (Some (Sending x)) (a_receiver r l K) own small s = absurd own
sends_tables v w k p answer (Some (Receiving x)) (a_sender i K) own small s = absurd own
sends_tables v w k p (Ok given) (Some (Receiving x)) (a_receiver r l K) own small s = same v w s.1
sends_tables v w k p (Err error) (Some (Receiving x)) (a_receiver r l K) own small s = same v w s.1
sends_tables v w k p (Ok given) (Some (Sending x)) (a_sender i K) own small s =
    let is_first = first_is x.under_way (busy_by false K) (is_busy_by i K x own) in (
      subst (λ b. Chain TableStep v.sent (noted b (settles p) (entry_of p.number k p.given) given) w.sent) is_first
          (notes (sending.is_none x.under_way) (settles p) v.sent w.sent (entry_of p.number k p.given) given small s.2.0),
      ap (λ y. y.received) s.2.2,
    )
sends_tables v w k p (Err send.NoSender) (Some (Sending x)) (a_sender i K) own small s = absurd s.2
sends_tables v w k p (Err (send.Link error)) (Some (Sending x)) (a_sender i K) own small s = same v w s.1
sends_tables v w k p (Err send.NotNext) (Some (Sending x)) (a_sender i K) own small s = same v w s.2.1
sends_tables v w k p (Err send.OutOfMemory) (Some (Sending x)) (a_sender i K) own small s = same v w s.2.1

takes_tables : (v w : LinksView) (k : ℕ) (head : PartHead) (given : ℕ) (answer : Result ReceivedPart TakePartError) (e : Option End) (o : Owner) → IsOwn o e
    → IsNumbered answer → TakesAt e v k head given answer w → Tables v (Takes k head given answer) o w
takes_tables v w k head given (Ok told) None nobody own small s = same v w s.1
takes_tables v w k head given (Err error) None nobody own small s = same v w s.1
takes_tables v w k head given answer None (a_sender i K) own small s = absurd own
takes_tables v w k head given answer None (a_receiver r l K) own small s = absurd own
takes_tables v w k head given answer (Some e) nobody own small s = absurd (none-some e (sym own))
takes_tables v w k head given answer (Some (Sending x)) (a_receiver r l K) own small s = absurd own
takes_tables v w k head given answer (Some (Receiving x)) (a_sender i K) own small s = absurd own
takes_tables v w k head given (Ok told) (Some (Sending x)) (a_sender i K) own small s = same v w s.1
takes_tables v w k head given (Err error) (Some (Sending x)) (a_sender i K) own small s = same v w s.1
takes_tables v w k head given (Ok told) (Some (Receiving x)) (a_receiver r l K) own small s = (
  ap (λ y. y.sent) s.3.3,
  notes told.part.is_first told.part.settled v.received w.received (entry_of told.part.number k given) told.settled small
      (subst (λ q. Notes q.is_first q.settled v.received (entry_of q.number k given) (Ok told.settled) w.received) (sym s.3.0) s.3.1),
)
takes_tables v w k head given (Err take.NoReceiver) (Some (Receiving x)) (a_receiver r l K) own small s = absurd s.3
takes_tables v w k head given (Err (take.Link error)) (Some (Receiving x)) (a_receiver r l K) own small s = put v w s.2.1
takes_tables v w k head given (Err take.NotNext) (Some (Receiving x)) (a_receiver r l K) own small s = same v w s.3.1
takes_tables v w k head given (Err take.OutOfMemory) (Some (Receiving x)) (a_receiver r l K) own small s = same v w s.3.1

left_sent : (v w : LinksView) (k : ℕ) (given : Option Entry) (life : Life) → LeavesSent life v k given w
    → Chain TableStep v.sent (left_by life k given) w.sent × (w.received ≡ v.received)
left_sent v w k given life.Attaching s = same v w s.1
left_sent v w k given life.Refused s = same v w s.1
left_sent v w k given life.Attached s = same v w s.1
left_sent v w k given life.Detaching s = same v w s.1
left_sent v w k given life.Detached s = ((w.sent, s.0, refl), ap (λ y. y.received) s.1)

left_received : (v w : LinksView) (k : ℕ) (given : Option Entry) (life : Life) → LeavesReceived life v k given w
    → (w.sent ≡ v.sent) × Chain TableStep v.received (left_by life k given) w.received
left_received v w k given life.Attaching s = same v w s.1
left_received v w k given life.Refused s = same v w s.1
left_received v w k given life.Attached s = same v w s.1
left_received v w k given life.Detaching s = same v w s.1
left_received v w k given life.Detached s = (ap (λ y. y.sent) s.1, (w.received, s.0, refl))

leaves_tables : (v w : LinksView) (k : ℕ) (given : Option Entry) (e : Option End) (o : Owner) → IsOwn o e → LeavesNext e v k given w
    → Tables v (Leaves k given) o w
leaves_tables v w k given None nobody own s = same v w s.1
leaves_tables v w k given None (a_sender i K) own s = absurd own
leaves_tables v w k given None (a_receiver r l K) own s = absurd own
leaves_tables v w k given (Some e) nobody own s = absurd (none-some e (sym own))
leaves_tables v w k given (Some (Sending x)) (a_receiver r l K) own s = absurd own
leaves_tables v w k given (Some (Receiving x)) (a_sender i K) own s = absurd own
leaves_tables v w k given (Some (Sending x)) (a_sender i K) own s =
    left_sent v w k given (sending_history.life_by life.Attaching K) (subst (λ y. LeavesSent y v k given w) (sending_law.stands_by i K x own) s)
leaves_tables v w k given (Some (Receiving x)) (a_receiver r l K) own s =
    left_received v w k given (receiving_history.life_by life.Attaching K) (subst (λ y. LeavesReceived y v k given w) (receiving_law.stands_by r l K x own) s)

-- ---- each call, and all of them

tables : (v w : LinksView) (c : LinksCall) (o : Owner) → IsOwn o (end_at v.ends (handle_of c)) → LinksStep v c w → Tables v c o w
tables v w (MakesRoom k) o own s = (ap (λ x. x.sent) s.1, ap (λ x. x.received) s.1)
tables v w (AddsSender k i answer) o own s = adds_kept v w k (Sending (new_sending i)) answer s.1
tables v w (AddsReceiver k r l answer) o own s = adds_kept v w k (Receiving (new_receiving r l)) answer s
tables v w (Attaches k a answer) o own s = attaches_kept v w k a answer (end_at v.ends k) s.1
tables v w (Detaches k answer) o own s = detaches_kept v w k answer (end_at v.ends k) s
tables v w (Ends k answer) o own s = ends_kept v w k answer (end_at v.ends k) s
tables v w (Flows k f answer) o own s = flows_kept v w k f answer (end_at v.ends k) s
tables v w (Answers k n answer) o own s = answers_kept v w k n answer (end_at v.ends k) s
tables v w (Grants k n answer) o own s = receiver_kept (λ a told b. GrantStep a n told b) v w k answer (end_at v.ends k) s
tables v w (Drains k answer) o own s = receiver_kept (λ a told b. DrainStep a told b) v w k answer (end_at v.ends k) s
tables v w (Renews k answer) o own s = receiver_kept (λ a told b. RenewStep a told b) v w k answer (end_at v.ends k) s
tables v w (Sends k p answer) o own s = sends_tables v w k p answer (end_at v.ends k) o own s.0 s.1
tables v w (Takes k head given answer) o own s = takes_tables v w k head given answer (end_at v.ends k) o own s.0 s.1
tables v w (Leaves k given) o own s = leaves_tables v w k given (end_at v.ends k) o own s
tables v w (Removes k answer) o own s = removes_kept v w k answer (end_at v.ends k) s
tables v w (SettlesOfSent first last given) o own s = ((w.sent, s.0, refl), ap (λ y. y.received) s.1)
tables v w (SettlesOfReceived first last given) o own s = (ap (λ y. y.sent) s.1, (w.received, s.0, refl))
tables v w (LeavesOfSent given) o own s = ((w.sent, s.0, refl), ap (λ y. y.received) s.1)
tables v w (LeavesOfReceived given) o own s = (ap (λ y. y.sent) s.1, (w.received, s.0, refl))
tables v w (AsksEnd k answer) o own s = same v w s.1
tables v w (AsksSent n answer) o own s = same v w s.1
tables v w (AsksReceived n answer) o own s = same v w s.1

owner_on : (h : ℕ) (o : Owner) (before : List LinksCall) (c : LinksCall) → owner_by h o (before ++ c ∷ []) ≡ owner_after h c (owner_by h o before)
owner_on h o [] c = refl
owner_on h o (b ∷ before) c = owner_on h (owner_after h b o) before c

all_tables : (v w : LinksView) (before H : List LinksCall) → ((h : ℕ) → IsOwn (owner_by h nobody before) (end_at v.ends h)) → SessionChain LinksStep v H w
    → Chain TableStep v.sent (table_calls sent_calls before H) w.sent × Chain TableStep v.received (table_calls received_calls before H) w.received
all_tables v w before [] own chain = same v w chain
all_tables v w before (c ∷ cs) own chain =
    let m = chain.0 in
    let one = tables v m c (owner_by (handle_of c) nobody before) (own (handle_of c)) chain.1 in
    let rest = all_tables m w (before ++ c ∷ []) cs
    (λ h. subst (λ o. IsOwn o (end_at m.ends h)) (sym (owner_on h nobody before c)) (alone v m c h (owner_by h nobody before) (own h) chain.1)) chain.2 in (
      joined TableStep v.sent m.sent w.sent (sent_calls c (owner_by (handle_of c) nobody before)) (table_calls sent_calls (before ++ c ∷ []) cs) one.0 rest.0,
      joined TableStep v.received m.received w.received (received_calls c (owner_by (handle_of c) nobody before)) (table_calls received_calls (before ++ c ∷ []) cs) one.1 rest.1,
    )

pub are_tables : OfLinks AreTables
are_tables H v leads = all_tables no_links v [] H none_there leads
