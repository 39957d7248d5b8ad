-- Whatever is called on an endpoint, its links go on by calls of a session's links.
use Rattle.std.proofs.Common.{ℕ, ◌^◌, ◌<◌, ◌≡◌, ◌-◌, inl, inr, not, nat_eq, nat_le, Bool, true, false, List, [], ◌∷◌, ◌++◌, Option, Some, None, Result, Ok, Err, refl, ap}
use Rattle.amqp_types.specs.declared.performatives.Performative.TheVariants as performative
use Rattle.amqp_types.specs.Attach.{AttachModel}
use Rattle.amqp_types.specs.Detach.{DetachModel}
use Rattle.amqp_types.specs.Error.{ErrorModel}
use Rattle.amqp_types.specs.declared.definitions.Role.{Role}
use Rattle.amqp_types.specs.declared.definitions.Role.TheVariants as role
use Rattle.amqp_credit.specs.Chain.{Chain}
use Rattle.amqp_credit.specs.declared.receiver.Renewal.{Renewal}
use Rattle.amqp_credit.proofs.ChainLemmas.{joined}
use Rattle.amqp_session.specs.Relay.{Relays}
use Rattle.amqp_session.specs.declared.numbers.OutputHandle.{OutputHandle}
use Rattle.amqp_driver.specs.declared.asked.Asked.{Asked}
use Rattle.amqp_driver.specs.declared.asked.Asked.TheVariants as asked
use Rattle.amqp_driver.specs.declared.head.TransferHead.{TransferHead}
use Rattle.amqp_driver.specs.declared.record.Record.{Record}
use Rattle.amqp_driver.specs.Record.{number_or}
use Rattle.amqp_driver.specs.Stream.{StreamView}
use Rattle.amqp_links.specs.declared.session.granting.FlowWish.{FlowWish}
use Rattle.amqp_links.specs.declared.session.granting.FlowWish.TheVariants as wish
use Rattle.amqp_links.specs.declared.session.granting.LinkFlow.{LinkFlow}
use Rattle.amqp_links.specs.declared.session.granting.PreparedFlow.{PreparedFlow}
use Rattle.amqp_links.specs.declared.session.attaching.PeerAttach.{PeerAttach}
use Rattle.amqp_links.specs.declared.session.taking.TakePartError.TheVariants as take
use Rattle.amqp_links.specs.declared.receiving.TransferError.TheVariants as error
use Rattle.amqp_links.specs.Ends.{end_at}
use Rattle.amqp_links.specs.PreparingFlow.{PreparesFlow, SaysAt}
use Rattle.amqp_links.specs.Session.{LinksView}
use Rattle.amqp_links.specs.SessionHistory.{LinksCall, LinksStep}
use Rattle.amqp_links.specs.SessionHistory as call
use Rattle.amqp_links.specs.declared.receiving.LinkFault.{LinkFault}
use Rattle.amqp_links.specs.declared.session.RemoveError.{RemoveError}
use Rattle.amqp_links.specs.declared.session.sending.SentPart.{SentPart}
use Rattle.amqp_links.specs.Settling.{left_at}
use Rattle.amqp_links.proofs.HalvesLemmas.{halves_say}
use Rattle.amqp_unsettled.specs.declared.entry.Entry.{Entry}
use Rattle.amqp_endpoints.specs.declared.endpoint.attaching.AttachError.{AttachError}
use Rattle.amqp_endpoints.specs.declared.endpoint.attaching.AttachError.TheVariants as unattached
use Rattle.amqp_endpoints.specs.declared.endpoint.sending.SendFailure.{SendFailure}
use Rattle.amqp_endpoints.specs.declared.endpoint.sending.SendFailure.TheVariants as failed
use Rattle.amqp_endpoints.specs.declared.endpoint.sending.SentDelivery.{SentDelivery}
use Rattle.amqp_endpoints.specs.declared.endpoint.settling.NoMemory.{NoMemory}
use Rattle.amqp_endpoints.specs.declared.event.LinkAnswer.{LinkAnswer}
use Rattle.amqp_endpoints.specs.declared.event.LinkAnswer.TheVariants as answer
use Rattle.amqp_endpoints.specs.declared.event.LinkEvent.{LinkEvent}
use Rattle.amqp_endpoints.specs.declared.event.LinkEvent.TheVariants as event
use Rattle.amqp_endpoints.specs.declared.event.RecordError.{RecordError}
use Rattle.amqp_endpoints.specs.declared.event.RecordError.TheVariants as no
use Rattle.amqp_endpoints.specs.declared.late.LateLink.{LateLink}
use Rattle.amqp_endpoints.specs.Attaching.{AddsLink, AsksAttach, AttachesBy, AttachesUnder, FindsHandle, RequestsAttach, end_by_role, handle_named}
use Rattle.amqp_endpoints.specs.Endpoint.{EndpointView, RemovesUnless, SettlesNext, Stands, new_endpoint}
use Rattle.amqp_endpoints.specs.Fitting.{fits_frame}
use Rattle.amqp_endpoints.specs.Flowing.{AsksDetach, AsksEnd, AsksFlow, Detaches, DetachesFor, DetachesIf, DetachesUnless, EndsFor, EndsIfOwed, FinishesIf, Pays}
use Rattle.amqp_endpoints.specs.Flowing.{RequestsDetach, SaysFlow, SaysPrepared, awaits, detach_of, fault_error, is_attaching, is_done}
use Rattle.amqp_endpoints.specs.Forgetting.{EndsIf, RenewsIf}
use Rattle.amqp_endpoints.specs.History.{EndpointCall, EndpointStep, HaveHistories, IsTold}
use Rattle.amqp_endpoints.specs.History as history
use Rattle.amqp_endpoints.specs.Places.{place_at}
use Rattle.amqp_endpoints.specs.Reading.{credit_flow, first_attach, part_head, part_tag, peer_attach}
use Rattle.amqp_endpoints.specs.Responding.{Responds}
use Rattle.amqp_endpoints.specs.Sending.{SendsPart, is_first_of, lets_go, part_of}
use Rattle.amqp_endpoints.specs.Settling.{IsLeft, LeavesBy, LeavesUnless, lacks_memory}
use Rattle.amqp_endpoints.specs.Telling.{Choose, KeepsTag, OnRecord, OwesIf, TakesBy, TellsAny, TellsAttach, TellsDetach, TellsFlow, TellsLink, TellsOk, TellsPart, is_unanswered, keeps_tag, link_by, without_input}
use Rattle.amqp_endpoints.specs.Waiting.{AsksUnless, DueIf, HoldsBack, IsAsked, ListsUnless, TakesDue, held_back, is_held_back}

-- the links go on by calls of their own
abbrev GoesOn : LinksView → LinksView → Type 0
GoesOn l m = (K : List LinksCall) × Chain LinksStep l K m

still : (v w : EndpointView) → w ≡ v → GoesOn v.links w.links
still v w e = ([], ap (λ (x : EndpointView). x.links) e)

one : (l m : LinksView) (c : LinksCall) → LinksStep l c m → GoesOn l m
one l m c step = (c ∷ [], (m, step, refl))

both : (l m n : LinksView) → GoesOn l m → GoesOn m n → GoesOn l n
both l m n a b = (a.0 ++ b.0, joined LinksStep l m n a.0 b.0 a.1 b.1)

choose : (b : Bool) (A B C : Type 0) → (A → C) → (B → C) → Choose b A B → C
choose true A B C there other h = there h
choose false A B C there other h = other h

-- ---- records

attach_goes : (v w : EndpointView) (r : Record) (h : ℕ) (a : PeerAttach) (result : Result LinkEvent RecordError) → a.initial_delivery_count < 2 ^ 32
    → TellsAttach v r h a result w → GoesOn v.links w.links
attach_goes v w r h a (Ok (event.Attached k life)) small s = one v.links w.links (call.Attaches h a (Some life)) (small, s.1.0)
attach_goes v w r h a (Ok event.Nothing) small s = still v w s.1
attach_goes v w r h a (Ok (event.Flow k used)) small s = absurd s
attach_goes v w r h a (Ok (event.Part k told)) small s = absurd s
attach_goes v w r h a (Ok (event.PassedOver k n)) small s = absurd s
attach_goes v w r h a (Ok (event.Fault k f n)) small s = absurd s
attach_goes v w r h a (Ok (event.Settled role first last by_peer)) small s = absurd s
attach_goes v w r h a (Ok (event.Ended k end closed)) small s = absurd s
attach_goes v w r h a (Ok (event.Due k)) small s = absurd s
attach_goes v w r h a (Err no.NotNext) small s = absurd s
attach_goes v w r h a (Err no.OutOfMemory) small s = still v w s.0

flow_goes : (v w : EndpointView) (r : Record) (h : ℕ) (e : LinkEvent) → TellsFlow v r h e w → GoesOn v.links w.links
flow_goes v w r h (event.Flow k used) s = one v.links w.links (call.Flows h (credit_flow r) (Some (Ok used))) s.1.0
flow_goes v w r h (event.Fault k f n) s = one v.links w.links (call.Flows h (credit_flow r) (Some (Err f))) s.2.0
flow_goes v w r h event.Nothing s = one v.links w.links (call.Flows h (credit_flow r) None) s.0
flow_goes v w r h (event.Attached k life) s = absurd s
flow_goes v w r h (event.Part k told) s = absurd s
flow_goes v w r h (event.PassedOver k n) s = absurd s
flow_goes v w r h (event.Settled role first last by_peer) s = absurd s
flow_goes v w r h (event.Ended k end closed) s = absurd s
flow_goes v w r h (event.Due k) s = absurd s

keeps : (b : Bool) (v w : EndpointView) (r : Record) (h : ℕ) (Step : LinksView → LinksView → Type 0) → KeepsTag b v r h Step w → Step v.links w.links
keeps true v w r h Step s = s.0
keeps false v w r h Step s = s.0

part_goes : (v w : EndpointView) (r : Record) (h given : ℕ) (result : Result LinkEvent RecordError) → IsTold result → TellsPart v r h given result w
    → GoesOn v.links w.links
part_goes v w r h given (Ok (event.Part k told)) small s = one v.links w.links (call.Takes h (part_head (part_tag (place_at v.places h) r) r) given (Ok told))
    (small, keeps (keeps_tag told.part) v w r h (TakesBy v r h given (Ok told)) s.1)
part_goes v w r h given (Ok (event.PassedOver k n)) small s =
    one v.links w.links (call.Takes h (part_head (part_tag (place_at v.places h) r) r) given (Err (take.Link error.NotAttached))) (tt, s.2.0)
part_goes v w r h given (Ok (event.Fault k f n)) small s =
    one v.links w.links (call.Takes h (part_head (part_tag (place_at v.places h) r) r) given (Err (take.Link (error.Fault f)))) (tt, s.2.0)
part_goes v w r h given (Ok event.Nothing) small s =
    one v.links w.links (call.Takes h (part_head (part_tag (place_at v.places h) r) r) given (Err take.NoReceiver)) (tt, s.0)
part_goes v w r h given (Err no.NotNext) small s =
    one v.links w.links (call.Takes h (part_head (part_tag (place_at v.places h) r) r) given (Err take.NotNext)) (tt, s.0)
part_goes v w r h given (Err no.OutOfMemory) small s =
    one v.links w.links (call.Takes h (part_head (part_tag (place_at v.places h) r) r) given (Err take.OutOfMemory)) (tt, s.0)
part_goes v w r h given (Ok (event.Attached k life)) small s = absurd s
part_goes v w r h given (Ok (event.Flow k used)) small s = absurd s
part_goes v w r h given (Ok (event.Settled role first last by_peer)) small s = absurd s
part_goes v w r h given (Ok (event.Ended k end closed)) small s = absurd s
part_goes v w r h given (Ok (event.Due k)) small s = absurd s

owes : (b : Bool) (v w : EndpointView) (h : ℕ) (closes : Bool) (Step : LinksView → LinksView → Type 0) → OwesIf b v h closes Step w → Step v.links w.links
owes true v w h closes Step s = s.0
owes false v w h closes Step s = s.0

detach_goes : (v w : EndpointView) (r : Record) (h : ℕ) (e : LinkEvent) → TellsDetach v r h e w → GoesOn v.links w.links
detach_goes v w r h (event.Ended k end closed) s = one v.links w.links (call.Ends h (Some end))
    (owes (is_unanswered end) (without_input v r) w h closed (λ l m. _) s.2)
detach_goes v w r h event.Nothing s = one v.links w.links (call.Ends h None) s.0
detach_goes v w r h (event.Attached k life) s = absurd s
detach_goes v w r h (event.Flow k used) s = absurd s
detach_goes v w r h (event.Part k told) s = absurd s
detach_goes v w r h (event.PassedOver k n) s = absurd s
detach_goes v w r h (event.Fault k f n) s = absurd s
detach_goes v w r h (event.Settled role first last by_peer) s = absurd s
detach_goes v w r h (event.Due k) s = absurd s

ok_goes : (v w : EndpointView) (Tells : LinkEvent → EndpointView → Type 0) (result : Result LinkEvent RecordError)
    → ((e : LinkEvent) → Tells e w → GoesOn v.links w.links) → TellsOk Tells result w → GoesOn v.links w.links
ok_goes v w Tells (Ok e) each s = each e s
ok_goes v w Tells (Err error) each s = absurd s

link_goes : (v w : EndpointView) (r : Record) (h given : ℕ) (result : Result LinkEvent RecordError) → r.count < 2 ^ 32 → IsTold result
    → TellsLink v r h given result w → GoesOn v.links w.links
link_goes v w r h given result small told =
    choose (nat_eq r.kind 6) _ _ _ (part_goes v w r h given result told)
    (choose (nat_eq r.kind 5) _ _ _ (ok_goes v w (TellsFlow v r h) result (flow_goes v w r h))
    (choose (nat_eq r.kind 3) _ _ _ (attach_goes v w r h (peer_attach r) result small)
    (choose (nat_eq r.kind 8) _ _ _ (ok_goes v w (TellsDetach v r h) result (detach_goes v w r h))
    (λ s. still v w s.1))))

any_goes : (v w : EndpointView) (r : Record) (given : ℕ) (result : Result LinkEvent RecordError) (o : Option ℕ) → r.count < 2 ^ 32 → IsTold result
    → TellsAny o v r given result w → GoesOn v.links w.links
any_goes v w r given result None small told s = still v w s.1
any_goes v w r given result (Some h) small told s = link_goes v w r h given result small told s

record_goes : (v w : EndpointView) (r : Record) (given : ℕ) (result : Result LinkEvent RecordError) → r.count < 2 ^ 32 → IsTold result
    → OnRecord v r given result w → GoesOn v.links w.links
record_goes v w r given result small told =
    choose (not (nat_eq r.session v.session.0)) _ _ _ (λ s. still v w s.1)
    (choose (nat_eq r.kind 7) _ _ _ (λ s. still v w s.1) (any_goes v w r given result (link_by v r) small told))

-- ---- attaches

stands_goes : (v w : EndpointView) → Stands v w → GoesOn v.links w.links
stands_goes v w s = one v.links w.links (call.MakesRoom 0) s.links

finds_goes : (v w : EndpointView) (o : Option OutputHandle) (found : Result OutputHandle AttachError) → FindsHandle o v found w → GoesOn v.links w.links
finds_goes v w None found s = still v w s.1
finds_goes v w (Some h) (Ok handle) s = stands_goes v w s.2.stands
finds_goes v w (Some h) (Err unattached.InUse) s = still v w s.1
finds_goes v w (Some h) (Err unattached.OutOfMemory) s = stands_goes v w s.1
finds_goes v w (Some h) (Err unattached.NoLink) s = absurd s
finds_goes v w (Some h) (Err (unattached.Asked a)) s = absurd s

adds_goes : (r : Role) (a : AttachModel) (renewal : Option Renewal) (v w : EndpointView) (h : ℕ) → number_or 0 a.initial_delivery_count < 2 ^ 32
    → AddsLink v h (end_by_role r a renewal) w → GoesOn v.links w.links
adds_goes role.Sender a renewal v w h small s =
    one v.links w.links (call.AddsSender h (number_or 0 a.initial_delivery_count) (Ok tt)) (small, s.0)
adds_goes role.Receiver a renewal v w h small s = one v.links w.links (call.AddsReceiver h renewal a.max_message_size (Ok tt)) s.0

requests_goes : {R : Type 0} (fits : Bool) (g : Relays R) (v w : EndpointView) (s s' : StreamView R) (said : AttachModel) (a : AttachModel)
    (renewal : Option Renewal) (h : OutputHandle) (result : Result OutputHandle AttachError) → number_or 0 a.initial_delivery_count < 2 ^ 32
    → RequestsAttach fits g v s said h (end_by_role a.role a renewal) result s' w → GoesOn v.links w.links
requests_goes true g v w s s' said a renewal h (Ok handle) small x = adds_goes a.role a renewal v w h.0 small x.2
requests_goes true g v w s s' said a renewal h (Err (unattached.Asked answer)) small x = still v w x.2
requests_goes true g v w s s' said a renewal h (Err unattached.NoLink) small x = absurd x
requests_goes true g v w s s' said a renewal h (Err unattached.InUse) small x = absurd x
requests_goes true g v w s s' said a renewal h (Err unattached.OutOfMemory) small x = absurd x
requests_goes false g v w s s' said a renewal h result small x = still v w x.2

asks_goes : {R : Type 0} (g : Relays R) (v w : EndpointView) (s s' : StreamView R) (said : AttachModel) (a : AttachModel) (renewal : Option Renewal)
    (h : OutputHandle) (result : Result OutputHandle AttachError) → number_or 0 a.initial_delivery_count < 2 ^ 32
    → AsksAttach g v s said h (end_by_role a.role a renewal) result s' w → GoesOn v.links w.links
asks_goes g v w s s' said a renewal h result small x = requests_goes (fits_frame s (performative.Attach said)) g v w s s' said a renewal h result small x

attaches_by : {R : Type 0} (g : Relays R) (v w : EndpointView) (s s' : StreamView R) (a : AttachModel) (renewal : Option Renewal)
    (found result : Result OutputHandle AttachError) → number_or 0 a.initial_delivery_count < 2 ^ 32 → AttachesBy found g v s a renewal result s' w
    → GoesOn v.links w.links
attaches_by g v w s s' a renewal (Err error) result small x = still v w x.2
attaches_by g v w s s' a renewal (Ok h) result small x = asks_goes g v w s s' _ a renewal h result small x

attached_goes : {R : Type 0} (g : Relays R) (name : List ℕ) (v w : EndpointView) (s s' : StreamView R) (a : AttachModel) (renewal : Option Renewal)
    (result : Result OutputHandle AttachError) → number_or 0 a.initial_delivery_count < 2 ^ 32 → AttachesUnder g name v s a renewal result s' w → GoesOn v.links w.links
attached_goes g name v w s s' a renewal result small x =
    both v.links x.between.links w.links (finds_goes v x.between (handle_named s v name) x.found x.finds)
    (attaches_by g x.between w s s' a renewal x.found result small x.attaches)

-- ---- flows

-- the call of a wish
abbrev call_of : FlowWish → ℕ → Option LinkFlow → LinksCall
call_of (wish.Grant n) h answer = call.Grants h n answer
call_of wish.Drain h answer = call.Drains h answer
call_of wish.Renew h answer = call.Renews h answer
call_of (wish.Answer n) h answer = call.Answers h n answer

step_of : (wished : FlowWish) (l m : LinksView) (h : ℕ) (f : LinkFlow) → SaysAt wished (end_at l.ends h) l h (Some f) m
    → LinksStep l (call_of wished h (Some f)) m
step_of (wish.Grant n) l m h f s = s
step_of wish.Drain l m h f s = s
step_of wish.Renew l m h f s = s
step_of (wish.Answer n) l m h f s = s

finishes_goes : (b : Bool) (wished : FlowWish) (v w : EndpointView) (h : ℕ) (q : PreparedFlow) → PreparesFlow wished (end_at v.links.ends h) h (Some q)
    → FinishesIf b q v w → GoesOn v.links w.links
finishes_goes true wished v w h q prepares x =
    one v.links w.links (call_of wished h (Some q.said)) (step_of wished v.links w.links h q.said (halves_say wished v.links w.links h q prepares x.0))
finishes_goes false wished v w h q prepares x = still v w x

-- a call that waits changes no link
lists_goes : (b : Bool) (v w : EndpointView) (h : ℕ) → ListsUnless b v h w → GoesOn v.links w.links
lists_goes true v w h x = still v w x
lists_goes false v w h x = ([], ap (λ (y : EndpointView). y.links) x.1)

holds_goes : (v w : EndpointView) (h : ℕ) (answer : LinkAnswer) → HoldsBack v h answer w → GoesOn v.links w.links
holds_goes v w h answer.HeldBack x = lists_goes (place_at v.places h).is_listed v w h x
holds_goes v w h (answer.Asked asked.NoMemory) x = still v w x.0
holds_goes v w h (answer.Asked asked.Done) x = absurd x
holds_goes v w h (answer.Asked asked.TooLarge) x = absurd x
holds_goes v w h (answer.Asked (asked.Refused e)) x = absurd x
holds_goes v w h (answer.Asked asked.Over) x = absurd x
holds_goes v w h answer.NotWanted x = absurd x

is_asked : {R : Type 0} (Asks : Asked → StreamView R → EndpointView → Type 0) (v w : EndpointView) (s' : StreamView R) (answer : LinkAnswer)
    → ((a : Asked) → Asks a s' w → GoesOn v.links w.links) → IsAsked Asks answer s' w → GoesOn v.links w.links
is_asked Asks v w s' (answer.Asked a) each x = each a x
is_asked Asks v w s' answer.HeldBack each x = absurd x
is_asked Asks v w s' answer.NotWanted each x = absurd x

unless_goes : {R : Type 0} (b : Bool) (Asks : Asked → StreamView R → EndpointView → Type 0) (v w : EndpointView) (s s' : StreamView R) (h : ℕ)
    (answer : LinkAnswer) → ((a : Asked) → Asks a s' w → GoesOn v.links w.links) → AsksUnless b Asks v s h answer s' w → GoesOn v.links w.links
unless_goes true Asks v w s s' h answer each x = holds_goes v w h answer x.0
unless_goes false Asks v w s s' h answer each x = is_asked Asks v w s' answer each x

prepared_goes : {R : Type 0} (g : Relays R) (prepared : Option PreparedFlow) (v w : EndpointView) (s s' : StreamView R) (h : ℕ) (wished : FlowWish)
    (answer : LinkAnswer) → PreparesFlow wished (end_at v.links.ends h) h prepared → SaysPrepared prepared g v s h answer s' w → GoesOn v.links w.links
prepared_goes g None v w s s' h wished answer prepares x = still v w x.2
prepared_goes g (Some q) v w s s' h wished answer prepares x = unless_goes (is_held_back v s h) (λ a s' w. AsksFlow g v s h q a s' w) v w s s' h answer
    (λ a y. finishes_goes (is_done a) wished v w h q prepares y.1) x

says_goes : {R : Type 0} (g : Relays R) (v w : EndpointView) (s s' : StreamView R) (h : ℕ) (wished : FlowWish) (answer : LinkAnswer)
    → SaysFlow g v s h wished answer s' w → GoesOn v.links w.links
says_goes g v w s s' h wished answer x = prepared_goes g x.0 v w s s' h wished answer x.1 x.2

-- ---- Detaches

detached_goes : (b : Bool) (v w : EndpointView) (h : ℕ) → DetachesIf b h v w → GoesOn v.links w.links
detached_goes true v w h x = one v.links w.links (call.Detaches h x.0) x.1.0
detached_goes false v w h x = still v w x

request_goes : {R : Type 0} (fits : Bool) (g : Relays R) (v w : EndpointView) (s s' : StreamView R) (h : ℕ) (d : DetachModel) (waits : Bool) (a : Asked)
    → RequestsDetach fits g v s h d waits a s' w → GoesOn v.links w.links
request_goes true g v w s s' h d waits a x = detached_goes (is_done a) v w h x.1
request_goes false g v w s s' h d waits a x = still v w x.2

asks_detach_goes : {R : Type 0} (g : Relays R) (v w : EndpointView) (s s' : StreamView R) (h : ℕ) (closed : Bool) (e : Option ErrorModel) (waits : Bool) (a : Asked)
    → AsksDetach g v s h closed e waits a s' w → GoesOn v.links w.links
asks_detach_goes g v w s s' h closed e waits a x =
    request_goes (fits_frame s (performative.Detach (detach_of h closed e))) g v w s s' h (detach_of h closed e) waits a x

detaches_by : {R : Type 0} (g : Relays R) (o : Option Bool) (v w : EndpointView) (s s' : StreamView R) (h : ℕ) (closed : Bool) (e : Option ErrorModel)
    (answer : LinkAnswer) → DetachesFor o g v s h closed e answer s' w → GoesOn v.links w.links
detaches_by g None v w s s' h closed e answer x = still v w x.2
detaches_by g (Some waits) v w s s' h closed e answer x =
    unless_goes (is_held_back v s h) (λ a s' w. AsksDetach g v s h closed e waits a s' w) v w s s' h answer
    (λ a y. asks_detach_goes g v w s s' h closed e waits a y) x

detaches_unless : {R : Type 0} (b : Bool) (g : Relays R) (v w : EndpointView) (s s' : StreamView R) (h : ℕ) (closed : Bool) (e : Option ErrorModel)
    (answer : LinkAnswer) → DetachesUnless b g v s h closed e answer s' w → GoesOn v.links w.links
detaches_unless true g v w s s' h closed e answer x = still v w x.2
detaches_unless false g v w s s' h closed e answer x = detaches_by g (awaits v h) v w s s' h closed e answer x

detaches_goes : {R : Type 0} (g : Relays R) (v w : EndpointView) (s s' : StreamView R) (h : ℕ) (closed : Bool) (e : Option ErrorModel) (answer : LinkAnswer)
    → Detaches g v s h closed e answer s' w → GoesOn v.links w.links
detaches_goes g v w s s' h closed e answer x = detaches_unless (is_attaching (end_at v.links.ends h)) g v w s s' h closed e answer x

asks_end_goes : {R : Type 0} (g : Relays R) (v w : EndpointView) (s s' : StreamView R) (h : ℕ) (f : LinkFault) (waits : Bool) (a : Asked)
    → AsksEnd g v s h f waits a s' w → GoesOn v.links w.links
asks_end_goes g v w s s' h f waits a (inl x) = asks_detach_goes g v w s s' h true (Some (fault_error f)) waits a x
asks_end_goes g v w s s' h f waits a (inr x) = still v w x.2

ends_by : {R : Type 0} (g : Relays R) (o : Option Bool) (v w : EndpointView) (s s' : StreamView R) (h : ℕ) (f : LinkFault) (answer : LinkAnswer)
    → EndsIfOwed o g v s h f answer s' w → GoesOn v.links w.links
ends_by g None v w s s' h f answer x = still v w x.2
ends_by g (Some waits) v w s s' h f answer x =
    is_asked (λ a s' w. AsksEnd g v s h f waits a s' w) v w s' answer (λ a y. asks_end_goes g v w s s' h f waits a y) x

ends_goes : {R : Type 0} (g : Relays R) (v w : EndpointView) (s s' : StreamView R) (h : ℕ) (f : LinkFault) (answer : LinkAnswer)
    → EndsFor g v s h f answer s' w → GoesOn v.links w.links
ends_goes g v w s s' h f answer x = ends_by g (awaits v h) v w s s' h f answer x

pays_goes : {R : Type 0} (g : Relays R) (owes : Bool) (v w : EndpointView) (s s' : StreamView R) (h available : ℕ) (answer : LinkAnswer)
    → Pays owes g v s h available answer s' w → GoesOn v.links w.links
pays_goes g true v w s s' h available answer x = detaches_goes g v w s s' h (place_at v.places h).closes None answer x
pays_goes g false v w s s' h available answer x = says_goes g v w s s' h (wish.Answer available) answer x

-- what the session lets go changes no link
renews_goes : {R : Type 0} (done : Bool) (g : Relays R) (v w : EndpointView) (s s' : StreamView R) (h : ℕ) (answer : LinkAnswer)
    → RenewsIf done g v s h answer s' w → GoesOn v.links w.links
renews_goes true g v w s s' h answer x = says_goes g v w s s' h wish.Renew answer x
renews_goes false g v w s s' h answer x = still v w x.2

ends_if_goes : {R : Type 0} (done : Bool) (g : Relays R) (v w : EndpointView) (s s' : StreamView R) (h : ℕ) (f : LinkFault) (answer : LinkAnswer)
    → EndsIf done g v s h f answer s' w → GoesOn v.links w.links
ends_if_goes true g v w s s' h f answer x = ends_goes g v w s s' h f answer x
ends_if_goes false g v w s s' h f answer x = still v w x.2

responds_goes : {R : Type 0} (g : Relays R) (v w : EndpointView) (s s' : StreamView R) (e : LinkEvent) (available : ℕ) (answer : LinkAnswer)
    → Responds g v s e available answer s' w → GoesOn v.links w.links
responds_goes g v w s s' (event.Attached h life) available answer x = says_goes g v w s s' h wish.Renew answer x
responds_goes g v w s s' (event.Part h told) available answer x = renews_goes x.0 g v w x.1 s' h answer x.3
responds_goes g v w s s' (event.Flow h used) available answer x = says_goes g v w s s' h (wish.Answer available) answer x
responds_goes g v w s s' (event.Fault h f n) available answer x = ends_if_goes x.0 g v w x.1 s' h f answer x.3
responds_goes g v w s s' (event.Ended h end closed) available answer x = detaches_goes g v w s s' h closed None answer x
responds_goes g v w s s' (event.Due h) available answer x = pays_goes g (place_at v.places h).owes v w s s' h available answer x
responds_goes g v w s s' (event.Settled role first last by_peer) available answer x = still v w x.1
responds_goes g v w s s' event.Nothing available answer x = still v w x.2
responds_goes g v w s s' (event.PassedOver h n) available answer x = still v w x.1

-- what is due changes no link
due_goes : (b : Bool) (l : LateLink) (ls : List LateLink) (v w : EndpointView) (e : LinkEvent) → DueIf b l ls v e w → GoesOn v.links w.links
due_goes true l ls v w e x = ([], ap (λ (y : EndpointView). y.links) x.2)
due_goes false l ls v w e x = still v w x.1

dues_go : {R : Type 0} (ls : List LateLink) (v w : EndpointView) (s : StreamView R) (e : LinkEvent) → TakesDue ls v s e w → GoesOn v.links w.links
dues_go [] v w s e x = still v w x.1
dues_go (l ∷ ls) v w s e x = due_goes (nat_le (held_back v s) (v.sent - l.sent)) l ls v w e x

-- ---- transfers

sends_goes : {R : Type 0} (lets : Bool) (g : Relays R) (v w : EndpointView) (s s' : StreamView R) (head : TransferHead) (bytes : List ℕ) (p : SentPart) (first : Bool)
    (result : Result SentDelivery SendFailure) → p.number < 2 ^ 32 → SendsPart lets g v s head bytes p first result s' w → GoesOn v.links w.links
sends_goes lets g v w s s' head bytes p first (Ok told) small x =
    one v.links w.links (call.Sends head.link p (Ok told.settled))
    (small, x.2.0)
sends_goes lets g v w s s' head bytes p first (Err (failed.Link e)) small x = still v w x.2
sends_goes lets g v w s s' head bytes p first (Err (failed.Refused why)) small x = still v w x.1
sends_goes lets g v w s s' head bytes p first (Err (failed.Stopped why)) small x = still v w x.1

-- ---- what is settled, and left

settles_goes : (v w : EndpointView) (r : Role) (first last : ℕ) (given : Option Entry) → SettlesNext r first last v given w → GoesOn v.links w.links
settles_goes v w role.Sender first last given x = one v.links w.links (call.SettlesOfSent first last given) x.0
settles_goes v w role.Receiver first last given x = one v.links w.links (call.SettlesOfReceived first last given) x.0

left_goes : (v w : EndpointView) (h : ℕ) (result : Result (Option Entry) NoMemory) → IsLeft result v h w → GoesOn v.links w.links
left_goes v w h (Ok given) x = one v.links w.links (call.Leaves h given) x.0
left_goes v w h (Err e) x = absurd x

leaves_unless : (b : Bool) (v w : EndpointView) (h : ℕ) (result : Result (Option Entry) NoMemory) → LeavesUnless b v h result w → GoesOn v.links w.links
leaves_unless true v w h result x = still v w x.1
leaves_unless false v w h result x = left_goes v w h result x

leaves_by : {R : Type 0} (g : Relays R) (o : Option Entry) (v w : EndpointView) (s s' : StreamView R) (h : ℕ) (result : Result (Option Entry) NoMemory)
    → LeavesBy o g v s h result s' w → GoesOn v.links w.links
leaves_by g None v w s s' h result x = still v w x.2
leaves_by g (Some e) v w s s' h result x = leaves_unless (lacks_memory x.0) v w h result x.2

removes_goes : (b : Bool) (v w : EndpointView) (h : ℕ) (result : Result (Unit {0}) RemoveError) → RemovesUnless b v h result w → GoesOn v.links w.links
removes_goes true v w h result x = still v w x.1
removes_goes false v w h result x = one v.links w.links (call.Removes h result) x.0

-- ---- each call, and all of them

step_goes : {R : Type 0} (g : Relays R) (v w : EndpointView) (c : EndpointCall) → EndpointStep g v c w → GoesOn v.links w.links
step_goes g v w (history.Told r given result) x = record_goes v w r given result x.0 x.1 x.2
step_goes g v w (history.Wanted r h result) x = attach_goes v w r h (first_attach r) result x.0 x.1
step_goes g v w (history.Attaches a renewal result) x = attached_goes g a.name v w x.0 x.1 a renewal result x.2 x.3
step_goes g v w (history.AttachesNamed name a renewal result) x = attached_goes g name v w x.0 x.1 a renewal result x.2 x.3
step_goes g v w (history.Says h wished answer) x = says_goes g v w x.0 x.1 h wished answer x.2
step_goes g v w (history.Detaches h closed e answer) x = detaches_goes g v w x.0 x.1 h closed e answer x.2
step_goes g v w (history.Responds e available answer) x = responds_goes g v w x.0 x.1 e available answer x.2
step_goes g v w (history.Sends head bytes given result) x =
    let first = is_first_of (end_at v.links.ends head.link) in
    let p = part_of v x.0 head given first in
    sends_goes (lets_go v p first) g v w x.0 x.1 head bytes p first result x.2 x.3
step_goes g v w (history.Settles r first last given) x = settles_goes v w r first last given x
step_goes g v w (history.TellsDue e) x = dues_go v.late v w x.0 e x.1
step_goes g v w (history.Leaves h result) x = leaves_by g (left_at (end_at v.links.ends h) v.links h) v w x.0 x.1 h result x.2
step_goes g v w (history.LeavesOfSent given) x = one v.links w.links (call.LeavesOfSent given) x.0
step_goes g v w (history.LeavesOfReceived given) x = one v.links w.links (call.LeavesOfReceived given) x.0
step_goes g v w (history.RemovesLink h result) x = removes_goes (place_at v.places h).owes v w h result x

all_go : {R : Type 0} (g : Relays R) (v w : EndpointView) (H : List EndpointCall) → Chain (EndpointStep g) v H w → GoesOn v.links w.links
all_go g v w [] chain = still v w chain
all_go g v w (c ∷ cs) chain = both v.links chain.0.links w.links (step_goes g v chain.0 c chain.1) (all_go g chain.0 w cs chain.2)

pub have_histories : {R : Type 0} (g : Relays R) → HaveHistories g
have_histories g n H v leads = all_go g (new_endpoint n) v H leads
