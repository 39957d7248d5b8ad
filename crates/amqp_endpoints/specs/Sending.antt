-- Part: other calls; inner.
-- A transfer that is sent on a link of a session: the link allows it, and the stream takes it (AMQP 1.0 part 2, sections 2.6.7 and 2.6.12 to 2.6.14).
use Rattle.std.specs.Prelude.{ℕ, ◌≡◌, ◌≢◌, ◌+◌, ◌-◌, ◌*◌, ◌/◌, ◌^◌, ◌&&◌, not, min, Bool, true, false, List, [], ◌∷◌, Option, Some, None, Result, Ok, Err}
use Rattle.std.specs.Prelude.{if◌then◌else◌, is_some, slice_index_or}
use Rattle.std.specs.List.{find}
use Rattle.amqp_credit.specs.declared.part.PartEnd.{PartEnd}
use Rattle.amqp_credit.specs.declared.part.PartEnd.TheVariants.{More, Last, Aborted}
use Rattle.amqp_types.specs.declared.definitions.Role.TheVariants.{Sender}
use Rattle.amqp_session.specs.Relay.{Relays}
use Rattle.amqp_driver.specs.declared.head.Sent.{Sent}
use Rattle.amqp_driver.specs.declared.head.TransferHead.{TransferHead}
use Rattle.amqp_driver.specs.declared.status.Status.{Status}
use Rattle.amqp_driver.specs.declared.status.Status.TheVariants as status
use Rattle.amqp_driver.specs.Heads.{has, number_in}
use Rattle.amqp_driver.specs.Record.{bit}
use Rattle.amqp_driver.specs.Stream.{StreamView}
use Rattle.amqp_driver.specs.StreamTicking.{PostsStream}
use Rattle.amqp_driver.specs.Told.{session_at}
use Rattle.amqp_unsettled.specs.Table.{has_number}
use Rattle.amqp_links.specs.declared.end.End.{End}
use Rattle.amqp_links.specs.declared.end.End.TheVariants.{Sending, Receiving}
use Rattle.amqp_links.specs.declared.session.sending.PreparedPart.{PreparedPart}
use Rattle.amqp_links.specs.declared.session.sending.SentPart.{SentPart}
use Rattle.amqp_links.specs.Ends.{end_at}
use Rattle.amqp_links.specs.Preparing.{FinishesAt, CancelsSend}
use Rattle.amqp_links.specs.Sending.{is_none}
use Rattle.amqp_links.specs.SendingParts.{SendsAt, settles}
use Rattle.amqp_links.specs.Session.{LinksView}
use Rattle.amqp_endpoints.specs.declared.endpoint.sending.SendFailure.{SendFailure}
use Rattle.amqp_endpoints.specs.declared.endpoint.sending.SendFailure.TheVariants.{Link, Refused, Stopped}
use Rattle.amqp_endpoints.specs.declared.endpoint.sending.SentDelivery.{SentDelivery}
use Rattle.amqp_endpoints.specs.Endpoint.{EndpointView, OnLinks}
use Rattle.amqp_endpoints.specs.declared.place.LinkPlace.{LinkPlace}
use Rattle.amqp_endpoints.specs.Places.{PutsPlace, having_sent, place_at}
use Rattle.amqp_endpoints.specs.Settling.{LetsOneGo}

-- ---- which part it is

abbrev pub end_of : ℕ → PartEnd
end_of flags = if has flags 8 then Aborted else if has flags 4 then More else Last

-- it begins a delivery where none is under way
abbrev pub is_first_of : Option End → Bool
is_first_of None = false
is_first_of (Some (Sending s)) = is_none s.under_way
is_first_of (Some (Receiving s)) = false

-- the number that the session gives to the next delivery; or that of the delivery that was begun last
abbrev pub number_of : {R : Type 0} → EndpointView → StreamView R → ℕ → Bool → ℕ
number_of v s h is_first =
    if is_first then number_in (session_at s.driver.engine (Some v.session.0)) true else (place_at v.places h).begun

abbrev pub part_of : {R : Type 0} → EndpointView → StreamView R → TransferHead → ℕ → Bool → SentPart
part_of v s head given is_first = record {
  number = number_of v s head.link is_first;
  size = head.payload;
  end = end_of head.flags;
  settled = has head.flags 2;
  given = given;
}

-- with the flag of the first transfer of a delivery, or without it
abbrev pub numbered : ℕ → Bool → ℕ
numbered flags is_first = flags / 2 * 2 + bit is_first 1

-- the head that the stream is handed: of this session, and the first transfer of its delivery, or not
abbrev pub whole_head : EndpointView → TransferHead → Bool → TransferHead
whole_head v head is_first = record head { session = v.session.0; flags = numbered head.flags is_first }

-- a transfer settles a delivery that an earlier one began
abbrev pub settles_own : SentPart → Bool → Bool
settles_own p is_first = not is_first && settles p

-- and it is unsettled
abbrev pub lets_go : EndpointView → SentPart → Bool → Bool
lets_go v p is_first = settles_own p is_first && is_some (find (has_number p.number) v.links.sent)

-- ---- the stream

abbrev pub no_sent : Sent
no_sent = record { number = 0; refusal = 0 }

-- it is handed this head alone, and tells this of it, for this reason
abbrev pub Posts : {R : Type 0} → Relays R → EndpointView → StreamView R → TransferHead → List ℕ → Bool → Status → Sent → StreamView R → Type 0
Posts g v s head bytes is_first why told s' = (taken : ℕ) × (used : ℕ) × (news : List Sent)
    × PostsStream g s (whole_head v head is_first ∷ []) bytes (no_sent ∷ []) why taken used s' news × (told ≡ slice_index_or news 0 no_sent)

-- it takes it, and accepts it
abbrev pub Accepts : {R : Type 0} → Relays R → EndpointView → StreamView R → TransferHead → List ℕ → Bool → StreamView R → Type 0
Accepts g v s head bytes is_first s' = (told : Sent) × (told.refusal ≡ 0) × Posts g v s head bytes is_first status.Done told s'

-- it takes it, and refuses it
abbrev pub Refuses : {R : Type 0} → Relays R → EndpointView → StreamView R → TransferHead → List ℕ → Bool → ℕ → StreamView R → Type 0
Refuses g v s head bytes is_first why s' =
    (told : Sent) × (why ≢ 0) × (told.refusal ≡ why) × Posts g v s head bytes is_first status.Done told s'

-- it does not take it
abbrev pub Stops : {R : Type 0} → Relays R → EndpointView → StreamView R → TransferHead → List ℕ → Bool → Status → StreamView R → Type 0
Stops g v s head bytes is_first why s' = (told : Sent) × (why ≢ status.Done) × Posts g v s head bytes is_first why told s'

-- one of these
abbrev pub PostsHead : {R : Type 0} → Relays R → EndpointView → StreamView R → TransferHead → List ℕ → Bool → Result (Unit {0}) SendFailure → StreamView R → Type 0
PostsHead g v s head bytes is_first (Ok done) s' = Accepts g v s head bytes is_first s'
PostsHead g v s head bytes is_first (Err (Refused why)) s' = Refuses g v s head bytes is_first why s'
PostsHead g v s head bytes is_first (Err (Stopped why)) s' = Stops g v s head bytes is_first why s'
PostsHead g v s head bytes is_first (Err (Link e)) s' = ⊥

-- the head that settles a delivery is handed to it, where memory was there to let that go
abbrev pub PostsIf : {R : Type 0} → Bool → Relays R → EndpointView → StreamView R → TransferHead → List ℕ → Result (Unit {0}) SendFailure → StreamView R → Type 0
PostsIf true g v m head bytes result s' = PostsHead g v m head bytes false result s'
PostsIf false g v m head bytes result s' = (result ≡ Err (Stopped status.NoMemory)) × (s' ≡ m)

-- the session lets the delivery go first
abbrev pub PostsLast : {R : Type 0} → Relays R → EndpointView → StreamView R → TransferHead → List ℕ → ℕ → Result (Unit {0}) SendFailure → StreamView R → Type 0
PostsLast g v s head bytes n result s' =
    (done : Bool) × (m : StreamView _) × LetsOneGo g v s Sender n done m × PostsIf done g v m head bytes result s'

-- a transfer that settles a delivery, or any other one
abbrev pub PostsPart : {R : Type 0} → Bool → Relays R → EndpointView → StreamView R → TransferHead → List ℕ → Bool → ℕ → Result (Unit {0}) SendFailure
    → StreamView R → Type 0
PostsPart true g v s head bytes is_first n result s' = PostsLast g v s head bytes n result s'
PostsPart false g v s head bytes is_first n result s' = PostsHead g v s head bytes is_first result s'

-- ---- the whole

-- transfers of the session are counted
abbrev pub one_more : ℕ → ℕ
one_more n = min (n + 1) (2 ^ 64 - 1)

-- the number of a delivery that begins is kept, and that this is the last transfer of the link
abbrev pub sent_place : EndpointView → ℕ → ℕ → Bool → LinkPlace
sent_place v h n is_first = having_sent (place_at v.places h) n is_first (one_more v.sent)

abbrev pub NotesSent : Bool → EndpointView → ℕ → ℕ → (LinksView → LinksView → Type 0) → EndpointView → Type 0
NotesSent is_first v h n Step w = Step v.links w.links × PutsPlace v.places h (sent_place v h n is_first) w.places
    × (w ≡ record v { links = w.links; places = w.places; sent = one_more v.sent })

-- The link sends the part, and the stream accepts it; or one of them does not, and the link stands as before. A delivery that it settles is let go first.
abbrev pub SendsPart : {R : Type 0} → Bool → Relays R → EndpointView → StreamView R → TransferHead → List ℕ → SentPart → Bool → Result SentDelivery SendFailure
    → StreamView R → EndpointView → Type 0
SendsPart lets g v s head bytes p is_first (Ok told) s' w = PostsPart lets g v s head bytes is_first p.number (Ok tt) s' × (told.number ≡ p.number)
    × NotesSent is_first v head.link p.number (λ l m. SendsAt (end_at l.ends head.link) l head.link p (Ok told.settled) m) w
SendsPart lets g v s head bytes p is_first (Err (Link e)) s' w =
    SendsAt (end_at v.links.ends head.link) v.links head.link p (Err e) v.links × (s' ≡ s) × (w ≡ v)
SendsPart lets g v s head bytes p is_first (Err failure) s' w = PostsPart lets g v s head bytes is_first p.number (Err failure) s' × (w ≡ v)

-- the same of the part that the head means, on the link
abbrev pub SendsAs : {R : Type 0} → Relays R → EndpointView → StreamView R → TransferHead → List ℕ → SentPart → Bool → Result SentDelivery SendFailure → StreamView R
    → EndpointView → Type 0
SendsAs g v s head bytes p is_first result s' w = SendsPart (lets_go v p is_first) g v s head bytes p is_first result s' w

abbrev pub SendsDelivery : {R : Type 0} → Relays R → EndpointView → StreamView R → TransferHead → List ℕ → ℕ → Result SentDelivery SendFailure → StreamView R
    → EndpointView → Type 0
SendsDelivery g v s head bytes given result s' w =
    SendsAs g v s head bytes (part_of v s head given (is_first_of (end_at v.links.ends head.link))) (is_first_of (end_at v.links.ends head.link)) result s' w

-- ---- parts

-- a part that was prepared is finished
abbrev pub Finishes : EndpointView → ℕ → PreparedPart → SentDelivery → EndpointView → Type 0
Finishes v h q told w = (told.number ≡ q.part.number)
    × NotesSent q.sendable.is_first v h q.part.number (λ l m. FinishesAt (end_at l.ends q.handle) q l told.settled m) w

-- the stream takes a part that was prepared, and it is finished; or it does not, and it is cancelled
abbrev pub AsksPart : {R : Type 0} → Bool → Relays R → EndpointView → StreamView R → TransferHead → List ℕ → Bool → PreparedPart → Result SentDelivery SendFailure
    → StreamView R → EndpointView → Type 0
AsksPart lets g v s head bytes is_first q (Ok told) s' w =
    PostsPart lets g v s head bytes is_first q.part.number (Ok tt) s' × Finishes v head.link q told w
AsksPart lets g v s head bytes is_first q (Err (Link e)) s' w = ⊥
AsksPart lets g v s head bytes is_first q (Err failure) s' w =
    PostsPart lets g v s head bytes is_first q.part.number (Err failure) s' × OnLinks (λ l m. CancelsSend q l m) v w
