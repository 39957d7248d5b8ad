-- Part: every call exactly; other calls; inner.
-- What a disposition means, asks and answers, and what this side settles by itself (AMQP 1.0 part 2, sections 2.6.12 and 2.7.6).
-- Delivery numbers are serial numbers (section 2.8.10).
use Rattle.std.specs.Prelude.{◌≡◌, ◌<◌, ◌≤◌, ◌+◌, ◌-◌, ◌*◌, ◌%◌, ◌^◌, ◌&&◌, ◌⊎◌, ◌↔◌, IsTrue, ℕ, Bool, true, false, not, if◌then◌else◌}
use Rattle.std.specs.Prelude.{nat_lt, nat_le, nat_eq, List, [], ◌∷◌, ◌++◌, length, map, Option, Some, None, IsSome, Result, Ok, Err, OnOk}
use Rattle.std.specs.Prelude.{unwrap_or, min}
use Rattle.std.specs.List.{filter, list_any}
use Rattle.amqp_memory.specs.Refusal.{SomeRefused}
use Rattle.amqp_values.specs.Outcome.{IsTerminal}
use Rattle.amqp_types.specs.Disposition.{DispositionModel}
use Rattle.amqp_types.specs.declared.definitions.Role.{Role}
use Rattle.amqp_types.specs.declared.definitions.Role.TheVariants.{Sender}
use Rattle.amqp_session.specs.declared.deliveries.Delivery.{Delivery}
use Rattle.amqp_session.specs.declared.deliveries.WalkCount.{WalkCount}
use Rattle.amqp_session.specs.Runs.{DeliveryRange}
use Rattle.amqp_session.specs.declared.frame.SessionFrame.{SessionFrame}
use Rattle.amqp_session.specs.declared.frame.SessionFrameBody.TheVariants as Body
use Rattle.amqp_session.specs.declared.session.receiving.Receiving.{Receiving}
use Rattle.amqp_session.specs.declared.error.SessionInnerError.{SessionInnerError}
use Rattle.amqp_session.specs.declared.error.SessionInnerError.TheVariants as Refused
use Rattle.amqp_session.specs.Deliveries.{nothing_read, of_role, with_role, peer_role}
use Rattle.amqp_session.specs.Links.{LinksView, attached_at, put_at}
use Rattle.amqp_session.specs.Relay.{DispositionGives, DispositionAsked, DispositionQuestion, Asks, goes_on, of_disposition}
use Rattle.amqp_session.specs.Session.{SessionView}

-- ---- the range

-- how far a number is after the first one, on the circle of 2^32 numbers
abbrev pub distance : ℕ → ℕ → ℕ
distance first n = (n + (2 ^ 32 - first)) % 2 ^ 32

-- how far the last number of a range is after its first: not at all, where no last is named
abbrev pub span : ℕ → Option ℕ → ℕ
span first last = distance first (unwrap_or last first)

-- A range goes forward over less than half of the circle; any other is backward.
abbrev pub is_forward : ℕ → Option ℕ → Bool
is_forward first last = nat_lt (span first last) (2 ^ 31)

-- A forward range means the numbers no farther than its last, and a backward one none.
abbrev pub is_meant : ℕ → Option ℕ → ℕ → Bool
is_meant first last n = is_forward first last && nat_le (distance first n) (span first last)

-- the messages that a disposition over the range settles
abbrev pub num_messages : ℕ → Option ℕ → ℕ
num_messages first last = if is_forward first last then span first last + 1 else 1

-- ---- the open deliveries that are meant

-- the records from a number on, and then those below it: by rising distance, where the numbers rise
abbrev pub in_order : ℕ → List Delivery → List Delivery
in_order first rows = filter (λ r. nat_le first r.number) rows ++ filter (λ r. nat_lt r.number first) rows

-- the records that a range means, and the others
abbrev pub in_range : ℕ → Option ℕ → List Delivery → List Delivery
in_range first last rows = filter (λ r. is_meant first last r.number) rows

abbrev pub out_of_range : ℕ → Option ℕ → List Delivery → List Delivery
out_of_range first last rows = filter (λ r. not (is_meant first last r.number)) rows

-- those that a disposition means, in order, and the others
abbrev pub meant : DispositionModel → List Delivery → List Delivery
meant d rows = in_range d.first d.last (in_order d.first rows)

abbrev pub not_meant : DispositionModel → List Delivery → List Delivery
not_meant d rows = out_of_range d.first d.last rows

-- ---- what is asked

abbrev pub question_of : DispositionModel → Delivery → DispositionAsked
question_of d r = record { role = d.role; settled = d.settled; state = d.state; delivery = r }

-- Of one record the relay attached under its input handle is asked; none, where none is attached.
abbrev pub AsksAt : {R : Type 0} → DispositionGives R → DispositionModel → Delivery → Option (DispositionQuestion R) → LinksView R →
    LinksView R → Type 0
AsksAt gives d r None l new = (attached_at r.input_handle.0 l ≡ None) × (new ≡ l)
AsksAt gives d r (Some q) l new =
    (q.asked ≡ question_of d r) × Asks (of_disposition gives) (attached_at r.input_handle.0 l) q
    × (new ≡ put_at r.input_handle.0 (goes_on q) l)

-- whether a relay was asked and answered true
abbrev pub has_agreed : {R : Type 0} → Option (DispositionQuestion R) → Bool
has_agreed None = false
has_agreed (Some q) = q.answer

-- the question and the others after it, where one was asked
abbrev pub prepended : {Q : Type 0} → Option Q → List Q → List Q
prepended None qs = qs
prepended (Some q) qs = q ∷ qs

-- the same of each record in turn
abbrev pub AsksEach : {R : Type 0} → DispositionGives R → DispositionModel → List Delivery → List (DispositionQuestion R) →
    LinksView R → LinksView R → Type 0
AsksEach gives d [] asked l new = (asked ≡ []) × (new ≡ l)
AsksEach {R} gives d (r ∷ rs) asked l new =
    (one : Option (DispositionQuestion R)) × (others : List (DispositionQuestion R)) × (m : LinksView R)
    × AsksAt gives d r one l m × AsksEach gives d rs others m new × (asked ≡ prepended one others)

-- the numbers of which a relay answered true
abbrev pub agreed : {R : Type 0} → List (DispositionQuestion R) → List ℕ
agreed asked = map (λ q. q.asked.delivery.number) (filter (λ q. q.answer) asked)

-- ---- the echoes: maximal runs without gaps

-- whether a number is in a run, by distances from the first number of the disposition
abbrev pub is_in : ℕ → ℕ → DeliveryRange → Bool
is_in first n r = nat_le (distance first r.first) (distance first n) && nat_le (distance first n) (distance first r.last)

-- at least one number is missing between this one and the first of these runs
abbrev pub IsGapBefore : ℕ → ℕ → List DeliveryRange → Type 0
IsGapBefore first n [] = Unit {0}
IsGapBefore first n (r ∷ rs) = distance first n + 1 < distance first r.first

-- Each run goes from its first number forward to its last, the runs rise, and there is a gap between two neighbours.
abbrev pub AreApart : ℕ → List DeliveryRange → Type 0
AreApart first [] = Unit {0}
AreApart first (r ∷ rs) =
    (r.first < 2 ^ 32) × (r.last < 2 ^ 32) × (distance first r.first ≤ distance first r.last)
    × IsGapBefore first r.last rs × AreApart first rs

-- These are the runs of the numbers: together they hold exactly them.
pub record AreRuns (first : ℕ) (numbers : List ℕ) (runs : List DeliveryRange) : Type 0 where
  pub apart : AreApart first runs
  pub hold : (n : ℕ) → n < 2 ^ 32 → list_any (is_in first n) runs ≡ list_any (nat_eq n) numbers

-- the disposition that is sent back for a run
abbrev pub echo_of : Option (List ℕ) → DeliveryRange → DispositionModel
echo_of state r = record { role = Sender; first = r.first; last = Some r.last; settled = true; state = state; batchable = false }

pub record Echoes (d : DispositionModel) (numbers : List ℕ) (echoes : List DispositionModel) : Type 0 where
  pub runs : List DeliveryRange
  pub are_runs : AreRuns d.first numbers runs
  pub are_said : echoes ≡ map (echo_of d.state) runs

-- ---- a disposition comes

abbrev pub rows_of : {R : Type 0} → DispositionModel → SessionView R → List Delivery
rows_of d v = of_role d.role v.deliveries

-- the relays were asked, and nothing else has moved
abbrev pub HasAsked : {R : Type 0} → DispositionGives R → SessionView R → DispositionModel → List (DispositionQuestion R) →
    SessionView R → Type 0
HasAsked gives v d asked w = AsksEach gives d (meant d (rows_of d v)) asked v.links w.links × (w ≡ record v { links = w.links })

-- each echo says the state again: there is a state, and a relay asked for an echo
abbrev pub SaysStateAgain : {R : Type 0} → DispositionModel → List (DispositionQuestion R) → Type 0
SaysStateAgain d asked = IsSome d.state × (0 < length (agreed asked))

-- A settled one takes the records that it means away, and never fails. An unsettled one leaves them open and is answered by the
-- echoes; memory may be refused for a forward one where a delivery of its role is open: before any relay is asked, or after all were, for
-- the state of an echo alone.
abbrev pub TakeDispositionStep : {R : Type 0} → DispositionGives R → SessionView R → DispositionModel → List (DispositionQuestion R) →
    Result (Option (List DispositionModel)) SessionInnerError → SessionView R → Type 0
TakeDispositionStep gives v d asked (Ok None) w =
    (d.settled ≡ true) × AsksEach gives d (meant d (rows_of d v)) asked v.links w.links
    × (w ≡ record v { links = w.links; deliveries = with_role d.role (not_meant d (rows_of d v)) v.deliveries })
TakeDispositionStep gives v d asked (Ok (Some echoes)) w = (d.settled ≡ false) × HasAsked gives v d asked w × Echoes d (agreed asked) echoes
TakeDispositionStep gives v d asked (Err Refused.OutOfMemory) w =
    (d.settled ≡ false) × (is_forward d.first d.last ≡ true) × (((asked ≡ []) × (w ≡ v)) ⊎ (SaysStateAgain d asked × HasAsked gives v d asked w))
    × ¬ (rows_of d v ≡ []) × SomeRefused
TakeDispositionStep gives v d asked (Err e) w = ⊥

-- how much of a role's records the call may have read: a turn for each one meant and one more, and at most as many numbers as
-- the length of the table has binary digits; nothing for a backward range
pub record IsBounded {X : Type 0} (d : DispositionModel) (rows : List Delivery) (result : Result X SessionInnerError)
    (walk : WalkCount) : Type 0 where
  pub turns : walk.turns ≤ length (meant d rows) + 1
  pub each_read : OnOk result (length (meant d rows) ≤ walk.turns)
  pub comparisons : 2 ^ walk.comparisons ≤ 2 * length rows + 1
  pub backward : is_forward d.first d.last ≡ false → walk ≡ nothing_read

-- ---- a disposition goes out

abbrev pub disposition_frame : {R : Type 0} → SessionView R → DispositionModel → SessionFrame
disposition_frame v d = record { channel = v.outgoing_channel; body = Body.Disposition d }

-- its state is terminal (part 3, section 3.4)
abbrev pub HasTerminal : Option (List ℕ) → Type 0
HasTerminal None = ⊥
HasTerminal (Some state) = IsTerminal state

-- the peer's numbers with more messages in its outgoing window, as far as four bytes can say
abbrev pub widened : ℕ → Receiving → Receiving
widened n r = record r { remote_outgoing_window = min (r.remote_outgoing_window + n) 4294967295 }

-- A terminal state opens the remote outgoing window again, by the messages that the disposition settles.
abbrev pub SendDispositionStep : {R : Type 0} → SessionView R → DispositionModel → Bool → SessionFrame → SessionView R → Type 0
SendDispositionStep v d terminal frame w =
    (IsTrue terminal ↔ HasTerminal d.state) × (frame ≡ disposition_frame v d)
    × (w ≡ record v { receiving = if terminal then widened (num_messages d.first d.last) v.receiving else v.receiving })

-- ---- this side settles by itself

-- the open deliveries in which this side has a role: those that it received, as receiver, or those that it sent, as sender
abbrev pub own_rows : {R : Type 0} → Role → SessionView R → List Delivery
own_rows role v = of_role (peer_role role) v.deliveries

-- Those of a range are let go, and counted. No relay is asked and no frame goes out.
abbrev pub SettleStep : {R : Type 0} → SessionView R → Role → ℕ → Option ℕ → ℕ → SessionView R → Type 0
SettleStep v role first last count w =
    (count ≡ length (in_range first last (own_rows role v)))
    × (w ≡ record v { deliveries = with_role (peer_role role) (out_of_range first last (own_rows role v)) v.deliveries })
