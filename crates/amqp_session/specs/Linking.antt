-- Part: every call exactly; other calls; inner.
-- What each call of a session for its links does: output handles are allotted and released, and links are attached and detached
-- (AMQP 1.0 part 2, sections 2.6.2 to 2.6.6).
use Rattle.std.specs.Prelude.{◌≡◌, ◌<◌, ◌≤◌, ◌^◌, ℕ, Bool, true, false, not, if◌then◌else◌, List, Option, Some, None, is_some, nat_eq, Result, Ok, Err, IsSome}
use Rattle.std.specs.FinMap as map
use Rattle.amqp_memory.specs.Refusal.{SomeRefused}
use Rattle.amqp_types.specs.Attach.{AttachModel}
use Rattle.amqp_types.specs.Detach.{DetachModel}
use Rattle.amqp_types.specs.declared.states.SessionState.{SessionState}
use Rattle.amqp_types.specs.declared.states.SessionState.TheVariants.{EndSent, EndReceived}
use Rattle.amqp_types.specs.declared.states.SessionState.TheVariants.{Discarding}
use Rattle.amqp_session.specs.declared.frame.SessionFrame.{SessionFrame}
use Rattle.amqp_session.specs.declared.frame.SessionFrameBody.TheVariants as Body
use Rattle.amqp_session.specs.declared.link.LiveLink.{LiveLink}
use Rattle.amqp_session.specs.declared.numbers.OutputHandle.{OutputHandle}
use Rattle.amqp_session.specs.declared.numbers.InputHandle.{InputHandle}
use Rattle.amqp_session.specs.declared.stop.SessionStopReason.{SessionStopReason}
use Rattle.amqp_session.specs.declared.stop.SessionStopReason.TheVariants as Stopped
use Rattle.amqp_session.specs.declared.error.AllocLinkError.{AllocLinkError}
use Rattle.amqp_session.specs.declared.error.AllocLinkError.TheVariants as Unallotted
use Rattle.amqp_session.specs.declared.error.LinkRelayError.{LinkRelayError}
use Rattle.amqp_session.specs.declared.error.SessionInnerError.{SessionInnerError}
use Rattle.amqp_session.specs.declared.error.SessionInnerError.TheVariants as Refused
use Rattle.amqp_session.specs.Errors.{inner_of_relay}
use Rattle.amqp_session.specs.Links.{LinksView, Names, attached_at, put_at}
use Rattle.amqp_session.specs.declared.link.AttachedLink.{AttachedLink}
use Rattle.amqp_session.specs.Relay.{AttachGives, DetachGives, AttachQuestion, DetachQuestion, Asks, goes_on, of_detach}
use Rattle.amqp_session.specs.States.{is_mapped}
use Rattle.amqp_session.specs.Session.{SessionView}

-- ---- the links that are live

-- the link that is live by this name
abbrev pub named_at : {R : Type 0} → List ℕ → LinksView R → Option (LiveLink R)
named_at name l = map.get l.names name

-- the name of a handle's live link, where the handle is taken so
abbrev pub live_name : Option (Option (List ℕ)) → Option (List ℕ)
live_name None = None
live_name (Some place) = place

abbrev pub name_at : {R : Type 0} → ℕ → LinksView R → Option (List ℕ)
name_at h l = live_name (map.get l.handles h)

-- the live link of this name, if one is given
abbrev pub named_so : {R : Type 0} → Option (List ℕ) → LinksView R → Option (LiveLink R)
named_so None l = None
named_so (Some name) l = named_at name l

-- the live link of a handle, with the relay that waits, if any
abbrev pub link_at : {R : Type 0} → ℕ → LinksView R → Option (LiveLink R)
link_at h l = named_so (name_at h l) l

-- the output handle of an attached link, while a live link has it: none once this side detached the link
abbrev pub live_output : {R : Type 0} → Option (AttachedLink R) → LinksView R → Option OutputHandle
live_output None l = None
live_output (Some a) l = if is_some (name_at a.handle.0 l) then Some a.handle else None

-- the same of the link that is attached under an input handle
abbrev pub output_at : {R : Type 0} → ℕ → LinksView R → Option OutputHandle
output_at h l = live_output (attached_at h l) l

-- whether the link of this output handle is the attached one
abbrev pub is_link : {R : Type 0} → OutputHandle → Option (AttachedLink R) → Bool
is_link h None = false
is_link h (Some a) = nat_eq a.handle.0 h.0

-- this input handle, if one is given, where the link of the output handle is attached under it
abbrev pub while_under : {R : Type 0} → OutputHandle → Option InputHandle → LinksView R → Option InputHandle
while_under h None l = None
while_under h (Some i) l = if is_link h (attached_at i.0 l) then Some i else None

-- the input handle that the peer's last attach gave a live link, if one is given, while the link is attached under it
abbrev pub live_input : {R : Type 0} → Option (LiveLink R) → LinksView R → Option InputHandle
live_input None l = None
live_input (Some n) l = while_under n.handle n.input l

-- the same of the live link of an output handle
abbrev pub input_handle_at : {R : Type 0} → ℕ → LinksView R → Option InputHandle
input_handle_at h l = live_input (link_at h l) l

-- whether the peer's answer to the detach of a handle's last link is awaited
abbrev pub is_awaited : Option (Option (List ℕ)) → Bool
is_awaited None = false
is_awaited (Some None) = true
is_awaited (Some (Some name)) = false

abbrev pub awaits : {R : Type 0} → ℕ → LinksView R → Bool
awaits h l = is_awaited (map.get l.handles h)

-- A link becomes live by a name and an output handle: its relay, if any, waits for the peer's attach, or the input handle is known. Which
-- handle comes after it, each call says by itself, here and where a handle stays awaited: the crate slab, which keeps the handles, leaves
-- that open.
abbrev pub linked : {R : Type 0} → List ℕ → OutputHandle → Option R → Option InputHandle → LinksView R → LinksView R
linked name h waiting input l = record l {
  names = map.insert l.names name (record { handle = h; waiting = waiting; input = input });
  handles = map.insert l.handles h.0 (Some name);
}

-- the live link of this name is gone, and its output handle is free, and given out next
abbrev pub released : {R : Type 0} → List ℕ → ℕ → LinksView R → LinksView R
released name h l = record l { names = map.remove l.names name; handles = map.remove l.handles h; next = h }

-- the live link of this name is gone, and its output handle waits for the peer's answer
abbrev pub left_awaited : {R : Type 0} → List ℕ → ℕ → LinksView R → LinksView R
left_awaited name h l = record l { names = map.remove l.names name; handles = map.insert l.handles h None }

-- ---- allotment

abbrev pub has_ended : SessionState → Bool
has_ended EndSent = true
has_ended EndReceived = true
has_ended Discarding = true
has_ended s = false

-- Why no link is allotted outside Mapped: the reason why the session stopped, if it is recorded; else that it ended, or that it did
-- not begin on both sides.
abbrev pub why_unallotted : SessionState → Option SessionStopReason → AllocLinkError
why_unallotted s (Some reason) = Unallotted.SessionStopped reason
why_unallotted s None = if has_ended s then Unallotted.SessionStopped Stopped.Ended else Unallotted.SessionNotMapped

-- links may be allotted, and no live one has the name
abbrev pub MayAllot : {R : Type 0} → SessionView R → List ℕ → Type 0
MayAllot v name = (is_mapped v.state ≡ true) × (named_at name v.links ≡ None)

-- no handle of four bytes is left: the next one is past them
abbrev pub IsExhausted : {R : Type 0} → LinksView R → Type 0
IsExhausted l = 2 ^ 32 ≤ l.next

-- The allotment is refused so. Where nothing else refuses it, no handle is left; and where one is, memory was refused.
abbrev pub AllotRefused : {R : Type 0} → SessionView R → List ℕ → AllocLinkError → Type 0
AllotRefused v name Unallotted.SessionNotMapped =
    (is_mapped v.state ≡ false) × (why_unallotted v.state v.session_stop ≡ Unallotted.SessionNotMapped)
AllotRefused v name (Unallotted.SessionStopped reason) =
    (is_mapped v.state ≡ false) × (why_unallotted v.state v.session_stop ≡ Unallotted.SessionStopped reason)
AllotRefused v name Unallotted.DuplicatedLinkName = (is_mapped v.state ≡ true) × IsSome (named_at name v.links)
AllotRefused v name Unallotted.HandlesExhausted = MayAllot v name × IsExhausted v.links
AllotRefused v name Unallotted.OutOfMemory = MayAllot v name × (v.links.next < 2 ^ 32) × SomeRefused

-- no handle of four bytes is left; or one is, and memory was refused
abbrev pub IsFull : {R : Type 0} → LinksView R → AllocLinkError → Type 0
IsFull l Unallotted.SessionNotMapped = ⊥
IsFull l (Unallotted.SessionStopped reason) = ⊥
IsFull l Unallotted.DuplicatedLinkName = ⊥
IsFull l Unallotted.HandlesExhausted = IsExhausted l
IsFull l Unallotted.OutOfMemory = (l.next < 2 ^ 32) × SomeRefused

-- The output handle is the next one, which is not taken. The links are then as the call says, and another handle is the next one.
abbrev pub AllotStep : {R : Type 0} → SessionView R → List ℕ → (OutputHandle → LinksView R) → Result OutputHandle AllocLinkError →
    SessionView R → Type 0
AllotStep v name gives (Ok h) w =
    MayAllot v name × (map.get v.links.handles h.0 ≡ None) × (h.0 < 2 ^ 32)
    × (w ≡ record v { links = record (gives h) { next = w.links.next } }) × (h.0 ≡ v.links.next)
AllotStep v name gives (Err e) w = AllotRefused v name e × (w ≡ v)

-- the relay, if any, waits under the name
abbrev pub AllocateLinkStep : {R : Type 0} → SessionView R → List ℕ → Option R → Result OutputHandle AllocLinkError → SessionView R → Type 0
AllocateLinkStep v name relay result w = AllotStep v name (λ h. linked name h relay None v.links) result w

-- the relay is put under the input handle at once, and none waits under the name
abbrev pub AllocateIncomingStep : {R : Type 0} → SessionView R → List ℕ → R → InputHandle → Result OutputHandle AllocLinkError →
    SessionView R → Type 0
AllocateIncomingStep v name relay input result w =
    AllotStep v name (λ h. put_at input.0 (record { handle = h; relay = relay }) (linked name h None (Some input) v.links)) result w

-- a live link is released, and it is said whether there was one
abbrev pub Releases : {R : Type 0} → LinksView R → ℕ → Bool → LinksView R → Type 0
Releases l h true new = (name : List ℕ) × (name_at h l ≡ Some name) × (new ≡ released name h l)
Releases l h false new = (name_at h l ≡ None) × (new ≡ l)

abbrev pub DeallocateStep : {R : Type 0} → SessionView R → OutputHandle → Bool → SessionView R → Type 0
DeallocateStep v h was w = Releases v.links h.0 was w.links × (w ≡ record v { links = w.links })

-- ---- attach

abbrev pub attach_frame : {R : Type 0} → SessionView R → AttachModel → SessionFrame
attach_frame v a = record { channel = v.outgoing_channel; body = Body.Attach a }

abbrev pub SendAttachStep : {R : Type 0} → SessionView R → AttachModel → SessionFrame → SessionView R → Type 0
SendAttachStep v a frame w = (frame ≡ attach_frame v a) × (w ≡ v)

-- a relay waits for the link
abbrev pub IsWaited : {R : Type 0} → Option (LiveLink R) → Type 0
IsWaited None = ⊥
IsWaited (Some n) = IsSome n.waiting

-- the link is attached under this input handle, and no relay waits for it
abbrev pub attached_under : {R : Type 0} → InputHandle → LiveLink R → LiveLink R
attached_under input n = record n { waiting = None; input = Some input }

-- The link's relay answered so: it is attached and waits no longer, or it goes on to wait.
abbrev pub AttachLeaves : {R : Type 0} → LiveLink R → InputHandle → R → Result (Unit {0}) LinkRelayError →
    Result (AttachedLink R) LinkRelayError → LiveLink R → Type 0
AttachLeaves old input after (Ok u) (Ok link) new =
    (link ≡ record { handle = old.handle; relay = after }) × (new ≡ attached_under input old)
AttachLeaves old input after (Err e) (Err x) new = (x ≡ e) × (new ≡ record old { waiting = Some after })
AttachLeaves old input after answer result new = ⊥

pub record WaitAsked {R : Type 0} (gives : AttachGives R) (old : LiveLink R) (a : AttachModel) (input : InputHandle)
    (result : Result (AttachedLink R) LinkRelayError) (new : LiveLink R) : Type 0 where
  pub before : R
  pub after : R
  pub answer : Result (Unit {0}) LinkRelayError
  pub waits : old.waiting ≡ Some before
  pub stands : gives before a answer after
  pub leaves : AttachLeaves old input after answer result new

-- the same, of the link of the attach's name
pub record AttachAsked {R : Type 0} (gives : AttachGives R) (names : Names R) (a : AttachModel) (input : InputHandle)
    (result : Result (AttachedLink R) LinkRelayError) (new : Names R) : Type 0 where
  pub old : LiveLink R
  pub left : LiveLink R
  pub live : map.get names a.name ≡ Some old
  pub asked : WaitAsked gives old a input result left
  pub put : new ≡ map.insert names a.name left

-- What follows where no relay is asked, for the live link of the name, if any, and what stands under the input handle, if anything: memory is
-- asked for a handle alone under which nothing stands.
abbrev pub AttachRefused : {R : Type 0} → Option (AttachedLink R) → Option (LiveLink R) → SessionInnerError → Type 0
AttachRefused old None Refused.RemoteAttachingLinkNameNotFound = Unit {0}
AttachRefused old (Some n) Refused.HandleInUse = n.waiting ≡ None
AttachRefused old (Some n) Refused.OutOfMemory = IsSome n.waiting × (old ≡ None) × SomeRefused
AttachRefused old n e = ⊥

-- What follows for a live link from its relay's answer: the relay is put under the input handle, or goes on to wait. Where the relay says that
-- it lacks memory, its own relation says why.
abbrev pub AttachAnswered : {R : Type 0} → LinksView R → AttachModel → LiveLink R → AttachQuestion R → Result (Unit {0}) LinkRelayError →
    Result (Unit {0}) SessionInnerError → LinksView R → Type 0
AttachAnswered l a n q (Ok u) (Ok r) new =
    new ≡ put_at a.handle (goes_on q) (record l { names = map.insert l.names a.name (attached_under (record { 0 = a.handle }) n) })
AttachAnswered l a n q (Err e) (Err x) new =
    (x ≡ inner_of_relay e) × (new ≡ record l { names = map.insert l.names a.name (record n { waiting = Some q.after }) })
AttachAnswered l a n q answer result new = ⊥

-- the live link of this output handle, for which this relay waits
pub record WaitsFor {R : Type 0} (found : Option (LiveLink R)) (handle : OutputHandle) (relay : R) : Type 0 where
  pub link : LiveLink R
  pub is : found ≡ Some link
  pub on : link.handle ≡ handle
  pub waits : link.waiting ≡ Some relay

abbrev pub Attaches : {R : Type 0} → AttachGives R → LinksView R → AttachModel → Option (AttachQuestion R) →
    Result (Unit {0}) SessionInnerError → LinksView R → Type 0
Attaches gives l a None (Ok u) new = ⊥
Attaches gives l a None (Err e) new = AttachRefused (attached_at a.handle l) (named_at a.name l) e × (new ≡ l)
Attaches gives l a (Some q) result new =
    (q.asked ≡ a) × (waits : WaitsFor (named_at a.name l) q.handle q.before) × gives q.before a q.answer q.after
    × AttachAnswered l a waits.link q q.answer result new

abbrev pub TakeAttachStep : {R : Type 0} → AttachGives R → SessionView R → AttachModel → Option (AttachQuestion R) →
    Result (Unit {0}) SessionInnerError → SessionView R → Type 0
TakeAttachStep gives v a asked result w = Attaches gives v.links a asked result w.links × (w ≡ record v { links = w.links })

-- ---- detach

abbrev pub detach_frame : {R : Type 0} → SessionView R → DetachModel → SessionFrame
detach_frame v d = record { channel = v.outgoing_channel; body = Body.Detach d }

-- A detach of this side that the peer is to answer leaves the handle of its live link awaited, and goes out for a live link alone.
-- Any other releases the live link, if there is one, and goes out in every case.
abbrev pub Leaves : {R : Type 0} → LinksView R → ℕ → Bool → Bool → LinksView R → Type 0
Leaves l h true true new = (name : List ℕ) × (name_at h l ≡ Some name) × (new ≡ record (left_awaited name h l) { next = new.next })
Leaves l h true false new = (name_at h l ≡ None) × (new ≡ l)
Leaves l h false true new = (was : Bool) × Releases l h was new
Leaves l h false false new = ⊥

abbrev pub SendDetachStep : {R : Type 0} → SessionView R → DetachModel → Bool → Result (Option SessionFrame) SessionInnerError →
    SessionView R → Type 0
SendDetachStep v d expects_echo (Ok (Some frame)) w =
    (frame ≡ detach_frame v d) × Leaves v.links d.handle expects_echo true w.links × (w ≡ record v { links = w.links })
SendDetachStep v d expects_echo (Ok None) w = Leaves v.links d.handle expects_echo false w.links × (w ≡ record v { links = w.links })
SendDetachStep v d expects_echo (Err e) w = ⊥

-- the links after a detach of the peer: the relay is gone, and an output handle whose answer was awaited is free, and given out next
abbrev pub dropped : {R : Type 0} → ℕ → ℕ → LinksView R → LinksView R
dropped input h l = record l {
  handles = if awaits h l then map.remove l.handles h else l.handles;
  inputs = map.remove l.inputs input;
  next = if awaits h l then h else l.next;
}

-- An input handle that is not attached is passed over. Else the relay is told whether the peer began the detach: it did where no
-- own detach is awaited. The relay's answer is handed back.
abbrev pub Detaches : {R : Type 0} → DetachGives R → LinksView R → DetachModel → Option (DetachQuestion R) → Option DetachModel →
    LinksView R → Type 0
Detaches gives l d None answer new = (attached_at d.handle l ≡ None) × (answer ≡ None) × (new ≡ l)
Detaches gives l d (Some q) answer new =
    (q.asked ≡ (d, not (awaits q.handle.0 l))) × Asks (of_detach gives) (attached_at d.handle l) q × (answer ≡ q.answer)
    × (new ≡ dropped d.handle q.handle.0 l)

abbrev pub TakeDetachStep : {R : Type 0} → DetachGives R → SessionView R → DetachModel → Option (DetachQuestion R) →
    Result (Option DetachModel) SessionInnerError → SessionView R → Type 0
TakeDetachStep gives v d asked (Ok answer) w = Detaches gives v.links d asked answer w.links × (w ≡ record v { links = w.links })
TakeDetachStep gives v d asked (Err e) w = ⊥
