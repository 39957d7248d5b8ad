-- Part: every call exactly; other calls.
-- What a history says of links: how each output handle is taken, which link is live by each name, and which relay stands under
-- each input handle (AMQP 1.0 part 2, sections 2.6.1 to 2.6.6).
use Rattle.std.specs.Prelude.{◌≡◌, ◌↔◌, ℕ, Bool, if◌then◌else◌, nat_eq, bytes_eq, List, [], ◌∷◌, ◌++◌, Option, Some, None, Ok, Err, true}
use Rattle.std.specs.Prelude.{false, fold}
use Rattle.amqp_types.specs.Detach.{DetachModel}
use Rattle.amqp_session.specs.declared.frame.SessionFrame.{SessionFrame}
use Rattle.amqp_session.specs.declared.link.LiveLink.{LiveLink}
use Rattle.amqp_session.specs.declared.link.AttachedLink.{AttachedLink}
use Rattle.amqp_session.specs.declared.numbers.InputHandle.{InputHandle}
use Rattle.std.specs.FinMap as map
use Rattle.amqp_session.specs.Links.{LinksView}
use Rattle.amqp_session.specs.Linking.{attached_under, input_handle_at, output_at}
use Rattle.amqp_session.specs.Relay.{DispositionQuestion, goes_on}
use Rattle.amqp_session.specs.Received.{has_kind}
use Rattle.amqp_session.specs.History.{SessionCall, AllocatesLink, AllocatesIncomingLink, DeallocatesLink, TakesAttach, TakesFlow, TakesTransfer}
use Rattle.amqp_session.specs.History.{TakesDisposition, TakesDetach, SendsDetach}

-- ---- output handles (section 2.6.2)

-- How a handle is taken: not at all; by the live link of a name; or by none, where the peer's answer to the detach of its last
-- link is awaited.
abbrev pub HandleUse : Type 0
HandleUse = Option (Option (List ℕ))

-- a live link is released
abbrev pub without_live : HandleUse → HandleUse
without_live (Some (Some name)) = None
without_live old = old

-- a live link is detached, and the peer is to answer or not
abbrev pub left_by_detach : Bool → HandleUse → HandleUse
left_by_detach expects_echo (Some (Some name)) = if expects_echo then Some None else None
left_by_detach expects_echo old = old

-- the peer answers
abbrev pub answered : HandleUse → HandleUse
answered (Some None) = None
answered old = old

-- how a handle is taken after a call
abbrev pub taken_by : {R : Type 0} → ℕ → HandleUse → SessionCall R → HandleUse
taken_by k old (AllocatesLink name relay (Ok h)) = if nat_eq k h.0 then Some (Some name) else old
taken_by k old (AllocatesIncomingLink name relay input (Ok h)) = if nat_eq k h.0 then Some (Some name) else old
taken_by k old (DeallocatesLink h was) = if nat_eq k h.0 then without_live old else old
taken_by k old (SendsDetach d expects_echo result) = if nat_eq k d.handle then left_by_detach expects_echo old else old
taken_by k old (TakesDetach d (Some q) result) = if nat_eq k q.handle.0 then answered old else old
taken_by k old e = old

-- after a history: none is taken at first
abbrev pub taken_at : {R : Type 0} → ℕ → List (SessionCall R) → HandleUse
taken_at k H = fold (taken_by k) None H

-- ---- names (sections 2.6.1 and 2.6.3)

-- the link that was live by a name, unless it was on this output handle
abbrev pub unless_on : {R : Type 0} → ℕ → Option (LiveLink R) → Option (LiveLink R)
unless_on h None = None
unless_on h (Some n) = if nat_eq n.handle.0 h then None else Some n

-- the same link, and this relay waits for the peer's attach
abbrev pub where_waits : {R : Type 0} → R → Option (LiveLink R) → Option (LiveLink R)
where_waits relay None = None
where_waits relay (Some n) = Some (record n { waiting = Some relay })

-- the same link, which the peer's attach put under this input handle
abbrev pub where_attached : {R : Type 0} → ℕ → Option (LiveLink R) → Option (LiveLink R)
where_attached input None = None
where_attached input (Some n) = Some (attached_under (record { 0 = input }) n)

-- The live link of a name after a call, with its output handle, the relay that waits for the peer's attach, if any, and the input handle
-- of the peer's last attach. An allotment makes it, and a release or a detach of this side on its handle ends it. The peer's attach under
-- the name leaves none waiting where it is accepted, and gives the input handle; else the relay that was asked goes on to wait.
abbrev pub live_by : {R : Type 0} → List ℕ → Option (LiveLink R) → SessionCall R → Option (LiveLink R)
live_by name old (AllocatesLink new relay (Ok h)) =
    if bytes_eq name new then Some (record { handle = h; waiting = relay; input = None }) else old
live_by name old (AllocatesIncomingLink new relay input (Ok h)) =
    if bytes_eq name new then Some (record { handle = h; waiting = None; input = Some input }) else old
live_by name old (DeallocatesLink h was) = unless_on h.0 old
live_by name old (SendsDetach d expects_echo result) = unless_on d.handle old
live_by name old (TakesAttach a (Some q) (Ok u)) = if bytes_eq name a.name then where_attached a.handle old else old
live_by name old (TakesAttach a (Some q) (Err e)) = if bytes_eq name a.name then where_waits q.after old else old
live_by name old e = old

-- after a history: no link is live at first
abbrev pub live_at : {R : Type 0} → List ℕ → List (SessionCall R) → Option (LiveLink R)
live_at name H = fold (live_by name) None H

-- ---- input handles (section 2.6.2)

-- the relay that stood there goes on to another state
abbrev pub where_goes : {R : Type 0} → R → Option (AttachedLink R) → Option (AttachedLink R)
where_goes after None = None
where_goes after (Some link) = Some (record link { relay = after })

-- whether a flow speaks of this input handle
abbrev pub speaks_of : ℕ → Option ℕ → Bool
speaks_of h None = false
speaks_of h (Some k) = nat_eq h k

-- the relay under an input handle, after each of these questions that was of a delivery under it
abbrev pub asked_from : {R : Type 0} → ℕ → Option (AttachedLink R) → List (DispositionQuestion R) → Option (AttachedLink R)
asked_from h old [] = old
asked_from h old (q ∷ qs) = asked_from h (if nat_eq h q.asked.delivery.input_handle.0 then where_goes q.after old else old) qs

-- The relay under an input handle after a call, with the output handle of its link. It is put there by an allotment for an
-- incoming link and by the peer's attach where that is accepted, goes on with each flow, transfer and disposition that asked it, and
-- is gone with the peer's detach.
abbrev pub input_by : {R : Type 0} → ℕ → Option (AttachedLink R) → SessionCall R → Option (AttachedLink R)
input_by h old (AllocatesIncomingLink name relay input (Ok k)) =
    if nat_eq h input.0 then Some (record { handle = k; relay = relay }) else old
input_by h old (TakesAttach a (Some q) (Ok u)) = if nat_eq h a.handle then Some (goes_on q) else old
input_by h old (TakesFlow f (Some q) result) = if speaks_of h f.handle then where_goes q.after old else old
input_by h old (TakesTransfer t payload (Some q) result) = if nat_eq h t.handle then where_goes q.after old else old
input_by h old (TakesDisposition d asked result) = asked_from h old asked
input_by h old (TakesDetach d (Some q) result) = if nat_eq h d.handle then None else old
input_by h old e = old

-- after a history: no relay stands there at first
abbrev pub input_at : {R : Type 0} → ℕ → List (SessionCall R) → Option (AttachedLink R)
input_at h H = fold (input_by h) None H

-- ---- what holds of the links of every history

-- the output handle of a live link
abbrev pub handle_of : {R : Type 0} → Option (LiveLink R) → Option ℕ
handle_of None = None
handle_of (Some n) = Some n.handle.0

-- The live names with their output handles, and how each output handle is taken: a live link has its handle for itself, and a
-- handle that is awaited has no live link.
pub record OneToOne (handle : List ℕ → Option ℕ) (taken : ℕ → HandleUse) : Type 0 where
  pub agree : (name : List ℕ) (h : ℕ) → handle name ≡ Some h ↔ taken h ≡ Some (Some name)
  pub one_name : (name other : List ℕ) (h : ℕ) → handle name ≡ Some h → handle other ≡ Some h → name ≡ other
  pub one_handle : (name : List ℕ) (h k : ℕ) → taken h ≡ Some (Some name) → taken k ≡ Some (Some name) → h ≡ k
  pub never_awaited : (name : List ℕ) (h : ℕ) → handle name ≡ Some h → ¬ (taken h ≡ Some None)

-- as a history says it, and as a session shows it
abbrev pub LinksAgree : {R : Type 0} → List (SessionCall R) → Type 0
LinksAgree H = OneToOne (λ name. handle_of (live_at name H)) (λ h. taken_at h H)

abbrev pub ShownAgree : {R : Type 0} → LinksView R → Type 0
ShownAgree l = OneToOne (λ name. handle_of (map.get l.names name)) (λ h. map.get l.handles h)

-- the input handle of a live link leads back to its output handle
abbrev pub HandlesMeet : {R : Type 0} → LinksView R → Type 0
HandlesMeet l = (h : ℕ) (input : InputHandle) → input_handle_at h l ≡ Some input → output_at input.0 l ≡ Some (record { 0 = h })

-- this output handle is allotted
abbrev pub allots : {R : Type 0} → ℕ → SessionCall R → Bool
allots k (AllocatesLink name relay (Ok h)) = nat_eq k h.0
allots k (AllocatesIncomingLink name relay input (Ok h)) = nat_eq k h.0
allots k e = false

-- A detach of this side that the peer is to answer goes out at most once for each allotment of its output handle: the handle was
-- allotted before the first one, and again between any two.
pub record AwaitedOnce {R : Type 0} (H : List (SessionCall R)) : Type 0 where
  pub allotted : (before after : List (SessionCall R)) (d : DetachModel) (f : SessionFrame) →
      H ≡ before ++ SendsDetach d true (Ok (Some f)) ∷ after → has_kind (allots d.handle) before ≡ true
  pub again : (before between after : List (SessionCall R)) (d e : DetachModel) (f g : SessionFrame) →
      H ≡ before ++ SendsDetach d true (Ok (Some f)) ∷ (between ++ SendsDetach e true (Ok (Some g)) ∷ after) →
      d.handle ≡ e.handle → has_kind (allots d.handle) between ≡ true
