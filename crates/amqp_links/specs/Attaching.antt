-- Part: other calls.
-- Attaches and Detaches of a session's links (AMQP 1.0 part 2, sections 2.6.3 to 2.6.6).
use Rattle.std.specs.Prelude.{ℕ, ◌≡◌, Option, Some, None}
use Rattle.amqp_links.specs.declared.end.End.{End}
use Rattle.amqp_links.specs.declared.end.End.TheVariants.{Sending, Receiving}
use Rattle.amqp_links.specs.declared.life.Life.{Life}
use Rattle.amqp_links.specs.declared.life.LinkEnd.{LinkEnd}
use Rattle.amqp_links.specs.declared.session.attaching.PeerAttach.{PeerAttach}
use Rattle.amqp_links.specs.Sending.{SendingView}
use Rattle.amqp_links.specs.Sending as sending
use Rattle.amqp_links.specs.Receiving.{ReceivingView}
use Rattle.amqp_links.specs.Receiving as receiving
use Rattle.amqp_links.specs.Session.{LinksView, PutsEnd}

-- the peer's Attach, to the end that has the handle
abbrev pub AttachesAt : Option End → LinksView → ℕ → PeerAttach → Option Life → LinksView → Type 0
AttachesAt None v h a result w = (result ≡ None) × (w ≡ v)
AttachesAt (Some (Sending s)) v h a result w =
    (t : SendingView) × sending.AttachStep s a.is_accepted a.max_message_size t × PutsEnd v h (Sending t) w × (result ≡ Some t.life)
AttachesAt (Some (Receiving s)) v h a result w =
    (t : ReceivingView) × receiving.AttachStep s a.is_accepted a.initial_delivery_count t × PutsEnd v h (Receiving t) w × (result ≡ Some t.life)

-- this side detaches
abbrev pub DetachesAt : Option End → LinksView → ℕ → Option Life → LinksView → Type 0
DetachesAt None v h result w = (result ≡ None) × (w ≡ v)
DetachesAt (Some (Sending s)) v h result w =
    (t : SendingView) × sending.DetachStep s t × PutsEnd v h (Sending t) w × (result ≡ Some t.life)
DetachesAt (Some (Receiving s)) v h result w =
    (t : ReceivingView) × receiving.DetachStep s t × PutsEnd v h (Receiving t) w × (result ≡ Some t.life)

-- the peer's Detach
abbrev pub EndsAt : Option End → LinksView → ℕ → Option LinkEnd → LinksView → Type 0
EndsAt None v h result w = (result ≡ None) × (w ≡ v)
EndsAt (Some (Sending s)) v h result w =
    (t : SendingView) × (end : LinkEnd) × sending.EndsStep s end t × PutsEnd v h (Sending t) w × (result ≡ Some end)
EndsAt (Some (Receiving s)) v h result w =
    (t : ReceivingView) × (end : LinkEnd) × receiving.EndsStep s end t × PutsEnd v h (Receiving t) w × (result ≡ Some end)
