-- Part: other calls; inner.
-- Parts of deliveries that have come for a session's links (AMQP 1.0 part 2, sections 2.6.7 and 2.6.12 to 2.6.14).
use Rattle.std.specs.Prelude.{ℕ, ◌≡◌, List, Option, Some, None, Result, Ok, Err}
use Rattle.amqp_credit.specs.declared.part.Part.{Part}
use Rattle.amqp_credit.specs.declared.part.PartHead.{PartHead}
use Rattle.amqp_unsettled.specs.declared.entry.Entry.{Entry}
use Rattle.amqp_unsettled.specs.declared.entry.InsertError.{InsertError}
use Rattle.amqp_unsettled.specs.declared.entry.InsertError.TheVariants as table
use Rattle.amqp_links.specs.declared.end.End.{End}
use Rattle.amqp_links.specs.declared.end.End.TheVariants.{Receiving}
use Rattle.amqp_links.specs.declared.session.taking.ReceivedPart.{ReceivedPart}
use Rattle.amqp_links.specs.declared.session.taking.TakePartError.{TakePartError}
use Rattle.amqp_links.specs.declared.session.taking.TakePartError.TheVariants.{NoReceiver, Link, NotNext, OutOfMemory}
use Rattle.amqp_links.specs.Ends.{Puts}
use Rattle.amqp_links.specs.Noting.{Notes, entry_of}
use Rattle.amqp_links.specs.declared.receiving.TransferError.{TransferError}
use Rattle.amqp_links.specs.Receiving.{ReceivingView, TakesStep, prepared_part, refusing, with_taken}
use Rattle.amqp_links.specs.Session.{LinksView, PutsEnd}

abbrev pub NotesReceived : LinksView → ℕ → Part → ℕ → Result (Option ℕ) InsertError → List Entry → Type 0
NotesReceived v h p given result u = Notes p.is_first p.settled v.received (entry_of p.number h given) result u

-- The part is noted, and this end has the handle then; or it is not, for this reason, and nothing has changed.
abbrev pub NotesOn : Option End → LinksView → ℕ → Part → ℕ → Result ReceivedPart TakePartError → LinksView → Type 0
NotesOn e v h p given (Ok told) w =
    (told.part ≡ p) × NotesReceived v h p given (Ok told.settled) w.received
    × Puts v.ends h e w.ends × (w ≡ record v { ends = w.ends; received = w.received })
NotesOn e v h p given (Err NotNext) w = NotesReceived v h p given (Err table.NotNext) v.received × (w ≡ v)
NotesOn e v h p given (Err OutOfMemory) w = NotesReceived v h p given (Err table.OutOfMemory) v.received × (w ≡ v)
NotesOn e v h p given (Err error) w = ⊥

-- The link allows the part, which is noted, or not; or the link does not allow it.
abbrev pub TakesOn : ReceivingView → LinksView → ℕ → PartHead → ℕ → Result ReceivedPart TakePartError → LinksView → Type 0
TakesOn s v h head given (Err (Link error)) w = (t : ReceivingView) × TakesStep s head (Err error) t × PutsEnd v h (Receiving t) w
TakesOn s v h head given result w =
    (t : ReceivingView) × (p : Part) × TakesStep s head (Ok p) t × NotesOn (Some (Receiving t)) v h p given result w

abbrev pub TakesAt : Option End → LinksView → ℕ → PartHead → ℕ → Result ReceivedPart TakePartError → LinksView → Type 0
TakesAt (Some (Receiving s)) v h head given result w = TakesOn s v h head given result w
TakesAt e v h head given result w = (result ≡ Err NoReceiver) × (w ≡ v)

-- ---- in two halves

-- what is answered to a transfer by the end, if it receives
abbrev pub prepared_at : Option End → PartHead → Option (Result Part TransferError)
prepared_at (Some (Receiving s)) head = Some (prepared_part s head)
prepared_at e head = None

-- the end with a part that was prepared for this head
abbrev pub with_part : Option End → PartHead → Part → Option End
with_part (Some (Receiving s)) head p = Some (Receiving (with_taken s head p))
with_part e head p = e

-- the end that has refused a transfer
abbrev pub refusing_at : TransferError → Option End → Option End
refusing_at error (Some (Receiving s)) = Some (Receiving (refusing error s))
refusing_at error e = e
