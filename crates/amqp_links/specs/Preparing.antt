-- Part: other calls; inner.
-- A part of a delivery is sent in two halves, where somebody else may still refuse it (AMQP 1.0 part 2, sections 2.6.12 to 2.6.14).
use Rattle.std.specs.Prelude.{ℕ, ◌≡◌, ◌<◌, ◌^◌, ◌&&◌, not, Bool, true, false, Option, Some, None, Result, Ok, Err}
use Rattle.amqp_unsettled.specs.declared.entry.Entry.{Entry}
use Rattle.amqp_unsettled.specs.declared.entry.InsertError.TheVariants as table
use Rattle.amqp_unsettled.specs.Table.{InsertStep, has_number, without_first}
use Rattle.amqp_links.specs.declared.end.End.{End}
use Rattle.amqp_links.specs.declared.end.End.TheVariants.{Sending}
use Rattle.amqp_links.specs.declared.session.sending.PreparedPart.{PreparedPart}
use Rattle.amqp_links.specs.declared.session.sending.SentPart.{SentPart}
use Rattle.amqp_links.specs.declared.session.sending.SendPartError.{SendPartError}
use Rattle.amqp_links.specs.declared.session.sending.SendPartError.TheVariants.{NoSender, Link, NotNext, OutOfMemory}
use Rattle.amqp_links.specs.Ends.{Puts, end_at}
use Rattle.amqp_links.specs.Noting.{GivesBack, entry_of}
use Rattle.amqp_links.specs.declared.sending.SendError.{SendError}
use Rattle.amqp_links.specs.declared.sending.Sendable.{Sendable}
use Rattle.amqp_credit.specs.declared.part.PartEnd.{PartEnd}
use Rattle.amqp_links.specs.Sending.{SendingView, SendsStep, having_sent, is_none, prepared_send}
use Rattle.amqp_links.specs.SendingParts.{SendsAt, settles}
use Rattle.amqp_links.specs.Session.{LinksView}

-- a part begins a delivery that is unsettled
abbrev pub opens : Bool → SentPart → Bool
opens is_first p = is_first && not (settles p)

abbrev pub entry_in : PreparedPart → Entry
entry_in q = entry_of q.part.number q.handle q.part.given

-- The delivery that it begins is put in, where it is not settled; or that is refused, for this reason, and nothing has changed.
abbrev pub NotesIf : Bool → PreparedPart → LinksView → Result PreparedPart SendPartError → LinksView → Type 0
NotesIf false q v (Ok r) w = (r ≡ q) × (w ≡ v)
NotesIf false q v (Err error) w = ⊥
NotesIf true q v (Ok r) w = (r ≡ q) × InsertStep v.sent (entry_in q) (Ok tt) w.sent × (w ≡ record v { sent = w.sent })
NotesIf true q v (Err NotNext) w = InsertStep v.sent (entry_in q) (Err table.NotNext) v.sent × (w ≡ v)
NotesIf true q v (Err OutOfMemory) w = InsertStep v.sent (entry_in q) (Err table.OutOfMemory) v.sent × (w ≡ v)
NotesIf true q v (Err error) w = ⊥

abbrev pub NotesPrepared : PreparedPart → LinksView → Result PreparedPart SendPartError → LinksView → Type 0
NotesPrepared q v result w = NotesIf (opens q.sendable.is_first q.part) q v result w

-- the part of this link, which begins a delivery where none is under way
abbrev pub prepared_of : SendingView → SendingView → ℕ → SentPart → PreparedPart
prepared_of s t h p = record { handle = h; part = p; sendable = record { is_first = is_none s.under_way; under_way = t.under_way } }

-- The link allows the part, and its delivery is put in, or not. Or the link does not allow it.
abbrev pub PreparesOn : SendingView → LinksView → ℕ → SentPart → Result PreparedPart SendPartError → LinksView → Type 0
PreparesOn s v h p (Err (Link error)) w = SendsStep s p.size p.end (Err error) s × (w ≡ v)
PreparesOn s v h p result w = (t : SendingView) × SendsStep s p.size p.end (Ok tt) t × NotesPrepared (prepared_of s t h p) v result w

abbrev pub PreparesAt : Option End → LinksView → ℕ → SentPart → Result PreparedPart SendPartError → LinksView → Type 0
PreparesAt (Some (Sending s)) v h p result w = PreparesOn s v h p result w
PreparesAt e v h p result w = (result ≡ Err NoSender) × (w ≡ v)

-- ---- it is sent, or not

-- what a later part that settles its delivery gives back
abbrev pub GivesIf : Bool → Bool → PreparedPart → LinksView → Option ℕ → LinksView → Type 0
GivesIf false true q v result w = GivesBack v.sent q.handle q.part.number result w.sent
GivesIf is_first settled q v result w = (result ≡ None) × (w.sent ≡ v.sent)

-- what is answered to a transfer by the end, if it sends
abbrev pub sendable_on : Option End → ℕ → PartEnd → Option (Result Sendable SendError)
sendable_on (Some (Sending s)) size end = Some (prepared_send s size end)
sendable_on e size end = None

-- the end with a transfer that was prepared
abbrev pub having_sent_on : Option End → Sendable → Option End
having_sent_on (Some (Sending s)) x = Some (Sending (having_sent s x))
having_sent_on e x = e

-- The end stands as after the part.
abbrev pub FinishesAt : Option End → PreparedPart → LinksView → Option ℕ → LinksView → Type 0
FinishesAt None q v result w = (result ≡ None) × (w ≡ v)
FinishesAt (Some e) q v result w =
    GivesIf q.sendable.is_first (settles q.part) q v result w × Puts v.ends q.handle (having_sent_on (Some e) q.sendable) w.ends
    × (w ≡ record v { ends = w.ends; sent = w.sent })

-- what it put in is taken out
abbrev pub CancelsIf : Bool → PreparedPart → LinksView → LinksView → Type 0
CancelsIf false q v w = w ≡ v
CancelsIf true q v w = w ≡ record v { sent = without_first (has_number q.part.number) v.sent }

abbrev pub CancelsSend : PreparedPart → LinksView → LinksView → Type 0
CancelsSend q v w = CancelsIf (opens q.sendable.is_first q.part) q v w

-- A part that is prepared and then cancelled leaves all as it was.
abbrev pub CancelRestores : Type 0
CancelRestores = (v m w : LinksView) (h : ℕ) (p : SentPart) (q : PreparedPart) → p.number < 2 ^ 32 → PreparesAt (end_at v.ends h) v h p (Ok q) m
    → CancelsSend q m w → w ≡ v

-- A part that is prepared and then finished is what the whole call sends.
abbrev pub HalvesSend : Type 0
HalvesSend = (v m w : LinksView) (h : ℕ) (p : SentPart) (q : PreparedPart) (given : Option ℕ) → PreparesAt (end_at v.ends h) v h p (Ok q) m
    → FinishesAt (end_at m.ends q.handle) q m given w → SendsAt (end_at v.ends h) v h p (Ok given) w
