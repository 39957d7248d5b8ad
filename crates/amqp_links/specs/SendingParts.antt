-- Part: other calls.
-- Parts of deliveries that are sent on a session's links (AMQP 1.0 part 2, sections 2.6.7 and 2.6.12 to 2.6.14).
use Rattle.std.specs.Prelude.{ℕ, ◌≡◌, ◌||◌, Bool, true, false, List, Option, Some, Result, Ok, Err}
use Rattle.amqp_credit.specs.declared.part.PartEnd.{PartEnd}
use Rattle.amqp_credit.specs.declared.part.PartEnd.TheVariants.{More, Last, Aborted}
use Rattle.amqp_unsettled.specs.declared.entry.Entry.{Entry}
use Rattle.amqp_unsettled.specs.declared.entry.InsertError.{InsertError}
use Rattle.amqp_unsettled.specs.declared.entry.InsertError.TheVariants as table
use Rattle.amqp_links.specs.declared.end.End.{End}
use Rattle.amqp_links.specs.declared.end.End.TheVariants.{Sending}
use Rattle.amqp_links.specs.declared.session.sending.SentPart.{SentPart}
use Rattle.amqp_links.specs.declared.session.sending.SendPartError.{SendPartError}
use Rattle.amqp_links.specs.declared.session.sending.SendPartError.TheVariants.{NoSender, Link, NotNext, OutOfMemory}
use Rattle.amqp_links.specs.Ends.{Puts}
use Rattle.amqp_links.specs.Noting.{Notes, entry_of}
use Rattle.amqp_links.specs.Sending.{SendingView, SendsStep, is_none}
use Rattle.amqp_links.specs.Session.{LinksView}

abbrev pub is_aborted : PartEnd → Bool
is_aborted More = false
is_aborted Last = false
is_aborted Aborted = true

-- a part settles its delivery: it says so, or it aborts it
abbrev pub settles : SentPart → Bool
settles p = p.settled || is_aborted p.end

abbrev pub NotesSent : Bool → LinksView → ℕ → SentPart → Result (Option ℕ) InsertError → List Entry → Type 0
NotesSent is_first v h p result u = Notes is_first (settles p) v.sent (entry_of p.number h p.given) result u

-- The part is noted, and the end is this one then; or it is not, for this reason, and nothing has changed.
abbrev pub NotesOn : SendingView → Bool → LinksView → ℕ → SentPart → Result (Option ℕ) SendPartError → LinksView → Type 0
NotesOn t is_first v h p (Ok given) w =
    NotesSent is_first v h p (Ok given) w.sent × Puts v.ends h (Some (Sending t)) w.ends × (w ≡ record v { ends = w.ends; sent = w.sent })
NotesOn t is_first v h p (Err NotNext) w = NotesSent is_first v h p (Err table.NotNext) v.sent × (w ≡ v)
NotesOn t is_first v h p (Err OutOfMemory) w = NotesSent is_first v h p (Err table.OutOfMemory) v.sent × (w ≡ v)
NotesOn t is_first v h p (Err error) w = ⊥

-- The link allows the part, which begins a delivery where none is under way, and it is noted, or not. Or the link does not allow it.
abbrev pub SendsOn : SendingView → LinksView → ℕ → SentPart → Result (Option ℕ) SendPartError → LinksView → Type 0
SendsOn s v h p (Err (Link error)) w = SendsStep s p.size p.end (Err error) s × (w ≡ v)
SendsOn s v h p result w = (t : SendingView) × SendsStep s p.size p.end (Ok tt) t × NotesOn t (is_none s.under_way) v h p result w

abbrev pub SendsAt : Option End → LinksView → ℕ → SentPart → Result (Option ℕ) SendPartError → LinksView → Type 0
SendsAt (Some (Sending s)) v h p result w = SendsOn s v h p result w
SendsAt e v h p result w = (result ≡ Err NoSender) × (w ≡ v)
