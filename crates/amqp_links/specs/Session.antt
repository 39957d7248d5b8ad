-- Part: other calls.
-- The links of one session, and what each call makes of them (AMQP 1.0 part 2, sections 2.6 and 2.7).
use Rattle.std.specs.Prelude.{ℕ, ◌≡◌, ◌≢◌, ◌<◌, ◌≤◌, length, List, [], Option, Some, None, Result, Ok, Err}
use Rattle.amqp_memory.specs.Refusal.{SomeRefused}
use Rattle.amqp_unsettled.specs.declared.entry.Entry.{Entry}
use Rattle.amqp_unsettled.specs.Table.{count_of}
use Rattle.amqp_links.specs.declared.end.End.{End}
use Rattle.amqp_links.specs.declared.end.End.TheVariants.{Sending, Receiving}
use Rattle.amqp_links.specs.declared.life.Life.{Life}
use Rattle.amqp_links.specs.declared.life.Life.TheVariants.{Detached}
use Rattle.amqp_links.specs.declared.session.AddError.{AddError}
use Rattle.amqp_links.specs.declared.session.AddError.TheVariants.{InUse, OutOfMemory}
use Rattle.amqp_links.specs.declared.session.RemoveError.{RemoveError}
use Rattle.amqp_links.specs.declared.session.RemoveError.TheVariants.{NoLink, NotDetached, Unsettled}
use Rattle.amqp_links.specs.Ends.{end_at, Puts}

-- The ends of the links by their handles, and what is unsettled: of what this side sent, and of what has come.
pub record LinksView : Type 0 where
  pub ends : List (Option End)
  pub sent : List Entry
  pub received : List Entry

abbrev pub no_links : LinksView
no_links = record { ends = []; sent = []; received = [] }

-- this end has the handle then; nothing else has changed
abbrev pub PutsEnd : LinksView → ℕ → End → LinksView → Type 0
PutsEnd v h e w = Puts v.ends h (Some e) w.ends × (w ≡ record v { ends = w.ends })

-- where an end stands
abbrev pub life_of : End → Life
life_of (Sending link) = link.life
life_of (Receiving link) = link.life

-- ---- a link begins

-- every handle has the end that it had
abbrev pub HasSameEnds : LinksView → LinksView → Type 0
HasSameEnds v w = ((k : ℕ) → end_at w.ends k ≡ end_at v.ends k) × (w ≡ record v { ends = w.ends })

-- and there is room for an end of this one
abbrev pub HasRoom : LinksView → ℕ → LinksView → Type 0
HasRoom v h w = HasSameEnds v w × (h < length w.ends)

-- An end gets a handle that has none. Where it has one, or memory is refused, nothing changes; and none is asked for where there is room.
abbrev pub AddsEnd : LinksView → ℕ → End → Result (Unit {0}) AddError → LinksView → Type 0
AddsEnd v h e (Ok done) w = (end_at v.ends h ≡ None) × PutsEnd v h e w
AddsEnd v h e (Err InUse) w = (end_at v.ends h ≢ None) × (w ≡ v)
AddsEnd v h e (Err OutOfMemory) w = (end_at v.ends h ≡ None) × (w ≡ v) × SomeRefused × (length v.ends ≤ h)

-- ---- a link ends

-- nothing is unsettled on the link that has this handle
abbrev pub IsSettled : LinksView → ℕ → Type 0
IsSettled v h = (count_of h v.sent ≡ 0) × (count_of h v.received ≡ 0)

-- An end goes once the peer has detached and nothing is unsettled on its link. Else nothing changes.
abbrev pub RemovesEnd : Option End → LinksView → ℕ → Result (Unit {0}) RemoveError → LinksView → Type 0
RemovesEnd None v h result w = (result ≡ Err NoLink) × (w ≡ v)
RemovesEnd (Some e) v h (Ok done) w =
    (life_of e ≡ Detached) × IsSettled v h × Puts v.ends h None w.ends × (w ≡ record v { ends = w.ends })
RemovesEnd (Some e) v h (Err NoLink) w = ⊥
RemovesEnd (Some e) v h (Err NotDetached) w = (life_of e ≢ Detached) × (w ≡ v)
RemovesEnd (Some e) v h (Err Unsettled) w = (life_of e ≡ Detached) × (¬ IsSettled v h) × (w ≡ v)
