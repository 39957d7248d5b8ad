-- Part: other calls.
-- Settlement on a session's links (AMQP 1.0 part 2, sections 2.6.12, 2.6.13 and 2.7.6).
use Rattle.std.specs.Prelude.{ℕ, ◌≡◌, Option, Some, None}
use Rattle.std.specs.List.{find}
use Rattle.amqp_unsettled.specs.declared.entry.Entry.{Entry}
use Rattle.amqp_unsettled.specs.Table.{TakeStep, is_any, is_in, is_of}
use Rattle.amqp_links.specs.declared.end.End.{End}
use Rattle.amqp_links.specs.declared.end.End.TheVariants.{Sending, Receiving}
use Rattle.amqp_links.specs.declared.life.Life.{Life}
use Rattle.amqp_links.specs.declared.life.Life.TheVariants.{Detached}
use Rattle.amqp_links.specs.Session.{LinksView}

-- the oldest of a range is taken out, of what was sent and of what has come
abbrev pub SettlesSent : ℕ → ℕ → LinksView → Option Entry → LinksView → Type 0
SettlesSent first last v given w = TakeStep (is_in first last) v.sent given w.sent × (w ≡ record v { sent = w.sent })

abbrev pub SettlesReceived : ℕ → ℕ → LinksView → Option Entry → LinksView → Type 0
SettlesReceived first last v given w = TakeStep (is_in first last) v.received given w.received × (w ≡ record v { received = w.received })

-- ---- what is left

-- of a link that is over, the oldest that was sent on it
abbrev pub LeavesSent : Life → LinksView → ℕ → Option Entry → LinksView → Type 0
LeavesSent Detached v h given w = TakeStep (is_of h) v.sent given w.sent × (w ≡ record v { sent = w.sent })
LeavesSent life v h given w = (given ≡ None) × (w ≡ v)

-- of a link that is over, the oldest that has come on it
abbrev pub LeavesReceived : Life → LinksView → ℕ → Option Entry → LinksView → Type 0
LeavesReceived Detached v h given w = TakeStep (is_of h) v.received given w.received × (w ≡ record v { received = w.received })
LeavesReceived life v h given w = (given ≡ None) × (w ≡ v)

abbrev pub LeavesNext : Option End → LinksView → ℕ → Option Entry → LinksView → Type 0
LeavesNext None v h given w = (given ≡ None) × (w ≡ v)
LeavesNext (Some (Sending s)) v h given w = LeavesSent s.life v h given w
LeavesNext (Some (Receiving s)) v h given w = LeavesReceived s.life v h given w

-- the one that is taken out
abbrev pub left_of : {X : Type 0} → Life → Option X → Option X
left_of Detached e = e
left_of life e = None

abbrev pub left_at : Option End → LinksView → ℕ → Option Entry
left_at None v h = None
left_at (Some (Sending s)) v h = left_of s.life (find (is_of h) v.sent)
left_at (Some (Receiving s)) v h = left_of s.life (find (is_of h) v.received)

-- of the whole session: the oldest that was sent, and the oldest that has come
abbrev pub LeavesSentOfAll : LinksView → Option Entry → LinksView → Type 0
LeavesSentOfAll v given w = TakeStep is_any v.sent given w.sent × (w ≡ record v { sent = w.sent })

abbrev pub LeavesReceivedOfAll : LinksView → Option Entry → LinksView → Type 0
LeavesReceivedOfAll v given w = TakeStep is_any v.received given w.received × (w ≡ record v { received = w.received })
