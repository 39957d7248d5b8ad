-- Part: other calls.
-- What is unsettled on a session's links, by the history alone: which calls of the two tables its calls are (AMQP 1.0 part 2, sections 2.6.12 to 2.6.14).
use Rattle.std.specs.Prelude.{ℕ, not, Bool, true, false, List, [], ◌∷◌, ◌++◌, Option, Some, Ok}
use Rattle.amqp_unsettled.specs.declared.entry.Entry.{Entry}
use Rattle.amqp_unsettled.specs.History.{TableCall, LeadsTo, Inserts, Removes, Settles, RemovesOldest}
use Rattle.amqp_unsettled.specs.History as table
use Rattle.amqp_links.specs.declared.life.Life.{Life}
use Rattle.amqp_links.specs.declared.life.Life.TheVariants.{Attaching, Detached}
use Rattle.amqp_links.specs.SendingHistory.{busy_by}
use Rattle.amqp_links.specs.SendingHistory as sending
use Rattle.amqp_links.specs.ReceivingHistory as receiving
use Rattle.amqp_links.specs.Session.{LinksView}
use Rattle.amqp_links.specs.Noting.{entry_of}
use Rattle.amqp_links.specs.SendingParts.{settles}
use Rattle.amqp_links.specs.SessionHistory.{LinksCall, Owner, nobody, a_sender, a_receiver, owner_by}
use Rattle.amqp_links.specs.SessionHistory.{Sends, Takes}
use Rattle.amqp_links.specs.SessionHistory.{Leaves, SettlesOfSent, SettlesOfReceived, LeavesOfSent, LeavesOfReceived}

-- the handle of a call of a link
abbrev pub handle_of : LinksCall → ℕ
handle_of (Sends h p answer) = h
handle_of (Takes h head given answer) = h
handle_of (Leaves h given) = h
handle_of c = 0

-- A part that begins a delivery, which is not settled, puts it in. A later one that settles or aborts it takes it out, where it is there; and gives back
-- what was given with it.
abbrev pub noted : Bool → Bool → Entry → Option ℕ → List TableCall
noted true false e given = Inserts e (Ok tt) ∷ []
noted false true e (Some given) = Removes e.number (Some (record e { given = given })) ∷ []
noted is_first is_settled e given = []

-- what is left of a link is taken out once the peer has detached
abbrev pub left_by : Life → ℕ → Option Entry → List TableCall
left_by Detached h given = table.Leaves h given ∷ []
left_by life h given = []

-- the calls of the table of what was sent, by the end that has the call's handle
abbrev pub sent_calls : LinksCall → Owner → List TableCall
sent_calls (Sends h p (Ok given)) (a_sender initial K) = noted (not (busy_by false K)) (settles p) (entry_of p.number h p.given) given
sent_calls (Leaves h given) (a_sender initial K) = left_by (sending.life_by Attaching K) h given
sent_calls (SettlesOfSent first last given) o = Settles first last given ∷ []
sent_calls (LeavesOfSent given) o = RemovesOldest given ∷ []
sent_calls c o = []

-- the same of what has come
abbrev pub received_calls : LinksCall → Owner → List TableCall
received_calls (Takes h head given (Ok told)) (a_receiver renewal limit K) =
    noted told.part.is_first told.part.settled (entry_of told.part.number h given) told.settled
received_calls (Leaves h given) (a_receiver renewal limit K) = left_by (receiving.life_by Attaching K) h given
received_calls (SettlesOfReceived first last given) o = Settles first last given ∷ []
received_calls (LeavesOfReceived given) o = RemovesOldest given ∷ []
received_calls c o = []

-- those of a history, after these calls
abbrev pub table_calls : (LinksCall → Owner → List TableCall) → List LinksCall → List LinksCall → List TableCall
table_calls of before [] = []
table_calls of before (c ∷ cs) = of c (owner_by (handle_of c) nobody before) ++ table_calls of (before ++ c ∷ []) cs

-- Both tables are those of the history: so each law of `amqp_unsettled` holds of them.
abbrev pub AreTables : List LinksCall → LinksView → Type 0
AreTables H v = LeadsTo (table_calls sent_calls [] H) v.sent × LeadsTo (table_calls received_calls [] H) v.received
