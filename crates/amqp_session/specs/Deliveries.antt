-- Part: every call exactly; other calls; inner.
-- Open deliveries: one record for each number, by rising number (AMQP 1.0 part 2, section 2.6.12).
use Rattle.std.specs.Prelude.{ℕ, ◌<◌, ◌^◌, List, [], ◌∷◌, Option, Some, None, Bool, true, false, if◌then◌else◌, nat_eq, nat_lt, nat_le, map}
use Rattle.std.specs.Prelude.{◌≡◌, slice_index, length, take, drop, ◌++◌, ◌+◌, ◌-◌, ◌%◌}
use Rattle.amqp_types.specs.declared.definitions.Role.{Role}
use Rattle.amqp_types.specs.declared.definitions.Role.TheVariants.{Sender, Receiver}
use Rattle.amqp_session.specs.declared.deliveries.Delivery.{Delivery}
use Rattle.amqp_session.specs.declared.deliveries.ReadCount.{ReadCount}
use Rattle.amqp_session.specs.declared.deliveries.WalkCount.{WalkCount}

-- the records with this one among them: it takes the place of an older one of its number
abbrev pub recorded : Delivery → List Delivery → List Delivery
recorded d [] = d ∷ []
recorded d (e ∷ es) = if nat_lt e.number d.number then e ∷ recorded d es else (if nat_eq e.number d.number then d ∷ es else d ∷ e ∷ es)

-- the same, where there is a record
abbrev pub with_record : Option Delivery → List Delivery → List Delivery
with_record None rows = rows
with_record (Some d) rows = recorded d rows

-- the list of it, where there is a record
abbrev pub listed : Option Delivery → List Delivery
listed None = []
listed (Some d) = d ∷ []

-- its number is of four bytes
abbrev pub RecordFits : Option Delivery → Type 0
RecordFits None = Unit {0}
RecordFits (Some d) = d.number < 2 ^ 32

-- the newest record of this number: the last one among these, or an older one where they have none
abbrev pub newest : ℕ → Option Delivery → List Delivery → Option Delivery
newest n old [] = old
newest n old (d ∷ ds) = newest n (if nat_eq d.number n then Some d else old) ds

-- each number is so
abbrev pub EachNumber : (ℕ → Type 0) → List Delivery → Type 0
EachNumber P [] = Unit {0}
EachNumber P (e ∷ es) = P e.number × EachNumber P es

-- all numbers are above n
abbrev pub Above : ℕ → List Delivery → Type 0
Above n rows = EachNumber (λ k. n < k) rows

-- the numbers rise
abbrev pub IsRising : List Delivery → Type 0
IsRising [] = Unit {0}
IsRising (e ∷ es) = Above e.number es × IsRising es

-- all numbers are below n
abbrev pub Under : ℕ → List Delivery → Type 0
Under n rows = EachNumber (λ k. k < n) rows

-- The records of a table: their numbers rise, and are of four bytes.
abbrev pub IsTable : List Delivery → Type 0
IsTable rows = IsRising rows × Under (2 ^ 32) rows

-- the number at a place
abbrev pub number_at : List Delivery → ℕ → ℕ
number_at rows i = slice_index (map (λ row. row.number) rows) i

-- so many numbers are missing between the first record's and the last one's
abbrev pub IsMissing : ℕ → List Delivery → Type 0
IsMissing missing rows =
    0 < length rows → number_at rows (length rows - 1) ≡ number_at rows 0 + (length rows - 1) + missing

-- the record of a number
abbrev pub record_at : ℕ → List Delivery → Option Delivery
record_at n [] = None
record_at n (e ∷ es) = if nat_eq e.number n then Some e else record_at n es

-- Deliveries by the role of the peer that will speak of them: those that this side sent, which the peer settles as
-- receiver; and those that it received, which the peer settles as sender.
pub record OpenView : Type 0 where
  pub receiver : List Delivery
  pub sender : List Delivery

abbrev pub of_role : Role → OpenView → List Delivery
of_role Receiver v = v.receiver
of_role Sender v = v.sender

abbrev pub is_role : Role → Role → Bool
is_role Receiver Receiver = true
is_role Sender Sender = true
is_role one other = false

abbrev pub with_role : Role → List Delivery → OpenView → OpenView
with_role Receiver rows v = record v { receiver = rows }
with_role Sender rows v = record v { sender = rows }

-- the role of the other side
abbrev pub peer_role : Role → Role
peer_role Receiver = Sender
peer_role Sender = Receiver

-- the records without these many from a place on; those past the end are the first ones
abbrev pub cut : ℕ → ℕ → List Delivery → List Delivery
cut from count rows =
    if nat_le count (length rows - from) then take from rows ++ drop (from + count) rows
    else drop (count - (length rows - from)) (take from rows)

-- A table of deliveries: its records, how many it has room for, and how much of it was ever read.
pub record TableView : Type 0 where
  pub rows : List Delivery
  pub capacity : ℕ
  pub reads : ReadCount

-- a table of which so many numbers more were read
abbrev pub compared : ℕ → TableView → TableView
compared k t = record t { reads = record t.reads { comparisons = (t.reads.comparisons + k) % 2 ^ 64 } }

-- a table of which so many records more were read
abbrev pub stepped : ℕ → TableView → TableView
stepped k t = record t { reads = record t.reads { turns = (t.reads.turns + k) % 2 ^ 64 } }

-- of a table nothing was ever read
abbrev pub nothing_counted : ReadCount
nothing_counted = record { turns = 0; comparisons = 0 }

-- the count after this walk: it counts modulo 2^64, and is never set back
abbrev pub risen : WalkCount → ReadCount → ReadCount
risen w r = record { turns = (r.turns + w.turns) % 2 ^ 64; comparisons = (r.comparisons + w.comparisons) % 2 ^ 64 }

-- what the tables of both roles have counted
pub record OpenReads : Type 0 where
  pub receiver : ReadCount
  pub sender : ReadCount

-- they are of eight bytes
abbrev pub AreCounts : OpenReads → Type 0
AreCounts r = (r.receiver.turns < 2 ^ 64) × (r.receiver.comparisons < 2 ^ 64) × (r.sender.turns < 2 ^ 64) × (r.sender.comparisons < 2 ^ 64)

-- the same after a walk of the table of a role
abbrev pub read_more : Role → WalkCount → OpenReads → OpenReads
read_more Receiver w r = record r { receiver = risen w r.receiver }
read_more Sender w r = record r { sender = risen w r.sender }

-- a walk that has read nothing
abbrev pub nothing_read : WalkCount
nothing_read = record { turns = 0; comparisons = 0 }
