-- Part: other calls.
-- What a part of a delivery makes unsettled, or settles (AMQP 1.0 part 2, sections 2.6.12 to 2.6.14 and 2.7.5).
use Rattle.std.specs.Prelude.{ℕ, ◌≡◌, ◌≢◌, Bool, true, false, List, Option, Some, None, Result, Ok, Err}
use Rattle.std.specs.List.{find}
use Rattle.amqp_unsettled.specs.declared.entry.Entry.{Entry}
use Rattle.amqp_unsettled.specs.declared.entry.InsertError.{InsertError}
use Rattle.amqp_unsettled.specs.Table.{InsertStep, TakeStep, has_number}

abbrev pub entry_of : ℕ → ℕ → ℕ → Entry
entry_of n h given = record { number = n; link = h; given = given }

-- Where the delivery of this number is of this link, it is taken out, and what was given with it is answered. Else nothing changes.
abbrev pub GivesOwn : Option Entry → List Entry → ℕ → ℕ → Option ℕ → List Entry → Type 0
GivesOwn None t h n given u = (given ≡ None) × (u ≡ t)
GivesOwn (Some e) t h n (Some given) u = (e.link ≡ h) × (given ≡ e.given) × TakeStep (has_number n) t (Some e) u
GivesOwn (Some e) t h n None u = (e.link ≢ h) × (u ≡ t)

abbrev pub GivesBack : List Entry → ℕ → ℕ → Option ℕ → List Entry → Type 0
GivesBack t h n given u = GivesOwn (find (has_number n) t) t h n given u

-- a delivery begins unsettled
abbrev pub PutsIn : List Entry → Entry → Result (Option ℕ) InsertError → List Entry → Type 0
PutsIn t e (Ok given) u = (given ≡ None) × InsertStep t e (Ok tt) u
PutsIn t e (Err error) u = InsertStep t e (Err error) u

-- a delivery is settled
abbrev pub PutsOut : List Entry → Entry → Result (Option ℕ) InsertError → List Entry → Type 0
PutsOut t e (Ok given) u = GivesBack t e.link e.number given u
PutsOut t e (Err error) u = ⊥

-- A part that begins a delivery has it unsettled, unless it is settled. A later one of a delivery that is settled gives back what was given.
abbrev pub Notes : Bool → Bool → List Entry → Entry → Result (Option ℕ) InsertError → List Entry → Type 0
Notes true false t e result u = PutsIn t e result u
Notes false true t e result u = PutsOut t e result u
Notes true true t e result u = (result ≡ Ok None) × (u ≡ t)
Notes false false t e result u = (result ≡ Ok None) × (u ≡ t)
