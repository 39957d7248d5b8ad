-- Part: other calls.
-- The history of one table: its calls with their answers, the oldest first, and what they say.
use Rattle.std.specs.Prelude.{ℕ, ◌^◌, ◌<◌, ◌≡◌, ◌==◌, cond, length, Bool}
use Rattle.std.specs.Prelude.{List, [], ◌∷◌, ◌++◌, Option, Some, None, Result, Ok}
use Rattle.std.specs.List.{find, list_any}
use Rattle.amqp_unsettled.specs.declared.entry.Entry.{Entry}
use Rattle.amqp_unsettled.specs.declared.entry.InsertError.{InsertError}
use Rattle.amqp_unsettled.specs.Chain.{Chain}
use Rattle.amqp_unsettled.specs.Table.{InsertStep, TakeStep, has_number, is_any, is_in, is_of, count_of}

-- One call, and its answer. The last five are questions.
pub data TableCall : Type 0 where
  Inserts : Entry → Result (Unit {0}) InsertError → TableCall
  Removes : ℕ → Option Entry → TableCall
  RemovesOldest : Option Entry → TableCall
  Settles : ℕ → ℕ → Option Entry → TableCall
  Leaves : ℕ → Option Entry → TableCall
  Gets : ℕ → Option Entry → TableCall
  Finds : ℕ → ℕ → Option Entry → TableCall
  AsksCount : ℕ → ℕ → TableCall
  AsksLen : ℕ → TableCall
  AsksEmpty : Bool → TableCall

-- the table goes from one list to the other by this call
abbrev pub TableStep : List Entry → TableCall → List Entry → Type 0
TableStep t (Inserts e answer) u = (e.number < 2 ^ 32) × InsertStep t e answer u
TableStep t (Removes n given) u = TakeStep (has_number n) t given u
TableStep t (RemovesOldest given) u = TakeStep is_any t given u
TableStep t (Settles first last given) u = TakeStep (is_in first last) t given u
TableStep t (Leaves link given) u = TakeStep (is_of link) t given u
TableStep t (Gets n answer) u = (answer ≡ find (has_number n) t) × (u ≡ t)
TableStep t (Finds first last answer) u = (answer ≡ find (is_in first last) t) × (u ≡ t)
TableStep t (AsksCount link n) u = (n ≡ count_of link t) × (u ≡ t)
TableStep t (AsksLen n) u = (n ≡ length t) × (u ≡ t)
TableStep t (AsksEmpty answer) u = (answer ≡ (length t == 0)) × (u ≡ t)

-- a legal history of a table from its beginning, and what it leads to
abbrev pub LeadsTo : List TableCall → List Entry → Type 0
LeadsTo H t = Chain TableStep [] H t

-- this holds of every history of every table, and of what it leads to
abbrev pub OfTables : (List TableCall → List Entry → Type 0) → Type 0
OfTables P = (H : List TableCall) (t : List Entry) → LeadsTo H t → P H t

-- ---- what the calls say

-- the list of it, where there is an entry
abbrev pub listed : Option Entry → List Entry
listed None = []
listed (Some e) = e ∷ []

-- what a call puts in
abbrev pub inserted_by : TableCall → List Entry
inserted_by (Inserts e (Ok done)) = e ∷ []
inserted_by c = []

-- what a call gives back
abbrev pub given_by : TableCall → List Entry
given_by (Removes n given) = listed given
given_by (RemovesOldest given) = listed given
given_by (Settles first last given) = listed given
given_by (Leaves link given) = listed given
given_by c = []

abbrev pub inserted_in : List TableCall → List Entry
inserted_in [] = []
inserted_in (c ∷ cs) = inserted_by c ++ inserted_in cs

abbrev pub given_in : List TableCall → List Entry
given_in [] = []
given_in (c ∷ cs) = given_by c ++ given_in cs

-- whether these calls give the delivery of a number back
abbrev pub gives_back : ℕ → List TableCall → Bool
gives_back n cs = list_any (has_number n) (given_in cs)

-- an entry, if these calls do not give it back
abbrev pub unless_given : List TableCall → List Entry → List Entry
unless_given cs [] = []
unless_given cs (e ∷ es) = cond (gives_back e.number cs) (unless_given cs es) (e ∷ unless_given cs es)

-- What is unsettled after these calls: what was put in, in order, and was not given back since.
abbrev pub unsettled_after : List TableCall → List Entry
unsettled_after [] = []
unsettled_after (c ∷ cs) = unless_given cs (inserted_by c) ++ unsettled_after cs
