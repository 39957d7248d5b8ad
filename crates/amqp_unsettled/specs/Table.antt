-- Part: other calls.
-- What is unsettled in one direction of a session, and what each call makes of it (AMQP 1.0 part 2, sections 2.6.12 and
-- 2.7.6). A table is the list of its entries, the oldest first.
use Rattle.std.specs.Prelude.{ℕ, ◌≡◌, cond, nat_eq, length, Bool, true, false}
use Rattle.std.specs.Prelude.{List, [], ◌∷◌, ◌++◌, Option, Result, Ok, Err}
use Rattle.std.specs.List.{filter, find, list_all}
use Rattle.amqp_memory.specs.Refusal.{SomeRefused}
use Rattle.amqp_unsettled.specs.declared.entry.Entry.{Entry}
use Rattle.amqp_unsettled.specs.declared.entry.InsertError.{InsertError}
use Rattle.amqp_unsettled.specs.declared.entry.InsertError.TheVariants.{NotNext, OutOfMemory}
use Rattle.amqp_unsettled.specs.Serial.{is_after, is_within}

-- ---- which entries are meant

-- that of a number
abbrev pub has_number : ℕ → Entry → Bool
has_number n e = nat_eq e.number n

-- those of a range of numbers
abbrev pub is_in : ℕ → ℕ → Entry → Bool
is_in first last e = is_within first last e.number

-- those of a link
abbrev pub is_of : ℕ → Entry → Bool
is_of link e = nat_eq e.link link

-- all
abbrev pub is_any : Entry → Bool
is_any e = true

-- ---- an entry comes

-- a number may come next: it lies after each one that is there
abbrev pub is_next : ℕ → List Entry → Bool
is_next n t = list_all (λ e. is_after e.number n) t

-- The entry comes after all others, where its number may come next. Else nothing changes, and nothing does where
-- memory is refused.
abbrev pub InsertStep : List Entry → Entry → Result (Unit {0}) InsertError → List Entry → Type 0
InsertStep t e (Ok done) u = (is_next e.number t ≡ true) × (u ≡ t ++ e ∷ [])
InsertStep t e (Err NotNext) u = (is_next e.number t ≡ false) × (u ≡ t)
InsertStep t e (Err OutOfMemory) u = (is_next e.number t ≡ true) × (u ≡ t) × SomeRefused

-- ---- an entry goes

-- the list without the first item that passes the test
abbrev pub without_first : {X : Type 0} → (X → Bool) → List X → List X
without_first test [] = []
without_first test (x ∷ xs) = cond (test x) xs (x ∷ without_first test xs)

-- The oldest entry that is meant is taken out and given back; nothing, where none is meant.
abbrev pub TakeStep : (Entry → Bool) → List Entry → Option Entry → List Entry → Type 0
TakeStep is_meant t given u = (given ≡ find is_meant t) × (u ≡ without_first is_meant t)

-- how many entries a link has
abbrev pub count_of : ℕ → List Entry → ℕ
count_of link t = length (filter (is_of link) t)
