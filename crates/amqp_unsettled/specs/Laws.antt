-- Part: other calls.
-- What holds of every history of a table (AMQP 1.0 part 2, sections 2.6.12, 2.6.13 and 2.7.6).
use Rattle.std.specs.Prelude.{ℕ, ◌+◌, ◌≡◌, ◌==◌, ⊤, not, length, map, Bool, true, false}
use Rattle.std.specs.Prelude.{List, [], ◌∷◌, ◌++◌, Option, Some, None, Ok, Err}
use Rattle.std.specs.List.{filter, find, list_all}
use Rattle.amqp_unsettled.specs.declared.entry.Entry.{Entry}
use Rattle.amqp_unsettled.specs.declared.entry.InsertError.TheVariants.{NotNext, OutOfMemory}
use Rattle.amqp_unsettled.specs.Serial.{is_after, is_within}
use Rattle.amqp_unsettled.specs.Chain.{EachCall}
use Rattle.amqp_unsettled.specs.Table.{has_number, is_any, is_in, is_of, is_next, count_of}
use Rattle.amqp_unsettled.specs.History.{TableCall, inserted_in, given_by, given_in, gives_back, unsettled_after}
use Rattle.amqp_unsettled.specs.History.{Inserts, Removes, RemovesOldest, Settles, Leaves, Gets, Finds, AsksCount}
use Rattle.amqp_unsettled.specs.History.{AsksLen, AsksEmpty}

-- ---- given back once

-- Before this call the entry was put in just so, and it was not given back since.
pub record WasInserted (before : List TableCall) (e : Entry) : Type 0 where
  pub older : List TableCall
  pub done : Unit {0}
  pub since : List TableCall
  pub split : before ≡ older ++ Inserts e (Ok done) ∷ since
  pub not_given : gives_back e.number since ≡ false

-- What is given back was put in, just so, and is given back for the first time since then.
abbrev pub GivenOnce : List TableCall → Type 0
GivenOnce H = EachCall H (λ before c. (e : Entry) → given_by c ≡ e ∷ [] → WasInserted before e)

-- Each delivery that was put in was given back, or is still there: once in all. Of those that pass any test as many
-- were put in as were given back and are there.
abbrev pub OnceInAll : List TableCall → List Entry → Type 0
OnceInAll H t = (test : Entry → Bool) →
    length (filter test (inserted_in H)) ≡ length (filter test (given_in H)) + length (filter test t)

-- what a call gives back is what it was asked for
abbrev pub IsAskedFor : TableCall → Type 0
IsAskedFor (Removes n (Some e)) = e.number ≡ n
IsAskedFor (Settles first last (Some e)) = is_within first last e.number ≡ true
IsAskedFor (Leaves link (Some e)) = e.link ≡ link
IsAskedFor c = ⊤

abbrev pub GivenAsAsked : List TableCall → Type 0
GivenAsAsked H = EachCall H (λ before c. IsAskedFor c)

-- ---- answers

-- what a call answers where this is unsettled
abbrev pub AnswersBy : List Entry → TableCall → Type 0
AnswersBy t (Inserts e (Ok done)) = is_next e.number t ≡ true
AnswersBy t (Inserts e (Err NotNext)) = is_next e.number t ≡ false
AnswersBy t (Inserts e (Err OutOfMemory)) = is_next e.number t ≡ true
AnswersBy t (Removes n given) = given ≡ find (has_number n) t
AnswersBy t (RemovesOldest given) = given ≡ find is_any t
AnswersBy t (Settles first last given) = given ≡ find (is_in first last) t
AnswersBy t (Leaves link given) = given ≡ find (is_of link) t
AnswersBy t (Gets n answer) = answer ≡ find (has_number n) t
AnswersBy t (Finds first last answer) = answer ≡ find (is_in first last) t
AnswersBy t (AsksCount link n) = n ≡ count_of link t
AnswersBy t (AsksLen n) = n ≡ length t
AnswersBy t (AsksEmpty answer) = answer ≡ (length t == 0)

-- Each answer is by what was put in, and not given back since.
abbrev pub AnswersByHistory : List TableCall → Type 0
AnswersByHistory H = EachCall H (λ before c. AnswersBy (unsettled_after before) c)

-- ---- a whole range, and a whole link

-- a call that is made until it answers None, and what it answered
abbrev pub until_none : (Option Entry → TableCall) → List Entry → List TableCall
until_none call given = map (λ e. call (Some e)) given ++ call None ∷ []

-- Made until it answers None, a call gives each entry back that is meant, in order, and leaves the others.
abbrev pub GivesAll : (Option Entry → TableCall) → (Entry → Bool) → List TableCall → Type 0
GivesAll call is_meant H = (before after : List TableCall) (given : List Entry) →
    H ≡ before ++ (until_none call given ++ after) →
    (given ≡ filter is_meant (unsettled_after before))
    × (unsettled_after (before ++ until_none call given) ≡ filter (λ e. not (is_meant e)) (unsettled_after before))

-- A range that is settled gives back each unsettled delivery of it.
abbrev pub SettlesAll : List TableCall → Type 0
SettlesAll H = (first last : ℕ) → GivesAll (Settles first last) (is_in first last) H

-- Where a link goes, each delivery of it is told that is unsettled then.
abbrev pub TellsAll : List TableCall → Type 0
TellsAll H = (link : ℕ) → GivesAll (Leaves link) (is_of link) H

-- Where the session goes, each one is.
abbrev pub TellsAllOfSession : List TableCall → Type 0
TellsAllOfSession H = GivesAll RemovesOldest is_any H

-- ---- order

-- each number lies after those of the older entries
abbrev pub InOrder : List Entry → Type 0
InOrder [] = ⊤
InOrder (e ∷ es) = (list_all (λ f. is_after e.number f.number) es ≡ true) × InOrder es
