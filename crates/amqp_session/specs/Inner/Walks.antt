-- Part: inner.
-- The order in which a walk goes over a table.
use Rattle.std.specs.Prelude.{◌≡◌, ◌≤◌, ◌+◌, ◌-◌, ◌*◌, ◌^◌, ℕ, Bool, true, false, if◌then◌else◌, nat_lt, List, [], ◌∷◌, ◌++◌, take, drop}
use Rattle.std.specs.Prelude.{length, Option, Some, None, Result, Ok, Err}
use Rattle.amqp_memory.specs.Refusal.{SomeRefused}
use Rattle.amqp_types.specs.Disposition.{DispositionModel}
use Rattle.amqp_session.specs.declared.deliveries.Delivery.{Delivery}
use Rattle.amqp_session.specs.Relay.{DispositionQuestion}
use Rattle.amqp_session.specs.declared.deliveries.WalkCount.{WalkCount}
use Rattle.amqp_session.specs.Runs.{DeliveryRange, extended}
use Rattle.amqp_session.specs.declared.session.range.SerialRange.{SerialRange}
use Rattle.amqp_session.specs.declared.error.SessionInnerError.{SessionInnerError}
use Rattle.amqp_session.specs.declared.error.SessionInnerError.TheVariants as Refused
use Rattle.amqp_session.specs.Disposing.{is_meant, meant, span, agreed, Echoes, SaysStateAgain}

-- the range that a disposition names
abbrev pub range_of : DispositionModel → SerialRange
range_of d = record { first = d.first; span = span d.first d.last }

-- the place of the table that is this far after another; past the end it goes on at the front
abbrev pub around : ℕ → ℕ → ℕ → ℕ
around from count len = if nat_lt count (len - from) then from + count else count - (len - from)

-- the records from a place on, and then those before it
abbrev pub turned : ℕ → List Delivery → List Delivery
turned from rows = drop from rows ++ take from rows

-- all of these are meant, or none
abbrev pub EachMeant : DispositionModel → Bool → List Delivery → Type 0
EachMeant d b [] = Unit {0}
EachMeant d b (r ∷ rs) = (is_meant d.first d.last r.number ≡ b) × EachMeant d b rs

-- the first n are those that are meant
pub record IsSplit (d : DispositionModel) (rows : List Delivery) (n : ℕ) : Type 0 where
  pub near : EachMeant d true (take n rows)
  pub far : EachMeant d false (drop n rows)

-- the numbers that are noted for the echoes: none, where the disposition settles
abbrev pub noted : {R : Type 0} → Bool → List (DispositionQuestion R) → List ℕ
noted settled asked = if settled then [] else agreed asked

-- the runs, after a relay was asked about a number
abbrev pub noted_by : Bool → Bool → ℕ → List DeliveryRange → List DeliveryRange
noted_by settled answer n runs = if settled then runs else (if answer then extended n runs else runs)

-- how much of a table a walk for a disposition has read
pub record IsWalked (d : DispositionModel) (rows : List Delivery) (walk : WalkCount) : Type 0 where
  pub turns : walk.turns ≤ length (meant d rows) + 1
  pub each_read : length (meant d rows) ≤ walk.turns
  pub comparisons : 2 ^ walk.comparisons ≤ 2 * length rows + 1

-- What an unsettled disposition answers once the relays were asked: the echoes, or memory is refused for the state that an echo says again, and
-- then a delivery of its role is open.
abbrev pub AreAnswered : {R : Type 0} → DispositionModel → List Delivery → List (DispositionQuestion R) →
    Result (Option (List DispositionModel)) SessionInnerError → Type 0
AreAnswered d rows asked (Ok None) = ⊥
AreAnswered d rows asked (Ok (Some echoes)) = Echoes d (agreed asked) echoes
AreAnswered d rows asked (Err Refused.OutOfMemory) = SaysStateAgain d asked × ¬ (rows ≡ []) × SomeRefused
AreAnswered d rows asked (Err e) = ⊥
