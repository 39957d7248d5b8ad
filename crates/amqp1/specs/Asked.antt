-- Part: other calls.
-- Requests: the one input of the engine that bytes ask for, and what becomes of it.
use Rattle.std.specs.Prelude.{◌≡◌, ◌⊎◌, ℕ, List, true, false}
use Rattle.amqp_memory.specs.Refusal.{SomeRefused}
use Rattle.amqp_session.specs.Relay.{Relays}
use Rattle.amqp_engine.specs.declared.engine.input.Input.{Input}
use Rattle.amqp_driver.specs.declared.asked.Asked.{Asked}
use Rattle.amqp_driver.specs.declared.plain.PlainRelay.{PlainRelay}
use Rattle.amqp_driver.specs.StreamTicking.{AsksStream}
use Rattle.amqp1.specs.declared.operation.Operation.{Operation}
use Rattle.amqp1.specs.declared.status.Status.{Status}
use Rattle.amqp1.specs.declared.status.Status.TheVariants as status
use Rattle.amqp1.specs.Asking.{Asks}
use Rattle.amqp1.specs.ClientView.{ClientView}
use Rattle.amqp1.specs.Disposing.{AsksDispose}
use Rattle.amqp1.specs.Linking.{Allots, LinkModel}
use Rattle.amqp1.specs.Finding.{found, is_unlinked}
use Rattle.amqp1.specs.Refused.{last_by, unattached}
use Rattle.amqp1.specs.Status.{status_of}

-- The stream runs this one input, once, or is over; the status says what became of it, and a refusal is kept.
abbrev pub RunsOne : Relays PlainRelay → ClientView → Input PlainRelay → Status → ClientView → Type 0
RunsOne g c i s c' = (a : Asked) × AsksStream g c.stream i a c'.stream × (s ≡ status_of a)
    × (c'.last ≡ last_by c.last c'.stream.driver.engine.connection.state a)

-- memory was refused before anything was done
abbrev pub NoneGranted : ClientView → Status → ClientView → Type 0
NoneGranted c s c' = (s ≡ status.NoMemory) × (c' ≡ c) × SomeRefused

-- The input is run, with the peer's handle where it is a transfer; or the transfer's link is not attached, and it is refused by name: nothing
-- else changes.
abbrev pub RunsFound : Relays PlainRelay → ClientView → Input PlainRelay → Status → ClientView → Type 0
RunsFound g c i s c' =
    ((is_unlinked c.stream.driver.engine i ≡ false) × RunsOne g c (found c.stream.driver.engine i) s c')
    ⊎ ((is_unlinked c.stream.driver.engine i ≡ true) × (s ≡ status.Refused) × (c' ≡ record c { last = unattached }))

-- the bytes do not have the operation's form
abbrev pub AsksNothing : Operation → List ℕ → ClientView → Status → ClientView → Type 0
AsksNothing o input c s c' = (s ≡ status.BadArgument) × (c' ≡ c) × ((i : Input PlainRelay) → ¬ Asks o input i)

-- the bytes ask for this one input, and it is run, or is refused for its link
abbrev pub AnswersSome : Relays PlainRelay → Operation → List ℕ → ClientView → Status → ClientView → Type 0
AnswersSome g o input c s c' = (i : Input PlainRelay) × Asks o input i × RunsFound g c i s c'

-- The bytes do not have the operation's form; or memory was refused for what they ask for; or that is run, or refused for its link.
abbrev pub Answers : Relays PlainRelay → Operation → List ℕ → ClientView → Status → ClientView → Type 0
Answers g o input c s c' = AsksNothing o input c s c' ⊎ (NoneGranted c s c' ⊎ AnswersSome g o input c s c')

-- The bytes ask for no disposition by numbers, and nothing is done; or the one that they ask for is run.
abbrev pub PerformsDispose : Relays PlainRelay → ClientView → List ℕ → Status → ClientView → Type 0
PerformsDispose g c input s c' =
    ((s ≡ status.BadArgument) × (c' ≡ c) × ((i : Input PlainRelay) → ¬ AsksDispose input i))
    ⊎ ((i : Input PlainRelay) × AsksDispose input i × RunsOne g c i s c')

-- memory was refused; or a link is allotted a handle by one run
abbrev pub AllotsOn : Relays PlainRelay → LinkModel → ClientView → Status → ClientView → Type 0
AllotsOn g l c s c' = NoneGranted c s c' ⊎ ((i : Input PlainRelay) × Allots l i × RunsOne g c i s c')
