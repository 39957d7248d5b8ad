-- Part: other calls.
-- A round of a connection over a reader and a writer: what waits is written, and what came is taken.
use Rattle.std.specs.Prelude.{◌≡◌, ◌≤◌, ◌<◌, ◌^◌, ◌⊎◌, ◌==◌, ◌&&◌, ℕ, List, Bool, true, false, Option, Some, None, Result, Ok, Err, length}
use Rattle.std.specs.Io.KnownBytes.{Appends, Keeps}
use Rattle.std.specs.declared.io.Error.{Error}
use Rattle.amqp_session.specs.Relay.{Relays}
use Rattle.amqp_driver.specs.declared.record.Record.{Record}
use Rattle.amqp_driver.specs.declared.status.Status.{Status}
use Rattle.amqp_driver.specs.declared.status.Status.TheVariants as status
use Rattle.amqp_driver.specs.declared.status.Taken.{Taken}
use Rattle.amqp_driver.specs.Driver.{seen}
use Rattle.amqp_driver.specs.Stream.{StreamView, having_sent, waiting}
use Rattle.amqp_driver.specs.StreamTaking.{TakesStream}
use Rattle.amqp_driver.specs.Laws.{IsMadeOfCalls}
use Rattle.amqp_transport.specs.declared.received.Came.{Came}
use Rattle.amqp_transport.specs.declared.received.Came.TheVariants as came
use Rattle.amqp_transport.specs.declared.exchanging.Round.{Round}
use Rattle.amqp_transport.specs.Failing.{ReadFailed, WriteFailed, NoMemory}
use Rattle.amqp_transport.specs.Received.{ReceivedView, Reads}

-- What a round works on: a stream, the bytes that came, the places for records, and the bytes that the reader still gives and that the writer
-- holds, where they are known.
pub record Exchanging (R : Type 0) : Type 0 where
  pub stream : StreamView R
  pub received : ReceivedView
  pub records : List Record
  pub coming : Option (List ℕ)
  pub written : Option (List ℕ)

abbrev pub exchanging : {R : Type 0} → StreamView R → ReceivedView → List Record → Option (List ℕ) → Option (List ℕ) → Exchanging R
exchanging stream received records coming written =
    record { stream = stream; received = received; records = records; coming = coming; written = written }

-- ---- what waits goes out

-- so many of the first bytes that waited went out
abbrev pub SendsSome : {R : Type 0} → StreamView R → StreamView R → Type 0
SendsSome v w = (n : ℕ) × (n ≤ length (waiting v)) × (w ≡ having_sent n v)

-- all of them went out
abbrev pub having_sent_all : {R : Type 0} → StreamView R → StreamView R
having_sent_all v = having_sent (length (waiting v)) v

-- ---- what came is taken

-- `take` of a stream, of these bytes
abbrev pub TakesOf : {R : Type 0} → Relays R → ℕ → StreamView R → List ℕ → List Record → Taken → StreamView R → List Record → Type 0
TakesOf g now v bytes old t w new = TakesStream g v now (seen bytes) old t.status t.taken t.written t.wanted w new

abbrev pub is_done : Status → Bool
is_done status.Done = true
is_done s = false

-- nothing was taken, since what is there is no whole frame
abbrev pub wants_more : Taken → Bool
wants_more t = t.taken == 0 && is_done t.status

-- after a read that gave bytes the stream takes again; after one that gave none it does not
abbrev pub TakesAgain : {R : Type 0} → Relays R → ℕ → Came → Exchanging R → Taken → Taken → Exchanging R → Type 0
TakesAgain g now (came.Bytes n) m first t y = TakesOf g now m.stream y.received.bytes m.records t y.stream y.records
TakesAgain g now c m first t y = (t ≡ first) × (y.stream ≡ m.stream) × (y.records ≡ m.records)

-- Where something was taken, or something is to be done first, the round is over. Else it reads once.
abbrev pub GoesOn : {R : Type 0} → Bool → Relays R → ℕ → Exchanging R → Taken → Round → Exchanging R → Type 0
GoesOn false g now m first round y = (round ≡ record { came = None; taken = first }) × (y ≡ m)
GoesOn true g now m first round y = (c : Came) × (round.came ≡ Some c) × Reads m.received m.coming y.coming (Ok c) y.received
    × Keeps m.written y.written × TakesAgain g now c m first round.taken y

-- What waits was written, and then the stream took of what was there.
pub record Looks {R : Type 0} (g : Relays R) (now : ℕ) (x : Exchanging R) (first : Taken) (m : Exchanging R) : Type 0 where
  pub written : Appends x.written m.written (waiting x.stream)
  pub takes : TakesOf g now (having_sent_all x.stream) x.received.bytes x.records first m.stream m.records
  pub rest : m ≡ record x { stream = m.stream; records = m.records; written = m.written }

-- The writer failed, and nothing was taken.
pub record FailsToWrite {R : Type 0} (x : Exchanging R) (e : Error) (y : Exchanging R) : Type 0 where
  pub failed : WriteFailed e
  pub some : SendsSome x.stream y.stream
  pub rest : y ≡ record x { stream = y.stream; written = y.written }

-- Why no more came: the writer failed as it was flushed, or the reader did, or memory was refused. Nothing of what came is lost.
abbrev pub FailsToRead : {R : Type 0} → Exchanging R → Error → Exchanging R → Type 0
FailsToRead m e y = (WriteFailed e ⊎ (ReadFailed e ⊎ NoMemory e)) × Keeps m.written y.written × Keeps m.coming y.coming
    × (y ≡ record m { coming = y.coming; written = y.written })

abbrev pub Exchanges : {R : Type 0} → Relays R → ℕ → Exchanging R → Result Round Error → Exchanging R → Type 0
Exchanges g now x (Ok round) y = (m : Exchanging _) × (first : Taken) × Looks g now x first m × GoesOn (wants_more first) g now m first round y
Exchanges g now x (Err e) y =
    FailsToWrite x e y ⊎ ((m : Exchanging _) × (first : Taken) × Looks g now x first m × (wants_more first ≡ true) × FailsToRead m e y)

-- ---- the calls of which a round is made

-- A round, however it ends, is made of a stream's own calls: so what holds over every chain of these holds with rounds in it.
abbrev pub RoundsByCalls : {R : Type 0} → Relays R → Type 0
RoundsByCalls g = (now : ℕ) (x y : Exchanging _) (result : Result Round Error) → now < 2 ^ 64 → Exchanges g now x result y
    → IsMadeOfCalls g x.stream y.stream

-- and so is what `write_waiting` does, also where it fails
abbrev pub WritingByCalls : {R : Type 0} → Relays R → Type 0
WritingByCalls g = (v w : StreamView _) → SendsSome v w → IsMadeOfCalls g v w
