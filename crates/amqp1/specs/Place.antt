-- Part: other calls.
-- What the exports do to a place, by what lies there before and afterwards. Assumes nothing: these are definitions.
use Rattle.std.specs.Prelude.{◌≡◌, ◌⊎◌, ℕ, ℤ, pos, List, Option, Some, Ok, Err}
use Rattle.amqp_memory.specs.Refusal.{SomeRefused}
use Rattle.amqp_session.specs.Relay.{Relays}
use Rattle.amqp_idle.specs.declared.due.Tick.{Tick}
use Rattle.amqp_driver.specs.declared.cut.Cut.{Cut}
use Rattle.amqp_driver.specs.declared.head.Sent.{Sent}
use Rattle.amqp_driver.specs.declared.head.TransferHead.{TransferHead}
use Rattle.amqp_driver.specs.declared.plain.PlainRelay.{PlainRelay}
use Rattle.amqp_driver.specs.declared.record.Record.{Record}
use Rattle.amqp_driver.specs.declared.status.Status.{Status as DriverStatus}
use Rattle.amqp_driver.specs.Cutting.{cut_of}
use Rattle.amqp_driver.specs.Driver.{seen}
use Rattle.amqp_driver.specs.StreamTaking.{TakesStream, heard}
use Rattle.amqp_driver.specs.StreamTicking.{PostsStream, TicksStream}
use Rattle.amqp1.specs.declared.exports.Took.{Took}
use Rattle.amqp1.specs.declared.exports.Ticked.{Ticked}
use Rattle.amqp1.specs.declared.exports.Went.{Went}
use Rattle.amqp1.specs.declared.how.How.{How}
use Rattle.amqp1.specs.declared.logins.LoginHead.{LoginHead}
use Rattle.amqp1.specs.declared.operation.Operation.{Operation}
use Rattle.amqp1.specs.declared.status.Status.{Status}
use Rattle.amqp1.specs.declared.status.Status.TheVariants as status
use Rattle.amqp1.specs.Answering.{AnswersOne}
use Rattle.amqp1.specs.Client.{Calls}
use Rattle.amqp1.specs.ClientView.{ClientView}
use Rattle.amqp1.specs.Making.{Makes}
use Rattle.amqp1.specs.Occupant.{OnClient, newly}
use Rattle.amqp1.specs.OccupantView.{OccupantView}
use Rattle.amqp1.specs.Operation.{IsOperation}
use Rattle.amqp1.specs.Status.{status_number, taken_status}
use Rattle.amqp1.specs.Ticking.{ticked_of}

-- this status, as a number of C
abbrev pub Is : ℤ → Status → Type 0
Is z s = z ≡ pos (status_number s)

-- A new client lies there, which is the one that is asked for, and has no links. Or none does, and none is made: memory was refused, also for its box, or
-- what is said asks for none.
abbrev pub MadeThere : Relays PlainRelay → How → List ℕ → List LoginHead → List ℕ → ℤ → ℕ → Option OccupantView → Type 0
MadeThere g how open_bytes heads bytes z full held =
    ((z ≡ pos 0) × (full ≡ 1) × (c : ClientView) × (held ≡ Some (newly c)) × Makes g how open_bytes heads bytes (Ok c))
    ⊎ ((full ≡ 0) × Makes g how open_bytes heads bytes (Err z))

-- What lay there takes this step, and lies there again.
pub record LiesAgain (before after : Option OccupantView) (Step : OccupantView → OccupantView → Type 0) : Type 0 where
  pub was : OccupantView
  pub is : OccupantView
  pub lay_there : before ≡ Some was
  pub lies_there : after ≡ Some is
  pub steps : Step was is

-- the same, and C is answered this status
abbrev pub DoesThere : Option OccupantView → ℤ → Option OccupantView → (OccupantView → Status → OccupantView → Type 0) → Type 0
DoesThere before z after Step = LiesAgain before after (λ o o'. (s : Status) × Is z s × Step o s o')

-- ---- a client alone

-- one call of the client
abbrev pub CallsOne : Relays PlainRelay → ℕ → List ℕ → List ℕ → ℤ → ℕ → List ℕ → ClientView → ClientView → Type 0
CallsOne g operation input old z n new c c' = (o : Option Operation) × IsOperation operation o × Calls g o c input old z n c' new

abbrev pub CallsThere : Relays PlainRelay → ℕ → Option OccupantView → List ℕ → List ℕ → ℤ → ℕ → Option OccupantView → List ℕ → Type 0
CallsThere g operation before input old z n after new = LiesAgain before after (OnClient (CallsOne g operation input old z n new))

-- Its stream takes what came: a header, a SASL frame, or whole frames. Of an input of more than 4294967295 bytes the others are not looked at.
abbrev pub TakesOne : Relays PlainRelay → ℕ → List ℕ → List Record → ℤ → Took → List Record → ClientView → ClientView → Type 0
TakesOne g now input old z answer new c c' = (why : DriverStatus) × Is z (taken_status why)
    × TakesStream g c.stream now (seen input) old why answer.taken answer.written answer.wanted c'.stream new × (c'.last ≡ c.last)

abbrev pub TakesThere : Relays PlainRelay → Option OccupantView → ℕ → List ℕ → List Record → ℤ → Took → Option OccupantView → List Record → Type 0
TakesThere g before now input old z answer after new = LiesAgain before after (OnClient (TakesOne g now input old z answer new))

-- Its stream gives what a record asks for, of the answers that the flags name.
abbrev pub AnswersThere : Relays PlainRelay → Option OccupantView → ℕ → ℕ → Record → List ℕ → ℤ → Option OccupantView → Type 0
AnswersThere g before flags n r input z after =
    LiesAgain before after (OnClient (λ c c'. (said : Status) × Is z said × AnswersOne g c flags n r input said c'))

-- A head is cut by the limit of the peer, and the client stays as it is. Or memory was refused.
abbrev pub CutsOne : TransferHead → List ℕ → Cut → ℤ → Cut → ClientView → ClientView → Type 0
CutsOne head bytes old z new c c' =
    (c' ≡ c) × ((Is z status.Done × (new ≡ cut_of c.stream.driver.engine.limit head bytes)) ⊎ (Is z status.NoMemory × (new ≡ old) × SomeRefused))

abbrev pub CutsThere : Option OccupantView → TransferHead → List ℕ → Cut → ℤ → Cut → Option OccupantView → Type 0
CutsThere before head bytes old z new after = LiesAgain before after (OnClient (CutsOne head bytes old z new))

-- its stream sends transfers
abbrev pub SendsOne : Relays PlainRelay → List TransferHead → List ℕ → List Sent → ℤ → Went → List Sent → ClientView → ClientView → Type 0
SendsOne g heads bytes old z answer new c c' = (why : DriverStatus) × Is z (taken_status why)
    × PostsStream g c.stream heads bytes old why answer.taken answer.used c'.stream new × (c'.last ≡ c.last)

abbrev pub SendsThere : Relays PlainRelay → Option OccupantView → List TransferHead → List ℕ → List Sent → ℤ → Went → Option OccupantView → List Sent → Type 0
SendsThere g before heads bytes old z answer after new = LiesAgain before after (OnClient (SendsOne g heads bytes old z answer new))

-- its stream is told that bytes came
abbrev pub HearsOne : ℕ → ℤ → ClientView → ClientView → Type 0
HearsOne now z c c' = Is z status.Done × (c'.stream ≡ record c.stream { clock = heard 1 now c.stream.clock }) × (c'.last ≡ c.last)

abbrev pub HearsThere : Option OccupantView → ℕ → ℤ → Option OccupantView → Type 0
HearsThere before now z after = LiesAgain before after (OnClient (HearsOne now z))

-- its stream is told the time
abbrev pub TicksOne : Relays PlainRelay → ℕ → ℤ → Ticked → ClientView → ClientView → Type 0
TicksOne g now z answer c c' =
    Is z status.Done × ((tick : Tick) × TicksStream g c.stream now tick c'.stream × (answer ≡ ticked_of tick)) × (c'.last ≡ c.last)

abbrev pub TicksThere : Relays PlainRelay → Option OccupantView → ℕ → ℤ → Ticked → Option OccupantView → Type 0
TicksThere g before now z answer after = LiesAgain before after (OnClient (TicksOne g now z answer))
