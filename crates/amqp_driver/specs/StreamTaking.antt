-- Part: other calls.
-- `take` of a stream: one header or one SASL frame, while it is not open; then whole frames. And what a stream says where it gives up.
use Rattle.std.specs.Prelude.{◌≡◌, ◌⊎◌, ◌++◌, ℕ, zero, suc, List, [], Bool, true, false, codes, Some, None, Result, Ok, Err, length, drop}
use Rattle.amqp_memory.specs.Refusal.{SomeRefused}
use Rattle.amqp_types.specs.Error.{ErrorModel}
use Rattle.amqp_session.specs.Relay.{Relays}
use Rattle.amqp_engine.specs.declared.engine.input.Input.TheVariants as input
use Rattle.amqp_sasl.specs.declared.told.Taken.{Taken as SaslTaken}
use Rattle.amqp_sasl.specs.declared.told.Told.{Told}
use Rattle.amqp_sasl.specs.declared.told.Told.TheVariants as told
use Rattle.amqp_sasl.specs.declared.told.OpeningError.{OpeningError}
use Rattle.amqp_sasl.specs.declared.told.OpeningError.TheVariants as no
use Rattle.amqp_sasl.specs.Opening.{is_done, Takes as TakesOne}
use Rattle.amqp_idle.specs.Idle.{IdleView, received_at}
use Rattle.amqp_driver.specs.declared.asked.Asked.{Asked}
use Rattle.amqp_driver.specs.declared.record.Record.{Record}
use Rattle.amqp_driver.specs.declared.status.Status.{Status}
use Rattle.amqp_driver.specs.declared.status.Status.TheVariants as status
use Rattle.amqp_driver.specs.Driver.{DriverView}
use Rattle.amqp_driver.specs.Requests.{Requests}
use Rattle.amqp_driver.specs.Taking.{Takes, listed}
use Rattle.amqp_driver.specs.Stream.{StreamView, is_over}
use Rattle.amqp_driver.specs.StreamRecord.{record_of_told}

-- ---- a Close of the stream's own (AMQP 1.0 part 2, sections 2.4.3 and 2.8.15)

-- an error of this condition, and no more
abbrev pub error_of : List ℕ → ErrorModel
error_of condition = record { condition = condition; description = None; info = None }

-- A Close for this condition was requested, whatever became of it; or memory for it was refused, and nothing has changed.
abbrev pub ClosesFor : {R : Type 0} → Relays R → List ℕ → DriverView R → DriverView R → Type 0
ClosesFor g condition d d' =
    ((a : Asked) × Requests g d (input.Close (Some (error_of condition))) a d') ⊎ ((d' ≡ d) × SomeRefused)

-- ---- nothing is done

abbrev pub Idles : {R : Type 0} → Status → StreamView R → List Record → Status → ℕ → ℕ → ℕ → StreamView R → List Record → Type 0
Idles why v old s taken written wanted w new =
    (s ≡ why) × (taken ≡ 0) × (written ≡ 0) × (wanted ≡ 0) × (w ≡ v) × (new ≡ old)

-- ---- bytes came, or none did: those that are taken, or some that wait to be

abbrev pub heard : ℕ → ℕ → IdleView → IdleView
heard zero now clock = clock
heard (suc n) now clock = received_at now clock

-- ---- before it is open

-- why the call stops, by what is told
abbrev pub status_of_told : Told → Status
status_of_told (told.Wants n) = status.Done
status_of_told told.Waits = status.Waits
status_of_told told.Ended = status.Over
status_of_told t = status.Again

abbrev pub wanted_of : Told → ℕ
wanted_of (told.Wants n) = n
wanted_of t = 0

abbrev pub status_of_error : OpeningError → Status
status_of_error no.WrongTime = status.Waits
status_of_error no.TooLarge = status.TooLarge
status_of_error no.OutOfMemory = status.NoMemory

-- what the call answers, by what the opening did
abbrev pub AnswersOne : Result SaslTaken OpeningError → List Record → Status → ℕ → ℕ → ℕ → List Record → Type 0
AnswersOne (Ok t) old s taken written wanted new =
    (s ≡ status_of_told t.told) × (taken ≡ t.len) × (wanted ≡ wanted_of t.told)
    × (written ≡ length (listed (record_of_told t.len t.told))) × (new ≡ listed (record_of_told t.len t.told) ++ drop written old)
AnswersOne (Err e) old s taken written wanted new =
    (s ≡ status_of_error e) × (taken ≡ 0) × (wanted ≡ 0) × (written ≡ 0) × (new ≡ old)

-- One header or one SASL frame is taken off the front, and told by one record; what is answered to it waits to be sent.
pub record TakesThing {R : Type 0} (v : StreamView R) (now : ℕ) (input : List ℕ) (old : List Record) (s : Status) (taken written wanted : ℕ)
    (w : StreamView R) (new : List Record) : Type 0 where
  pub result : Result SaslTaken OpeningError
  pub took : TakesOne v.opening input v.first result w.first w.opening
  pub answers : AnswersOne result old s taken written wanted new
  pub rest : w ≡ record v { opening = w.opening; first = w.first; clock = heard taken now v.clock }

-- where there is no place for a record, nothing is taken
abbrev pub TakesFirst : {R : Type 0} → StreamView R → ℕ → List ℕ → List Record → Status → ℕ → ℕ → ℕ → StreamView R → List Record → Type 0
TakesFirst v now input [] s taken written wanted w new = Idles status.Full v [] s taken written wanted w new
TakesFirst v now input old s taken written wanted w new = TakesThing v now input old s taken written wanted w new

-- ---- frames

abbrev pub is_bad_size : Status → Bool
is_bad_size status.BadSize = true
is_bad_size s = false

-- at a size that no frame may have it closes, for `amqp:connection:framing-error`
abbrev pub ClosesIf : {R : Type 0} → Relays R → Status → DriverView R → DriverView R → Type 0
ClosesIf g status.BadSize d d' = ClosesFor g (codes "amqp:connection:framing-error") d d'
ClosesIf g s d d' = d' ≡ d

-- the driver takes whole frames
pub record TakesFrames {R : Type 0} (g : Relays R) (v : StreamView R) (now : ℕ) (input : List ℕ) (old : List Record) (s : Status)
    (taken written wanted : ℕ) (w : StreamView R) (new : List Record) : Type 0 where
  pub between : DriverView R
  pub takes : Takes g v.driver.engine.connection.local_open.max_frame_size v.driver input old s taken written wanted between new
  pub closes : ClosesIf g s between w.driver
  pub rest : w ≡ record v { clock = heard taken now v.clock; is_bad = is_bad_size s; driver = w.driver }

-- ---- the call

abbrev pub TakesWhere : {R : Type 0} → Bool → Relays R → StreamView R → ℕ → List ℕ → List Record → Status → ℕ → ℕ → ℕ → StreamView R → List Record → Type 0
TakesWhere true g v now input old s taken written wanted w new = TakesFrames g v now input old s taken written wanted w new
TakesWhere false g v now input old s taken written wanted w new = TakesFirst v now input old s taken written wanted w new

abbrev pub TakesUnless : {R : Type 0} → Bool → Relays R → StreamView R → ℕ → List ℕ → List Record → Status → ℕ → ℕ → ℕ → StreamView R → List Record → Type 0
TakesUnless true g v now input old s taken written wanted w new = Idles status.Over v old s taken written wanted w new
TakesUnless false g v now input old s taken written wanted w new = TakesWhere (is_done v.opening.phase) g v now input old s taken written wanted w new

-- A stream that is over takes nothing. Before it is open, it takes one thing of its opening; then frames.
abbrev pub TakesStream : {R : Type 0} → Relays R → StreamView R → ℕ → List ℕ → List Record → Status → ℕ → ℕ → ℕ → StreamView R → List Record → Type 0
TakesStream g v now input old s taken written wanted w new = TakesUnless (is_over v) g v now input old s taken written wanted w new
