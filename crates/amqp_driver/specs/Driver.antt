-- Part: other calls; inner.
-- A driver: an engine, and the bytes that wait to be sent; one frame that it runs.
use Rattle.std.specs.Prelude.{◌≡◌, ◌⊎◌, ◌+◌, ◌≤◌, min, length, take, slice_range, if◌then◌else◌, ℕ, List, [], Bool, true, false, Option, Some, None, Result, Ok, Err}
use Rattle.std.specs.FinMap as map
use Rattle.amqp_memory.specs.Refusal.{SomeRefused}
use Rattle.amqp_session.specs.Relay.{Relays}
use Rattle.amqp_session.specs.declared.numbers.OutputHandle.{OutputHandle}
use Rattle.amqp_frames.specs.declared.frame.Frame.{Frame}
use Rattle.amqp_frames.specs.declared.frame.FrameBody.{FrameBody}
use Rattle.amqp_frames.specs.declared.frame.FrameBody.TheVariants as body
use Rattle.amqp_frames.specs.declared.decoder.FrameHead.{FrameHead}
use Rattle.amqp_frames.specs.Head.{Opens}
use Rattle.amqp_frames.specs.declared.error.Error.{Error}
use Rattle.amqp_frames.specs.declared.error.Error.TheVariants as unread
use Rattle.amqp_connection.specs.Connection.{ConnectionView, refusal_of}
use Rattle.amqp_engine.specs.declared.engine.refusal.Refusal.{Refusal}
use Rattle.amqp_engine.specs.declared.engine.step_error.StepError.{StepError}
use Rattle.amqp_engine.specs.declared.engine.step_error.StepError.TheVariants as no
use Rattle.amqp_engine.specs.EngineView.{EngineView}
use Rattle.amqp_engine.specs.Entry.{Entry}
use Rattle.amqp_engine.specs.RunInto.{RanInto}
use Rattle.amqp_engine.specs.RunFrame.{OfRead, RanFrame, ReadFrom}
use Rattle.amqp_driver.specs.declared.record.Record.{Record}
use Rattle.amqp_driver.specs.declared.copied.Copied.{Copied}
use Rattle.amqp_driver.specs.declared.told.Told.{Told}
use Rattle.amqp_driver.specs.declared.told.Told.TheVariants as told
use Rattle.amqp_driver.specs.Told.{placed, record_of, told_by}

pub record DriverView (R : Type 0) : Type 0 where
  pub engine : EngineView R
  -- the bytes that wait to be sent
  pub to_send : List ℕ
  -- how many frames did not fit the peer's limit and were not sent; no more are counted than four bytes can say
  pub unfit : ℕ

abbrev pub counted : ℕ → List Refusal → ℕ
counted unfit returned = min (unfit + length returned) 4294967295

-- The driver runs this one frame, and this is its entry in the history.
pub record Runs {R : Type 0} (g : Relays R) (d : DriverView R) (frame : List ℕ) (e : Entry R) (d' : DriverView R) : Type 0 where
  pub read : Result Frame Error
  pub decoded : ReadFrom frame read
  pub returned : List Refusal
  pub ran : RanFrame g d.engine frame read e.refusal d.to_send [] d'.engine d'.to_send returned
  pub entry_is : ran.one.entry ≡ e
  pub unfit_is : d'.unfit ≡ counted d.unfit returned
  -- where it is refused for memory, its link's relay said so, or the state of an echo is not said again
  pub of_relay : OfRead g read e.refusal

-- some of what waited in the engine is sent, and nothing else happens
abbrev pub SendsOnly : {R : Type 0} → Relays R → DriverView R → DriverView R → Type 0
SendsOnly g d d' = (returned : List Refusal) × RanInto g d.engine [] d.to_send [] d'.engine [] d'.to_send returned × (d'.unfit ≡ counted d.unfit returned)

-- memory was refused for what waited, and nothing else happens
abbrev pub NotTaken : {R : Type 0} → Relays R → DriverView R → DriverView R → Type 0
NotTaken g d d' = SomeRefused × SendsOnly g d d'

-- Memory was refused, and no frame was taken.
abbrev pub NotRun : {R : Type 0} → Relays R → DriverView R → DriverView R → Type 0
NotRun g d d' = SomeRefused × ((d' ≡ d) ⊎ SendsOnly g d d')

-- ---- parts

-- the frame is run, and its record is told
abbrev pub Tells : {R : Type 0} → Relays R → DriverView R → List ℕ → ℕ → ℕ → Told → DriverView R → Type 0
Tells g d frame at size told.NoMemory d' = NotRun g d d'
Tells g d frame at size told.Nothing d' = (e : Entry _) × Runs g d frame e d' × (record_of d.engine at size e ≡ None)
Tells g d frame at size (told.One r) d' = (e : Entry _) × Runs g d frame e d' × (record_of d.engine at size e ≡ Some r)

-- the same of whatever bytes this was read from
abbrev pub TellsRead : {R : Type 0} → Relays R → DriverView R → Result Frame Error → ℕ → ℕ → Told → DriverView R → Type 0
TellsRead g d read at size t d' = (bytes : List ℕ) → ReadFrom bytes read → Tells g d bytes at size t d'

-- the same of whatever bytes this head opens, whose fields these are
abbrev pub TellsFields : {R : Type 0} → Relays R → DriverView R → FrameHead → List ℕ → ℕ → ℕ → Told → DriverView R → Type 0
TellsFields g d head fields at size t d' = (bytes : List ℕ) → Opens bytes fields (Ok head) → Tells g d bytes at size t d'

-- what was read is run, or memory was refused, now or as it was read
abbrev pub RunsRead : {R : Type 0} → Relays R → DriverView R → Result Frame Error → Option (Result (Unit {0}) StepError) → DriverView R → Type 0
RunsRead g d read None d' = (SomeRefused ⊎ (read ≡ Err unread.OutOfMemory)) × SendsOnly g d d'
RunsRead g d read (Some answer) d' = (returned : List Refusal) × (d'.unfit ≡ counted d.unfit returned)
    × ((bytes : List ℕ) → ReadFrom bytes read → RanFrame g d.engine bytes read (refusal_of answer) d.to_send [] d'.engine d'.to_send returned)
    × OfRead g read (refusal_of answer)

-- the session that holds this channel of this side's, if one is named
abbrev pub held_by : ConnectionView → Option ℕ → Option ℕ
held_by v None = None
held_by v (Some c) = map.get v.session_by_outgoing_channel c

-- The session to which the connection passes a frame, where it passes it on (AMQP 1.0 part 2, section 2.5.1): a Begin to the one whose channel
-- it answers, any other frame of a session along its channel.
abbrev pub route_by : ConnectionView → ℕ → FrameBody → Option ℕ
route_by v channel (body.Begin p) = held_by v p.remote_channel
route_by v channel (body.Open p) = None
route_by v channel (body.Close p) = None
route_by v channel body.Empty = None
route_by v channel b = map.get v.session_by_incoming_channel channel

-- the connection passed the frame on that was refused so
abbrev pub is_passed_on : StepError → Bool
is_passed_on (no.Connection e) = false
is_passed_on e = true

-- what was to be reached, but where the connection passed the frame on to no session
abbrev pub reached_by : {X : Type 0} → Option StepError → Option X → Option X
reached_by None x = x
reached_by (Some e) x = if is_passed_on e then x else None

abbrev pub told_as : Option Record → Told
told_as None = told.Nothing
told_as (Some r) = told.One r

-- what is told of what was said, by the engine's answer, the route and the link
abbrev pub told_of : Option (Result (Unit {0}) StepError) → Option ℕ → Option OutputHandle → Bool → Bool → Record → Told
told_of None route link silent anew r = told.NoMemory
told_of (Some answer) route link silent anew r =
    told_as (told_by (refusal_of answer) silent anew (placed (reached_by (refusal_of answer) route) (reached_by (refusal_of answer) link) r))

-- ---- the copy of a part of the input

-- it has the bytes of the input between its two places
pub record Mirrors (c : Copied) (input : List ℕ) : Type 0 where
  pub order : c.start ≤ c.end
  pub within : c.end ≤ length input
  pub is : c.bytes ≡ slice_range input c.start c.end

-- the input, as far as its places fit four bytes
abbrev pub seen : List ℕ → List ℕ
seen input = take 4294967295 input
