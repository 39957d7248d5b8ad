-- Part: other calls.
-- The time of a stream, and its other calls: what a tick does, and what is refused once the stream is over (AMQP 1.0 part 2, section 2.4.5).
use Rattle.std.specs.Prelude.{◌≡◌, ℕ, List, [], Bool, true, false, codes, Option, Some, None, Result, Err, if◌then◌else◌}
use Rattle.amqp_types.specs.Error.{ErrorModel}
use Rattle.amqp_types.specs.Open.{OpenModel}
use Rattle.amqp_session.specs.Relay.{Relays}
use Rattle.amqp_session.specs.Settings.{SettingsModel}
use Rattle.amqp_connection.specs.Connection.{ConnectionView}
use Rattle.amqp_connection.specs.declared.numbers.SessionNo.{SessionNo}
use Rattle.amqp_engine.specs.declared.engine.input.Input.{Input}
use Rattle.amqp_sasl.specs.declared.body.SaslCode.{SaslCode}
use Rattle.amqp_sasl.specs.declared.told.OpeningError.{OpeningError}
use Rattle.amqp_sasl.specs.declared.told.OpeningError.TheVariants as no
use Rattle.amqp_sasl.specs.Opening.{OpeningView, Logs, Challenges, Responds}
use Rattle.amqp_idle.specs.declared.due.Due.{Due}
use Rattle.amqp_idle.specs.declared.due.Due.TheVariants as due
use Rattle.amqp_idle.specs.declared.due.Tick.{Tick}
use Rattle.amqp_idle.specs.Idle.{IdleView, OpenedStep, TickStep}
use Rattle.amqp_types.specs.declared.definitions.Role.{Role}
use Rattle.amqp_driver.specs.declared.answered.BeginAnswer.{BeginAnswer}
use Rattle.amqp_driver.specs.declared.answered.BeginAnswer.TheVariants as answer
use Rattle.amqp_driver.specs.declared.answered.EndAnswer.{EndAnswer}
use Rattle.amqp_driver.specs.declared.answered.EndAnswer.TheVariants as end
use Rattle.amqp_driver.specs.declared.asked.Asked.{Asked}
use Rattle.amqp_driver.specs.declared.asked.Asked.TheVariants as asked
use Rattle.amqp_driver.specs.Answering.{AnswersBegin}
use Rattle.amqp_driver.specs.Ending.{AnswersEnd}
use Rattle.amqp_driver.specs.declared.head.Sent.{Sent}
use Rattle.amqp_driver.specs.declared.head.TransferHead.{TransferHead}
use Rattle.amqp_driver.specs.declared.status.Status.{Status}
use Rattle.amqp_driver.specs.declared.status.Status.TheVariants as status
use Rattle.amqp_driver.specs.Requests.{Requests}
use Rattle.amqp_driver.specs.Sending.{Sends}
use Rattle.amqp_driver.specs.Settling.{Disposes}
use Rattle.amqp_driver.specs.Stream.{StreamView, is_over, is_opened, is_running, waiting}
use Rattle.amqp_driver.specs.StreamTaking.{ClosesFor}

-- ---- both Opens have passed

-- the idle-time-out of an Open, if there is one
abbrev pub time_out_of : Option OpenModel → Option ℕ
time_out_of None = None
time_out_of (Some o) = o.idle_time_out

-- The clock is told so, with what both ask for, where both have passed. Where it was told before, it does nothing.
abbrev pub TellsOpened : Bool → ConnectionView → ℕ → IdleView → IdleView → Type 0
TellsOpened false c now clock clock' = clock' ≡ clock
TellsOpened true c now clock clock' = (told : Bool) × OpenedStep clock now c.local_open.idle_time_out (time_out_of c.remote_open) told clock'

-- ---- what is due

-- an empty frame goes out where nothing else waits to
abbrev pub beat_for : List ℕ → ℕ → ℕ
beat_for [] n = 8
beat_for waits n = n

-- an empty frame, unless a side has closed
abbrev pub beaten : {R : Type 0} → StreamView R → StreamView R
beaten v = if is_running v then record v { beat = beat_for (waiting v) v.beat } else v

-- What is done about it: an empty frame, unless a side has closed; a Close, for `amqp:resource-limit-exceeded`; or nothing.
abbrev pub DoesDue : {R : Type 0} → Relays R → Due → StreamView R → StreamView R → Type 0
DoesDue g due.Beat v w = w ≡ beaten v
DoesDue g due.PeerSilent v w =
    ClosesFor g (codes "amqp:resource-limit-exceeded") v.driver w.driver × (w ≡ record v { driver = w.driver })
DoesDue g d v w = w ≡ v

-- A tick: the clock is told of both Opens, tells what is due, and that is done.
pub record DoesTick {R : Type 0} (g : Relays R) (v : StreamView R) (now : ℕ) (t : Tick) (w : StreamView R) : Type 0 where
  pub opened : IdleView
  pub ticked : IdleView
  pub tells : TellsOpened (is_opened v.driver.engine.connection) v.driver.engine.connection now v.clock opened
  pub ticks : TickStep opened now t ticked
  pub does : DoesDue g t.due (record v { clock = ticked }) w

-- nothing is due, and no tick is wanted
abbrev pub no_tick : Tick
no_tick = record { due = due.Nothing; next = None }

abbrev pub TicksUnless : {R : Type 0} → Bool → Relays R → StreamView R → ℕ → Tick → StreamView R → Type 0
TicksUnless true g v now t w = (t ≡ no_tick) × (w ≡ v)
TicksUnless false g v now t w = DoesTick g v now t w

abbrev pub TicksStream : {R : Type 0} → Relays R → StreamView R → ℕ → Tick → StreamView R → Type 0
TicksStream g v now t w = TicksUnless (is_over v) g v now t w

-- ---- the calls of SASL

-- The opening does the call, whose bytes wait to be sent; a stream that is over refuses it, and nothing changes.
abbrev pub OpensUnless : {R : Type 0} → Bool → (OpeningView → List ℕ → Result (Unit {0}) OpeningError → List ℕ → OpeningView → Type 0)
    → StreamView R → Result (Unit {0}) OpeningError → StreamView R → Type 0
OpensUnless true Does v result w = (result ≡ Err no.WrongTime) × (w ≡ v)
OpensUnless false Does v result w =
    Does v.opening v.first result w.first w.opening × (w ≡ record v { opening = w.opening; first = w.first })

abbrev pub LogsStream : {R : Type 0} → SaslCode → Option (List ℕ) → StreamView R → Result (Unit {0}) OpeningError → StreamView R → Type 0
LogsStream c additional v result w = OpensUnless (is_over v) (Logs c additional) v result w

abbrev pub ChallengesStream : {R : Type 0} → List ℕ → StreamView R → Result (Unit {0}) OpeningError → StreamView R → Type 0
ChallengesStream challenge v result w = OpensUnless (is_over v) (Challenges challenge) v result w

abbrev pub RespondsStream : {R : Type 0} → List ℕ → StreamView R → Result (Unit {0}) OpeningError → StreamView R → Type 0
RespondsStream response v result w = OpensUnless (is_over v) (Responds response) v result w

-- ---- requests

-- The driver is asked; a stream that is over asks for nothing.
abbrev pub AsksUnless : {R : Type 0} → Bool → Relays R → StreamView R → Input R → Asked → StreamView R → Type 0
AsksUnless true g v i a w = (a ≡ asked.Over) × (w ≡ v)
AsksUnless false g v i a w = Requests g v.driver i a w.driver × (w ≡ record v { driver = w.driver })

abbrev pub AsksStream : {R : Type 0} → Relays R → StreamView R → Input R → Asked → StreamView R → Type 0
AsksStream g v i a w = AsksUnless (is_over v) g v i a w

-- the driver sends transfers; a stream that is over takes none
abbrev pub PostsUnless : {R : Type 0} → Bool → Relays R → StreamView R → List TransferHead → List ℕ → List Sent → Status → ℕ → ℕ → StreamView R → List Sent
    → Type 0
PostsUnless true g v heads bytes old s taken used w new = (s ≡ status.Over) × (taken ≡ 0) × (used ≡ 0) × (w ≡ v) × (new ≡ old)
PostsUnless false g v heads bytes old s taken used w new =
    Sends g v.driver heads bytes old s taken used w.driver new × (w ≡ record v { driver = w.driver })

abbrev pub PostsStream : {R : Type 0} → Relays R → StreamView R → List TransferHead → List ℕ → List Sent → Status → ℕ → ℕ → StreamView R → List Sent → Type 0
PostsStream g v heads bytes old s taken used w new = PostsUnless (is_over v) g v heads bytes old s taken used w new

-- the driver is asked for a disposition; a stream that is over asks for none
abbrev pub DisposesUnless : {R : Type 0} → Bool → Relays R → StreamView R → ℕ → Role → ℕ → ℕ → Bool → Option (Option (List ℕ)) → Option Asked → StreamView R
    → Type 0
DisposesUnless true g v session role first last settled state answer w = (answer ≡ Some asked.Over) × (w ≡ v)
DisposesUnless false g v session role first last settled state answer w =
    Disposes g v.driver session role first last settled state answer w.driver × (w ≡ record v { driver = w.driver })

abbrev pub DisposesStream : {R : Type 0} → Relays R → StreamView R → ℕ → Role → ℕ → ℕ → Bool → Option (Option (List ℕ)) → Option Asked → StreamView R
    → Type 0
DisposesStream g v session role first last settled state answer w = DisposesUnless (is_over v) g v session role first last settled state answer w

-- the driver answers a Begin of the peer's; a stream that is over answers none
abbrev pub BeginsUnless : {R : Type 0} → Bool → Relays R → StreamView R → List ℕ → SessionNo → SettingsModel → BeginAnswer → StreamView R → Type 0
BeginsUnless true g v frame number settings a w = (a ≡ answer.NotOpened) × (w ≡ v)
BeginsUnless false g v frame number settings a w =
    AnswersBegin g v.driver frame number settings a w.driver × (w ≡ record v { driver = w.driver })

abbrev pub BeginsStream : {R : Type 0} → Relays R → StreamView R → List ℕ → SessionNo → SettingsModel → BeginAnswer → StreamView R → Type 0
BeginsStream g v frame number settings a w = BeginsUnless (is_over v) g v frame number settings a w

-- the driver answers an End of the peer's; a stream that is over answers none
abbrev pub EndsUnless : {R : Type 0} → Bool → Relays R → StreamView R → SessionNo → Option ErrorModel → EndAnswer → StreamView R → Type 0
EndsUnless true g v n error a w = (a ≡ end.Unsent asked.Over) × (w ≡ v)
EndsUnless false g v n error a w = AnswersEnd g v.driver n error a w.driver × (w ≡ record v { driver = w.driver })

abbrev pub EndsStream : {R : Type 0} → Relays R → StreamView R → SessionNo → Option ErrorModel → EndAnswer → StreamView R → Type 0
EndsStream g v n error a w = EndsUnless (is_over v) g v n error a w
