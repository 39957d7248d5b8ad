-- Part: other calls.
-- Chains of calls of a stream, and what holds over each of them: who is let in, what goes out, when, and the end.
use Rattle.std.specs.Prelude.{◌≡◌, ◌++◌, ◌∷◌, [], ◌≤◌, ◌<◌, ◌^◌, ℕ, List, Bool, true, false, Option, Some, Result, Ok, Err, length, take, map}
use Rattle.amqp_values.specs.Reading.{joined}
use Rattle.amqp_types.specs.Error.{ErrorModel}
use Rattle.amqp_types.specs.Open.{OpenModel}
use Rattle.amqp_types.specs.declared.states.ConnectionState.{ConnectionState}
use Rattle.amqp_types.specs.declared.definitions.Role.{Role}
use Rattle.amqp_session.specs.Relay.{Relays}
use Rattle.amqp_session.specs.declared.keys.KeyHash.{KeyHash}
use Rattle.amqp_session.specs.Settings.{SettingsModel}
use Rattle.amqp_connection.specs.declared.numbers.SessionNo.{SessionNo}
use Rattle.amqp_engine.specs.declared.engine.input.Input.{Input}
use Rattle.amqp_engine.specs.Entry.{Entry as EngineEntry}
use Rattle.amqp_engine.specs.Legal.{Legal}
use Rattle.amqp_engine.specs.Headline.{Headline}
use Rattle.amqp_sasl.specs.declared.body.SaslCode.{SaslCode}
use Rattle.amqp_sasl.specs.declared.opening.Login.{Login}
use Rattle.amqp_sasl.specs.declared.opening.Side.{Side}
use Rattle.amqp_sasl.specs.declared.told.OpeningError.{OpeningError}
use Rattle.amqp_sasl.specs.declared.told.OpeningError.TheVariants as no
use Rattle.amqp_sasl.specs.Opening.{OpeningView, fresh, is_done}
use Rattle.amqp_sasl.specs.History.{Entry, begun, took, logged, challenged, responded, Among, Each, LoggedIn, TookAmqp, sent}
use Rattle.amqp_idle.specs.declared.due.Due.TheVariants as due
use Rattle.amqp_idle.specs.declared.due.Tick.{Tick}
use Rattle.amqp_idle.specs.History.{IdleCall, LeadsTo, Opens, Sends, Receives, Ticks}
use Rattle.amqp_driver.specs.declared.answered.BeginAnswer.{BeginAnswer}
use Rattle.amqp_driver.specs.declared.answered.BeginAnswer.TheVariants as answer
use Rattle.amqp_driver.specs.declared.answered.EndAnswer.{EndAnswer}
use Rattle.amqp_driver.specs.declared.answered.EndAnswer.TheVariants as end
use Rattle.amqp_driver.specs.declared.asked.Asked.{Asked}
use Rattle.amqp_driver.specs.declared.asked.Asked.TheVariants as asked
use Rattle.amqp_driver.specs.declared.head.Sent.{Sent}
use Rattle.amqp_driver.specs.declared.head.TransferHead.{TransferHead}
use Rattle.amqp_driver.specs.declared.record.Record.{Record}
use Rattle.amqp_driver.specs.declared.status.Status.{Status}
use Rattle.amqp_driver.specs.declared.status.Status.TheVariants as status
use Rattle.amqp_driver.specs.Driver.{SendsOnly}
use Rattle.amqp_driver.specs.Stream.{StreamView, Begun, empty_frame, having_sent, is_over, waiting}
use Rattle.amqp_driver.specs.StreamTaking.{TakesStream, heard}
use Rattle.amqp_driver.specs.StreamTicking.{AsksStream, BeginsStream, ChallengesStream, DisposesStream, EndsStream, LogsStream, PostsStream, RespondsStream, TicksStream, no_tick}

-- ---- chains of calls

-- a call with its arguments, and what it answered
pub data Call (R : Type 0) : Type 0 where
  takes : ℕ → List ℕ → List Record → Status → ℕ → ℕ → ℕ → List Record → Call R
  hears : ℕ → Call R
  ticks : ℕ → Tick → Call R
  goes : ℕ → Call R
  logs : SaslCode → Option (List ℕ) → Result (Unit {0}) OpeningError → Call R
  challenges : List ℕ → Result (Unit {0}) OpeningError → Call R
  responds : List ℕ → Result (Unit {0}) OpeningError → Call R
  asks : Input R → Asked → Call R
  posts : List TransferHead → List ℕ → List Sent → Status → ℕ → ℕ → List Sent → Call R
  disposes : ℕ → Role → ℕ → ℕ → Bool → Option (Option (List ℕ)) → Option Asked → Call R
  begins : List ℕ → SessionNo → SettingsModel → BeginAnswer → Call R
  ends : SessionNo → Option ErrorModel → EndAnswer → Call R
  flushes : Call R

-- the call as its contract says it
abbrev pub Calls : {R : Type 0} → Relays R → StreamView R → Call R → StreamView R → Type 0
Calls g v (takes now input old s taken written wanted new) w = (now < 2 ^ 64) × TakesStream g v now input old s taken written wanted w new
Calls g v (hears now) w = (now < 2 ^ 64) × (w ≡ record v { clock = heard 1 now v.clock })
Calls g v (ticks now t) w = (now < 2 ^ 64) × TicksStream g v now t w
Calls g v (goes count) w = (count ≤ length (waiting v)) × (w ≡ having_sent count v)
Calls g v (logs c additional result) w = LogsStream c additional v result w
Calls g v (challenges challenge result) w = ChallengesStream challenge v result w
Calls g v (responds response result) w = RespondsStream response v result w
Calls g v (asks i a) w = AsksStream g v i a w
Calls g v (posts heads bytes old s taken used new) w = PostsStream g v heads bytes old s taken used w new
Calls g v (disposes session role first last settled state answer) w = DisposesStream g v session role first last settled state answer w
Calls g v (begins frame number settings a) w = BeginsStream g v frame number settings a w
Calls g v (ends n error a) w = EndsStream g v n error a w
Calls g v flushes w = SendsOnly g v.driver w.driver × (w ≡ record v { driver = w.driver })

-- calls, one after the other
abbrev pub CallsEach : {R : Type 0} → Relays R → StreamView R → List (Call R) → StreamView R → Type 0
CallsEach g v [] w = w ≡ v
CallsEach g v (c ∷ cs) w = (m : StreamView _) × Calls g v c m × CallsEach g m cs w

-- ---- who is let in

-- What a call does with the opening: nothing, or one call of its own.
abbrev pub IsOpeningOf : {R : Type 0} → Call R → List Entry → Type 0
IsOpeningOf c [] = Unit {0}
IsOpeningOf (takes now input old s taken written wanted new) (took came result out ∷ []) = came ≡ input
IsOpeningOf (logs c additional result) (logged code extra answer out ∷ []) = (code ≡ c) × (extra ≡ additional) × (answer ≡ result)
IsOpeningOf (challenges challenge result) (challenged bytes answer out ∷ []) = (bytes ≡ challenge) × (answer ≡ result)
IsOpeningOf (responds response result) (responded bytes answer out ∷ []) = (bytes ≡ response) × (answer ≡ result)
IsOpeningOf c es = ⊥

-- the calls of the opening are those that these calls do, in their order
abbrev pub AreOpeningsOf : {R : Type 0} → List (Call R) → List Entry → Type 0
AreOpeningsOf [] es = es ≡ []
AreOpeningsOf (c ∷ cs) es = (own : List Entry) × (rest : List Entry) × (es ≡ own ++ rest) × IsOpeningOf c own × AreOpeningsOf cs rest

-- the peer's header of AMQP was taken, and, where SASL is asked for, there was a login (`opens_by_login`)
abbrev pub WasOpened : {R : Type 0} → Side → List (Call R) → Type 0
WasOpened side cs = (out : List ℕ) × (es : List Entry) × AreOpeningsOf cs es
    × Among TookAmqp (begun (Ok tt) out ∷ es) × LoggedIn side (begun (Ok tt) out ∷ es)

-- a frame was run, or refused: the driver is not as it was, or bytes were taken that are not the opening's
abbrev pub RunsFrames : {R : Type 0} → StreamView R → Call R → StreamView R → Type 0
RunsFrames v (takes now input old s taken written wanted new) w = ¬ (w.driver ≡ v.driver)
RunsFrames v c w = ⊥

-- Over any chain of calls from a new stream: received frames are run only where the stream was opened before.
abbrev pub FramesComeAfter : {R : Type 0} → Relays R → Type 0
FramesComeAfter g = (side : Side) (logins : List Login) (hostname : Option (List ℕ)) (names : List (List ℕ)) (start : ℕ) (limit : Option ℕ)
    (hash : KeyHash) (o : OpenModel) (v m w : StreamView _) (cs : List (Call _)) (c : Call _)
    → Begun (fresh side logins hostname names) start limit hash o (Ok v) → CallsEach g v cs m → Calls g m c w → RunsFrames m c w → WasOpened side cs

-- ---- the time

-- What a call tells the clock: nothing, where nothing came, nothing was sent or the stream is over; or this.
abbrev pub IsTimeOf : {R : Type 0} → Call R → List IdleCall → Type 0
IsTimeOf (takes now input old s taken written wanted new) [] = taken ≡ 0
IsTimeOf (takes now input old s taken written wanted new) (Receives t ∷ []) = (t ≡ now) × (0 < taken)
IsTimeOf (hears now) [] = ⊥
IsTimeOf (hears now) (Receives t ∷ []) = t ≡ now
IsTimeOf (ticks now answer) [] = answer ≡ no_tick
IsTimeOf (ticks now answer) (Ticks t told ∷ []) = (t ≡ now) × (told ≡ answer)
IsTimeOf (ticks now answer) (Opens u ours peers was ∷ Ticks t told ∷ []) = (u ≡ now) × (t ≡ now) × (told ≡ answer)
IsTimeOf (goes count) [] = count ≡ 0
IsTimeOf (goes count) (Sends t ∷ []) = (t ≡ 0) × (0 < count)
IsTimeOf c [] = Unit {0}
IsTimeOf c times = ⊥

abbrev pub AreTimesOf : {R : Type 0} → List (Call R) → List IdleCall → Type 0
AreTimesOf [] H = H ≡ []
AreTimesOf (c ∷ cs) H = (own : List IdleCall) × (rest : List IdleCall) × (H ≡ own ++ rest) × IsTimeOf c own × AreTimesOf cs rest

-- Over any chain of calls from a new stream: its clock is told what came and what was sent, so that what holds of every clock holds of it.
abbrev pub TimeIsTold : {R : Type 0} → Relays R → Type 0
TimeIsTold g = (opening : OpeningView) (start : ℕ) (limit : Option ℕ) (hash : KeyHash) (o : OpenModel) (v w : StreamView _) (cs : List (Call _))
    → start < 2 ^ 64 → Begun opening start limit hash o (Ok v) → CallsEach g v cs w
    → (H : List IdleCall) × AreTimesOf cs H × LeadsTo start limit H w.clock

-- ---- the end

-- nothing is taken, nothing is asked for, and nothing is due; what waits may go out
abbrev pub IsQuiet : {R : Type 0} → Call R → Type 0
IsQuiet (takes now input old s taken written wanted new) = (s ≡ status.Over) × (taken ≡ 0) × (written ≡ 0) × (new ≡ old)
IsQuiet (hears now) = Unit {0}
IsQuiet (ticks now t) = t ≡ no_tick
IsQuiet (goes count) = Unit {0}
IsQuiet (logs c additional result) = result ≡ Err no.WrongTime
IsQuiet (challenges challenge result) = result ≡ Err no.WrongTime
IsQuiet (responds response result) = result ≡ Err no.WrongTime
IsQuiet (asks i a) = a ≡ asked.Over
IsQuiet (posts heads bytes old s taken used new) = (s ≡ status.Over) × (taken ≡ 0) × (new ≡ old)
IsQuiet (disposes session role first last settled state answer) = answer ≡ Some asked.Over
IsQuiet (begins frame number settings a) = a ≡ answer.NotOpened
IsQuiet (ends n error a) = a ≡ end.Unsent asked.Over
IsQuiet flushes = Unit {0}

-- A stream that is over stays so, and each of its calls is quiet.
abbrev pub StaysOver : {R : Type 0} → Relays R → Type 0
StaysOver g = (v w : StreamView _) (cs : List (Call _)) → is_over v ≡ true → CallsEach g v cs w → (is_over w ≡ true) × Each IsQuiet cs

-- ---- what goes out

-- the bytes that a call takes off what waits
abbrev pub gone_by : {R : Type 0} → StreamView R → Call R → List ℕ
gone_by v (goes count) = take count (waiting v)
gone_by v c = []

-- all that went out, by these calls
abbrev pub gone : {R : Type 0} (g : Relays R) (v : StreamView R) (cs : List (Call R)) (w : StreamView R) → CallsEach g v cs w → List ℕ
gone g v [] w e = []
gone g v (c ∷ cs) w (m, is, rest) = gone_by v c ++ gone g m cs w rest

-- what a call adds to the frames that are to be sent: an empty frame, or what the driver hands out, which may be nothing
pub data Part : Type 0 where
  an_empty_frame : Part
  handed_out : List ℕ → Part

abbrev pub part_bytes : Part → List ℕ
part_bytes an_empty_frame = empty_frame
part_bytes (handed_out bytes) = bytes

-- An empty frame is added by a tick that tells a beat, where nothing waited. All else is what the driver appends to what it has to send.
abbrev pub Adds : {R : Type 0} → StreamView R → Call R → StreamView R → Part → Type 0
Adds v (goes count) w p = p ≡ handed_out []
Adds v (ticks now t) w an_empty_frame = (t.due ≡ due.Beat) × (waiting v ≡ [])
Adds v c w an_empty_frame = ⊥
Adds v c w (handed_out bytes) = w.driver.to_send ≡ v.driver.to_send ++ bytes

abbrev pub AddEach : {R : Type 0} (g : Relays R) (v : StreamView R) (cs : List (Call R)) (w : StreamView R) → CallsEach g v cs w → List Part → Type 0
AddEach g v [] w e parts = parts ≡ []
AddEach g v (c ∷ cs) w (m, is, rest) parts = (p : Part) × (ps : List Part) × (parts ≡ p ∷ ps) × Adds v c m p × AddEach g m cs w rest ps

-- All that was to be sent up to now, where the stream is open or not: headers and SASL frames, and behind them frames.
abbrev pub all_out : Bool → List Entry → List Part → List ℕ
all_out false es parts = joined (map sent es)
all_out true es parts = joined (map sent es) ++ joined (map part_bytes parts)

-- Over any chain of calls from a new stream: what went out and what waits are the first header and what the opening sends after it (`says_in_order`),
-- and behind that, once it is open, what each call added, in their order.
abbrev pub SendsInOrder : {R : Type 0} → Relays R → Type 0
SendsInOrder g = (opening : OpeningView) (start : ℕ) (limit : Option ℕ) (hash : KeyHash) (o : OpenModel) (v w : StreamView _) (cs : List (Call _))
    → Begun opening start limit hash o (Ok v) → (chain : CallsEach g v cs w)
    → (es : List Entry) × (parts : List Part) × AreOpeningsOf cs es × AddEach g v cs w chain parts
    × (gone g v cs w chain ++ waiting w ≡ v.first ++ all_out (is_done w.opening.phase) es parts)

-- ---- the history of its engine

-- Over any chain of calls: whatever legal history the engine has before, it goes on, and all of it keeps the headline.
abbrev pub StreamsGoOn : {R : Type 0} → Relays R → Type 0
StreamsGoOn g = (v w : StreamView _) (cs : List (Call _)) → CallsEach g v cs w
    → (s : ConnectionState) (o : OpenModel) (H : List (EngineEntry _)) → Legal g s o H v.driver.engine
    → (es : List (EngineEntry _)) × Legal g s o (H ++ es) w.driver.engine × Headline s o (H ++ es)
