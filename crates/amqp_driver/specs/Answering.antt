-- Part: other calls; inner.
-- `answer_begin`: a session that the peer begins is answered by one of the engine's (AMQP 1.0 part 2, section 2.5.1).
use Rattle.std.specs.Prelude.{◌≡◌, ◌⊎◌, ◌+◌, ◌-◌, ◌≤◌, ◌^◌, ℕ, List, [], ◌∷◌, ◌++◌, length, min, nat_eq, Bool, true, false, Option, Some, None, IsSome, Result, Ok, Err}
use Rattle.std.specs.FinMap as map
use Rattle.std.specs.Map.{lookup}
use Rattle.amqp_memory.specs.Refusal.{SomeRefused}
use Rattle.amqp_types.specs.declared.performatives.Performative.TheVariants as performative
use Rattle.amqp_types.specs.declared.states.ConnectionState.TheVariants.{Opened}
use Rattle.amqp_types.specs.declared.states.SessionState.TheVariants.{BeginSent, Mapped}
use Rattle.amqp_types.specs.Begin.{BeginModel}
use Rattle.amqp_types.specs.Performatives.{performative_text}
use Rattle.amqp_session.specs.Relay.{Relays}
use Rattle.amqp_session.specs.Session.{SessionView}
use Rattle.amqp_session.specs.Settings.{SettingsModel, begin_of}
use Rattle.amqp_connection.specs.declared.numbers.SessionNo.{SessionNo}
use Rattle.amqp_frames.specs.declared.error.Error.TheVariants as unread
use Rattle.amqp_frames.specs.Wire.{sized}
use Rattle.amqp_engine.specs.declared.engine.input.Input.TheVariants as input
use Rattle.amqp_engine.specs.declared.engine.step_error.StepError.{StepError}
use Rattle.amqp_engine.specs.declared.engine.answer.OutputError.{OutputError}
use Rattle.amqp_engine.specs.declared.engine.answer.OutputError.TheVariants as unsent
use Rattle.amqp_engine.specs.EngineView.{EngineView}
use Rattle.amqp_engine.specs.Entry.{Entry}
use Rattle.amqp_engine.specs.Stepped.{Stays, Stepped, entry_of}
use Rattle.amqp_driver.specs.declared.answered.BeginAnswer.{BeginAnswer}
use Rattle.amqp_driver.specs.declared.answered.BeginAnswer.TheVariants as answer
use Rattle.amqp_driver.specs.declared.turning.TurnError.{TurnError}
use Rattle.amqp_driver.specs.declared.turning.TurnError.TheVariants as turn
use Rattle.amqp_driver.specs.Driver.{DriverView, NotRun, NotTaken, Runs, SendsOnly}
use Rattle.amqp_driver.specs.Turn.{EncodesWhole, ReadsBegin, answering, begin_frame}

-- how many bytes the text of a Begin has
abbrev pub text_size : BeginModel → ℕ
text_size b = length (performative_text (performative.Begin b))

-- It fits one frame of the peer's, whose size fits four bytes.
abbrev pub FitsOne : ℕ → BeginModel → Type 0
FitsOne limit b = 4 + text_size b ≤ min limit (2 ^ 32 - 5)

-- the Begin of a session with these settings, which answers none
abbrev pub own_begin : SettingsModel → BeginModel
own_begin settings = begin_of settings None settings.next_outgoing_id

-- ---- a session that the peer begins

-- The frame is a Begin of the peer's that answers none, on this channel, which leads to no session; and the connection is open.
pub record IsToAnswer {R : Type 0} (d : DriverView R) (frame : List ℕ) (remote : ℕ) (theirs : BeginModel) : Type 0 where
  pub read : ReadsBegin frame (Ok (remote, theirs))
  pub opened : d.engine.connection.state ≡ Opened
  pub free : map.get d.engine.connection.session_by_incoming_channel remote ≡ None

-- What waited is sent, and then nothing waits.
pub record SendsAll {R : Type 0} (g : Relays R) (d k : DriverView R) : Type 0 where
  pub sent : SendsOnly g d k
  pub none_waits : k.engine.waiting ≡ []

-- The engine begins a session under the number, and hands its Begin out on this channel.
pub record BeginsOwn {R : Type 0} (g : Relays R) (v : EngineView R) (number : SessionNo) (settings : SettingsModel) (channel : ℕ)
    (w : EngineView R) : Type 0 where
  pub stepped : Stepped g v (input.Begin number settings) None w
  pub handed_out : w.waiting ≡ begin_frame channel (own_begin settings) ∷ []

-- That Begin waits no longer; nothing else changes.
abbrev pub TakesOut : {R : Type 0} → Relays R → EngineView R → EngineView R → Type 0
TakesOut g v w = (w ≡ record v { waiting = [] }) × Stays g v w

-- It is to be sent as the answer to the peer's, in one frame.
pub record Offers {R : Type 0} (g : Relays R) (d : DriverView R) (remote : ℕ) (number : SessionNo) (settings : SettingsModel)
    (channel : ℕ) (d' : DriverView R) : Type 0 where
  pub first : DriverView R
  pub sent : SendsAll g d first
  pub begun : EngineView R
  pub begins : BeginsOwn g first.engine number settings channel begun
  pub taken : TakesOut g begun d'.engine
  pub out : List ℕ
  pub turned : EncodesWhole (begin_frame channel (answering remote (own_begin settings))) d.engine.limit (Ok out)
  pub to_send : d'.to_send ≡ first.to_send ++ sized out
  pub unfit : d'.unfit ≡ first.unfit

-- the session of this number is mapped
abbrev pub IsMapped : {R : Type 0} → EngineView R → ℕ → Type 0
IsMapped v n = (s : SessionView _) × (lookup (nat_eq n) v.sessions ≡ Some s) × (s.state ≡ Mapped)

-- The peer's Begin is run, once, as the answer to this side's; and so the session is mapped.
pub record TakesTheirs {R : Type 0} (g : Relays R) (d : DriverView R) (remote : ℕ) (theirs : BeginModel) (channel : ℕ) (number : SessionNo)
    (d' : DriverView R) : Type 0 where
  pub bytes : List ℕ
  pub entry : Entry R
  pub runs : Runs g d bytes entry d'
  pub received : entry.received ≡ Some (begin_frame remote (answering channel theirs))
  pub accepted : entry.refusal ≡ None
  pub mapped : IsMapped d'.engine number.0

-- ---- what becomes of it

-- this side's Begin is to be sent, and the peer's is taken
pub record Answers {R : Type 0} (g : Relays R) (d : DriverView R) (frame : List ℕ) (number : SessionNo) (settings : SettingsModel)
    (d' : DriverView R) : Type 0 where
  pub remote : ℕ
  pub theirs : BeginModel
  pub is : IsToAnswer d frame remote theirs
  pub channel : ℕ
  pub between : DriverView R
  pub offers : Offers g d remote number settings channel between
  pub takes : TakesTheirs g between remote theirs channel number d'

-- The engine begins no session, and says why; what waited is sent before.
pub record Declines {R : Type 0} (g : Relays R) (d : DriverView R) (number : SessionNo) (settings : SettingsModel) (e : StepError)
    (d' : DriverView R) : Type 0 where
  pub first : DriverView R
  pub sent : SendsAll g d first
  pub stepped : Stepped g first.engine (input.Begin number settings) (Some e) d'.engine
  pub to_send : d'.to_send ≡ first.to_send
  pub unfit : d'.unfit ≡ first.unfit

-- Memory was refused once the engine had begun: its Begin still waits there and answers none, or it is gone. The peer is told of no answer.
pub record Loses {R : Type 0} (g : Relays R) (d : DriverView R) (number : SessionNo) (settings : SettingsModel) (d' : DriverView R) : Type 0 where
  pub channel : ℕ
  pub first : DriverView R
  pub sent : SendsAll g d first
  pub begun : EngineView R
  pub begins : BeginsOwn g first.engine number settings channel begun
  pub left : (d'.engine ≡ begun) ⊎ TakesOut g begun d'.engine
  pub to_send : d'.to_send ≡ first.to_send
  pub unfit : d'.unfit ≡ first.unfit
  pub memory : SomeRefused

-- This side's Begin is to be sent, and the peer's was not taken: memory was refused, or its text would be longer than any frame.
pub record Breaks {R : Type 0} (g : Relays R) (d : DriverView R) (frame : List ℕ) (number : SessionNo) (settings : SettingsModel)
    (d' : DriverView R) : Type 0 where
  pub remote : ℕ
  pub theirs : BeginModel
  pub is : IsToAnswer d frame remote theirs
  pub channel : ℕ
  pub between : DriverView R
  pub offers : Offers g d remote number settings channel between
  pub why : NotTaken g between d' ⊎ ((2 ^ 32 ≤ text_size (answering channel theirs)) × (d' ≡ between))

abbrev pub AnswersBegin : {R : Type 0} → Relays R → DriverView R → List ℕ → SessionNo → SettingsModel → BeginAnswer → DriverView R → Type 0
AnswersBegin g d frame number settings answer.Done d' = Answers g d frame number settings d'
AnswersBegin g d frame number settings (answer.Unread e) d' = ReadsBegin frame (Err e) × (d' ≡ d)
AnswersBegin g d frame number settings answer.NotOpened d' =
    (x : ℕ × BeginModel) × ReadsBegin frame (Ok x) × (¬ (d.engine.connection.state ≡ Opened)) × (d' ≡ d)
AnswersBegin g d frame number settings answer.ChannelInUse d' =
    (x : ℕ × BeginModel) × ReadsBegin frame (Ok x) × (d.engine.connection.state ≡ Opened)
    × IsSome (map.get d.engine.connection.session_by_incoming_channel x.0) × (d' ≡ d)
AnswersBegin g d frame number settings answer.TooLarge d' = (remote : ℕ) × (theirs : BeginModel) × IsToAnswer d frame remote theirs
    × (¬ FitsOne d.engine.limit (answering remote (own_begin settings))) × (d' ≡ d)
AnswersBegin g d frame number settings answer.NoMemory d' = NotRun g d d'
AnswersBegin g d frame number settings (answer.Refused e) d' =
    (remote : ℕ) × (theirs : BeginModel) × IsToAnswer d frame remote theirs × Declines g d number settings e d'
AnswersBegin g d frame number settings answer.Lost d' =
    (remote : ℕ) × (theirs : BeginModel) × IsToAnswer d frame remote theirs × Loses g d number settings d'
AnswersBegin g d frame number settings answer.Broken d' = Breaks g d frame number settings d'

-- the entries of the history that it adds: the engine's request, and the peer's Begin
abbrev pub begin_entries : {R : Type 0} (g : Relays R) (d : DriverView R) (frame : List ℕ) (number : SessionNo) (settings : SettingsModel) (a : BeginAnswer)
    (d' : DriverView R) → AnswersBegin g d frame number settings a d' → List (Entry R)
begin_entries g d frame number settings answer.Done d' x = entry_of x.offers.begins.stepped.step ∷ x.takes.entry ∷ []
begin_entries g d frame number settings (answer.Refused e) d' x = entry_of x.3.stepped.step ∷ []
begin_entries g d frame number settings answer.Lost d' x = entry_of x.3.begins.stepped.step ∷ []
begin_entries g d frame number settings answer.Broken d' x = entry_of x.offers.begins.stepped.step ∷ []
begin_entries g d frame number settings a d' x = []

-- ---- parts

-- whether the frame is to be answered, or why not
abbrev pub FindsBegin : {R : Type 0} → DriverView R → List ℕ → Result (ℕ × BeginModel) BeginAnswer → Type 0
FindsBegin d frame (Ok x) = IsToAnswer d frame x.0 x.1
FindsBegin d frame (Err (answer.Unread e)) = ReadsBegin frame (Err e)
FindsBegin d frame (Err answer.NotOpened) = (x : ℕ × BeginModel) × ReadsBegin frame (Ok x) × ¬ (d.engine.connection.state ≡ Opened)
FindsBegin d frame (Err answer.ChannelInUse) =
    (x : ℕ × BeginModel) × ReadsBegin frame (Ok x) × (d.engine.connection.state ≡ Opened)
    × IsSome (map.get d.engine.connection.session_by_incoming_channel x.0)
FindsBegin d frame (Err answer.NoMemory) = SomeRefused
FindsBegin d frame (Err a) = ⊥

-- of what is no Begin that answers none
abbrev pub unread_as : TurnError → BeginAnswer
unread_as (turn.Frame unread.OutOfMemory) = answer.NoMemory
unread_as e = answer.Unread e

-- the same of a Begin that was read
abbrev pub IfFree : {R : Type 0} → DriverView R → ℕ → BeginModel → Result (ℕ × BeginModel) BeginAnswer → Type 0
IfFree d remote theirs (Ok x) =
    (x ≡ (remote, theirs)) × (d.engine.connection.state ≡ Opened) × (map.get d.engine.connection.session_by_incoming_channel remote ≡ None)
IfFree d remote theirs (Err answer.NotOpened) = ¬ (d.engine.connection.state ≡ Opened)
IfFree d remote theirs (Err answer.ChannelInUse) =
    (d.engine.connection.state ≡ Opened) × IsSome (map.get d.engine.connection.session_by_incoming_channel remote)
IfFree d remote theirs (Err a) = ⊥

-- this side's Begin is to be sent on a channel, or why not
abbrev pub Offered : {R : Type 0} → Relays R → DriverView R → ℕ → SessionNo → SettingsModel → Result ℕ BeginAnswer → DriverView R → Type 0
Offered g d remote number settings (Ok channel) d' = Offers g d remote number settings channel d'
Offered g d remote number settings (Err answer.TooLarge) d' = (¬ FitsOne d.engine.limit (answering remote (own_begin settings))) × (d' ≡ d)
Offered g d remote number settings (Err answer.NoMemory) d' = NotRun g d d'
Offered g d remote number settings (Err (answer.Refused e)) d' = Declines g d number settings e d'
Offered g d remote number settings (Err answer.Lost) d' = Loses g d number settings d'
Offered g d remote number settings (Err a) d' = ⊥

-- the engine begins a session on a channel, and its Begin waits no longer; or why not
abbrev pub Asks : {R : Type 0} → Relays R → DriverView R → SessionNo → SettingsModel → Result ℕ BeginAnswer → DriverView R → Type 0
Asks g d number settings (Ok channel) d' = (begun : EngineView _) × BeginsOwn g d.engine number settings channel begun
    × TakesOut g begun d'.engine × (d'.to_send ≡ d.to_send) × (d'.unfit ≡ d.unfit)
Asks g d number settings (Err (answer.Refused e)) d' =
    Stepped g d.engine (input.Begin number settings) (Some e) d'.engine × (d'.to_send ≡ d.to_send) × (d'.unfit ≡ d.unfit)
Asks g d number settings (Err answer.Lost) d' = (channel : ℕ) × BeginsOwn g d.engine number settings channel d'.engine
    × (d'.to_send ≡ d.to_send) × (d'.unfit ≡ d.unfit) × SomeRefused
Asks g d number settings (Err a) d' = ⊥

-- the channel of a session of this side's
abbrev pub channel_in : {R : Type 0} → Option (SessionView R) → ℕ
channel_in None = 0
channel_in (Some s) = s.outgoing_channel

-- the first frame that waited waits no longer
abbrev pub is_out : {X : Type 0} → Result (Option X) OutputError → Bool
is_out (Ok pieces) = true
is_out (Err (unsent.TooLarge f)) = true
is_out (Err unsent.Memory) = false

-- this Begin is to be sent on the channel, in one frame; or memory was refused, and nothing changes
abbrev pub Puts : {R : Type 0} → DriverView R → ℕ → ℕ → BeginModel → Bool → DriverView R → Type 0
Puts d limit channel b true d' =
    (out : List ℕ) × EncodesWhole (begin_frame channel b) limit (Ok out) × (d' ≡ record d { to_send = d.to_send ++ sized out })
Puts d limit channel b false d' = (d' ≡ d) × SomeRefused

-- The session of this number has sent its Begin on a channel, and the peer's channel leads to none.
pub record Awaits {R : Type 0} (d : DriverView R) (remote channel : ℕ) (number : SessionNo) : Type 0 where
  pub opened : d.engine.connection.state ≡ Opened
  pub free : map.get d.engine.connection.session_by_incoming_channel remote ≡ None
  pub held : map.get d.engine.connection.session_by_outgoing_channel channel ≡ Some number.0
  pub session : SessionView R
  pub there : lookup (nat_eq number.0) d.engine.sessions ≡ Some session
  pub begun : session.state ≡ BeginSent

-- the peer's Begin is taken, or why not
abbrev pub TakesIn : {R : Type 0} → Relays R → DriverView R → ℕ → BeginModel → ℕ → SessionNo → BeginAnswer → DriverView R → Type 0
TakesIn g d remote theirs channel number answer.Done d' = TakesTheirs g d remote theirs channel number d'
TakesIn g d remote theirs channel number answer.Broken d' = NotTaken g d d' ⊎ ((2 ^ 32 ≤ text_size (answering channel theirs)) × (d' ≡ d))
TakesIn g d remote theirs channel number a d' = ⊥

-- by the engine's answer
abbrev pub taken_as : Option (Result (Unit {0}) StepError) → BeginAnswer
taken_as (Some (Ok u)) = answer.Done
taken_as a = answer.Broken
