-- Part: other calls; inner.
-- What each operation of a client does, from what contracts see of it before, its input and its output, to its answer, and both afterwards.
use Rattle.std.specs.Prelude.{◌≡◌, ◌⊎◌, ◌<◌, ◌∷◌, [], ℕ, ℤ, pos, Bool, true, false, List, Option, Some, None, length, nat_eq}
use Rattle.std.specs.Int.{w16, w32, to_be_bytes, from_be_bytes}
use Rattle.std.specs.Map.{lookup}
use Rattle.amqp_memory.specs.Refusal.{SomeRefused}
use Rattle.amqp_types.specs.Transfer.{TransferModel}
use Rattle.amqp_types.specs.Performatives.{IsPerformative}
use Rattle.amqp_types.specs.declared.performatives.Performative.TheVariants as its
use Rattle.amqp_session.specs.Relay.{Relays}
use Rattle.amqp_session.specs.declared.numbers.OutputHandle.{OutputHandle}
use Rattle.amqp_frames.specs.declared.frame.Frame.{Frame}
use Rattle.amqp_engine.specs.EngineView.{EngineView, output_handle_at}
use Rattle.amqp_driver.specs.declared.plain.PlainRelay.{PlainRelay}
use Rattle.amqp_driver.specs.Driver.{DriverView, SendsOnly}
use Rattle.amqp_driver.specs.Stream.{having_sent, is_over, waiting}
use Rattle.amqp1.specs.declared.operation.Operation.{Operation}
use Rattle.amqp1.specs.declared.operation.Operation.TheVariants as op
use Rattle.amqp1.specs.declared.operation.Group.{Group}
use Rattle.amqp1.specs.declared.operation.Group.TheVariants as group
use Rattle.amqp1.specs.declared.status.Status.{Status}
use Rattle.amqp1.specs.declared.status.Status.TheVariants as status
use Rattle.amqp1.specs.Answering.{PerformsAnswerBegin, PerformsAnswerEnd, PerformsLetGo}
use Rattle.amqp1.specs.Asked.{AllotsOn, Answers, PerformsDispose}
use Rattle.amqp1.specs.ClientView.{ClientView}
use Rattle.amqp1.specs.LoggingIn.{PerformsChallenge, PerformsLogin, PerformsRespond}
use Rattle.amqp1.specs.Linking.{AsksLink, LinkModel}
use Rattle.amqp1.specs.Names.{IsRefusalText}
use Rattle.amqp1.specs.Operation.{group_of}
use Rattle.amqp1.specs.Status.{status_number}
use Rattle.amqp1.specs.Taking.{TakesOff}
use Rattle.amqp1.specs.Telling.{WritesIfGranted, open_text, refusal_text, room_text, session_state_text, session_text, state_number}
use Rattle.amqp1.specs.Writing.{Writes}

-- nothing was done
abbrev pub Refuses : ClientView → List ℕ → Status → ℕ → ClientView → List ℕ → Type 0
Refuses c old s n c' new = (s ≡ status.BadArgument) × (n ≡ 0) × (c' ≡ c) × (new ≡ old)

-- ---- links

abbrev pub ShowsHandle : Option OutputHandle → List ℕ → ℕ → List ℕ → Type 0
ShowsHandle None old n new = (n ≡ 0) × (new ≡ old)
ShowsHandle (Some h) old n new = Writes (to_be_bytes w32 h.0) old status.Done n new

-- the output handle of the link of this name, as the engine shows it
abbrev pub handle_in : EngineView PlainRelay → LinkModel → Option OutputHandle
handle_in v l = output_handle_at l.name (lookup (nat_eq l.session) v.sessions)

-- nothing was done: the bytes name no link, or the output has no room for a handle
abbrev pub LinksNothing : Operation → ClientView → List ℕ → List ℕ → Status → ℕ → ClientView → List ℕ → Type 0
LinksNothing o c input old s n c' new = (c' ≡ c) × (new ≡ old)
    × (((s ≡ status.BadArgument) × (n ≡ 0) × ((l : LinkModel) → ¬ AsksLink o input l)) ⊎ ((s ≡ status.TooSmall) × (n ≡ 4) × (length old < 4)))

-- the handle is told where it is done, and else nothing is
abbrev pub TellsHandle : EngineView PlainRelay → LinkModel → List ℕ → Status → ℕ → List ℕ → Type 0
TellsHandle v l old s n new =
    ((s ≡ status.Done) × ShowsHandle (handle_in v l) old n new) ⊎ ((¬ (s ≡ status.Done)) × (n ≡ 0) × (new ≡ old))

-- the link that the bytes name is run
pub record LinksOne (g : Relays PlainRelay) (o : Operation) (c : ClientView) (input old : List ℕ) (s : Status) (n : ℕ) (c' : ClientView) (new : List ℕ) : Type 0 where
  pub link : LinkModel
  pub asks : AsksLink o input link
  pub allots : AllotsOn g link c s c'
  pub tells : TellsHandle c'.stream.driver.engine link old s n new

abbrev pub PerformsLink : Relays PlainRelay → Operation → ClientView → List ℕ → List ℕ → Status → ℕ → ClientView → List ℕ → Type 0
PerformsLink g o c input old s n c' new = LinksNothing o c input old s n c' new ⊎ LinksOne g o c input old s n c' new

-- ---- what is taken, and told

-- nothing waits in the engine; or some does, since memory was refused
abbrev pub OutputStatus : Status → List Frame → Type 0
OutputStatus status.Done waiting = waiting ≡ []
OutputStatus status.NoMemory waiting = SomeRefused × ¬ (waiting ≡ [])
OutputStatus s waiting = ⊥

-- What waits in the engine is put out first. Then a front of all that is to be sent is taken off: headers, SASL and frames.
pub record PerformsOutput (g : Relays PlainRelay) (c : ClientView) (old : List ℕ) (s : Status) (n : ℕ) (c' : ClientView) (new : List ℕ) : Type 0 where
  pub between : DriverView PlainRelay
  pub put_out : SendsOnly g c.stream.driver between
  pub ends : OutputStatus s between.engine.waiting
  pub taken : TakesOff (waiting (record c.stream { driver = between })) old n (waiting c'.stream) new
  pub rest_is : c' ≡ record c { stream = having_sent n (record c.stream { driver = between }) }

-- 1 where it is over
abbrev pub over_number : Bool → ℕ
over_number true = 1
over_number false = 0

abbrev pub PerformsBare : Relays PlainRelay → Operation → ClientView → List ℕ → Status → ℕ → ClientView → List ℕ → Type 0
PerformsBare g op.Output c old s n c' new = PerformsOutput g c old s n c' new
PerformsBare g op.Refusal c old s n c' new = WritesIfGranted (refusal_text c.last) old s n new × (c' ≡ c)
PerformsBare g op.RemoteOpen c old s n c' new = WritesIfGranted (open_text c.stream.driver.engine.connection.remote_open) old s n new × (c' ≡ c)
PerformsBare g op.MaxPieceLen c old s n c' new = Writes (to_be_bytes w32 c.stream.driver.engine.limit) old s n new × (c' ≡ c)
PerformsBare g op.Unfit c old s n c' new = Writes (to_be_bytes w32 c.stream.driver.unfit) old s n new × (c' ≡ c)
PerformsBare g op.State c old s n c' new = Writes (state_number c.stream.driver.engine.connection.state ∷ []) old s n new × (c' ≡ c)
PerformsBare g op.IsOver c old s n c' new = Writes (over_number (is_over c.stream) ∷ []) old s n new × (c' ≡ c)
PerformsBare g o c old s n c' new = ⊥

abbrev pub IfEmpty : Relays PlainRelay → Operation → ClientView → List ℕ → List ℕ → Status → ℕ → ClientView → List ℕ → Type 0
IfEmpty g o c input old s n c' new =
    ((input ≡ []) × PerformsBare g o c old s n c' new) ⊎ ((¬ (input ≡ [])) × Refuses c old s n c' new)

-- the session of a channel, which is two bytes
abbrev pub PerformsSessionOf : ClientView → List ℕ → List ℕ → Status → ℕ → ClientView → List ℕ → Type 0
PerformsSessionOf c input old status.BadArgument n c' new = Refuses c old status.BadArgument n c' new × ¬ (length input ≡ 2)
PerformsSessionOf c input old s n c' new =
    (length input ≡ 2) × Writes (session_text c.stream.driver.engine (from_be_bytes w16 input)) old s n new × (c' ≡ c)

-- the state of a session, whose number is four bytes
abbrev pub PerformsSessionState : ClientView → List ℕ → List ℕ → Status → ℕ → ClientView → List ℕ → Type 0
PerformsSessionState c input old status.BadArgument n c' new = Refuses c old status.BadArgument n c' new × ¬ (length input ≡ 4)
PerformsSessionState c input old s n c' new =
    (length input ≡ 4) × Writes (session_state_text c.stream.driver.engine (from_be_bytes w32 input)) old s n new × (c' ≡ c)

-- what the refusals of a number are called and what answers them; the number is four bytes
abbrev pub PerformsRefusalText : ClientView → List ℕ → List ℕ → Status → ℕ → ClientView → List ℕ → Type 0
PerformsRefusalText c input old status.BadArgument n c' new = Refuses c old status.BadArgument n c' new × ¬ (length input ≡ 4)
PerformsRefusalText c input old s n c' new =
    (length input ≡ 4) × ((text : List ℕ) × IsRefusalText (from_be_bytes w32 input) text × WritesIfGranted text old s n new) × (c' ≡ c)

abbrev pub PerformsPayloadRoom : ClientView → List ℕ → List ℕ → Status → ℕ → ClientView → List ℕ → Type 0
PerformsPayloadRoom c input old s n c' new =
    (Refuses c old s n c' new × ((t : TransferModel) → ¬ IsPerformative (its.Transfer t) input))
    ⊎ (((s ≡ status.NoMemory) × SomeRefused × (n ≡ 0) × (new ≡ old) × (c' ≡ c))
    ⊎ ((t : TransferModel) × IsPerformative (its.Transfer t) input × Writes (room_text c.stream.driver.engine t) old s n new × (c' ≡ c)))

-- ---- all of them

abbrev pub PerformsBy : Group → Relays PlainRelay → Operation → ClientView → List ℕ → List ℕ → Status → ℕ → ClientView → List ℕ → Type 0
PerformsBy group.Links g o c input old s n c' new = PerformsLink g o c input old s n c' new
PerformsBy group.Disposes g o c input old s n c' new = PerformsDispose g c input s c' × (n ≡ 0) × (new ≡ old)
PerformsBy group.FindsSession g o c input old s n c' new = PerformsSessionOf c input old s n c' new
PerformsBy group.ShowsSession g o c input old s n c' new = PerformsSessionState c input old s n c' new
PerformsBy group.Measures g o c input old s n c' new = PerformsPayloadRoom c input old s n c' new
PerformsBy group.Names g o c input old s n c' new = PerformsRefusalText c input old s n c' new
PerformsBy group.Bare g o c input old s n c' new = IfEmpty g o c input old s n c' new
PerformsBy group.Logs g o c input old s n c' new = PerformsLogin c input s c' × (n ≡ 0) × (new ≡ old)
PerformsBy group.Challenges g o c input old s n c' new = PerformsChallenge c input s c' × (n ≡ 0) × (new ≡ old)
PerformsBy group.Responds g o c input old s n c' new = PerformsRespond c input s c' × (n ≡ 0) × (new ≡ old)
PerformsBy group.AnswersBegin g o c input old s n c' new = PerformsAnswerBegin g c input s c' × (n ≡ 0) × (new ≡ old)
PerformsBy group.AnswersEnd g o c input old s n c' new = PerformsAnswerEnd g c input s c' × (n ≡ 0) × (new ≡ old)
PerformsBy group.LetsGo g o c input old s n c' new = PerformsLetGo g c input s c' × (n ≡ 0) × (new ≡ old)
PerformsBy group.Asks g o c input old s n c' new = Answers g o input c s c' × (n ≡ 0) × (new ≡ old)

abbrev pub Performs : Relays PlainRelay → Operation → ClientView → List ℕ → List ℕ → Status → ℕ → ClientView → List ℕ → Type 0
Performs g o c input old s n c' new = PerformsBy (group_of o) g o c input old s n c' new

-- by the operation's number: no other does anything
abbrev pub Calls : Relays PlainRelay → Option Operation → ClientView → List ℕ → List ℕ → ℤ → ℕ → ClientView → List ℕ → Type 0
Calls g None c input old z n c' new = (z ≡ pos (status_number status.BadArgument)) × (n ≡ 0) × (c' ≡ c) × (new ≡ old)
Calls g (Some o) c input old z n c' new = (s : Status) × (z ≡ pos (status_number s)) × Performs g o c input old s n c' new

-- ---- parts

-- it takes an empty input, and changes nothing
abbrev pub only_tells : Operation → Bool
only_tells op.Refusal = true
only_tells op.RemoteOpen = true
only_tells op.MaxPieceLen = true
only_tells op.State = true
only_tells op.Unfit = true
only_tells op.IsOver = true
only_tells o = false
