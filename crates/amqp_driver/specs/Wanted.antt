-- Part: other calls.
-- The answer that a record asks for: to a Begin, an End or a Close of the peer's, and to a frame that was refused (AMQP 1.0 part 2, sections 2.5.1,
-- 2.5.3, 2.4.3 and 2.8.15 to 2.8.17).
use Rattle.std.specs.Prelude.{◌≡◌, ◌⊎◌, ◌==◌, ◌&&◌, ◌+◌, ◌-◌, ℕ, List, take, drop, Option, Some, None, if◌then◌else◌}
use Rattle.amqp_memory.specs.Refusal.{SomeRefused}
use Rattle.amqp_session.specs.Relay.{Relays}
use Rattle.amqp_session.specs.Settings.{default_settings}
use Rattle.amqp_connection.specs.declared.numbers.SessionNo.{SessionNo}
use Rattle.amqp_engine.specs.declared.engine.input.Input.{Input}
use Rattle.amqp_engine.specs.declared.engine.input.Input.TheVariants as input
use Rattle.fe2o3_amqp.specs.declared.conditions.ErrorCondition.TheVariants as is
use Rattle.fe2o3_amqp.specs.declared.refusals.PeerAnswer.{PeerAnswer}
use Rattle.fe2o3_amqp.specs.declared.refusals.PeerAnswer.TheVariants as by
use Rattle.fe2o3_amqp.specs.Conditions.{error_of}
use Rattle.fe2o3_amqp.specs.Refusals.{has_closed}
use Rattle.amqp_driver.specs.declared.answered.EndAnswer.{EndAnswer}
use Rattle.amqp_driver.specs.declared.answered.EndAnswer.TheVariants as end
use Rattle.amqp_driver.specs.declared.answered.RecordAnswer.{RecordAnswer}
use Rattle.amqp_driver.specs.declared.answered.RecordAnswer.TheVariants as answer
use Rattle.amqp_driver.specs.declared.asked.Asked.{Asked}
use Rattle.amqp_driver.specs.declared.asked.Asked.TheVariants as asked
use Rattle.amqp_driver.specs.declared.record.Record.{Record}
use Rattle.amqp_driver.specs.declared.wanted.Wanted.{Wanted}
use Rattle.amqp_driver.specs.declared.wanted.Wanted.TheVariants as want
use Rattle.amqp_driver.specs.Ending.{IsEnded, IsEnding, session_in}
use Rattle.amqp_driver.specs.Heads.{has}
use Rattle.amqp_driver.specs.Stream.{StreamView}
use Rattle.amqp_driver.specs.StreamTicking.{AsksStream, BeginsStream, EndsStream}

-- ---- which answer

-- Of the answers that the flags name: a Begin of the peer's asks for this side's, an End for this side's, a Close for this side's, and a refused
-- frame for the answer to its refusal. Every other record asks for none.
abbrev pub wanted_by : ℕ → Record → Wanted
wanted_by flags r =
    if (r.kind == 12) && has flags 1 then want.Begin else
    if (r.kind == 9) && has flags 2 then want.End else
    if (r.kind == 10) && has flags 4 then want.Close else
    if (r.kind == 11) && has flags 8 then want.Refusal else
    want.Nothing

-- how a refused frame is answered, by the number of its refusal
abbrev pub answer_by_number : ℕ → Option PeerAnswer
answer_by_number n =
    if n == 4 then Some (by.Close is.ResourceLimitExceeded) else
    if n == 12 then Some (by.Close is.DecodeError) else
    if n == 13 then Some (by.Close is.NotImplemented) else
    if n == 15 then Some (by.Close is.ResourceLimitExceeded) else
    if n == 21 then Some (by.Close is.IllegalState) else
    if n == 32 then Some (by.Close is.IllegalState) else
    if n == 33 then Some (by.Close is.NotImplemented) else
    if n == 34 then Some (by.Close is.NotFound) else
    if n == 37 then Some (by.Close is.ResourceLimitExceeded) else
    if n == 51 then Some (by.End is.IllegalState) else
    if n == 61 then Some (by.End is.UnattachedHandle) else
    if n == 62 then Some (by.End is.NotFound) else
    if n == 63 then Some (by.End is.HandleInUse) else
    if n == 66 then Some (by.End is.NotAllowed) else
    if n == 69 then Some (by.End is.UnknownTransaction) else
    if n == 70 then Some (by.End is.ResourceLimitExceeded) else
    None

-- none is due once this side has closed
abbrev pub answer_due : {R : Type 0} → StreamView R → Record → Option PeerAnswer
answer_due v r = if has_closed v.driver.engine.connection.state then None else answer_by_number r.refusal

-- the request that gives it
abbrev pub input_for : {R : Type 0} → SessionNo → PeerAnswer → Input R
input_for n (by.End c) = input.End n (Some (error_of c))
input_for n (by.Close c) = input.Close (Some (error_of c))

-- ---- a session of both sides' Ends is let go

-- a request that was not done
abbrev pub FailsStream : {R : Type 0} → Relays R → StreamView R → Input R → Asked → StreamView R → Type 0
FailsStream g v i a w = AsksStream g v i a w × ¬ (a ≡ asked.Done)

-- its number is forgotten, or why not
abbrev pub ForgetsStream : {R : Type 0} → Relays R → StreamView R → SessionNo → EndAnswer → StreamView R → Type 0
ForgetsStream g v n end.Done w = AsksStream g v (input.Forget n) asked.Done w
ForgetsStream g v n (end.NotForgotten a) w = FailsStream g v (input.Forget n) a w
ForgetsStream g v n a w = ⊥

-- Its channel is given back, and then it is forgotten; or why not. Of any other session nothing changes.
abbrev pub LetsGoStream : {R : Type 0} → Relays R → StreamView R → SessionNo → EndAnswer → StreamView R → Type 0
LetsGoStream g v n end.NotEnded w = (¬ IsEnded (session_in v.driver n)) × (w ≡ v)
LetsGoStream g v n (end.NotReleased a) w = IsEnded (session_in v.driver n) × FailsStream g v (input.Release n) a w
LetsGoStream g v n a w =
    (k : StreamView _) × IsEnded (session_in v.driver n) × AsksStream g v (input.Release n) asked.Done k × ForgetsStream g k n a w

-- ---- the answer

-- A session that the peer alone has ended is ended by this side too, without an error; any other one is let go.
abbrev pub EndsOrLetsGo : {R : Type 0} → Relays R → StreamView R → SessionNo → EndAnswer → StreamView R → Type 0
EndsOrLetsGo g v n a w =
    (IsEnding (session_in v.driver n) × EndsStream g v n None a w)
    ⊎ ((¬ IsEnding (session_in v.driver n)) × LetsGoStream g v n a w)

-- An End or a Close is requested; or memory for its error was refused, and nothing changes.
abbrev pub AnswersFor : {R : Type 0} → Relays R → StreamView R → SessionNo → PeerAnswer → RecordAnswer → StreamView R → Type 0
AnswersFor g v n p (answer.Asked a) w = AsksStream g v (input_for n p) a w
AnswersFor g v n p answer.NoMemory w = (w ≡ v) × SomeRefused
AnswersFor g v n p a w = ⊥

abbrev pub AnswersIfDue : {R : Type 0} → Option PeerAnswer → Relays R → StreamView R → SessionNo → RecordAnswer → StreamView R → Type 0
AnswersIfDue None g v n a w = (a ≡ answer.Nothing) × (w ≡ v)
AnswersIfDue (Some p) g v n a w = AnswersFor g v n p a w

-- the bytes of its frame behind the size
abbrev pub frame_in : Record → List ℕ → List ℕ
frame_in r bytes = take (r.size + 4) (drop (r.at - 4) bytes)

abbrev pub session_no : ℕ → SessionNo
session_no n = record { 0 = n }

-- A session that the peer begins gets this number.
abbrev pub AnswersWanted : {R : Type 0} → Wanted → Relays R → StreamView R → SessionNo → Record → List ℕ → RecordAnswer → StreamView R → Type 0
AnswersWanted want.Begin g v n r bytes (answer.Begin a) w = BeginsStream g v (frame_in r bytes) n default_settings a w
AnswersWanted want.End g v n r bytes (answer.End a) w = EndsOrLetsGo g v (session_no r.session) a w
AnswersWanted want.Close g v n r bytes (answer.Asked a) w = AsksStream g v (input.Close None) a w
AnswersWanted want.Refusal g v n r bytes a w = AnswersIfDue (answer_due v r) g v (session_no r.session) a w
AnswersWanted want.Nothing g v n r bytes answer.Nothing w = w ≡ v
AnswersWanted wanted g v n r bytes a w = ⊥

abbrev pub AnswersRecord : {R : Type 0} → Relays R → StreamView R → ℕ → SessionNo → Record → List ℕ → RecordAnswer → StreamView R → Type 0
AnswersRecord g v flags n r bytes a w = AnswersWanted (wanted_by flags r) g v n r bytes a w
