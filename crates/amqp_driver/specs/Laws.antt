-- Part: other calls.
-- What the frames of a call are: entries by which a legal history goes on, and the bytes of a payload at their place.
use Rattle.std.specs.Prelude.{◌≡◌, ◌⊎◌, ℕ, true, List, [], ◌∷◌, ◌++◌, Option, Some, None, map, take, drop, length}
use Rattle.amqp_types.specs.declared.states.ConnectionState.{ConnectionState}
use Rattle.amqp_types.specs.Open.{OpenModel}
use Rattle.amqp_types.specs.Transfer.{TransferModel}
use Rattle.amqp_session.specs.History.{Made}
use Rattle.amqp_session.specs.Numbers.{number_after}
use Rattle.amqp_session.specs.Relay.{Relays}
use Rattle.amqp_frames.specs.declared.frame.Frame.{Frame}
use Rattle.amqp_frames.specs.declared.frame.FrameBody.TheVariants.{Transfer}
use Rattle.amqp_engine.specs.Entry.{Entry}
use Rattle.amqp_engine.specs.ByHistory.{live, of_session}
use Rattle.amqp_engine.specs.Legal.{Legal}
use Rattle.amqp_engine.specs.Headline.{Headline}
use Rattle.amqp_connection.specs.declared.numbers.SessionNo.{SessionNo}
use Rattle.amqp_session.specs.Settings.{SettingsModel}
use Rattle.amqp_types.specs.Error.{ErrorModel}
use Rattle.amqp_driver.specs.declared.answered.BeginAnswer.{BeginAnswer}
use Rattle.amqp_driver.specs.declared.answered.EndAnswer.{EndAnswer}
use Rattle.amqp_driver.specs.declared.record.Record.{Record}
use Rattle.amqp_driver.specs.Answering.{AnswersBegin, begin_entries}
use Rattle.amqp_driver.specs.Ending.{AnswersEnd, end_entries}
use Rattle.amqp_driver.specs.Driver.{DriverView, Runs, NotRun}
use Rattle.amqp_driver.specs.Heads.{has}
use Rattle.amqp_driver.specs.Sending.{Handled, HandlesEach}
use Rattle.amqp_driver.specs.Taking.{Answered, RunsEach, listed}
use Rattle.amqp_driver.specs.Told.{record_of}
use Rattle.amqp_driver.specs.declared.answered.RecordAnswer.{RecordAnswer}
use Rattle.amqp_driver.specs.Refusals.{refusal_number}
use Rattle.amqp_driver.specs.Stream.{StreamView}
use Rattle.amqp_driver.specs.StreamLife.{Call, CallsEach}
use Rattle.amqp_driver.specs.Wanted.{AnswersRecord, LetsGoStream, answer_by_number}
use Rattle.amqp_engine.specs.declared.engine.step_error.StepError.{StepError}
use Rattle.fe2o3_amqp.specs.Refusals.{step_answer}

abbrev pub entries_of : {R : Type 0} → List (Answered R) → List (Entry R)
entries_of answered = map (λ a. a.entry) answered

-- Whatever legal history came before, it goes on by the entries of these frames, and all of it keeps the headline; also where memory was refused
-- for the frame after them.
abbrev pub HistoryGoesOn : {R : Type 0} → Relays R → Type 0
HistoryGoesOn g = (limit : ℕ) (d k d' : DriverView _) (answered : List (Answered _)) → RunsEach g limit d answered k → (d' ≡ k) ⊎ NotRun g k d'
    → (s : ConnectionState) (o : OpenModel) (H : List (Entry _)) → Legal g s o H d.engine
    → Legal g s o (H ++ entries_of answered) d'.engine × Headline s o (H ++ entries_of answered)

-- The payload of a transfer stands in the input where its record says, and has so many bytes.
abbrev pub PayloadIsThere : {R : Type 0} → Relays R → Type 0
PayloadIsThere g = (d d' : DriverView _) (input : List ℕ) (at size : ℕ) (e : Entry _) (r : Record) (f : Frame) (t : TransferModel) (payload : List ℕ)
    → length (take size (drop at input)) ≡ size → Runs g d (drop 4 (take size (drop at input))) e d' → record_of d.engine at size e ≡ Some r
    → e.received ≡ Some f → f.body ≡ Transfer t payload
    → (length payload ≡ r.payload) × (take r.payload (drop r.payload_at input) ≡ payload)

-- the entries of the heads whose transfers the engine was asked for
abbrev pub asked_entries : {R : Type 0} → List (Handled R) → List (Entry R)
asked_entries [] = []
asked_entries (x ∷ rest) = listed x.entry ++ asked_entries rest

-- Whatever legal history came before, it goes on by the entries of these heads, and all of it keeps the headline; also where memory was refused
-- for the transfer after them.
abbrev pub SendsGoOn : {R : Type 0} → Relays R → Type 0
SendsGoOn g = (d k d' : DriverView _) (handled : List (Handled _)) → HandlesEach g d None handled k → (d' ≡ k) ⊎ NotRun g k d'
    → (s : ConnectionState) (o : OpenModel) (H : List (Entry _)) → Legal g s o H d.engine
    → Legal g s o (H ++ asked_entries handled) d'.engine × Headline s o (H ++ asked_entries handled)

-- The number that is told of an accepted first transfer, wherever it stands among those of a call, is how many deliveries of its session were
-- accepted before, modulo 2^32: the one by which the session's history knows the delivery, and that its frame carries, also where it waits.
abbrev pub NumbersAreTold : {R : Type 0} → Relays R → Type 0
NumbersAreTold g = (d k : DriverView _) (before after : List (Handled _)) (x : Handled _) (e : Entry _) → HandlesEach g d None (before ++ x ∷ after) k
    → x.entry ≡ Some e → e.refusal ≡ None → has x.head.flags 1 ≡ true
    → (s : ConnectionState) (o : OpenModel) (H : List (Entry _)) → Legal g s o H d.engine
    → (m : Made) → live s x.head.session (H ++ asked_entries before) ≡ Some m
    → x.sent ≡ record { number = number_after (of_session x.head.session (H ++ asked_entries before)); refusal = 0 }

-- Whatever legal history came before, it goes on by the entries of an answer to the peer's Begin, and all of it keeps the headline.
abbrev pub BeginsGoOn : {R : Type 0} → Relays R → Type 0
BeginsGoOn g = (d d' : DriverView _) (frame : List ℕ) (number : SessionNo) (settings : SettingsModel) (a : BeginAnswer)
    (x : AnswersBegin g d frame number settings a d') → (s : ConnectionState) (o : OpenModel) (H : List (Entry _)) → Legal g s o H d.engine
    → Legal g s o (H ++ begin_entries g d frame number settings a d' x) d'.engine
    × Headline s o (H ++ begin_entries g d frame number settings a d' x)

-- the same of an answer to the peer's End
abbrev pub EndsGoOn : {R : Type 0} → Relays R → Type 0
EndsGoOn g = (d d' : DriverView _) (n : SessionNo) (error : Option ErrorModel) (a : EndAnswer) (x : AnswersEnd g d n error a d')
    → (s : ConnectionState) (o : OpenModel) (H : List (Entry _)) → Legal g s o H d.engine
    → Legal g s o (H ++ end_entries g d n error a d' x) d'.engine × Headline s o (H ++ end_entries g d n error a d' x)

-- ---- the answer that a record asks for

-- the second stream is the first one after some chain of calls
abbrev pub IsMadeOfCalls : {R : Type 0} → Relays R → StreamView R → StreamView R → Type 0
IsMadeOfCalls g v w = (cs : List (Call _)) × CallsEach g v cs w

-- `answer` and `let_go` are made of calls that have a place of their own in a chain: so what holds over every chain holds with them in it.
abbrev pub AnswersByCalls : {R : Type 0} → Relays R → Type 0
AnswersByCalls g = (v w : StreamView _) (flags : ℕ) (n : SessionNo) (r : Record) (input : List ℕ) (a : RecordAnswer) → AnswersRecord g v flags n r input a w
    → IsMadeOfCalls g v w

abbrev pub LetsGoByCalls : {R : Type 0} → Relays R → Type 0
LetsGoByCalls g = (v w : StreamView _) (n : SessionNo) (a : EndAnswer) → LetsGoStream g v n a w → IsMadeOfCalls g v w

-- By the number of a refusal a frame is answered as `answer_to` says of the refusal itself.
abbrev pub AnswersByNumber : Type 0
AnswersByNumber = (e : StepError) → answer_by_number (refusal_number e) ≡ step_answer e
