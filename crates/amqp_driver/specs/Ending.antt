-- Part: other calls.
-- `answer_end`: a session that the peer ends is ended by this side too, and let go (AMQP 1.0 part 2, section 2.5.3).
use Rattle.std.specs.Prelude.{◌≡◌, List, [], ◌∷◌, ◌++◌, nat_eq, Option, Some, None}
use Rattle.std.specs.Map.{lookup}
use Rattle.amqp_types.specs.declared.states.SessionState.TheVariants.{EndReceived, Unmapped}
use Rattle.amqp_types.specs.Error.{ErrorModel}
use Rattle.amqp_session.specs.Relay.{Relays}
use Rattle.amqp_session.specs.Session.{SessionView}
use Rattle.amqp_connection.specs.declared.numbers.SessionNo.{SessionNo}
use Rattle.amqp_engine.specs.declared.engine.input.Input.{Input}
use Rattle.amqp_engine.specs.declared.engine.input.Input.TheVariants as input
use Rattle.amqp_engine.specs.Entry.{Entry}
use Rattle.amqp_driver.specs.declared.answered.EndAnswer.{EndAnswer}
use Rattle.amqp_driver.specs.declared.answered.EndAnswer.TheVariants as answer
use Rattle.amqp_driver.specs.declared.asked.Asked.{Asked}
use Rattle.amqp_driver.specs.declared.asked.Asked.TheVariants as asked
use Rattle.amqp_driver.specs.Driver.{DriverView}
use Rattle.amqp_driver.specs.Requests.{Requests}

-- The peer has ended the session, and this side has not.
abbrev pub IsEnding : {R : Type 0} → Option (SessionView R) → Type 0
IsEnding None = ⊥
IsEnding (Some s) = s.state ≡ EndReceived

-- Both sides have ended the session, and it is still there: so it is in the state that the engine wants of a session that is to be forgotten.
abbrev pub IsEnded : {R : Type 0} → Option (SessionView R) → Type 0
IsEnded None = ⊥
IsEnded (Some s) = s.state ≡ Unmapped

abbrev pub session_in : {R : Type 0} → DriverView R → SessionNo → Option (SessionView R)
session_in d n = lookup (nat_eq n.0) d.engine.sessions

-- a request that was not done
abbrev pub Fails : {R : Type 0} → Relays R → DriverView R → Input R → Asked → DriverView R → Type 0
Fails g d i a d' = Requests g d i a d' × ¬ (a ≡ asked.Done)

-- its number is forgotten, or why not
abbrev pub Forgets : {R : Type 0} → Relays R → DriverView R → SessionNo → EndAnswer → DriverView R → Type 0
Forgets g d n answer.Done d' = Requests g d (input.Forget n) asked.Done d'
Forgets g d n (answer.NotForgotten a) d' = Fails g d (input.Forget n) a d'
Forgets g d n a d' = ⊥

-- its channel is given back, and then it is forgotten; or why not
abbrev pub LetsGo : {R : Type 0} → Relays R → DriverView R → SessionNo → EndAnswer → DriverView R → Type 0
LetsGo g d n (answer.NotReleased a) d' = Fails g d (input.Release n) a d'
LetsGo g d n a d' = (k : DriverView _) × Requests g d (input.Release n) asked.Done k × Forgets g k n a d'

-- This side's End is requested; and then the session is let go. Or the request was not done; or it is no session that the peer has ended.
abbrev pub AnswersEnd : {R : Type 0} → Relays R → DriverView R → SessionNo → Option ErrorModel → EndAnswer → DriverView R → Type 0
AnswersEnd g d n error answer.NotEnded d' = (¬ IsEnding (session_in d n)) × (d' ≡ d)
AnswersEnd g d n error (answer.Unsent a) d' = IsEnding (session_in d n) × Fails g d (input.End n error) a d'
AnswersEnd g d n error a d' =
    (k : DriverView _) × IsEnding (session_in d n) × Requests g d (input.End n error) asked.Done k × LetsGo g k n a d'

-- ---- the entries of the history that it adds: those of the requests that were taken

abbrev pub asked_entry : {R : Type 0} (g : Relays R) (d : DriverView R) (i : Input R) (a : Asked) (d' : DriverView R) → Requests g d i a d' → List (Entry R)
asked_entry g d i asked.NoMemory d' x = []
asked_entry g d i asked.Over d' x = absurd x
asked_entry g d i asked.Done d' x = x.0 ∷ []
asked_entry g d i asked.TooLarge d' x = x.0 ∷ []
asked_entry g d i (asked.Refused e) d' x = x.0 ∷ []

abbrev pub forget_entries : {R : Type 0} (g : Relays R) (d : DriverView R) (n : SessionNo) (a : EndAnswer) (d' : DriverView R) → Forgets g d n a d' → List (Entry R)
forget_entries g d n answer.Done d' x = asked_entry g d (input.Forget n) asked.Done d' x
forget_entries g d n (answer.NotForgotten a) d' x = asked_entry g d (input.Forget n) a d' x.0
forget_entries g d n a d' x = []

abbrev pub let_go_entries : {R : Type 0} (g : Relays R) (d : DriverView R) (n : SessionNo) (a : EndAnswer) (d' : DriverView R) → LetsGo g d n a d' → List (Entry R)
let_go_entries g d n (answer.NotReleased a) d' x = asked_entry g d (input.Release n) a d' x.0
let_go_entries g d n answer.Done d' x = asked_entry g d (input.Release n) asked.Done x.0 x.1 ++ forget_entries g x.0 n answer.Done d' x.2
let_go_entries g d n (answer.NotForgotten a) d' x =
    asked_entry g d (input.Release n) asked.Done x.0 x.1 ++ forget_entries g x.0 n (answer.NotForgotten a) d' x.2
let_go_entries g d n a d' x = []

abbrev pub end_entries : {R : Type 0} (g : Relays R) (d : DriverView R) (n : SessionNo) (error : Option ErrorModel) (a : EndAnswer) (d' : DriverView R)
    → AnswersEnd g d n error a d' → List (Entry R)
end_entries g d n error answer.NotEnded d' x = []
end_entries g d n error (answer.Unsent a) d' x = asked_entry g d (input.End n error) a d' x.1.0
end_entries g d n error answer.Done d' x =
    asked_entry g d (input.End n error) asked.Done x.0 x.2 ++ let_go_entries g x.0 n answer.Done d' x.3
end_entries g d n error (answer.NotReleased a) d' x =
    asked_entry g d (input.End n error) asked.Done x.0 x.2 ++ let_go_entries g x.0 n (answer.NotReleased a) d' x.3
end_entries g d n error (answer.NotForgotten a) d' x =
    asked_entry g d (input.End n error) asked.Done x.0 x.2 ++ let_go_entries g x.0 n (answer.NotForgotten a) d' x.3
