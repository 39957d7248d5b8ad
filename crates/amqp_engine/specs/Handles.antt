-- Part: handles.
-- What a handle says and asks, of the engine that the call is handed.
use Rattle.std.specs.Prelude.{◌≡◌, ℕ, Option, Some, None, Result, Ok, Err, Bool, true, false, ◌||◌, nat_eq}
use Rattle.std.specs.Map.{lookup}
use Rattle.std.specs.FinMap as map
use Rattle.amqp_types.specs.Error.{ErrorModel}
use Rattle.amqp_types.specs.declared.states.ConnectionState.{ConnectionState}
use Rattle.amqp_types.specs.declared.states.ConnectionState.TheVariants as at
use Rattle.amqp_types.specs.declared.states.SessionState.{SessionState}
use Rattle.amqp_types.specs.declared.states.SessionState.TheVariants as stands
use Rattle.amqp_session.specs.Session.{SessionView}
use Rattle.amqp_session.specs.Errors as session
use Rattle.amqp_session.specs.declared.error.Error as ended
use Rattle.amqp_session.specs.declared.error.Error.TheVariants as unended
use Rattle.amqp_session.specs.declared.error.TryEndError.{TryEndError}
use Rattle.amqp_session.specs.declared.error.TryEndError.TheVariants as not_ended
use Rattle.amqp_connection.specs.declared.error.Error as closed
use Rattle.amqp_connection.specs.declared.error.Error.TheVariants as unclosed
use Rattle.amqp_connection.specs.declared.error.TryCloseError.{TryCloseError}
use Rattle.amqp_connection.specs.declared.error.TryCloseError.TheVariants as not_closed
use Rattle.amqp_connection.specs.ConnectionErrors.{error_of_state}
use Rattle.amqp_engine.specs.EngineView.{EngineView}
use Rattle.amqp_engine.specs.Kept.{CloseOutcome, EndOutcome, close_wished, end_wished}

-- ---- of a connection: a handle sees whether it has given the answer

abbrev pub CloseAnswer : Type 0
CloseAnswer = Result (Unit {0}) closed.Error

abbrev pub is_end : ConnectionState → Bool
is_end at.End = true
is_end s = false

-- closed at both ends
abbrev pub is_closed : {R : Type 0} → Bool → EngineView R → Bool
is_closed answered v = answered || is_end v.connection.state

abbrev pub close_answer_of : CloseOutcome → CloseAnswer
close_answer_of (Ok u) = Ok u
close_answer_of (Err e) = Err (error_of_state e)

-- The answer: none before the state is End; then the outcome, once.
abbrev pub close_answer_at : ConnectionState → Option CloseOutcome → Option CloseAnswer
close_answer_at at.End None = Some (Err unclosed.IllegalState)
close_answer_at at.End (Some o) = Some (close_answer_of o)
close_answer_at s o = None

abbrev pub close_noted : {R : Type 0} → Option ErrorModel → EngineView R → EngineView R
close_noted error v = record v { wishes = close_wished error v.wishes }

abbrev pub close_taken : {R : Type 0} → EngineView R → EngineView R
close_taken v = record v { outcomes = record v.outcomes { connection = None } }

-- A Close is wished, unless the answer was given.
abbrev pub CloseCall : {R : Type 0} → Bool → Option ErrorModel → EngineView R → CloseAnswer → EngineView R → Type 0
CloseCall true error v answer w = (answer ≡ Err unclosed.IllegalState) × (w ≡ v)
CloseCall false error v answer w = (answer ≡ Ok tt) × (w ≡ close_noted error v)

abbrev pub TriesClose : {R : Type 0} → Option CloseAnswer → EngineView R → Result CloseAnswer TryCloseError → Bool → EngineView R → Type 0
TriesClose None v answer answered w = (answer ≡ Err not_closed.RemoteCloseNotReceived) × (answered ≡ false) × (w ≡ v)
TriesClose (Some o) v answer answered w = (answer ≡ Ok o) × (answered ≡ true) × (w ≡ close_taken v)

-- A Close is wished where none is, and the answer is given, where there is one.
abbrev pub TryCloseCall : {R : Type 0} → Bool → EngineView R → Result CloseAnswer TryCloseError → Bool → EngineView R → Type 0
TryCloseCall true v answer answered w = (answer ≡ Err not_closed.AlreadyClosed) × (answered ≡ true) × (w ≡ v)
TryCloseCall false v answer answered w =
    TriesClose (close_answer_at v.connection.state v.outcomes.connection) (close_noted None v) answer answered w

-- ---- of a session: a handle sees its number, and whether it has given the answer

pub record SessionHandleView : Type 0 where
  pub number : ℕ
  pub answered : Bool

abbrev pub EndAnswer : Type 0
EndAnswer = Result (Unit {0}) ended.Error

abbrev pub is_unmapped : SessionState → Bool
is_unmapped stands.Unmapped = true
is_unmapped s = false

-- a number that was never begun has ended
abbrev pub has_ended : {R : Type 0} → Option (SessionView R) → Bool
has_ended None = true
has_ended (Some s) = is_unmapped s.state

abbrev pub is_ended : {R : Type 0} → SessionHandleView → EngineView R → Bool
is_ended h v = h.answered || has_ended (lookup (nat_eq h.number) v.sessions)

abbrev pub end_answer_of : EndOutcome → EndAnswer
end_answer_of (Ok u) = Ok u
end_answer_of (Err e) = Err (session.error_of_state e)

-- The answer: none before the state is Unmapped; then the outcome, once.
abbrev pub end_answer_at : SessionState → Option EndOutcome → Option EndAnswer
end_answer_at stands.Unmapped None = Some (Err unended.IllegalState)
end_answer_at stands.Unmapped (Some o) = Some (end_answer_of o)
end_answer_at s o = None

abbrev pub end_noted : {R : Type 0} → ℕ → Option ErrorModel → EngineView R → EngineView R
end_noted n error v = record v { wishes = end_wished n error v.wishes }

abbrev pub end_taken : {R : Type 0} → ℕ → EngineView R → EngineView R
end_taken n v = record v { outcomes = record v.outcomes { sessions = map.remove v.outcomes.sessions n } }

-- An End is wished of a session that the engine knows.
abbrev pub WishesEnd : {R : Type 0} → ℕ → Option (SessionView R) → Option ErrorModel → EngineView R → EndAnswer → EngineView R → Type 0
WishesEnd n None error v answer w = (answer ≡ Err unended.IllegalState) × (w ≡ v)
WishesEnd n (Some s) error v answer w = (answer ≡ Ok tt) × (w ≡ end_noted n error v)

-- so it is, unless the answer was given
abbrev pub EndCall : {R : Type 0} → SessionHandleView → Option ErrorModel → EngineView R → EndAnswer → EngineView R → Type 0
EndCall h error v answer w =
    (h.answered ≡ true → (answer ≡ Err unended.IllegalState) × (w ≡ v))
    × (h.answered ≡ false → WishesEnd h.number (lookup (nat_eq h.number) v.sessions) error v answer w)

abbrev pub TriesEnd : {R : Type 0} → ℕ → Option EndAnswer → EngineView R → Result EndAnswer TryEndError → Bool → EngineView R → Type 0
TriesEnd n None v answer answered w = (answer ≡ Err not_ended.RemoteEndNotReceived) × (answered ≡ false) × (w ≡ v)
TriesEnd n (Some o) v answer answered w = (answer ≡ Ok o) × (answered ≡ true) × (w ≡ end_taken n v)

-- An End is wished where none is, and the answer is given, where there is one; of a number that was never begun, IllegalState.
abbrev pub AsksEnd : {R : Type 0} → ℕ → Option (SessionView R) → EngineView R → Result EndAnswer TryEndError → Bool → EngineView R → Type 0
AsksEnd n None v answer answered w = (answer ≡ Ok (Err unended.IllegalState)) × (answered ≡ true) × (w ≡ v)
AsksEnd n (Some s) v answer answered w = TriesEnd n (end_answer_at s.state (map.get v.outcomes.sessions n)) (end_noted n None v) answer answered w

abbrev pub TryEndCall : {R : Type 0} →
    SessionHandleView → EngineView R → Result EndAnswer TryEndError → SessionHandleView → EngineView R → Type 0
TryEndCall h v answer h' w =
    (h'.number ≡ h.number) × (h.answered ≡ true → (answer ≡ Err not_ended.AlreadyEnded) × (h'.answered ≡ true) × (w ≡ v))
    × (h.answered ≡ false → AsksEnd h.number (lookup (nat_eq h.number) v.sessions) v answer h'.answered w)
