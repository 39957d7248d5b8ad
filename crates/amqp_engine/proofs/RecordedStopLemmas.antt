-- How the peer's End and its Close are recorded.
use Rattle.std.proofs.Common.{◌≡◌, Bool, true, false, Option, Some, None, Result, Ok, Err, refl, ap, sym, subst, ◌∙◌, List, [], ◌∷◌}
use Rattle.amqp_types.specs.declared.states.SessionState.{SessionState}
use Rattle.amqp_types.specs.declared.states.SessionState.TheVariants as at
use Rattle.amqp_types.specs.declared.states.ConnectionState.{ConnectionState}
use Rattle.amqp_types.specs.declared.states.ConnectionState.TheVariants as is
use Rattle.amqp_types.specs.End.{EndModel}
use Rattle.amqp_types.specs.Close.{CloseModel}
use Rattle.amqp_types.specs.Error.{ErrorModel}
use Rattle.amqp_session.specs.declared.stop.SessionStopReason.{SessionStopReason}
use Rattle.amqp_session.specs.Relay.{Relays}
use Rattle.amqp_session.specs.Session.{SessionView}
use Rattle.amqp_session.specs.Step.{StopStep, TakeEndStep}
use Rattle.amqp_session.specs.States.{takes_end}
use Rattle.amqp_session.specs.declared.error.SessionStateError.{SessionStateError}
use Rattle.amqp_session.specs.declared.error.SessionStateError.TheVariants as ended
use Rattle.amqp_session.specs.declared.stop.ConnectionStopReason.{ConnectionStopReason}
use Rattle.amqp_connection.specs.declared.error.ConnectionStateError.{ConnectionStateError}
use Rattle.amqp_connection.specs.declared.error.ConnectionStateError.TheVariants as closed
use Rattle.amqp_connection.specs.States.{takes_close}
use Rattle.amqp_connection.specs.Connection.{ConnectionView, IncomingCloseStep}
use Rattle.amqp_session.specs.History as session
use Rattle.amqp_session.specs.OutgoingFrames.{calls_frames}
use Rattle.amqp_engine.specs.Calls.{recorded_remote_end, remote_end_reason}
use Rattle.amqp_engine.specs.Sessions.{RecordedEnd, comes_to_end}
use Rattle.amqp_engine.specs.Engine.{moved, recorded}

-- whether an End of the peer's moves to this state, and what is recorded then
abbrev pub is_end_received : Option SessionState → Bool
is_end_received (Some at.EndReceived) = true
is_end_received next = false

abbrev pub recorded_if : {R : Type 0} → Bool → Option ErrorModel → List (session.SessionCall R)
recorded_if true error = session.RecordsStop (remote_end_reason error) ∷ []
recorded_if false error = []

pub recorded_as : (R : Type 0) (next : Option SessionState) (error : Option ErrorModel) → recorded_if {R = R} (is_end_received next) error ≡ recorded_remote_end next error
recorded_as R None error = refl
recorded_as R (Some at.Unmapped) error = refl
recorded_as R (Some at.BeginSent) error = refl
recorded_as R (Some at.BeginReceived) error = refl
recorded_as R (Some at.Mapped) error = refl
recorded_as R (Some at.EndSent) error = refl
recorded_as R (Some at.EndReceived) error = refl
recorded_as R (Some at.Discarding) error = refl

pub recorded_chain : {R : Type 0} (g : Relays R) (v w : SessionView R) (reason : SessionStopReason) (error : Option ErrorModel) (ends : Bool) →
    reason ≡ remote_end_reason error → RecordedEnd v reason ends w → session.SessionChain g v (recorded_if ends error) w
recorded_chain g v w reason error true e r = (w, subst (λ x. StopStep v x w) e r, refl)
recorded_chain g v w reason error false e r = r

pub recorded_frames : (R : Type 0) (error : Option ErrorModel) (ends : Bool) → calls_frames {R = R} (recorded_if ends error) ≡ []
recorded_frames R error true = refl
recorded_frames R error false = refl

-- ---- an End moves the state, and that shows whether it came first

-- the state that an End leads to, as one sees it
abbrev seen_at : SessionState → Option SessionState → Bool
seen_at s None = false
seen_at s (Some t) = comes_to_end s t

end_seen : (s : SessionState) → is_end_received (takes_end s) ≡ seen_at s (takes_end s)
end_seen at.Unmapped = refl
end_seen at.BeginSent = refl
end_seen at.BeginReceived = refl
end_seen at.Mapped = refl
end_seen at.EndSent = refl
end_seen at.EndReceived = refl
end_seen at.Discarding = refl

no_move : (s : SessionState) → comes_to_end s s ≡ false
no_move at.Unmapped = refl
no_move at.BeginSent = refl
no_move at.BeginReceived = refl
no_move at.Mapped = refl
no_move at.EndSent = refl
no_move at.EndReceived = refl
no_move at.Discarding = refl

came : (s t : SessionState) → takes_end s ≡ Some t → comes_to_end s t ≡ is_end_received (takes_end s)
came s t e = sym (end_seen s ∙ ap (seen_at s) e)

stayed : (s t : SessionState) → takes_end s ≡ None → t ≡ s → comes_to_end s t ≡ is_end_received (takes_end s)
stayed s t none e = ap (comes_to_end s) e ∙ no_move s ∙ sym (ap is_end_received none)

end_came : {R : Type 0} (v w : SessionView R) (e : EndModel) (result : Result (Unit {0}) SessionStateError) → TakeEndStep v e result w →
    comes_to_end v.state w.state ≡ is_end_received (takes_end v.state)
end_came v w e (Ok u) s = came v.state w.state s.0
end_came v w e (Err (ended.RemoteEndedWithError x)) s = came v.state w.state s.0
end_came v w e (Err ended.RemoteEnded) s = came v.state w.state s.0
end_came v w e (Err ended.IllegalState) s = stayed v.state w.state s.0 (ap (λ (x : SessionView _). x.state) s.1)
end_came v w e (Err x) s = absurd s

pub ends_so : {R : Type 0} (v w : SessionView R) (e : EndModel) (result : Result (Unit {0}) SessionStateError) (before after : SessionState) (ends : Bool) →
    ends ≡ comes_to_end before after → before ≡ v.state → after ≡ w.state → TakeEndStep v e result w → ends ≡ is_end_received (takes_end v.state)
ends_so v w e result before after ends is old new s =
    is ∙ ap (λ x. comes_to_end x after) old ∙ ap (comes_to_end v.state) new ∙ end_came v w e result s

-- ---- and so does a Close

-- where a state takes a Close, what it moves to is seen
close_seen : (s t : ConnectionState) (r : ConnectionStopReason) (k : ConnectionView) → takes_close s ≡ Some t → recorded (moved s t) r k ≡ recorded (takes_close s) r k
close_seen is.Start t r k e = sym (ap (λ n. recorded n r k) e)
close_seen is.HeaderReceived t r k e = sym (ap (λ n. recorded n r k) e)
close_seen is.HeaderSent t r k e = sym (ap (λ n. recorded n r k) e)
close_seen is.HeaderExchange t r k e = sym (ap (λ n. recorded n r k) e)
close_seen is.OpenPipe t r k e = sym (ap (λ n. recorded n r k) e)
close_seen is.OpenClosePipe t r k e = sym (ap (λ n. recorded n r k) e)
close_seen is.OpenReceived t r k e = sym (ap (λ n. recorded n r k) e)
close_seen is.OpenSent t r k e = sym (ap (λ n. recorded n r k) e)
close_seen is.ClosePipe t r k e = sym (ap (λ n. recorded n r k) e)
close_seen is.Opened t r k e = sym (ap (λ n. recorded n r k) e)
close_seen is.CloseReceived t r k e = absurd cc
close_seen is.CloseSent t r k e = sym (ap (λ n. recorded n r k) e)
close_seen is.Discarding t r k e = sym (ap (λ n. recorded n r k) e)
close_seen is.End t r k e = sym (ap (λ n. recorded n r k) e)

none_closed : (s : ConnectionState) (r : ConnectionStopReason) (k : ConnectionView) → recorded (moved s s) r k ≡ k
none_closed is.Start r k = refl
none_closed is.HeaderReceived r k = refl
none_closed is.HeaderSent r k = refl
none_closed is.HeaderExchange r k = refl
none_closed is.OpenPipe r k = refl
none_closed is.OpenClosePipe r k = refl
none_closed is.OpenReceived r k = refl
none_closed is.OpenSent r k = refl
none_closed is.ClosePipe r k = refl
none_closed is.Opened r k = refl
none_closed is.CloseReceived r k = refl
none_closed is.CloseSent r k = refl
none_closed is.Discarding r k = refl
none_closed is.End r k = refl

stands : (s t : ConnectionState) (r : ConnectionStopReason) (k : ConnectionView) → takes_close s ≡ None → t ≡ s → recorded (moved s t) r k ≡ recorded (takes_close s) r k
stands s t r k none e = ap (λ x. recorded (moved s x) r k) e ∙ none_closed s r k ∙ sym (ap (λ n. recorded n r k) none)

came_to : (s t : ConnectionState) (r : ConnectionStopReason) (k : ConnectionView) (next : ConnectionState) → takes_close s ≡ Some next → t ≡ next → recorded (moved s t) r k ≡ recorded (takes_close s) r k
came_to s t r k next e is = ap (λ x. recorded (moved s x) r k) is ∙ close_seen s next r k e

close_came : (v k : ConnectionView) (c : CloseModel) (refusal : Option ConnectionStateError) (r : ConnectionStopReason) → IncomingCloseStep v c refusal k →
    recorded (moved v.state k.state) r k ≡ recorded (takes_close v.state) r k
close_came v k c (Some closed.IllegalState) r s = stands v.state k.state r k s.0 (ap (λ (x : ConnectionView). x.state) s.1)
close_came v k c (Some (closed.RemoteClosedWithError e)) r s = came_to v.state k.state r k s.0 s.1 (ap (λ (x : ConnectionView). x.state) s.3)
close_came v k c (Some closed.RemoteClosed) r s = came_to v.state k.state r k s.0 s.1 (ap (λ (x : ConnectionView). x.state) s.3)
close_came v k c (Some (closed.TransportError t)) r s = came_to v.state k.state r k s.0 s.1 (ap (λ (x : ConnectionView). x.state) s.3)
close_came v k c (Some closed.OutOfMemory) r s = came_to v.state k.state r k s.0 s.1 (ap (λ (x : ConnectionView). x.state) s.3)
close_came v k c None r s = came_to v.state k.state r k s.0 s.1 (ap (λ (x : ConnectionView). x.state) s.3)

pub recorded_so : (v k w : ConnectionView) (c : CloseModel) (refusal : Option ConnectionStateError) (before : ConnectionState) (r r' : ConnectionStopReason) →
    w ≡ recorded (moved before k.state) r k → before ≡ v.state → r ≡ r' → IncomingCloseStep v c refusal k → w ≡ recorded (takes_close v.state) r' k
recorded_so v k w c refusal before r r' is old same s =
    is ∙ ap (λ x. recorded (moved x k.state) r k) old ∙ close_came v k c refusal r s ∙ ap (λ x. recorded (takes_close v.state) x k) same
