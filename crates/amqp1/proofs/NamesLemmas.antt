-- What refusals are called, and what answers them: the tables say it of each.
use Rattle.std.proofs.Common.{◌≡◌, ◌/◌, ℕ, Bool, true, false, List, Option, Some, None, refl, sym, ◌∙◌, ap, arith, nat_eq, cond}
use Rattle.std.proofs.lemmas.Bool.Decides.{nat_tests}
use Rattle.std.proofs.lemmas.Grind.{common_steps}
use Rattle.amqp_frames.specs.declared.error.Error.TheVariants as frame
use Rattle.amqp_connection.specs.declared.error.ConnectionStateError.TheVariants as state
use Rattle.amqp_connection.specs.declared.error.ConnectionInnerError.TheVariants as inner
use Rattle.amqp_connection.specs.declared.error.AllocSessionError.TheVariants as full
use Rattle.amqp_session.specs.declared.error.SessionStateError.TheVariants as begun
use Rattle.amqp_session.specs.declared.error.SessionInnerError.TheVariants as session
use Rattle.amqp_session.specs.declared.error.AllocLinkError.TheVariants as link
use Rattle.amqp_engine.specs.declared.engine.step_error.StepError.{StepError}
use Rattle.amqp_engine.specs.declared.engine.step_error.StepError.TheVariants as no
use Rattle.amqp_driver.specs.Refusals.{refusal_number}
use Rattle.fe2o3_amqp.specs.declared.refusals.PeerAnswer.{PeerAnswer}
use Rattle.fe2o3_amqp.specs.Refusals.{step_answer}
use Rattle.fe2o3_amqp.specs.Transcript.{name_of}
use Rattle.amqp1.specs.Names.{IsAnsweredBy, IsCalled, is_engines, is_drivers}
use Rattle.amqp1.specs.Inner.NameTables.{answer_at, answer_by, closing_at, ending_at, name_at, step_name_at, frame_name_at, state_name_at, inner_name_at}
use Rattle.amqp1.specs.Inner.NameTables.{alloc_name_at, begun_name_at, session_name_at, link_name_at, own_name_at, opening_name_at, sending_name_at}

named : (e : StepError) → name_at (refusal_number e) ≡ Some (name_of e)
named no.OutputWaiting = refl
named no.NoSession = refl
named no.SessionInUse = refl
named no.OutOfMemory = refl
named (no.Frame (frame.Io text)) = refl
named (no.Frame frame.DecodeError) = refl
named (no.Frame frame.NotImplemented) = refl
named (no.Frame frame.TooLarge) = refl
named (no.Frame frame.OutOfMemory) = refl
named (no.ConnectionState state.IllegalState) = refl
named (no.ConnectionState state.RemoteClosed) = refl
named (no.ConnectionState (state.RemoteClosedWithError e)) = refl
named (no.ConnectionState (state.TransportError text)) = refl
named (no.ConnectionState state.OutOfMemory) = refl
named (no.Connection (inner.TransportError text)) = refl
named (no.Connection inner.IllegalState) = refl
named (no.Connection (inner.NotImplemented text)) = refl
named (no.Connection (inner.NotFound text)) = refl
named (no.Connection inner.RemoteClosed) = refl
named (no.Connection (inner.RemoteClosedWithError e)) = refl
named (no.Connection inner.OutOfMemory) = refl
named (no.AllocSession full.ConnectionNotOpened) = refl
named (no.AllocSession (full.ConnectionStopped reason)) = refl
named (no.AllocSession full.ChannelMaxReached) = refl
named (no.AllocSession full.OutOfMemory) = refl
named (no.SessionState begun.IllegalState) = refl
named (no.SessionState (begun.ConnectionStopped reason)) = refl
named (no.SessionState begun.RemoteEnded) = refl
named (no.SessionState (begun.RemoteEndedWithError e)) = refl
named (no.SessionState begun.OutOfMemory) = refl
named (no.Session session.UnattachedHandle) = refl
named (no.Session session.RemoteAttachingLinkNameNotFound) = refl
named (no.Session session.HandleInUse) = refl
named (no.Session session.IllegalState) = refl
named (no.Session (session.ConnectionStopped reason)) = refl
named (no.Session session.TransferFrameToSender) = refl
named (no.Session session.RemoteEnded) = refl
named (no.Session (session.RemoteEndedWithError e)) = refl
named (no.Session session.UnknownTxnId) = refl
named (no.Session session.OutOfMemory) = refl
named (no.AllocLink link.SessionNotMapped) = refl
named (no.AllocLink (link.SessionStopped reason)) = refl
named (no.AllocLink link.DuplicatedLinkName) = refl
named (no.AllocLink link.HandlesExhausted) = refl
named (no.AllocLink link.OutOfMemory) = refl

answered : (e : StepError) → answer_at (refusal_number e) ≡ step_answer e
answered no.OutputWaiting = refl
answered no.NoSession = refl
answered no.SessionInUse = refl
answered no.OutOfMemory = refl
answered (no.Frame (frame.Io text)) = refl
answered (no.Frame frame.DecodeError) = refl
answered (no.Frame frame.NotImplemented) = refl
answered (no.Frame frame.TooLarge) = refl
answered (no.Frame frame.OutOfMemory) = refl
answered (no.ConnectionState state.IllegalState) = refl
answered (no.ConnectionState state.RemoteClosed) = refl
answered (no.ConnectionState (state.RemoteClosedWithError e)) = refl
answered (no.ConnectionState (state.TransportError text)) = refl
answered (no.ConnectionState state.OutOfMemory) = refl
answered (no.Connection (inner.TransportError text)) = refl
answered (no.Connection inner.IllegalState) = refl
answered (no.Connection (inner.NotImplemented text)) = refl
answered (no.Connection (inner.NotFound text)) = refl
answered (no.Connection inner.RemoteClosed) = refl
answered (no.Connection (inner.RemoteClosedWithError e)) = refl
answered (no.Connection inner.OutOfMemory) = refl
answered (no.AllocSession full.ConnectionNotOpened) = refl
answered (no.AllocSession (full.ConnectionStopped reason)) = refl
answered (no.AllocSession full.ChannelMaxReached) = refl
answered (no.AllocSession full.OutOfMemory) = refl
answered (no.SessionState begun.IllegalState) = refl
answered (no.SessionState (begun.ConnectionStopped reason)) = refl
answered (no.SessionState begun.RemoteEnded) = refl
answered (no.SessionState (begun.RemoteEndedWithError e)) = refl
answered (no.SessionState begun.OutOfMemory) = refl
answered (no.Session session.UnattachedHandle) = refl
answered (no.Session session.RemoteAttachingLinkNameNotFound) = refl
answered (no.Session session.HandleInUse) = refl
answered (no.Session session.IllegalState) = refl
answered (no.Session (session.ConnectionStopped reason)) = refl
answered (no.Session session.TransferFrameToSender) = refl
answered (no.Session session.RemoteEnded) = refl
answered (no.Session (session.RemoteEndedWithError e)) = refl
answered (no.Session session.UnknownTxnId) = refl
answered (no.Session session.OutOfMemory) = refl
answered (no.AllocLink link.SessionNotMapped) = refl
answered (no.AllocLink (link.SessionStopped reason)) = refl
answered (no.AllocLink link.DuplicatedLinkName) = refl
answered (no.AllocLink link.HandlesExhausted) = refl
answered (no.AllocLink link.OutOfMemory) = refl

-- ---- no other number

differ : (n k : ℕ) → ¬ (n ≡ k) → nat_eq n k ≡ false
differ n k h = grind (arith, nat_tests, common_steps)

no_engines : (n k : ℕ) → is_engines n ≡ false → is_engines k ≡ true → nat_eq n k ≡ false
no_engines n k h t = differ n k (λ e. let x : true ≡ false = sym t ∙ ap is_engines (sym e) ∙ h in absurd cc)

-- past a test that fails, and where both ways lead to the same
past : {X : Type 0} {y z : X} (b : Bool) (x : X) → b ≡ false → y ≡ z → cond b x y ≡ z
past true x h e = absurd cc
past false x h e = e

either : {X : Type 0} {x y z : X} (b : Bool) → x ≡ z → y ≡ z → cond b x y ≡ z
either true d e = d
either false d e = e

step_none : (n : ℕ) → is_engines n ≡ false → step_name_at n ≡ None
step_none n h =
    past (nat_eq n 1) _ (no_engines n 1 h refl) (past (nat_eq n 2) _ (no_engines n 2 h refl) (past (nat_eq n 3) _ (no_engines n 3 h refl)
    (past (nat_eq n 4) _ (no_engines n 4 h refl) refl)))

frame_none : (n : ℕ) → is_engines n ≡ false → frame_name_at n ≡ None
frame_none n h =
    past (nat_eq n 11) _ (no_engines n 11 h refl) (past (nat_eq n 12) _ (no_engines n 12 h refl) (past (nat_eq n 13) _ (no_engines n 13 h refl)
    (past (nat_eq n 14) _ (no_engines n 14 h refl) (past (nat_eq n 15) _ (no_engines n 15 h refl) refl))))

state_none : (n : ℕ) → is_engines n ≡ false → state_name_at n ≡ None
state_none n h =
    past (nat_eq n 21) _ (no_engines n 21 h refl) (past (nat_eq n 22) _ (no_engines n 22 h refl) (past (nat_eq n 23) _ (no_engines n 23 h refl)
    (past (nat_eq n 24) _ (no_engines n 24 h refl) (past (nat_eq n 25) _ (no_engines n 25 h refl) refl))))

inner_none : (n : ℕ) → is_engines n ≡ false → inner_name_at n ≡ None
inner_none n h =
    past (nat_eq n 31) _ (no_engines n 31 h refl) (past (nat_eq n 32) _ (no_engines n 32 h refl) (past (nat_eq n 33) _ (no_engines n 33 h refl)
    (past (nat_eq n 34) _ (no_engines n 34 h refl) (past (nat_eq n 35) _ (no_engines n 35 h refl) (past (nat_eq n 36) _ (no_engines n 36 h refl)
    (past (nat_eq n 37) _ (no_engines n 37 h refl) refl))))))

alloc_none : (n : ℕ) → is_engines n ≡ false → alloc_name_at n ≡ None
alloc_none n h =
    past (nat_eq n 41) _ (no_engines n 41 h refl) (past (nat_eq n 42) _ (no_engines n 42 h refl) (past (nat_eq n 43) _ (no_engines n 43 h refl)
    (past (nat_eq n 44) _ (no_engines n 44 h refl) refl)))

begun_none : (n : ℕ) → is_engines n ≡ false → begun_name_at n ≡ None
begun_none n h =
    past (nat_eq n 51) _ (no_engines n 51 h refl) (past (nat_eq n 52) _ (no_engines n 52 h refl) (past (nat_eq n 53) _ (no_engines n 53 h refl)
    (past (nat_eq n 54) _ (no_engines n 54 h refl) (past (nat_eq n 55) _ (no_engines n 55 h refl) refl))))

session_none : (n : ℕ) → is_engines n ≡ false → session_name_at n ≡ None
session_none n h =
    past (nat_eq n 61) _ (no_engines n 61 h refl) (past (nat_eq n 62) _ (no_engines n 62 h refl) (past (nat_eq n 63) _ (no_engines n 63 h refl)
    (past (nat_eq n 64) _ (no_engines n 64 h refl) (past (nat_eq n 65) _ (no_engines n 65 h refl) (past (nat_eq n 66) _ (no_engines n 66 h refl)
    (past (nat_eq n 67) _ (no_engines n 67 h refl) (past (nat_eq n 68) _ (no_engines n 68 h refl) (past (nat_eq n 69) _ (no_engines n 69 h refl)
    (past (nat_eq n 70) _ (no_engines n 70 h refl) refl)))))))))

link_none : (n : ℕ) → is_engines n ≡ false → link_name_at n ≡ None
link_none n h =
    past (nat_eq n 81) _ (no_engines n 81 h refl) (past (nat_eq n 82) _ (no_engines n 82 h refl) (past (nat_eq n 83) _ (no_engines n 83 h refl)
    (past (nat_eq n 84) _ (no_engines n 84 h refl) (past (nat_eq n 85) _ (no_engines n 85 h refl) refl))))

no_drivers : (n k : ℕ) → is_drivers n ≡ false → is_drivers k ≡ true → nat_eq n k ≡ false
no_drivers n k h t = differ n k (λ e. let x : true ≡ false = sym t ∙ ap is_drivers (sym e) ∙ h in absurd cc)

own_none : (n : ℕ) → is_drivers n ≡ false → own_name_at n ≡ None
own_none n h = past (nat_eq n 91) _ (no_drivers n 91 h refl) (past (nat_eq n 92) _ (no_drivers n 92 h refl) refl)

opening_none : (n : ℕ) → is_drivers n ≡ false → opening_name_at n ≡ None
opening_none n h =
    past (nat_eq n 101) _ (no_drivers n 101 h refl) (past (nat_eq n 102) _ (no_drivers n 102 h refl) (past (nat_eq n 103) _ (no_drivers n 103 h refl)
    (past (nat_eq n 104) _ (no_drivers n 104 h refl) (past (nat_eq n 105) _ (no_drivers n 105 h refl) (past (nat_eq n 106) _ (no_drivers n 106 h refl)
    (past (nat_eq n 107) _ (no_drivers n 107 h refl) (past (nat_eq n 108) _ (no_drivers n 108 h refl) refl)))))))

sending_none : (n : ℕ) → is_drivers n ≡ false → sending_name_at n ≡ None
sending_none n h =
    past (nat_eq n 111) _ (no_drivers n 111 h refl) (past (nat_eq n 112) _ (no_drivers n 112 h refl) (past (nat_eq n 113) _ (no_drivers n 113 h refl)
    (past (nat_eq n 114) _ (no_drivers n 114 h refl) (past (nat_eq n 115) _ (no_drivers n 115 h refl) (past (nat_eq n 116) _ (no_drivers n 116 h refl) refl)))))

none_named : (n : ℕ) → is_engines n ≡ false → is_drivers n ≡ false → name_at n ≡ None
none_named n h d =
    either (nat_eq (n / 10) 0) (step_none n h) (either (nat_eq (n / 10) 1) (frame_none n h) (either (nat_eq (n / 10) 2) (state_none n h)
    (either (nat_eq (n / 10) 3) (inner_none n h) (either (nat_eq (n / 10) 4) (alloc_none n h) (either (nat_eq (n / 10) 5) (begun_none n h)
    (either (nat_eq (n / 10) 6) (session_none n h) (either (nat_eq (n / 10) 7) (session_none n h)
    (either (nat_eq (n / 10) 8) (link_none n h) (either (nat_eq (n / 10) 9) (own_none n d)
    (either (nat_eq (n / 10) 10) (opening_none n d) (sending_none n d)))))))))))

closing_none : (n : ℕ) → is_engines n ≡ false → closing_at n ≡ None
closing_none n h =
    past (nat_eq n 4) _ (no_engines n 4 h refl) (past (nat_eq n 15) _ (no_engines n 15 h refl) (past (nat_eq n 37) _ (no_engines n 37 h refl)
    (past (nat_eq n 12) _ (no_engines n 12 h refl) (past (nat_eq n 13) _ (no_engines n 13 h refl) (past (nat_eq n 33) _ (no_engines n 33 h refl)
    (past (nat_eq n 21) _ (no_engines n 21 h refl) (past (nat_eq n 32) _ (no_engines n 32 h refl)
    (past (nat_eq n 34) _ (no_engines n 34 h refl) refl))))))))

ending_none : (n : ℕ) → is_engines n ≡ false → ending_at n ≡ None
ending_none n h =
    past (nat_eq n 51) _ (no_engines n 51 h refl) (past (nat_eq n 61) _ (no_engines n 61 h refl) (past (nat_eq n 62) _ (no_engines n 62 h refl)
    (past (nat_eq n 63) _ (no_engines n 63 h refl) (past (nat_eq n 66) _ (no_engines n 66 h refl) (past (nat_eq n 69) _ (no_engines n 69 h refl)
    (past (nat_eq n 70) _ (no_engines n 70 h refl) refl))))))

none_answered : (n : ℕ) → is_engines n ≡ false → answer_at n ≡ None
none_answered n h = ap (λ c. answer_by c (ending_at n)) (closing_none n h) ∙ ap (λ c. answer_by None c) (ending_none n h)

pub is_called : (n : ℕ) (name : Option (List ℕ)) → name ≡ name_at n → IsCalled n name
is_called n name e = record {
  engine = λ x h. e ∙ ap name_at (sym h) ∙ named x;
  too_long = λ h. e ∙ ap name_at h;
  tag_too_long = λ h. e ∙ ap name_at h;
  no_mechanism = λ h. e ∙ ap name_at h;
  not_offered = λ h. e ∙ ap name_at h;
  login_refused = λ h. e ∙ ap name_at h;
  other_protocol = λ h. e ∙ ap name_at h;
  other_header = λ h. e ∙ ap name_at h;
  not_amqp = λ h. e ∙ ap name_at h;
  malformed_sasl = λ h. e ∙ ap name_at h;
  unexpected_sasl = λ h. e ∙ ap name_at h;
  no_sender = λ h. e ∙ ap name_at h;
  not_attached = λ h. e ∙ ap name_at h;
  too_large = λ h. e ∙ ap name_at h;
  none_under_way = λ h. e ∙ ap name_at h;
  no_credit = λ h. e ∙ ap name_at h;
  not_next = λ h. e ∙ ap name_at h;
  other = λ h d. e ∙ none_named n h d;
}

pub is_answered : (n : ℕ) (answer : Option PeerAnswer) → answer ≡ answer_at n → IsAnsweredBy n answer
is_answered n answer e = record { engine = λ x h. e ∙ ap answer_at (sym h) ∙ answered x; other = λ h. e ∙ none_answered n h }
