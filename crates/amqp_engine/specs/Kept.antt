-- Part: every call exactly; handles.
-- What an engine keeps for handles: how the peer closed the connection or ended a session, until a handle asks for it, and what
-- handles wish.
use Rattle.std.specs.Prelude.{ℕ, Option, Some, None, Result, Ok, Err}
use Rattle.std.specs.Ordering.{nat_cmp}
use Rattle.std.specs.FinMap as map
use Rattle.amqp_types.specs.Error.{ErrorModel}
use Rattle.amqp_frames.specs.declared.frame.Frame.{Frame}
use Rattle.amqp_frames.specs.declared.frame.FrameBody.{FrameBody}
use Rattle.amqp_frames.specs.declared.frame.FrameBody.TheVariants as body
use Rattle.amqp_session.specs.declared.error.SessionStateError.{SessionStateError}
use Rattle.amqp_session.specs.declared.error.SessionStateError.TheVariants as ended
use Rattle.amqp_connection.specs.declared.error.ConnectionStateError.{ConnectionStateError}
use Rattle.amqp_connection.specs.declared.error.ConnectionStateError.TheVariants as closed
use Rattle.amqp_engine.specs.declared.engine.input.Input.{Input}
use Rattle.amqp_engine.specs.declared.engine.input.Input.TheVariants as input
use Rattle.amqp_engine.specs.declared.engine.step_error.StepError.{StepError}
use Rattle.amqp_engine.specs.declared.engine.step_error.StepError.TheVariants as no

-- how a Close of the peer's was answered, and how an End was
abbrev pub CloseOutcome : Type 0
CloseOutcome = Result (Unit {0}) ConnectionStateError

abbrev pub EndOutcome : Type 0
EndOutcome = Result (Unit {0}) SessionStateError

-- outcomes that no handle has taken: the connection's, and those of sessions by their numbers
pub record Outcomes : Type 0 where
  pub connection : Option CloseOutcome
  pub sessions : map.FinMap nat_cmp EndOutcome

-- wishes that no run has taken: a Close, and Ends by the numbers of their sessions, each with its error, if any
pub record Wishes : Type 0 where
  pub close : Option (Option ErrorModel)
  pub ends : map.FinMap nat_cmp (Option ErrorModel)

abbrev pub no_outcomes : Outcomes
no_outcomes = record { connection = None; sessions = map.empty }

abbrev pub no_wishes : Wishes
no_wishes = record { close = None; ends = map.empty }

-- ---- what is kept of an entry

-- the answer of a Close, unless the state takes none
abbrev pub close_answer : Option StepError → Option CloseOutcome
close_answer None = Some (Ok tt)
close_answer (Some (no.ConnectionState closed.RemoteClosed)) = Some (Err closed.RemoteClosed)
close_answer (Some (no.ConnectionState (closed.RemoteClosedWithError e))) = Some (Err (closed.RemoteClosedWithError e))
close_answer (Some e) = None

-- the answer of an End, unless the state takes none
abbrev pub end_answer : Option StepError → Option EndOutcome
end_answer None = Some (Ok tt)
end_answer (Some (no.SessionState ended.RemoteEnded)) = Some (Err ended.RemoteEnded)
end_answer (Some (no.SessionState (ended.RemoteEndedWithError e))) = Some (Err (ended.RemoteEndedWithError e))
end_answer (Some e) = None

abbrev pub close_kept : Option CloseOutcome → Outcomes → Outcomes
close_kept None o = o
close_kept (Some answer) o = record o { connection = Some answer }

abbrev pub end_kept : ℕ → Option EndOutcome → Outcomes → Outcomes
end_kept n None o = o
end_kept n (Some answer) o = record o { sessions = map.insert o.sessions n answer }

-- The last answer stays: that of a Close of the peer's, and that of an End that reaches session n.
abbrev pub outcomes_with : FrameBody → Option ℕ → Option StepError → Outcomes → Outcomes
outcomes_with (body.Close c) reached refusal o = close_kept (close_answer refusal) o
outcomes_with (body.End e) (Some n) refusal o = end_kept n (end_answer refusal) o
outcomes_with b reached refusal o = o

-- only a received frame leaves an outcome
abbrev pub outcomes_by : Option Frame → Option ℕ → Option StepError → Outcomes → Outcomes
outcomes_by None reached refusal o = o
outcomes_by (Some f) reached refusal o = outcomes_with f.body reached refusal o

-- with a session that is forgotten its outcome goes
abbrev pub outcomes_without : {R : Type 0} → Input R → Option StepError → Outcomes → Outcomes
outcomes_without (input.Forget n) None o = record o { sessions = map.remove o.sessions n.0 }
outcomes_without i refusal o = o

-- what an entry leaves
abbrev pub outcomes_after : {R : Type 0} → Input R → Option Frame → Option ℕ → Option StepError → Outcomes → Outcomes
outcomes_after i received reached refusal o = outcomes_without i refusal (outcomes_by received reached refusal o)

-- ---- wishes

-- The first wish that is noted stays.
abbrev pub close_noted : Option (Option ErrorModel) → Option ErrorModel → Wishes → Wishes
close_noted None error w = record w { close = Some error }
close_noted (Some old) error w = w

abbrev pub end_noted : Option (Option ErrorModel) → ℕ → Option ErrorModel → Wishes → Wishes
end_noted None n error w = record w { ends = map.insert w.ends n error }
end_noted (Some old) n error w = w

-- a Close is wished, and an End of session n
abbrev pub close_wished : Option ErrorModel → Wishes → Wishes
close_wished error w = close_noted w.close error w

abbrev pub end_wished : ℕ → Option ErrorModel → Wishes → Wishes
end_wished n error w = end_noted (map.get w.ends n) n error w
