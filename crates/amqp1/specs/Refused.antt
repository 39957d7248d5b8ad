-- Part: other calls.
-- The last refusal of a request: its name, and the condition that answers a frame that is refused so, or the peer's own error.
use Rattle.std.specs.Prelude.{[], ℕ, List, Option, Some, None, codes}
use Rattle.amqp_types.specs.Error.{ErrorModel}
use Rattle.amqp_types.specs.declared.states.ConnectionState.{ConnectionState}
use Rattle.amqp_session.specs.declared.error.SessionStateError.TheVariants as session
use Rattle.amqp_connection.specs.declared.error.ConnectionStateError.TheVariants as connection
use Rattle.amqp_engine.specs.declared.engine.step_error.StepError.{StepError}
use Rattle.amqp_engine.specs.declared.engine.step_error.StepError.TheVariants as step
use Rattle.amqp_driver.specs.declared.answered.BeginAnswer.{BeginAnswer}
use Rattle.amqp_driver.specs.declared.answered.BeginAnswer.TheVariants as begun
use Rattle.amqp_driver.specs.declared.answered.EndAnswer.{EndAnswer}
use Rattle.amqp_driver.specs.declared.answered.EndAnswer.TheVariants as ended
use Rattle.amqp_driver.specs.declared.answered.RecordAnswer.{RecordAnswer}
use Rattle.amqp_driver.specs.declared.answered.RecordAnswer.TheVariants as answer
use Rattle.amqp_driver.specs.declared.asked.Asked.{Asked}
use Rattle.amqp_driver.specs.declared.asked.Asked.TheVariants as asked
use Rattle.fe2o3_amqp.specs.Conditions.{condition_text}
use Rattle.fe2o3_amqp.specs.Refusals.{answer_of}
use Rattle.fe2o3_amqp.specs.Transcript.{name_of}
use Rattle.fe2o3_amqp.specs.declared.refusals.PeerAnswer.{PeerAnswer}
use Rattle.fe2o3_amqp.specs.declared.refusals.PeerAnswer.TheVariants as by

pub record RefusedModel : Type 0 where
  pub name : List ℕ
  pub condition : List ℕ
  -- the error of a Close or an End of the peer's
  pub peer : Option ErrorModel

abbrev pub nothing : RefusedModel
nothing = record { name = []; condition = []; peer = None }

-- a frame of the request is longer than the peer takes (AMQP 1.0 part 2, section 2.7.1), or than a SASL frame may be (part 5, section 5.3.1)
abbrev pub too_large : RefusedModel
too_large = record { name = codes "TooLarge"; condition = []; peer = None }

-- the link of a transfer that is requested is not attached by the peer
abbrev pub unattached : RefusedModel
unattached = record { name = codes "UnattachedHandle"; condition = []; peer = None }

-- the condition that an End or a Close carries
abbrev pub condition_said : Option PeerAnswer → List ℕ
condition_said None = []
condition_said (Some (by.End condition)) = condition_text condition
condition_said (Some (by.Close condition)) = condition_text condition

-- the error with which the peer ended a session, or closed
abbrev pub peer_error : StepError → Option ErrorModel
peer_error (step.ConnectionState (connection.RemoteClosedWithError e)) = Some e
peer_error (step.SessionState (session.RemoteEndedWithError e)) = Some e
peer_error e = None

-- a request of a stream that is over
abbrev pub over : RefusedModel
over = record { name = codes "Over"; condition = []; peer = None }

-- a call of SASL to which nothing asks
abbrev pub wrong_time : RefusedModel
wrong_time = record { name = codes "WrongTime"; condition = []; peer = None }

-- the answer to a Begin of the peer's, where the connection is not open, and where its channel leads to a session (AMQP 1.0 part 2, section 2.5.1)
abbrev pub not_opened : RefusedModel
not_opened = record { name = codes "NotOpened"; condition = []; peer = None }

abbrev pub channel_in_use : RefusedModel
channel_in_use = record { name = codes "ChannelInUse"; condition = []; peer = None }

-- the answer to an End of the peer's, where that has not ended the session, or this side has too; and of a session to let go that not both have ended
-- (section 2.5.3)
abbrev pub not_ended : RefusedModel
not_ended = record { name = codes "NotEnded"; condition = []; peer = None }

-- memory was refused before the engine was asked
abbrev pub no_memory : RefusedModel
no_memory = record { name = codes "OutOfMemory"; condition = []; peer = None }

-- what the engine refused, in this state of the connection
abbrev pub refused_of : StepError → ConnectionState → RefusedModel
refused_of e s = record { name = name_of e; condition = condition_said (answer_of e s); peer = peer_error e }

-- the last refusal after a request; the state of the connection is that after it
abbrev pub last_by : RefusedModel → ConnectionState → Asked → RefusedModel
last_by last s asked.Done = last
last_by last s asked.TooLarge = too_large
last_by last s (asked.Refused e) = refused_of e s
last_by last s asked.NoMemory = last
last_by last s asked.Over = over

-- the same of a step after which the status says which one failed: so that for memory is kept too
abbrev pub last_of : RefusedModel → ConnectionState → Asked → RefusedModel
last_of last s asked.NoMemory = no_memory
last_of last s a = last_by last s a

-- the last refusal after an answer to a Begin of the peer's
abbrev pub last_begun : RefusedModel → ConnectionState → BeginAnswer → RefusedModel
last_begun last s begun.NotOpened = not_opened
last_begun last s begun.ChannelInUse = channel_in_use
last_begun last s begun.TooLarge = too_large
last_begun last s (begun.Refused e) = refused_of e s
last_begun last s a = last

-- and after one to an End
abbrev pub last_ended : RefusedModel → ConnectionState → EndAnswer → RefusedModel
last_ended last s ended.Done = last
last_ended last s ended.NotEnded = not_ended
last_ended last s (ended.Unsent a) = last_by last s a
last_ended last s (ended.NotReleased a) = last_of last s a
last_ended last s (ended.NotForgotten a) = last_of last s a

-- after the answer that a record asks for
abbrev pub last_answered : RefusedModel → ConnectionState → RecordAnswer → RefusedModel
last_answered last s answer.Nothing = last
last_answered last s (answer.Begin a) = last_begun last s a
last_answered last s (answer.End a) = last_ended last s a
last_answered last s (answer.Asked a) = last_by last s a
last_answered last s answer.NoMemory = last
