use Rattle.std.proofs.Common.{None, [], refl}
use Rattle.amqp_frames.specs.declared.frame.FrameBody.TheVariants as body
use Rattle.amqp_connection.specs.Connection.{refusal_of}
use Rattle.amqp_connection.specs.declared.error.ConnectionInnerError.TheVariants as routes
use Rattle.amqp_session.specs.declared.error.SessionInnerError.TheVariants as Refused
use Rattle.amqp_engine.specs.declared.engine.step_error.StepError.TheVariants as no
use Rattle.amqp_engine.proofs.FrameRunLemmas.{body_kept, tried_kept}
use Rattle.amqp_engine.proofs.engine.Engine.take_frame.Goals as goal

pub returns-in-Attach-clause-taken : goal.returns-in-Attach-clause-taken
returns-in-Attach-clause-taken g c = rw c.in-Attach.is (tried_kept g.R.LinkRelay.gives c.args.self.now c.try_attach.new.self c.args.frame.channel (body.Attach c.in-Attach.attach)
    (no.Session Refused.OutOfMemory) c.try_attach.result tt c.try_attach.ensures.received c.try_attach.ensures.none)

pub returns-in-Detach-clause-taken : goal.returns-in-Detach-clause-taken
returns-in-Detach-clause-taken g c = rw c.in-Detach.is (body_kept g.R.LinkRelay.gives c.args.self.now c.on_detach.new.self c.args.frame.channel (body.Detach c.in-Detach.detach) (refusal_of c.on_detach.result) tt c.on_detach.ensures)

pub returns-in-Begin-clause-taken : goal.returns-in-Begin-clause-taken
returns-in-Begin-clause-taken g c = rw c.in-Begin.is (tried_kept g.R.LinkRelay.gives c.args.self.now c.try_begin.new.self c.args.frame.channel (body.Begin c.in-Begin.begin)
    (no.Connection routes.OutOfMemory) c.try_begin.result tt c.try_begin.ensures.received c.try_begin.ensures.none)

pub returns-in-Open-clause-taken : goal.returns-in-Open-clause-taken
returns-in-Open-clause-taken g c = rw c.in-Open.is (body_kept g.R.LinkRelay.gives c.args.self.now c.on_open.new.self c.args.frame.channel (body.Open c.in-Open.«open») (refusal_of c.on_open.result) tt c.on_open.ensures)

pub returns-in-Transfer-clause-taken : goal.returns-in-Transfer-clause-taken
returns-in-Transfer-clause-taken g c = rw c.in-Transfer.is c.take_transfer.ensures.taken

pub returns-in-Disposition-clause-taken : goal.returns-in-Disposition-clause-taken
returns-in-Disposition-clause-taken g c = rw c.in-Disposition.is c.take_disposition.ensures.taken

pub returns-in-Flow-clause-taken : goal.returns-in-Flow-clause-taken
returns-in-Flow-clause-taken g c = rw c.in-Flow.is c.take_flow.ensures.taken

pub returns-in-End-clause-taken : goal.returns-in-End-clause-taken
returns-in-End-clause-taken g c = rw c.in-End.is c.take_end.ensures

pub returns-in-Close-clause-taken : goal.returns-in-Close-clause-taken
returns-in-Close-clause-taken g c = rw c.in-Close.is c.take_close.ensures

pub returns-in-Empty-clause-taken : goal.returns-in-Empty-clause-taken
returns-in-Empty-clause-taken g c = rw c.in-Empty.is (None, [], c.args.self.now, (((refl, refl), refl), refl), refl)

pub returns-in-Transfer-clause-memory : goal.returns-in-Transfer-clause-memory
returns-in-Transfer-clause-memory g c = rw c.in-Transfer.is c.take_transfer.ensures.memory

pub returns-in-Disposition-clause-memory : goal.returns-in-Disposition-clause-memory
returns-in-Disposition-clause-memory g c = rw c.in-Disposition.is c.take_disposition.ensures.memory

pub returns-in-Flow-clause-memory : goal.returns-in-Flow-clause-memory
returns-in-Flow-clause-memory g c = rw c.in-Flow.is c.take_flow.ensures.memory

pub returns-in-Attach-clause-memory : goal.returns-in-Attach-clause-memory
returns-in-Attach-clause-memory g c = rw c.in-Attach.is c.try_attach.ensures.memory

pub returns-in-Begin-clause-memory : goal.returns-in-Begin-clause-memory
returns-in-Begin-clause-memory g c = rw c.in-Begin.is c.try_begin.ensures.memory
