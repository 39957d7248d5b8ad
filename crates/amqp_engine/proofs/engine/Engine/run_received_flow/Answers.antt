use Rattle.std.proofs.Common.{refl, Ok}
use Rattle.amqp_frames.specs.declared.frame.FrameBody.TheVariants as body
use Rattle.amqp_connection.specs.Connection.{refusal_of}
use Rattle.amqp_engine.proofs.OneRunLemmas.{ran_none}
use Rattle.amqp_engine.proofs.FrameRunLemmas.{body_kept, ran_frame, taken_step}
use Rattle.amqp_engine.proofs.engine.Engine.run_received_flow.Goals as goal

pub returns-in_default-clause-ran : goal.returns-in_default-clause-ran
returns-in_default-clause-ran g c =
    let s = c.send_out.ensures.said in
    ran_none g.R.LinkRelay.gives _ _ _ _ _ _ _ s.0 c.law_of_histories.ensures c.law_of_views.ensures c.send_out.ensures.taken s.1 s.2 refl

pub returns-then-not-try_flow-clause-ran : goal.returns-then-not-try_flow-clause-ran
returns-then-not-try_flow-clause-ran g c =
    let s = c.send_out.ensures.said in
    let t = rw c.if-not-try_flow.true at c.try_flow.ensures.tried in
    ran_none g.R.LinkRelay.gives _ _ _ _ _ _ _ s.0 c.law_of_histories.ensures c.law_of_views.ensures c.send_out.ensures.taken s.1 s.2 t.1

pub returns-clause-ran : goal.returns-clause-ran
returns-clause-ran g c =
    let s = c.send_out.ensures.said in
    let more = c.send_out-2.ensures.said in
    λ bytes from. ran_frame g.R.LinkRelay.gives _ _ _ _ bytes (Ok (record { channel = c.args.channel.0; body = body.Flow c.args.flow })) _ _ _ _ _ _ _ s.0 more.0
    c.law_of_histories.ensures c.law_of_views.ensures c.send_out.ensures.taken s.1 s.2 c.in-Ok.ensures.ok
    (taken_step g.R.LinkRelay.gives _ _ (Ok (record { channel = c.args.channel.0; body = body.Flow c.args.flow })) c.try_flow.new.outcome bytes from c.in-Ok.ensures.ok
    (body_kept g.R.LinkRelay.gives _ c.try_flow.new.self c.args.channel.0 (body.Flow c.args.flow) (refusal_of c.try_flow.new.outcome) tt (rw c.if-not-try_flow.false at c.try_flow.ensures.tried)))
    c.send_out-2.ensures.taken more.1 more.2
