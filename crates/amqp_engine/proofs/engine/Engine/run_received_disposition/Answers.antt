use Rattle.std.proofs.Common.{refl, Ok}
use Rattle.amqp_frames.specs.declared.frame.FrameBody.TheVariants as body
use Rattle.amqp_connection.specs.Connection.{refusal_of}
use Rattle.amqp_engine.proofs.OneRunLemmas.{ran_none}
use Rattle.amqp_engine.proofs.FrameRunLemmas.{body_kept, ran_frame, taken_step}
use Rattle.amqp_engine.proofs.engine.Engine.run_received_disposition.Goals as goal

pub returns-in_default-clause-ran : goal.returns-in_default-clause-ran
returns-in_default-clause-ran g c =
    let s = c.send_out.ensures.said in
    ran_none g.R.LinkRelay.gives _ _ _ _ _ _ _ s.0 c.law_of_histories.ensures c.law_of_views.ensures c.send_out.ensures.taken s.1 s.2 refl

pub returns-then-not-on_disposition-clause-ran : goal.returns-then-not-on_disposition-clause-ran
returns-then-not-on_disposition-clause-ran g c =
    let s = c.send_out.ensures.said in
    let t = c.on_disposition.ensures.not_done c.if-not-on_disposition.true in
    ran_none g.R.LinkRelay.gives _ _ _ _ _ _ _ s.0 c.law_of_histories.ensures c.law_of_views.ensures c.send_out.ensures.taken s.1 s.2 t.2

pub returns-clause-ran : goal.returns-clause-ran
returns-clause-ran g c =
    let s = c.send_out.ensures.said in
    let more = c.send_out-2.ensures.said in
    λ bytes from. ran_frame g.R.LinkRelay.gives _ _ _ _ bytes (Ok (record { channel = c.args.channel.0; body = body.Disposition c.args.disposition })) _ _ _ _ _ _ _ s.0 more.0
    c.law_of_histories.ensures c.law_of_views.ensures c.send_out.ensures.taken s.1 s.2 c.in-Ok.ensures.ok
    (taken_step g.R.LinkRelay.gives _ _ (Ok (record { channel = c.args.channel.0; body = body.Disposition c.args.disposition })) c.on_disposition.new.outcome bytes from c.in-Ok.ensures.ok
    (body_kept g.R.LinkRelay.gives _ c.on_disposition.new.self c.args.channel.0 (body.Disposition c.args.disposition) (refusal_of c.on_disposition.new.outcome) tt c.on_disposition.ensures.received))
    c.send_out-2.ensures.taken more.1 more.2
