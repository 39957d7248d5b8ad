use Rattle.std.proofs.Common.{refl, ◌∙◌}
use Rattle.amqp_engine.proofs.OneRunLemmas.{ran_none}
use Rattle.amqp_engine.proofs.FrameRunLemmas.{ran_frame, taken_step, taken_wishes, untaken}
use Rattle.amqp_engine.proofs.engine.Engine.run_frame.Goals as goal

pub returns-in_default-clause-ran : goal.returns-in_default-clause-ran
returns-in_default-clause-ran g c =
    let s = c.send_out.ensures.said in
    ran_none g.R.LinkRelay.gives _ _ _ _ _ _ _ s.0 c.law_of_histories.ensures c.law_of_views.ensures c.send_out.ensures.taken s.1 s.2 refl

pub returns-in_default-take_read-clause-ran : goal.returns-in_default-take_read-clause-ran
returns-in_default-take_read-clause-ran g c =
    let s = c.send_out.ensures.said in
    ran_none g.R.LinkRelay.gives _ _ _ _ _ _ _ s.0 c.law_of_histories.ensures c.law_of_views.ensures c.send_out.ensures.taken s.1 s.2
    (untaken g.R.LinkRelay.gives _ _ c.args.read c.in_default-take_read.ensures.taken).1

pub returns-clause-ran : goal.returns-clause-ran
returns-clause-ran g c =
    let s = c.send_out.ensures.said in
    let more = c.send_out-2.ensures.said in
    λ bytes from. ran_frame g.R.LinkRelay.gives _ _ _ _ bytes c.args.read _ _ _ _ _ _ _ s.0 more.0 c.law_of_histories.ensures c.law_of_views.ensures c.send_out.ensures.taken s.1 s.2 c.in-Ok.ensures.ok
    (taken_step g.R.LinkRelay.gives _ _ c.args.read c.in-Some.answer bytes from c.in-Ok.ensures.ok c.in-Some.ensures.taken) c.send_out-2.ensures.taken more.1 more.2

pub returns-clause-wishes : goal.returns-clause-wishes
returns-clause-wishes g c =
    c.send_out-2.ensures.taken.wishes_stay ∙ taken_wishes g.R.LinkRelay.gives _ _ c.args.read c.in-Some.answer c.in-Some.ensures.taken
    ∙ c.send_out.ensures.taken.wishes_stay
