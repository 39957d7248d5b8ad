use Rattle.std.proofs.Common.{◌∙◌, ap, refl}
use Rattle.amqp_engine.specs.EngineView.{EngineView}
use Rattle.amqp_engine.proofs.KeptStateLemmas.{step_wishes}
use Rattle.amqp_engine.proofs.OneRunLemmas.{ran_one, ran_none}
use Rattle.amqp_engine.proofs.RunSoFarLemmas.{carried}
use Rattle.amqp_engine.proofs.engine.Engine.run_one.Goals as goal

pub returns-in-Err-clause-ran : goal.returns-in-Err-clause-ran
returns-in-Err-clause-ran g c =
    let s = c.send_out.ensures.said in (
      ran_none g.R.LinkRelay.gives _ _ _ _ _ _ _ s.0 c.law_of_histories.ensures c.law_of_views.ensures c.send_out.ensures.taken s.1 s.2 refl,
      c.in-Err.ensures.err,
      c.in-Err.ensures.refused,
    )

pub returns-clause-ran : goal.returns-clause-ran
returns-clause-ran g c =
    let s = c.send_out.ensures.said in
    let more = c.send_out-2.ensures.said in
    (ran_one g.R.LinkRelay.gives _ _ _ _ c.args.input _ _ _ _ _ _ _ s.0 more.0 c.law_of_histories.ensures c.law_of_views.ensures c.send_out.ensures.taken s.1 s.2 c.in-Ok.ensures.ok
    (carried g.R.LinkRelay.gives _ _ _ _ c.in-Ok.ensures.ok c.dispatch-answer.ensures) c.send_out-2.ensures.taken more.1 more.2).0

pub returns-clause-wishes : goal.returns-clause-wishes
returns-clause-wishes g c =
    let step = carried g.R.LinkRelay.gives _ _ _ _ c.in-Ok.ensures.ok c.dispatch-answer.ensures in
    c.send_out-2.ensures.taken.wishes_stay ∙ ap (λ (v : EngineView _). v.wishes) step.keeps ∙ step_wishes g.R.LinkRelay.gives _ step.done _ step.step
    ∙ c.send_out.ensures.taken.wishes_stay
