use Rattle.std.proofs.Common.{[], ap, subst, arith, ◌∙◌}
use Rattle.amqp_engine.specs.EngineView.{EngineView}
use Rattle.amqp_engine.specs.Ran.{Ran}
use Rattle.amqp_engine.proofs.HandledRunLemmas.{flushed_short, flushed_all, ends_wished}
use Rattle.amqp_engine.proofs.handles.HandledEngine.run.Goals as goal

pub returns-in_default-clause-ran : goal.returns-in_default-clause-ran
returns-in_default-clause-ran g c = flushed_short g.R.LinkRelay.gives _ _ _ _ _ c.law_of_histories.ensures c.law_of_views.ensures c.flush_requests.ensures.flushed

pub returns-in_default-clause-ends : goal.returns-in_default-clause-ends
returns-in_default-clause-ends g c = (omega arith, λ p. c.in_default.ensures.stopped (p.0.1, p.1), c.in_default.ensures.refused)

pub returns-clause-ran : goal.returns-clause-ran
returns-clause-ran g c =
    flushed_all g.R.LinkRelay.gives _ c.flush_requests.new.self _ _ _ _ _ _ c.law_of_histories.ensures c.law_of_views.ensures c.flush_requests.ensures.flushed c.in-Ok.ensures.ok
    (subst (λ (v : EngineView _). Ran g.R.LinkRelay.gives [] v c.args.inputs.now.items c.flush_requests.new.answers.items c.run.new.self c.run.new.inputs.items c.run.new.answers.items) c.self.view_is c.run.ensures.ran)
    (c.run.ensures.wishes ∙ ap (λ (x : EngineView _). x.wishes) c.self.view_is)

pub returns-clause-ends : goal.returns-clause-ends
returns-clause-ends g c =
    ends_wished c.flush_requests.new.self c.run.new.self _ _ _ c.in-Ok.ensures.ok (c.run.ensures.wishes ∙ ap (λ (x : EngineView _). x.wishes) c.self.view_is) c.run.ensures.ends
