use Rattle.std.proofs.Common.{◌++◌, List, None, Some, refl, ap, subst, ◌∙◌}
use Rattle.amqp_engine.specs.declared.engine.answer.Answer.{Answer}
use Rattle.amqp_engine.specs.EngineView.{EngineView}
use Rattle.amqp_engine.specs.Engine.{Steps}
use Rattle.amqp_engine.proofs.handles.HandledEngine.ask.Goals as goal

pub returns-in-Ok-clause-asked : goal.returns-in-Ok-clause-asked
returns-in-Ok-clause-asked g c =
    let s = c.put_out.ensures.said in
    let pushed = rw c.unwrap.ensures at c.push.ensures.items in
    record {
      refusal = None;
      stepped = c.step.new.self;
      step = subst (λ (v : EngineView _). Steps g.R.LinkRelay.gives v c.args.wish None c.step.new.self) c.self.view_is c.in-Ok.ensures.step;
      so = (s.0, s.1 ∙ ap (λ (xs : List Answer). xs ++ s.0) pushed, c.put_out.ensures.taken, s.2);
    }

pub returns-in-Err-clause-asked : goal.returns-in-Err-clause-asked
returns-in-Err-clause-asked g c = record {
  refusal = Some c.in-Err.refused;
  stepped = c.step.new.self;
  step = subst (λ (v : EngineView _). Steps g.R.LinkRelay.gives v c.args.wish (Some c.in-Err.refused) c.step.new.self) c.self.view_is c.in-Err.ensures.step;
  so = (refl, refl);
}
