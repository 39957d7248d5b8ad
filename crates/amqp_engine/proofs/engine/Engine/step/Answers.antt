use Rattle.std.proofs.Common.{None, [], refl, sym, ◌∙◌, inl}
use Rattle.amqp_engine.proofs.SameEngineLemmas.{idle, busy}
use Rattle.amqp_engine.specs.declared.engine.step_error.StepError.TheVariants.{OutputWaiting}
use Rattle.amqp_engine.proofs.RefusedWishLemmas.{not_left}
use Rattle.amqp_engine.proofs.RunSoFarLemmas.{carried, stepped}
use Rattle.amqp_engine.proofs.engine.Engine.step.Goals as goal

pub returns : goal.returns
returns g c =
    stepped g.R.LinkRelay.gives c.law_of_histories.ensures _ _ _ _ (carried g.R.LinkRelay.gives _ _ _ _ (idle _ (sym c.has_output.ensures ∙ c.if-has_output.false)) c.dispatch.ensures)

pub returns-then-has_output : goal.returns-then-has_output
returns-then-has_output g c = stepped g.R.LinkRelay.gives c.law_of_histories.ensures _ _ _ _ (record {
  received = None;
  reached = None;
  calls = [];
  frames = [];
  done = c.args.self.now;
  step = inl (busy _ (sym c.has_output.ensures ∙ c.if-has_output.true), refl, refl, ((refl, refl), refl), refl);
  keeps = sym (not_left c.args.input OutputWaiting c.args.self.now);
})
