use Rattle.std.proofs.Common.{◌∙◌, ap, refl}
use Rattle.amqp_connection.specs.Connection.{refusal_of}
use Rattle.amqp_engine.specs.declared.engine.input.Input.TheVariants as given
use Rattle.amqp_engine.specs.EngineView.{EngineView}
use Rattle.amqp_engine.proofs.KeptStateLemmas.{step_wishes}
use Rattle.amqp_engine.proofs.OneRunLemmas.{ran_one, ran_none}
use Rattle.amqp_engine.proofs.RunSoFarLemmas.{carried}
use Rattle.amqp_engine.proofs.engine.Engine.run_transfer.Goals as goal

pub returns-in_default-clause-ran : goal.returns-in_default-clause-ran
returns-in_default-clause-ran g c =
    let s = c.send_out.ensures.said in (
      ran_none g.R.LinkRelay.gives _ _ _ _ _ _ _ s.0 c.law_of_histories.ensures c.law_of_views.ensures c.send_out.ensures.taken s.1 s.2 refl,
      c.in_default.ensures.refused,
    )

pub returns-then-not-request_transfer-clause-ran : goal.returns-then-not-request_transfer-clause-ran
returns-then-not-request_transfer-clause-ran g c =
    let s = c.send_out.ensures.said in
    let t = c.request_transfer.ensures.not_done c.if-not-request_transfer.true in (
      ran_none g.R.LinkRelay.gives _ _ _ _ _ _ _ s.0 c.law_of_histories.ensures c.law_of_views.ensures c.send_out.ensures.taken s.1 s.2 t.0,
      t.1,
    )

pub returns-clause-ran : goal.returns-clause-ran
returns-clause-ran g c =
    let s = c.send_out.ensures.said in
    let more = c.send_out-2.ensures.said in
    (ran_one g.R.LinkRelay.gives _ _ _ _
    (given.Transfer c.args.session c.args.input c.args.transfer c.args.payload c.args.is_first) _ _ _ _ _ _ _ s.0 more.0 c.law_of_histories.ensures c.law_of_views.ensures c.send_out.ensures.taken s.1 s.2 c.in-Ok.ensures.ok
    (carried g.R.LinkRelay.gives c.send_out.new.self c.request_transfer.new.self
    (given.Transfer c.args.session c.args.input c.args.transfer c.args.payload c.args.is_first) (refusal_of c.request_transfer.new.outcome) c.in-Ok.ensures.ok c.request_transfer.ensures.carried) c.send_out-2.ensures.taken more.1 more.2).0

pub returns-clause-wishes : goal.returns-clause-wishes
returns-clause-wishes g c =
    let input = given.Transfer c.args.session c.args.input c.args.transfer c.args.payload c.args.is_first in
    let refusal = refusal_of c.request_transfer.new.outcome in
    let step = carried g.R.LinkRelay.gives c.send_out.new.self c.request_transfer.new.self input refusal c.in-Ok.ensures.ok c.request_transfer.ensures.carried in
    c.send_out-2.ensures.taken.wishes_stay ∙ ap (λ (v : EngineView _). v.wishes) step.keeps
    ∙ step_wishes g.R.LinkRelay.gives c.send_out.new.self step.done
    (record { input = input; received = step.received; reached = step.reached; calls = step.calls; refusal = refusal; frames = step.frames }) step.step
    ∙ c.send_out.ensures.taken.wishes_stay
