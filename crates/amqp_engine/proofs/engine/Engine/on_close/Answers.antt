use Rattle.std.proofs.Common.{rules, ◌≡◌, None, Some, [], refl, subst}
use Rattle.amqp_engine.specs.declared.engine.step_error.StepError.TheVariants as no
use Rattle.amqp_connection.specs.Connection.{refusal_of}
use Rattle.amqp_engine.specs.EngineView.{EngineView}
use Rattle.amqp_engine.specs.Engine.{ReceivedClose}
use Rattle.amqp_engine.proofs.OutcomeLemmas.{close_copy, kept_close}
use Rattle.amqp_engine.proofs.engine.Engine.on_close.Goals as goal

pub close_answer-requires : goal.close_answer-requires
close_answer-requires g c = record {
  copied = close_copy _ _ c.args.close _ _ (c.requires.copied) c.take_close-answer.ensures;
}

pub returns : goal.returns
returns g c =
    let close = c.args.close in
    let k = c.take_close-answer.new.connection in
    let step = rw c.in_ok-answer.was at c.take_close-answer.ensures in
    let answer = rw c.in_ok-answer.was at c.close_answer.ensures in
    (None, [], (record c.args.self.now { connection = k }), ((refl, refl), subst (λ (u : EngineView _). ReceivedClose u close None (record u { connection = k })) c.self.view_is (None, k, step, refl, refl)), (kept_close _ c.args.self.now k _ _ c.args.channel.0 close c.close_answer.result None c.self.view_is answer c.keep_close.ensures.outcomes c.keep_close.ensures.wishes))

pub returns-in_err-answer : goal.returns-in_err-answer
returns-in_err-answer g c =
    let close = c.args.close in
    let k = c.take_close-answer.new.connection in
    let e = c.in_err-answer.field-0.0 in
    let step = rw c.in_err-answer.was at c.take_close-answer.ensures in
    let answer = rw c.in_err-answer.was at c.close_answer.ensures in
    let is : refusal_of c.from_residual.result ≡ Some (no.ConnectionState e) = search rules in
    rw is
    ((None, [], (record c.args.self.now { connection = k }), ((refl, refl), subst (λ (u : EngineView _). ReceivedClose u close (Some (no.ConnectionState e)) (record u { connection = k })) c.self.view_is (Some e, k, step, refl, refl)), (kept_close _ c.args.self.now k _ _ c.args.channel.0 close c.close_answer.result (Some (no.ConnectionState e)) c.self.view_is answer c.keep_close.ensures.outcomes c.keep_close.ensures.wishes)))
