use Rattle.std.proofs.Common.{sym, rules, Ok, Err, refl, ap, subst, List, ◌∷◌, Bool}
use Rattle.amqp_session.specs.History as session
use Rattle.amqp_session.specs.States.{takes_end}
use Rattle.amqp_engine.specs.Sessions.{RecordedEnd}
use Rattle.amqp_engine.specs.Waits.{sent}
use Rattle.amqp_engine.proofs.RecordedStopLemmas.{is_end_received, recorded_as, recorded_chain, recorded_frames, recorded_if, ends_so}
use Rattle.amqp_engine.proofs.engine.sessions.end_received.Goals as goal

pub returns : goal.returns
returns g c =
    let gives = g.R.LinkRelay.gives in
    let ends = is_end_received (takes_end c.args.session.now.view.state) in
    let mid = c.on_incoming_end-answer.new.self.view in
    let is = ends_so c.args.session.now.view mid c.args.end (Ok tt) _ _ _ c.comes_to_end-ends.ensures c.local_state-before.ensures c.local_state.ensures c.in_ok-answer.ensures.step in
    let recorded = subst (λ (b : Bool). RecordedEnd mid c.remote_end_reason-reason.result b c.record_end.new.session.view) is c.record_end.ensures in
    record {
      calls = session.TakesEnd c.args.channel.0 c.args.end (Ok tt) ∷ recorded_if ends c.args.end.error;
      asked = (Ok tt, ap (λ (cs : List (session.SessionCall _)). session.TakesEnd c.args.channel.0 c.args.end (Ok tt) ∷ cs) (recorded_as _ (takes_end c.args.session.now.view.state) c.args.end.error), refl);
      steps = (mid, c.in_ok-answer.ensures.step, recorded_chain gives mid c.record_end.new.session.view c.remote_end_reason-reason.result c.args.end.error ends c.remote_end_reason-reason.ensures recorded);
      handed_out = sym (ap sent (recorded_frames _ c.args.end.error ends));
    }

pub returns-in_err-answer : goal.returns-in_err-answer
returns-in_err-answer g c =
    let gives = g.R.LinkRelay.gives in
    let ends = is_end_received (takes_end c.args.session.now.view.state) in
    let mid = c.on_incoming_end-answer.new.self.view in
    let is = ends_so c.args.session.now.view mid c.args.end (Err c.in_err-answer.field-0.0) _ _ _ c.comes_to_end-ends.ensures c.local_state-before.ensures c.local_state.ensures c.in_err-answer.ensures.step in
    let recorded = subst (λ (b : Bool). RecordedEnd mid c.remote_end_reason-reason.result b c.record_end.new.session.view) is c.record_end.ensures in
    record {
      calls = session.TakesEnd c.args.channel.0 c.args.end (Err c.in_err-answer.field-0.0) ∷ recorded_if ends c.args.end.error;
      asked = (Err c.in_err-answer.field-0.0, ap (λ (cs : List (session.SessionCall _)). session.TakesEnd c.args.channel.0 c.args.end (Err c.in_err-answer.field-0.0) ∷ cs) (recorded_as _ (takes_end c.args.session.now.view.state) c.args.end.error), search rules);
      steps = (mid, c.in_err-answer.ensures.step, recorded_chain gives mid c.record_end.new.session.view c.remote_end_reason-reason.result c.args.end.error ends c.remote_end_reason-reason.ensures recorded);
      handed_out = sym (ap sent (recorded_frames _ c.args.end.error ends));
    }
