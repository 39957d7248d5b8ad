use Rattle.std.proofs.Common.{ap, sym, ◌∙◌, arith}
use Rattle.amqp_session.specs.declared.frame.SessionFrame.{SessionFrame}
use Rattle.amqp_engine.proofs.EchoLemmas.{turning_more, same_disposition}
use Rattle.amqp_engine.proofs.engine.sessions.send_each.Goals as goal

pub loop-turn-preserved : goal.loop-turn-preserved
loop-turn-preserved g c =
    let popped = rw c.unwrap-disposition.ensures at c.pop_front.ensures.items in
    let shorter = rw c.unwrap-disposition.ensures at c.pop_front.ensures.len in
    let step = c.on_outgoing_disposition-frame.ensures.step in
    let same = same_disposition _ _ (sym c.disposition_in.ensures ∙ ap (λ (f : SessionFrame). f.body) step.1.1) in (
      turning_more g.R.LinkRelay.gives _ _ _ _ _ _ _ _ _ c.unwrap-disposition.result c.disposition_in.result step.0 _ c.loop-turn-test.true c.loop-turn.invariant.0 popped step.1 same c.push_back_reserved.ensures.items,
      omega arith,
      omega (arith, shorter, c.pop_front.ensures.capacity, c.push_back_reserved.ensures.len, c.push_back_reserved.ensures.capacity, c.loop-turn.invariant.2),
    )
