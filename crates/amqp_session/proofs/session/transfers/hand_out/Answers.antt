use Rattle.std.proofs.Common.{◌≡◌, ◌-◌, length, arith, ap, ◌∙◌}
use Rattle.amqp_session.specs.Deliveries.{with_record}
use Rattle.amqp_session.proofs.HandedOutLemmas.{turn}
use Rattle.amqp_session.proofs.SortedTableLemmas.{with_record_length}
use Rattle.amqp_session.proofs.session.transfers.hand_out.Goals as goal

pub loop-i-preserved : goal.loop-i-preserved
loop-i-preserved c =
    let popped = rw c.unwrap-waiting.ensures at c.pop_front.ensures.items in
    let pushed = rw c.unwrap.ensures at c.push.ensures.items in
    let len = rw c.unwrap.ensures at c.push.ensures.len in
    let with_record_as = c.record_opened.ensures.rows ∙ ap (λ d. with_record d c.loop-i.deliveries.rows) c.numbered-out.ensures.delivery in
    let t = turn c.args.channel.0 c.loop-i.i c.args.count c.unwrap-waiting.result _ _ c.numbered-out.result.frame _ _ _ _ c.loop-i.delivery c.numbered-out.result.next c.loop-i-test.true popped pushed c.numbered-out.ensures.frame with_record_as c.numbered-out.ensures.next in
    let more = with_record_length c.numbered-out.result.delivery c.loop-i.deliveries.rows in
    record {
      within = omega arith;
      fits = omega (arith, c.numbered-out.ensures.next);
      enough = omega (arith, ap length popped);
      room = omega (arith, len, c.push.ensures.capacity);
      records = omega (arith, more, ap length c.record_opened.ensures.rows, c.record_opened.ensures.capacity);
      rest = t.0 ∙ c.loop-i.invariant.rest;
      said = t.1 ∙ c.loop-i.invariant.said;
      deliveries = t.2 ∙ c.loop-i.invariant.deliveries;
      reads = c.record_opened.ensures.reads ∙ c.loop-i.invariant.reads;
      opens = t.3 ∙ c.loop-i.invariant.opens;
    }

pub returns-clause-delivery : goal.returns-clause-delivery
returns-clause-delivery c =
    let done : c.args.count - c.loop-i.i ≡ 0 = omega arith in
    let e = rw done at c.loop-i.invariant.deliveries in
    omega (arith, e)
