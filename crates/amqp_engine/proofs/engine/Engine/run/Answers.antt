use Rattle.std.proofs.Common.{◌≡◌, ◌<◌, [], length, arith, ap, rules}
use Rattle.amqp_memory.proofs.RefusalLemmas.{some}
use Rattle.amqp_engine.proofs.RunSoFarLemmas.{Taking-start, Taking-more, Taking-Ran, empty}
use Rattle.amqp_engine.proofs.engine.Engine.run.Goals as goal

pub loop-answers-init : goal.loop-answers-init
loop-answers-init g c =
    let s = c.put_out.ensures.said in
    (Taking-start g.R.LinkRelay.gives _ _ _ _ _ _ c.put_out.ensures.taken s.1 s.2, c.in-Ok.ensures.ok, search rules)

pub returns-in_default-clause-ran : goal.returns-in_default-clause-ran
returns-in_default-clause-ran g c =
    let s = c.put_out.ensures.said in
    Taking-Ran g.R.LinkRelay.gives _ _ _ _ _ _ c.law_of_histories.ensures c.law_of_views.ensures (Taking-start g.R.LinkRelay.gives _ _ _ _ _ _ c.put_out.ensures.taken s.1 s.2)

pub returns-in_default-more_in_vector-clause-ran : goal.returns-in_default-more_in_vector-clause-ran
returns-in_default-more_in_vector-clause-ran g c =
    let r = c.loop-answers.invariant.0 in
    let same : c.more_in_vector.new.vector.items ≡ c.loop-answers.answers.items = c.more_in_vector.ensures.items in
    rw same (Taking-Ran g.R.LinkRelay.gives _ _ _ _ _ _ c.law_of_histories.ensures c.law_of_views.ensures r)

pub loop-answers-preserved : goal.loop-answers-preserved
loop-answers-preserved g c =
    let first = c.answer_first.ensures in
    let pushed = rw (c.more_in_vector.ensures.items) at first.2 in
    let s = c.put_out-in-loop-answers.ensures.said in
    let r = c.loop-answers.invariant in (
      Taking-more g.R.LinkRelay.gives _ _ _ _ _ _ _ _ _ _ _ _ _ _ r.0 r.1 first.1.1 first.1.2 pushed c.put_out-in-loop-answers.ensures.taken s.1 s.2,
      c.in-Ok-put_out.ensures.ok,
      r.2,
    )

pub returns-in_default-put_out-clause-ran : goal.returns-in_default-put_out-clause-ran
returns-in_default-put_out-clause-ran g c =
    let first = c.answer_first.ensures in
    let pushed = rw (c.more_in_vector.ensures.items) at first.2 in
    let s = c.put_out-in-loop-answers.ensures.said in
    let r = c.loop-answers.invariant in
    let more = Taking-more g.R.LinkRelay.gives _ _ _ _ _ _ _ _ _ _ _ _ _ _ r.0 r.1 first.1.1 first.1.2 pushed c.put_out-in-loop-answers.ensures.taken s.1 s.2 in
    Taking-Ran g.R.LinkRelay.gives _ _ _ _ _ _ c.law_of_histories.ensures c.law_of_views.ensures more

pub returns-clause-ran : goal.returns-clause-ran
returns-clause-ran g c =
    Taking-Ran g.R.LinkRelay.gives _ _ _ _ _ _ c.law_of_histories.ensures c.law_of_views.ensures c.loop-answers.invariant.0

pub returns-in_default-put_out-clause-wishes : goal.returns-in_default-put_out-clause-wishes
returns-in_default-put_out-clause-wishes g c =
    let first = c.answer_first.ensures in
    let pushed = rw (c.more_in_vector.ensures.items) at first.2 in
    let s = c.put_out-in-loop-answers.ensures.said in
    let r = c.loop-answers.invariant in
    (Taking-more g.R.LinkRelay.gives _ _ _ _ _ _ _ _ _ _ _ _ _ _ r.0 r.1 first.1.1 first.1.2 pushed c.put_out-in-loop-answers.ensures.taken s.1 s.2).wishes_stay

pub returns-in_default-clause-ends : goal.returns-in_default-clause-ends
returns-in_default-clause-ends g c = (omega arith, λ p. c.in_default.ensures.err p.1, c.in_default.ensures.refused)

pub returns-in_default-more_in_vector-clause-ends : goal.returns-in_default-more_in_vector-clause-ends
returns-in_default-more_in_vector-clause-ends g c =
    let r = c.loop-answers.invariant.0 in
    let left : 0 < length c.loop-answers.inputs.items = search rules in
    (omega (arith, r.counted, c.len.ensures), λ p. absurd (omega (arith, left, ap length p.0)), some (omega arith) c.in_default-more_in_vector.ensures.refused)

pub returns-in_default-put_out-clause-ends : goal.returns-in_default-put_out-clause-ends
returns-in_default-put_out-clause-ends g c =
    let first = c.answer_first.ensures in
    let pushed = rw (c.more_in_vector.ensures.items) at first.2 in
    let s = c.put_out-in-loop-answers.ensures.said in
    let r = c.loop-answers.invariant in
    let more = Taking-more g.R.LinkRelay.gives _ _ _ _ _ _ _ _ _ _ _ _ _ _ r.0 r.1 first.1.1 first.1.2 pushed c.put_out-in-loop-answers.ensures.taken s.1 s.2 in
    (omega (arith, more.counted, c.len-in_default-put_out.ensures), λ p. c.in_default-put_out.ensures.err p.1, c.in_default-put_out.ensures.refused)

pub returns-clause-ends : goal.returns-clause-ends
returns-clause-ends g c =
    let len : length c.loop-answers.inputs.items ≡ 0 = search rules in
    let none : c.loop-answers.inputs.items ≡ [] = empty _ len in
    (none, c.loop-answers.invariant.1)
