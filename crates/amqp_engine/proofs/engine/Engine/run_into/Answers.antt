use Rattle.std.proofs.Common.{◌≡◌, ◌-◌, ◌∙◌, length, arith, rules}
use Rattle.amqp_engine.proofs.BufferRunLemmas.{Sending-start, Sending-more, Sending-RanInto}
use Rattle.amqp_engine.proofs.engine.Engine.run_into.Goals as goal

pub loop-refusals-init : goal.loop-refusals-init
loop-refusals-init g c =
    let s = c.send_out.ensures.said in (
      Sending-start g.R.LinkRelay.gives _ _ _ _ _ _ _ s.0 c.send_out.ensures.taken s.1 s.2,
      c.in-Ok.ensures.ok,
      search rules,
      c.send_out.ensures.room,
      c.send_out.ensures.copied,
      c.send_out.ensures.places,
    )

pub returns-in_default-clause-ran : goal.returns-in_default-clause-ran
returns-in_default-clause-ran g c =
    let s = c.send_out.ensures.said in
    Sending-RanInto g.R.LinkRelay.gives _ _ _ _ _ _ _ _ c.law_of_histories.ensures c.law_of_views.ensures (Sending-start g.R.LinkRelay.gives _ _ _ _ _ _ _ s.0 c.send_out.ensures.taken s.1 s.2)

pub returns-in_default-more_in_vector-clause-ran : goal.returns-in_default-more_in_vector-clause-ran
returns-in_default-more_in_vector-clause-ran g c =
    let same : c.more_in_vector.new.vector.items ≡ c.loop-refusals.refusals.items = c.more_in_vector.ensures.items in
    rw same (Sending-RanInto g.R.LinkRelay.gives _ _ _ _ _ _ _ _ c.law_of_histories.ensures c.law_of_views.ensures c.loop-refusals.invariant.0)

pub loop-refusals-preserved : goal.loop-refusals-preserved
loop-refusals-preserved g c =
    let first = c.note_first.ensures.stepped in
    let same : c.more_in_vector.new.vector.items ≡ c.loop-refusals.refusals.items = c.more_in_vector.ensures.items in
    let noted = rw same at first.2 in
    let s = c.send_out-in-loop-refusals.ensures.said in
    let r = c.loop-refusals.invariant in
    let at : _ ≡ length c.args.inputs.now.items - length c.loop-refusals.inputs.items = omega (arith, r.2, c.len-in-loop-refusals.ensures, c.loop-refusals.inputs.ok.0) in
    let more = Sending-more g.R.LinkRelay.gives _ _ _ _ _ _ _ _ _ _ _ _ _ _ s.0 _ _ _ r.0 r.1 first.1.1 first.1.2 at noted c.send_out-in-loop-refusals.ensures.taken s.1 s.2 in (
      more,
      c.in-Ok-send_out.ensures.ok,
      r.2,
      omega (arith, r.3, c.send_out-in-loop-refusals.ensures.room),
      c.send_out-in-loop-refusals.ensures.copied ∙ r.4,
      omega (arith, r.5, c.more_in_vector.ensures.capacity, c.note_first.ensures.places, c.send_out-in-loop-refusals.ensures.places),
    )

pub returns-in_default-send_out-clause-ran : goal.returns-in_default-send_out-clause-ran
returns-in_default-send_out-clause-ran g c =
    let first = c.note_first.ensures.stepped in
    let same : c.more_in_vector.new.vector.items ≡ c.loop-refusals.refusals.items = c.more_in_vector.ensures.items in
    let noted = rw same at first.2 in
    let s = c.send_out-in-loop-refusals.ensures.said in
    let r = c.loop-refusals.invariant in
    let at : _ ≡ length c.args.inputs.now.items - length c.loop-refusals.inputs.items = omega (arith, r.2, c.len-in-loop-refusals.ensures, c.loop-refusals.inputs.ok.0) in
    let more = Sending-more g.R.LinkRelay.gives _ _ _ _ _ _ _ _ _ _ _ _ _ _ s.0 _ _ _ r.0 r.1 first.1.1 first.1.2 at noted c.send_out-in-loop-refusals.ensures.taken s.1 s.2 in
    Sending-RanInto g.R.LinkRelay.gives _ _ _ _ _ _ _ _ c.law_of_histories.ensures c.law_of_views.ensures more

pub returns-in_default-send_out-clause-wishes : goal.returns-in_default-send_out-clause-wishes
returns-in_default-send_out-clause-wishes g c =
    let first = c.note_first.ensures.stepped in
    let same : c.more_in_vector.new.vector.items ≡ c.loop-refusals.refusals.items = c.more_in_vector.ensures.items in
    let noted = rw same at first.2 in
    let s = c.send_out-in-loop-refusals.ensures.said in
    let r = c.loop-refusals.invariant in
    let at : _ ≡ length c.args.inputs.now.items - length c.loop-refusals.inputs.items = omega (arith, r.2, c.len-in-loop-refusals.ensures, c.loop-refusals.inputs.ok.0) in
    let more = Sending-more g.R.LinkRelay.gives _ _ _ _ _ _ _ _ _ _ _ _ _ _ s.0 _ _ _ r.0 r.1 first.1.1 first.1.2 at noted c.send_out-in-loop-refusals.ensures.taken s.1 s.2 in
    more.taking.wishes_stay

pub returns-clause-ran : goal.returns-clause-ran
returns-clause-ran g c =
    Sending-RanInto g.R.LinkRelay.gives _ _ _ _ _ _ _ _ c.law_of_histories.ensures c.law_of_views.ensures c.loop-refusals.invariant.0

pub returns-in_default-more_in_vector-clause-places : goal.returns-in_default-more_in_vector-clause-places
returns-in_default-more_in_vector-clause-places g c = omega (arith, c.loop-refusals.invariant.5, c.more_in_vector.ensures.capacity)

pub returns-in_default-send_out-clause-places : goal.returns-in_default-send_out-clause-places
returns-in_default-send_out-clause-places g c =
    omega (arith, c.loop-refusals.invariant.5, c.more_in_vector.ensures.capacity, c.note_first.ensures.places, c.send_out-in-loop-refusals.ensures.places)
