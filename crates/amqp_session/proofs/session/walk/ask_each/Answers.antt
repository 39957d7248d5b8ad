use Rattle.std.proofs.Common.{rules, map, None, vec_len, ◌≡◌, ◌≤◌, ◌<◌, ◌+◌, ◌^◌, [], List, length, take, Some, refl, ap, sym, subst, ◌∙◌, arith, slice_get}
use Rattle.std.proofs.lemmas.List.{length-map}
use Rattle.amqp_types.specs.Disposition.{DispositionModel}
use Rattle.amqp_session.specs.declared.deliveries.Delivery.{Delivery}
use Rattle.amqp_session.specs.declared.session.range.SerialRange.{SerialRange}
use Rattle.amqp_session.specs.Disposing.{distance, span, echo_of, AsksEach, has_agreed}
use Rattle.amqp_session.specs.Inner.Walks.{around, turned, noted_by, EachMeant}
use Rattle.amqp_session.proofs.ReadCountLemmas.{not_stepped, stepped_more, stepped_rows}
use Rattle.amqp_session.proofs.GrowingRunLemmas.{end_later, few_runs}
use Rattle.amqp_session.proofs.WalkLemmas.{reads, reach, reach_more, each_more, meant_is, stops_at, stops_end, turned_length, asks_more, noted_more, nothing_noted}
use Rattle.amqp_session.proofs.session.walk.ask_each.Goals as goal

pub loop-count-init : goal.loop-count-init
loop-count-init g c = record {
  asked = ([], (refl, refl), [], nothing_noted g.row.R.Denot c.args.disposition.now.first c.args.disposition.now.settled, c.requires.no_echoes, tt);
  near = tt;
  counted = not_stepped c.args.rows.now c.len-len.ensures.turns;
  few = let e = ap length c.requires.no_echoes in omega (arith, e);
  room = refl;
}

pub returns-then-not-has-clause-split : goal.returns-then-not-has-clause-split
returns-then-not-has-clause-split g c =
    let d = c.args.disposition.now in
    let first : c.args.range.first ≡ d.first = ap (λ (y : SerialRange). y.first) c.requires.range in
    let size : c.args.range.span ≡ span d.first d.last = ap (λ (y : SerialRange). y.span) c.requires.range in
    let hf : d.first < 2 ^ 32 = subst (λ n. n < 2 ^ 32) first (omega arith) in
    let lt : c.loop-count.count < length c.args.rows.now.rows = omega (arith, c.len-len.ensures.len) in
    let same = stepped_rows c.args.rows.now c.loop-count.rows c.loop-count.count c.loop-count.invariant.counted in
    let at : slice_get c.args.rows.now.rows (around c.args.from c.loop-count.count (length c.args.rows.now.rows)) ≡ Some c.delivery-delivery.result.now = rw (← c.len-len.ensures.len, ← c.around.ensures.value, ← same) c.delivery-delivery.ensures.value in
    let s = reads d c.args.rows.now.rows c.args.from c.loop-count.count c.delivery-delivery.result.now hf c.len-len.ensures.table c.requires.from c.requires.order lt at in
    let out = c.if-not-has.ensures.outside refl in
    let far : span d.first d.last < distance d.first c.delivery-delivery.result.now.number = rw (← size, ← first) out in
    stops_at d _ _ _ c.requires.forward s far c.loop-count.invariant.near

pub returns-then-not-has-clause-asked : goal.returns-then-not-has-clause-asked
returns-then-not-has-clause-asked g c = let a = c.loop-count.invariant.asked in (a.0, a.1, a.2, a.3, a.4)

pub returns-then-not-has-clause-read : goal.returns-then-not-has-clause-read
returns-then-not-has-clause-read g c =
    (c.loop-count.count + 1, omega arith, omega arith, stepped_more c.args.rows.now c.loop-count.rows c.delivery-delivery.follows.lender-at-none c.loop-count.count c.loop-count.invariant.counted c.delivery-delivery.follows.holds-at-none)

pub note-requires : goal.note-requires
note-requires g c settled =
    let d = c.args.disposition.now in
    let first : c.args.range.first ≡ d.first = ap (λ (y : SerialRange). y.first) c.requires.range in
    let size : c.args.range.span ≡ span d.first d.last = ap (λ (y : SerialRange). y.span) c.requires.range in
    let hf : d.first < 2 ^ 32 = subst (λ n. n < 2 ^ 32) first (omega arith) in
    let lt : c.loop-count.count < length c.args.rows.now.rows = omega (arith, c.len-len.ensures.len) in
    let same = stepped_rows c.args.rows.now c.loop-count.rows c.loop-count.count c.loop-count.invariant.counted in
    let at : slice_get c.args.rows.now.rows (around c.args.from c.loop-count.count (length c.args.rows.now.rows)) ≡ Some c.delivery-delivery.result.now = rw (← c.len-len.ensures.len, ← c.around.ensures.value, ← same) c.delivery-delivery.ensures.value in
    let s = reads d c.args.rows.now.rows c.args.from c.loop-count.count c.delivery-delivery.result.now hf c.len-len.ensures.table c.requires.from c.requires.order lt at in
    let inside = c.if-not-has.ensures.inside refl in
    let near : distance d.first c.delivery-delivery.result.now.number ≤ span d.first d.last = rw (← size, ← first) inside in
    let v = c.loop-count.invariant in
    let a = v.asked in
    let hn : c.delivery-delivery.result.now.number < 2 ^ 32 = omega arith in
    let after = end_later d.first _ (distance d.first c.delivery-delivery.result.now.number) a.2 s.near a.5 in
    let vec : vec_len c.loop-count.echoes ≡ length c.loop-count.echoes.items = search rules in
    let len : vec_len c.loop-count.echoes ≡ length a.2 = vec ∙ ap length a.4 ∙ length-map a.2 (echo_of None) in
    let room = c.requires.room (ap (λ (y : DispositionModel). y.settled) (sym c.disposition.view_is) ∙ settled) in (
      a.2,
      a.4,
      λ own. let half = few_runs d.first c.delivery-delivery.result.now.number a.2 hf hn own after a.3.apart in
          omega (arith, room, near, half, len, lt, v.few, v.room),
    )

pub loop-count-preserved : goal.loop-count-preserved
loop-count-preserved g c =
    let d = c.args.disposition.now in
    let v = c.loop-count.invariant in
    let k = c.loop-count.count in
    let x = c.delivery-delivery.result.now in
    let order : List Delivery = turned c.args.from c.args.rows.now.rows in
    let first : c.args.range.first ≡ d.first = ap (λ (y : SerialRange). y.first) c.requires.range in
    let size : c.args.range.span ≡ span d.first d.last = ap (λ (y : SerialRange). y.span) c.requires.range in
    let hf : d.first < 2 ^ 32 = subst (λ n. n < 2 ^ 32) first (omega arith) in
    let hn : x.number < 2 ^ 32 = omega arith in
    let lt : k < length c.args.rows.now.rows = omega (arith, c.len-len.ensures.len) in
    let same = stepped_rows c.args.rows.now c.loop-count.rows k v.counted in
    let at : slice_get c.args.rows.now.rows (around c.args.from k (length c.args.rows.now.rows)) ≡ Some x = rw (← c.len-len.ensures.len, ← c.around.ensures.value, ← same) c.delivery-delivery.ensures.value in
    let s = reads d c.args.rows.now.rows c.args.from k x hf c.len-len.ensures.table c.requires.from c.requires.order lt at in
    let inside = c.if-not-has.ensures.inside refl in
    let near : distance d.first x.number ≤ span d.first d.last = rw (← size, ← first) inside in
    let q = c.ask_disposition-answer.ensures in
    let more = asks_more g.R.LinkRelay.gives.disposition_gives d (take k order) x v.asked.0 q.0 _ _ _ v.asked.1 q.1 in
    let old = v.asked.2 in
    let after = end_later d.first (reach d.first 0 (take k order)) (distance d.first x.number) old s.near v.asked.5 in
    let runs = noted_more d.first x.number d.settled (has_agreed q.0) v.asked.0 more.0 old hf hn more.2 after v.asked.3 in
    let items = c.note.ensures.items old v.asked.4 ∙ ap (λ b. map (echo_of None) (noted_by b c.ask_disposition-answer.result x.number old)) (ap (λ (y : DispositionModel). y.settled) c.disposition.view_is) ∙ ap (λ b. map (echo_of None) (noted_by d.settled b x.number old)) q.2 in
    record {
      asked = (more.0, rw s.grow more.1, noted_by d.settled (has_agreed q.0) x.number old, runs.0, items, rw (s.grow, reach_more d.first 0 (take k order) x) runs.1);
      near = rw s.grow (each_more d _ (take k order) x v.near (meant_is d x.number c.requires.forward near));
      counted = stepped_more c.args.rows.now c.loop-count.rows c.delivery-delivery.follows.lender-at-none k v.counted c.delivery-delivery.follows.holds-at-none;
      few = omega (arith, v.few, c.note.ensures.len);
      room = c.note.ensures.capacity ∙ v.room;
    }

pub returns-clause-split : goal.returns-clause-split
returns-clause-split g c =
    let end : c.loop-count.count ≡ c.len-len.result = omega (arith, c.loop-count.auto.count-end) in
    let len = turned_length c.args.from c.args.rows.now.rows c.requires.from in
    stops_end c.args.disposition.now (turned c.args.from c.args.rows.now.rows) c.len-len.result (omega (arith, len, c.len-len.ensures.len)) (subst (λ n. EachMeant c.args.disposition.now _ (take n (turned c.args.from c.args.rows.now.rows))) end c.loop-count.invariant.near)

pub returns-clause-asked : goal.returns-clause-asked
returns-clause-asked g c =
    let end : c.loop-count.count ≡ c.len-len.result = omega (arith, c.loop-count.auto.count-end) in
    let a = c.loop-count.invariant.asked in
    (a.0, subst (λ n. AsksEach g.R.LinkRelay.gives.disposition_gives c.args.disposition.now (take n (turned c.args.from c.args.rows.now.rows)) a.0 c.args.links.now c.loop-count.links) end a.1, a.2, a.3, a.4)

pub returns-clause-read : goal.returns-clause-read
returns-clause-read g c =
    let end : c.loop-count.count ≡ c.len-len.result = omega (arith, c.loop-count.auto.count-end) in
    (c.loop-count.count, omega (arith, end), omega (arith, end), c.loop-count.invariant.counted)
