use Rattle.std.proofs.Common.{◌≡◌, ◌<◌, ◌^◌, [], Some, refl, ap, subst, arith, length, slice_get}
use Rattle.amqp_session.specs.declared.session.range.SerialRange.{SerialRange}
use Rattle.amqp_session.specs.Disposing.{distance, span}
use Rattle.amqp_session.specs.Inner.Walks.{around}
use Rattle.amqp_session.proofs.WalkLemmas.{asks_more, reads, stops_alone, stops_at}
use Rattle.amqp_session.proofs.session.walk.ask_one.Goals as goal

pub returns-then-delivery-range-clause-split : goal.returns-then-delivery-range-clause-split
returns-then-delivery-range-clause-split g c =
    let d = c.args.disposition.now in
    let x = c.delivery-delivery.result.now in
    let first : c.args.range.first ≡ d.first = ap (λ (y : SerialRange). y.first) c.requires.range in
    let hf : d.first < 2 ^ 32 = subst (λ n. n < 2 ^ 32) first (omega arith) in
    let hn : x.number < 2 ^ 32 = omega arith in
    let at : slice_get c.args.rows.now.rows (around c.args.from 0 (length c.args.rows.now.rows)) ≡ Some x = rw (← c.len-len.ensures.len, ← c.around.ensures.value) c.delivery-delivery.ensures.value in
    let s = reads d c.args.rows.now.rows c.args.from 0 x hf c.len-len.ensures.table c.requires.from c.requires.order (omega (arith, c.len-len.ensures.len)) at in
    let far : span d.first d.last < distance d.first x.number = omega (arith, c.requires.alone, c.if-delivery-range.true, first, hf, hn) in
    stops_at d _ 0 x (omega (arith, c.requires.alone)) s far tt

pub returns-clause-split : goal.returns-clause-split
returns-clause-split g c =
    let d = c.args.disposition.now in
    let x = c.delivery-delivery.result.now in
    let first : c.args.range.first ≡ d.first = ap (λ (y : SerialRange). y.first) c.requires.range in
    let hf : d.first < 2 ^ 32 = subst (λ n. n < 2 ^ 32) first (omega arith) in
    let hn : x.number < 2 ^ 32 = omega arith in
    let at : slice_get c.args.rows.now.rows (around c.args.from 0 (length c.args.rows.now.rows)) ≡ Some x = rw (← c.len-len.ensures.len, ← c.around.ensures.value) c.delivery-delivery.ensures.value in
    let s = reads d c.args.rows.now.rows c.args.from 0 x hf c.len-len.ensures.table c.requires.from c.requires.order (omega (arith, c.len-len.ensures.len)) at in
    stops_alone d _ x c.requires.alone s (omega (arith, c.if-delivery-range.false, first, hf, hn))

pub returns-clause-asked : goal.returns-clause-asked
returns-clause-asked g c =
    let d = c.args.disposition.now in
    let x = c.delivery-delivery.result.now in
    let first : c.args.range.first ≡ d.first = ap (λ (y : SerialRange). y.first) c.requires.range in
    let hf : d.first < 2 ^ 32 = subst (λ n. n < 2 ^ 32) first (omega arith) in
    let at : slice_get c.args.rows.now.rows (around c.args.from 0 (length c.args.rows.now.rows)) ≡ Some x = rw (← c.len-len.ensures.len, ← c.around.ensures.value) c.delivery-delivery.ensures.value in
    let s = reads d c.args.rows.now.rows c.args.from 0 x hf c.len-len.ensures.table c.requires.from c.requires.order (omega (arith, c.len-len.ensures.len)) at in
    let q = c.ask_disposition.ensures in
    let more = asks_more g.R.LinkRelay.gives.disposition_gives d [] x [] q.0 _ _ _ (refl, refl) q.1 in
    (more.0, rw s.grow more.1)
