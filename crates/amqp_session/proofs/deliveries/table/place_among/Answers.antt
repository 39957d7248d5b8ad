use Rattle.std.proofs.Common.{◌≡◌, ◌/◌, ◌∙◌, arith, refl, suc, subst}
use Rattle.amqp_blocks.specs.Chunked.{Sequence}
use Rattle.amqp_session.specs.Deliveries.{number_at}
use Rattle.amqp_session.specs.declared.deliveries.Delivery.{Delivery}
use Rattle.amqp_session.proofs.SortedTableLemmas.{closer_few, closer_part, fourfold_power, half_power, whole_part}
use Rattle.amqp_session.proofs.deliveries.table.place_among.Goals as goal

pub loop-left-init : goal.loop-left-init
loop-left-init c =
    let p = c.next_power_of_two-half.ensures in
    record {
      kept = refl;
      part = whole_part c.args.rows.now.items c.args.number c.len-high.result c.len-high.ensures;
      enough = omega (arith, p.lower_bound);
      few = omega (arith, p.upper_bound, c.len-high.ensures, c.requires.few);
      power = (suc (suc p.power.0), fourfold_power p.power.0 c.next_power_of_two-half.result p.power.1);
    }

pub probe-at-requires-clause-half : goal.probe-at-requires-clause-half
probe-at-requires-clause-half c =
    let v = c.loop-left.invariant in
    let half = half_power v.power.0 c.loop-left.half v.power.1 (omega (arith, v.enough)) in
    omega (arith, v.enough, half.3)

pub loop-left-preserved : goal.loop-left-preserved
loop-left-preserved c =
    let v = c.loop-left.invariant in
    let half = half_power v.power.0 c.loop-left.half v.power.1 (omega (arith, v.enough)) in
    let read = c.number_in-value.ensures in
    let kept = read.kept ∙ v.kept in
    let x = c.number_in-value.result in
    let value : x ≡ number_at c.args.rows.now.items c.probe-at.result = subst (λ (s : Sequence Delivery). x ≡ number_at s.items c.probe-at.result) v.kept read.value in
    record {
      kept = kept;
      part = closer_part c.args.rows.now.items c.args.number c.loop-left.left.low c.loop-left.left.high c.probe-at.result x c.closer-left.result.low c.closer-left.result.high
          c.requires.rising v.part c.probe-at.ensures.least c.probe-at.ensures.most value c.closer-left.ensures.less c.closer-left.ensures.more;
      enough = closer_few c.args.number c.loop-left.left.low c.loop-left.left.high c.probe-at.result x c.closer-left.result.low c.closer-left.result.high (c.loop-left.half / 2)
          c.probe-at.ensures.most c.probe-at.ensures.before c.probe-at.ensures.after c.closer-left.ensures.less c.closer-left.ensures.more;
      few = omega (arith, v.few);
      power = (half.0, half.2);
    }
