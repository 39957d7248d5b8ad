use Rattle.std.proofs.Common.{◌≡◌, ◌+◌, ◌/◌, arith, ap, ◌∙◌}
use Rattle.amqp_session.specs.Deliveries.{number_at}
use Rattle.amqp_session.proofs.ReadCountLemmas.{compared_more, compared_rows, not_compared}
use Rattle.amqp_session.proofs.SortedTableLemmas.{closer_few, closer_part, half_power, none_read, read_more_power, spent}
use Rattle.amqp_session.proofs.deliveries.table.Deliveries.place_in.Goals as goal

pub loop-left-init : goal.loop-left-init
loop-left-init c = record {
  rising = c.len-len.ensures.rising;
  part = record { order = c.requires.order; within = c.requires.within; below = c.requires.below; above = c.requires.above };
  enough = c.requires.enough;
  few = c.requires.few;
  cost = (0, c.requires.places.0, not_compared c.args.self.now c.len-len.ensures.comparisons, c.requires.places.1, none_read c.requires.places.0 c.args.places c.requires.places.1);
}

pub loop-left-preserved : goal.loop-left-preserved
loop-left-preserved c =
    let v = c.loop-left.invariant in
    let k = v.cost.0 in
    let half = half_power v.cost.1 c.loop-left.half v.cost.3 (omega (arith, v.enough)) in
    let same = compared_rows c.args.self.now c.loop-left.self k v.cost.2 in
    let value : c.number-value.result ≡ number_at c.args.self.now.rows c.probe-at.result = c.number-value.ensures.value ∙ ap (λ rows. number_at rows c.probe-at.result) same in
    record {
      rising = v.rising;
      part = closer_part c.args.self.now.rows c.args.first c.loop-left.left.low c.loop-left.left.high c.probe-at.result c.number-value.result c.closer-left.result.low c.closer-left.result.high
          v.rising v.part c.probe-at.ensures.least c.probe-at.ensures.most value c.closer-left.ensures.less c.closer-left.ensures.more;
      enough = closer_few c.args.first c.loop-left.left.low c.loop-left.left.high c.probe-at.result c.number-value.result c.closer-left.result.low c.closer-left.result.high (c.loop-left.half / 2)
          c.probe-at.ensures.most c.probe-at.ensures.before c.probe-at.ensures.after c.closer-left.ensures.less c.closer-left.ensures.more;
      few = omega (arith, v.few);
      cost = (k + 1, half.0, compared_more c.args.self.now c.loop-left.self c.number-value.new.self k v.cost.2 c.number-value.ensures.counted, half.2, read_more_power k v.cost.1 half.0 c.args.places half.1 v.cost.4);
    }

pub probe-at-requires-clause-half : goal.probe-at-requires-clause-half
probe-at-requires-clause-half c =
    let v = c.loop-left.invariant in
    let half = half_power v.cost.1 c.loop-left.half v.cost.3 (omega (arith, v.enough)) in
    omega (arith, v.enough, half.3)

pub returns-clause-cost : goal.returns-clause-cost
returns-clause-cost c =
    let v = c.loop-left.invariant in
    (v.cost.0, c.note.ensures ∙ v.cost.2, spent v.cost.0 v.cost.1 c.args.places v.cost.4)
