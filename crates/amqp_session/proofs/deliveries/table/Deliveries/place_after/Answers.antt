use Rattle.std.proofs.Common.{◌≡◌, ◌-◌, arith}
use Rattle.amqp_session.specs.Deliveries.{number_at}
use Rattle.amqp_session.proofs.SortedTableLemmas.{front_above, front_below, half_left, half_power}
use Rattle.amqp_session.proofs.deliveries.table.Deliveries.place_after.Goals as goal

pub place_in-requires-clause-below : goal.place_in-requires-clause-below
place_in-requires-clause-below c = λ i h.
    let rows = c.args.self.now.rows in
    let far : c.args.first - c.args.front ≡ c.args.first - number_at rows 0 = omega (arith, c.requires.front) in
    front_below rows c.args.first (c.args.first - c.args.front) c.args.missing c.len-len.ensures.rising c.requires.missing far i
    (omega (arith, c.min-low.ensures, c.saturating_sub.ensures, h)) (omega (arith, c.min-low.ensures, c.len-len.ensures.len, h))

pub place_in-requires-clause-above : goal.place_in-requires-clause-above
place_in-requires-clause-above c = λ i ge lt.
    front_above c.args.self.now.rows c.args.first (c.args.first - c.args.front) c.len-len.ensures.rising (omega (arith, c.requires.front)) i
    (omega (arith, c.min.ensures, c.len-len.ensures.len, ge, lt)) lt

pub place_in-requires-clause-places : goal.place_in-requires-clause-places
place_in-requires-clause-places c =
    let p = c.next_power_of_two-places.ensures in
    let half = half_power p.power.0 c.next_power_of_two-places.result p.power.1 (omega (arith, p.lower_bound, c.len-len.ensures.len, c.requires.some)) in
    (half.0, half.2)

pub place_in-requires-clause-enough : goal.place_in-requires-clause-enough
place_in-requires-clause-enough c =
    let p = c.next_power_of_two-places.ensures in
    let left = half_left p.power.0 c.next_power_of_two-places.result c.len-len.result c.args.missing p.power.1 p.lower_bound (omega (arith, c.len-len.ensures.len, c.requires.some)) (omega (arith, c.len-len.ensures.len, c.requires.few_missing)) in
    omega (arith, left, c.min.ensures, c.min-low.ensures, c.saturating_sub.ensures)
