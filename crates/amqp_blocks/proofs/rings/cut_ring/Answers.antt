use Rattle.std.proofs.Common.{◌≡◌, ◌∙◌, ◌+◌, arith, ap, suc, take, drop, ◌++◌}
use Rattle.amqp_blocks.proofs.rings.cut_ring.Goals as goal

pub returns-then-count-eq1 : goal.returns-then-count-eq1
returns-then-count-eq1 g c =
    let xs = c.args.ring.now.items in
    let next : suc c.args.at ≡ c.args.at + c.args.count = omega (arith, c.if-count-eq1.true) in
    record { items = c.cut_one.ensures.items ∙ ap (λ n. take c.args.at xs ++ drop n xs) next }
