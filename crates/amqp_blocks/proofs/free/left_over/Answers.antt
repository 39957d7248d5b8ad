use Rattle.std.proofs.Common.{◌≡◌, ◌<◌, ◌-◌, List, take, length, ap, ◌∙◌, arith}
use Rattle.std.proofs.lemmas.List.{take_all}
use Rattle.amqp_blocks.specs.Chunked.{Block}
use Rattle.amqp_blocks.specs.Inner.Changes.{free_of}
use Rattle.amqp_blocks.proofs.RoomLemmas.{free_next}
use Rattle.amqp_blocks.proofs.free.left_over.Goals as goal

pub loop-at-preserved : goal.loop-at-preserved
loop-at-preserved g c =
    let bs = c.args.rings.now.items in
    let h : c.loop-at.at < length bs = omega (arith, c.loop-at-test.true, c.len-at-end.ensures, c.args.rings.now.ok.0) in
    let n = free_next bs c.loop-at.at c.free_at.result h c.free_at.ensures.free in
    record { left = omega (arith, n, c.loop-at.invariant.left, c.saturating_sub-left.ensures) }

pub returns : goal.returns
returns g c =
    let bs = c.args.rings.now.items in
    let all : take c.loop-at.at bs ≡ bs = take_all c.loop-at.at bs (omega (arith, c.loop-at-test.false, c.len-at-end.ensures, c.args.rings.now.ok.0)) in
    record { left = c.loop-at.invariant.left ∙ ap (λ (xs : List (Block _)). c.args.additional - free_of xs) all }
