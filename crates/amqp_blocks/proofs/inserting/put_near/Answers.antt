use Rattle.std.proofs.Common.{◌≡◌, ◌+◌, ap, ◌∙◌, arith}
use Rattle.std.specs.List.{insert}
use Rattle.amqp_blocks.specs.Chunked.{items_of, start_of}
use Rattle.amqp_blocks.proofs.PassLemmas.{end_start}
use Rattle.amqp_blocks.proofs.inserting.put_near.Goals as goal

pub returns-then-has_place-clause-items : goal.returns-then-has_place-clause-items
returns-then-has_place-clause-items g c =
    let bs = c.args.blocks.now.items in
    let end = c.end_of-end.result in
    let meets = end_start bs end.block c.args.place.block end.at (omega (arith, c.end_of-end.ensures.block, c.requires.block)) (omega (arith, c.end_of-end.ensures.block, c.if-place-gt0.true)) c.end_of-end.ensures.at in
    let same : start_of bs end.block + end.at ≡ start_of bs c.args.place.block + c.args.place.at = omega (arith, meets, c.if-place-eq0.true) in
    c.put_in.ensures.items ∙ ap (λ n. insert (items_of bs) n c.args.item) same
