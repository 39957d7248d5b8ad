use Rattle.std.proofs.Common.{◌≡◌, ◌+◌, ◌<◌, length, ap, ◌∙◌, arith, add-one}
use Rattle.amqp_blocks.specs.Chunked.{start_of}
use Rattle.amqp_blocks.proofs.LeaveLemmas.{some_at}
use Rattle.amqp_blocks.proofs.PassLemmas.{shifted_passes, passed_more, passed_at, place_other}
use Rattle.amqp_blocks.proofs.cascade.pass_back.Goals as goal

pub loop-block-init : goal.loop-block-init
loop-block-init g c =
    let u = c.shift-item.ensures.shifted in
    let w = c.requires.within u.from u.was in
    let h : c.args.place.block < length c.args.blocks.now.items = omega (arith, c.requires.order, c.requires.block) in
    record {
      passed = shifted_passes c.args.blocks.now.items c.shift-item.new.blocks.items c.args.place.block (c.args.place.block + 1) c.args.place.at c.args.item c.shift-item.result h u (omega (arith, w)) (add-one c.args.place.block);
      place = place_other c.args.blocks.now.items c.shift-item.new.blocks.items c.args.place.block c.args.free u.to u.set (omega (arith, c.requires.order)) c.requires.place;
      capacity = c.shift-item.ensures.capacity;
    }

pub shift-item-requires-in-loop-block-clause-within : goal.shift-item-requires-in-loop-block-clause-within
shift-item-requires-in-loop-block-clause-within g c = λ b e.
    let v = c.loop-block.invariant in
    let h : c.loop-block.block < length c.loop-block.blocks.items = omega (arith, v.passed.blocks, c.requires.block) in
    (some_at c.loop-block.blocks.items c.loop-block.block b (v.passed.some c.requires.some) h e).0

pub loop-block-preserved : goal.loop-block-preserved
loop-block-preserved g c =
    let v = c.loop-block.invariant in
    let u = c.shift-item-in-loop-block.ensures.shifted in
    let bs = c.loop-block.blocks.items in
    let cs = c.shift-item-in-loop-block.new.blocks.items in
    let i = c.loop-block.block in
    let h : i < length bs = omega (arith, v.passed.blocks, c.requires.block) in
    let one = shifted_passes bs cs i (i + 1) 0 c.loop-block.item c.shift-item-in-loop-block.result h u (omega arith) (add-one i) in
    record {
      passed = passed_more c.args.blocks.now.items bs cs _ (start_of bs i) (start_of bs i + 0) _ _ _ _ v.passed (omega arith) one;
      place = place_other bs cs i c.args.free u.to u.set (omega arith) v.place;
      capacity = c.shift-item-in-loop-block.ensures.capacity ∙ v.capacity;
    }

pub returns-clause-passed : goal.returns-clause-passed
returns-clause-passed g c =
    let v = c.loop-block.invariant in
    let e : c.loop-block.block ≡ c.args.free = omega arith in
    passed_at _ _ _ _ _ _ _ v.passed (ap (λ n. start_of c.loop-block.blocks.items n) e)
