use Rattle.std.proofs.Common.{◌≡◌, ◌+◌, ◌-◌, ◌<◌, length, ap, ◌∙◌, arith}
use Rattle.amqp_blocks.specs.Chunked.{start_of}
use Rattle.amqp_blocks.proofs.PassLemmas.{passed_more, passed_at, end_start}
use Rattle.amqp_blocks.proofs.cascade.pass_on.Goals as goal

pub loop-block-init : goal.loop-block-init
loop-block-init g c = record {
  low = c.requires.order;
  high = omega arith;
  passed = c.turn-item.ensures.passed;
  place = c.turn-item.ensures.others c.args.free c.requires.order c.requires.place;
  capacity = c.turn-item.ensures.capacity;
}

pub turn-item-requires-in-loop-block-clause-within : goal.turn-item-requires-in-loop-block-clause-within
turn-item-requires-in-loop-block-clause-within g c = λ b e. let h = c.end_of-end.ensures.at b e in omega (arith, h)

pub loop-block-preserved : goal.loop-block-preserved
loop-block-preserved g c =
    let v = c.loop-block.invariant in
    let w = c.turn-item-in-loop-block.ensures in
    let bs = c.loop-block.blocks.items in
    let end = c.end_of-end.result in
    let k : end.block ≡ c.loop-block.block - 1 = c.end_of-end.ensures.block in
    let h : end.block < length bs = omega (arith, k, v.low, v.high, v.passed.blocks, c.requires.block) in
    let e = end_start bs end.block c.loop-block.block end.at h (omega (arith, k, v.low)) c.end_of-end.ensures.at in
    record {
      low = omega (arith, v.low);
      high = omega (arith, v.high);
      passed = passed_at _ _ _ _ _ _ _ (passed_more _ _ _ _ _ _ _ _ _ _ v.passed e w.passed) (ap (λ n. start_of c.turn-item-in-loop-block.new.blocks.items n) k);
      place = w.others c.args.free (omega (arith, k, v.low)) v.place;
      capacity = w.capacity ∙ v.capacity;
    }

pub returns-clause-passed : goal.returns-clause-passed
returns-clause-passed g c =
    let v = c.loop-block.invariant in
    let e : c.loop-block.block ≡ c.args.free + 1 = omega (arith, v.low) in
    passed_at _ _ _ _ _ _ _ v.passed (ap (λ n. start_of c.loop-block.blocks.items n) e)
