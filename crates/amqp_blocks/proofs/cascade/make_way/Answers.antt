use Rattle.std.proofs.Common.{◌≡◌, ◌+◌, ◌<◌, length, arith, sym, subst, refl}
use Rattle.amqp_blocks.specs.Chunked.{HasPlace}
use Rattle.amqp_blocks.proofs.PassLemmas.{passed_none, passed_at, end_start}
use Rattle.amqp_blocks.proofs.cascade.make_way.Goals as goal

pub pass_back-item-requires-clause-within : goal.pass_back-item-requires-clause-within
pass_back-item-requires-clause-within g c = c.requires.item (omega (arith, c.nearest-free.ensures.block))

pub returns-then-place-free-clause-passed : goal.returns-then-place-free-clause-passed
returns-then-place-free-clause-passed g c = passed_at _ _ _ _ _ _ _ c.pass_back-item.ensures.passed (omega arith)

pub returns-then-free-place-clause-block : goal.returns-then-free-place-clause-block
returns-then-free-place-clause-block g c = omega (arith, c.end_of.ensures.block, c.pass_on-item.ensures.passed.blocks, c.nearest-free.ensures.block)

pub returns-then-free-place-clause-within : goal.returns-then-free-place-clause-within
returns-then-free-place-clause-within g c = λ b e. let h = c.end_of.ensures.at b e in omega (arith, h)

pub returns-then-free-place-clause-place : goal.returns-then-free-place-clause-place
returns-then-free-place-clause-place g c = subst (λ n. HasPlace c.pass_on-item.new.blocks.items n) (sym c.end_of.ensures.block) c.pass_on-item.ensures.place

pub returns-then-free-place-clause-passed : goal.returns-then-free-place-clause-passed
returns-then-free-place-clause-passed g c =
    let end = c.end_of.result in
    let p = c.pass_on-item.ensures.passed in
    let cs = c.pass_on-item.new.blocks.items in
    let h : end.block < length cs = omega (arith, c.end_of.ensures.block, p.blocks, c.nearest-free.ensures.block) in
    let e = end_start cs end.block (c.nearest-free.result + 1) end.at h (omega (arith, c.end_of.ensures.block)) c.end_of.ensures.at in
    passed_at _ _ _ _ _ _ _ p (sym e)

pub returns-clause-place : goal.returns-clause-place
returns-clause-place g c =
    let e : c.nearest-free.result ≡ c.args.place.block = omega arith in
    subst (λ n. HasPlace c.args.blocks.now.items n) e c.nearest-free.ensures.place

pub returns-clause-passed : goal.returns-clause-passed
returns-clause-passed g c = passed_none _ _ _ _ refl
