use Rattle.std.proofs.Common.{List, length, take, drop, ap, sym, subst, ◌∙◌, arith, length-set}
use Rattle.amqp_blocks.specs.Chunked.{Block}
use Rattle.amqp_blocks.specs.Inner.Changes.{IsTrimmed}
use Rattle.amqp_blocks.proofs.CutLemmas.{take_set_under, trimmed_in, trimmed_none}
use Rattle.amqp_blocks.proofs.cutting.keep_back.Goals as goal

pub thin-requires-clause-block : goal.thin-requires-clause-block
thin-requires-clause-block g c = (c.requires.within c.if-place-gt0.true).0

pub thin-requires-clause-within : goal.thin-requires-clause-within
thin-requires-clause-within g c = λ b e. let h = (c.requires.within c.if-place-gt0.true).1 b e in omega (arith, h)

pub returns-then-place-gt0-clause-before : goal.returns-then-place-gt0-clause-before
returns-then-place-gt0-clause-before g c =
    let t = c.thin.ensures.thinned in
    ap (take c.args.place.block) t.set ∙ take_set_under c.args.blocks.now.items c.args.place.block t.to

pub returns-then-place-gt0-clause-trimmed : goal.returns-then-place-gt0-clause-trimmed
returns-then-place-gt0-clause-trimmed g c =
    let t = c.thin.ensures.thinned in
    let bs = c.args.blocks.now.items in
    let j = c.args.place.block in
    let w = c.requires.within c.if-place-gt0.true in
    subst (λ (xs : List (Block _)). IsTrimmed (drop j bs) c.args.place.at (drop j xs)) (sym t.set) (trimmed_in bs j c.args.place.at t.from t.to c.if-place-gt0.true w.0 t.was t.items)

pub returns-then-place-gt0-clause-count : goal.returns-then-place-gt0-clause-count
returns-then-place-gt0-clause-count g c =
    let t = c.thin.ensures.thinned in
    ap length t.set ∙ length-set c.args.blocks.now.items c.args.place.block t.to

pub returns-else-place-gt0-clause-trimmed : goal.returns-else-place-gt0-clause-trimmed
returns-else-place-gt0-clause-trimmed g c = trimmed_none (drop c.args.place.block c.args.blocks.now.items) c.args.place.at (omega (arith, c.if-place-gt0.false))
