use Rattle.std.proofs.Common.{ℕ, List, ◌<◌, ◌^◌, ◌++◌, length, get_or, take, drop, map, ap, sym, ◌∙◌, subst, arith}
use Rattle.amqp_blocks.specs.Chunked.{RunningLengths}
use Rattle.amqp_blocks.specs.Inner.Shifted.{more, shifted}
use Rattle.amqp_blocks.proofs.ShiftLemmas.{greater, long, small}
use Rattle.amqp_blocks.proofs.ends.Ends.shift_from.Goals as goal

pub returns-then-block-self-clause-small : goal.returns-then-block-self-clause-small
returns-then-block-self-clause-small c =
    subst (λ (es : List ℕ). (i : ℕ) → i < length es → get_or es i 0 < 2 ^ 64) (ap (λ (v : RunningLengths). v.items) c.self.view_is)
    (λ i l. small c.self.inside.from c.self.inside.shift i c.self.inside.written.items l)

pub returns-then-block-self-clause-shifted : goal.returns-then-block-self-clause-shifted
returns-then-block-self-clause-shifted c =
    let e = c.self.inside in
    let ys = shifted e.from e.shift e.written.items in
    let f = more c.args.by in
    greater e.from e.shift c.args.by e.written.items
    ∙ ap (λ n. take n ys ++ map f (drop n ys)) (sym c.if-block-self.true)
    ∙ ap (λ (v : RunningLengths). take c.args.block v.items ++ map f (drop c.args.block v.items)) c.self.view_is

pub shift_from-from-requires-clause-block : goal.shift_from-from-requires-clause-block
shift_from-from-requires-clause-block c =
    let same = long c.self.inside.from c.self.inside.shift c.self.inside.written.items in
    let is = ap (λ (v : RunningLengths). length v.items) c.self.view_is in
    omega (arith, c.requires.block, same, is)

pub returns-clause-small : goal.returns-clause-small
returns-clause-small c =
    subst (λ (es : List ℕ). (i : ℕ) → i < length es → get_or es i 0 < 2 ^ 64) (ap (λ (v : RunningLengths). v.items) c.self.view_is)
    (λ i l. small c.self.inside.from c.self.inside.shift i c.self.inside.written.items l)
