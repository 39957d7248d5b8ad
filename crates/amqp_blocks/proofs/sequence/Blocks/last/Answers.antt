use Rattle.std.proofs.Common.{◌≡◌, ◌+◌, ◌-◌, ◌<◌, length, ap, sym, ◌∙◌, arith, slice_get}
use Rattle.amqp_blocks.specs.Chunked.{items_of, Sequence, start_of}
use Rattle.amqp_blocks.proofs.PlaceLemmas.{no_items_of, read_none, start_all}
use Rattle.amqp_blocks.proofs.LeaveLemmas.{some_at, some_block}
use Rattle.amqp_blocks.proofs.PassLemmas.{end_start}
use Rattle.amqp_blocks.proofs.sequence.Blocks.last.Goals as goal

pub returns-then-count-eq0 : goal.returns-then-count-eq0
returns-then-count-eq0 g c =
    let bs = c.self.inside.blocks in
    let none = no_items_of bs.items (omega (arith, bs.ok.0, c.len-count.ensures, c.if-count-eq0.true)) in
    sym (read_none (items_of bs.items) (length (items_of bs.items) - 1) none) ∙ ap (λ (s : Sequence _). slice_get s.items (length s.items - 1)) c.self.view_is

pub end_of-end-requires : goal.end_of-end-requires
end_of-end-requires g c = record { block = omega (arith, c.self.inside.blocks.ok.0, c.len-count.ensures, c.if-count-eq0.false) }

pub overflow_sub-place : goal.overflow_sub-place
overflow_sub-place g c =
    let bs = c.self.inside.blocks in
    let end = c.end_of-end.result in
    let h : end.block < length bs.items = omega (arith, c.end_of-end.ensures.block, bs.ok.0, c.len-count.ensures, c.if-count-eq0.false) in
    let b = some_block bs.items end.block h in
    omega (arith, c.end_of-end.ensures.at b.0 b.1, (some_at bs.items end.block b.0 c.self.invariant.0.chunked.some h b.1).0)

pub item_of-requires : goal.item_of-requires
item_of-requires g c =
    let bs = c.self.inside.blocks in
    let end = c.end_of-end.result in
    let h : end.block < length bs.items = omega (arith, c.end_of-end.ensures.block, bs.ok.0, c.len-count.ensures, c.if-count-eq0.false) in
    record {
      at = λ b e. omega (arith, c.end_of-end.ensures.at b e, (some_at bs.items end.block b c.self.invariant.0.chunked.some h e).0);
      block = h;
    }

pub returns : goal.returns
returns g c =
    let bs = c.self.inside.blocks in
    let end = c.end_of-end.result in
    let count = c.len-count.result in
    let h : end.block < length bs.items = omega (arith, c.end_of-end.ensures.block, bs.ok.0, c.len-count.ensures, c.if-count-eq0.false) in
    let b = some_block bs.items end.block h in
    let some = (some_at bs.items end.block b.0 c.self.invariant.0.chunked.some h b.1).0 in
    let next = end_start bs.items end.block count end.at h (omega (arith, c.end_of-end.ensures.block, c.if-count-eq0.false)) c.end_of-end.ensures.at in
    let all = start_all bs.items count (omega (arith, bs.ok.0, c.len-count.ensures)) in
    let rank : start_of bs.items end.block + (end.at - 1) ≡ length (items_of bs.items) - 1 = omega (arith, next, all, c.end_of-end.ensures.at b.0 b.1, some) in
    sym c.item_of.ensures.value ∙ ap (λ n. slice_get (items_of bs.items) n) rank ∙ ap (λ (s : Sequence _). slice_get s.items (length s.items - 1)) c.self.view_is
