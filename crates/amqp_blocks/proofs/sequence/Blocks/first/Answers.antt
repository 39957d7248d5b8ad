use Rattle.std.proofs.Common.{◌<◌, length, ap, sym, ◌∙◌, arith, slice_get}
use Rattle.amqp_blocks.specs.Chunked.{items_of, Sequence}
use Rattle.amqp_blocks.proofs.PlaceLemmas.{no_items_of, read_none}
use Rattle.amqp_blocks.proofs.LeaveLemmas.{some_at}
use Rattle.amqp_blocks.proofs.sequence.Blocks.first.Goals as goal

pub returns-then-len-eq0 : goal.returns-then-len-eq0
returns-then-len-eq0 g c =
    let bs = c.self.inside.blocks in
    let none = no_items_of bs.items (omega (arith, bs.ok.0, c.len.ensures, c.if-len-eq0.true)) in
    sym (read_none (items_of bs.items) 0 none) ∙ ap (λ (s : Sequence _). slice_get s.items 0) c.self.view_is

pub item_of-requires : goal.item_of-requires
item_of-requires g c =
    let bs = c.self.inside.blocks in
    let h : 0 < length bs.items = omega (arith, bs.ok.0, c.len.ensures, c.if-len-eq0.false) in
    record { at = λ b e. (some_at bs.items 0 b c.self.invariant.0.chunked.some h e).0; block = h }

pub returns : goal.returns
returns g c = sym c.item_of.ensures.value ∙ ap (λ (s : Sequence _). slice_get s.items 0) c.self.view_is
