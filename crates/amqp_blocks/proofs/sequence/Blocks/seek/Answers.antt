use Rattle.std.proofs.Common.{◌<◌, length, ap, sym, ◌∙◌, arith, slice_get, refl}
use Rattle.amqp_blocks.specs.Chunked.{items_of, Sequence}
use Rattle.amqp_blocks.proofs.PlaceLemmas.{reaches, located}
use Rattle.amqp_blocks.proofs.sequence.Blocks.seek.Goals as goal

pub locate_near-place-requires : goal.locate_near-place-requires
locate_near-place-requires g c =
    let s = c.self.inside in
    let v = c.self.invariant.0.chunked in
    let old = ap (λ (s : Sequence _). length s.items) c.self.view_is in
    let within : c.args.rank < length (items_of s.blocks.items) = omega (arith, old, c.requires.within) in
    let r = reaches s.base s.blocks.items s.ends.items c.args.rank v.stops within in
    record { some = r.0; fits = omega (arith, within, v.low, v.few); within = r.1 }

pub item_of-requires : goal.item_of-requires
item_of-requires g c =
    let e = c.locate_near-place.ensures in
    let s = c.self.inside in
    let l = located s.base s.blocks.items s.ends.items c.locate_near-place.result.block c.locate_near-place.result.at c.args.rank c.self.invariant.0.chunked.stops e.block e.first e.other e.after in
    record { at = l.item; block = l.block_is }

pub returns : goal.returns
returns g c =
    let e = c.locate_near-place.ensures in
    let s = c.self.inside in
    let l = located s.base s.blocks.items s.ends.items c.locate_near-place.result.block c.locate_near-place.result.at c.args.rank c.self.invariant.0.chunked.stops e.block e.first e.other e.after in
    let value = sym (ap (λ (s : Sequence _). slice_get s.items c.args.rank) c.self.view_is) ∙ ap (λ n. slice_get (items_of s.blocks.items) n) l.rank_is ∙ c.item_of.ensures.value in
    ((refl, (λ b. tt), c.self.view_is), record { kept = tt; value = value })
