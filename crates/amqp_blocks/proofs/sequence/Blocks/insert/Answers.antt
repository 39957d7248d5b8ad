use Rattle.std.proofs.Common.{List, length, ap, ◌∙◌, arith}
use Rattle.std.specs.List.{insert}
use Rattle.std.proofs.lemmas.List.Edits.{length-insert}
use Rattle.amqp_blocks.specs.Chunked.{items_of, Sequence}
use Rattle.amqp_blocks.proofs.sequence.Blocks.insert.Goals as goal

pub put_before-requires-clause-sound : goal.put_before-requires-clause-sound
put_before-requires-clause-sound g c = c.self.invariant.0

pub put_before-requires-clause-within : goal.put_before-requires-clause-within
put_before-requires-clause-within g c =
    let old = ap (λ (s : Sequence _). length s.items) c.self.view_is in
    omega (arith, old, c.requires.within)

pub put_before-requires-clause-room : goal.put_before-requires-clause-room
put_before-requires-clause-room g c =
    let room = ap (λ (s : Sequence _). s.room) c.self.view_is in
    omega (arith, room, c.requires.room)

pub put_before-requires-clause-few : goal.put_before-requires-clause-few
put_before-requires-clause-few g c =
    let old = ap (λ (s : Sequence _). length s.items) c.self.view_is in
    omega (arith, old, c.requires.few)

pub invariant_of-self : goal.invariant_of-self
invariant_of-self g c =
    let e = c.put_before.ensures in
    let old = ap (λ (s : Sequence _). length s.items) c.self.view_is in
    let long = ap length e.items ∙ length-insert (items_of c.self.inside.blocks.items) c.args.rank c.args.item (omega (arith, old, c.requires.within)) in
    (e.sound, omega (arith, long, c.self.invariant.1))

pub returns-clause-items : goal.returns-clause-items
returns-clause-items g c =
    let e = c.put_before.ensures in
    let old = ap (λ (s : Sequence _). s.items) c.self.view_is in
    e.items ∙ ap (λ (xs : List _). insert xs c.args.rank c.args.item) old

pub returns-clause-room : goal.returns-clause-room
returns-clause-room g c =
    let e = c.put_before.ensures in
    let room = ap (λ (s : Sequence _). s.room) c.self.view_is in
    let old = ap (λ (s : Sequence _). length s.items) c.self.view_is in
    let long = ap length e.items ∙ length-insert (items_of c.self.inside.blocks.items) c.args.rank c.args.item (omega (arith, old, c.requires.within)) in
    omega (arith, room, e.kept.places, long)
