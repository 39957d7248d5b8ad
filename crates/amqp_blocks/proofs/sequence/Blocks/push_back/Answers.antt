use Rattle.std.proofs.Common.{◌∷◌, ◌++◌, [], List, length, ap, ◌∙◌, arith}
use Rattle.std.proofs.lemmas.List.Edits.{length-insert}
use Rattle.amqp_blocks.specs.Chunked.{items_of, Sequence}
use Rattle.amqp_blocks.proofs.RoomLemmas.{insert_end}
use Rattle.amqp_blocks.proofs.sequence.Blocks.push_back.Goals as goal

pub put_last-requires-clause-sound : goal.put_last-requires-clause-sound
put_last-requires-clause-sound g c = c.self.invariant.0

pub put_last-requires-clause-room : goal.put_last-requires-clause-room
put_last-requires-clause-room g c =
    let room = ap (λ (s : Sequence _). s.room) c.self.view_is in
    omega (arith, room, c.requires.room)

pub put_last-requires-clause-few : goal.put_last-requires-clause-few
put_last-requires-clause-few g c =
    let old = ap (λ (s : Sequence _). length s.items) c.self.view_is in
    omega (arith, old, c.requires.few)

pub invariant_of-self : goal.invariant_of-self
invariant_of-self g c =
    let e = c.put_last.ensures in
    let xs = items_of c.self.inside.blocks.items in
    let long = ap length e.items ∙ length-insert xs (length xs) c.args.item (omega arith) in
    (e.sound, omega (arith, long, c.self.invariant.1))

pub returns-clause-items : goal.returns-clause-items
returns-clause-items g c =
    let e = c.put_last.ensures in
    let old = ap (λ (s : Sequence _). s.items) c.self.view_is in
    e.items ∙ insert_end (items_of c.self.inside.blocks.items) c.args.item ∙ ap (λ (xs : List _). xs ++ c.args.item ∷ []) old

pub returns-clause-room : goal.returns-clause-room
returns-clause-room g c =
    let e = c.put_last.ensures in
    let room = ap (λ (s : Sequence _). s.room) c.self.view_is in
    let old = ap (λ (s : Sequence _). length s.items) c.self.view_is in
    let long = ap length e.items ∙ length-insert (items_of c.self.inside.blocks.items) (length (items_of c.self.inside.blocks.items)) c.args.item (omega arith) in
    omega (arith, room, e.kept.places, long)
