use Rattle.std.proofs.Common.{◌<◌, length, ap, ◌∙◌, arith, sym, inl, inr}
use Rattle.std.specs.List.{insert}
use Rattle.std.proofs.lemmas.Bool.{cases_lt}
use Rattle.amqp_blocks.specs.Chunked.{items_of}
use Rattle.amqp_blocks.proofs.PlaceLemmas.{no_items_of, start_all}
use Rattle.amqp_blocks.proofs.RoomLemmas.{places_none}
use Rattle.amqp_blocks.proofs.PassLemmas.{end_start}
use Rattle.amqp_blocks.proofs.EndLemmas.{has_end, end_none}
use Rattle.amqp_blocks.proofs.inserting.put_last.Goals as goal

pub put_alone-requires-clause-spare : goal.put_alone-requires-clause-spare
put_alone-requires-clause-spare g c =
    let none = places_none c.args.blocks.now.items (omega (arith, c.args.blocks.now.ok.0, c.len-count.ensures, c.if-count-eq0.true)) in
    elim (cases_lt 0 (length c.args.spare.now.items)) [
      | inl some ↦ some
      | inr less ↦ let no = places_none c.args.spare.now.items (omega (arith, less)) in absurd (omega (arith, no, none, c.requires.room))
    ]

pub returns-then-count-eq0-clause-sound : goal.returns-then-count-eq0-clause-sound
returns-then-count-eq0-clause-sound g c =
    let v = c.requires.sound in
    let e = c.put_alone.ensures in
    record {
      chunked = e.chunked;
      spares = e.spares;
      blocks_fit = omega (arith, e.kept.rings, v.blocks_fit, e.capacity.0);
      ends_fit = omega (arith, e.kept.rings, v.ends_fit, e.capacity.1);
    }

pub returns-then-count-eq0-clause-items : goal.returns-then-count-eq0-clause-items
returns-then-count-eq0-clause-items g c =
    let bs = c.args.blocks.now.items in
    let none = no_items_of bs (omega (arith, c.args.blocks.now.ok.0, c.len-count.ensures, c.if-count-eq0.true)) in
    c.put_alone.ensures.items ∙ ap (λ n. insert (items_of bs) n c.args.item) (sym none)

pub put_at-requires-clause-within : goal.put_at-requires-clause-within
put_at-requires-clause-within g c = λ b e. let h = c.end_of-end.ensures.at b e in omega (arith, h)

pub put_at-requires-clause-block : goal.put_at-requires-clause-block
put_at-requires-clause-block g c = omega (arith, c.end_of-end.ensures.block, c.args.blocks.now.ok.0, c.len-count.ensures, c.if-count-eq0.false)

pub put_at-requires-clause-item : goal.put_at-requires-clause-item
put_at-requires-clause-item g c = λ h. absurd (omega (arith, h, c.end_of-end.ensures.block, c.args.blocks.now.ok.0, c.len-count.ensures))

pub returns-clause-items : goal.returns-clause-items
returns-clause-items g c =
    let bs = c.args.blocks.now.items in
    let end = c.end_of-end.result in
    let count = c.len-count.result in
    let h : end.block < length bs = omega (arith, c.end_of-end.ensures.block, c.args.blocks.now.ok.0, c.len-count.ensures, c.if-count-eq0.false) in
    let same = end_start bs end.block count end.at h (omega (arith, c.end_of-end.ensures.block, c.if-count-eq0.false)) c.end_of-end.ensures.at in
    let all = start_all bs count (omega (arith, c.args.blocks.now.ok.0, c.len-count.ensures)) in
    c.put_at.ensures.items ∙ ap (λ n. insert (items_of bs) n c.args.item) (same ∙ all)

pub returns-clause-begun : goal.returns-clause-begun
returns-clause-begun g c = λ h. c.put_at.ensures.begun (has_end c.args.blocks.now.items c.end_of-end.result.block (omega (arith, c.end_of-end.ensures.block, c.args.blocks.now.ok.0, c.len-count.ensures, c.if-count-eq0.false)) h)

pub returns-clause-taken : goal.returns-clause-taken
returns-clause-taken g c = λ h. c.put_at.ensures.taken (end_none c.args.blocks.now.items c.end_of-end.result.block (omega (arith, c.end_of-end.ensures.block, c.args.blocks.now.ok.0, c.len-count.ensures, c.if-count-eq0.false)) h)
