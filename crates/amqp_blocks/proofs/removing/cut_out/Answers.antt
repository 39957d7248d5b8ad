use Rattle.std.proofs.Common.{◌≡◌, ℕ, ◌+◌, ◌-◌, ◌<◌, ◌≤◌, ◌++◌, length, take, drop, ap, ◌∙◌, arith, sym, suc, refl, List, inl, inr}
use Rattle.std.proofs.lemmas.Bool.{cases_lt}
use Rattle.amqp_blocks.specs.Chunked.{items_of, without, start_of}
use Rattle.amqp_blocks.proofs.PlaceLemmas.{ends_long, reaches, located, last_end, placed_end, within_block, comes_later, same_at, start_more}
use Rattle.amqp_blocks.proofs.PutLemmas.{size_of}
use Rattle.amqp_blocks.proofs.CountLemmas.{most_blocks}
use Rattle.amqp_blocks.proofs.removing.cut_out.Goals as goal

pub locate_near-first-requires : goal.locate_near-first-requires
locate_near-first-requires g c =
    let v = c.requires.sound.chunked in
    let within : c.args.from < length (items_of c.args.blocks.now.items) = omega (arith, c.requires.order, c.requires.within) in
    let r = reaches c.args.base c.args.blocks.now.items c.args.ends.now.items c.args.from v.stops within in
    record { some = r.0; fits = omega (arith, within, v.low, v.few); within = r.1 }

pub index-requires : goal.index-requires
index-requires g c =
    let e = c.locate_near-first.ensures in
    let l = located c.args.base c.args.blocks.now.items c.args.ends.now.items c.locate_near-first.result.block c.locate_near-first.result.at c.args.from c.requires.sound.chunked.stops e.block e.first e.other e.after in
    omega (arith, l.block_is, c.args.blocks.now.ok.0)

pub overflow_sub-len : goal.overflow_sub-len
overflow_sub-len g c =
    let e = c.locate_near-first.ensures in
    let l = located c.args.base c.args.blocks.now.items c.args.ends.now.items c.locate_near-first.result.block c.locate_near-first.result.at c.args.from c.requires.sound.chunked.stops e.block e.first e.other e.after in
    omega (arith, l.item c.index.result.now c.index.ensures, c.len.ensures, c.index.result.now.ok.0)

pub leave-base-requires : goal.leave-base-requires
leave-base-requires g c =
    let e = c.locate_near-first.ensures in
    let bs = c.args.blocks.now.items in
    let first = c.locate_near-first.result in
    let l = located c.args.base bs c.args.ends.now.items first.block first.at c.args.from c.requires.sound.chunked.stops e.block e.first e.other e.after in
    record {
      chunked = c.requires.sound.chunked;
      spares = c.requires.sound.spares;
      block = l.block_is;
      within = λ b f.
          let r = size_of c.index.result.now b (same_at bs first.block c.index.result.now b l.block_is c.index.ensures f) in
          omega (arith, l.item b f, r, c.if-to-from.true, c.len.ensures, c.index.result.now.ok.0);
    }

pub returns-then-to-from-clause-sound : goal.returns-then-to-from-clause-sound
returns-then-to-from-clause-sound g c =
    let v = c.requires.sound in
    let e = c.leave-base.ensures in
    record {
      chunked = e.chunked;
      spares = e.spares;
      blocks_fit = omega (arith, e.rings, v.blocks_fit, e.capacity.0);
      ends_fit = omega (arith, e.rings, v.ends_fit, e.capacity.1);
    }

-- a stretch by its length is one by its end
stretch : {T : Type 0} (from to r count : ℕ) (xs : List T) → from ≡ r → count ≡ to - from → from ≤ to → without r count xs ≡ take from xs ++ drop to xs
stretch from to r count xs e f h =
    let z : r + count ≡ to = omega (arith, e, f, h) in
    ap (λ n. take r xs ++ drop n xs) z ∙ ap (λ n. take n xs ++ drop to xs) (sym e)

pub returns-then-to-from-clause-items : goal.returns-then-to-from-clause-items
returns-then-to-from-clause-items g c =
    let e = c.locate_near-first.ensures in
    let bs = c.args.blocks.now.items in
    let first = c.locate_near-first.result in
    let l = located c.args.base bs c.args.ends.now.items first.block first.at c.args.from c.requires.sound.chunked.stops e.block e.first e.other e.after in
    c.leave-base.ensures.items ∙ stretch c.args.from c.args.to (start_of bs first.block + first.at) (c.args.to - c.args.from) (items_of bs) l.rank_is refl (omega (arith, c.requires.order))

pub locate_end-last-requires : goal.locate_end-last-requires
locate_end-last-requires g c =
    let v = c.requires.sound.chunked in
    let bs = c.args.blocks.now.items in
    let es = c.args.ends.now.items in
    let long = ends_long c.args.base bs es v.stops in
    let some = c.locate_near-first.ensures.block in
    let last = last_end c.args.base bs es (length es - 1) v.stops (omega (arith, long, some)) in
    record {
      some = omega (arith, some);
      fits = omega (arith, c.requires.within, v.low, v.few);
      within = omega (arith, last, c.requires.within);
    }

not_last : (j n at : ℕ) → j ≤ n → 0 < at → (j ≡ n → at ≡ 0) → j < n
not_last j n at h p f =
    elim (cases_lt j n) [
      | inl lt ↦ lt
      | inr ge ↦ let z = f (omega (arith, h, ge)) in absurd (omega (arith, z, p))
    ]

pub cut_wide-base-requires : goal.cut_wide-base-requires
cut_wide-base-requires g c =
    let v = c.requires.sound.chunked in
    let bs = c.args.blocks.now.items in
    let es = c.args.ends.now.items in
    let e = c.locate_near-first.ensures in
    let first = c.locate_near-first.result in
    let l = located c.args.base bs es first.block first.at c.args.from v.stops e.block e.first e.other e.after in
    let f = c.locate_end-last.ensures in
    let last = c.locate_end-last.result in
    let long = ends_long c.args.base bs es v.stops in
    let w : last.block ≤ length bs = omega (arith, f.block, long) in
    let r = placed_end c.args.base bs es last.block last.at c.args.to v.stops w f.first f.other in
    let more = start_more bs first.block c.index.result.now l.block_is c.index.ensures in
    let far : start_of bs (suc first.block) < c.args.to = omega (arith, more, l.rank_is, c.if-to-from.false, c.len.ensures, c.index.result.now.ok.0, l.item c.index.result.now c.index.ensures, c.requires.order) in
    record {
      chunked = v;
      order = comes_later c.args.base bs es first.block last.block c.args.to v.stops l.block_is w far f.after;
      within = w;
      from = l.item;
      to = λ p.
          let h : last.block < length bs = not_last last.block (length bs) last.at w p (λ q. f.end (q ∙ sym long)) in
          (h, λ b s. within_block c.args.base bs es last.block last.at c.args.to b v.stops h r (f.after (omega (arith, h, long))) s);
      rank = l.rank_is;
      count = omega (arith, r, c.requires.order);
    }

pub overflow_add-first : goal.overflow_add-first
overflow_add-first g c =
    let v = c.requires.sound.chunked in
    let few = most_blocks c.args.blocks.now.items v.some in
    let long = ends_long c.args.base c.args.blocks.now.items c.args.ends.now.items v.stops in
    omega (arith, c.locate_near-first.ensures.block, long, few, v.few)

pub join_near-requires : goal.join_near-requires
join_near-requires g c =
    let v = c.requires.sound in
    let e = c.cut_wide-base.ensures in
    record {
      sound = record {
        chunked = e.chunked;
        spares = v.spares;
        blocks_fit = omega (arith, e.rings, v.blocks_fit, e.capacity.0);
        ends_fit = omega (arith, e.rings, v.ends_fit, e.capacity.1);
      };
    }

pub returns-clause-items : goal.returns-clause-items
returns-clause-items g c =
    c.join_near.ensures.items ∙ c.cut_wide-base.ensures.items ∙ stretch c.args.from c.args.to c.args.from (c.args.to - c.args.from) (items_of c.args.blocks.now.items) refl refl (omega (arith, c.requires.order))

pub returns-then-to-from-clause-block : goal.returns-then-to-from-clause-block
returns-then-to-from-clause-block g c =
    let e = c.locate_near-first.ensures in
    let first = c.locate_near-first.result in
    let l = located c.args.base c.args.blocks.now.items c.args.ends.now.items first.block first.at c.args.from c.requires.sound.chunked.stops e.block e.first e.other e.after in
    record { at = first.at; block = l.block_is; item = l.item; rank_is = sym l.rank_is }

pub returns-clause-block : goal.returns-clause-block
returns-clause-block g c =
    let e = c.locate_near-first.ensures in
    let first = c.locate_near-first.result in
    let l = located c.args.base c.args.blocks.now.items c.args.ends.now.items first.block first.at c.args.from c.requires.sound.chunked.stops e.block e.first e.other e.after in
    record { at = first.at; block = l.block_is; item = l.item; rank_is = sym l.rank_is }
