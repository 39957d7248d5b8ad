use Rattle.std.proofs.Common.{length, ap, sym, ◌∙◌, arith, refl}
use Rattle.std.proofs.lemmas.Bool.{false≢true}
use Rattle.amqp_blocks.proofs.PlaceLemmas.{no_items_of}
use Rattle.amqp_blocks.specs.Chunked.{Sequence}
use Rattle.amqp_blocks.proofs.sequence.Blocks.pop_front.Goals as goal

pub pop-item-requires : goal.pop-item-requires
pop-item-requires g c = record {
  chunked = c.self.invariant.0.chunked;
  spares = c.self.invariant.0.spares;
  some = omega (arith, c.self.inside.blocks.ok.0, c.len.ensures, c.if-len-eq0.false);
}

pub invariant_of-self : goal.invariant_of-self
invariant_of-self g c =
    let v = c.self.invariant.0 in
    let e = c.pop-item.ensures in
    let less = ap length e.items in (
      record {
        chunked = e.chunked;
        spares = e.spares;
        blocks_fit = omega (arith, e.rings, v.blocks_fit, e.capacity.0);
        ends_fit = omega (arith, e.rings, v.ends_fit, e.capacity.1);
      },
      omega (arith, less, c.self.invariant.1),
    )

pub returns-then-len-eq0-clause-variant : goal.returns-then-len-eq0-clause-variant
returns-then-len-eq0-clause-variant g c =
    let bs = c.self.inside.blocks in
    let none = no_items_of bs.items (omega (arith, bs.ok.0, c.len.ensures, c.if-len-eq0.true)) in
    let old = ap (λ (s : Sequence _). length s.items) c.self.view_is in
    (λ e. absurd (false≢true e), λ h. absurd (omega (arith, h, none, old)))

pub returns-clause-items : goal.returns-clause-items
returns-clause-items g c = sym (ap (λ (s : Sequence _). s.items) c.self.view_is) ∙ c.pop-item.ensures.items

pub returns-clause-variant : goal.returns-clause-variant
returns-clause-variant g c =
    let old = ap (λ (s : Sequence _). length s.items) c.self.view_is in
    let more = ap length c.pop-item.ensures.items in
    (λ e. omega (arith, old, more), λ h. refl)
