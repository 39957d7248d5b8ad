use Rattle.std.proofs.Common.{◌≤◌, ◌++◌, length, take, drop, ap, sym, ◌∙◌, arith, length-append, length-drop}
use Rattle.std.proofs.lemmas.List.{length-take-le, take-append-drop}
use Rattle.amqp_blocks.specs.Chunked.{items_of, Sequence}
use Rattle.amqp_blocks.proofs.sequence.Blocks.remove_range.Goals as goal

pub returns-then-from-to : goal.returns-then-from-to
returns-then-from-to g c =
    let xs = c.args.self.now.items in
    record { items = sym (ap (λ n. take c.args.from xs ++ drop n xs) (sym c.if-from-to.true) ∙ take-append-drop c.args.from xs); blocks = omega arith; rings = omega arith; spare = (omega arith, omega arith) }

pub remove_some-self-inside-requires : goal.remove_some-self-inside-requires
remove_some-self-inside-requires g c =
    let old = ap (λ (s : Sequence _). length s.items) c.self.view_is in
    record {
      sound = c.self.invariant.0;
      order = omega (arith, c.requires.order, c.if-from-to.false);
      within = omega (arith, old, c.requires.within);
    }

pub invariant_of-self : goal.invariant_of-self
invariant_of-self g c =
    let e = c.remove_some-self-inside.ensures in
    let xs = items_of c.self.inside.blocks.items in
    let old = ap (λ (s : Sequence _). length s.items) c.self.view_is in
    let within : c.args.to ≤ length xs = omega (arith, old, c.requires.within) in
    let front = length-take-le c.args.from xs (omega (arith, within, c.requires.order)) in
    let long = ap length e.items ∙ length-append (take c.args.from xs) (drop c.args.to xs) in
    (e.sound, omega (arith, long, front, length-drop c.args.to xs, within, c.requires.order, c.self.invariant.1))

pub returns : goal.returns
returns g c =
    let e = c.remove_some-self-inside.ensures in
    let blocks = ap (λ (s : Sequence _). s.blocks) c.self.view_is in
    let spare = ap (λ (s : Sequence _). s.spare) c.self.view_is in
    record {
      items = e.items ∙ ap (λ (s : Sequence _). take c.args.from s.items ++ drop c.args.to s.items) c.self.view_is;
      blocks = omega (arith, blocks, e.count);
      rings = omega (arith, blocks, spare, e.rings);
      spare = (omega (arith, spare, e.kept.kept), omega (arith, spare, e.kept.most));
    }
