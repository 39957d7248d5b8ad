use Rattle.std.proofs.Common.{◌≡◌, ◌∷◌, ◌++◌, [], List, ap, sym, subst, ◌∙◌, arith, length}
use Rattle.amqp_blocks.specs.Chunked.{Block, EachSpare, places_of}
use Rattle.amqp_blocks.proofs.room.make_first.Goals as goal

pub returns : goal.returns
returns g c =
    let q = c.in_ok-queue_with.field-0 in
    let e = c.in_ok-queue_with.ensures in
    let p : c.push_reserved.new.self.items ≡ q ∷ [] = c.push_reserved.ensures.items ∙ ap (λ (xs : List (Block _)). xs ++ q ∷ []) c.requires.none in
    record {
      spares = subst EachSpare (sym p) (e.items, omega (arith, e.exact, c.requires.some), tt);
      most = omega (arith, ap length p);
      ok = omega (arith, ap places_of p, e.exact, c.requires.most);
      refused = tt;
    }
