use Rattle.std.proofs.Common.{◌+◌, List, ap, ◌∙◌, arith, add-one, get_or, set}
use Rattle.amqp_blocks.specs.Chunked.{Block}
use Rattle.amqp_blocks.proofs.JoinLemmas.{at_before}
use Rattle.amqp_blocks.proofs.joining.join_next.Goals as goal

pub index_mut-requires : goal.index_mut-requires
index_mut-requires g c = omega (arith, c.requires.block, c.remove-upper.ensures.len, c.args.blocks.now.ok.0)

pub take_over-requires : goal.take_over-requires
take_over-requires g c =
    let bs = c.args.blocks.now.items in
    let i = c.args.block in
    let r = c.index_mut.result.now in
    let was = c.index_mut.ensures.value ∙ ap (λ (xs : List (Block _)). get_or xs i r) c.remove-upper.ensures.items ∙ at_before bs i (i + 1) r (add-one i) in
    record { places = c.requires.places r c.remove-upper.result was c.remove-upper.ensures.value }

pub returns-clause-joined : goal.returns-clause-joined
returns-clause-joined g c =
    let bs = c.args.blocks.now.items in
    let i = c.args.block in
    let r = c.index_mut.result.now in
    record {
      lower = r;
      upper = c.remove-upper.result;
      whole = c.take_over.new.ring;
      lower_was = c.index_mut.ensures.value ∙ ap (λ (xs : List (Block _)). get_or xs i r) c.remove-upper.ensures.items ∙ at_before bs i (i + 1) r (add-one i);
      upper_was = c.remove-upper.ensures.value;
      set = ap (λ (xs : List (Block _)). set xs i c.take_over.new.ring) c.remove-upper.ensures.items;
      items = c.take_over.ensures.items;
    }
