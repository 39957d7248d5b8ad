-- How many blocks there are for so many items.
use Rattle.std.proofs.Common.{◌*◌, ◌≤◌, arith, List, [], ◌∷◌, length, length-append}
use Rattle.amqp_blocks.specs.Chunked.{Block, items_of, EachSome}

module _ {T : Type 0} where
  pub most_blocks : (bs : List (Block T)) → EachSome bs → length bs ≤ length (items_of bs)
  most_blocks [] v = omega arith
  most_blocks (b ∷ bs) v =
      let l = length-append b.items (items_of bs) in
      let r = most_blocks bs v.2 in
      omega (arith, l, r, v.0)

  pub least_blocks : (bs : List (Block T)) → EachSome bs → length (items_of bs) ≤ 256 * length bs
  least_blocks [] v = omega arith
  least_blocks (b ∷ bs) v =
      let l = length-append b.items (items_of bs) in
      let r = least_blocks bs v.2 in
      omega (arith, l, r, v.1)
