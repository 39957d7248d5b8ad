use Rattle.std.proofs.Common.{sym, subst, arith, inl, inr}
use Rattle.amqp_blocks.specs.Inner.Changes.{NoneToJoin}
use Rattle.amqp_blocks.proofs.EndLemmas.{same_block}
use Rattle.amqp_blocks.proofs.removing.remove_some.Goals as goal

pub returns-clause-either : goal.returns-clause-either
returns-clause-either g c =
    let bs = c.args.blocks.now.items in
    let block = c.cut_out-base.result.1 in
    let e = c.cut_out-base.ensures in
    elim c.join_near.ensures.either [
      | inl less ↦ inl (omega (arith, less, e.count))
      | inr w ↦ inr (λ i u. subst (λ k. NoneToJoin c.join_near.new.blocks.items k) (same_block bs c.args.from block i e.block u) (subst (λ cs. NoneToJoin cs block) (sym w.0) w.1))
    ]
