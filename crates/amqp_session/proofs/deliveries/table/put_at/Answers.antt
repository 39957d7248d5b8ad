use Rattle.std.proofs.Common.{◌^◌, arith, sym, ◌∙◌}
use Rattle.amqp_session.proofs.SortedTableLemmas.{few_rows, recorded_on, recorded_before}
use Rattle.amqp_session.proofs.deliveries.table.put_at.Goals as goal

pub returns-then-stands_at-clause-items : goal.returns-then-stands_at-clause-items
returns-then-stands_at-clause-items c =
    let there = c.stands_at.ensures.there c.if-stands_at.true in
    c.replace.ensures.items ∙ sym (recorded_on c.args.rows.now.items c.args.place c.args.delivery there.0 c.requires.below there.1)

pub returns-else-stands_at-clause-items : goal.returns-else-stands_at-clause-items
returns-else-stands_at-clause-items c =
    c.insert.ensures.items ∙ sym (recorded_before c.args.rows.now.items c.args.place c.args.delivery c.requires.within c.requires.below c.requires.above c.requires.table.0 (c.stands_at.ensures.not_there c.if-stands_at.false))

pub insert-requires-clause-few : goal.insert-requires-clause-few
insert-requires-clause-few c = let few = few_rows (2 ^ 32) c.args.rows.now.items c.requires.table.0 c.requires.table.1 in omega (arith, few)
