use Rattle.std.proofs.Common.{arith, sym}
use Rattle.amqp_session.proofs.SortedTableLemmas.{read_ends, read_missing}
use Rattle.amqp_session.proofs.deliveries.table.missing.Goals as goal

pub overflow_sub-result : goal.overflow_sub-result
overflow_sub-result c =
    let apart = read_ends c.args.rows.now.items c.in-Some-Some.first.now c.in-Some-Some.last.now c.requires.table.0 (sym c.in-Some-Some.ensures) (sym c.in-Some-Some.ensures') in
    omega (arith, apart)

pub overflow_sub-result-3 : goal.overflow_sub-result-3
overflow_sub-result-3 c =
    let apart = read_ends c.args.rows.now.items c.in-Some-Some.first.now c.in-Some-Some.last.now c.requires.table.0 (sym c.in-Some-Some.ensures) (sym c.in-Some-Some.ensures') in
    omega (arith, apart)

pub returns : goal.returns
returns c = record { missing = read_missing c.args.rows.now.items (c.len.result) c.in-Some-Some.first.now c.in-Some-Some.last.now c.requires.table.0 c.len.ensures (sym c.in-Some-Some.ensures) (sym c.in-Some-Some.ensures') }
