use Rattle.std.proofs.Common.{◌∙◌, arith, ap, subst}
use Rattle.amqp_session.specs.Deliveries.{TableView, cut}
use Rattle.amqp_session.proofs.TableRangeLemmas.{Begins, Ranges, next, ranges}
use Rattle.amqp_session.proofs.deliveries.table.Deliveries.let_go.Goals as goal

found : (c : goal.After-remove) → Ranges c.args.self.now.rows c.args.range.first c.args.range.span c.find-from.result c.stretch-count.result
found c =
    let from = c.find-from.ensures in
    let to = c.find-to.ensures in
    let after : Begins c.find-from.new.self.rows (next c.args.range.first c.args.range.span) c.find-to.result = record { within = to.within; below = to.below; above = to.above } in
    ranges c.args.self.now.rows c.args.range.first c.args.range.span c.find-from.result c.find-to.result (omega arith) (omega arith) c.len-len.ensures.table
    (record { within = from.within; below = from.below; above = from.above })
    (subst (λ (t : TableView). Begins t.rows (next c.args.range.first c.args.range.span) c.find-to.result) from.kept after)
    c.len-len.result c.stretch-count.result c.len-len.ensures.len c.stretch-count.ensures.value

pub returns-clause-rows : goal.returns-clause-rows
returns-clause-rows c =
    let kept = c.note.ensures ∙ c.find-to.ensures.kept ∙ c.find-from.ensures.kept in
    c.remove.ensures.rows ∙ ap (λ (t : TableView). cut c.find-from.result c.stretch-count.result t.rows) kept ∙ (found c).left_is

pub returns-clause-count : goal.returns-clause-count
returns-clause-count c = (found c).count_is
