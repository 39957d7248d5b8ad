use Rattle.std.proofs.Common.{arith, ◌^◌, ℕ, ◌<◌, length, List, ap, sym, subst, ◌∙◌}
use Rattle.amqp_session.specs.declared.deliveries.Delivery.{Delivery}
use Rattle.amqp_session.specs.Deliveries.{TableView, IsTable, number_at, recorded}
use Rattle.amqp_session.proofs.SortedTableLemmas.{few_rows, recorded_last, recorded_table}
use Rattle.amqp_session.proofs.deliveries.table.Deliveries.record.Goals as goal

pub invariant_of-self : goal.invariant_of-self
invariant_of-self c =
    let items = ap (λ (t : TableView). t.rows) c.self.view_is in
    let below = subst (λ (rows : List Delivery). (i : ℕ) → i < length rows → number_at rows i < c.args.delivery.number) (sym items) (c.is_last.ensures.last c.if-not-is_last.false) in
    subst IsTable (sym (c.push_back.ensures.items ∙ sym (recorded_last c.self.inside.rows.items c.args.delivery below))) (recorded_table c.args.delivery c.self.inside.rows.items (omega arith) c.self.invariant)

pub returns-clause-rows : goal.returns-clause-rows
returns-clause-rows c =
    let items = ap (λ (t : TableView). t.rows) c.self.view_is in
    let below = subst (λ (rows : List Delivery). (i : ℕ) → i < length rows → number_at rows i < c.args.delivery.number) (sym items) (c.is_last.ensures.last c.if-not-is_last.false) in
    c.push_back.ensures.items ∙ sym (recorded_last c.self.inside.rows.items c.args.delivery below) ∙ ap (λ rows. recorded c.args.delivery rows) items

pub push_back-requires-clause-few : goal.push_back-requires-clause-few
push_back-requires-clause-few c = let few = few_rows (2 ^ 32) c.self.inside.rows.items c.self.invariant.0 c.self.invariant.1 in omega (arith, few)
