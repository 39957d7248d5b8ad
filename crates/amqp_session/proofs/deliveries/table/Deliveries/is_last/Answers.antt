use Rattle.std.proofs.Common.{ℕ, ◌<◌, ◌≤◌, ◌-◌, length, List, arith, ap, refl, sym, subst}
use Rattle.std.proofs.lemmas.Bool.Decides.{nat_tests}
use Rattle.std.proofs.lemmas.Grind.{common_steps}
use Rattle.amqp_session.specs.declared.deliveries.Delivery.{Delivery}
use Rattle.amqp_session.specs.Deliveries.{TableView, number_at}
use Rattle.amqp_session.proofs.SortedTableLemmas.{last_place, last_more, some_rows, stands}
use Rattle.amqp_session.proofs.deliveries.table.Deliveries.is_last.Goals as goal

pub returns-in-Some-clause-last : goal.returns-in-Some-clause-last
returns-in-Some-clause-last c = λ true.
    let items = ap (λ (t : TableView). t.rows) c.self.view_is in
    let less : c.in-Some.last.now.number < c.args.number = grind (arith, nat_tests, common_steps) in
    let rows = c.self.inside.rows.items in
    subst (λ (rows : List Delivery). (i : ℕ) → i < length rows → number_at rows i < c.args.number) items
    (last_place rows (length rows) c.args.number c.in-Some.last.now c.self.invariant.0 refl (some_rows rows (length rows - 1) c.in-Some.last.now (sym c.in-Some.ensures)) (stands rows (length rows - 1) c.in-Some.last.now (sym c.in-Some.ensures)) less)

pub returns-in-Some-clause-not_last : goal.returns-in-Some-clause-not_last
returns-in-Some-clause-not_last c = λ false.
    let items = ap (λ (t : TableView). t.rows) c.self.view_is in
    let more : c.args.number ≤ c.in-Some.last.now.number = grind (arith, nat_tests, common_steps) in
    let rows = c.self.inside.rows.items in
    subst (λ (rows : List Delivery). c.args.number ≤ number_at rows (length rows - 1)) items
    (last_more rows (length rows) c.args.number c.in-Some.last.now refl (some_rows rows (length rows - 1) c.in-Some.last.now (sym c.in-Some.ensures)) (stands rows (length rows - 1) c.in-Some.last.now (sym c.in-Some.ensures)) more)
