use Rattle.std.proofs.Common.{◌∙◌, ap, sym, refl}
use Rattle.std.specs.Prelude.{slice_get}
use Rattle.amqp_unsettled.specs.Table.{has_number, is_any}
use Rattle.amqp_unsettled.proofs.NumberLemmas.{equal_test}
use Rattle.amqp_unsettled.proofs.KeptLemmas.{first_found, none_first}
use Rattle.amqp_unsettled.proofs.table.Unsettled.remove_oldest.Goals as goal

pub returns-in_err-oldest : goal.returns-in_err-oldest
returns-in_err-oldest c =
    let es = c.args.self.now in
    let none = none_first is_any es (ap (λ xs. slice_get xs 0) (sym c.self.view_is) ∙ sym c.first.ensures ∙
    c.in_err-oldest.was) in
    (c.from_residual.ensures ∙ sym none.0, sym none.1)

pub returns : goal.returns
returns c =
    let es = c.args.self.now in
    let e = c.in_ok-oldest.oldest in
    let at = ap (λ xs. slice_get xs 0) (sym c.self.view_is) ∙ sym c.first.ensures ∙ c.in_ok-oldest.was in
    let own = first_found (has_number e.number) es e at (equal_test e.number e.number refl) in
    let any = first_found is_any es e at refl in
    (c.remove.ensures.0 ∙ own.0 ∙ sym any.0, c.remove.ensures.1 ∙ own.1 ∙ sym any.1)
