use Rattle.std.proofs.Common.{◌∙◌, ap, sym}
use Rattle.std.specs.Prelude.{slice_get}
use Rattle.amqp_unsettled.specs.Table.{is_in}
use Rattle.amqp_unsettled.proofs.KeptLemmas.{none_first}
use Rattle.amqp_unsettled.proofs.table.Unsettled.settle_next.Goals as goal

pub returns-in_err-oldest : goal.returns-in_err-oldest
returns-in_err-oldest c =
    let none = none_first (is_in c.args.first c.args.last) c.args.self.now
    (ap (λ xs. slice_get xs 0) (sym c.self.view_is) ∙ sym c.first.ensures ∙ c.in_err-oldest.was) in
    (c.from_residual.ensures ∙ sym none.0, sym none.1)
