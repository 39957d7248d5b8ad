use Rattle.std.proofs.Common.{◌∙◌, ap, sym}
use Rattle.std.specs.List.{find}
use Rattle.amqp_unsettled.specs.Table.{has_number, is_of}
use Rattle.amqp_unsettled.proofs.KeptLemmas.{link_none, link_some}
use Rattle.amqp_unsettled.proofs.table.Unsettled.next_of.Goals as goal

pub returns-in_err-number : goal.returns-in_err-number
returns-in_err-number c =
    let none = link_none c.self.inside.entries.items c.self.inside.lists.items c.self.invariant c.args.link
    (sym c.first_of.ensures ∙ c.in_err-number.was) in
    c.from_residual.ensures ∙ sym (ap (find (is_of c.args.link)) (sym c.self.view_is) ∙ none.0)

pub returns : goal.returns
returns c =
    let n = c.in_ok-number.number in
    let some = link_some c.self.inside.entries.items c.self.inside.lists.items c.self.invariant c.args.link n
    (sym c.first_of.ensures ∙ c.in_ok-number.was) in
    c.get.ensures ∙ ap (find (has_number n)) (sym c.self.view_is) ∙ some.0 ∙ ap (find (is_of c.args.link))
    c.self.view_is
