use Rattle.std.proofs.Common.{◌∙◌, sym, subst}
use Rattle.amqp_unsettled.specs.Table.{has_number}
use Rattle.amqp_unsettled.specs.Inner.Lists.{IsKept}
use Rattle.amqp_unsettled.proofs.KeptLemmas.{kept_none, kept_without, own_some}
use Rattle.amqp_unsettled.proofs.table.Unsettled.remove.Goals as goal

pub invariant_of-self : goal.invariant_of-self
invariant_of-self c =
    let p = has_number c.args.number in
    subst (λ xs. IsKept xs c.self.inside.lists.items) (sym c.take.ensures.1)
    (kept_none c.self.inside.entries.items c.self.inside.lists.items c.self.invariant p
    (sym c.take.ensures.0 ∙ c.in_err-entry.was))

pub forget-requires : goal.forget-requires
forget-requires c =
    let p = has_number c.args.number in
    record {
      some = own_some c.self.inside.entries.items c.self.inside.lists.items c.self.invariant p c.in_ok-entry.entry
          (sym c.take.ensures.0 ∙ c.in_ok-entry.was);
    }

pub invariant_of-self-2 : goal.invariant_of-self-2
invariant_of-self-2 c =
    let p = has_number c.args.number in
    subst (λ xs. IsKept xs c.forget.new.lists.items) (sym c.take.ensures.1)
    (kept_without c.self.inside.entries.items c.self.inside.lists.items c.self.invariant p c.in_ok-entry.entry
    (sym c.take.ensures.0 ∙ c.in_ok-entry.was) c.forget.new.lists.items c.forget.ensures)
