use Rattle.std.proofs.Common.{◌∙◌, sym, subst}
use Rattle.amqp_unsettled.specs.Table.{is_in}
use Rattle.amqp_unsettled.specs.Inner.Lists.{IsKept}
use Rattle.amqp_unsettled.proofs.KeptLemmas.{kept_none, kept_without, own_some}
use Rattle.amqp_unsettled.proofs.table.Unsettled.settle_later.Goals as goal

pub invariant_of-self : goal.invariant_of-self
invariant_of-self c =
    let p = is_in c.args.first c.args.last in
    subst (λ xs. IsKept xs c.self.inside.lists.items) (sym c.take_within.ensures.1)
    (kept_none c.self.inside.entries.items c.self.inside.lists.items c.self.invariant p
    (sym c.take_within.ensures.0 ∙ c.in_err-entry.was))

pub forget-requires : goal.forget-requires
forget-requires c =
    let p = is_in c.args.first c.args.last in
    record {
      some = own_some c.self.inside.entries.items c.self.inside.lists.items c.self.invariant p c.in_ok-entry.entry
          (sym c.take_within.ensures.0 ∙ c.in_ok-entry.was);
    }

pub invariant_of-self-2 : goal.invariant_of-self-2
invariant_of-self-2 c =
    let p = is_in c.args.first c.args.last in
    subst (λ xs. IsKept xs c.forget.new.lists.items) (sym c.take_within.ensures.1)
    (kept_without c.self.inside.entries.items c.self.inside.lists.items c.self.invariant p c.in_ok-entry.entry
    (sym c.take_within.ensures.0 ∙ c.in_ok-entry.was) c.forget.new.lists.items c.forget.ensures)
