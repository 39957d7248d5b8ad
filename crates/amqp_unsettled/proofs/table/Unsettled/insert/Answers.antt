use Rattle.std.proofs.Common.{◌∙◌, sym, subst, arith}
use Rattle.amqp_unsettled.specs.Inner.Lists.{IsKept}
use Rattle.amqp_unsettled.proofs.KeptLemmas.{kept_end, next_of_link}
use Rattle.amqp_unsettled.proofs.table.Unsettled.insert.Goals as goal

pub put-requires-clause-next : goal.put-requires-clause-next
put-requires-clause-next c =
    next_of_link c.self.inside.entries.items c.self.inside.lists.items c.self.invariant c.args.entry.number
    c.args.entry.link
    (sym c.is_next.ensures ∙ c.if-not-is_next.false)

pub invariant_of-self : goal.invariant_of-self
invariant_of-self c =
    subst (λ xs. IsKept xs c.put.new.lists.items) (sym c.push.ensures.items)
    (kept_end c.self.inside.entries.items c.self.inside.lists.items c.self.invariant c.args.entry (omega arith)
    (sym c.is_next.ensures ∙ c.if-not-is_next.false) c.put.new.lists.items c.put.ensures)
