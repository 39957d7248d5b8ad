use Rattle.std.proofs.Common.{◌++◌, ◌∷◌, [], ◌∙◌, ap, sym, subst, arith}
use Rattle.amqp_unsettled.specs.Table.{is_next}
use Rattle.amqp_unsettled.specs.Inner.Lists.{IsKept}
use Rattle.amqp_unsettled.proofs.KeptLemmas.{kept_same, kept_end, next_of_link}
use Rattle.amqp_unsettled.proofs.table.Unsettled.insert_later.Goals as goal

pub put-requires-clause-next : goal.put-requires-clause-next
put-requires-clause-next c =
    let es = c.self.inside.entries.items in
    let made = c.make_room.new.lists.items in
    let kept = kept_same es c.self.inside.lists.items c.self.invariant made c.make_room.ensures.same in
    next_of_link es made kept c.args.entry.number c.args.entry.link
    (ap (is_next c.args.entry.number) c.self.view_is ∙ c.requires.next)

pub invariant_of-self-2 : goal.invariant_of-self-2
invariant_of-self-2 c =
    let es = c.self.inside.entries.items in
    let made = c.make_room.new.lists.items in
    let kept = kept_same es c.self.inside.lists.items c.self.invariant made c.make_room.ensures.same in
    let entries = c.push.ensures.items ∙ ap (λ xs. xs ++ c.args.entry ∷ []) c.reserve.ensures.items in
    subst (λ xs. IsKept xs c.put.new.lists.items) (sym entries)
    (kept_end es made kept c.args.entry (omega arith) (ap (is_next c.args.entry.number) c.self.view_is ∙
    c.requires.next)
    c.put.new.lists.items c.put.ensures)
