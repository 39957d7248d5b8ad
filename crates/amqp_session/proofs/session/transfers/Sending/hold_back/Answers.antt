use Rattle.std.proofs.Common.{◌≡◌, ap, sym, ◌∙◌, arith}
use Rattle.amqp_session.specs.Sending.{SendingView}
use Rattle.amqp_session.proofs.HandedOutLemmas.{still}
use Rattle.amqp_session.proofs.SendingLemmas.{number_joined}
use Rattle.amqp_session.proofs.session.transfers.Sending.hold_back.Goals as goal

pub returns-clause-ok : goal.returns-clause-ok
returns-clause-ok c =
    let used_up : c.self.inside.remote_incoming_window ≡ 0 = ap (λ (v : SendingView). v.remote_incoming_window) c.self.view_is ∙ c.requires in
    rw (← c.self.view_is, c.push_back_reserved.ensures.items, c.in_ok-more_in_queue.ensures.items) (sym (still c.self.inside.next_outgoing_id c.self.inside.remote_incoming_window c.self.inside.next_delivery _ used_up (omega arith) (omega arith)))

pub invariant_of-self-2 : goal.invariant_of-self-2
invariant_of-self-2 c =
    let items = rw c.in_ok-more_in_queue.ensures.items at c.push_back_reserved.ensures.items in
    number_joined c.self.inside.next_accepted c.number_after-self-inside.result c.self.inside.next_delivery c.args.held c.self.inside.held.items _
    c.self.invariant c.number_after-self-inside.ensures items
