use Rattle.amqp_session.proofs.SendingLemmas.{number_joined}
use Rattle.amqp_session.proofs.session.transfers.Sending.send_after.Goals as goal

pub invariant_of-self-2 : goal.invariant_of-self-2
invariant_of-self-2 c =
    let items = rw c.in_ok-more_in_queue.ensures.items at c.push_back_reserved.ensures.items in
    number_joined c.self.inside.next_accepted c.number_after-self-inside.result c.self.inside.next_delivery c.args.held c.self.inside.held.items _
    c.self.invariant c.number_after-self-inside.ensures items
