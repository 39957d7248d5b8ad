use Rattle.std.proofs.Common.{◌∙◌}
use Rattle.amqp_session.proofs.SendingLemmas.{number_drained}
use Rattle.amqp_session.proofs.session.transfers.Sending.drain.Goals as goal

pub invariant_of-self : goal.invariant_of-self
invariant_of-self c =
    number_drained c.self.inside.next_accepted c.self.inside.next_delivery c.hand_out-self-inside.result c.min-count.result c.self.inside.held.items
    c.give_back.new.held.items c.self.invariant c.hand_out-self-inside.ensures.delivery (c.give_back.ensures ∙ c.hand_out-self-inside.ensures.held)
