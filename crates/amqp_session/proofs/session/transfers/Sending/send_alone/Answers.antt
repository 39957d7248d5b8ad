use Rattle.std.proofs.Common.{◌≡◌, ◌<◌, ◌^◌, [], ap, ◌∙◌, arith}
use Rattle.amqp_session.specs.Sending.{SendingView}
use Rattle.amqp_session.proofs.SentAloneLemmas.{opened_alone}
use Rattle.amqp_session.proofs.session.transfers.Sending.send_alone.Goals as goal

pub returns-clause-opened : goal.returns-clause-opened
returns-clause-opened c =
    let small : c.self.inside.next_delivery < 2 ^ 32 = omega arith in
    let none : c.self.inside.held.items ≡ [] = ap (λ (v : SendingView). v.held) c.self.view_is ∙ c.requires.alone in
    let same : c.self.inside.remote_incoming_window ≡ c.args.self.now.remote_incoming_window = ap (λ (v : SendingView). v.remote_incoming_window) c.self.view_is in
    let lets : 0 < c.self.inside.remote_incoming_window = omega (arith, same, c.requires.open_window) in
    rw (← c.self.view_is, c.record_opened.ensures.rows, c.record_of.ensures, none)
    (opened_alone _ _ (record { input_handle = c.args.input_handle.0; transfer = c.args.transfer; payload = c.args.payload; is_first = c.args.is_first }) c.args.tag c.args.deliveries.now.rows small lets c.requires.tag)
