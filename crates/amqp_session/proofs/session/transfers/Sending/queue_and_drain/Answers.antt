use Rattle.std.proofs.Common.{◌≡◌, ap, sym, arith}
use Rattle.amqp_session.specs.Sending.{SendingView}
use Rattle.amqp_session.proofs.SentAloneLemmas.{goes_after}
use Rattle.amqp_session.proofs.session.transfers.Sending.queue_and_drain.Goals as goal

pub returns-clause-item : goal.returns-clause-item
returns-clause-item c =
    let same : c.self.inside.remote_incoming_window ≡ c.args.self.now.remote_incoming_window = ap (λ (v : SendingView). v.remote_incoming_window) c.self.view_is in
    let lets : ¬ (c.args.self.now.remote_incoming_window ≡ 0) = λ e. omega (arith, same, c.if-self-eq0.false, e) in
    let g = goes_after c.args.channel.0 c.args.self.now.next_delivery c.args.self.now.remote_incoming_window c.args.self.now.held c.args.requested c.requires.waits lets in
    (g.0, rw (← c.in_ok-held.ensures.held) (sym c.in_ok-send_after.ensures.frames), g.1)
