use Rattle.std.proofs.Common.{refl}
use Rattle.amqp_links.specs.Ends.{end_at}
use Rattle.amqp_links.proofs.SessionLemmas.{sends_by}
use Rattle.amqp_links.proofs.session.SessionLinks.send.Goals as goal

pub returns-in-Ok : goal.returns-in-Ok
returns-in-Ok c = sends_by c.args.self.now c.prepare_send.new.self c.finish_send.new.self c.args.handle c.args.part c.in-Ok.prepared c.finish_send.result
    (end_at c.args.self.now.ends c.args.handle) refl c.in-Ok.ensures c.finish_send.ensures
