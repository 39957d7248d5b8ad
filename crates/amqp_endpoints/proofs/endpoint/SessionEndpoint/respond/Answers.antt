use Rattle.std.proofs.Common.{sym, subst}
use Rattle.amqp_endpoints.specs.Forgetting.{RenewsAfter}
use Rattle.amqp_endpoints.specs.Responding.{Responds}
use Rattle.amqp_endpoints.proofs.endpoint.SessionEndpoint.respond.Goals as goal

pub returns-in-Part : goal.returns-in-Part
returns-in-Part g c =
    subst (λ e. Responds g.R.LinkRelay.gives c.args.self.now c.args.stream.now e c.args.available c.after_part.result c.after_part.new.stream c.after_part.new.self)
    (sym c.in-Part.is)
    (subst (λ n. RenewsAfter n g.R.LinkRelay.gives c.args.self.now c.args.stream.now c.in-Part.handle c.after_part.result c.after_part.new.stream
    c.after_part.new.self) c.settled_number.ensures c.after_part.ensures)

pub returns-in-Fault : goal.returns-in-Fault
returns-in-Fault g c =
    subst (λ e. Responds g.R.LinkRelay.gives c.args.self.now c.args.stream.now e c.args.available c.after_fault.result c.after_fault.new.stream c.after_fault.new.self)
    (sym c.in-Fault.is) c.after_fault.ensures
