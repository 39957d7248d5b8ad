use Rattle.amqp_session.proofs.FiniteMapLemmas.{place_freed, next_of_awaited}
use Rattle.amqp_session.proofs.link.handles.free.Goals as goal

pub returns-clause-freed : goal.returns-clause-freed
returns-clause-freed c = place_freed c.args.handles.now c.try_remove.new.self c.args.handle c.try_remove.ensures.updates

pub returns-clause-next : goal.returns-clause-next
returns-clause-next c a =
    next_of_awaited c.args.handles.now c.args.handle c.try_remove.new.self.vacant_key c.try_remove.result c.try_remove.ensures.value a c.try_remove.ensures.key_is_next
