use Rattle.std.proofs.Common.{Some, ap, sym, ◌∙◌}
use Rattle.amqp_session.specs.declared.link.handles.HandleSlot.{HandleSlot}
use Rattle.amqp_session.proofs.FiniteMapLemmas.{live_at, live_slot, not_awaited, place_freed}
use Rattle.amqp_session.proofs.link.handles.release.Goals as goal

pub remove-requires : goal.remove-requires
remove-requires c = live_slot c.args.handles.now c.args.handle c.requires

pub unreachable-requires : goal.unreachable-requires
unreachable-requires c = not_awaited c.args.handles.now c.args.handle c.requires (c.remove.ensures.value ∙ ap (λ (p : HandleSlot). Some p) c.in-Awaited.is)

pub returns-clause-name : goal.returns-clause-name
returns-clause-name c = live_at c.args.handles.now c.args.handle _ (sym c.in-Live.ensures.value)

pub returns-clause-freed : goal.returns-clause-freed
returns-clause-freed c = place_freed c.args.handles.now c.remove.new.self c.args.handle c.remove.ensures.updates
