use Rattle.std.proofs.Common.{Some, ap, sym, ◌∙◌, is_some}
use Rattle.amqp_session.specs.declared.link.handles.HandleSlot.{HandleSlot}
use Rattle.amqp_session.proofs.FiniteMapLemmas.{live_at}
use Rattle.amqp_session.proofs.link.handles.is_live.Goals as goal

pub returns-in-None : goal.returns-in-None
returns-in-None c = sym (ap is_some (live_at c.args.handles.now c.args.handle _ c.in-None.ensures))

pub returns-in-Some-Awaited : goal.returns-in-Some-Awaited
returns-in-Some-Awaited c = sym (ap is_some (live_at c.args.handles.now c.args.handle _ (ap (λ (p : HandleSlot). Some p) (sym c.in-Some-Awaited.field-0-is) ∙ c.in-Some-Awaited.ensures)))

pub returns-in-Some-Live : goal.returns-in-Some-Live
returns-in-Some-Live c = sym (ap is_some (live_at c.args.handles.now c.args.handle _ (ap (λ (p : HandleSlot). Some p) (sym c.in-Some-Live.field-0-is) ∙ c.in-Some-Live.ensures)))
