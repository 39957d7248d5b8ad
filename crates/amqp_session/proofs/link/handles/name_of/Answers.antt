use Rattle.std.proofs.Common.{Some, ap, sym, ◌∙◌}
use Rattle.amqp_session.specs.declared.link.handles.HandleSlot.{HandleSlot}
use Rattle.amqp_session.proofs.FiniteMapLemmas.{live_at}
use Rattle.amqp_session.proofs.link.handles.name_of.Goals as goal

pub returns-in-None : goal.returns-in-None
returns-in-None c = sym (live_at c.args.handles.now c.args.handle _ c.in-None.ensures)

pub returns-in-Some-Awaited : goal.returns-in-Some-Awaited
returns-in-Some-Awaited c = sym (live_at c.args.handles.now c.args.handle _ (ap (λ (p : HandleSlot). Some p) (sym c.in-Some-Awaited.field-0-is) ∙ c.in-Some-Awaited.ensures))

pub returns-in-Some-Live : goal.returns-in-Some-Live
returns-in-Some-Live c = ap (λ n. Some n) c.as_str.ensures.value ∙ sym (live_at c.args.handles.now c.args.handle _ (ap (λ (p : HandleSlot). Some p) (sym c.in-Some-Live.field-0-is) ∙ c.in-Some-Live.ensures))
