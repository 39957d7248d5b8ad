use Rattle.std.proofs.Common.{None, refl, sym, ap, ◌∙◌}
use Rattle.std.specs.Option.{option_copied_mut}
use Rattle.std.specs.HashMap.{HashMap}
use Rattle.amqp_engine.specs.Inner.Calls.{FlowCalls}
use Rattle.amqp_engine.proofs.AskedSessionLemmas.{did, did_not}
use Rattle.amqp_engine.proofs.SessionListLemmas.{viewed_some, viewed_none, seated_set}
use Rattle.amqp_engine.proofs.engine.Engine.request_flow.Goals as goal

pub returns : goal.returns
returns g c =
    let n = c.args.number.0 in
    let asks = FlowCalls c.args.flow in
    let known = viewed_some n c.self.inside.sessions.entries c.in-Some.session.now (sym c.in-Some.ensures.value) in
    let set = (c.get_mut.follows.holds c.send_flow.new.session) in
    let d = did g.R.LinkRelay.gives asks c.args.self.now _ _ _ _ n _ c.send_flow.new.waiting _ c.in-Some.session.now c.send_flow.new.session _ c.self.view_is known c.send_flow.ensures refl set in (None, d.0, d.1, _, (refl, d.2), refl)

pub returns-in_default : goal.returns-in_default
returns-in_default g c =
    let n = c.args.number.0 in
    let asks = FlowCalls c.args.flow in
    let none = viewed_none n c.self.inside.sessions.entries (sym c.get_mut.ensures.value ∙ ap option_copied_mut c.in_default.is) in
    let stays = ap (λ (m : HashMap _ _ _). m.entries) c.get_mut.follows.holds-at-none in
    let d = did_not g.R.LinkRelay.gives asks c.args.self.now _ _ _ _ n _ c.self.view_is none stays in (None, d.0, d.1, _, (refl, d.2), refl)

pub invariant_of-self-2 : goal.invariant_of-self-2
invariant_of-self-2 g c = (seated_set c.self.inside.sessions.entries _ c.args.number.0 c.send_flow.new.session c.self.inside.kept.places (c.get_mut.follows.holds c.send_flow.new.session) c.self.invariant.0, c.self.invariant.1)
