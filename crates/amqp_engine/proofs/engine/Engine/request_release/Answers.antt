use Rattle.std.proofs.Common.{rules, None, [], refl, ap, sym, ◌∙◌}
use Rattle.std.specs.Option.{option_copied}
use Rattle.amqp_engine.proofs.SessionListLemmas.{viewed_some, viewed_none}
use Rattle.amqp_engine.proofs.engine.Engine.request_release.Goals as goal

pub returns-then-ne : goal.returns-then-ne
returns-then-ne g c =
    let known = viewed_some c.args.number.0 c.self.inside.sessions.entries c.in-Some.session.now (sym c.in-Some.ensures.value) in
    rw (← c.self.view_is) (None, [], (((refl, refl), refl), refl, (c.in-Some.session.now.view, known, search rules)))

pub returns : goal.returns
returns g c =
    let known = viewed_some c.args.number.0 c.self.inside.sessions.entries c.in-Some.session.now (sym c.in-Some.ensures.value) in
    rw (← c.self.view_is) (None, [], ((refl, refl), (c.in-Some.session.now.view, known, search rules, search rules)))

pub returns-in_default : goal.returns-in_default
returns-in_default g c =
    let none = viewed_none c.args.number.0 c.self.inside.sessions.entries (sym c.get.ensures.value ∙ ap option_copied c.in_default.is) in
    rw (← c.self.view_is) (None, [], (((refl, refl), refl), none))
