use Rattle.std.proofs.Common.{rules, refl, ap, sym, ◌∙◌, inl, inr}
use Rattle.std.specs.Option.{option_copied}
use Rattle.amqp_engine.proofs.SessionListLemmas.{viewed_some, viewed_none}
use Rattle.amqp_engine.proofs.engine.Engine.check_over.Goals as goal

pub returns-in_default : goal.returns-in_default
returns-in_default g c =
    let none = viewed_none c.args.number.0 c.self.inside.sessions.entries (sym c.get.ensures.value ∙ ap option_copied c.in_default.is) in
    rw (← c.self.view_is) none

pub returns-in_default-local_state : goal.returns-in_default-local_state
returns-in_default-local_state g c =
    let known = viewed_some c.args.number.0 c.self.inside.sessions.entries c.in-Some.session.now (sym c.in-Some.ensures.value) in
    rw (← c.self.view_is) (refl, (c.in-Some.session.now.view, known, inl (λ e. c.in_default-local_state.not-Unmapped (c.local_state.ensures ∙ e))))

pub returns-then-is_wished : goal.returns-then-is_wished
returns-then-is_wished g c =
    let known = viewed_some c.args.number.0 c.self.inside.sessions.entries c.in-Some.session.now (sym c.in-Some.ensures.value) in
    rw (← c.self.view_is) (refl, (c.in-Some.session.now.view, known, inr (search rules)))

pub returns-then-eq : goal.returns-then-eq
returns-then-eq g c =
    let known = viewed_some c.args.number.0 c.self.inside.sessions.entries c.in-Some.session.now (sym c.in-Some.ensures.value) in
    rw (← c.self.view_is) (c.in-Some.session.now.view, known, (record { unmapped = search rules; unwished = search rules }, inl (search rules)))

pub returns-then-has_route : goal.returns-then-has_route
returns-then-has_route g c =
    let known = viewed_some c.args.number.0 c.self.inside.sessions.entries c.in-Some.session.now (sym c.in-Some.ensures.value) in
    rw (← c.self.view_is) (c.in-Some.session.now.view, known, (record { unmapped = search rules; unwished = search rules }, inr (search rules)))

pub returns : goal.returns
returns g c =
    let known = viewed_some c.args.number.0 c.self.inside.sessions.entries c.in-Some.session.now (sym c.in-Some.ensures.value) in
    rw (← c.self.view_is) (
      c.in-Some.session.now.view,
      known,
      record {
        ended = record { unmapped = search rules; unwished = search rules };
        gave_back = search rules;
        unrouted = search rules;
      },
    )
