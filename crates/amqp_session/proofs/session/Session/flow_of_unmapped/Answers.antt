use Rattle.std.proofs.Common.{◌≡◌, Option, Some, Ok, Err, refl, ap, ◌∙◌, subst, false}
use Rattle.amqp_session.specs.declared.frame.SessionFrame.{SessionFrame}
use Rattle.amqp_session.specs.Items.{HandsOut, first_frame}
use Rattle.amqp_session.specs.States.{is_mapped}
use Rattle.amqp_session.specs.Session.{SessionModel}
use Rattle.amqp_session.proofs.FlowLemmas.{unmapped_goes}
use Rattle.amqp_session.proofs.session.Session.flow_of_unmapped.Goals as goal

pub returns-in-Err-clause-step : goal.returns-in-Err-clause-step
returns-in-Err-clause-step g c =
    let a = c.in-Err.ensures in
    rw (← c.self.view_is, c.put.ensures.sending, c.put.ensures.receiving, a.put) (
      Some (record { before = a.before; handle = a.handle; asked = c.args.flow; answer = Err c.in-Err.error; after = a.after }),
      (refl, record { attached = a.attached; stands = a.stands }, (c.from.ensures, refl)),
    )

pub returns-in-Ok-clause-step : goal.returns-in-Ok-clause-step
returns-in-Ok-clause-step g c =
    let a = c.in-Ok.ensures in
    let mapped : is_mapped c.self.inside.state ≡ false = ap (λ (o : SessionModel _). is_mapped o.view.state) c.self.view_is ∙ c.requires.mapped in
    let shown = rw (c.put.ensures.sending, c.put.ensures.receiving) at c.echo.ensures in
    let out = subst (λ (f : Option SessionFrame). HandsOut false (first_frame f) c.alone.result) shown c.alone.ensures in
    rw (← c.self.view_is, c.put.ensures.sending, c.put.ensures.receiving, a.put) (
      Some (record { before = a.before; handle = a.handle; asked = c.args.flow; answer = Ok c.in-Ok.echo; after = a.after }),
      (refl, record { attached = a.attached; stands = a.stands }, unmapped_goes _ _ c.in-Ok.echo c.alone.result mapped out refl),
    )
