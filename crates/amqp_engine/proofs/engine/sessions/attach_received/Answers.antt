use Rattle.std.proofs.Common.{Option, Some, None, Ok, Err, refl, sym, ap, subst, [], ◌∷◌}
use Rattle.amqp_memory.specs.Refusal.{SomeRefused}
use Rattle.amqp_session.specs.History as session
use Rattle.amqp_session.specs.declared.error.SessionInnerError.TheVariants as Refused
use Rattle.amqp_session.specs.declared.link.AttachedLink.{AttachedLink}
use Rattle.amqp_session.specs.declared.link.LiveLink.{LiveLink}
use Rattle.amqp_session.specs.Linking.{AttachRefused, TakeAttachStep}
use Rattle.amqp_session.specs.Session.{SessionModel}
use Rattle.amqp_engine.proofs.engine.sessions.attach_received.Goals as goal

was_refused : {R : Type 0} → (old : Option (AttachedLink R)) (n : Option (LiveLink R)) → AttachRefused old n Refused.OutOfMemory → SomeRefused
was_refused old None h = absurd h
was_refused old (Some n) h = h.2

pub returns-in-None-clause-answered : goal.returns-in-None-clause-answered
returns-in-None-clause-answered g c =
    let none = c.in-None.ensures.none in
    let step = subst (λ (m : SessionModel _). TakeAttachStep g.R.LinkRelay.gives.attach_gives c.args.session.now.view c.args.attach None (Err Refused.OutOfMemory) m.view) (sym none.0) ((none.1, refl), refl) in
    record {
      calls = session.TakesAttach c.args.attach None (Err Refused.OutOfMemory) ∷ [];
      asked = (None, Err Refused.OutOfMemory, refl, refl);
      steps = (c.on_incoming_attach_if_room.new.self.view, step, refl);
      handed_out = refl;
    }

pub returns-in-None-clause-none : goal.returns-in-None-clause-none
returns-in-None-clause-none g c = (c.in-None.ensures.none.0, was_refused _ _ c.in-None.ensures.none.1)

pub returns-in-Some-Ok-clause-answered : goal.returns-in-Some-Ok-clause-answered
returns-in-Some-Ok-clause-answered g c =
    let received = rw c.in-Some-Ok.field-0-is at c.in-Some-Ok.ensures.step in
    record {
      calls = session.TakesAttach c.args.attach received.0 (Ok tt) ∷ [];
      asked = (received.0, Ok tt, refl, refl);
      steps = (c.on_incoming_attach_if_room.new.self.view, received.1, refl);
      handed_out = refl;
    }

pub returns-in-Some-Err-clause-answered : goal.returns-in-Some-Err-clause-answered
returns-in-Some-Err-clause-answered g c =
    let received = rw c.in-Some-Err.field-0-is at c.in-Some-Err.ensures.step in
    record {
      calls = session.TakesAttach c.args.attach received.0 (Err c.in-Some-Err.error) ∷ [];
      asked = (received.0, Err c.in-Some-Err.error, refl, ap (λ x. Some x) c.from.ensures);
      steps = (c.on_incoming_attach_if_room.new.self.view, received.1, refl);
      handed_out = refl;
    }

pub returns-in-Some-Err-clause-memory : goal.returns-in-Some-Err-clause-memory
returns-in-Some-Err-clause-memory g c = rw c.from.ensures (rw c.in-Some-Err.field-0-is at c.in-Some-Err.ensures.memory)
