use Rattle.std.proofs.Common.{Some, None, Ok, Err, inl, refl, ap, sym, subst, ◌∙◌, List, [], ◌∷◌, map}
use Rattle.amqp_connection.specs.Connection.{refusal_of}
use Rattle.amqp_types.specs.Disposition.{DispositionModel}
use Rattle.amqp_session.specs.History as session
use Rattle.amqp_session.specs.Relay.{DispositionGives, DispositionQuestion}
use Rattle.amqp_session.specs.Disposing.{TakeDispositionStep}
use Rattle.amqp_session.specs.Room.{EchoLacks}
use Rattle.amqp_session.specs.Session.{SessionModel, SessionView}
use Rattle.amqp_session.specs.declared.error.SessionInnerError.{SessionInnerError}
use Rattle.amqp_session.specs.declared.error.SessionInnerError.TheVariants as Refused
use Rattle.amqp_engine.specs.RunFrame.{StateLacks}
use Rattle.amqp_engine.specs.Waits.{sent, disposition_frame}
use Rattle.amqp_engine.proofs.engine.sessions.disposition_received.Goals as goal

-- where memory lacks once the relays were asked, a state is not said again
state_lacks : {R : Type 0} → (gives : DispositionGives R) (v : SessionView R) (d : DispositionModel) (asked : List (DispositionQuestion R)) (e : SessionInnerError) (w : SessionView R)
    → TakeDispositionStep gives v d asked (Err e) w → EchoLacks d asked (Err e) → StateLacks d e
state_lacks gives v d asked Refused.UnattachedHandle w t l = tt
state_lacks gives v d asked Refused.RemoteAttachingLinkNameNotFound w t l = tt
state_lacks gives v d asked Refused.HandleInUse w t l = tt
state_lacks gives v d asked Refused.IllegalState w t l = tt
state_lacks gives v d asked (Refused.ConnectionStopped x) w t l = tt
state_lacks gives v d asked Refused.TransferFrameToSender w t l = tt
state_lacks gives v d asked Refused.RemoteEnded w t l = tt
state_lacks gives v d asked (Refused.RemoteEndedWithError x) w t l = tt
state_lacks gives v d asked Refused.UnknownTxnId w t l = tt
state_lacks gives v d asked Refused.OutOfMemory w t l = (t.0, l.0, t.4)

pub returns-in-None-clause-answered : goal.returns-in-None-clause-answered
returns-in-None-clause-answered g c =
    let none = c.in-None.ensures.none in
    let step = subst (λ (m : SessionModel _). TakeDispositionStep g.R.LinkRelay.gives.disposition_gives c.args.session.now.view c.args.disposition [] (Err Refused.OutOfMemory) m.view) (sym none.0)
    (none.1.0, none.1.1, inl (refl, refl), none.1.2, none.1.3) in
    record {
      calls = session.TakesDisposition c.args.disposition [] (Err Refused.OutOfMemory) ∷ [];
      asked = ([], Err Refused.OutOfMemory, [], refl, refl, ap refusal_of c.by_session.ensures);
      steps = (c.on_incoming_disposition_if_room.new.self.view, step, refl);
      handed_out = c.requires.idle;
    }

pub returns-in-None-clause-not_done : goal.returns-in-None-clause-not_done
returns-in-None-clause-not_done g c = λ e. (c.in-None.ensures.none.0, refl, c.in-None.ensures.none.1.0, c.in-None.ensures.none.1.3)

pub returns-in-Some-Ok-None-clause-answered : goal.returns-in-Some-Ok-None-clause-answered
returns-in-Some-Ok-None-clause-answered g c =
    let received = rw (c.in-Some-Ok-None.field-0-is, c.in-Some-Ok-None.field-0-0-is) at c.in-Some-Ok-None.ensures.step in
    record {
      calls = session.TakesDisposition c.args.disposition received.0 (Ok None) ∷ [];
      asked = (received.0, Ok None, [], refl, refl, c.requires.clear);
      steps = (c.on_incoming_disposition_if_room.new.self.view, received.1.0, refl);
      handed_out = c.requires.idle;
    }

pub returns-in-Some-Ok-Some-clause-answered : goal.returns-in-Some-Ok-Some-clause-answered
returns-in-Some-Ok-Some-clause-answered g c =
    let echoes = c.in-Some-Ok-Some.echoes in
    let received = rw (c.in-Some-Ok-Some.field-0-is, c.in-Some-Ok-Some.field-0-0-is) at c.in-Some-Ok-Some.ensures.step in
    let all = c.send_each.ensures.sent in
    record {
      calls = session.TakesDisposition c.args.disposition received.0 (Ok (Some echoes.items)) ∷ all.0;
      asked = (received.0, Ok (Some echoes.items), all.0, all.1, refl, c.requires.clear);
      steps = (c.on_incoming_disposition_if_room.new.self.view, received.1.0, all.2);
      handed_out = c.put_dispositions.ensures ∙ sym (ap sent (all.3 ∙ ap (λ k. map (disposition_frame k) echoes.items) (sym c.outgoing_channel-channel.ensures)
          ∙ ap (map (disposition_frame c.outgoing_channel-channel.result.0)) (sym c.send_each.ensures.same)));
    }

pub returns-in-Some-Err-clause-answered : goal.returns-in-Some-Err-clause-answered
returns-in-Some-Err-clause-answered g c =
    let received = rw c.in-Some-Err.field-0-is at c.in-Some-Err.ensures.step in
    record {
      calls = session.TakesDisposition c.args.disposition received.0 (Err c.in-Some-Err.error) ∷ [];
      asked = (received.0, Err c.in-Some-Err.error, [], refl, refl, ap refusal_of c.by_session-in-Some-Err.ensures);
      steps = (c.on_incoming_disposition_if_room.new.self.view, received.1.0, refl);
      handed_out = c.requires.idle;
    }

pub returns-in-Some-Err-clause-memory : goal.returns-in-Some-Err-clause-memory
returns-in-Some-Err-clause-memory g c = λ e.
    let received = rw c.in-Some-Err.field-0-is at c.in-Some-Err.ensures.step in
    rw c.by_session-in-Some-Err.ensures (state_lacks g.R.LinkRelay.gives.disposition_gives c.args.session.now.view c.args.disposition received.0 c.in-Some-Err.error
    c.on_incoming_disposition_if_room.new.self.view received.1.0 received.1.1)
