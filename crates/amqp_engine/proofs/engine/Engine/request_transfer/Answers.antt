use Rattle.std.proofs.Common.{◌≡◌, None, Some, Ok, Err, refl, sym, ap, ◌∙◌, [], ◌∷◌, nat_eq}
use Rattle.std.proofs.lemmas.Map.Steps.{set_value_same}
use Rattle.std.specs.Map.{set_value}
use Rattle.amqp_session.specs.Session.{SessionModel}
use Rattle.amqp_session.specs.declared.error.SessionInnerError.TheVariants as Refused
use Rattle.amqp_engine.proofs.SameEngineLemmas.{same_engine}
use Rattle.std.proofs.lemmas.List.{append-nil}
use Rattle.std.specs.Option.{option_copied_mut}
use Rattle.std.specs.HashMap.{HashMap}
use Rattle.amqp_connection.specs.Connection.{refusal_of}
use Rattle.amqp_session.specs.History as session
use Rattle.amqp_session.specs.Items.{item_frames}
use Rattle.amqp_session.specs.Transfers.{RequestedTransfer}
use Rattle.amqp_engine.specs.declared.engine.step_error.StepError.TheVariants as refused
use Rattle.amqp_engine.specs.EngineView.{EngineView}
use Rattle.amqp_engine.specs.Waits.{sent}
use Rattle.amqp_engine.specs.Inner.Calls.{TransferCalls}
use Rattle.amqp_engine.proofs.AskedSessionLemmas.{did, did_not}
use Rattle.amqp_engine.proofs.SessionListLemmas.{viewed_some, viewed_none, seated_set}
use Rattle.amqp_engine.proofs.engine.Engine.request_transfer.Goals as goal

session_same : {R : Type 0} → (m n : SessionModel R) → m.view ≡ n.view → m.last_walk ≡ n.last_walk → m.reads ≡ n.reads → m ≡ n
session_same m n v w r = ap (λ x. record m { view = x }) v ∙ ap (λ x. record n { last_walk = x; reads = m.reads }) w ∙ ap (λ x. record n { reads = x }) r

pub returns-in-Ok-clause-carried : goal.returns-in-Ok-clause-carried
returns-in-Ok-clause-carried g c =
    let n = c.args.number.0 in
    let asked : RequestedTransfer = record { input_handle = c.args.input.0; transfer = c.args.transfer; payload = c.args.payload; is_first = c.args.is_first } in
    let known = viewed_some n c.self.inside.sessions.entries c.in-Some.session.now (sym c.in-Some.ensures.value) in
    let set = c.get_mut.follows.holds c.on_outgoing_transfer.new.self in
    let d = did g.R.LinkRelay.gives (TransferCalls asked) c.args.self.now _ _ _ _ n _ c.put_item.new.self c.put_item.new.self c.in-Some.session.now c.on_outgoing_transfer.new.self (refusal_of c.args.outcome.now) c.self.view_is known
    (record {
      calls = session.SendsTransfer asked (Ok c.in-Ok.item) ∷ [];
      asked = (Ok c.in-Ok.item, refl, c.requires.clear);
      steps = (c.on_outgoing_transfer.new.self.view, c.in-Ok.ensures.step, refl);
      handed_out = c.put_item.ensures ∙ sym (ap sent (append-nil (item_frames c.in-Ok.item)));
    })
    refl set in
    (None, d.0, d.1, _, (refl, d.2), refl)

pub returns-in-Err-OutOfMemory-clause-carried : goal.returns-in-Err-OutOfMemory-clause-carried
returns-in-Err-OutOfMemory-clause-carried g c =
    let n = c.args.number.0 in
    let asked : RequestedTransfer = record { input_handle = c.args.input.0; transfer = c.args.transfer; payload = c.args.payload; is_first = c.args.is_first } in
    let known = viewed_some n c.self.inside.sessions.entries c.in-Some.session.now (sym c.in-Some.ensures.value) in
    let set = c.get_mut.follows.holds c.on_outgoing_transfer.new.self in
    let d = did g.R.LinkRelay.gives (TransferCalls asked) c.args.self.now _ _ _ _ n _ c.self.inside.waiting c.self.inside.waiting c.in-Some.session.now c.on_outgoing_transfer.new.self (Some (refused.Session Refused.OutOfMemory)) c.self.view_is known
    (record {
      calls = session.SendsTransfer asked (Err Refused.OutOfMemory) ∷ [];
      asked = (Err Refused.OutOfMemory, refl, refl);
      steps = (c.on_outgoing_transfer.new.self.view, (rw c.in-Err-OutOfMemory.field-0-is at c.in-Err-OutOfMemory.ensures.step), refl);
      handed_out = ap (λ (v : EngineView _). v.waiting) c.self.view_is ∙ c.requires.idle;
    })
    refl set in
    rw c.by_session.ensures (None, d.0, d.1, _, (refl, d.2), refl)

pub returns-in-Err-OutOfMemory-clause-not_done : goal.returns-in-Err-OutOfMemory-clause-not_done
returns-in-Err-OutOfMemory-clause-not_done g c = λ e.
    let es = c.self.inside.sessions.entries in
    let n = c.args.number.0 in
    let step = rw c.in-Err-OutOfMemory.field-0-is at c.in-Err-OutOfMemory.ensures.step in
    let same = session_same c.on_outgoing_transfer.new.self c.in-Some.session.now step.2 c.in-Err-OutOfMemory.ensures.walk c.in-Err-OutOfMemory.ensures.reads in (
      same_engine _ _ _ _ _ _ _ refl (c.get_mut.follows.holds c.on_outgoing_transfer.new.self ∙ ap (λ y. set_value (nat_eq n) es y) same
          ∙ set_value_same (nat_eq n) es c.in-Some.session.now (sym c.in-Some.ensures.value)) refl ∙ c.self.view_is,
      step.3,
    )

pub returns-in-Err-clause-carried : goal.returns-in-Err-clause-carried
returns-in-Err-clause-carried g c =
    let n = c.args.number.0 in
    let asked : RequestedTransfer = record { input_handle = c.args.input.0; transfer = c.args.transfer; payload = c.args.payload; is_first = c.args.is_first } in
    let known = viewed_some n c.self.inside.sessions.entries c.in-Some.session.now (sym c.in-Some.ensures.value) in
    let set = c.get_mut.follows.holds c.on_outgoing_transfer.new.self in
    let d = did g.R.LinkRelay.gives (TransferCalls asked) c.args.self.now _ _ _ _ n _ c.self.inside.waiting c.self.inside.waiting c.in-Some.session.now c.on_outgoing_transfer.new.self (Some (refused.Session c.in-Err.error)) c.self.view_is known
    (record {
      calls = session.SendsTransfer asked (Err c.in-Err.error) ∷ [];
      asked = (Err c.in-Err.error, refl, refl);
      steps = (c.on_outgoing_transfer.new.self.view, c.in-Err.ensures.step, refl);
      handed_out = ap (λ (v : EngineView _). v.waiting) c.self.view_is ∙ c.requires.idle;
    })
    refl set in
    rw c.by_session-in-Err.ensures (None, d.0, d.1, _, (refl, d.2), refl)

pub returns-in_default-clause-carried : goal.returns-in_default-clause-carried
returns-in_default-clause-carried g c =
    let n = c.args.number.0 in
    let asks = TransferCalls (record { input_handle = c.args.input.0; transfer = c.args.transfer; payload = c.args.payload; is_first = c.args.is_first }) in
    let none = viewed_none n c.self.inside.sessions.entries (sym c.get_mut.ensures.value ∙ ap option_copied_mut c.in_default.is) in
    let stays = ap (λ (m : HashMap _ _ _). m.entries) c.get_mut.follows.holds-at-none in
    let d = did_not g.R.LinkRelay.gives asks c.args.self.now _ _ _ _ n _ c.self.view_is none stays in rw c.no_session.ensures (None, d.0, d.1, _, (refl, d.2), refl)

pub invariant_of-self-in-Ok : goal.invariant_of-self-in-Ok
invariant_of-self-in-Ok g c = (seated_set c.self.inside.sessions.entries _ c.args.number.0 c.on_outgoing_transfer.new.self c.self.inside.kept.places (c.get_mut.follows.holds c.on_outgoing_transfer.new.self) c.self.invariant.0, c.self.invariant.1)

pub invariant_of-self-in-Err : goal.invariant_of-self-in-Err
invariant_of-self-in-Err g c = (seated_set c.self.inside.sessions.entries _ c.args.number.0 c.on_outgoing_transfer.new.self c.self.inside.kept.places (c.get_mut.follows.holds c.on_outgoing_transfer.new.self) c.self.invariant.0, c.self.invariant.1)

pub invariant_of-self-in-Err-OutOfMemory : goal.invariant_of-self-in-Err-OutOfMemory
invariant_of-self-in-Err-OutOfMemory g c = (seated_set c.self.inside.sessions.entries _ c.args.number.0 c.on_outgoing_transfer.new.self c.self.inside.kept.places (c.get_mut.follows.holds c.on_outgoing_transfer.new.self) c.self.invariant.0, c.self.invariant.1)
