use Rattle.std.proofs.Common.{◌≡◌, Bool, Some, None, not, refl, ap, sym, ◌∙◌}
use Rattle.std.specs.FinMap as map
use Rattle.amqp_types.specs.Detach.{DetachModel}
use Rattle.amqp_session.specs.declared.numbers.InputHandle.{InputHandle}
use Rattle.indexmap.specs.IndexMap.{hasher_of}
use Rattle.amqp_session.specs.Links.{names_of, handles_of, inputs_of}
use Rattle.amqp_session.proofs.LinksAfterRelayLemmas.{none_dropped, one_dropped}
use Rattle.amqp_session.proofs.link.Links.detach.Goals as goal

pub returns-in_default : goal.returns-in_default
returns-in_default g c =
    let is : c.from-input.result.0 ≡ c.args.detach.handle = ap (λ (i : InputHandle). i.0) c.from-input.ensures ∙ ap (λ (d : DetachModel). d.handle) c.detach.view_is in
    let none = ap (map.get (inputs_of c.self.inside.inputs.entries)) (sym is) ∙ sym c.take.ensures.value ∙ c.in_default.is in
    let gone = c.take.ensures.removed ∙ ap (map.remove (inputs_of c.self.inside.inputs.entries)) is in
    rw (c.of.ensures.answer, c.of.ensures.left, ← c.self.view_is) (
      None,
      (none, refl, none_dropped (record { hash = hasher_of c.self.inside.names; names = names_of c.self.inside.names.entries; handles = handles_of c.self.inside.handles; inputs = inputs_of c.self.inside.inputs.entries; next = c.self.inside.handles.vacant_key }) c.args.detach.handle _ none gone),
      refl,
    )

pub returns : goal.returns
returns g c =
    let is : c.from-input.result.0 ≡ c.args.detach.handle = ap (λ (i : InputHandle). i.0) c.from-input.ensures ∙ ap (λ (d : DetachModel). d.handle) c.detach.view_is in
    let there = ap (map.get (inputs_of c.self.inside.inputs.entries)) (sym is) ∙ sym c.take.ensures.value ∙ c.in-Some.is in
    rw (c.of-2.ensures.answer, c.of-2.ensures.left, ← c.self.view_is) (
      Some (record {
        handle = c.in-Some.link.handle;
        before = c.in-Some.link.relay;
        asked = (c.args.detach, not c.answer-awaited.result);
        answer = c.on_incoming_detach-answer.result;
        after = c.on_incoming_detach-answer.new.self;
      }),
      (
        ap (λ (b : Bool). (c.args.detach, not b)) c.answer-awaited.ensures.answer,
        record { attached = there; stands = c.on_incoming_detach-answer.ensures },
        refl,
        c.answer-awaited.ensures.freed
            ∙ one_dropped (record { hash = hasher_of c.self.inside.names; names = names_of c.self.inside.names.entries; handles = handles_of c.self.inside.handles; inputs = inputs_of c.self.inside.inputs.entries; next = c.self.inside.handles.vacant_key }) c.from-input.result.0 c.args.detach.handle c.in-Some.link.handle.0 _ is c.take.ensures.removed,
      ),
      refl,
    )
