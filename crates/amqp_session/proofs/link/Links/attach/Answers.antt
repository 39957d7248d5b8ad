use Rattle.std.proofs.Common.{◌≡◌, ap, sym, subst, ◌∙◌}
use Rattle.std.specs.FinMap as map
use Rattle.amqp_types.specs.Attach.{AttachModel}
use Rattle.amqp_session.specs.declared.numbers.InputHandle.{InputHandle}
use Rattle.amqp_session.specs.declared.error.SessionInnerError.TheVariants as Refused
use Rattle.indexmap.specs.IndexMap.{hasher_of}
use Rattle.amqp_session.specs.Links.{names_of, handles_of, inputs_of}
use Rattle.amqp_session.specs.Linking.{AttachRefused}
use Rattle.amqp_session.proofs.LinksAfterRelayLemmas.{not_lacking, waited_full, inputs_same, attaches_err, attaches_ok}
use Rattle.amqp_session.proofs.link.Links.attach.Goals as goal

pub returns-in_default-make_place-clause-none : goal.returns-in_default-make_place-clause-none
returns-in_default-make_place-clause-none g c =
    let name = c.as_str.ensures.value ∙ ap (λ (a : AttachModel). a.name) c.attach.view_is in
    let names = names_of c.self.inside.names.entries in
    let inputs = inputs_of c.self.inside.inputs.entries in
    let is : c.from-input.result.0 ≡ c.args.attach.handle = ap (λ (i : InputHandle). i.0) c.from-input.ensures ∙ ap (λ (a : AttachModel). a.handle) c.attach.view_is in
    let free = ap (map.get inputs) (sym is) ∙ c.in_default-make_place.ensures.free in
    let full = waited_full (map.get inputs c.args.attach.handle) (map.get names c.as_str.result.now) c.in_default.ensures.none free c.in_default-make_place.ensures.refused in
    let refused = subst (λ n. AttachRefused (map.get inputs c.args.attach.handle) (map.get names n) Refused.OutOfMemory) name full in
    rw (c.of-in_default-make_place.ensures.answer, ← c.self.view_is) (
      inputs_same (record { hash = hasher_of c.self.inside.names; names = names_of c.self.inside.names.entries; handles = handles_of c.self.inside.handles; inputs = inputs_of c.self.inside.inputs.entries; next = c.self.inside.handles.vacant_key }) _ (ap inputs_of c.make_place.ensures.entries),
      refused,
    )

pub returns-in-Err-clause-step : goal.returns-in-Err-clause-step
returns-in-Err-clause-step g c =
    rw (c.of-in-Err.ensures.answer, ← c.self.view_is) (attaches_err g.R.LinkRelay.gives.attach_gives
    (record { hash = hasher_of c.self.inside.names; names = names_of c.self.inside.names.entries; handles = handles_of c.self.inside.handles; inputs = inputs_of c.self.inside.inputs.entries; next = c.self.inside.handles.vacant_key })
    c.args.attach _ c.in-Err.ensures.hasher _ _ c.from-input.result c.in-Err.error c.from.result c.in-Err.ensures.asked c.from.ensures (ap inputs_of c.make_place.ensures.entries))

pub returns-in-Ok-attach-clause-step : goal.returns-in-Ok-attach-clause-step
returns-in-Ok-attach-clause-step g c =
    let is : c.from-input.result.0 ≡ c.args.attach.handle = ap (λ (i : InputHandle). i.0) c.from-input.ensures ∙ ap (λ (a : AttachModel). a.handle) c.attach.view_is in
    rw (c.of-in-Ok-attach.ensures.answer, ← c.self.view_is) (attaches_ok g.R.LinkRelay.gives.attach_gives
    (record { hash = hasher_of c.self.inside.names; names = names_of c.self.inside.names.entries; handles = handles_of c.self.inside.handles; inputs = inputs_of c.self.inside.inputs.entries; next = c.self.inside.handles.vacant_key })
    c.args.attach _ c.in-Ok-attach.ensures.hasher _ _ (inputs_of c.make_place.new.inputs.entries) c.from-input.result c.in-Ok-attach.link c.in-Ok-attach.ensures.asked is (ap inputs_of c.make_place.ensures.entries) c.put-replaced.ensures.put)

pub returns-in-Some-clause-memory : goal.returns-in-Some-clause-memory
returns-in-Some-clause-memory g c = rw c.of.ensures.answer (not_lacking g.R.LinkRelay.gives.attach_gives c.args.attach c.in-Some.error c.in-Some.ensures.memory)
