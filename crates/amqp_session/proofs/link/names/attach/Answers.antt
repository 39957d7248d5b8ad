use Rattle.std.proofs.Common.{◌≡◌, Option, IsSome, ap, sym, subst, ◌∙◌, refl}
use Rattle.std.specs.Option.{option_copied_mut}
use Rattle.std.specs.FinMap as map
use Rattle.amqp_types.specs.Attach.{AttachModel}
use Rattle.amqp_session.specs.Links.{names_of}
use Rattle.amqp_session.specs.Linking.{IsWaited}
use Rattle.amqp_session.proofs.FiniteMapLemmas.{text_at, name_put, lent_some, waited_some}
use Rattle.amqp_session.proofs.link.names.attach.Goals as goal

pub unwrap-link-requires : goal.unwrap-link-requires
unwrap-link-requires g c =
    let name : c.as_str.result.now ≡ c.args.attach.name = c.as_str.ensures.value ∙ ap (λ (a : AttachModel). a.name) c.attach.view_is in
    let found = sym (ap (map.get (names_of c.args.names.now.entries)) name) ∙ text_at c.args.names.now.entries c.as_str.result.now in
    lent_some c.get_mut.result _ (c.get_mut.ensures.value ∙ sym found) (waited_some _ c.requires)

pub ask-requires : goal.ask-requires
ask-requires g c =
    let name : c.as_str.result.now ≡ c.args.attach.name = c.as_str.ensures.value ∙ ap (λ (a : AttachModel). a.name) c.attach.view_is in
    let found = sym (ap (map.get (names_of c.args.names.now.entries)) name) ∙ text_at c.args.names.now.entries c.as_str.result.now in
    subst IsWaited (found ∙ sym c.get_mut.ensures.value ∙ ap option_copied_mut c.unwrap-link.ensures) c.requires

pub returns-clause-asked : goal.returns-clause-asked
returns-clause-asked g c =
    let name : c.as_str.result.now ≡ c.args.attach.name = c.as_str.ensures.value ∙ ap (λ (a : AttachModel). a.name) c.attach.view_is in
    let found = sym (ap (map.get (names_of c.args.names.now.entries)) name) ∙ text_at c.args.names.now.entries c.as_str.result.now in
    let live = found ∙ sym c.get_mut.ensures.value ∙ ap option_copied_mut c.unwrap-link.ensures in
    let there = subst IsSome (sym (ap (λ (o : Option _). o) (sym c.get_mut.ensures.value ∙ ap option_copied_mut c.unwrap-link.ensures))) refl in
    let put = name_put c.args.names.now (c.get_mut.follows.lender c.ask.new.link) c.as_str.result.now c.ask.new.link ((c.get_mut.follows.holds c.ask.new.link).3 there) in
    record {
      old = c.unwrap-link.result.now;
      left = c.ask.new.link;
      live = live;
      asked = c.ask.ensures;
      put = put ∙ ap (λ n. map.insert (names_of c.args.names.now.entries) n c.ask.new.link) name;
    }

pub returns-clause-hasher : goal.returns-clause-hasher
returns-clause-hasher g c = (c.get_mut.follows.holds c.ask.new.link).5
