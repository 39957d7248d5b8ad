use Rattle.std.proofs.Common.{Some, None, refl, ap, ◌∙◌}
use Rattle.std.specs.FinMap.{from_entries}
use Rattle.indexmap.specs.IndexMap.{hasher_of}
use Rattle.amqp_session.specs.Links.{names_of, handles_of}
use Rattle.amqp_session.specs.Disposing.{question_of}
use Rattle.amqp_session.proofs.AbsenceLemmas.{none_found, some_is}
use Rattle.amqp_session.proofs.FiniteMapLemmas.{get_at, written}
use Rattle.amqp_session.proofs.link.Links.ask_disposition.Goals as goal

pub returns-in_default : goal.returns-in_default
returns-in_default g c =
    let h = c.args.delivery.now.input_handle.0 in
    rw (← c.self.view_is) (None, (get_at c.self.inside.inputs.entries h ∙ none_found _ _ c.index_of.ensures.found c.in_default.is, refl), refl)

pub ask_disposition-requires : goal.ask_disposition-requires
ask_disposition-requires g c = c.in-Some.ensures.there

pub returns : goal.returns
returns g c =
    let a = c.ask_disposition.ensures.asked in
    let h = c.args.delivery.now.input_handle.0 in
    let there = some_is _ _ a.attached in
    rw (← c.self.view_is) (
      Some (record { handle = a.handle; before = a.before; asked = question_of c.args.disposition.now c.args.delivery.now; answer = c.ask_disposition.result; after = a.after }),
      (
        refl,
        record { attached = get_at c.self.inside.inputs.entries h ∙ a.attached; stands = a.stands },
        ap (λ m. record { hash = hasher_of c.self.inside.names; names = names_of c.self.inside.names.entries; handles = handles_of c.self.inside.handles; inputs = m; next = c.self.inside.handles.vacant_key }) (ap (λ es. from_entries es) a.put ∙ written c.self.inside.inputs.entries h _ there),
      ),
      refl,
    )
