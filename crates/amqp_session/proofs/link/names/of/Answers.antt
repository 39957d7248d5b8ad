use Rattle.std.proofs.Common.{◌≡◌, ap, sym, ◌∙◌, string_bytes}
use Rattle.std.proofs.lemmas.Slice.Eq.{bytes_eq-Decides}
use Rattle.std.specs.FinMap as map
use Rattle.amqp_session.specs.Links.{names_of}
use Rattle.amqp_session.proofs.FiniteMapLemmas.{text_at}
use Rattle.amqp_session.proofs.link.names.of.Goals as goal

pub returns-then-eq : goal.returns-then-eq
returns-then-eq g c =
    let same : c.as_str.result.now ≡ c.args.name.now = (bytes_eq-Decides c.as_str.result.now c.args.name.now).0 (sym c.eq.ensures ∙ c.if-eq.true) in
    let key : string_bytes c.in-Some.found.now ≡ c.args.name.now = sym c.as_str.ensures.value ∙ same in
    sym c.in-Some.ensures.value ∙ sym (text_at c.args.names.now.entries (string_bytes c.in-Some.found.now))
    ∙ ap (map.get (names_of c.args.names.now.entries)) key

pub returns : goal.returns
returns g c = c.get.ensures.value ∙ sym (text_at c.args.names.now.entries c.args.name.now)
