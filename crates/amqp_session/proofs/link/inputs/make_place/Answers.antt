use Rattle.std.proofs.Common.{◌≡◌, is_some, ap, sym, ◌∙◌, true, false}
use Rattle.amqp_session.proofs.AbsenceLemmas.{none_there, on_any_err}
use Rattle.amqp_session.proofs.FiniteMapLemmas.{get_at}
use Rattle.amqp_session.proofs.link.inputs.make_place.Goals as goal

pub returns-then-is_some-clause-room : goal.returns-then-is_some-clause-room
returns-then-is_some-clause-room g c = λ none.
    let found : is_some c.get.result ≡ false = c.get.ensures.found ∙ ap is_some (sym (get_at c.args.inputs.now.entries c.args.input.0) ∙ none) in
    let there : is_some c.get.result ≡ true = sym c.is_some.ensures ∙ c.if-is_some.true in
    absurd (cc)

pub returns-clause-free : goal.returns-clause-free
returns-clause-free g c =
    let found = sym c.get.ensures.found ∙ sym c.is_some.ensures ∙ c.if-is_some.false in
    on_any_err c.more_in_map.result (get_at c.args.inputs.now.entries c.args.input.0 ∙ none_there _ found)
