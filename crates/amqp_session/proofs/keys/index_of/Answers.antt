use Rattle.std.proofs.Common.{Some, ap, sym, ◌∙◌}
use Rattle.amqp_session.proofs.NumberedMapLemmas.{found_in}
use Rattle.amqp_session.proofs.keys.index_of.Goals as goal

pub returns-then-found-key-clause-there : goal.returns-then-found-key-clause-there
returns-then-found-key-clause-there g c =
    (c.in-Some.field-0-1.now, sym c.in-Some.ensures.entry ∙ ap (λ n. Some (n, c.in-Some.field-0-1.now)) c.if-found-key.true)

pub returns-clause-there : goal.returns-clause-there
returns-clause-there g c = found_in c.args.map.now.entries c.args.key c.get_index_of.result c.get_index_of.ensures.index
