use Rattle.std.proofs.Common.{ap, ◌∙◌}
use Rattle.std.specs.Option.{option_map}
use Rattle.amqp_session.specs.Links.{place_name}
use Rattle.amqp_session.proofs.FiniteMapLemmas.{place_at, place_taken}
use Rattle.amqp_session.proofs.link.handles.take.Goals as goal

pub returns-clause-free : goal.returns-clause-free
returns-clause-free c = place_at c.args.handles.now c.insert_reserved.result ∙ ap (option_map place_name) c.insert_reserved.ensures.was_vacant

pub returns-clause-taken : goal.returns-clause-taken
returns-clause-taken c = place_taken c.args.handles.now c.insert_reserved.new.self c.insert_reserved.result _ c.insert_reserved.ensures.updates
