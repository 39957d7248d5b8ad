use Rattle.std.proofs.Common.{sym, ◌∙◌}
use Rattle.amqp_session.proofs.FiniteMapLemmas.{text_at, name_removed}
use Rattle.amqp_session.proofs.link.names.remove.Goals as goal

pub returns-clause-removed : goal.returns-clause-removed
returns-clause-removed g c = name_removed c.args.names.now c.swap_remove-left.new.self c.args.name.now c.swap_remove-left.ensures.updates

pub returns-clause-left : goal.returns-clause-left
returns-clause-left g c = c.swap_remove-left.ensures.value ∙ sym (text_at c.args.names.now.entries c.args.name.now)
