use Rattle.std.proofs.Common.{sym, ◌∙◌}
use Rattle.amqp_session.proofs.FiniteMapLemmas.{get_at, removed}
use Rattle.amqp_session.proofs.keys.take.Goals as goal

pub returns-in_err-index-clause-value : goal.returns-in_err-index-clause-value
returns-in_err-index-clause-value g c = c.from_residual.ensures ∙ c.in_err-index.ensures.value ∙ sym (get_at c.args.map.now.entries c.args.key)

pub returns-in_err-index-clause-removed : goal.returns-in_err-index-clause-removed
returns-in_err-index-clause-removed g c = removed c.args.map.now.entries c.swap_remove_full.new.self.entries c.args.key c.swap_remove_full.ensures.updates.0

pub returns-clause-value : goal.returns-clause-value
returns-clause-value g c = c.in_ok-index.ensures.value ∙ sym (get_at c.args.map.now.entries c.args.key)

pub returns-clause-removed : goal.returns-clause-removed
returns-clause-removed g c = removed c.args.map.now.entries c.swap_remove_full.new.self.entries c.args.key c.swap_remove_full.ensures.updates.0
