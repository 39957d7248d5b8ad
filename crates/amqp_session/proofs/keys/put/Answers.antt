use Rattle.std.proofs.Common.{sym, ◌∙◌}
use Rattle.amqp_session.proofs.AbsenceLemmas.{is_put}
use Rattle.amqp_session.proofs.FiniteMapLemmas.{get_at, inserted}
use Rattle.amqp_session.proofs.keys.put.Goals as goal

pub unwrap-index-requires : goal.unwrap-index-requires
unwrap-index-requires g c = is_put c.insert_full.result c.insert_full.ensures.succeeds c.insert_full.ensures.absent (λ absent. c.requires (get_at c.args.map.now.entries c.args.key ∙ absent))

pub returns-clause-put : goal.returns-clause-put
returns-clause-put g c = let updates = rw c.unwrap-index.ensures at c.insert_full.ensures.updates in inserted c.args.map.now.entries c.insert_full.new.self.entries c.args.key c.args.value updates.0

pub returns-clause-left : goal.returns-clause-left
returns-clause-left g c = let old = rw c.unwrap-index.ensures at c.insert_full.ensures.old in old ∙ sym (get_at c.args.map.now.entries c.args.key)
