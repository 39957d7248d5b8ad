use Rattle.std.proofs.Common.{is_some, nat_eq, rules, ap, sym, ◌∙◌}
use Rattle.std.specs.Map.{lookup}
use Rattle.std.specs.Ordering.{nat_cmp}
use Rattle.std.specs.FinMap as map
use Rattle.amqp_connection.specs.Connection.{ConnectionView}
use Rattle.amqp_engine.proofs.RunSoFarLemmas.{legal_new}
use Rattle.amqp_engine.proofs.engine.Engine.keyed.Goals as goal

pub invariant_of-result : goal.invariant_of-result
invariant_of-result g c = (
  λ n. ap (λ es. is_some (lookup (nat_eq n) es)) c.new-4.ensures.empty ∙ ap is_some (sym (ap (λ m. map.get m n) c.new-6.ensures.places ∙ map.get-empty nat_cmp n)),
  ap (λ (k : ConnectionView). k.hash) c.keyed.ensures,
)

pub returns-clause-legal : goal.returns-clause-legal
returns-clause-legal g c = legal_new g.R.LinkRelay.gives c.args.hash c.args.state c.args.local_open _ (search rules)
