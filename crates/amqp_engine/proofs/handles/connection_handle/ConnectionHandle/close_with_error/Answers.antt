use Rattle.amqp_engine.proofs.RunSoFarLemmas.{legal_left}
use Rattle.amqp_engine.proofs.HandleLemmas.{close_leaves}
use Rattle.amqp_engine.proofs.handles.connection_handle.ConnectionHandle.close_with_error.Goals as goal

pub returns-clause-legal : goal.returns-clause-legal
returns-clause-legal g c = legal_left g.R.LinkRelay.gives _ _ (close_leaves _ _ _ _ _ c.wish.ensures)
