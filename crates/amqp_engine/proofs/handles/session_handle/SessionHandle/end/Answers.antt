use Rattle.amqp_engine.proofs.RunSoFarLemmas.{legal_left}
use Rattle.amqp_engine.proofs.HandleLemmas.{end_leaves}
use Rattle.amqp_engine.proofs.handles.session_handle.SessionHandle.end.Goals as goal

pub returns-clause-legal : goal.returns-clause-legal
returns-clause-legal g c = legal_left g.R.LinkRelay.gives _ _ (end_leaves _ _ _ _ _ c.wish.ensures)
