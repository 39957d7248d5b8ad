use Rattle.std.proofs.Common.{rules, None, Ok, true, ap, ◌∙◌}
use Rattle.amqp_engine.specs.Handles.{close_noted}
use Rattle.amqp_engine.proofs.RunSoFarLemmas.{legal_left}
use Rattle.amqp_engine.proofs.HandleLemmas.{noted, try_close_leaves}
use Rattle.amqp_engine.proofs.handles.connection_handle.ConnectionHandle.try_close.Goals as goal

pub returns-then-not-is_end-clause-legal : goal.returns-then-not-is_end-clause-legal
returns-then-not-is_end-clause-legal g c =
    legal_left g.R.LinkRelay.gives _ _ (noted _ _ _ (c.note_close.ensures ∙ ap (close_noted None) c.engine.view_is))

pub returns-clause-legal : goal.returns-clause-legal
returns-clause-legal g c = legal_left g.R.LinkRelay.gives _ _ (try_close_leaves c.args.self.now c.args.engine.now c.take_close_outcome.new.self (Ok c.answer_at_end.result) true (search rules))
