use Rattle.std.proofs.Common.{rules, None, Ok, true, ap, ◌∙◌}
use Rattle.amqp_engine.specs.Handles.{end_noted}
use Rattle.amqp_engine.proofs.RunSoFarLemmas.{legal_left}
use Rattle.amqp_engine.proofs.HandleLemmas.{noted, try_end_leaves}
use Rattle.amqp_engine.proofs.handles.session_handle.SessionHandle.try_end.Goals as goal

pub returns-then-not-is_ended-clause-legal : goal.returns-then-not-is_ended-clause-legal
returns-then-not-is_ended-clause-legal g c =
    legal_left g.R.LinkRelay.gives _ _ (noted _ _ _ (c.note_end.ensures ∙ ap (end_noted c.self.inside.number.0 None) c.engine.view_is))

pub returns-clause-legal : goal.returns-clause-legal
returns-clause-legal g c =
    legal_left g.R.LinkRelay.gives _ _ (try_end_leaves c.args.self.now c.args.engine.now c.take_end_outcome.new.self (Ok c.answer_at_end.result) (record { number = c.self.inside.number.0; answered = true }) (search rules))
