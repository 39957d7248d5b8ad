use Rattle.std.proofs.Common.{refl, sym, ◌∙◌}
use Rattle.amqp_driver.proofs.StreamTakingLemmas.{closes_bad, closes_none, took_frames}
use Rattle.amqp_driver.proofs.stream.Stream.take_frames.Goals as goal

pub returns-then-self : goal.returns-then-self
returns-then-self g c =
    took_frames g.R.LinkRelay.gives c.args.self.now _ _ _ c.args.now _ c.args.records.now c.take-taken.result.status c.take-taken.result.taken
    c.take-taken.result.written c.take-taken.result.wanted c.take-taken.new.records c.take-taken.new.self c.close_for.new.driver
    c.is_bad_size-self-inside.result c.self.view_is (c.self-2.view_is ∙ c.hear.ensures) c.take-taken.ensures c.is_bad_size-self-inside.ensures
    (closes_bad g.R.LinkRelay.gives c.take-taken.result.status c.self-2.inside.driver c.close_for.new.driver
    (sym c.is_bad_size-self-inside.ensures ∙ c.if-self.true) c.close_for.ensures)
    refl

pub returns-else-self : goal.returns-else-self
returns-else-self g c =
    took_frames g.R.LinkRelay.gives c.args.self.now _ _ _ c.args.now _ c.args.records.now c.take-taken.result.status c.take-taken.result.taken
    c.take-taken.result.written c.take-taken.result.wanted c.take-taken.new.records c.take-taken.new.self c.self-2.inside.driver
    c.is_bad_size-self-inside.result c.self.view_is (c.self-2.view_is ∙ c.hear.ensures) c.take-taken.ensures c.is_bad_size-self-inside.ensures
    (closes_none g.R.LinkRelay.gives c.take-taken.result.status c.self-2.inside.driver c.self-2.inside.driver
    (sym c.is_bad_size-self-inside.ensures ∙ c.if-self.false) refl)
    refl
