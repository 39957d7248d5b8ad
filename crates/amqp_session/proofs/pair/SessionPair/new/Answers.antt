use Rattle.std.proofs.Common.{subst}
use Rattle.amqp_session.specs.PairLedger.{FitsSettings}
use Rattle.amqp_session.proofs.PairTallyLemmas.{new_tallies}
use Rattle.amqp_session.proofs.pair.SessionPair.new.Goals as goal

pub invariant_of-result : goal.invariant_of-result
invariant_of-result g c =
    rw (c.new.ensures.view, c.new-2.ensures.view, c.new-3.ensures.items, c.new-4.ensures.items)
    (new_tallies c.args.a c.args.b (subst (λ s. FitsSettings s) c.a.view_is c.note_range.ensures)
    (subst (λ s. FitsSettings s) c.b.view_is c.note_range-2.ensures))
