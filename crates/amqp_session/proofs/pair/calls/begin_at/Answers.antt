use Rattle.std.proofs.Common.{refl, sym, append-nil, inr, Err}
use Rattle.amqp_session.specs.declared.error.SessionStateError.TheVariants as Begins
use Rattle.amqp_session.proofs.AbsenceLemmas.{none_there}
use Rattle.amqp_session.proofs.pair.calls.begin_at.Goals as goal

pub returns-then-not-can_begin : goal.returns-then-not-can_begin
returns-then-not-can_begin g c = inr record {
  frame = Err Begins.IllegalState;
  makes = ((none_there _ (sym c.if-not-can_begin.ensures), refl), sym (append-nil _));
  says = refl;
}
