use Rattle.std.proofs.Common.{◌≡◌, ◌++◌, map, take, drop}
use Rattle.amqp_types.specs.Disposition.{DispositionModel}
use Rattle.amqp_session.proofs.session.runs.with_state.Given as goal

abbrev pub invariant-loop-i : goal.invariant-loop-i
invariant-loop-i l = record {
  items : l.said.items ≡ map (λ (d : DispositionModel). let x : DispositionModel = record d { state = l.fn.state } in x) (take l.i l.fn.echoes.items) ++ drop l.i l.fn.echoes.items;
}
