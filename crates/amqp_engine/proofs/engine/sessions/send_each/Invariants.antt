use Rattle.std.proofs.Common.{◌-◌, ◌≤◌}
use Rattle.std.specs.VecDeque.{deque_len, deque_capacity}
use Rattle.amqp_engine.proofs.EchoLemmas.{Turning}
use Rattle.amqp_engine.proofs.engine.sessions.send_each.Given as goal

abbrev pub invariant-loop-turn : goal.invariant-loop-turn
invariant-loop-turn g l =
    Turning g.R.LinkRelay.gives l.fn.session.view l.session.view l.fn.dispositions.items l.waiting.items (l._turn-end - l._turn)
    × (l._turn ≤ l._turn-end)
    × (deque_len l.waiting ≤ deque_capacity l.waiting)
