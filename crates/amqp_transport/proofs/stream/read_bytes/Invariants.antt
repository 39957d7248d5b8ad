use Rattle.std.proofs.Common.{◌-◌, ◌≤◌, length}
use Rattle.std.specs.Io.KnownBytes.{Consumes}
use Rattle.amqp_transport.proofs.stream.read_bytes.Given as goal

abbrev pub invariant-loop-frame : goal.invariant-loop-frame
invariant-loop-frame g l = record {
  within : length l.frame.items ≤ l.len;
  read : Consumes (g.I.Read.remaining l.fn.input) (g.I.Read.remaining l.input) l.frame.items;
}

abbrev pub decreases-loop-frame : goal.decreases-loop-frame
decreases-loop-frame g l = l.len - length l.frame.items
