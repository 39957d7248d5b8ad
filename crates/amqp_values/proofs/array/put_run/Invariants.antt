use Rattle.std.proofs.Common.{◌≡◌, ◌+◌, ◌++◌, length, take}
use Rattle.amqp_values.specs.Writing.{run_text}
use Rattle.amqp_values.proofs.array.put_run.Given as goal

abbrev pub invariant-loop-symbol : goal.invariant-loop-symbol
invariant-loop-symbol l = record {
  items_are : l.out.items ≡ l.fn.out.items ++ run_text l.long (take l.symbol-index l.items);
  spare_is : l.out.spare + length (run_text l.long (take l.symbol-index l.items)) ≡ l.fn.out.spare;
}
