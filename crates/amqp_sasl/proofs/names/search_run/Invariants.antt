use Rattle.std.proofs.Common.{◌≡◌, ◌≤◌, ◌-◌, drop, length}
use Rattle.std.specs.Option.{option_map}
use Rattle.amqp_values.specs.Symbols.{run_at}
use Rattle.amqp_sasl.specs.SaslFrame.{has_name}
use Rattle.amqp_sasl.proofs.NameLemmas.{held}
use Rattle.amqp_sasl.proofs.names.search_run.Given as goal

abbrev pub invariant-loop : goal.invariant-loop
invariant-loop l = record {
  held : option_map (has_name l.name) (run_at l.count l.long (drop l.from l.text)) ≡ held l.name l.found (run_at (l.count - l.counter) l.long (drop l.at l.text));
  inside : l.at ≤ length l.text;
}
