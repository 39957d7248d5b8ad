-- Part: inner.
-- What the relays of the measured links keep open.
use Rattle.std.specs.Prelude.{Option, None}
use Rattle.bench_engine.specs.declared.relay.Relay.{Relay}
use Rattle.bench_engine.specs.declared.relay.Relay.TheVariants.{Taker, Namer}

-- of a delivery that has a name, one keeps it and the other does not
abbrev pub kept_by : {X : Type 0} → Relay → Option X → Option X
kept_by Taker delivery = None
kept_by Namer delivery = delivery
