-- Part: the promise.
-- Which histories an engine may have had, that began in this state and with this Open, and shows this view now.
use Rattle.std.specs.Prelude.{List}
use Rattle.amqp_types.specs.declared.states.ConnectionState.{ConnectionState}
use Rattle.amqp_types.specs.Open.{OpenModel}
use Rattle.amqp_session.specs.Relay.{Relays}
use Rattle.amqp_engine.specs.Entry.{Entry}
use Rattle.amqp_engine.specs.EngineView.{EngineView}
use Rattle.amqp_engine.specs.History.{LeadsTo}

-- A promise needs no more of it than this: a new engine has the empty history, and each public call keeps it, with the entries
-- that it adds. No proof sees its body but where a line says so.
unfoldable pub Legal : {R : Type 0} → Relays R → ConnectionState → OpenModel → List (Entry R) → EngineView R → Type 0
Legal g s o H v = LeadsTo g s o H v
