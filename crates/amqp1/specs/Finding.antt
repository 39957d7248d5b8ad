-- Part: other calls; inner.
-- The link of a transfer: its performative names it by this side's handle, and the peer's is found.
use Rattle.std.specs.Prelude.{◌≡◌, Bool, true, false, Option, Some, None}
use Rattle.amqp_engine.specs.EngineView.{EngineView}
use Rattle.amqp_engine.specs.declared.engine.input.Input.{Input}
use Rattle.amqp_engine.specs.declared.engine.input.Input.TheVariants as input
use Rattle.amqp_driver.specs.Heads.{handle_in, is_unattached}
use Rattle.amqp_driver.specs.Told.{session_at}

-- a transfer with the peer's handle of its link; where the session is not mapped the engine refuses it, whatever that is. All else as it is
abbrev pub found : {R : Type 0} → EngineView R → Input R → Input R
found v (input.Transfer n h t payload first) = input.Transfer n (handle_in v n.0 t.handle) t payload first
found v i = i

-- a transfer whose link is not attached by the peer, in a session that is mapped
abbrev pub is_unlinked : {R : Type 0} → EngineView R → Input R → Bool
is_unlinked v (input.Transfer n h t payload first) = is_unattached (session_at v (Some n.0)) t.handle
is_unlinked v i = false

-- ---- parts

abbrev pub Finds : {R : Type 0} → EngineView R → Input R → Option (Input R) → Type 0
Finds v i None = is_unlinked v i ≡ true
Finds v i (Some x) = (is_unlinked v i ≡ false) × (x ≡ found v i)
