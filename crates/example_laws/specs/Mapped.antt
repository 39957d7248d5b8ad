-- Part: other calls.
-- A transfer that is done was asked of a session in Mapped (AMQP 1.0 part 2, section 2.5.6).
use Rattle.std.specs.Prelude.{◌≡◌, ℕ, List, Bool, true, Some, None}
use Rattle.fe2o3_amqp.specs.amqp_types.declared.states.ConnectionState.{ConnectionState}
use Rattle.fe2o3_amqp.specs.amqp_types.Transfer.{TransferModel}
use Rattle.fe2o3_amqp.specs.amqp_session.declared.numbers.InputHandle.{InputHandle}
use Rattle.fe2o3_amqp.specs.amqp_session.States.{is_mapped}
use Rattle.fe2o3_amqp.specs.amqp_session.History.{Made}
use Rattle.fe2o3_amqp.specs.amqp_session.Headline.{state}
use Rattle.fe2o3_amqp.specs.amqp_connection.declared.numbers.SessionNo.{SessionNo}
use Rattle.fe2o3_amqp.specs.amqp_engine.declared.engine.input.Input.TheVariants.{Transfer}
use Rattle.fe2o3_amqp.specs.amqp_engine.Entry.{Entry}
use Rattle.fe2o3_amqp.specs.amqp_engine.ByHistory.{begun, of_session}
use Rattle.fe2o3_amqp.specs.amqp_engine.Headline.{Each}

-- session n was begun, and what was asked of it before left it in Mapped
abbrev pub WasMapped : {R : Type 0} → ConnectionState → ℕ → List (Entry R) → List (Entry R) → Type 0
WasMapped s n H before = (m : Made) × (begun s n H ≡ Some m) × (is_mapped (state m (of_session n before)) ≡ true)

-- of each transfer that is done
abbrev pub DoneInMapped : {R : Type 0} → ConnectionState → List (Entry R) → Type 0
DoneInMapped s H = Each H (λ before e. (n : SessionNo) (h : InputHandle) (t : TransferModel) (payload : List ℕ) (first : Bool)
    → e.input ≡ Transfer n h t payload first → e.refusal ≡ None → WasMapped s n.0 H before)
