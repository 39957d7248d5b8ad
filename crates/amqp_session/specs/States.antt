-- Part: the promise; every call exactly.
-- The states of a session, and the calls that move it from one to another (AMQP 1.0 part 2, section 2.5.5). A call that
-- stands with None is not allowed in that state.
use Rattle.std.specs.Prelude.{Option, Some, None, Bool, true, false}
use Rattle.amqp_types.specs.declared.states.SessionState.{SessionState}
use Rattle.amqp_types.specs.declared.states.SessionState.TheVariants.{Unmapped, BeginSent, BeginReceived, Mapped, EndSent, EndReceived}
use Rattle.amqp_types.specs.declared.states.SessionState.TheVariants.{Discarding}

abbrev pub is_mapped : SessionState → Bool
is_mapped Mapped = true
is_mapped s = false

-- a Begin is sent
abbrev pub sends_begin : SessionState → Option SessionState
sends_begin Unmapped = Some BeginSent
sends_begin BeginReceived = Some Mapped
sends_begin s = None

-- a Begin is received
abbrev pub takes_begin : SessionState → Option SessionState
takes_begin Unmapped = Some BeginReceived
takes_begin BeginSent = Some Mapped
takes_begin s = None

-- an End is sent, with an error or without
abbrev pub sends_end : Bool → SessionState → Option SessionState
sends_end with_error EndReceived = Some Unmapped
sends_end true Mapped = Some Discarding
sends_end false Mapped = Some EndSent
sends_end with_error s = None

-- an End is received
abbrev pub takes_end : SessionState → Option SessionState
takes_end BeginSent = Some EndReceived
takes_end BeginReceived = Some EndReceived
takes_end Mapped = Some EndReceived
takes_end EndSent = Some Unmapped
takes_end Discarding = Some Unmapped
takes_end s = None

-- the End that is received answers one that was sent
abbrev pub answers_end : SessionState → Bool
answers_end EndSent = true
answers_end Discarding = true
answers_end s = false
