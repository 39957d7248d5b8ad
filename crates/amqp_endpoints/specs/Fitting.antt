-- Part: other calls.
-- What fits a frame of the peer's (max-frame-size, AMQP 1.0 part 2, section 2.7.1).
use Rattle.std.specs.Prelude.{ℕ, ◌+◌, ◌-◌, ◌^◌, min, nat_le, Bool, length}
use Rattle.amqp_types.specs.declared.performatives.Performative.{Performative}
use Rattle.amqp_types.specs.Performatives.{performative_text}
use Rattle.amqp_driver.specs.Stream.{StreamView}

-- a performative of so many bytes, behind the four of the header; the size of the frame has four bytes
abbrev pub fits : ℕ → ℕ → Bool
fits len limit = nat_le (4 + len) (min limit (2 ^ 32 - 5))

-- one that goes out by this stream
abbrev pub fits_frame : {R : Type 0} → StreamView R → Performative → Bool
fits_frame s p = fits (length (performative_text p)) s.driver.engine.limit
