-- A disposition that is not done ends the call.
use Rattle.std.proofs.Common.{ℕ, ◌≡◌, Bool, Some, refl}
use Rattle.amqp_types.specs.declared.definitions.Role.{Role}
use Rattle.amqp_session.specs.Relay.{Relays}
use Rattle.amqp_driver.specs.declared.asked.Asked.{Asked}
use Rattle.amqp_driver.specs.declared.asked.Asked.TheVariants as asked
use Rattle.amqp_driver.specs.Stream.{StreamView}
use Rattle.amqp_endpoints.specs.Endpoint.{EndpointView}
use Rattle.amqp_endpoints.specs.Settling.{SettlesThen}

pub ends_there : {R : Type 0} (g : Relays R) (v : EndpointView) (m : StreamView R) (role : Role) (first last : ℕ) (settled : Bool) (a : Asked)
    → (a ≡ asked.Done → ⊥) → SettlesThen (Some a) g v m role first last settled (Some a) m
ends_there g v m role first last settled asked.Done other = absurd (other refl)
ends_there g v m role first last settled asked.TooLarge other = (refl, refl)
ends_there g v m role first last settled (asked.Refused e) other = (refl, refl)
ends_there g v m role first last settled asked.NoMemory other = (refl, refl)
ends_there g v m role first last settled asked.Over other = (refl, refl)
