-- Part: other calls; inner.
-- A new client, by what its maker says: a key, the time, its side of SASL with its logins, and this side's Open.
use Rattle.std.specs.Prelude.{◌≡◌, ◌⊎◌, ◌∷◌, ◌&&◌, [], ℕ, ℤ, pos, Bool, true, false, List, Option, Some, None, Result, Ok, Err, nat_eq, if◌then◌else◌}
use Rattle.amqp_memory.specs.Refusal.{SomeRefused}
use Rattle.amqp_values.specs.declared.error.ReadError.{ReadError}
use Rattle.amqp_values.specs.declared.error.ReadError.TheVariants.{Malformed, OutOfMemory}
use Rattle.amqp_types.specs.Open.{OpenModel}
use Rattle.amqp_types.specs.Performatives.{IsPerformative}
use Rattle.amqp_types.specs.declared.performatives.Performative.TheVariants as its
use Rattle.amqp_types.specs.declared.states.ConnectionState.TheVariants.{HeaderExchange}
use Rattle.amqp_session.specs.Relay.{Relays}
use Rattle.amqp_session.specs.declared.keys.KeyHash.{KeyHash}
use Rattle.amqp_engine.specs.Legal.{Legal}
use Rattle.amqp_sasl.specs.Opening.{OpeningView}
use Rattle.amqp_driver.specs.declared.plain.PlainRelay.{PlainRelay}
use Rattle.amqp_driver.specs.Stream.{Begun}
use Rattle.amqp1.specs.declared.how.How.{How}
use Rattle.amqp1.specs.declared.logins.LoginHead.{LoginHead}
use Rattle.amqp1.specs.declared.status.Status.{Status}
use Rattle.amqp1.specs.declared.status.Status.TheVariants as status
use Rattle.amqp1.specs.ClientView.{ClientView}
use Rattle.amqp1.specs.Logins.{opening_in}
use Rattle.amqp1.specs.Refused.{nothing}
use Rattle.amqp1.specs.Status.{status_number}

-- all of these bytes are 0
abbrev pub is_zero : List ℕ → Bool
is_zero [] = true
is_zero (b ∷ rest) = nat_eq b 0 && is_zero rest

-- how long the opening may take, if a limit is set
abbrev pub limit_of : ℕ → Option ℕ
limit_of n = if nat_eq n 4294967295 then None else Some n

-- What is asked for: a key that is not all zeros, an Open, which is the whole of its bytes, and an opening, which is that of the side that is
-- named, with its host and its logins, whose pieces are the whole of theirs.
pub record IsAsked (how : How) (open_bytes : List ℕ) (heads : List LoginHead) (bytes : List ℕ) (o : OpenModel) (v : OpeningView) : Type 0 where
  pub has_key : is_zero how.key ≡ false
  pub has_open : IsPerformative (its.Open o) open_bytes
  pub has_opening : opening_in how.side how.host heads bytes ≡ Some v

-- A stream that has begun so, by whatever hash, whose engine has an empty history; nothing was refused.
pub record IsMade (g : Relays PlainRelay) (how : How) (open_bytes : List ℕ) (heads : List LoginHead) (bytes : List ℕ) (c : ClientView) : Type 0 where
  pub hash : KeyHash
  pub ours : OpenModel
  pub opening : OpeningView
  pub asked : IsAsked how open_bytes heads bytes ours opening
  pub begun : Begun {R = PlainRelay} opening how.time (limit_of how.limit) hash ours (Ok c.stream)
  pub legal : Legal g HeaderExchange ours [] c.stream.driver.engine
  pub last : c.last ≡ nothing

-- a stream that has begun with this opening and this Open, by whatever hash; or memory was refused
abbrev pub BeginsAs : Relays PlainRelay → How → OpeningView → OpenModel → Result ClientView ℤ → Type 0
BeginsAs g how v o (Ok c) = (hash : KeyHash) × Begun {R = PlainRelay} v how.time (limit_of how.limit) hash o (Ok c.stream)
    × Legal g HeaderExchange o [] c.stream.driver.engine × (c.last ≡ nothing)
BeginsAs g how v o (Err e) = (e ≡ pos (status_number status.NoMemory)) × SomeRefused

-- One is made; or memory was refused; or what is said asks for none.
abbrev pub Makes : Relays PlainRelay → How → List ℕ → List LoginHead → List ℕ → Result ClientView ℤ → Type 0
Makes g how open_bytes heads bytes (Ok c) = IsMade g how open_bytes heads bytes c
Makes g how open_bytes heads bytes (Err e) =
    ((e ≡ pos (status_number status.NoMemory)) × SomeRefused)
    ⊎ ((e ≡ pos (status_number status.BadArgument)) × ((o : OpenModel) (v : OpeningView) → ¬ IsAsked how open_bytes heads bytes o v))

-- ---- parts

abbrev pub unread_of : ReadError → Status
unread_of Malformed = status.BadArgument
unread_of OutOfMemory = status.NoMemory
