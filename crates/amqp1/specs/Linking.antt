-- Part: other calls; inner.
-- Links: what allots a handle to one.
use Rattle.std.specs.Prelude.{◌≡◌, ℕ, List, Option, Some, None, false, string_bytes}
use Rattle.std.specs.Str.{IsUtf8}
use Rattle.amqp_types.specs.declared.definitions.ReceiverSettleMode.{ReceiverSettleMode}
use Rattle.amqp_types.specs.declared.definitions.Role.{Role}
use Rattle.amqp_engine.specs.declared.engine.input.Input.{Input}
use Rattle.amqp_engine.specs.declared.engine.input.Input.TheVariants as input
use Rattle.amqp_driver.specs.declared.plain.PlainRelay.{PlainRelay}
use Rattle.amqp_events.specs.declared.policy.Policy.{Policy}
use Rattle.amqp_events.specs.declared.policy.Recorded.TheVariants.{OfModeSecond}
use Rattle.amqp_events.specs.declared.policy.Echoed.TheVariants.{Terminal}
use Rattle.amqp1.specs.declared.operation.Operation.{Operation}
use Rattle.amqp1.specs.declared.operation.Operation.TheVariants as op
use Rattle.amqp1.specs.declared.linking.LinkAsked.{LinkAsked}
use Rattle.amqp1.specs.Asking.{HasByte, HasNumber}
use Rattle.amqp1.specs.Reading.{mode_of, role_of}

-- a link: its session, the peer's handle where its attach came, this side's role, how the receiver settles, and its name
pub record LinkModel : Type 0 where
  pub session : ℕ
  pub input : Option ℕ
  pub role : Role
  pub mode : ReceiverSettleMode
  pub name : List ℕ

-- the role, the mode, and the name, which is all the rest
pub record HasPolicy (bytes : List ℕ) (l : LinkModel) : Type 0 where
  pub role_byte : ℕ
  pub mode_byte : ℕ
  pub after : List ℕ
  pub has_role : HasByte bytes role_byte after
  pub has_mode : HasByte after mode_byte l.name
  pub role_is : role_of role_byte ≡ Some l.role
  pub mode_is : mode_of mode_byte ≡ Some l.mode
  pub utf8 : IsUtf8 l.name

-- the link that the bytes of an operation name
abbrev pub AsksLink : Operation → List ℕ → LinkModel → Type 0
AsksLink op.Link bytes l = (rest : List ℕ) × HasNumber bytes l.session rest × (l.input ≡ None) × HasPolicy rest l
AsksLink op.LinkOn bytes l = (h : ℕ) × (after : List ℕ) × (rest : List ℕ) × HasNumber bytes l.session after × HasNumber after h rest
    × (l.input ≡ Some h) × HasPolicy rest l
AsksLink o bytes l = ⊥

-- ---- the engine's input

abbrev pub policy_of : LinkModel → Policy
policy_of l = record {
  role = l.role;
  rcv_settle_mode = l.mode;
  recorded = OfModeSecond;
  echoed = Terminal;
  answers_flows = false;
  answers_detaches = false;
}

-- a relay that answers by the policy; no delivery is under way
abbrev pub relay_of : LinkModel → PlainRelay
relay_of l = record { policy = policy_of l; under_way = None }

-- a handle for a link of this name, with such a relay: it waits for the peer's attach, or stands on the handle on which that came
abbrev pub Allots : LinkModel → Input PlainRelay → Type 0
Allots l (input.AllocateLink n name (Some r)) =
    (n ≡ record { 0 = l.session }) × (string_bytes name ≡ l.name) × (l.input ≡ None) × (r ≡ relay_of l)
Allots l (input.AllocateIncomingLink n name r h) =
    (n ≡ record { 0 = l.session }) × (string_bytes name ≡ l.name) × (l.input ≡ Some h.0) × (r ≡ relay_of l)
Allots l i = ⊥

-- ---- parts

abbrev pub link_said : LinkAsked → LinkModel
link_said a = record { session = a.session; input = a.input; role = a.role; mode = a.mode; name = a.name.now }

-- the link is the one that the bytes name, or they name none
abbrev pub FindsLink : Operation → List ℕ → Option LinkAsked → Type 0
FindsLink o bytes None = (l : LinkModel) → ¬ AsksLink o bytes l
FindsLink o bytes (Some a) = AsksLink o bytes (link_said a)

-- one of this session, and with this handle of the peer's
abbrev pub FindsPolicy : ℕ → Option ℕ → List ℕ → Option LinkAsked → Type 0
FindsPolicy n h bytes None = (l : LinkModel) → ¬ HasPolicy bytes l
FindsPolicy n h bytes (Some a) = (a.session ≡ n) × (a.input ≡ h) × HasPolicy bytes (link_said a)
