-- Part: the bytes; other calls; inner.
-- The nine performatives (AMQP 1.0 part 2, section 2.7).
use Rattle.std.specs.Prelude.{ℕ, List, Option, Some}
use Rattle.amqp_values.specs.Reading.{◌>>=◌, IsReader}
use Rattle.amqp_values.specs.Composite.{IsComposite, composite_at}
use Rattle.amqp_types.specs.declared.performatives.Performative.{Performative}
use Rattle.amqp_types.specs.declared.performatives.Performative.TheVariants.{Open, Begin, Attach, Flow, Transfer}
use Rattle.amqp_types.specs.declared.performatives.Performative.TheVariants.{Disposition, Detach, End, Close}
use Rattle.amqp_types.specs.declared.performatives.kind.Kind.{Kind}
use Rattle.amqp_types.specs.declared.performatives.kind.Kind.TheVariants as kind
use Rattle.amqp_types.specs.Kinds.{kind_at}
use Rattle.amqp_types.specs.FieldTable.{IsListed, listed_text}
use Rattle.amqp_types.specs.Open.{open_table, IsOpenBody, open_body_at}
use Rattle.amqp_types.specs.Begin.{begin_table, IsBeginBody, begin_body_at}
use Rattle.amqp_types.specs.Attach.{attach_table, IsAttachBody, attach_body_at}
use Rattle.amqp_types.specs.Flow.{flow_table, IsFlowBody, flow_body_at}
use Rattle.amqp_types.specs.Transfer.{transfer_table, IsTransferBody, transfer_body_at}
use Rattle.amqp_types.specs.Disposition.{disposition_table, IsDispositionBody, disposition_body_at}
use Rattle.amqp_types.specs.Detach.{detach_table, IsDetachBody, detach_body_at}
use Rattle.amqp_types.specs.End.{end_table, IsEndBody, end_body_at}
use Rattle.amqp_types.specs.Close.{close_table, IsCloseBody, close_body_at}

-- an accepted descriptor, and the list of its fields
abbrev pub IsPerformative : Performative → List ℕ → Type 0
IsPerformative (Open p) = IsListed 0x10 open_table p
IsPerformative (Begin p) = IsListed 0x11 begin_table p
IsPerformative (Attach p) = IsListed 0x12 attach_table p
IsPerformative (Flow p) = IsListed 0x13 flow_table p
IsPerformative (Transfer p) = IsListed 0x14 transfer_table p
IsPerformative (Disposition p) = IsListed 0x15 disposition_table p
IsPerformative (Detach p) = IsListed 0x16 detach_table p
IsPerformative (End p) = IsListed 0x17 end_table p
IsPerformative (Close p) = IsListed 0x18 close_table p

-- the canonical text
abbrev pub performative_text : Performative → List ℕ
performative_text (Open p) = listed_text 0x10 open_table p
performative_text (Begin p) = listed_text 0x11 begin_table p
performative_text (Attach p) = listed_text 0x12 attach_table p
performative_text (Flow p) = listed_text 0x13 flow_table p
performative_text (Transfer p) = listed_text 0x14 transfer_table p
performative_text (Disposition p) = listed_text 0x15 disposition_table p
performative_text (Detach p) = listed_text 0x16 detach_table p
performative_text (End p) = listed_text 0x17 end_table p
performative_text (Close p) = listed_text 0x18 close_table p

-- ---- its reader

abbrev pub wrapped_at : {V : Type 0} → (V → Performative) → (List ℕ → Option (V × List ℕ)) → List ℕ → Option (Performative × List ℕ)
wrapped_at wrap at bytes = at bytes >>= λ x. Some (wrap x.0, x.1)

-- the list of a performative of this kind
unfoldable pub body_at : Kind → List ℕ → Option (Performative × List ℕ)
body_at kind.Open bytes = wrapped_at (λ p. Open p) (composite_at open_body_at) bytes
body_at kind.Begin bytes = wrapped_at (λ p. Begin p) (composite_at begin_body_at) bytes
body_at kind.Attach bytes = wrapped_at (λ p. Attach p) (composite_at attach_body_at) bytes
body_at kind.Flow bytes = wrapped_at (λ p. Flow p) (composite_at flow_body_at) bytes
body_at kind.Transfer bytes = wrapped_at (λ p. Transfer p) (composite_at transfer_body_at) bytes
body_at kind.Disposition bytes = wrapped_at (λ p. Disposition p) (composite_at disposition_body_at) bytes
body_at kind.Detach bytes = wrapped_at (λ p. Detach p) (composite_at detach_body_at) bytes
body_at kind.End bytes = wrapped_at (λ p. End p) (composite_at end_body_at) bytes
body_at kind.Close bytes = wrapped_at (λ p. Close p) (composite_at close_body_at) bytes

unfoldable pub performative_at : List ℕ → Option (Performative × List ℕ)
performative_at bytes = kind_at bytes >>= λ d. body_at d.0 d.1

-- ---- the laws of the readers

-- the list of each kind is read exactly by its table
pub record ListsAreRead : Type 0 where
  pub of_open : IsReader (IsComposite IsOpenBody) (composite_at open_body_at)
  pub of_begin : IsReader (IsComposite IsBeginBody) (composite_at begin_body_at)
  pub of_attach : IsReader (IsComposite IsAttachBody) (composite_at attach_body_at)
  pub of_flow : IsReader (IsComposite IsFlowBody) (composite_at flow_body_at)
  pub of_transfer : IsReader (IsComposite IsTransferBody) (composite_at transfer_body_at)
  pub of_disposition : IsReader (IsComposite IsDispositionBody) (composite_at disposition_body_at)
  pub of_detach : IsReader (IsComposite IsDetachBody) (composite_at detach_body_at)
  pub of_end : IsReader (IsComposite IsEndBody) (composite_at end_body_at)
  pub of_close : IsReader (IsComposite IsCloseBody) (composite_at close_body_at)
