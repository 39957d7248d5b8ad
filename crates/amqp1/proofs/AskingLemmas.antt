-- What bytes ask for, where parts of them were read.
use Rattle.std.proofs.Common.{◌≡◌, ◌≤◌, ◌<◌, ℕ, List, [], ◌∷◌, length, slice_index_or, Option, Some, None, Result, Ok, Err, refl, ap, sym, subst, ◌∙◌, arith}
use Rattle.std.specs.Int.{w32}
use Rattle.amqp_values.specs.Reading.{number_at, byte_at}
use Rattle.amqp_values.specs.declared.error.ReadError.{ReadError}
use Rattle.amqp_values.specs.declared.error.ReadError.TheVariants.{Malformed, OutOfMemory}
use Rattle.amqp_types.specs.Begin.{BeginModel}
use Rattle.amqp_types.specs.Flow.{FlowModel}
use Rattle.amqp_types.specs.Detach.{DetachModel}
use Rattle.amqp_types.specs.Transfer.{TransferModel}
use Rattle.amqp_types.specs.Performatives.{IsPerformative}
use Rattle.amqp_types.specs.declared.performatives.Performative.TheVariants as its
use Rattle.amqp_session.specs.LinkFlow.{link_part}
use Rattle.amqp_engine.specs.declared.engine.input.Input.{Input}
use Rattle.amqp1.specs.declared.operation.Operation.{Operation}
use Rattle.amqp1.specs.declared.operation.Operation.TheVariants as op
use Rattle.amqp1.specs.Asking.{Asks, AsksBegin, AsksDetach, AsksFlow, AsksTransfer, AsksInSession, AsksOfSession, HasByte, HasNumber, IsBegun}
use Rattle.amqp1.specs.Reading.{HasTransfer, Reads, ReadsOne}

abbrev pub pair_of : ℕ × List ℕ → Option (ℕ × List ℕ) → ℕ × List ℕ
pair_of d None = d
pair_of d (Some x) = x

pub same_rest : (o : Option (ℕ × List ℕ)) (n m : ℕ) (rest rest' : List ℕ) → o ≡ Some (n, rest) → o ≡ Some (m, rest') → rest' ≡ rest
same_rest o n m rest rest' e f = ap (λ o. (pair_of (n, rest) o).1) (sym f ∙ e)

pub same_number : (o : Option (ℕ × List ℕ)) (n m : ℕ) (rest rest' : List ℕ) → o ≡ Some (n, rest) → o ≡ Some (m, rest') → m ≡ n
same_number o n m rest rest' e f = ap (λ o. (pair_of (n, rest) o).0) (sym f ∙ e)

-- what was not read is not asked for
pub none_asked : {X Y : Type 0} (P : X → Type 0) (Q : Y → Type 0) (e : ReadError) → ((y : Y) → Q y → (x : X) × P x) → ReadsOne P (Err e) → Reads Q (Err e)
none_asked P Q Malformed f h = λ y q. let x = f y q in h x.0 x.1
none_asked P Q OutOfMemory f h = h

pub none_of : {X Y : Type 0} (P : X → Type 0) (Q : Y → Type 0) (e : ReadError) → ((y : Y) → Q y → (x : X) × P x) → Reads P (Err e) → Reads Q (Err e)
none_of P Q Malformed f h = λ y q. let x = f y q in h x.0 x.1
none_of P Q OutOfMemory f h = h

-- a session, by what follows its number
pub in_session : {R : Type 0} (o : Operation) (bytes : List ℕ) (n : ℕ) (rest : List ℕ) (r : Result (Input R) ReadError) → HasNumber bytes n rest
    → Reads (AsksOfSession o n rest) r → Reads (AsksInSession o bytes) r
in_session o bytes n rest (Ok i) e h = (n, rest, e, h)
in_session o bytes n rest (Err Malformed) e h = λ i a.
    h i (subst (λ k. AsksOfSession o k rest i) (same_number (number_at w32 bytes) n a.0 rest a.1 e a.2)
    (subst (λ t. AsksOfSession o a.0 t i) (same_rest (number_at w32 bytes) n a.0 rest a.1 e a.2) a.3))
in_session o bytes n rest (Err OutOfMemory) e h = h

-- a Begin that answers none
pub begun : {R : Type 0} (n : ℕ) (bytes : List ℕ) (b : BeginModel) (r : Result (Input R) ReadError) → ReadsOne (λ x. IsPerformative (its.Begin x) bytes) (Ok b)
    → IsBegun n b r → Reads (AsksBegin n bytes) r
begun n bytes b (Ok i) h g = (b, h.0, g.0, g.1)
begun n bytes b (Err Malformed) h g = λ i a. g (subst (λ (x : BeginModel). x.remote_channel ≡ None) (h.1 a.0 a.1) a.2)
begun n bytes b (Err OutOfMemory) h g = absurd g

no_some : {X : Type 0} (x : X) → Some x ≡ None → ⊥
no_some x e = absurd cc

-- a Flow that names no link
pub no_flow : {R : Type 0} (n : ℕ) (bytes : List ℕ) (f : FlowModel) → ReadsOne (λ x. IsPerformative (its.Flow x) bytes) (Ok f) → link_part f ≡ None
    → (i : Input R) → ¬ AsksFlow n bytes i
no_flow n bytes f h e i a =
    no_some a.1 (sym a.3 ∙ ap link_part (h.1 a.0 a.2) ∙ e)

-- a Detach and a Transfer after their flags
pub detach_after : {R : Type 0} (n : ℕ) (bytes : List ℕ) (flag : ℕ) (rest : List ℕ) → HasByte bytes flag rest → (i : Input R) → AsksDetach n bytes i
    → (d : DetachModel) × IsPerformative (its.Detach d) rest
detach_after n bytes flag rest e i a =
    (a.detach, subst (IsPerformative (its.Detach a.detach)) (same_rest (byte_at bytes) flag a.flag rest a.rest e a.has_flag) a.is_detach)

pub transfer_after : {R : Type 0} (n : ℕ) (bytes : List ℕ) (flag count : ℕ) (rest parts : List ℕ) → HasByte bytes flag rest
    → HasNumber rest count parts → (i : Input R) → AsksTransfer n bytes i → (x : TransferModel × List ℕ) × HasTransfer count parts x
transfer_after n bytes flag count rest parts f h i a =
    let d : a.rest ≡ rest = same_rest (byte_at bytes) flag a.flag rest a.rest f a.has_flag in
    let k : HasNumber rest a.count a.parts = subst (λ t. HasNumber t a.count a.parts) d a.has_count in (
      a.transfer,
      subst (λ t. HasTransfer count t a.transfer) (same_rest (number_at w32 rest) count a.count parts a.parts h k)
          (subst (λ m. HasTransfer m a.parts a.transfer) (same_number (number_at w32 rest) count a.count parts a.parts h k) a.has_transfer),
    )

-- an operation that is none of these five is of a session
pub plain_or_session : {R : Type 0} (o : Operation) (bytes : List ℕ) (r : Result (Input R) ReadError) → ¬ (o ≡ op.Open) → ¬ (o ≡ op.Close) → ¬ (o ≡ op.Release)
    → ¬ (o ≡ op.Forget) → ¬ (o ≡ op.Settle) → Reads (AsksInSession o bytes) r → Reads (Asks o bytes) r
plain_or_session op.Open bytes r a b c d e h = absurd (a refl)
plain_or_session op.Close bytes r a b c d e h = absurd (b refl)
plain_or_session op.Release bytes r a b c d e h = absurd (c refl)
plain_or_session op.Forget bytes r a b c d e h = absurd (d refl)
plain_or_session op.Settle bytes r a b c d e h = absurd (e refl)
plain_or_session o bytes r a b c d e h = h

-- bytes of which one is there
pub one_byte : (bytes : List ℕ) → 1 ≤ length bytes → length bytes < 2 → bytes ≡ slice_index_or bytes 0 0 ∷ []
one_byte [] h k = absurd (omega arith)
one_byte (b ∷ []) h k = refl
one_byte (b ∷ d ∷ rest) h k = absurd (omega arith)
