-- What is read of bytes, by kind.
use Rattle.std.proofs.Common.{◌≡◌, ◌<◌, ◌+◌, ◌-◌, ℕ, List, [], ◌∷◌, ◌++◌, arith, take, drop, length, get_or, Option, Some, None, Result, Ok, Err, refl, ap, sym, subst, ◌∙◌}
use Rattle.std.proofs.Math.Seq.{take-length, drop-length}
use Rattle.std.proofs.lemmas.List.{append-nil, drop_more, length-append}
use Rattle.amqp_values.specs.Reading.{ReadsFront}
use Rattle.amqp_values.specs.declared.error.ReadError.{ReadError}
use Rattle.amqp_values.specs.declared.error.ReadError.TheVariants.{Malformed, OutOfMemory}
use Rattle.amqp_types.specs.Transfer.{TransferModel}
use Rattle.amqp_types.specs.Performatives.{IsPerformative}
use Rattle.amqp_types.specs.declared.performatives.Performative.{Performative}
use Rattle.amqp_types.specs.declared.performatives.Performative.TheVariants as its
use Rattle.amqp1.specs.Inner.Kinds.{whole_of, with_payload, as_open, as_begin, as_attach, as_detach, as_flow, as_transfer, as_disposition}
use Rattle.amqp1.specs.Reading.{HasTransfer, Reads, ReadsOne}

abbrev said : Performative × List ℕ → Option (Performative × List ℕ) → Performative × List ℕ
said d None = d
said d (Some x) = x

abbrev got : {X E : Type 0} → X → Result X E → X
got d (Ok x) = x
got d (Err e) = d

abbrev pub Whole : List ℕ → Performative → Type 0
Whole bytes p = IsPerformative p bytes

no_some : {X : Type 0} (x : X) → Some x ≡ None → ⊥
no_some x e = absurd cc

-- a performative and what follows
pub whole_read : (bytes : List ℕ) (p : Performative) (rest : List ℕ) → ReadsFront IsPerformative bytes (Ok (p, rest)) → ReadsOne (Whole bytes) (whole_of p rest)
whole_read bytes p [] r = (
  subst (IsPerformative p) (sym (r.found.2 ∙ append-nil r.found.0)) r.found.1,
  λ q h. ap (λ o. (said (p, []) o).0) (r.only q bytes [] h (sym (append-nil bytes))),
)
whole_read bytes p (b ∷ rest) r = λ q h.
    let e : [] ≡ b ∷ rest = ap (λ o. (said (p, []) o).1) (r.only q bytes [] h (sym (append-nil bytes))) in absurd cc

pub none_read : (bytes : List ℕ) (e : ReadError) → ReadsFront IsPerformative bytes (Err e) → ReadsOne (Whole bytes) (Err e)
none_read bytes Malformed r = λ q h. no_some {X = Performative × List ℕ} (q, []) (r.only q bytes [] h (sym (append-nil bytes)))
none_read bytes OutOfMemory r = r.refused refl

-- ---- a Transfer of so many bytes, and its payload

front_length : (bytes text rest : List ℕ) → bytes ≡ text ++ rest → length bytes - length rest ≡ length text
front_length bytes text rest e = let l : length bytes ≡ length text + length rest = ap length e ∙ length-append text rest in omega arith

pub payload_read : (count : ℕ) (bytes : List ℕ) (p : Performative) (rest : List ℕ) → ReadsFront IsPerformative bytes (Ok (p, rest))
    → length bytes - length rest ≡ count → Reads (HasTransfer count bytes) (with_payload p rest)
payload_read count bytes (its.Transfer t) rest r e =
    (r.found.0, sym (front_length bytes r.found.0 rest r.found.2) ∙ e, r.found.1, r.found.2)
payload_read count bytes p rest r e = λ x h.
    let k : its.Transfer x.0 ≡ p = ap (λ o. (said (p, []) o).0) (r.only (its.Transfer x.0) h.0 x.1 h.2 h.3) in absurd cc

-- the performative that is read has another length
pub other_length : (count : ℕ) (bytes : List ℕ) (p : Performative) (rest : List ℕ) → ReadsFront IsPerformative bytes (Ok (p, rest))
    → ¬ (length bytes - length rest ≡ count) → (x : TransferModel × List ℕ) → ¬ HasTransfer count bytes x
other_length count bytes p rest r n x h =
    let e : x.1 ≡ rest = ap (λ o. (said (p, []) o).1) (r.only (its.Transfer x.0) h.0 x.1 h.2 h.3) in
    n (ap (λ (t : List ℕ). length bytes - length t) (sym e) ∙ front_length bytes h.0 x.1 h.3 ∙ h.1)

pub no_payload_read : (count : ℕ) (bytes : List ℕ) (e : ReadError) → ReadsFront IsPerformative bytes (Err e) → Reads (HasTransfer count bytes) (Err e)
no_payload_read count bytes Malformed r = λ x h. no_some {X = Performative × List ℕ} (its.Transfer x.0, x.1) (r.only (its.Transfer x.0) h.0 x.1 h.2 h.3)
no_payload_read count bytes OutOfMemory r = r.refused refl

-- one of a kind
pub kind_none : {X : Type 0} (wrap : X → Performative) (bytes : List ℕ) (e : ReadError) → ReadsOne (Whole bytes) (Err e) → ReadsOne (λ x. Whole bytes (wrap x)) (Err e)
kind_none wrap bytes Malformed r = λ x h. r (wrap x) h
kind_none wrap bytes OutOfMemory r = r

pub open_read : (bytes : List ℕ) (p : Performative) → ReadsOne (Whole bytes) (Ok p) → ReadsOne (λ x. Whole bytes (its.Open x)) (as_open p)
open_read bytes (its.Open x) r = (r.0, λ y h. ap (λ p. got x (as_open p)) (r.1 (its.Open y) h))
open_read bytes p r = λ x h. let e : its.Open x ≡ p = r.1 (its.Open x) h in absurd cc

pub begin_read : (bytes : List ℕ) (p : Performative) → ReadsOne (Whole bytes) (Ok p) → ReadsOne (λ x. Whole bytes (its.Begin x)) (as_begin p)
begin_read bytes (its.Begin x) r = (r.0, λ y h. ap (λ p. got x (as_begin p)) (r.1 (its.Begin y) h))
begin_read bytes p r = λ x h. let e : its.Begin x ≡ p = r.1 (its.Begin x) h in absurd cc

pub attach_read : (bytes : List ℕ) (p : Performative) → ReadsOne (Whole bytes) (Ok p) → ReadsOne (λ x. Whole bytes (its.Attach x)) (as_attach p)
attach_read bytes (its.Attach x) r = (r.0, λ y h. ap (λ p. got x (as_attach p)) (r.1 (its.Attach y) h))
attach_read bytes p r = λ x h. let e : its.Attach x ≡ p = r.1 (its.Attach x) h in absurd cc

pub detach_read : (bytes : List ℕ) (p : Performative) → ReadsOne (Whole bytes) (Ok p) → ReadsOne (λ x. Whole bytes (its.Detach x)) (as_detach p)
detach_read bytes (its.Detach x) r = (r.0, λ y h. ap (λ p. got x (as_detach p)) (r.1 (its.Detach y) h))
detach_read bytes p r = λ x h. let e : its.Detach x ≡ p = r.1 (its.Detach x) h in absurd cc

pub flow_read : (bytes : List ℕ) (p : Performative) → ReadsOne (Whole bytes) (Ok p) → ReadsOne (λ x. Whole bytes (its.Flow x)) (as_flow p)
flow_read bytes (its.Flow x) r = (r.0, λ y h. ap (λ p. got x (as_flow p)) (r.1 (its.Flow y) h))
flow_read bytes p r = λ x h. let e : its.Flow x ≡ p = r.1 (its.Flow x) h in absurd cc

pub transfer_read : (bytes : List ℕ) (p : Performative) → ReadsOne (Whole bytes) (Ok p) → ReadsOne (λ x. Whole bytes (its.Transfer x)) (as_transfer p)
transfer_read bytes (its.Transfer x) r = (r.0, λ y h. ap (λ p. got x (as_transfer p)) (r.1 (its.Transfer y) h))
transfer_read bytes p r = λ x h. let e : its.Transfer x ≡ p = r.1 (its.Transfer x) h in absurd cc

pub disposition_read : (bytes : List ℕ) (p : Performative) → ReadsOne (Whole bytes) (Ok p) → ReadsOne (λ x. Whole bytes (its.Disposition x)) (as_disposition p)
disposition_read bytes (its.Disposition x) r = (r.0, λ y h. ap (λ p. got x (as_disposition p)) (r.1 (its.Disposition y) h))
disposition_read bytes p r = λ x h. let e : its.Disposition x ≡ p = r.1 (its.Disposition x) h in absurd cc

-- ---- places in bytes

pub whole_front : (bytes : List ℕ) → bytes ≡ take (length bytes) bytes
whole_front bytes = sym (take-length bytes)

pub at_end : (at : ℕ) (bytes : List ℕ) → at ≡ length bytes → drop at bytes ≡ []
at_end at bytes e = rw e (drop-length bytes)

pub before_end : (at : ℕ) (bytes : List ℕ) → at < length bytes → drop at bytes ≡ get_or bytes at 0 ∷ drop (at + 1) bytes
before_end at bytes h = drop_more bytes at 0 h
