-- A performative is read exactly by its grammar.
use Rattle.std.proofs.Common.{◌≡◌, ℕ, List, ◌∷◌, ◌++◌, Option, Some, None, refl, sym, ap, subst, ◌∙◌, append_assoc}
use Rattle.amqp_values.specs.Slots.{PartsLeft}
use Rattle.amqp_types.specs.declared.performatives.Performative.{Performative}
use Rattle.amqp_types.specs.declared.performatives.Performative.TheVariants.{Open, Begin, Attach, Flow, Transfer, Disposition, Detach, End, Close}
use Rattle.amqp_types.specs.declared.performatives.kind.Kind.{Kind}
use Rattle.amqp_types.specs.declared.performatives.kind.Kind.TheVariants as kind
use Rattle.amqp_values.specs.Composite.{IsComposite, IsDescribed, IsDescriptor, composite_at}
use Rattle.amqp_values.specs.Reading.{IsReader}
use Rattle.amqp_values.proofs.ReaderLemmas.{IsFormat, bind_some, pair_is}
use Rattle.amqp_values.proofs.SlotLemmas.{IsBody}
use Rattle.amqp_values.proofs.CompositeLemmas.{composite_law}
use Rattle.amqp_types.specs.Open.{IsOpenBody, open_body_at}
use Rattle.amqp_types.specs.Begin.{IsBeginBody, begin_body_at}
use Rattle.amqp_types.specs.Attach.{IsAttachBody, attach_body_at}
use Rattle.amqp_types.specs.Flow.{IsFlowBody, flow_body_at}
use Rattle.amqp_types.specs.Transfer.{IsTransferBody, transfer_body_at}
use Rattle.amqp_types.specs.Disposition.{IsDispositionBody, disposition_body_at}
use Rattle.amqp_types.specs.Detach.{IsDetachBody, detach_body_at}
use Rattle.amqp_types.specs.End.{IsEndBody, end_body_at}
use Rattle.amqp_types.specs.Close.{IsCloseBody, close_body_at}
use Rattle.amqp_types.specs.Kinds.{IsKind, code_of, kind_at}
use Rattle.amqp_types.specs.Performatives.{IsPerformative, ListsAreRead, wrapped_at, body_at, performative_at}
use Rattle.amqp_types.proofs.BodyLemmas.{open_body, begin_body, attach_body, flow_body, transfer_body, disposition_body, detach_body, end_body, close_body}
use Rattle.amqp_types.proofs.KindLemmas.{kind_found, kind_again, kind_no_null}

-- what a reading of one kind's list found
list_found : {V : Type 0} (wrap : V → Performative) (code : ℕ) (B : V → List (List ℕ) → Type 0) (body : PartsLeft → Option (V × PartsLeft)) → IsBody B body
    → ((v : V) (t : List ℕ) → IsDescribed code B v t → IsPerformative (wrap v) t)
    → (descriptor bytes : List ℕ) (p : Performative) (rest : List ℕ) → IsDescriptor code descriptor → wrapped_at wrap (composite_at body) bytes ≡ Some (p, rest)
    → (text : List ℕ) × IsPerformative p text × (descriptor ++ bytes ≡ text ++ rest)
list_found {V} wrap code B body law carry descriptor bytes p rest coded e =
    let b = bind_some (composite_at body bytes) (λ x. Some (wrap x.0, x.1)) (p, rest) e in
    let s = pair_is (wrap b.0.0) p b.0.1 rest b.2 in
    let f = (composite_law B body law).found bytes b.0.0 b.0.1 b.1 in
    let text : List ℕ = descriptor ++ f.0 in
    let is : IsDescribed code B b.0.0 text = record { descriptor = descriptor; list = f.0; coded = coded; body = f.1; whole = refl } in
    (text, subst (λ (q : Performative). IsPerformative q text) s.0 (carry b.0.0 text is), ap (λ (x : List ℕ). descriptor ++ x) (f.2 ∙ ap (λ (x : List ℕ). f.0 ++ x) s.1) ∙ sym (append_assoc descriptor f.0 rest))

body_found : (k : Kind) (descriptor bytes : List ℕ) (p : Performative) (rest : List ℕ) → IsKind k descriptor → body_at k bytes ≡ Some (p, rest)
    → (text : List ℕ) × IsPerformative p text × (descriptor ++ bytes ≡ text ++ rest)
unfolding body_at
body_found kind.Open descriptor bytes p rest coded e = list_found (λ q. Open q) 0x10 IsOpenBody open_body_at open_body (λ v t h. h) descriptor bytes p rest coded e
body_found kind.Begin descriptor bytes p rest coded e = list_found (λ q. Begin q) 0x11 IsBeginBody begin_body_at begin_body (λ v t h. h) descriptor bytes p rest coded e
body_found kind.Attach descriptor bytes p rest coded e = list_found (λ q. Attach q) 0x12 IsAttachBody attach_body_at attach_body (λ v t h. h) descriptor bytes p rest coded e
body_found kind.Flow descriptor bytes p rest coded e = list_found (λ q. Flow q) 0x13 IsFlowBody flow_body_at flow_body (λ v t h. h) descriptor bytes p rest coded e
body_found kind.Transfer descriptor bytes p rest coded e = list_found (λ q. Transfer q) 0x14 IsTransferBody transfer_body_at transfer_body (λ v t h. h) descriptor bytes p rest coded e
body_found kind.Disposition descriptor bytes p rest coded e = list_found (λ q. Disposition q) 0x15 IsDispositionBody disposition_body_at disposition_body (λ v t h. h) descriptor bytes p rest coded e
body_found kind.Detach descriptor bytes p rest coded e = list_found (λ q. Detach q) 0x16 IsDetachBody detach_body_at detach_body (λ v t h. h) descriptor bytes p rest coded e
body_found kind.End descriptor bytes p rest coded e = list_found (λ q. End q) 0x17 IsEndBody end_body_at end_body (λ v t h. h) descriptor bytes p rest coded e
body_found kind.Close descriptor bytes p rest coded e = list_found (λ q. Close q) 0x18 IsCloseBody close_body_at close_body (λ v t h. h) descriptor bytes p rest coded e

performative_found : (bytes : List ℕ) (p : Performative) (rest : List ℕ) → performative_at bytes ≡ Some (p, rest) → (text : List ℕ) × IsPerformative p text × (bytes ≡ text ++ rest)
unfolding performative_at
performative_found bytes p rest e =
    let d = bind_some (kind_at bytes) (λ d. body_at d.0 d.1) (p, rest) e in
    let f = kind_found bytes d.0.0 d.0.1 d.1 in
    let g = body_found d.0.0 f.0 d.0.1 p rest f.1 d.2 in
    (g.0, g.1, f.2 ∙ g.2)

-- one kind is read again
list_again : {V : Type 0} (k : Kind) (B : V → List (List ℕ) → Type 0) (body : PartsLeft → Option (V × PartsLeft)) → IsBody B body → (wrap : V → Performative) (v : V) (text rest : List ℕ)
    → IsDescribed (code_of k) B v text → ((bytes : List ℕ) → body_at k bytes ≡ wrapped_at wrap (composite_at body) bytes) → performative_at (text ++ rest) ≡ Some (wrap v, rest)
unfolding performative_at
list_again k B body law wrap v text rest h is =
    let read : kind_at (text ++ rest) ≡ Some (k, h.list ++ rest) =
    ap (λ (t : List ℕ). kind_at (t ++ rest)) h.whole ∙ ap kind_at (append_assoc h.descriptor h.list rest) ∙ kind_again k h.descriptor (h.list ++ rest) h.coded in
    let inner : composite_at body (h.list ++ rest) ≡ Some (v, rest) = (composite_law B body law).again v h.list rest h.body in
    rw (read, is (h.list ++ rest), inner) refl

performative_again : (p : Performative) (text rest : List ℕ) → IsPerformative p text → performative_at (text ++ rest) ≡ Some (p, rest)
unfolding body_at
performative_again (Open p) text rest h = list_again kind.Open IsOpenBody open_body_at open_body (λ q. Open q) p text rest h (λ bytes. refl)
performative_again (Begin p) text rest h = list_again kind.Begin IsBeginBody begin_body_at begin_body (λ q. Begin q) p text rest h (λ bytes. refl)
performative_again (Attach p) text rest h = list_again kind.Attach IsAttachBody attach_body_at attach_body (λ q. Attach q) p text rest h (λ bytes. refl)
performative_again (Flow p) text rest h = list_again kind.Flow IsFlowBody flow_body_at flow_body (λ q. Flow q) p text rest h (λ bytes. refl)
performative_again (Transfer p) text rest h = list_again kind.Transfer IsTransferBody transfer_body_at transfer_body (λ q. Transfer q) p text rest h (λ bytes. refl)
performative_again (Disposition p) text rest h = list_again kind.Disposition IsDispositionBody disposition_body_at disposition_body (λ q. Disposition q) p text rest h (λ bytes. refl)
performative_again (Detach p) text rest h = list_again kind.Detach IsDetachBody detach_body_at detach_body (λ q. Detach q) p text rest h (λ bytes. refl)
performative_again (End p) text rest h = list_again kind.End IsEndBody end_body_at end_body (λ q. End q) p text rest h (λ bytes. refl)
performative_again (Close p) text rest h = list_again kind.Close IsCloseBody close_body_at close_body (λ q. Close q) p text rest h (λ bytes. refl)

performative_no_null : (rest : List ℕ) → performative_at (0x40 ∷ rest) ≡ None
unfolding performative_at
performative_no_null rest = rw (kind_no_null rest) refl

pub performative_format : IsFormat IsPerformative performative_at
performative_format = record { found = performative_found; again = performative_again; no_null = performative_no_null }

-- ---- each list by itself

list_read : {V : Type 0} (B : V → List (List ℕ) → Type 0) (body : PartsLeft → Option (V × PartsLeft)) → IsBody B body → IsReader (IsComposite B) (composite_at body)
list_read B body law = let l = composite_law B body law in record { found = l.found; again = l.again }

pub lists_read : ListsAreRead
lists_read = record {
  of_open = list_read _ _ open_body;
  of_begin = list_read _ _ begin_body;
  of_attach = list_read _ _ attach_body;
  of_flow = list_read _ _ flow_body;
  of_transfer = list_read _ _ transfer_body;
  of_disposition = list_read _ _ disposition_body;
  of_detach = list_read _ _ detach_body;
  of_end = list_read _ _ end_body;
  of_close = list_read _ _ close_body;
}
