-- A frame is exactly a head and the fields after it.
use Rattle.std.proofs.Common.{◌≡◌, ℕ, ◌<◌, ◌≤◌, List, [], ◌∷◌, ◌++◌, length, get_or, drop, Option, Some, None, refl, sym, ap, subst, ◌∙◌, arith, inl, inr, append_assoc}
use Rattle.std.specs.Prelude.{Result, Ok, Err}
use Rattle.std.specs.Int.{w16, from_be_bytes}
use Rattle.amqp_values.specs.Slots.{PartsLeft}
use Rattle.amqp_values.specs.declared.error.ReadError.{ReadError}
use Rattle.amqp_values.specs.declared.error.ReadError.TheVariants as read
use Rattle.amqp_values.specs.Reading.{Gives, IsReader}
use Rattle.amqp_values.specs.Composite.{IsComposite, IsDescribed, IsDescriptor, described0, described_small, described_by_number, described_by_name, composite_at}
use Rattle.amqp_values.proofs.ReaderLemmas.{pair_is, some_is}
use Rattle.amqp_values.proofs.SlotLemmas as slot
use Rattle.amqp_values.proofs.CompositeLemmas.{composite_law}
use Rattle.amqp_types.specs.declared.performatives.Performative.{Performative}
use Rattle.amqp_types.specs.declared.performatives.Performative.TheVariants as performative
use Rattle.amqp_types.specs.declared.performatives.kind.Kind.{Kind}
use Rattle.amqp_types.specs.declared.performatives.kind.Kind.TheVariants as kind
use Rattle.amqp_types.specs.Kinds.{IsKind, KindsAreRead, code_of, kind_at}
use Rattle.amqp_types.specs.Performatives.{IsPerformative}
use Rattle.amqp_frames.specs.declared.frame.Frame.{Frame}
use Rattle.amqp_frames.specs.declared.frame.FrameBody.{FrameBody}
use Rattle.amqp_frames.specs.declared.decoder.FrameHead.{FrameHead}
use Rattle.amqp_frames.specs.declared.error.Error.{Error}
use Rattle.amqp_frames.specs.declared.error.Error.TheVariants as no
use Rattle.amqp_frames.specs.Frame.{IsBody, IsFrame, IsSaid, Decodes, body_of}
use Rattle.amqp_frames.specs.Inner.Decoding.{IsHeader, Names}
use Rattle.amqp_frames.specs.Head.{as_head, IsFields, IsBodyOf, IsHead, IsLongEnough, MayAskForMemory, NamesKind, HasNoHead, NoBodyOf, Opens, ReadsBodyOf, ReadsFrameOf}
use Rattle.amqp_frames.specs.FrameError.{error_of}
use Rattle.amqp_frames.proofs.DecodedFrameLemmas.{same_header, same_body, has_header, header_is, same_frame, framed}

-- ---- the body

-- a performative is a kind's descriptor and its fields
pub record IsParted (p : Performative) (text : List ℕ) (body : FrameBody) (after rest : List ℕ) : Type 0 where
  pub kind : Kind
  pub descriptor : List ℕ
  pub list : List ℕ
  pub named : IsKind kind descriptor
  pub whole : text ≡ descriptor ++ list
  pub fields : (left : List ℕ) → left ≡ list ++ after → IsBodyOf (Some kind) body left rest

parted : (p : Performative) (text : List ℕ) (b : FrameBody) (after rest : List ℕ) → IsPerformative p text → body_of p after ≡ (b, rest) → IsParted p text b after rest
parted (performative.Open p) text b after rest h e = record { kind = kind.Open; descriptor = h.descriptor; list = h.list; named = h.coded; whole = h.whole; fields = λ left w. record { value = p; text = h.list; after = after; is = h.body; whole = w; said = e } }
parted (performative.Begin p) text b after rest h e = record { kind = kind.Begin; descriptor = h.descriptor; list = h.list; named = h.coded; whole = h.whole; fields = λ left w. record { value = p; text = h.list; after = after; is = h.body; whole = w; said = e } }
parted (performative.Attach p) text b after rest h e = record { kind = kind.Attach; descriptor = h.descriptor; list = h.list; named = h.coded; whole = h.whole; fields = λ left w. record { value = p; text = h.list; after = after; is = h.body; whole = w; said = e } }
parted (performative.Flow p) text b after rest h e = record { kind = kind.Flow; descriptor = h.descriptor; list = h.list; named = h.coded; whole = h.whole; fields = λ left w. record { value = p; text = h.list; after = after; is = h.body; whole = w; said = e } }
parted (performative.Transfer p) text b after rest h e = record { kind = kind.Transfer; descriptor = h.descriptor; list = h.list; named = h.coded; whole = h.whole; fields = λ left w. record { value = p; text = h.list; after = after; is = h.body; whole = w; said = e } }
parted (performative.Disposition p) text b after rest h e = record { kind = kind.Disposition; descriptor = h.descriptor; list = h.list; named = h.coded; whole = h.whole; fields = λ left w. record { value = p; text = h.list; after = after; is = h.body; whole = w; said = e } }
parted (performative.Detach p) text b after rest h e = record { kind = kind.Detach; descriptor = h.descriptor; list = h.list; named = h.coded; whole = h.whole; fields = λ left w. record { value = p; text = h.list; after = after; is = h.body; whole = w; said = e } }
parted (performative.End p) text b after rest h e = record { kind = kind.End; descriptor = h.descriptor; list = h.list; named = h.coded; whole = h.whole; fields = λ left w. record { value = p; text = h.list; after = after; is = h.body; whole = w; said = e } }
parted (performative.Close p) text b after rest h e = record { kind = kind.Close; descriptor = h.descriptor; list = h.list; named = h.coded; whole = h.whole; fields = λ left w. record { value = p; text = h.list; after = after; is = h.body; whole = w; said = e } }

-- A descriptor has bytes, so no performative's text is empty.
some_descriptor : (n : ℕ) (text : List ℕ) → IsDescriptor n text → text ≡ [] → ⊥
some_descriptor _ _ described0 e = absurd cc
some_descriptor _ _ (described_small n) e = absurd cc
some_descriptor _ _ (described_by_number bytes l) e = absurd cc
some_descriptor _ _ (described_by_name n name text is coded) e = absurd cc

front_empty : (front after : List ℕ) → front ++ after ≡ [] → front ≡ []
front_empty [] after e = refl
front_empty (b ∷ front) after e = absurd cc

said_empty : (b : FrameBody) (bytes rest : List ℕ) → bytes ≡ [] → IsSaid b bytes rest → ⊥
said_empty b bytes rest e s =
    let d = parted s.performative s.text b s.after rest s.is s.says in
    let empty : d.descriptor ++ (d.list ++ s.after) ≡ [] = sym (append_assoc d.descriptor d.list s.after) ∙ ap (λ (t : List ℕ). t ++ s.after) (sym d.whole) ∙ sym s.whole ∙ e in
    some_descriptor (code_of d.kind) d.descriptor d.named (front_empty d.descriptor (d.list ++ s.after) empty)

-- what is read off a performative's text
read_off : KindsAreRead → (b : FrameBody) (bytes rest : List ℕ) (s : IsSaid b bytes rest) → (d : IsParted s.performative s.text b s.after rest) → kind_at bytes ≡ Some (d.kind, d.list ++ s.after)
read_off kinds b bytes rest s d =
    ap kind_at (s.whole ∙ ap (λ (t : List ℕ). t ++ s.after) d.whole ∙ append_assoc d.descriptor d.list s.after) ∙ kinds.again d.kind d.descriptor (d.list ++ s.after) d.named

body_fields : KindsAreRead → (bytes left : List ℕ) (k : Kind) (b : FrameBody) (rest : List ℕ) → kind_at bytes ≡ Some (k, left) → IsSaid b bytes rest → IsBodyOf (Some k) b left rest
body_fields kinds bytes left k b rest e s =
    let d = parted s.performative s.text b s.after rest s.is s.says in
    let same = pair_is d.kind k (d.list ++ s.after) left (sym (read_off kinds b bytes rest s d) ∙ e) in
    subst (λ (j : Kind). IsBodyOf (Some j) b left rest) same.0 (d.fields left (sym same.1))

said_by : {V : Type 0} (code : ℕ) (B : V → List (List ℕ) → Type 0) (wrap : V → Performative) (bytes descriptor left : List ℕ) (b : FrameBody) (rest : List ℕ)
    → ((v : V) (t : List ℕ) → IsDescribed code B v t → IsPerformative (wrap v) t) → IsDescriptor code descriptor → bytes ≡ descriptor ++ left
    → IsFields B (λ v after. body_of (wrap v) after) b left rest → IsSaid b bytes rest
said_by code B wrap bytes descriptor left b rest carry coded whole f = record {
  performative = wrap f.value;
  text = descriptor ++ f.text;
  after = f.after;
  is = carry f.value (descriptor ++ f.text) (record { descriptor = descriptor; list = f.text; coded = coded; body = f.is; whole = refl });
  whole = whole ∙ ap (λ (x : List ℕ). descriptor ++ x) f.whole ∙ sym (append_assoc descriptor f.text f.after);
  says = f.said;
}

fields_said : (bytes descriptor left : List ℕ) (k : Kind) (b : FrameBody) (rest : List ℕ) → IsKind k descriptor → bytes ≡ descriptor ++ left → IsBodyOf (Some k) b left rest → IsSaid b bytes rest
fields_said bytes descriptor left kind.Open b rest h w f = said_by 0x10 _ (λ p. performative.Open p) bytes descriptor left b rest (λ v t x. x) h w f
fields_said bytes descriptor left kind.Begin b rest h w f = said_by 0x11 _ (λ p. performative.Begin p) bytes descriptor left b rest (λ v t x. x) h w f
fields_said bytes descriptor left kind.Attach b rest h w f = said_by 0x12 _ (λ p. performative.Attach p) bytes descriptor left b rest (λ v t x. x) h w f
fields_said bytes descriptor left kind.Flow b rest h w f = said_by 0x13 _ (λ p. performative.Flow p) bytes descriptor left b rest (λ v t x. x) h w f
fields_said bytes descriptor left kind.Transfer b rest h w f = said_by 0x14 _ (λ p. performative.Transfer p) bytes descriptor left b rest (λ v t x. x) h w f
fields_said bytes descriptor left kind.Disposition b rest h w f = said_by 0x15 _ (λ p. performative.Disposition p) bytes descriptor left b rest (λ v t x. x) h w f
fields_said bytes descriptor left kind.Detach b rest h w f = said_by 0x16 _ (λ p. performative.Detach p) bytes descriptor left b rest (λ v t x. x) h w f
fields_said bytes descriptor left kind.End b rest h w f = said_by 0x17 _ (λ p. performative.End p) bytes descriptor left b rest (λ v t x. x) h w f
fields_said bytes descriptor left kind.Close b rest h w f = said_by 0x18 _ (λ p. performative.Close p) bytes descriptor left b rest (λ v t x. x) h w f

-- the bodies in the bytes are those of the kind that is named
to_kind : KindsAreRead → (bytes left : List ℕ) (k : Option Kind) (b : FrameBody) (rest : List ℕ) → Names bytes left (Ok k) → IsBody b bytes rest → IsBodyOf k b left rest
to_kind kinds bytes left None b rest n (inl t) = (t.1, t.2)
to_kind kinds bytes left None b rest n (inr s) = absurd (said_empty b bytes rest n.0 s)
to_kind kinds bytes left (Some k) b rest n (inl t) = absurd (n.0 t.0)
to_kind kinds bytes left (Some k) b rest n (inr s) = body_fields kinds bytes left k b rest n.1 s

of_kind : KindsAreRead → (bytes left : List ℕ) (k : Option Kind) (b : FrameBody) (rest : List ℕ) → Names bytes left (Ok k) → IsBodyOf k b left rest → IsBody b bytes rest
of_kind kinds bytes left None b rest n f = inl (n.0, f.0, f.1)
of_kind kinds bytes left (Some k) b rest n f = let d = kinds.found bytes k left n.1 in inr (fields_said bytes d.0 left k b rest d.1 d.2 f)

-- ---- the frame

framed_by : (bytes : List ℕ) (n : ℕ) → IsHeader bytes n → (f : Frame) (rest : List ℕ) → f.channel ≡ n → IsBody f.body (drop 4 bytes) rest → IsFrame f bytes rest
framed_by bytes n h f rest c b = record { channel = h.channel; body = drop 4 bytes; two = h.two; channel_is = c ∙ h.channel_is; whole = h.whole; says = b }

-- what the head answers, from what its parts answered
abbrev pub headed : ℕ → Result (Option Kind) Error → Result FrameHead Error
headed n (Ok k) = Ok (record { channel = n; kind = k })
headed n (Err e) = Err e

after_header : (bytes : List ℕ) → 4 ≤ length bytes → (drop 4 bytes ≡ [] → ⊥) → 4 < length bytes
after_header [] h ne = absurd (omega arith)
after_header (a ∷ []) h ne = absurd (omega arith)
after_header (a ∷ b ∷ []) h ne = absurd (omega arith)
after_header (a ∷ b ∷ c ∷ []) h ne = absurd (omega arith)
after_header (a ∷ b ∷ c ∷ d ∷ []) h ne = absurd (ne refl)
after_header (a ∷ b ∷ c ∷ d ∷ e ∷ bytes) h ne = omega arith

long_enough : (bytes left : List ℕ) (k : Option Kind) → 4 ≤ length bytes → Names (drop 4 bytes) left (Ok k) → IsLongEnough k bytes
long_enough bytes left None four a = four
long_enough bytes left (Some k) four a = after_header bytes four a.0

asks_after : (bytes : List ℕ) (k : Option Kind) → IsLongEnough k bytes → MayAskForMemory k → 4 < length bytes
asks_after bytes None long asks = absurd asks
asks_after bytes (Some k) long asks = long

named : KindsAreRead → (bytes left : List ℕ) (k : Option Kind) → Names bytes left (Ok k) → NamesKind k bytes left
named kinds bytes left None a = a
named kinds bytes left (Some k) a = kinds.found bytes k left a.1

no_name : KindsAreRead → (bytes : List ℕ) → ¬ (bytes ≡ []) → kind_at bytes ≡ None → (k : Option Kind) (left : List ℕ) → NamesKind k bytes left → ⊥
no_name kinds bytes some none None left n = some n.0
no_name kinds bytes some none (Some k) left n =
    let e : kind_at bytes ≡ Some (k, left) = ap kind_at n.2 ∙ kinds.again k n.0 left n.1 in
    absurd cc

opened : KindsAreRead → (bytes left : List ℕ) (n : ℕ) → 4 ≤ length bytes → IsHeader bytes n → (r : Result (Option Kind) Error) → Names (drop 4 bytes) left r → Opens bytes left (headed n r)
opened kinds bytes left n four h (Ok k) a = (
  long_enough bytes left k four a,
  has_header bytes n h,
  λ f rest. (
    λ is. let s = same_header bytes n h f rest is in (s.0, to_kind kinds (drop 4 bytes) left k f.body rest a s.1),
    λ is. framed_by bytes n h f rest is.0 (of_kind kinds (drop 4 bytes) left k f.body rest a is.1),
  ),
  record { channel = h.channel; body = drop 4 bytes; two = h.two; channel_is = h.channel_is; whole = h.whole; names = named kinds (drop 4 bytes) left k a },
)
opened kinds bytes left n four h (Err no.DecodeError) a =
    inr (has_header bytes n h, λ j fields is. no_name kinds (drop 4 bytes) a.0 a.1 j.kind fields (subst (λ (b : List ℕ). NamesKind j.kind b fields) (same_body bytes n h j fields is) is.names))
opened kinds bytes left n four h (Err no.OutOfMemory) a = absurd a
opened kinds bytes left n four h (Err no.NotImplemented) a = absurd a
opened kinds bytes left n four h (Err no.TooLarge) a = absurd a
opened kinds bytes left n four h (Err (no.Io text)) a = absurd a

pub opened_from : KindsAreRead → (bytes header after left : List ℕ) (n : ℕ) → header ≡ bytes → after ≡ drop 4 bytes → 4 ≤ length header → get_or header 0 0 ≡ 2 → get_or header 1 0 ≡ 0
    → n ≡ from_be_bytes w16 (get_or header 2 0 ∷ get_or header 3 0 ∷ []) → (r : Result (Option Kind) Error) → Names after left r → Opens bytes left (headed n r)
opened_from kinds bytes header after left n e d four first second n_is r a =
    opened kinds bytes left n (subst (λ (x : List ℕ). 4 ≤ length x) e four) (subst (λ (x : List ℕ). IsHeader x n) e (header_is header n four first second n_is)) r (subst (λ (x : List ℕ). Names x left r) d a)

-- no descriptor of a kind, for this reason
pub unnamed : (e : ReadError) (bytes left : List ℕ) → ¬ (bytes ≡ []) → e ≡ read.Malformed → Gives {X = Kind} {V = Kind} (λ k. k) (Err e) left (kind_at bytes) → Names bytes left (Err (error_of e))
unnamed read.Malformed bytes left some is none = (some, none)
unnamed read.OutOfMemory bytes left some is none = absurd cc

-- ---- a frame has a head

head_of : (b : FrameBody) (bytes rest : List ℕ) → IsBody b bytes rest → (k : Option Kind) × (left : List ℕ) × NamesKind k bytes left
head_of b bytes rest (inl t) = (None, [], (t.0, refl))
head_of b bytes rest (inr s) =
    let d = parted s.performative s.text b s.after rest s.is s.says in
    (Some d.kind, d.list ++ s.after, (d.descriptor, d.named, s.whole ∙ ap (λ (t : List ℕ). t ++ s.after) d.whole ∙ append_assoc d.descriptor d.list s.after))

no_frame : (bytes : List ℕ) → ((h : FrameHead) (left : List ℕ) → ¬ IsHead h bytes left) → (f : Frame) (rest : List ℕ) → ¬ IsFrame f bytes rest
no_frame bytes none f rest is =
    let n = head_of f.body is.body rest is.says in
    none (record { channel = f.channel; kind = n.0 }) n.1
    (record { channel = is.channel; body = is.body; two = is.two; channel_is = is.channel_is; whole = is.whole; names = n.2 })

-- where no head stands, no frame does
pub not_opened : (bytes : List ℕ) (e : Error) → HasNoHead bytes e → Decodes bytes (Err e)
not_opened bytes no.DecodeError (inl short) = inl short
not_opened bytes no.DecodeError (inr n) = inr (n.0, no_frame bytes n.1)
not_opened bytes no.OutOfMemory n = absurd n
not_opened bytes no.NotImplemented n = n
not_opened bytes no.TooLarge n = absurd n
not_opened bytes (no.Io text) n = absurd n

-- ---- what the reader of a kind's fields answers, as a body

read_found : {V : Type 0} (B : V → List (List ℕ) → Type 0) (at : PartsLeft → Option (V × PartsLeft)) → IsReader (IsComposite B) (composite_at at) → (says : V → List ℕ → FrameBody × List ℕ)
    → (fields left : List ℕ) (v : V) (b : FrameBody) (rest : List ℕ) → composite_at at fields ≡ Some (v, left) → says v left ≡ (b, rest) → IsFields B says b fields rest
read_found B at law says fields left v b rest e s =
    let f = law.found fields v left e in
    record { value = v; text = f.0; after = left; is = f.1; whole = f.2; said = s }

read_nothing : {V : Type 0} (B : V → List (List ℕ) → Type 0) (at : PartsLeft → Option (V × PartsLeft)) → IsReader (IsComposite B) (composite_at at) → (says : V → List ℕ → FrameBody × List ℕ)
    → (fields : List ℕ) → composite_at at fields ≡ None → (b : FrameBody) (rest : List ℕ) → IsFields B says b fields rest → ⊥
read_nothing B at law says fields e b rest f =
    let again : composite_at at fields ≡ Some (f.value, f.after) = ap (composite_at at) f.whole ∙ law.again f.value f.text f.after f.is in
    absurd cc

reader : {V : Type 0} (B : V → List (List ℕ) → Type 0) (at : PartsLeft → Option (V × PartsLeft)) → slot.IsBody B at → IsReader (IsComposite B) (composite_at at)
reader B at law = let l = composite_law B at law in record { found = l.found; again = l.again }

pub fields_found : {V : Type 0} (B : V → List (List ℕ) → Type 0) (at : PartsLeft → Option (V × PartsLeft)) → slot.IsBody B at → (says : V → List ℕ → FrameBody × List ℕ)
    → (fields left : List ℕ) (v : V) (b : FrameBody) (rest : List ℕ) → composite_at at fields ≡ Some (v, left) → says v left ≡ (b, rest) → IsFields B says b fields rest
fields_found B at law = read_found B at (reader B at law)

pub no_fields : {V : Type 0} (B : V → List (List ℕ) → Type 0) (at : PartsLeft → Option (V × PartsLeft)) → slot.IsBody B at → (says : V → List ℕ → FrameBody × List ℕ)
    → (fields : List ℕ) → composite_at at fields ≡ None → (b : FrameBody) (rest : List ℕ) → IsFields B says b fields rest → ⊥
no_fields B at law = read_nothing B at (reader B at law)

-- a frame of which the head was read and the fields were not is none
pub not_decoded : (bytes left : List ℕ) (h : FrameHead) (e : Error) → Opens bytes left (Ok h) → NoBodyOf h.kind left e → Decodes bytes (Err e)
not_decoded bytes left h no.DecodeError o n = inr (o.1, λ f rest is. n f.body rest ((o.2 f rest).0 is).1)
not_decoded bytes left h no.OutOfMemory o n = (asks_after bytes h.kind o.0 n.0, o.1, n.1)
not_decoded bytes left h no.NotImplemented o n = absurd n
not_decoded bytes left h no.TooLarge o n = absurd n
not_decoded bytes left h (no.Io text) o n = absurd n

-- ---- the whole frame

pub body_read : {V : Type 0} (B : V → List (List ℕ) → Type 0) (at : PartsLeft → Option (V × PartsLeft)) → IsReader (IsComposite B) (composite_at at) → (says : V → List ℕ → FrameBody × List ℕ)
    → (k : Kind) → ((b : FrameBody) (fields rest : List ℕ) → IsFields B says b fields rest → IsBodyOf (Some k) b fields rest)
    → ((b : FrameBody) (fields rest : List ℕ) → IsBodyOf (Some k) b fields rest → IsFields B says b fields rest)
    → (fields left : List ℕ) (v : V) → composite_at at fields ≡ Some (v, left) → ReadsBodyOf (Some k) fields (Ok (says v left))
body_read {V} B at law says k to from fields left v a =
    (to (says v left).0 fields (says v left).1 (read_found B at law says fields left v (says v left).0 (says v left).1 a refl), λ b rest is. one b rest (from b fields rest is))
  where
    one : (b : FrameBody) (rest : List ℕ) → IsFields B says b fields rest → ◌≡◌ {A = FrameBody × List ℕ} (b, rest) (says v left)
    one b rest f =
        let again : composite_at at fields ≡ Some (f.value, f.after) = ap (composite_at at) f.whole ∙ law.again f.value f.text f.after f.is in
        let same : ◌≡◌ {A = V × List ℕ} (f.value, f.after) (v, left) = some_is _ _ (sym again ∙ a) in
        sym f.said ∙ ap (λ (x : V × List ℕ). says x.0 x.1) same

pub body_not_read : {V : Type 0} (B : V → List (List ℕ) → Type 0) (at : PartsLeft → Option (V × PartsLeft)) → IsReader (IsComposite B) (composite_at at) → (says : V → List ℕ → FrameBody × List ℕ)
    → (k : Kind) → ((b : FrameBody) (fields rest : List ℕ) → IsBodyOf (Some k) b fields rest → IsFields B says b fields rest)
    → (fields left : List ℕ) (e : ReadError) → Gives {X = V} (λ x. x) (Err e) left (composite_at at fields) → ReadsBodyOf (Some k) fields (Err (error_of e))
body_not_read B at law says k from fields left read.Malformed a = λ b rest f. read_nothing B at law says fields a b rest (from b fields rest f)
body_not_read B at law says k from fields left read.OutOfMemory a = (tt, a)

pub decodes : (bytes left : List ℕ) (h : FrameHead) → Opens bytes left (Ok h) → (r : Result (FrameBody × List ℕ) Error) → ReadsBodyOf h.kind left r → Decodes bytes (framed h.channel r)
decodes bytes left h o (Ok x) b =
    ((o.2 (record { channel = h.channel; body = x.0 }) x.1).1 (refl, b.0), λ f rest is. let k = (o.2 f rest).0 is in same_frame f rest h.channel x k.0 (b.1 f.body rest k.1))
decodes bytes left h o (Err e) b = not_decoded bytes left h e o b

-- the same, where the fields gave the frame
decodes_frame : (bytes left : List ℕ) (h : FrameHead) → Opens bytes left (Ok h) → (r : Result (Frame × List ℕ) Error) → ReadsFrameOf h.channel h.kind left r → Decodes bytes r
decodes_frame bytes left h o (Ok x) b =
    subst (λ (n : ℕ). Decodes bytes (Ok (record { channel = n; body = x.0.body }, x.1))) (sym b.0) (decodes bytes left h o (Ok (x.0.body, x.1)) b.1)
decodes_frame bytes left h o (Err e) b = not_decoded bytes left h e o b

-- the same, as a head tells them
pub decodes_told : (bytes left : List ℕ) (head : Result FrameHead Error) (n : ℕ) (k : Option Kind) → Opens bytes left head → head ≡ as_head (Ok (n, k))
    → (r : Result (Frame × List ℕ) Error) → ReadsFrameOf n k left r → Decodes bytes r
decodes_told bytes left head n k o is r b = decodes_frame bytes left (record { channel = n; kind = k }) (subst (λ (h : Result FrameHead Error). Opens bytes left h) is o) r b

-- a head that was refused
pub refused_told : (bytes left : List ℕ) (head : Result FrameHead Error) (e : Error) → Opens bytes left head → head ≡ as_head (Err e) → Decodes bytes (Err e)
refused_told bytes left head e o is = not_opened bytes e (subst (λ (h : Result FrameHead Error). Opens bytes left h) is o)
