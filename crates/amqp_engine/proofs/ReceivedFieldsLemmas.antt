-- The fields of a kind are read, and their frame is received; or they are not there.
use Rattle.std.proofs.Common.{◌≡◌, ◌∙◌, ℕ, List, [], Option, Some, None, IsSome, Result, Ok, Err, refl, ap, sym, subst, inl, inr}
use Rattle.std.specs.Prelude.{IsErrAnd}
use Rattle.amqp_memory.specs.Refusal.{SomeRefused}
use Rattle.amqp_values.specs.declared.error.ReadError.{ReadError}
use Rattle.amqp_values.specs.declared.error.ReadError.TheVariants as read
use Rattle.amqp_values.specs.Reading.{Gives}
use Rattle.amqp_values.specs.Composite.{composite_at}
use Rattle.amqp_types.specs.declared.performatives.kind.Kind.{Kind}
use Rattle.amqp_types.specs.declared.performatives.kind.Kind.TheVariants as kind
use Rattle.amqp_session.specs.Relay.{Relays}
use Rattle.amqp_frames.specs.declared.decoder.FrameHead.{FrameHead}
use Rattle.amqp_frames.specs.declared.frame.FrameBody.{FrameBody}
use Rattle.amqp_frames.specs.FrameError.{error_of}
use Rattle.amqp_frames.specs.Head.{Opens, IsBodyOf}
use Rattle.amqp_frames.proofs.DecodedFrameLemmas.{failed}
use Rattle.amqp_frames.proofs.FrameHeadLemmas.{fields_found, no_fields, not_decoded}
use Rattle.amqp_engine.specs.declared.engine.step_error.StepError.{StepError}
use Rattle.amqp_engine.specs.declared.engine.step_error.StepError.TheVariants as no
use Rattle.amqp_connection.specs.Connection.{refusal_of}
use Rattle.amqp_engine.specs.EngineView.{EngineView}
use Rattle.amqp_engine.specs.Engine.{ReceivedOf, FieldsStep, FieldsKept, ReceivedStep, NoneReceivedOf, NoneReceived, named_error, kept}
use Rattle.amqp_engine.specs.Kept.{Outcomes, outcomes_with}
use Rattle.amqp_engine.specs.Inner.Taken.{BodyStep, BodyKept}
use Rattle.amqp_engine.proofs.KindFieldsLemmas.{Reads}

unread_of : {R X : Type 0} (g : Relays R) (k : Kind) {V : Type 0} (r : Reads k V) (v : EngineView R) (c : ℕ) (fields left : List ℕ) (e : ReadError)
    (result : Result X StepError) → Gives {X = V} (λ x. x) (Err e) left (composite_at r.reader fields) → IsErrAnd result (λ x. x ≡ no.Frame (error_of e)) →
    ReceivedOf g v c (Some k) fields None None [] (refusal_of result) v
unread_of g k r v c fields left read.Malformed result a f =
    inl (
      subst (λ x. NoneReceivedOf (Some k) fields x) (sym (ap refusal_of (failed result _ f))) (λ b rest x. no_fields r.IsText r.reader r.law r.says fields a b rest (r.is_fields b fields rest x)),
      refl,
      ((refl, refl), refl),
    )
unread_of g k r v c fields left read.OutOfMemory result a f =
    inl (subst (λ x. NoneReceivedOf (Some k) fields x) (sym (ap refusal_of (failed result _ f))) (tt, a), refl, ((refl, refl), refl))

pub unread : {R X : Type 0} (g : Relays R) {k : Kind} {V : Type 0} (r : Reads k V) (v : EngineView R) (c : ℕ) (fields left : List ℕ) (e : ReadError)
    (result : Result X StepError) → Gives {X = V} (λ x. x) (Err e) left (composite_at r.reader fields) → IsErrAnd result (λ x. x ≡ no.Frame (error_of e)) →
    FieldsStep g v c (Some k) fields (refusal_of result) v
unread g r v c fields left e result a f = (None, None, [], unread_of g _ r v c fields left e result a f)

pub unread_kept : {R X : Type 0} (g : Relays R) {k : Kind} {V : Type 0} (r : Reads k V) (v : EngineView R) (c : ℕ) (fields left : List ℕ) (e : ReadError)
    (result : Result X StepError) → Gives {X = V} (λ x. x) (Err e) left (composite_at r.reader fields) → IsErrAnd result (λ x. x ≡ no.Frame (error_of e)) →
    FieldsKept g v c (Some k) fields (refusal_of result) v
unread_kept g r v c fields left e result a f = (None, None, [], v, unread_of g _ r v c fields left e result a f, refl)

pub was_read : {R : Type 0} (g : Relays R) {k : Kind} {V : Type 0} (r : Reads k V) (v w : EngineView R) (c : ℕ) (fields left : List ℕ) (p : V)
    (refusal : Option StepError) → composite_at r.reader fields ≡ Some (p, left) → BodyStep g v c (r.says p left).0 refusal w →
    FieldsStep g v c (Some k) fields refusal w
was_read g r v w c fields left p refusal a h =
    let b = (r.says p left).0 in
    let rest = (r.says p left).1 in
    let is = r.is_body b fields rest (fields_found r.IsText r.reader r.law r.says fields left p b rest a refl) in
    (Some (record { channel = c; body = b }), h.0, h.1, inr (b, rest, is, refl, h.2))

-- ---- with what is kept of it

-- these kinds leave no outcome
abbrev IsUnkept : Kind → Type 0
IsUnkept kind.End = ⊥
IsUnkept kind.Close = ⊥
IsUnkept k = Unit {0}

unkept : (k : Kind) → IsUnkept k → (b : FrameBody) (fields rest : List ℕ) → IsBodyOf (Some k) b fields rest → (reached : Option ℕ) (r : Option StepError) (o : Outcomes) → outcomes_with b reached r o ≡ o
unkept kind.Open u b fields rest is reached r o = subst (λ (p : FrameBody × List ℕ). outcomes_with p.0 reached r o ≡ o) is.said refl
unkept kind.Begin u b fields rest is reached r o = subst (λ (p : FrameBody × List ℕ). outcomes_with p.0 reached r o ≡ o) is.said refl
unkept kind.Attach u b fields rest is reached r o = subst (λ (p : FrameBody × List ℕ). outcomes_with p.0 reached r o ≡ o) is.said refl
unkept kind.Flow u b fields rest is reached r o = subst (λ (p : FrameBody × List ℕ). outcomes_with p.0 reached r o ≡ o) is.said refl
unkept kind.Transfer u b fields rest is reached r o = subst (λ (p : FrameBody × List ℕ). outcomes_with p.0 reached r o ≡ o) is.said refl
unkept kind.Disposition u b fields rest is reached r o = subst (λ (p : FrameBody × List ℕ). outcomes_with p.0 reached r o ≡ o) is.said refl
unkept kind.Detach u b fields rest is reached r o = subst (λ (p : FrameBody × List ℕ). outcomes_with p.0 reached r o ≡ o) is.said refl
unkept kind.End u b fields rest is reached r o = absurd u
unkept kind.Close u b fields rest is reached r o = absurd u

pub fields_kept : {R : Type 0} (g : Relays R) (k : Kind) → IsUnkept k → (v w : EngineView R) (c : ℕ) (fields : List ℕ) (refusal : Option StepError) →
    FieldsStep g v c (Some k) fields refusal w → FieldsKept g v c (Some k) fields refusal w
fields_kept g k u v w c fields refusal s = (s.0, s.1, s.2, w, s.3, same s.3)
  where
    same : ReceivedOf g v c (Some k) fields s.0 s.1 s.2 refusal w → w ≡ kept s.0 s.1 refusal w
    same (inl x) = ap (λ f. kept f s.1 refusal w) (sym x.1)
    same (inr x) =
        ap (λ (o : Outcomes). record w { outcomes = o }) (sym (unkept k u x.0 fields x.1 x.2 s.1 refusal w.outcomes)) ∙ ap (λ f. kept f s.1 refusal w) (sym x.3)

-- it was read, received, and its outcome kept
pub was_kept : {R : Type 0} (g : Relays R) {k : Kind} {V : Type 0} (r : Reads k V) (v w : EngineView R) (c : ℕ) (fields left : List ℕ) (p : V)
    (refusal : Option StepError) → composite_at r.reader fields ≡ Some (p, left) → BodyKept g v c (r.says p left).0 refusal w → FieldsKept g v c (Some k) fields refusal w
was_kept g r v w c fields left p refusal a h =
    let b = (r.says p left).0 in
    let rest = (r.says p left).1 in
    let is = r.is_body b fields rest (fields_found r.IsText r.reader r.law r.says fields left p b rest a refl) in
    (Some (record { channel = c; body = b }), h.0, h.1, h.2, inr (b, rest, is, refl, h.3), h.4)

-- it was read, and memory for the copy of its error was refused
pub not_copied : {R : Type 0} (g : Relays R) {k : Kind} {V : Type 0} (r : Reads k V) (v : EngineView R) (c : ℕ) (fields left : List ℕ) (p : V) →
    composite_at r.reader fields ≡ Some (p, left) → IsSome (named_error (r.says p left).0) → SomeRefused → FieldsKept g v c (Some k) fields (Some no.OutOfMemory) v
not_copied g r v c fields left p a named short =
    let b = (r.says p left).0 in
    let rest = (r.says p left).1 in
    let is = r.is_body b fields rest (fields_found r.IsText r.reader r.law r.says fields left p b rest a refl) in
    (None, None, [], v, inl ((b, rest, is, named, short), refl, ((refl, refl), refl)), refl)

-- ---- after a head

none_received : (bytes left : List ℕ) (h : FrameHead) (refusal : Option StepError) → Opens bytes left (Ok h) → NoneReceivedOf h.kind left refusal → NoneReceived bytes refusal
none_received bytes left h (Some (no.Frame e)) o n = not_decoded bytes left h e o n
none_received bytes left h (Some no.OutOfMemory) o n =
    (record { channel = h.channel; body = n.0 }, n.1, (o.2 (record { channel = h.channel; body = n.0 }) n.1).1 (refl, n.2), n.3, n.4)
none_received bytes left h r o n = absurd n

pub received : {R : Type 0} (g : Relays R) (v w : EngineView R) (bytes left : List ℕ) (h : FrameHead) (refusal : Option StepError)
    → Opens bytes left (Ok h) → FieldsKept g v h.channel h.kind left refusal w → ReceivedStep g v bytes refusal w
received g v w bytes left h refusal o r =
    elim r.4 [
      | inl n ↦ (r.0, r.1, r.2, r.3, inl (none_received bytes left h refusal o n.0, n.1, n.2), r.5)
      | inr n ↦ (r.0, r.1, r.2, r.3, inr (record { channel = h.channel; body = n.0 }, n.1, (o.2 (record { channel = h.channel; body = n.0 }) n.1).1 (refl, n.2), n.3, n.4), r.5)
    ]

pub at_kind : {R : Type 0} (g : Relays R) (v w : EngineView R) (c : ℕ) (k kind : Option Kind) (fields : List ℕ) (refusal : Option StepError)
    → k ≡ kind → FieldsKept g v c kind fields refusal w → FieldsKept g v c k fields refusal w
at_kind g v w c k kind fields refusal is h = subst (λ (x : Option Kind). FieldsKept g v c x fields refusal w) (sym is) h

-- the fields of the kind that the head holds
pub of_kind : {R : Type 0} (g : Relays R) (v w : EngineView R) (bytes left : List ℕ) (h : FrameHead) (held kind : Kind) (refusal : Option StepError)
    → Opens bytes left (Ok h) → h.kind ≡ Some held → held ≡ kind → FieldsKept g v h.channel (Some kind) left refusal w → ReceivedStep g v bytes refusal w
of_kind g v w bytes left h held kind refusal o is what step =
    received g v w bytes left h refusal o
    (at_kind g v w h.channel h.kind (Some held) left refusal is
    (at_kind g v w h.channel (Some held) (Some kind) left refusal (ap (λ (x : Kind). Some x) what) step))
