-- What a session's links are after the calls that ask relays.
use Rattle.std.proofs.Common.{◌≡◌, ℕ, Option, Some, None, Result, Ok, Err, cond, refl, ap, ◌∙◌}
use Rattle.std.specs.FinMap as map
use Rattle.amqp_memory.specs.Refusal.{SomeRefused}
use Rattle.amqp_types.specs.Attach.{AttachModel}
use Rattle.amqp_session.specs.declared.keys.KeyHash.{KeyHash}
use Rattle.amqp_session.specs.declared.link.LiveLink.{LiveLink}
use Rattle.amqp_session.specs.declared.link.AttachedLink.{AttachedLink}
use Rattle.amqp_session.specs.declared.numbers.InputHandle.{InputHandle}
use Rattle.amqp_session.specs.declared.error.LinkRelayError.{LinkRelayError}
use Rattle.amqp_session.specs.declared.error.SessionInnerError.{SessionInnerError}
use Rattle.amqp_session.specs.declared.error.SessionInnerError.TheVariants as Refused
use Rattle.amqp_session.specs.Errors.{inner_of_relay}
use Rattle.amqp_session.specs.Links.{LinksView, Names, Inputs}
use Rattle.amqp_session.specs.Relay.{AttachGives, AttachQuestion}
use Rattle.amqp_session.specs.Linking.{IsWaited, AttachRefused, AttachLeaves, AttachAsked, Attaches, attached_under, awaits, dropped}
use Rattle.amqp_session.specs.Room.{AttachLacks, NotLacking}
use Rattle.amqp_session.proofs.FiniteMapLemmas.{remove_none}

pub waited_full : {R : Type 0} → (old : Option (AttachedLink R)) (o : Option (LiveLink R)) → IsWaited o → old ≡ None → SomeRefused → AttachRefused old o Refused.OutOfMemory
waited_full old (Some n) h free r = (h, free, r)
waited_full old None h free r = absurd h

-- where memory does not lack, no relay need say so
pub not_lacking : {R : Type 0} → (gives : AttachGives R) (a : AttachModel) (e : SessionInnerError) → NotLacking e → AttachLacks gives a (Err e)
not_lacking gives a Refused.UnattachedHandle n = tt
not_lacking gives a Refused.RemoteAttachingLinkNameNotFound n = tt
not_lacking gives a Refused.HandleInUse n = tt
not_lacking gives a Refused.IllegalState n = tt
not_lacking gives a (Refused.ConnectionStopped x) n = tt
not_lacking gives a Refused.TransferFrameToSender n = tt
not_lacking gives a Refused.RemoteEnded n = tt
not_lacking gives a (Refused.RemoteEndedWithError x) n = tt
not_lacking gives a Refused.UnknownTxnId n = tt
not_lacking gives a Refused.OutOfMemory n = absurd n

pub inputs_same : {R : Type 0} → (l : LinksView R) (i : Inputs R) → i ≡ l.inputs → record l { inputs = i } ≡ l
inputs_same l i e = ap (λ x. record l { inputs = x }) e

module _ {R : Type 0} (gives : AttachGives R) (l : LinksView R) (a : AttachModel) (hash : KeyHash) (same_hash : hash ≡ l.hash) (names : Names R) where
  -- the relay refuses
  pub attaches_err : (i : Inputs R) (h : InputHandle) (e : LinkRelayError) (x : SessionInnerError) → AttachAsked gives l.names a h (Err e) names → x ≡ inner_of_relay e → i ≡ l.inputs →
      (asked : Option (AttachQuestion R)) × Attaches gives l a asked (Err x) (record l { hash = hash; names = names; inputs = i })
  attaches_err i h e x r is same = by r.asked.answer r.asked.stands r.asked.leaves
    where
      by : (answer : Result (Unit {0}) LinkRelayError) → gives r.asked.before a answer r.asked.after → AttachLeaves r.old h r.asked.after answer (Err e) r.left →
          (asked : Option (AttachQuestion R)) × Attaches gives l a asked (Err x) (record l { hash = hash; names = names; inputs = i })
      by (Ok u) stands leaves = absurd leaves
      by (Err y) stands leaves = (
        Some (record { handle = r.old.handle; before = r.asked.before; asked = a; answer = Err y; after = r.asked.after }),
        (
          refl,
          record { link = r.old; is = r.live; on = refl; waits = r.asked.waits },
          stands,
          (is ∙ ap inner_of_relay leaves.0, ap (λ k. record l { hash = k; names = names; inputs = i }) same_hash ∙ ap (λ j. record l { names = names; inputs = j }) same ∙ ap (λ n. record l { names = n }) (r.put ∙ ap (λ n. map.insert l.names a.name n) leaves.1)),
        ),
      )

  -- the relay accepts, and is put under the input handle
  pub attaches_ok : (i j : Inputs R) (h : InputHandle) (link : AttachedLink R) → AttachAsked gives l.names a h (Ok link) names → h.0 ≡ a.handle → j ≡ l.inputs → i ≡ map.insert j h.0 link →
      (asked : Option (AttachQuestion R)) × Attaches gives l a asked (Ok tt) (record l { hash = hash; names = names; inputs = i })
  attaches_ok i j h link r is same put = by r.asked.answer r.asked.stands r.asked.leaves
    where
      by : (answer : Result (Unit {0}) LinkRelayError) → gives r.asked.before a answer r.asked.after → AttachLeaves r.old h r.asked.after answer (Ok link) r.left →
          (asked : Option (AttachQuestion R)) × Attaches gives l a asked (Ok tt) (record l { hash = hash; names = names; inputs = i })
      by (Err y) stands leaves = absurd leaves
      by (Ok u) stands leaves = (
        Some (record { handle = r.old.handle; before = r.asked.before; asked = a; answer = Ok u; after = r.asked.after }),
        (
          refl,
          record { link = r.old; is = r.live; on = refl; waits = r.asked.waits },
          stands,
          ap (λ k. record l { hash = k; names = names; inputs = i }) same_hash ∙ ap (λ x. record l { names = names; inputs = x }) (put ∙ ap (λ x. map.insert x h.0 link) same ∙ ap (λ n. map.insert l.inputs n link) is ∙ ap (λ y. map.insert l.inputs a.handle y) leaves.0)
              ∙ ap (λ n. record l { names = n; inputs = map.insert l.inputs a.handle (record { handle = r.old.handle; relay = r.asked.after }) }) (r.put ∙ ap (λ n. map.insert l.names a.name n) (leaves.1 ∙ ap (λ (n : ℕ). attached_under (record { 0 = n }) r.old) is)),
        ),
      )

-- nothing was under the handle
pub none_dropped : {R : Type 0} → (l : LinksView R) (k : ℕ) (i : Inputs R) → map.get l.inputs k ≡ None → i ≡ map.remove l.inputs k → record l { inputs = i } ≡ l
none_dropped l k i none gone = inputs_same l i (gone ∙ remove_none l.inputs k none)

-- the relay under the handle is gone
pub one_dropped : {R : Type 0} → (l : LinksView R) (k n h : ℕ) (i : Inputs R) → k ≡ n → i ≡ map.remove l.inputs k →
    record l { handles = cond (awaits h l) (map.remove l.handles h) l.handles; inputs = i; next = cond (awaits h l) h l.next } ≡ dropped n h l
one_dropped l k n h i is gone = ap (λ x. record l { handles = cond (awaits h l) (map.remove l.handles h) l.handles; inputs = x; next = cond (awaits h l) h l.next }) (gone ∙ ap (λ m. map.remove l.inputs m) is)
