-- What becomes of one request.
use Rattle.std.proofs.Common.{◌≡◌, ◌∷◌, ℕ, List, [], Option, Some, None, Result, Ok, Err, OnOk, OnErr, Bool, true, false, is_some, ap, refl, sym, subst, ◌∙◌}
use Rattle.std.specs.Int.{w32}
use Rattle.amqp_memory.specs.Refusal.{SomeRefused}
use Rattle.amqp_values.specs.Reading.{number_at, byte_at}
use Rattle.amqp_session.specs.Relay.{Relays}
use Rattle.amqp_frames.specs.declared.frame.Frame.{Frame}
use Rattle.amqp_engine.specs.declared.engine.input.Input.{Input}
use Rattle.amqp_engine.specs.declared.engine.input.Input.TheVariants as input
use Rattle.amqp_driver.specs.declared.asked.Asked.{Asked}
use Rattle.amqp_driver.specs.declared.asked.Asked.TheVariants as asked
use Rattle.amqp_driver.specs.Requests.{Requests}
use Rattle.amqp_driver.specs.declared.plain.PlainRelay.{PlainRelay}
use Rattle.amqp_driver.specs.Settling.{disposition_of, state_of}
use Rattle.amqp_driver.specs.Stream.{StreamView, is_over}
use Rattle.amqp_driver.specs.StreamTicking.{AsksStream, AsksUnless, DisposesStream, DisposesUnless}
use Rattle.amqp1.specs.declared.disposing.DisposeAsked.{DisposeAsked}
use Rattle.amqp1.specs.declared.status.Status.{Status}
use Rattle.amqp1.specs.Asked.{RunsOne}
use Rattle.amqp1.specs.Asking.{HasByte, HasNumber}
use Rattle.amqp1.specs.ClientView.{ClientView}
use Rattle.amqp1.specs.Disposing.{AsksDispose, HasDispose}
use Rattle.amqp1.specs.Refused.{last_by}
use Rattle.amqp1.specs.Client.{OutputStatus}
use Rattle.amqp1.specs.Status.{flushed_status, status_of}
use Rattle.amqp1.proofs.AskingLemmas.{same_rest}

-- a stream ran the input, and the answer was kept
pub runs_one : (g : Relays PlainRelay) (c : ClientView) (i : Input PlainRelay) (a : Asked) (v : StreamView PlainRelay) (s : Status) (c' : ClientView)
    → AsksStream g c.stream i a v → s ≡ status_of a → c' ≡ record { stream = v; last = last_by c.last v.driver.engine.connection.state a } → RunsOne g c i s c'
runs_one g c i a v s c' r h e = (
  a,
  subst (λ (x : StreamView PlainRelay). AsksStream g c.stream i a x) (sym (ap (λ x. x.stream) e)) r,
  h,
  ap (λ x. x.last) e ∙ ap (λ x. last_by c.last x.stream.driver.engine.connection.state a) (sym e),
)

none_some : {X : Type 0} (x : X) → None ≡ Some x → ⊥
none_some x e = absurd cc

same_asked : (a b : Asked) → Some a ≡ Some b → a ≡ b
same_asked a b p = cc

-- a disposition of a state is the request of one
asks_for : (over : Bool) (g : Relays PlainRelay) (v : StreamView PlainRelay) (x : DisposeAsked) (state : Option (List ℕ)) (a : Asked) (w : StreamView PlainRelay)
    → DisposesUnless over g v x.session x.role x.first x.last x.settled (Some state) (Some a) w
    → AsksUnless over g v (input.Disposition (record { 0 = x.session }) (disposition_of x.role x.first x.last x.settled state)) a w
asks_for true g v x state a w d = (same_asked a asked.Over d.0, d.1)
asks_for false g v x state a w d = (
  subst (λ (b : Asked). Requests g v.driver (input.Disposition (record { 0 = x.session }) (disposition_of x.role x.first x.last x.settled state)) b w.driver)
      (sym (same_asked a d.0.0 d.0.1)) d.0.2,
  d.1,
)

-- the disposition that the bytes ask for was run
pub disposed : (g : Relays PlainRelay) (c : ClientView) (bytes : List ℕ) (x : DisposeAsked) (st : Option (Option (List ℕ))) (r : Option Asked) (a : Asked)
    (v : StreamView PlainRelay) (s : Status) (c' : ClientView) → HasDispose bytes x → state_of x.outcome ≡ st → is_some st ≡ true
    → DisposesStream g c.stream x.session x.role x.first x.last x.settled st r v → r ≡ Some a → s ≡ status_of a
    → c' ≡ record { stream = v; last = last_by c.last v.driver.engine.connection.state a } → (i : Input PlainRelay) × AsksDispose bytes i × RunsOne g c i s c'
disposed g c bytes x None r a v s c' h o known d is t e = absurd cc
disposed g c bytes x (Some state) r a v s c' h o known d is t e =
    let i : Input PlainRelay = input.Disposition (record { 0 = x.session }) (disposition_of x.role x.first x.last x.settled state) in
    let asks : AsksStream g c.stream i a v = asks_for (is_over c.stream) g c.stream x state a v
    (subst (λ (q : Option Asked). DisposesStream g c.stream x.session x.role x.first x.last x.settled (Some state) q v) is d) in (
      i,
      (x, state, h, o, refl),
      runs_one g c i a v s c' asks t e,
    )

-- bytes that ask for a disposition ask for one outcome
one_outcome : (bytes : List ℕ) (x y : DisposeAsked) → HasDispose bytes x → HasDispose bytes y → y.outcome ≡ x.outcome
one_outcome bytes x y h k =
    let e1 : k.after ≡ h.after = same_rest (number_at w32 bytes) x.session y.session h.after k.after h.has_session k.has_session in
    let k1 : HasByte h.after k.role_byte k.numbers = subst (λ t. HasByte t k.role_byte k.numbers) e1 k.has_role in
    let e2 : k.numbers ≡ h.numbers = same_rest (byte_at h.after) h.role_byte k.role_byte h.numbers k.numbers h.has_role k1 in
    let k2 : HasNumber h.numbers y.first k.second = subst (λ t. HasNumber t y.first k.second) e2 k.has_first in
    let e3 : k.second ≡ h.second = same_rest (number_at w32 h.numbers) x.first y.first h.second k.second h.has_first k2 in
    let k3 : HasNumber h.second y.last k.flags = subst (λ t. HasNumber t y.last k.flags) e3 k.has_last in
    let e4 : k.flags ≡ h.flags = same_rest (number_at w32 h.second) x.last y.last h.flags k.flags h.has_last k3 in
    let k4 : HasByte h.flags k.settled_byte (y.outcome ∷ []) = subst (λ t. HasByte t k.settled_byte (y.outcome ∷ [])) e4 k.has_settled in
    let e5 : y.outcome ∷ [] ≡ x.outcome ∷ [] = same_rest (byte_at h.flags) h.settled_byte k.settled_byte (x.outcome ∷ []) (y.outcome ∷ []) h.has_settled k4 in cc

-- no state has the number
pub not_disposed : (bytes : List ℕ) (x : DisposeAsked) → HasDispose bytes x → is_some (state_of x.outcome) ≡ false → (i : Input PlainRelay) → ¬ AsksDispose bytes i
not_disposed bytes x h none i a =
    let e : is_some (Some a.1) ≡ false = ap is_some (sym a.3 ∙ ap state_of (one_outcome bytes x a.0 h a.2)) ∙ none in absurd cc

-- an answer is there, where the state is
pub answered : (over : Bool) (g : Relays PlainRelay) (v w : StreamView PlainRelay) (x : DisposeAsked) (st : Option (Option (List ℕ))) (r : Option Asked)
    → is_some st ≡ true → DisposesUnless over g v x.session x.role x.first x.last x.settled st r w → r ≡ None → ⊥
answered true g v w x st r known d is = none_some asked.Over (sym is ∙ d.0)
answered false g v w x None r known d is = absurd cc
answered false g v w x (Some state) r known d is = none_some d.0.0 (sym is ∙ d.0.1)

-- what waits in the engine was put out, or some waits still
pub output_ends : {X E : Type 0} (r : Result X E) (waiting : List Frame) → OnOk r (waiting ≡ []) → OnErr r SomeRefused → OnErr r (¬ (waiting ≡ []))
    → OutputStatus (flushed_status r) waiting
output_ends (Ok x) waiting a b n = a
output_ends (Err e) waiting a b n = (b, n)
