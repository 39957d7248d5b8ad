-- A new client, where its Open was not read.
use Rattle.std.proofs.Common.{◌≡◌, ◌≤◌, ◌<◌, ◌+◌, ◌⊎◌, ◌&&◌, inl, inr, ℕ, List, [], drop, length, get_or, nat_eq, true, Option, None, Some, Result, Ok, Err, arith, ap, sym, ◌∙◌}
use Rattle.std.proofs.lemmas.List.{drop_more}
use Rattle.std.proofs.Math.ListN.{drop_of_length-le}
use Rattle.std.specs.Prelude.{ℤ, pos}
use Rattle.amqp_memory.specs.Refusal.{SomeRefused}
use Rattle.amqp_values.specs.declared.error.ReadError.{ReadError}
use Rattle.amqp_values.specs.declared.error.ReadError.TheVariants.{Malformed, OutOfMemory}
use Rattle.amqp_types.specs.Open.{OpenModel}
use Rattle.amqp_types.specs.Performatives.{IsPerformative}
use Rattle.amqp_types.specs.declared.performatives.Performative.TheVariants as its
use Rattle.amqp_values.specs.Reading.{Answers}
use Rattle.amqp_session.specs.Relay.{Relays}
use Rattle.amqp_session.specs.declared.keys.KeyHash.{KeyHash}
use Rattle.amqp_sasl.specs.declared.opening.Phase.{Phase}
use Rattle.amqp_sasl.specs.declared.opening.Phase.TheVariants as phase
use Rattle.amqp_sasl.specs.declared.opening.Side.{Side}
use Rattle.amqp_sasl.specs.declared.told.OpeningError.{OpeningError}
use Rattle.amqp_sasl.specs.declared.told.OpeningError.TheVariants as no
use Rattle.amqp_sasl.specs.Opening.{OpeningView, Calls, begin_at}
use Rattle.amqp_driver.specs.declared.plain.PlainRelay.{PlainRelay}
use Rattle.amqp_driver.specs.Stream.{Begun}
use Rattle.amqp1.specs.declared.how.How.{How}
use Rattle.amqp1.specs.declared.logins.LoginHead.{LoginHead}
use Rattle.amqp1.specs.ClientView.{ClientView}
use Rattle.amqp1.specs.Logins.{opening_in}
use Rattle.amqp1.specs.Making.{BeginsAs, IsAsked, Makes, is_zero, unread_of}
use Rattle.amqp1.specs.Reading.{ReadsOne}
use Rattle.amqp1.specs.Status.{status_number}

-- there is no Open
pub no_open : (how : How) (open_bytes : List ℕ) (heads : List LoginHead) (bytes : List ℕ) (e : ReadError) (z : ℤ) → z ≡ pos (status_number (unread_of e))
    → ReadsOne (λ p. IsPerformative (its.Open p) open_bytes) (Err e)
    → ((z ≡ pos 2) × SomeRefused) ⊎ ((z ≡ pos 4) × ((o : OpenModel) (v : OpeningView) → ¬ IsAsked how open_bytes heads bytes o v))
no_open how open_bytes heads bytes Malformed z h r = inr (h, λ o v x. r o x.has_open)
no_open how open_bytes heads bytes OutOfMemory z h r = inl (h, r)

no_some : {X : Type 0} (x : X) → None ≡ Some x → ⊥
no_some x e = absurd cc

-- there is no such opening
pub no_opening : {X : Type 0} (w : X → OpeningView) (how : How) (open_bytes : List ℕ) (heads : List LoginHead) (bytes : List ℕ) (e : ReadError) (z : ℤ)
    → z ≡ pos (status_number (unread_of e)) → Answers w (Err e) (opening_in how.side how.host heads bytes)
    → ((z ≡ pos 2) × SomeRefused) ⊎ ((z ≡ pos 4) × ((o : OpenModel) (v : OpeningView) → ¬ IsAsked how open_bytes heads bytes o v))
no_opening w how open_bytes heads bytes Malformed z h r = inr (h, λ o v x. no_some v (sym r ∙ x.has_opening))
no_opening w how open_bytes heads bytes OutOfMemory z h r = inl (h, r)

-- what was asked for has begun
pub made : (g : Relays PlainRelay) (how : How) (open_bytes : List ℕ) (heads : List LoginHead) (bytes : List ℕ) (o : OpenModel) (v : OpeningView)
    (r : Result ClientView ℤ) → IsAsked how open_bytes heads bytes o v → BeginsAs g how v o r → Makes g how open_bytes heads bytes r
made g how open_bytes heads bytes o v (Ok c) a b = record {
  hash = b.0;
  ours = o;
  opening = v;
  asked = a;
  begun = b.1;
  legal = b.2;
  last = b.3;
}
made g how open_bytes heads bytes o v (Err e) a b = inl b

-- a new opening does not begin where memory is refused, and else it does
unbegun : (p : Phase) (side : Side) (v : OpeningView) (e : OpeningError) (out : List ℕ) (left : OpeningView) → p ≡ phase.Fresh
    → Calls (begin_at side p) v [] (Err e) out left → SomeRefused
unbegun phase.Fresh side v no.WrongTime out left h b = absurd b.0
unbegun phase.Fresh side v no.TooLarge out left h b = absurd (let k : 512 < 0 = b.0.1 in omega arith)
unbegun phase.Fresh side v no.OutOfMemory out left h b = b.0.1
unbegun p side v e out left h b = absurd cc

pub not_begun : (v : OpeningView) (now : ℕ) (limit : Option ℕ) (hash : KeyHash) (o : OpenModel) (e : OpeningError) → v.phase ≡ phase.Fresh
    → Begun {R = PlainRelay} v now limit hash o (Err e) → SomeRefused
not_begun v now limit hash o e h b = unbegun v.phase v.side v e b.0 b.1 h b.2

-- bytes that are all 0, from a place on
pub zero_first : (bs : List ℕ) (i x : ℕ) → i < length bs → x ≡ get_or bs i x → is_zero (drop i bs) ≡ (nat_eq x 0 && is_zero (drop (i + 1) bs))
zero_first bs i x h e = ap is_zero (drop_more bs i x h) ∙ ap (λ y. nat_eq y 0 && is_zero (drop (i + 1) bs)) (sym e)

pub zero_last : (bs : List ℕ) (i : ℕ) → length bs ≤ i → is_zero (drop i bs) ≡ true
zero_last bs i h = ap is_zero (drop_of_length-le bs h)
