-- A round is made of a stream's calls.
use Rattle.std.proofs.Common.{◌≡◌, ◌≤◌, ◌<◌, ◌^◌, ◌⊎◌, inl, inr, ℕ, List, [], ◌∷◌, Bool, true, false, Result, Ok, Err, length, refl, ap, arith}
use Rattle.std.specs.declared.io.Error.{Error}
use Rattle.amqp_session.specs.Relay.{Relays}
use Rattle.amqp_driver.specs.declared.status.Taken.{Taken}
use Rattle.amqp_driver.specs.Driver.{seen}
use Rattle.amqp_driver.specs.Stream.{StreamView, waiting}
use Rattle.amqp_driver.specs.StreamLife.{Call, takes, goes}
use Rattle.amqp_driver.specs.Laws.{IsMadeOfCalls}
use Rattle.amqp_transport.specs.declared.received.Came.{Came}
use Rattle.amqp_transport.specs.declared.received.Came.TheVariants as came
use Rattle.amqp_transport.specs.declared.exchanging.Round.{Round}
use Rattle.amqp_transport.specs.Exchange.{Exchanging, Exchanges, GoesOn, Looks, SendsSome, TakesAgain, having_sent_all, wants_more, RoundsByCalls, WritingByCalls}

-- what the stream took after a read, or nothing
again_by_calls : {R : Type 0} (g : Relays R) (now : ℕ) (c : Came) (m y : Exchanging R) (first t : Taken) → now < 2 ^ 64 → TakesAgain g now c m first t y
    → IsMadeOfCalls g m.stream y.stream
again_by_calls g now (came.Bytes n) m y first t h x =
    (takes now (seen y.received.bytes) m.records t.status t.taken t.written t.wanted y.records ∷ [], (y.stream, (h, x), refl))
again_by_calls g now came.End m y first t h x = ([], x.1)
again_by_calls g now came.Full m y first t h x = ([], x.1)

on_by_calls : {R : Type 0} (more : Bool) (g : Relays R) (now : ℕ) (m y : Exchanging R) (first : Taken) (round : Round) → now < 2 ^ 64
    → GoesOn more g now m first round y → IsMadeOfCalls g m.stream y.stream
on_by_calls false g now m y first round h x = ([], ap (λ (e : Exchanging _). e.stream) x.1)
on_by_calls true g now m y first round h x = again_by_calls g now x.0 m y first round.taken h x.4

-- what waited went out, and then the stream took of what was there
looks_by_calls : {R : Type 0} (g : Relays R) (now : ℕ) (x m : Exchanging R) (w : StreamView R) (first : Taken) → now < 2 ^ 64 → Looks g now x first m
    → IsMadeOfCalls g m.stream w → IsMadeOfCalls g x.stream w
looks_by_calls g now x m w first h l rest =
    let all : length (waiting x.stream) ≤ length (waiting x.stream) = omega arith in (
      goes (length (waiting x.stream)) ∷ takes now (seen x.received.bytes) x.records first.status first.taken first.written first.wanted m.records ∷ rest.0,
      (having_sent_all x.stream, (all, refl), (m.stream, (h, l.takes), rest.1)),
    )

pub writing_by_calls : {R : Type 0} (g : Relays R) → WritingByCalls g
writing_by_calls g = λ v w s. (goes s.0 ∷ [], (w, (s.1, s.2), refl))

rounds_by_calls : {R : Type 0} (g : Relays R) (now : ℕ) (x y : Exchanging R) (result : Result Round Error) → now < 2 ^ 64 → Exchanges g now x result y
    → IsMadeOfCalls g x.stream y.stream
rounds_by_calls g now x y (Ok round) h e =
    looks_by_calls g now x e.0 y.stream e.1 h e.2 (on_by_calls (wants_more e.1) g now e.0 y e.1 round h e.3)
rounds_by_calls g now x y (Err e) h (inl f) = writing_by_calls g x.stream y.stream f.some
rounds_by_calls g now x y (Err e) h (inr f) =
    looks_by_calls g now x f.0 y.stream f.1 h f.2 ([], ap (λ (k : Exchanging _). k.stream) f.4.3)

pub all_rounds_by_calls : {R : Type 0} (g : Relays R) → RoundsByCalls g
all_rounds_by_calls g = rounds_by_calls g
