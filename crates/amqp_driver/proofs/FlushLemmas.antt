-- A run of no input: only what waited is sent.
use Rattle.std.proofs.Common.{◌≡◌, ℕ, List, [], ◌∷◌, ◌++◌, sym, subst}
use Rattle.amqp_session.specs.Relay.{Relays}
use Rattle.amqp_engine.specs.declared.engine.input.Input.{Input}
use Rattle.amqp_engine.specs.declared.engine.refusal.Refusal.{Refusal}
use Rattle.amqp_engine.specs.EngineView.{EngineView}
use Rattle.amqp_engine.specs.Promise.{inputs_of}
use Rattle.amqp_engine.specs.RunInto.{RanInto}
use Rattle.amqp_driver.specs.Driver.{SendsOnly, counted}

none_left : {X : Type 0} (xs ys : List X) → [] ≡ xs ++ ys → ys ≡ []
none_left [] ys e = sym e
none_left (x ∷ xs) ys e = absurd cc

pub flushes : {R : Type 0} (g : Relays R) (v v' : EngineView R) (inputs inputs' : List (Input R)) (out out' : List ℕ) (before returned : List Refusal) (x x' : ℕ)
    → inputs ≡ [] → before ≡ [] → RanInto g v inputs out before v' inputs' out' returned → x' ≡ counted x returned
    → SendsOnly g (record { engine = v; to_send = out; unfit = x }) (record { engine = v'; to_send = out'; unfit = x' })
flushes g v v' inputs inputs' out out' before returned x x' e b ran u =
    let r : RanInto g v [] out [] v' inputs' out' returned = subst (λ (is : List (Input _)). RanInto g v is out [] v' inputs' out' returned) e
    (subst (λ (bs : List Refusal). RanInto g v inputs out bs v' inputs' out' returned) b ran) in (
      returned,
      subst (λ (is : List (Input _)). RanInto g v [] out [] v' is out' returned) (none_left (inputs_of r.1.entries) inputs' r.1.promise.taken) r,
      u,
    )
