-- What becomes of an answer: the status and the last refusal are by what the stream says of it.
use Rattle.std.proofs.Common.{◌≡◌, ℕ, List, None, Result, Ok, Err, ap, subst, sym, ◌∙◌}
use Rattle.amqp_values.specs.declared.error.ReadError.{ReadError}
use Rattle.amqp_values.specs.declared.error.ReadError.TheVariants.{Malformed, OutOfMemory}
use Rattle.amqp_types.specs.Begin.{BeginModel}
use Rattle.amqp_types.specs.Performatives.{IsPerformative}
use Rattle.amqp_types.specs.declared.performatives.Performative.TheVariants as its
use Rattle.amqp_types.specs.declared.states.ConnectionState.{ConnectionState}
use Rattle.amqp_session.specs.Settings.{SettingsModel}
use Rattle.amqp_driver.specs.declared.plain.PlainRelay.{PlainRelay}
use Rattle.amqp_driver.specs.Stream.{StreamView}
use Rattle.amqp1.specs.declared.status.Status.{Status}
use Rattle.amqp1.specs.Answering.{IfNone, NamesSettings}
use Rattle.amqp1.specs.ClientView.{ClientView}
use Rattle.amqp1.specs.Reading.{Reads, ReadsOne}
use Rattle.amqp1.specs.Refused.{RefusedModel}

-- the stream gave an answer, and what became of it was kept
pub kept_answer : {A : Type 0} (Gives : A → StreamView PlainRelay → Type 0) (status_by : A → Status) (last_by : ConnectionState → A → RefusedModel) (a : A)
    (v : StreamView PlainRelay) (s : Status) (c : ClientView) → Gives a v → s ≡ status_by a
    → c ≡ record { stream = v; last = last_by v.driver.engine.connection.state a }
    → (b : A) × Gives b c.stream × (s ≡ status_by b) × (c.last ≡ last_by c.stream.driver.engine.connection.state b)
kept_answer Gives status_by last_by a v s c given h e = (
  a,
  subst (λ (x : StreamView PlainRelay). Gives a x) (sym (ap (λ x. x.stream) e)) given,
  h,
  ap (λ x. x.last) e ∙ ap (λ x. last_by x.stream.driver.engine.connection.state a) (sym e),
)

-- the settings of a Begin that was read, and answers none
pub named : (text : List ℕ) (b : BeginModel) (r : Result SettingsModel ReadError) → ReadsOne (λ x. IsPerformative (its.Begin x) text) (Ok b) → IfNone b r
    → Reads (NamesSettings text) r
named text b (Ok settings) h n = (b, h.0, n.0, n.1)
named text b (Err Malformed) h n = λ settings a. n (subst (λ (x : BeginModel). x.remote_channel ≡ None) (h.1 a.0 a.1) a.2)
named text b (Err OutOfMemory) h n = absurd n
