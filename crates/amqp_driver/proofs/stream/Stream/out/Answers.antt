use Rattle.std.proofs.Common.{ap, sym, ◌∙◌, ◌++◌, ◌≡◌, [], true, ℕ, List, rules}
use Rattle.amqp_sasl.specs.Opening.{is_done}
use Rattle.amqp_driver.specs.Stream.{StreamView, beat_bytes, frames_if}
use Rattle.amqp_driver.proofs.StreamOrderLemmas.{beat_first, no_items}
use Rattle.amqp_driver.proofs.stream.Stream.out.Goals as goal

pub returns-then-not-is_empty-clause-front : goal.returns-then-not-is_empty-clause-front
returns-then-not-is_empty-clause-front g = λ c. (
  frames_if (is_done c.args.self.now.opening.phase) c.args.self.now,
  ap (λ (x : List ℕ). x ++ frames_if (is_done c.args.self.now.opening.phase) c.args.self.now)
      (sym (c.as_slice.ensures ∙ ap (λ (x : StreamView _). x.first) c.self.view_is)),
)

pub returns-then-self-gt0-clause-front : goal.returns-then-self-gt0-clause-front
returns-then-self-gt0-clause-front g c =
    let none : c.args.self.now.first ≡ [] =
    sym (ap (λ (x : StreamView _). x.first) c.self.view_is)
    ∙ no_items c.self.inside.first.items (sym c.is_empty.ensures ∙ c.if-not-is_empty.false)
    in
    let is_open : is_done c.args.self.now.opening.phase ≡ true = search rules in (
      c.args.self.now.driver.to_send,
      beat_first c.args.self.now c.beat_bytes.result.now none is_open
          (c.beat_bytes.ensures ∙ ap (λ (x : StreamView _). beat_bytes x.beat) c.self.view_is),
    )
