use Rattle.std.proofs.Common.{◌≡◌, ◌+◌, ◌-◌, ◌%◌, ◌^◌, List, length, nat_eq, slice_get, unwrap_or, ap, ◌∙◌}
use Rattle.amqp_types.specs.Disposition.{DispositionModel}
use Rattle.amqp_session.proofs.GrowingRunLemmas.{read_last}
use Rattle.amqp_session.proofs.session.runs.goes_on.Goals as goal

pub returns-in-Some : goal.returns-in-Some
returns-in-Some c = λ runs e.
    let last : c.unwrap_or.result ≡ unwrap_or c.in-Some.echo.now.last c.in-Some.echo.now.first = c.unwrap_or.ensures ∙ ap (λ (y : DispositionModel). unwrap_or y.last y.first) c.echo.view_is in
    let there = c.in-Some.ensures.value ∙ ap (λ (xs : List DispositionModel). slice_get xs (length xs - 1)) e in
    ap (λ m. nat_eq ((m + 1) % 2 ^ 32) c.args.number) last ∙ read_last runs c.args.number c.in-Some.echo.now there
