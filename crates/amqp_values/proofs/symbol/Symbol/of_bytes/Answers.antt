use Rattle.std.proofs.Common.{◌≡◌, ◌∙◌, sym, true}
use Rattle.amqp_values.specs.Text.{is_ascii}
use Rattle.amqp_values.proofs.Utf8Lemmas.{ok_of, ascii_utf8}
use Rattle.amqp_values.proofs.symbol.Symbol.of_bytes.Goals as goal

pub unwrap-text-requires : goal.unwrap-text-requires
unwrap-text-requires c =
    let low : is_ascii c.args.bytes.now ≡ true = sym c.all_ascii.ensures ∙ c.if-not-all_ascii.false in
    ok_of _ _ _ c.from_utf8.ensures.cases (λ e q. q.0 (ascii_utf8 _ low))
