use Rattle.std.proofs.Common.{◌≡◌, ◌++◌, List, ℕ, ap, ◌∙◌, append_assoc, codes, string_bytes}
use Rattle.hex.specs.Hex.{encode_lower, lower_digits}
use Rattle.fe2o3_amqp.proofs.DigitLemmas.{encode_with-append}
use Rattle.fe2o3_amqp.proofs.transcript.line.out_line.Goals as goal

pub returns-clause-line : goal.returns-clause-line
returns-clause-line c =
    let head : List ℕ = encode_lower c.head.result.now in
    let part : List ℕ = encode_lower c.as_slice.result.now in
    let joined : string_bytes c.push_digits-2.new.text ≡ codes "out " ++ (head ++ part) =
    c.in_ok-push_digits-2.ensures.digits ∙ ap (λ (xs : List ℕ). xs ++ part) (c.in_ok-push_digits.ensures.digits ∙ ap (λ (xs : List ℕ). xs ++ head) c.in_ok-text.ensures.ok) ∙ append_assoc (codes "out ") head part in
    rw (encode_with-append lower_digits c.args.piece.now.head c.args.piece.now.payload) (rw (← c.head.ensures) (rw (← c.payload.ensures) (rw (← c.as_slice.ensures) joined)))
