-- The link that bytes name, where parts of them were read.
use Rattle.std.proofs.Common.{◌≡◌, ℕ, List, Option, Some, None, sym, subst}
use Rattle.std.specs.Int.{w32}
use Rattle.amqp_values.specs.Reading.{number_at}
use Rattle.amqp1.specs.declared.linking.LinkAsked.{LinkAsked}
use Rattle.amqp1.specs.declared.operation.Operation.TheVariants as op
use Rattle.amqp1.specs.Asking.{HasNumber}
use Rattle.amqp1.specs.Linking.{FindsLink, FindsPolicy, HasPolicy}
use Rattle.amqp1.proofs.AskingLemmas.{same_rest}

pub link_found : (bytes rest : List ℕ) (n : ℕ) (r : Option LinkAsked) → HasNumber bytes n rest → FindsPolicy n None rest r → FindsLink op.Link bytes r
link_found bytes rest n None e f = λ l a. f l (subst (λ t. HasPolicy t l) (same_rest (number_at w32 bytes) n l.session rest a.0 e a.1) a.3)
link_found bytes rest n (Some x) e f = (rest, subst (λ k. HasNumber bytes k rest) (sym f.0) e, f.1, f.2)

pub link_on_found : (bytes after rest : List ℕ) (n h : ℕ) (r : Option LinkAsked) → HasNumber bytes n after → HasNumber after h rest
    → FindsPolicy n (Some h) rest r → FindsLink op.LinkOn bytes r
link_on_found bytes after rest n h None e g f = λ l a.
    let b : a.1 ≡ after = same_rest (number_at w32 bytes) n l.session after a.1 e a.3 in
    let k : HasNumber after a.0 a.2 = subst (λ t. HasNumber t a.0 a.2) b a.4 in
    f l (subst (λ t. HasPolicy t l) (same_rest (number_at w32 after) h a.0 rest a.2 g k) a.6)
link_on_found bytes after rest n h (Some x) e g f = (h, after, rest, subst (λ k. HasNumber bytes k after) (sym f.0) e, g, f.1, f.2)
