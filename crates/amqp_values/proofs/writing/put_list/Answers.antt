use Rattle.std.proofs.Common.{◌≡◌, ◌++◌, List, ℕ, eqb, false, length, take, ap, ◌∙◌, append_assoc, arith}
use Rattle.std.proofs.lemmas.Bool.{ne_eqb}
use Rattle.amqp_values.specs.Reading.{joined}
use Rattle.amqp_values.specs.Writing.{trim, list_head, list_text}
use Rattle.amqp_values.proofs.WrittenPartLemmas.{length_trim}
use Rattle.amqp_values.proofs.TrimLemmas.{trim_take}
use Rattle.amqp_values.proofs.writing.put_list.Goals as goal

pub put_head-requires-clause-few : goal.put_head-requires-clause-few
put_head-requires-clause-few g c = omega (arith, length_trim (g.R.Row.texts c.args.fields.now))

pub returns-else-count-eq0-clause-items : goal.returns-else-count-eq0-clause-items
unfolding list_text
returns-else-count-eq0-clause-items g c =
    let texts : List (List ℕ) = g.R.Row.texts c.args.fields.now in
    let part : take c.extent-count.result.count texts ≡ trim texts = ap (λ (n : ℕ). take n texts) c.extent-count.ensures.count ∙ trim_take texts in
    let e : eqb (length (trim texts)) 0 ≡ false = ne_eqb _ _ (omega arith) in
    rw e (c.put.ensures.items ∙ ap (λ (r : List ℕ). r ++ joined (take c.extent-count.result.count texts)) c.put_head.ensures.items
    ∙ append_assoc c.args.out.now.items (list_head c.extent-count.result.count c.size_in.result) (joined (take c.extent-count.result.count texts))
    ∙ ap (λ (r : List (List ℕ)). c.args.out.now.items ++ (list_head c.extent-count.result.count c.size_in.result ++ joined r)) part
    ∙ ap (λ (n : ℕ). c.args.out.now.items ++ (list_head n c.size_in.result ++ joined (trim texts))) c.extent-count.ensures.count
    ∙ ap (λ (n : ℕ). c.args.out.now.items ++ (list_head (length (trim texts)) n ++ joined (trim texts))) (c.size_in.ensures (trim texts) (omega arith) c.requires.len_is))
