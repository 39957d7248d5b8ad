use Rattle.std.proofs.Common.{List, ℕ, ◌++◌, ap, refl, subst, ◌∙◌, option_copied}
use Rattle.amqp1.specs.Names.{text_of}
use Rattle.amqp1.specs.Writing.{Writes}
use Rattle.amqp1.proofs.TellingLemmas.{written}
use Rattle.amqp1.proofs.telling.refusal_lines.Goals as goal

pub returns-in-Ok : goal.returns-in-Ok
returns-in-Ok c =
    let text : List ℕ = text_of (option_copied c.refusal_name.result) c.refusal_answer.result in (
      text,
      (option_copied c.refusal_name.result, c.refusal_answer.result, c.refusal_name.ensures, c.refusal_answer.ensures, refl),
      written text c.args.output.now c.write.result.0 c.write.result.1 c.write.new.output
          (subst (λ (t : List ℕ). Writes t c.args.output.now c.write.result.0 c.write.result.1 c.write.new.output)
          (c.as_slice.ensures ∙ c.in-Ok.ensures.ok ∙ ap (λ (b : List ℕ). b ++ text) c.clear.ensures.items) c.write.ensures),
    )
