use Rattle.std.proofs.Common.{◌∷◌, drop, ap, ◌∙◌}
use Rattle.amqp_sasl.specs.SaslFrame.{has_name}
use Rattle.amqp_sasl.proofs.NameLemmas.{no_count, counted_is, counted_long}
use Rattle.amqp_sasl.proofs.names.search_all.Goals as goal

pub returns-then-count-eq0 : goal.returns-then-count-eq0
returns-then-count-eq0 c = rw c.if-count-eq0.true (no_count (has_name c.args.name.now) (drop c.args.from c.args.text.now))

pub returns-in-Some-eq163 : goal.returns-in-Some-eq163
returns-in-Some-eq163 c =
    c.search_run.ensures ∙ counted_is (has_name c.args.name.now) c.args.count (drop c.args.from c.args.text.now) _ (c.in-Some-eq163.ensures.read ∙ ap (λ b. b ∷ drop c.take_byte.new.at c.args.text.now) c.in-Some-eq163.field-0-test) c.if-count-eq0.false

pub returns-in-Some-eq179 : goal.returns-in-Some-eq179
returns-in-Some-eq179 c =
    c.search_run-in-Some-eq179.ensures ∙ counted_long (has_name c.args.name.now) c.args.count (drop c.args.from c.args.text.now) _ (c.in-Some-eq179.ensures.read ∙ ap (λ b. b ∷ drop c.take_byte.new.at c.args.text.now) c.in-Some-eq179.field-0-test) c.if-count-eq0.false
