use Rattle.std.proofs.Common.{◌∷◌, List, ℕ, drop, sym, ap, ◌∙◌}
use Rattle.amqp_sasl.specs.SaslFrame.{has_name, names_in}
use Rattle.amqp_sasl.proofs.NameLemmas.{offered_is, offered_not, offered_nothing, no_byte_at}
use Rattle.amqp_sasl.proofs.names.is_offered.Goals as goal

pub returns-in-Some-search_names : goal.returns-in-Some-search_names
returns-in-Some-search_names c =
    offered_is c.args.name.now (c.in-Some.code ∷ drop c.take_byte.new.at c.args.names.now) _ c.in-Some-search_names.found c.in-Some-search_names.ensures.value ∙ ap (λ (b : List ℕ). has_name c.args.name.now (names_in b)) (sym c.in-Some.ensures.read)

pub returns-in-None-search_names : goal.returns-in-None-search_names
returns-in-None-search_names c =
    offered_not c.args.name.now (c.in-Some.code ∷ drop c.take_byte.new.at c.args.names.now) c.in-None-search_names.ensures.value ∙ ap (λ (b : List ℕ). has_name c.args.name.now (names_in b)) (sym c.in-Some.ensures.read)

pub returns-in-None : goal.returns-in-None
returns-in-None c = offered_nothing c.args.name.now c.args.names.now (no_byte_at c.args.names.now c.in-None.ensures.value)
