use Rattle.amqp_sasl.specs.Inner.Reading.{names_at}
use Rattle.amqp_sasl.proofs.FieldLemmas.{null_needed}
use Rattle.amqp_sasl.proofs.NameLemmas.{names_taken, names_within, names_missing, names_ended}
use Rattle.amqp_sasl.proofs.walk.mandatory_names.Goals as goal

pub returns-in-Some-eq64-clause-value : goal.returns-in-Some-eq64-clause-value
returns-in-Some-eq64-clause-value c = null_needed names_at _ _ (rw c.in-Some-eq64.field-0-test at c.in-Some-eq64.ensures.value)

pub returns-in-Some-search_names-clause-value : goal.returns-in-Some-search_names-clause-value
returns-in-Some-search_names-clause-value c =
    names_taken _ c.args.text.now c.in-Some-search_names.field-0 _ c.next_code.new.walk.left c.in-Some.code c.next_code.new.walk.at c.search_names.new.at c.in-Some.ensures.value c.in-Some.code-test.1 (c.in-Some.ensures.behind c.in-Some.code-test.1) c.in-Some.ensures.bound
    (c.in-Some.ensures.coded c.in-Some.code-test.1) c.in-Some-search_names.ensures.bound c.in-Some-search_names.ensures.value

pub returns-in-Some-search_names-clause-within : goal.returns-in-Some-search_names-clause-within
returns-in-Some-search_names-clause-within c = (
  names_within _ c.args.text.now c.in-Some-search_names.field-0 c.in-Some.code c.next_code.new.walk.at c.search_names.new.at (c.in-Some.ensures.behind c.in-Some.code-test.1) c.in-Some.ensures.bound
      (c.in-Some.ensures.coded c.in-Some.code-test.1) c.in-Some-search_names.ensures.bound c.in-Some-search_names.ensures.value,
  c.in-Some-search_names.ensures.bound,
)

pub returns-in-None-search_names-clause-value : goal.returns-in-None-search_names-clause-value
returns-in-None-search_names-clause-value c = names_missing _ _ _ c.in-Some.code c.in-Some.ensures.value c.in-Some.code-test.1 c.in-None-search_names.ensures.value

pub returns-in-None-clause-value : goal.returns-in-None-clause-value
returns-in-None-clause-value c = names_ended _ c.in-None.ensures.value
