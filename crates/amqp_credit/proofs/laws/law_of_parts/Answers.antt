use Rattle.amqp_credit.proofs.PartLemmas.{belong_to_one, in_a_row, sizes_add_up, none_too_large, refused_for_reason}
use Rattle.amqp_credit.proofs.PartLemmas.{under_way_is_exact}
use Rattle.amqp_credit.proofs.laws.law_of_parts.Goals as goal

pub returns-clause-belong : goal.returns-clause-belong
returns-clause-belong c = belong_to_one

pub returns-clause-in_a_row : goal.returns-clause-in_a_row
returns-clause-in_a_row c = in_a_row

pub returns-clause-sizes : goal.returns-clause-sizes
returns-clause-sizes c = sizes_add_up

pub returns-clause-within : goal.returns-clause-within
returns-clause-within c = none_too_large

pub returns-clause-refused : goal.returns-clause-refused
returns-clause-refused c = refused_for_reason

pub returns-clause-under_way : goal.returns-clause-under_way
returns-clause-under_way c = under_way_is_exact
