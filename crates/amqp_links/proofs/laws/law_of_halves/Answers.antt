use Rattle.amqp_links.proofs.HalvesLemmas.{halves_say, halves_send}
use Rattle.amqp_links.proofs.PreparedLemmas.{cancel_restores}
use Rattle.amqp_links.proofs.laws.law_of_halves.Goals as goal

pub returns-clause-send : goal.returns-clause-send
returns-clause-send c = halves_send

pub returns-clause-say : goal.returns-clause-say
returns-clause-say c = halves_say

pub returns-clause-cancel : goal.returns-clause-cancel
returns-clause-cancel c = cancel_restores
