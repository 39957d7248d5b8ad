use Rattle.example_laws.proofs.MappedLemmas.{done_in_mapped}
use Rattle.example_laws.proofs.law_of_done_transfers.Goals as goal

pub returns : goal.returns
returns g c = λ s o H v legal. done_in_mapped s o H (c.law_of_histories.ensures s o H v legal)
