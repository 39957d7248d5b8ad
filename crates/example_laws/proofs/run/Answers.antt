use Rattle.example_laws.proofs.AnsweredLemmas.{one_each}
use Rattle.example_laws.proofs.AttachedLemmas.{all_go_out}
use Rattle.example_laws.proofs.run.Goals as goal

pub returns-clause-answered : goal.returns-clause-answered
returns-clause-answered g c =
    let r = c.run.ensures.ran in
    record {
      ran = r;
      each = one_each _ _ r.entries _ r.promise.out r.promise.said;
      attached = all_go_out g.R.LinkRelay.gives _ r.entries _ r.steps;
    }
