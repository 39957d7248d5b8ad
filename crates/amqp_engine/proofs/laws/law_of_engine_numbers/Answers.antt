use Rattle.amqp_session.specs.Headline.{accepted, handed, window}
use Rattle.amqp_session.proofs.NumberLemmas.{numbers_known, numbers_shown}
use Rattle.amqp_engine.specs.ByHistory.{of_session}
use Rattle.amqp_engine.proofs.laws.law_of_engine_numbers.Goals as goal

pub returns : goal.returns
returns g c = record {
  known = λ s o H v l n m b. numbers_known m (of_session n H) ((c.law_of_histories.ensures s o H v l).each n m b).accounts;
  shown = λ s o H v l n m b.
      let t = (c.law_of_views.ensures s o H v l).sessions_are n m b in
      (t.0, t.1, numbers_shown m.channel m.settings.next_outgoing_id (accepted (of_session n H)) (handed (of_session n H)) (window m (of_session n H)) t.0.sending t.2.sending_is);
}
