-- What contracts see of an engine is what its history gives.
use Rattle.std.proofs.Common.{List, [], refl, sym, subst, ◌∙◌, inl, inr}
use Rattle.amqp_types.specs.declared.states.ConnectionState.{ConnectionState}
use Rattle.amqp_types.specs.Open.{OpenModel}
use Rattle.amqp_session.specs.Relay.{Relays}
use Rattle.amqp_session.specs.History as session
use Rattle.amqp_session.specs.Headline as single
use Rattle.amqp_engine.specs.EngineView.{EngineView, new_engine}
use Rattle.amqp_engine.specs.Entry.{Entry}
use Rattle.amqp_engine.proofs.BareHistoryLemmas.{LeadsTo}
use Rattle.amqp_engine.specs.ByHistory.{of_session, live}
use Rattle.amqp_engine.specs.Views.{Stands}
use Rattle.amqp_engine.proofs.BegunSessionLemmas.{some_none}
use Rattle.amqp_engine.proofs.StepChainLemmas.{state_law, reason_law, open_law, remote_open_law, channel_max_law, limit_law, waiting_law}
use Rattle.amqp_engine.proofs.SessionProjectionLemmas.{legal, lives, numbers_are, same_some}
use Rattle.amqp_engine.proofs.ChannelHistoryLemmas.{holds, routes}
use Rattle.amqp_engine.proofs.AskedCallsLemmas.{ViewsLaw}

pub stands : {R : Type 0} (g : Relays R) → ViewsLaw g → (made : ConnectionState) (o : OpenModel) (H : List (Entry R)) (w : EngineView R) → LeadsTo g made o H w → Stands made o H w
stands g law made o H w l = record {
  sessions_are = λ n m b. elim (lives g l.0 made o n H w (legal g H n (new_engine l.0 made o) w l.1 refl)) [
    | inl a ↦ absurd (some_none (sym b ∙ a.0))
    | inr p ↦ (
      p.last,
      p.there,
      subst (λ (x : session.Made). single.Stands x (of_session n H) p.last) (same_some p.made m (live made n H) p.live_is b) (law p.made (of_session n H) p.last p.legal),
    )
  ];
  no_other = λ n b. elim (lives g l.0 made o n H w (legal g H n (new_engine l.0 made o) w l.1 refl)) [
    | inl a ↦ a.1
    | inr p ↦ absurd (some_none (sym p.live_is ∙ b))
  ];
  forgotten_are = λ n. numbers_are g n made o H w l;
  state_is = state_law g H (new_engine l.0 made o) w l.1;
  stop_reason_is = reason_law g H (new_engine l.0 made o) w l.1;
  local_open_is = open_law g H (new_engine l.0 made o) w l.1;
  remote_open_is = remote_open_law g H (new_engine l.0 made o) w l.1;
  channel_max_is = channel_max_law g o H (new_engine l.0 made o) w refl l.1;
  held_is = λ c. holds g c made o H w l;
  routes_are = λ c. routes g c made o H w l;
  limit_is = limit_law g H (new_engine l.0 made o) w l.1;
  waiting_is = waiting_law g [] H (new_engine l.0 made o) w ([], refl) l.1;
}
