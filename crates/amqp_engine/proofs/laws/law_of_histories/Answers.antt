use Rattle.std.proofs.Common.{refl, sym, subst, ◌∙◌, inl, inr}
use Rattle.amqp_session.specs.History as session
use Rattle.amqp_session.specs.Headline as single
use Rattle.amqp_engine.specs.EngineView.{new_engine}
use Rattle.amqp_engine.specs.ByHistory.{of_session, begun}
use Rattle.amqp_engine.specs.Legal.{Legal}
use Rattle.amqp_engine.proofs.BareHistoryLemmas.{LeadsTo, apart}
use Rattle.amqp_engine.proofs.BegunSessionLemmas.{some_none}
use Rattle.amqp_engine.proofs.OpenCloseCountLemmas.{one_each}
use Rattle.amqp_engine.proofs.ChannelHistoryLemmas.{once_held}
use Rattle.amqp_engine.proofs.NamedSessionLemmas.{requests_reach}
use Rattle.amqp_engine.proofs.OnChannelLemmas.{on_channel}
use Rattle.amqp_engine.proofs.SessionProjectionLemmas.{legal, same_some}
use Rattle.amqp_engine.proofs.ReachedSessionLemmas.{all_received, frames_reach, routes_follow, all_known}
use Rattle.amqp_engine.proofs.AskedCallsLemmas.{all_asked, frames_are, ran_short}
use Rattle.amqp_engine.proofs.laws.law_of_histories.Goals as goal

pub returns : goal.returns
unfolding Legal
returns g c = λ state o H w whole.
    let gives = g.R.LinkRelay.gives in
    let l : LeadsTo gives state o H w = (whole.0, apart gives H (new_engine whole.0 state o) w whole.1) in
    let ones = one_each gives state o H w l in
    record {
      each = λ n m b. elim (legal gives H n (new_engine l.0 state o) w l.1 refl) [
        | inl a ↦ absurd (some_none (sym b ∙ a.unbegun))
        | inr p ↦ subst (λ (x : session.Made). single.Headline x (of_session n H)) (same_some p.made m (begun state n H) p.begun_is b) (c.law_of_views.ensures.headline p.made (of_session n H) p.last p.legal)
      ];
      unknown = λ n b. elim (legal gives H n (new_engine l.0 state o) w l.1 refl) [
        | inl a ↦ a.no_calls
        | inr p ↦ absurd (some_none (sym p.begun_is ∙ b))
      ];
      all_received = all_received gives state o H w l;
      requests_reach = requests_reach gives state o H w l;
      frames_reach = frames_reach gives state o H w l;
      routes_follow = routes_follow gives state o H w l;
      all_known = all_known gives state o H w l;
      ran_short = ran_short gives state o H w l;
      held_once = once_held gives state o H w l;
      all_asked = all_asked gives c.law_of_views.ensures.stands state o H w l;
      frames_are = frames_are gives state o H w l;
      on_its_channel = on_channel gives c.law_of_channels.ensures state o H w l;
      one_open = λ e. (ones e).0;
      one_close = λ e. (ones e).1;
    }
