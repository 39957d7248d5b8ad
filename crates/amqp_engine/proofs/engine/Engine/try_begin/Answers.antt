use Rattle.std.proofs.Common.{◌≡◌, ℕ, Option, Some, None, Ok, Err, [], refl, sym, ap, subst, ◌∙◌}
use Rattle.amqp_memory.specs.Refusal.{SomeRefused}
use Rattle.amqp_connection.specs.declared.error.ConnectionInnerError.{ConnectionInnerError}
use Rattle.amqp_connection.specs.declared.error.ConnectionInnerError.TheVariants as routes
use Rattle.amqp_engine.proofs.FrameRunLemmas.{where_none}
use Rattle.amqp_engine.proofs.SameEngineLemmas.{same_engine}
use Rattle.std.specs.Option.{option_copied_mut}
use Rattle.std.specs.HashMap.{HashMap}
use Rattle.amqp_types.specs.Begin.{BeginModel}
use Rattle.amqp_connection.specs.Connection.{BeginRouteStep, ConnectionView}
use Rattle.amqp_connection.specs.History.{IncomingBegin}
use Rattle.amqp_connection.proofs.HistoryLemmas.{hash_stays}
use Rattle.amqp_engine.specs.EngineView.{EngineView}
use Rattle.amqp_engine.specs.Inner.Calls.{ReceivedBeginCalls}
use Rattle.amqp_engine.proofs.AskedSessionLemmas.{reaches, reaches_unknown, reaches_none}
use Rattle.amqp_engine.proofs.SessionListLemmas.{viewed_some, viewed_none, seated_set}
use Rattle.amqp_engine.proofs.engine.Engine.try_begin.Goals as goal

-- memory was refused for the route
lacks : (v : ConnectionView) (channel : ℕ) (remote : Option ℕ) (e : ConnectionInnerError) (w : ConnectionView) → e ≡ routes.OutOfMemory → BeginRouteStep v channel remote (Err e) w
    → (w ≡ v) × SomeRefused
lacks v channel remote e w is s =
    let x : BeginRouteStep v channel remote (Err routes.OutOfMemory) w = subst (λ y. BeginRouteStep v channel remote (Err y) w) is s in (x.2, x.3)

pub returns-in-Err-clause-received : goal.returns-in-Err-clause-received
returns-in-Err-clause-received g c =
    let begin = c.args.begin in
    let step = subst (λ (v : EngineView _). BeginRouteStep v.connection c.args.channel.0 begin.remote_channel (Err c.in-Err.error) c.route_begin.new.self) c.self.view_is
    (subst (λ r. BeginRouteStep c.self.inside.connection c.args.channel.0 r (Err c.in-Err.error) c.route_begin.new.self) (ap (λ (b : BeginModel). b.remote_channel) c.begin.view_is) c.in-Err.ensures) in
    rw c.unrouted.ensures.same (None, [], reaches_none g.R.LinkRelay.gives (BeginRouteStep c.args.self.now.connection c.args.channel.0 begin.remote_channel) (ReceivedBeginCalls c.args.channel.0 begin) _ _ c.route_begin.new.self c.in-Err.error _ c.self.view_is step refl)

pub returns-in_default-clause-received : goal.returns-in_default-clause-received
returns-in_default-clause-received g c =
    let begin = c.args.begin in
    let n = c.in-Ok.number.0 in
    let step = subst (λ (v : EngineView _). BeginRouteStep v.connection c.args.channel.0 begin.remote_channel (Ok n) c.route_begin.new.self) c.self.view_is
    (subst (λ r. BeginRouteStep c.self.inside.connection c.args.channel.0 r (Ok n) c.route_begin.new.self) (ap (λ (b : BeginModel). b.remote_channel) c.begin.view_is) c.in-Ok.ensures) in
    let none = viewed_none n c.self.inside.sessions.entries (sym c.get_mut.ensures.value ∙ ap option_copied_mut c.in_default.is) in
    let stays = ap (λ (m : HashMap _ _ _). m.entries) c.get_mut.follows.holds-at-none in
    (Some n, [], reaches_unknown g.R.LinkRelay.gives (BeginRouteStep c.args.self.now.connection c.args.channel.0 begin.remote_channel) (ReceivedBeginCalls c.args.channel.0 begin) c.args.self.now _ c.route_begin.new.self _ _ _ n _ c.self.view_is step none stays)

pub returns-clause-received : goal.returns-clause-received
returns-clause-received g c =
    let begin = c.args.begin in
    let n = c.in-Ok.number.0 in
    let step = subst (λ (v : EngineView _). BeginRouteStep v.connection c.args.channel.0 begin.remote_channel (Ok n) c.route_begin.new.self) c.self.view_is
    (subst (λ r. BeginRouteStep c.self.inside.connection c.args.channel.0 r (Ok n) c.route_begin.new.self) (ap (λ (b : BeginModel). b.remote_channel) c.begin.view_is) c.in-Ok.ensures) in
    let known = viewed_some n c.self.inside.sessions.entries c.in-Some.session.now (sym c.in-Some.ensures.value) in
    let set = (c.get_mut.follows.holds c.begin_received.new.session) in (
      Some n,
      c.begin_received.ensures.calls,
      reaches g.R.LinkRelay.gives (BeginRouteStep c.args.self.now.connection c.args.channel.0 begin.remote_channel) (ReceivedBeginCalls c.args.channel.0 begin) c.args.self.now _ c.route_begin.new.self _ _ _ n _ _ _ c.in-Some.session.now c.begin_received.new.session _
          c.self.view_is step known c.begin_received.ensures (ap (λ (x : EngineView _). x.waiting) c.self.view_is ∙ c.requires) set,
    )

pub invariant_of-self-2 : goal.invariant_of-self-2
invariant_of-self-2 g c = (
  seated_set c.self.inside.sessions.entries _ c.in-Ok.number.0 c.begin_received.new.session c.self.inside.kept.places (c.get_mut.follows.holds c.begin_received.new.session) c.self.invariant.0,
  hash_stays _ _ (IncomingBegin c.args.channel.0 _ (Ok c.in-Ok.number.0)) c.in-Ok.ensures ∙ c.self.invariant.1,
)

pub returns-in-Err-clause-none : goal.returns-in-Err-clause-none
returns-in-Err-clause-none g c =
    let begin = c.args.begin in
    let step = subst (λ r. BeginRouteStep c.self.inside.connection c.args.channel.0 r (Err c.in-Err.error) c.route_begin.new.self) (ap (λ (b : BeginModel). b.remote_channel) c.begin.view_is) c.in-Err.ensures in
    where_none c.unrouted.result (λ e.
    let x = lacks _ _ _ c.in-Err.error _ e step in (tt, x.1, same_engine _ _ _ _ _ _ _ x.0 refl refl ∙ c.self.view_is)) c.unrouted.ensures.none
