use Rattle.std.proofs.Common.{rules, [], Some, None, IsSome, Ok, Err, refl, ap, sym, subst, ◌∙◌}
use Rattle.std.specs.Option.{option_copied_mut}
use Rattle.std.specs.HashMap.{HashMap}
use Rattle.amqp_connection.specs.Connection.{EndRouteStep}
use Rattle.amqp_connection.specs.History.{IncomingEnd}
use Rattle.amqp_connection.proofs.HistoryLemmas.{hash_stays}
use Rattle.amqp_engine.specs.EngineView.{EngineView}
use Rattle.amqp_engine.specs.Inner.Calls.{ReceivedEndCalls}
use Rattle.amqp_engine.proofs.AskedSessionLemmas.{reaches, reaches_unknown, reaches_none}
use Rattle.amqp_engine.proofs.OutcomeLemmas.{end_copy, seat_known, kept_end}
use Rattle.amqp_engine.proofs.SessionListLemmas.{viewed_some, viewed_none, seated_set}
use Rattle.amqp_engine.proofs.engine.Engine.on_end.Goals as goal

pub returns-in_err-number : goal.returns-in_err-number
returns-in_err-number g c =
    let end = c.args.end in
    let step = subst (λ (v : EngineView _). EndRouteStep v.connection c.args.channel.0 (Err c.in_err-number.field-0.0) c.route_end.new.self) c.self.view_is c.in_err-number.ensures in
    (None, [], _, reaches_none g.R.LinkRelay.gives (EndRouteStep c.args.self.now.connection c.args.channel.0) (ReceivedEndCalls c.args.channel.0 end) _ _ c.route_end.new.self c.in_err-number.field-0.0 _ c.self.view_is step (search rules), refl)

pub returns-in_default : goal.returns-in_default
returns-in_default g c =
    let end = c.args.end in
    let n = c.in_ok-number.number.0 in
    let step = subst (λ (v : EngineView _). EndRouteStep v.connection c.args.channel.0 (Ok n) c.route_end.new.self) c.self.view_is c.in_ok-number.ensures in
    let none = viewed_none n c.self.inside.sessions.entries (sym c.get_mut.ensures.value ∙ ap option_copied_mut c.in_default.is) in
    let stays = ap (λ (m : HashMap _ _ _). m.entries) c.get_mut.follows.holds-at-none in
    (Some n, [], _, reaches_unknown g.R.LinkRelay.gives (EndRouteStep c.args.self.now.connection c.args.channel.0) (ReceivedEndCalls c.args.channel.0 end) c.args.self.now _ c.route_end.new.self _ _ _ n _ c.self.view_is step none stays, refl)

pub end_answer-requires : goal.end_answer-requires
end_answer-requires g c = record {
  copied = end_copy g.R.LinkRelay.gives _ _ c.args.channel.0 c.args.end _ _ _ (c.requires.copied) c.end_received-answer.ensures;
}

pub keep_end-requires : goal.keep_end-requires
keep_end-requires g c =
    let n = c.in_ok-number.number.0 in
    let known = viewed_some n c.self.inside.sessions.entries c.in-Some.session.now (sym c.in-Some.ensures.value) in
    record {
      known = λ h. seat_known c.self.inside.sessions.entries n c.self.inside.kept.places c.self.invariant.0 (subst IsSome (sym known) refl);
    }

pub returns : goal.returns
returns g c =
    let end = c.args.end in
    let n = c.in_ok-number.number.0 in
    let step = subst (λ (v : EngineView _). EndRouteStep v.connection c.args.channel.0 (Ok n) c.route_end.new.self) c.self.view_is c.in_ok-number.ensures in
    let known = viewed_some n c.self.inside.sessions.entries c.in-Some.session.now (sym c.in-Some.ensures.value) in
    let set = (c.get_mut.follows.holds c.end_received-answer.new.session) in
    let there = reaches g.R.LinkRelay.gives (EndRouteStep c.args.self.now.connection c.args.channel.0) (ReceivedEndCalls c.args.channel.0 end) c.args.self.now _ c.route_end.new.self _ _ _ n _ _ _ c.in-Some.session.now c.end_received-answer.new.session _
    c.self.view_is step known c.end_received-answer.ensures (ap (λ (x : EngineView _). x.waiting) c.self.view_is ∙ c.requires.idle) set in
    (Some n, c.end_received-answer.ensures.calls, _, there, (kept_end _ _ _ _ c.args.channel.0 n end (Some n) c.end_answer.result _ refl refl c.end_answer.ensures c.keep_end.ensures.outcomes c.keep_end.ensures.wishes))

pub invariant_of-self-2 : goal.invariant_of-self-2
invariant_of-self-2 g c = (
  rw c.keep_end.ensures.places (seated_set c.self.inside.sessions.entries _ c.in_ok-number.number.0 c.end_received-answer.new.session c.self.inside.kept.places (c.get_mut.follows.holds c.end_received-answer.new.session) c.self.invariant.0),
  hash_stays _ _ (IncomingEnd c.args.channel.0 (Ok c.in_ok-number.number.0)) c.in_ok-number.ensures ∙ c.self.invariant.1,
)
