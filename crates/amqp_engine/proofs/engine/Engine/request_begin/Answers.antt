use Rattle.std.proofs.Common.{[], ◌∷◌, Ok, Err, Some, None, refl, ap, sym, subst, ◌∙◌, nat_eq, arith}
use Rattle.indexmap.specs.IndexMap.{insert_entry}
use Rattle.amqp_memory.proofs.RefusalLemmas.{some}
use Rattle.amqp_types.specs.declared.states.SessionState.TheVariants.{Unmapped}
use Rattle.amqp_session.specs.Session.{new_session}
use Rattle.amqp_session.specs.Step.{SendBeginStep}
use Rattle.amqp_session.specs.History as session
use Rattle.amqp_session.specs.declared.error.SessionStateError.{SessionStateError}
use Rattle.amqp_engine.specs.declared.engine.step_error.StepError.TheVariants.{SessionState, AllocSession}
use Rattle.amqp_connection.specs.Connection.{ConnectionView, AllocateStep}
use Rattle.amqp_engine.specs.EngineView.{EngineView, views_of, walks_of}
use Rattle.amqp_engine.specs.Sessions.{BeginRequest, IsFresh, Used}
use Rattle.amqp_engine.proofs.SameEngineLemmas.{same_engine, same_keeping, one_more}
use Rattle.std.specs.FinMap as map
use Rattle.amqp_engine.specs.Inner.Places.{Seated}
use Rattle.amqp_engine.proofs.OutcomeLemmas.{seat_free, seated_more, seated_same}
use Rattle.std.specs.Map.{lookup}
use Rattle.amqp_engine.proofs.SessionListLemmas.{viewed_none, unviewed}
use Rattle.amqp_engine.proofs.BegunSessionLemmas.{appended, given_back_again, unallocated}
use Rattle.amqp_engine.proofs.engine.Engine.request_begin.Goals as goal

pub returns-in-Ok-begun : goal.returns-in-Ok-begun
returns-in-Ok-begun g c =
    let same_room = c.reserve.ensures.same in
    let fresh = subst (λ b. Used c.args.self.now c.args.number.0 b) c.if-is_used.false c.is_used.ensures in
    let none = unviewed c.args.number.0 c.self.inside.sessions.entries (ap (λ v. lookup (nat_eq c.args.number.0) v.sessions) c.self.view_is ∙ fresh.0) in
    let put = rw c.unwrap.ensures at c.insert.ensures.entries in
    let entries = put ∙ ap (λ es. insert_entry nat_eq es c.args.number.0 c.in-Ok-begun.session) c.more_in_map.ensures.entries ∙ appended _ c.args.number.0 c.in-Ok-begun.session none in
    let a = c.in-Ok-allocate_session.ensures in
    let stop = c.connection_stop_reason-stop.ensures ∙ ap (λ (k : ConnectionView). k.stop_reason) a.3 in
    let keyed = subst (λ h. SendBeginStep (new_session h c.args.settings c.in-Ok-allocate_session.channel.0 Unmapped c.connection_stop_reason-stop.result) (Ok c.in-Ok-begun.frame) c.in-Ok-begun.session.view) (sym c.self.invariant.1) c.in-Ok-begun.ensures.begun in
    let began = subst (λ s. SendBeginStep (new_session c.self.inside.connection.hash c.args.settings c.in-Ok-allocate_session.channel.0 Unmapped s) (Ok c.in-Ok-begun.frame) c.in-Ok-begun.session.view) stop keyed in
    rw (← c.self.view_is) (
      Some c.args.number.0,
      session.SendsBegin (Ok c.in-Ok-begun.frame) ∷ [],
      (
        refl,
        record {
          channel = c.in-Ok-allocate_session.channel.0;
          connection = c.allocate_session.new.self;
          after = c.in-Ok-begun.session.view;
          walk = c.in-Ok-begun.session.last_walk;
          unknown = viewed_none c.args.number.0 c.self.inside.sessions.entries none;
          unused = ap (λ v. map.get v.forgotten c.args.number.0) c.self.view_is ∙ fresh.1;
          fits = c.in-Ok-begun.ensures.fits;
          allocated = a;
          asked = (c.in-Ok-begun.frame, refl, refl);
          steps = (c.in-Ok-begun.session.view, began, refl);
          put = one_more _ c.self.inside.sessions.entries _ _ c.args.number.0 c.in-Ok-begun.session _ _ entries c.put_frame.ensures (c.add.ensures.outcomes ∙ same_room.outcomes_are) (c.add.ensures.wishes ∙ same_room.wishes_are);
        },
      ),
    )

pub returns-in-Err-begun : goal.returns-in-Err-begun
returns-in-Err-begun g c =
    let gives = g.R.LinkRelay.gives in
    let fresh = subst (λ b. Used c.args.self.now c.args.number.0 b) c.if-is_used.false c.is_used.ensures in
    let a = c.in-Ok-allocate_session.ensures in
    let same = given_back_again c.self.inside.connection c.allocate_session.new.self c.deallocate_session.new.self c.in-Ok-allocate_session.channel.0 c.args.number.0 c.deallocate_session.result a.1.free a.3 c.deallocate_session.ensures in
    let now : EngineView _ = record { connection = c.deallocate_session.new.self; sessions = views_of c.more_in_map.new.map.entries; walks = walks_of c.more_in_map.new.map.entries; forgotten = c.self.inside.forgotten; limit = c.self.inside.encoder; waiting = c.self.inside.waiting; outcomes = c.reserve.new.self.outcomes; wishes = c.reserve.new.self.wishes } in
    let before : EngineView _ = record { connection = c.self.inside.connection; sessions = views_of c.self.inside.sessions.entries; walks = walks_of c.self.inside.sessions.entries; forgotten = c.self.inside.forgotten; limit = c.self.inside.encoder; waiting = c.self.inside.waiting; outcomes = c.self.inside.kept.outcomes; wishes = c.self.inside.kept.wishes } in (
      None,
      [],
      subst (λ (v : EngineView _). BeginRequest gives v c.args.number.0 c.args.settings None [] (Some (SessionState c.in-Err-begun.error)) now) c.self.view_is
          (subst (λ (e : SessionStateError). BeginRequest gives before c.args.number.0 c.args.settings None [] (Some (SessionState e)) now) (sym c.in-Err-begun.ensures.begun.0) (((refl, refl), same_keeping _ _ _ _ _ _ same c.more_in_map.ensures.entries c.reserve.ensures.same.outcomes_are c.reserve.ensures.same.wishes_are), subst (λ (v : EngineView _). IsFresh v c.args.number.0) (sym c.self.view_is) fresh, (c.in-Ok-allocate_session.channel.0, c.allocate_session.new.self, a), c.in-Err-begun.ensures.begun.1)),
    )

pub returns-then-is_used : goal.returns-then-is_used
returns-then-is_used g c = (None, [], (((refl, refl), refl), subst (λ b. Used c.args.self.now c.args.number.0 b) c.if-is_used.true c.is_used.ensures))

pub returns-in_default : goal.returns-in_default
returns-in_default g c =
    let none = subst (λ (v : EngineView _). IsFresh v c.args.number.0) (sym c.self.view_is) (subst (λ b. Used c.args.self.now c.args.number.0 b) c.if-is_used.false c.is_used.ensures) in
    rw (← c.self.view_is) (None, [], (((refl, refl), same_engine _ _ _ _ _ _ _ refl c.more_in_map.ensures.entries refl), none, some (omega arith) c.in_default.ensures.refused))

pub returns-in-Err : goal.returns-in-Err
returns-in-Err g c =
    let none = subst (λ (v : EngineView _). IsFresh v c.args.number.0) (sym c.self.view_is) (subst (λ b. Used c.args.self.now c.args.number.0 b) c.if-is_used.false c.is_used.ensures) in
    let same = unallocated c.self.inside.connection c.allocate_session.new.self c.args.number.0 c.in-Err.error c.in-Err.ensures in
    let step = subst (λ k. AllocateStep c.self.inside.connection c.args.number.0 (Err c.in-Err.error) k) same c.in-Err.ensures in
    let now : EngineView _ = record { connection = c.allocate_session.new.self; sessions = views_of c.more_in_map.new.map.entries; walks = walks_of c.more_in_map.new.map.entries; forgotten = c.self.inside.forgotten; limit = c.self.inside.encoder; waiting = c.self.inside.waiting; outcomes = c.reserve.new.self.outcomes; wishes = c.reserve.new.self.wishes } in (
      None,
      [],
      subst (λ (v : EngineView _). BeginRequest g.R.LinkRelay.gives v c.args.number.0 c.args.settings None [] (Some (AllocSession c.in-Err.error)) now) c.self.view_is
          (((refl, refl), same_keeping _ _ _ _ _ _ same c.more_in_map.ensures.entries c.reserve.ensures.same.outcomes_are c.reserve.ensures.same.wishes_are), none, step),
    )

pub returns-in_default-reserve : goal.returns-in_default-reserve
returns-in_default-reserve g c =
    let none = subst (λ (v : EngineView _). IsFresh v c.args.number.0) (sym c.self.view_is) (subst (λ b. Used c.args.self.now c.args.number.0 b) c.if-is_used.false c.is_used.ensures) in
    rw (← c.self.view_is) (
      None,
      [],
      (
        ((refl, refl), same_keeping _ _ _ _ _ _ refl c.more_in_map.ensures.entries c.reserve.ensures.same.outcomes_are c.reserve.ensures.same.wishes_are),
        none,
        c.in_default-reserve.ensures.refused,
      ),
    )

pub add-requires : goal.add-requires
add-requires g c = record {
  room = c.in-Ok-reserve.ensures.ok;
  fresh = ap (λ m. map.get m c.args.number.0) c.reserve.ensures.same.places_are
      ∙ seat_free c.self.inside.sessions.entries c.args.number.0 c.self.inside.kept.places c.self.invariant.0
      (unviewed c.args.number.0 c.self.inside.sessions.entries (ap (λ v. lookup (nat_eq c.args.number.0) v.sessions) c.self.view_is ∙ (subst (λ b. Used c.args.self.now c.args.number.0 b) c.if-is_used.false c.is_used.ensures).0));
}

pub invariant_of-self-in-Ok-begun : goal.invariant_of-self-in-Ok-begun
invariant_of-self-in-Ok-begun g c = (
  seated_more c.more_in_map.new.map.entries c.insert.new.self.entries c.args.number.0 c.in-Ok-begun.session c.reserve.new.self.places c.add.new.self.places
      (rw c.unwrap.ensures at c.insert.ensures.updates).0 c.add.ensures.places
      (subst (λ m. Seated c.more_in_map.new.map.entries m) (sym c.reserve.ensures.same.places_are) (seated_same c.self.inside.sessions.entries c.more_in_map.new.map.entries c.self.inside.kept.places c.more_in_map.ensures.entries c.self.invariant.0)),
  ap (λ (k : ConnectionView). k.hash) c.in-Ok-allocate_session.ensures.3 ∙ c.self.invariant.1,
)
