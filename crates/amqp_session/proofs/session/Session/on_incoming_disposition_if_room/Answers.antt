use Rattle.std.proofs.Common.{◌≡◌, ap, sym, subst, ◌∙◌, false, cond, Some, None, []}
use Rattle.amqp_types.specs.Disposition.{DispositionModel}
use Rattle.amqp_session.specs.Disposing.{is_forward}
use Rattle.amqp_session.specs.Session.{SessionModel}
use Rattle.amqp_session.specs.Deliveries.{AreCounts}
use Rattle.amqp_session.proofs.ReadCountLemmas.{still_open}
use Rattle.amqp_session.proofs.BackwardRangeLemmas.{is_backward, backward_same, backward_bound}
use Rattle.amqp_session.proofs.session.Session.on_incoming_disposition_if_room.Goals as goal

pub returns-in_default-clause-step : goal.returns-in_default-clause-step
returns-in_default-clause-step g c =
    let back : is_forward c.args.disposition.first c.args.disposition.last ≡ false = ap (λ (d : DispositionModel). is_forward d.first d.last) (sym c.disposition.view_is) ∙ is_backward _ _ c.forward.result c.forward.ensures (search) in
    let settled = ap (λ (d : DispositionModel). d.settled) c.disposition.view_is in
    let step = backward_same g.R.LinkRelay.gives.disposition_gives c.args.disposition _ _ _ back (c.nothing_meant.ensures.answer ∙ ap (λ b. cond b None (Some [])) settled) (ap (λ (o : SessionModel _). o.view) c.self.view_is) in
    (step.0, (step.1, tt))

pub returns-in_default-clause-bound : goal.returns-in_default-clause-bound
returns-in_default-clause-bound g c =
    let back : is_forward c.args.disposition.first c.args.disposition.last ≡ false = ap (λ (d : DispositionModel). is_forward d.first d.last) (sym c.disposition.view_is) ∙ is_backward _ _ c.forward.result c.forward.ensures (search) in
    backward_bound c.args.disposition _ c.nothing_meant.result _ back c.new-self-inside.ensures

pub returns-in_default-clause-reads : goal.returns-in_default-clause-reads
returns-in_default-clause-reads g c =
    let reads = ap (λ (o : SessionModel _). o.reads) c.self.view_is in
    reads ∙ still_open c.args.disposition.role c.args.self.now.reads c.new-self-inside.result (subst AreCounts reads c.nothing_meant.ensures.counts) c.new-self-inside.ensures
