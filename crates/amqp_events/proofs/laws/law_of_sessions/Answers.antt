use Rattle.std.proofs.Common.{[], ◌∷◌, Some, None, refl, ap, sym, subst, ◌∙◌}
use Rattle.amqp_session.specs.Inner.Histories.{input_from}
use Rattle.amqp_session.specs.Linking.{WaitsFor}
use Rattle.amqp_session.specs.History.{TakesAttach, TakesDetach}
use Rattle.amqp_events.specs.Runs.{ToldAttach, ToldDetach}
use Rattle.amqp_events.proofs.RunLemmas.{gives_queued, run_gives}
use Rattle.amqp_events.proofs.AttachedLemmas.{chain_split, input_on, hears, detach_told}
use Rattle.amqp_events.proofs.laws.law_of_sessions.Goals as goal

pub returns-clause-attached : goal.returns-clause-attached
returns-clause-attached c = λ m w before es h link l at all.
    let s = chain_split gives_queued before es _ w l.2 in
    let r = hears gives_queued m es before s.0 w h link (λ H x. c.law_of_views.ensures.stands m H x) (l.0, l.1, s.1) at all s.2 in
    record { after = r.after; stands = input_on gives_queued h before es None ∙ ap (λ o. input_from h o es) at ∙ r.stands; events = run_gives link.relay r.after _ r.run }

pub returns-clause-attach : goal.returns-clause-attach
returns-clause-attach c = λ m w before after a q result l.
    let s = chain_split gives_queued before (TakesAttach a (Some q) result ∷ after) _ w l.2 in
    let t = s.2.1.0 in
    (subst (λ o. WaitsFor o q.handle q.before) ((c.law_of_views.ensures.stands m before s.0 (l.0, l.1, s.1)).names_are a.name) t.1, run_gives q.before q.after (ToldAttach a q.answer ∷ []) (q.after, t.2, refl))

pub returns-clause-detach : goal.returns-clause-detach
returns-clause-detach c = λ m w before after d q result l.
    let s = chain_split gives_queued before (TakesDetach d (Some q) result ∷ after) _ w l.2 in
    let t = detach_told gives_queued d q result s.0 s.2.0 s.2.1 in
    (sym ((c.law_of_views.ensures.stands m before s.0 (l.0, l.1, s.1)).inputs_are d.handle) ∙ t.0, run_gives q.before q.after (ToldDetach q.handle d q.asked.1 q.answer ∷ []) (q.after, t.1, refl))
