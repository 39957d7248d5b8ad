use Rattle.std.proofs.Common.{ap, subst, ◌∙◌, Some, None}
use Rattle.std.specs.FinMap as map
use Rattle.slab.specs.Slab.{Updates}
use Rattle.amqp_session.specs.declared.link.handles.HandleSlot.TheVariants.{Awaited}
use Rattle.amqp_session.specs.Links.{Handles}
use Rattle.amqp_session.proofs.FiniteMapLemmas.{place_taken, insert_again}
use Rattle.amqp_session.proofs.link.handles.leave.Goals as goal

pub returns-clause-awaited : goal.returns-clause-awaited
returns-clause-awaited c =
    let same = c.insert_reserved.ensures.key ∙ c.release-name.ensures.next in
    let updates = subst (λ k. Updates c.release-name.new.handles c.insert_reserved.new.self k (Some Awaited)) same c.insert_reserved.ensures.updates in
    place_taken c.release-name.new.handles c.insert_reserved.new.self c.args.handle Awaited updates
    ∙ ap (λ (m : Handles). map.insert m c.args.handle None) c.release-name.ensures.freed
    ∙ insert_again _ c.args.handle None
