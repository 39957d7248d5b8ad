use Rattle.std.proofs.Common.{ap, sym, refl, ◌∙◌, Some, None}
use Rattle.std.specs.FinMap.{from_entries}
use Rattle.std.specs.HashMap.{HashMap}
use Rattle.std.specs.Option.{option_copied_mut}
use Rattle.amqp_endpoints.specs.declared.event.LinkEvent.TheVariants.{Nothing}
use Rattle.amqp_endpoints.specs.Waiting.{TakesDue}
use Rattle.amqp1.specs.LinkCalls.{StepsBy}
use Rattle.amqp1.proofs.OccupantLemmas.{found_there, lent}
use Rattle.amqp1.proofs.occupant.Occupant.due_next.Goals as goal

pub returns-in_default : goal.returns-in_default
returns-in_default c = found_there (λ r x. StepsBy r Nothing (λ v y w. TakesDue v.late v x.client.stream y w) c.args.session x Nothing (record { client = c.self.inside.client; links = from_entries c.get_mut.follows.lender-at-none.entries })) c.args.session _ c.self.inside.client c.self.inside.links.entries None (sym c.self.view_is) (sym c.get_mut.ensures.value ∙ ap option_copied_mut c.in_default.is) (refl, ap (λ (m : HashMap _ _ _). record { client = c.self.inside.client; links = from_entries m.entries }) c.get_mut.follows.holds-at-none)

pub returns : goal.returns
returns c = found_there (λ r x. StepsBy r Nothing (λ v y w. TakesDue v.late v x.client.stream y w) c.args.session x c.due_next.result (record { client = c.self.inside.client; links = from_entries (c.get_mut.follows.lender c.due_next.new.links).entries })) c.args.session _ c.self.inside.client c.self.inside.links.entries (Some c.in-Some.links.now) (sym c.self.view_is)
    (sym c.in-Some.ensures.value) (c.due_next.new.links, c.due_next.ensures, ap (λ m. record { client = c.self.inside.client; links = m }) (lent c.self.inside.links.entries _ c.args.session c.in-Some.links.now c.due_next.new.links (sym c.in-Some.ensures.value) (c.get_mut.follows.holds c.due_next.new.links)))
