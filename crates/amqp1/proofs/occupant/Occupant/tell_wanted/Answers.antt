use Rattle.std.proofs.Common.{ap, sym, refl, ◌∙◌, Some, None}
use Rattle.std.specs.FinMap.{from_entries}
use Rattle.std.specs.HashMap.{HashMap}
use Rattle.std.specs.Option.{option_copied_mut}
use Rattle.std.specs.Prelude.{Ok}
use Rattle.amqp_endpoints.specs.declared.event.LinkEvent.TheVariants.{Nothing}
use Rattle.amqp_endpoints.specs.Reading.{first_attach}
use Rattle.amqp_endpoints.specs.Telling.{TellsAttach}
use Rattle.amqp1.specs.LinkCalls.{StepsBy}
use Rattle.amqp1.proofs.OccupantLemmas.{found_there, lent}
use Rattle.amqp1.proofs.occupant.Occupant.tell_wanted.Goals as goal

pub returns-in_default : goal.returns-in_default
returns-in_default c = found_there (λ r x. StepsBy r (Ok Nothing) (λ v y w. TellsAttach v c.args.told.now c.args.link (first_attach c.args.told.now) y w) c.args.told.now.session x (Ok Nothing) (record { client = c.self.inside.client; links = from_entries c.get_mut.follows.lender-at-none.entries })) c.args.told.now.session _ c.self.inside.client c.self.inside.links.entries None (sym c.self.view_is) (sym c.get_mut.ensures.value ∙ ap option_copied_mut c.in_default.is) (refl, ap (λ (m : HashMap _ _ _). record { client = c.self.inside.client; links = from_entries m.entries }) c.get_mut.follows.holds-at-none)

pub returns : goal.returns
returns c = found_there (λ r x. StepsBy r (Ok Nothing) (λ v y w. TellsAttach v c.args.told.now c.args.link (first_attach c.args.told.now) y w) c.args.told.now.session x c.on_wanted.result (record { client = c.self.inside.client; links = from_entries (c.get_mut.follows.lender c.on_wanted.new.self).entries })) c.args.told.now.session _ c.self.inside.client c.self.inside.links.entries (Some c.in-Some.links.now) (sym c.self.view_is)
    (sym c.in-Some.ensures.value) (c.on_wanted.new.self, c.on_wanted.ensures, ap (λ m. record { client = c.self.inside.client; links = m }) (lent c.self.inside.links.entries _ c.args.told.now.session c.in-Some.links.now c.on_wanted.new.self (sym c.in-Some.ensures.value) (c.get_mut.follows.holds c.on_wanted.new.self)))
