use Rattle.std.proofs.Common.{ap, sym, refl, ◌∙◌, Some, None}
use Rattle.std.specs.FinMap.{from_entries}
use Rattle.std.specs.Option.{option_copied}
use Rattle.amqp_driver.specs.contracts.plain.PlainRelayLinkRelay.TheImpl.{ghosts}
use Rattle.amqp1.specs.LinkCalls.{SettlesOf, settling_by}
use Rattle.amqp1.specs.declared.status.Status.TheVariants as status
use Rattle.amqp1.proofs.OccupantLemmas.{found_there}
use Rattle.amqp1.proofs.occupant.Occupant.settle_by.Goals as goal

pub returns-in_default : goal.returns-in_default
returns-in_default c = found_there (λ r x. SettlesOf r (settling_by ghosts.gives c.args.disposition) x status.Nothing c.args.self.now)
    c.args.session _ c.self.inside.client c.self.inside.links.entries None (sym c.self.view_is) (sym c.get.ensures.value ∙ ap option_copied c.in_default.is) (refl, sym c.self.view_is)

pub returns : goal.returns
returns c = found_there (λ r x. SettlesOf r (settling_by ghosts.gives c.args.disposition) x c.settle_by.result
    (record { client = c.settle_by.new.self; links = from_entries c.self.inside.links.entries })) c.args.session _ c.self.inside.client c.self.inside.links.entries (Some c.in-Some.links.now) (sym c.self.view_is)
    (sym c.in-Some.ensures.value) (c.settle_by.ensures, refl)
