use Rattle.std.proofs.Common.{ap, sym, refl, ◌∙◌, Some, None}
use Rattle.std.specs.FinMap.{from_entries}
use Rattle.std.specs.HashMap.{HashMap}
use Rattle.std.specs.Option.{option_copied_mut}
use Rattle.amqp_driver.specs.contracts.plain.PlainRelayLinkRelay.TheImpl.{ghosts}
use Rattle.std.specs.Prelude.{Err}
use Rattle.amqp1.specs.LinkCalls.{AttachesBy}
use Rattle.amqp1.specs.declared.status.Status.TheVariants as status
use Rattle.amqp1.proofs.OccupantLemmas.{found_there, lent}
use Rattle.amqp1.proofs.occupant.Occupant.attach_on.Goals as goal

pub returns-in_default : goal.returns-in_default
returns-in_default c = found_there (λ r x. AttachesBy r ghosts.gives c.args.session c.args.name.now c.args.attach c.args.renewal x (Err status.Nothing) (record { client = c.self.inside.client; links = from_entries c.get_mut.follows.lender-at-none.entries })) c.args.session _ c.self.inside.client c.self.inside.links.entries None (sym c.self.view_is) (sym c.get_mut.ensures.value ∙ ap option_copied_mut c.in_default.is) (refl, ap (λ (m : HashMap _ _ _). record { client = c.self.inside.client; links = from_entries m.entries }) c.get_mut.follows.holds-at-none)

pub returns : goal.returns
returns c = found_there (λ r x. AttachesBy r ghosts.gives c.args.session c.args.name.now c.args.attach c.args.renewal x c.attach.result (record { client = c.attach.new.self; links = from_entries (c.get_mut.follows.lender c.attach.new.links).entries })) c.args.session _ c.self.inside.client c.self.inside.links.entries (Some c.in-Some.links.now) (sym c.self.view_is)
    (sym c.in-Some.ensures.value) (c.attach.new.links, c.attach.ensures, lent c.self.inside.links.entries _ c.args.session c.in-Some.links.now c.attach.new.links (sym c.in-Some.ensures.value) (c.get_mut.follows.holds c.attach.new.links))
