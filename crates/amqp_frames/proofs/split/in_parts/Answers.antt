use Rattle.std.proofs.Common.{◌≡◌, ◌++◌, ◌-◌, ◌*◌, ◌/◌, [], ◌∷◌, ℕ, true, false, take, drop, length, refl, ap, ◌∙◌}
use Rattle.amqp_types.specs.Transfer.{TransferModel, continuation, said_in}
use Rattle.amqp_types.specs.declared.performatives.transfer.TransferFragment.TheVariants as text
use Rattle.amqp_frames.specs.declared.split.DeliveryPart.{DeliveryPart}
use Rattle.amqp_frames.proofs.DeliverySplitLemmas.{in_parts, adds_from}
use Rattle.amqp_frames.proofs.split.in_parts.Goals as goal

pub returns-clause-parts : goal.returns-clause-parts
returns-clause-parts c =
    let t = c.args.transfer.now in
    let p = c.args.payload.now in
    let clone : c.in_ok-rest.rest ≡ p = c.in_ok-rest.ensures.ok in
    let first : DeliveryPart = record { transfer = c.in_ok-begun.field-0; payload = c.in_ok-front_of.field-0; is_first = true } in
    let last : DeliveryPart = record { transfer = c.in_ok-continued.field-0; payload = c.put_middle.new.rest; is_first = false } in
    let one = c.push_reserved-2.ensures.items ∙ ap (λ r. r ++ first ∷ []) c.in_ok-parts.ensures.items in
    in_parts t p c.args.front c.args.step first last c.put_middle.new.parts.items c.push_reserved-3.new.self.items c.front_of.new.bytes c.put_middle.new.rest
    c.requires.some c.requires.step
    (refl, c.in_ok-begun.ensures.part)
    (c.in_ok-front_of.ensures.front ∙ ap (take c.args.front) clone)
    (c.in_ok-front_of.ensures.rest ∙ ap (drop c.args.front) clone)
    (adds_from (said_in text.Middle t) c.args.step c.push_reserved-2.new.self.items (first ∷ []) c.put_middle.new.parts.items c.front_of.new.bytes c.put_middle.new.rest
    (c.args.step * ((c.len.result - c.args.front - 1) / c.args.step)) (c.args.step * ((length p - c.args.front - 1) / c.args.step))
    one (ap (λ (n : ℕ). c.args.step * ((n - c.args.front - 1) / c.args.step)) c.len.ensures.value) c.in_ok-put_middle.ensures.added)
    (refl, c.in_ok-continued.ensures.part ∙ ap (λ (x : TransferModel). record (continuation t) { more = x.more }) c.transfer.view_is)
    refl
    c.push_reserved-3.ensures.items
