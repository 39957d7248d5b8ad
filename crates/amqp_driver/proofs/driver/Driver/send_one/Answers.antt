use Rattle.std.proofs.Common.{◌∙◌, sym, take, drop}
use Rattle.std.specs.Option.{option_map}
use Rattle.amqp_driver.specs.Sending.{size_of}
use Rattle.amqp_driver.proofs.SendingLemmas.{handles_sent}
use Rattle.amqp_driver.proofs.driver.Driver.send_one.Goals as goal

pub returns : goal.returns
returns g c = handles_sent g.R.LinkRelay.gives c.args.self.now c.args.broken c.args.head.now (take (size_of c.args.head.now) (drop c.args.at c.args.bytes.now))
    (sym c.refused_behind.ensures ∙ c.in_default.is) c.in-Some-input_handle_of.input
    (option_map (λ t. t.0) c.in-Ok.tag) c.transfer_of-transfer.result c.if-head-gt32.false c.in-Some-input_handle_of.ensures c.in-Ok.ensures.ok.0 c.transfer_of-transfer.ensures
    c.send_transfer.new.self c.in-Ok.payload c.send_transfer.result (sym c.if-not-has_room.false ∙ c.has_room.ensures) c.in-Ok.ensures.ok.1 c.send_transfer.ensures
