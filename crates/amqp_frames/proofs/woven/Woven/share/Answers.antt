use Rattle.std.proofs.Common.{◌-◌, refl}
use Rattle.amqp_frames.specs.declared.woven.SharedPart.{SharedPart}
use Rattle.amqp_frames.proofs.SharedPartLemmas.{more_parts, shared}
use Rattle.amqp_frames.proofs.woven.Woven.share.Goals as goal

pub invariant_of-self : goal.invariant_of-self
invariant_of-self c =
    let s : SharedPart = record { before = c.len-len.result - c.self.inside.placed; part = c.args.part } in
    more_parts c.self.inside.shared.items c.push_back_reserved.new.self.items c.self.inside.placed _ c.len-len.result s c.self.invariant c.len-len.ensures.value refl c.requires.some c.push_back_reserved.ensures.items

pub returns-clause-waits : goal.returns-clause-waits
returns-clause-waits c =
    let s : SharedPart = record { before = c.len-len.result - c.self.inside.placed; part = c.args.part } in
    rw (← c.self.view_is) (shared c.self.inside.shared.items c.push_back_reserved.new.self.items c.self.inside.buffer.items c.self.inside.placed c.len-len.result s c.self.invariant c.len-len.ensures.value refl c.push_back_reserved.ensures.items)
