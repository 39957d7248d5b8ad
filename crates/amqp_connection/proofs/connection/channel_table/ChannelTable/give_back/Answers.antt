use Rattle.std.proofs.Common.{rules, ◌≡◌, ◌+◌, ◌-◌, IsSome, ap, sym, subst, ◌∙◌, arith}
use Rattle.std.specs.FinMap as map
use Rattle.std.specs.BinaryHeap.{heap_items}
use Rattle.amqp_session.proofs.FiniteMapLemmas.{get_at, removed}
use Rattle.amqp_connection.proofs.LowestChannelLemmas.{each_pushed}
use Rattle.amqp_connection.proofs.connection.channel_table.ChannelTable.give_back.Goals as goal

pub unwrap-requires : goal.unwrap-requires
unwrap-requires c = subst IsSome (ap (λ m. map.get m c.args.channel.0) (sym c.self.view_is) ∙ get_at _ c.args.channel.0 ∙ sym c.swap_remove.ensures.value) c.requires

pub invariant_of-self : goal.invariant_of-self
invariant_of-self c =
    let was = subst IsSome (ap (λ m. map.get m c.args.channel.0) (sym c.self.view_is) ∙ get_at _ c.args.channel.0) c.requires in
    let sum : (65535 - c.args.channel.0) + c.args.channel.0 ≡ 65535 = omega arith in
    record {
      ordered = search rules;
      each = each_pushed (65535 - c.args.channel.0) c.args.channel.0 c.self.inside.next c.self.inside.held.entries c.swap_remove.new.self.entries (heap_items c.self.inside.free) (heap_items c.push.new.self) sum (search rules) was c.swap_remove.ensures.updates.0 c.self.invariant.each;
      count = search rules;
      room = search rules;
      within = search rules;
    }

pub returns : goal.returns
returns c = removed _ _ c.args.channel.0 c.swap_remove.ensures.updates.0 ∙ ap (λ m. map.remove m c.args.channel.0) c.self.view_is
