use Rattle.std.proofs.Common.{rules, ◌≡◌, ℕ, ◌+◌, ◌-◌, ◌<◌, length, List, refl, ap, sym, ◌∙◌, arith, slice_index_or, nat_eq, [], ◌∷◌}
use Rattle.std.specs.FinMap as map
use Rattle.std.specs.BinaryHeap.{heap_items}
use Rattle.std.specs.Map.{lookup}
use Rattle.amqp_memory.proofs.RefusalLemmas.{some}
use Rattle.amqp_session.proofs.FiniteMapLemmas.{inserted, get_at}
use Rattle.amqp_connection.proofs.LowestChannelLemmas.{lowest_at, lowest_next, all_held, each_popped, empty}
use Rattle.amqp_connection.proofs.connection.channel_table.ChannelTable.allot.Goals as goal

first_is : (xs : List ℕ) (a b : ℕ) → 0 < length xs → a ≡ slice_index_or xs 0 a → b ≡ slice_index_or xs 0 b → a ≡ b
first_is [] a b h ea eb = absurd (omega arith)
first_is (x ∷ xs) a b h ea eb = ea ∙ sym eb

pub returns-then-channel-max : goal.returns-then-channel-max
returns-then-channel-max c =
    let low = lowest_at _ _ _ _ _ _ _ c.in-Some.top.now c.self.invariant c.self.view_is (search rules) (search rules) c.in-Some.ensures.lookup (c.in-Some.ensures.greatest c.self.invariant.ordered) in
    (all_held _ _ c.args.max low c.if-channel-max.true, refl)

pub returns-in_default : goal.returns-in_default
returns-in_default c =
    let low = lowest_at _ _ _ _ _ _ _ c.in-Some.top.now c.self.invariant c.self.view_is (search rules) (search rules) c.in-Some.ensures.lookup (c.in-Some.ensures.greatest c.self.invariant.ordered) in
    ((65535 - c.in-Some.top.now, low, c.if-channel-max.false), ap map.from_entries c.more_in_map.ensures.entries ∙ c.self.view_is, some (omega arith) c.in_default.ensures.refused)

pub returns-then-self-from : goal.returns-then-self-from
returns-then-self-from c =
    let low = lowest_next _ _ _ _ _ _ _ c.self.invariant c.self.view_is (empty (heap_items c.self.inside.free) (search rules)) in
    (all_held _ _ c.args.max low (search rules), refl)

pub returns-in_default-more_in_map : goal.returns-in_default-more_in_map
returns-in_default-more_in_map c =
    let low = lowest_next _ _ _ _ _ _ _ c.self.invariant c.self.view_is (empty (heap_items c.self.inside.free) (search rules)) in
    ((c.self.inside.next, low, search rules), ap map.from_entries c.more_in_map-in-None.ensures.entries ∙ c.self.view_is, some (omega arith) c.in_default-more_in_map.ensures.refused)

pub returns-in_default-more_in_heap : goal.returns-in_default-more_in_heap
returns-in_default-more_in_heap c =
    let low = lowest_next _ _ _ _ _ _ _ c.self.invariant c.self.view_is (empty (heap_items c.self.inside.free) (search rules)) in
    ((c.self.inside.next, low, search rules), ap map.from_entries c.more_in_map-in-None.ensures.entries ∙ c.self.view_is, some (omega (arith, c.self.invariant.within)) c.in_default-more_in_heap.ensures.refused)

pub returns-in-Ok : goal.returns-in-Ok
returns-in-Ok c =
    let low = lowest_at _ _ _ _ _ _ _ c.in-Some.top.now c.self.invariant c.self.view_is (search rules) (search rules) c.in-Some.ensures.lookup (c.in-Some.ensures.greatest c.self.invariant.ordered) in
    (low, c.if-channel-max.false, inserted _ _ _ c.args.number (search rules) ∙ ap (λ m. map.insert m (65535 - c.in-Some.top.now) c.args.number) (ap map.from_entries c.more_in_map.ensures.entries ∙ c.self.view_is))

pub returns-in-Ok-more_in_heap : goal.returns-in-Ok-more_in_heap
returns-in-Ok-more_in_heap c =
    let low = lowest_next _ _ _ _ _ _ _ c.self.invariant c.self.view_is (empty (heap_items c.self.inside.free) (search rules)) in
    (low, search rules, inserted _ _ _ c.args.number (search rules) ∙ ap (λ m. map.insert m c.self.inside.next c.args.number) (ap map.from_entries c.more_in_map-in-None.ensures.entries ∙ c.self.view_is))

pub invariant_of-self-in-Some : goal.invariant_of-self-in-Some
invariant_of-self-in-Some c =
    let low = lowest_at _ _ _ _ _ _ _ c.in-Some.top.now c.self.invariant c.self.view_is (search rules) (search rules) c.in-Some.ensures.lookup (c.in-Some.ensures.greatest c.self.invariant.ordered) in
    let same : c.unwrap.result ≡ c.in-Some.top.now = first_is (heap_items c.self.inside.free) _ _ (search rules) (search rules) c.in-Some.ensures.lookup in
    let sum : c.unwrap.result + (65535 - c.in-Some.top.now) ≡ 65535 = omega (arith, same) in
    let old = rw c.unwrap-in-Some.ensures at c.insert.ensures.old in
    let len = rw c.unwrap-in-Some.ensures at c.insert.ensures.len in
    let fewer = rw c.unwrap.ensures at c.pop.ensures.len in
    let none = old ∙ ap (λ es. lookup (nat_eq (65535 - c.in-Some.top.now)) es) c.more_in_map.ensures.entries ∙ sym (get_at c.self.inside.held.entries (65535 - c.in-Some.top.now)) ∙ ap (λ m. map.get m (65535 - c.in-Some.top.now)) c.self.view_is ∙ low.free in
    let more = rw none at len in
    record {
      ordered = search rules;
      each = each_popped c.unwrap.result (65535 - c.in-Some.top.now) c.args.number c.self.inside.next c.self.inside.held.entries c.insert.new.self.entries (heap_items c.self.inside.free) (heap_items c.pop.new.self) sum (search rules) (search rules) c.self.invariant.each;
      count = omega (arith, c.self.invariant.count, fewer, more, ap length c.more_in_map.ensures.entries);
      room = search rules;
      within = search rules;
    }
