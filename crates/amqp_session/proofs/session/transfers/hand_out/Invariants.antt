use Rattle.std.proofs.Common.{◌≡◌, ◌+◌, ◌-◌, ◌^◌, ◌%◌, ◌<◌, ◌≤◌, ◌++◌, length, take, drop, vec_len, vec_capacity}
use Rattle.amqp_session.specs.Transfers.{numbered, firsts, opened}
use Rattle.amqp_session.proofs.session.transfers.hand_out.Given as goal

abbrev pub invariant-loop-i : goal.invariant-loop-i
invariant-loop-i l = record {
  within : l.i ≤ l.count;
  fits : l.delivery < 2 ^ 32;
  enough : l.count - l.i ≤ length l.held.items;
  room : vec_len l.frames + (l.count - l.i) ≤ vec_capacity l.frames;
  records : length l.deliveries.rows + (l.count - l.i) ≤ l.deliveries.capacity;
  rest : drop (l.count - l.i) l.held.items ≡ drop l.count l.fn.held.items;
  said : l.frames.items ++ numbered l.channel.0 l.delivery (take (l.count - l.i) l.held.items) ≡ l.fn.frames.items ++ numbered l.channel.0 l.first (take l.count l.fn.held.items);
  deliveries : (l.delivery + firsts (take (l.count - l.i) l.held.items)) % 2 ^ 32 ≡ (l.first + firsts (take l.count l.fn.held.items)) % 2 ^ 32;
  reads : l.deliveries.reads ≡ l.fn.deliveries.reads;
  opens : opened l.delivery (take (l.count - l.i) l.held.items) l.deliveries.rows ≡ opened l.first (take l.count l.fn.held.items) l.fn.deliveries.rows;
}
