use Rattle.std.proofs.Common.{◌≤◌, ◌<◌, ◌+◌, ℕ, Option, inl, refl, sym, subst, length, get_or, set, arith}
use Rattle.amqp_driver.specs.declared.copied.Copied.{Copied}
use Rattle.amqp_driver.specs.declared.head.Broken.{Broken}
use Rattle.amqp_driver.specs.Driver.{Mirrors}
use Rattle.amqp_driver.specs.declared.head.TransferHead.{TransferHead}
use Rattle.amqp_driver.specs.declared.status.Status.TheVariants as status
use Rattle.amqp_driver.specs.Sending.{PostsSo, left_behind, size_of}
use Rattle.amqp_driver.proofs.SendingLemmas.{below, bytes_lack, bytes_there, place_there, posted_so, posts_next, posts_none, sends_not, sends_short}
use Rattle.amqp_driver.proofs.driver.Driver.send.Goals as goal

pub heads-init : goal.heads-init
heads-init g c = record {
  posts = posts_none g.R.LinkRelay.gives c.args.self.now c.args.heads.now c.args.bytes.now c.args.sent.now;
  copy = subst (λ (x : Copied). Mirrors x c.args.bytes.now) (sym c.none-copied.ensures) (record { order = omega arith; within = omega arith; is = refl });
  from = subst (λ (x : Copied). x.start ≤ 0) (sym c.none-copied.ensures) (omega arith);
  within = omega arith;
  inside = omega arith;
  places = omega arith;
}

pub returns-then-bytes-used : goal.returns-then-bytes-used
returns-then-bytes-used g c =
    let none : TransferHead = record { session = 0; link = 0; format = 0; payload = 0; flags = 0; tag_size = 0 } in
    posted_so g.R.LinkRelay.gives c.args.self.now c.heads.self c.args.heads.now c.args.bytes.now c.args.sent.now c.heads.sent
    c.posted-then-bytes-used.result (record { status = status.Short; taken = c.heads.taken; used = c.heads.used }) c.posted-then-bytes-used.ensures
    (sends_short g.R.LinkRelay.gives c.args.self.now c.heads.self c.args.heads.now c.args.bytes.now c.args.sent.now c.heads.taken c.heads.used c.heads.sent
    c.heads.invariant.posts.0 (get_or c.args.heads.now c.heads.taken none) none
    (below c.heads.taken (length c.args.heads.now) c.heads.invariant.within c.if-taken-heads.false) refl
    (below c.heads.taken (length c.heads.sent) c.heads.invariant.places c.if-taken-sent.false)
    (bytes_lack c.heads.used c.size_of-size.result (size_of (get_or c.args.heads.now c.heads.taken none)) (length c.args.bytes.now)
    c.size_of-size.ensures.size c.if-bytes-used.true c.heads.invariant.inside))

pub returns-in-Err : goal.returns-in-Err
returns-in-Err g c =
    let none : TransferHead = record { session = 0; link = 0; format = 0; payload = 0; flags = 0; tag_size = 0 } in
    posted_so g.R.LinkRelay.gives c.args.self.now c.heads.self c.args.heads.now c.args.bytes.now c.args.sent.now c.heads.sent
    c.posted-in-Err.result (record { status = status.NoMemory; taken = c.heads.taken; used = c.heads.used }) c.posted-in-Err.ensures
    (sends_not g.R.LinkRelay.gives c.args.self.now c.heads.self c.heads.self c.args.heads.now c.args.bytes.now c.args.sent.now c.heads.taken c.heads.used c.heads.sent
    c.heads.invariant.posts.0 (get_or c.args.heads.now c.heads.taken none) none
    (below c.heads.taken (length c.args.heads.now) c.heads.invariant.within c.if-taken-heads.false) refl
    (bytes_there c.heads.used c.size_of-size.result (size_of (get_or c.args.heads.now c.heads.taken none)) (length c.args.bytes.now)
    c.size_of-size.ensures.size c.if-bytes-used.false c.heads.invariant.inside)
    (below c.heads.taken (length c.heads.sent) c.heads.invariant.places c.if-taken-sent.false)
    (c.in-Err.ensures.refused, inl refl))

pub returns-in_default : goal.returns-in_default
returns-in_default g c =
    let none : TransferHead = record { session = 0; link = 0; format = 0; payload = 0; flags = 0; tag_size = 0 } in
    posted_so g.R.LinkRelay.gives c.args.self.now c.send_one.new.self c.args.heads.now c.args.bytes.now c.args.sent.now c.heads.sent
    c.posted-in_default.result (record { status = status.NoMemory; taken = c.heads.taken; used = c.heads.used }) c.posted-in_default.ensures
    (sends_not g.R.LinkRelay.gives c.args.self.now c.heads.self c.send_one.new.self c.args.heads.now c.args.bytes.now c.args.sent.now c.heads.taken c.heads.used
    c.heads.sent c.heads.invariant.posts.0 (get_or c.args.heads.now c.heads.taken none) none
    (below c.heads.taken (length c.args.heads.now) c.heads.invariant.within c.if-taken-heads.false) refl
    (bytes_there c.heads.used c.size_of-size.result (size_of (get_or c.args.heads.now c.heads.taken none)) (length c.args.bytes.now)
    c.size_of-size.ensures.size c.if-bytes-used.false c.heads.invariant.inside)
    (below c.heads.taken (length c.heads.sent) c.heads.invariant.places c.if-taken-sent.false)
    c.in_default.ensures)

pub heads-preserved : goal.heads-preserved
heads-preserved g c =
    let none : TransferHead = record { session = 0; link = 0; format = 0; payload = 0; flags = 0; tag_size = 0 } in
    let more : c.heads.taken < length c.args.heads.now = below c.heads.taken (length c.args.heads.now) c.heads.invariant.within c.if-taken-heads.false in
    let place : c.heads.taken < length c.heads.sent = below c.heads.taken (length c.heads.sent) c.heads.invariant.places c.if-taken-sent.false in
    let room : c.heads.used + size_of (get_or c.args.heads.now c.heads.taken none) ≤ length c.args.bytes.now =
    bytes_there c.heads.used c.size_of-size.result (size_of (get_or c.args.heads.now c.heads.taken none)) (length c.args.bytes.now)
    c.size_of-size.ensures.size c.if-bytes-used.false c.heads.invariant.inside in
    record {
      posts = subst (λ (b : Option Broken). PostsSo g.R.LinkRelay.gives c.args.self.now c.args.heads.now c.args.bytes.now c.args.sent.now (c.heads.taken + 1)
          (c.heads.used + c.size_of-size.result) c.send_one.new.self (set c.heads.sent c.heads.taken c.in-Some.told) b) (sym c.left_behind-broken.ensures)
          (subst (λ (m : ℕ). PostsSo g.R.LinkRelay.gives c.args.self.now c.args.heads.now c.args.bytes.now c.args.sent.now (c.heads.taken + 1) (c.heads.used + m)
          c.send_one.new.self (set c.heads.sent c.heads.taken c.in-Some.told) (left_behind c.heads.broken (get_or c.args.heads.now c.heads.taken none) c.in-Some.told)) (sym c.size_of-size.ensures.size)
          (posts_next g.R.LinkRelay.gives c.args.self.now c.heads.self c.send_one.new.self c.args.heads.now c.args.bytes.now c.args.sent.now c.heads.taken
          c.heads.used c.heads.sent c.heads.invariant.posts.0 (get_or c.args.heads.now c.heads.taken none) none more refl room c.heads.broken c.heads.invariant.posts.1 c.in-Some.told
          (set c.heads.sent c.heads.taken c.in-Some.told) place refl c.in-Some.ensures));
      copy = c.in-Ok.ensures.copy;
      from = let h : c.in-Ok.copied.start ≤ c.heads.used = c.in-Ok.ensures.from in omega arith;
      within = omega arith;
      inside = subst (λ (m : ℕ). c.heads.used + m ≤ length c.args.bytes.now) (sym c.size_of-size.ensures.size) room;
      places = place_there c.heads.sent c.heads.taken c.in-Some.told place;
    }
