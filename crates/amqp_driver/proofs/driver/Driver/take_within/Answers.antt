use Rattle.std.proofs.Common.{◌≤◌, ◌+◌, Bool, inl, refl, sym, subst, ◌∙◌, slice_set, arith}
use Rattle.amqp_driver.specs.declared.status.Status.TheVariants as status
use Rattle.amqp_driver.specs.Taking.{Took}
use Rattle.amqp_driver.proofs.TakingLemmas.{goes_on, not_run, room_left, says, told_nothing, told_one}
use Rattle.amqp_driver.proofs.driver.Driver.take_within.Goals as goal

pub returns-in-Err : goal.returns-in-Err
returns-in-Err g c = says g.R.LinkRelay.gives c.args.limit c.args.self.now c.frames.self c.args.input.now c.args.records.now c.frames.records
    c.stopped-in-Err.result (record { status = status.NoMemory; taken = c.frames.taken; written = c.frames.written; wanted = 0 }) c.stopped-in-Err.ensures
    (not_run g.R.LinkRelay.gives c.args.limit c.args.self.now c.frames.self c.frames.self c.args.input.now c.frames.taken c.in-Whole.size c.args.records.now
    c.frames.written c.frames.records c.frames.invariant.took (goes_on c.frames.self c.is_over.result c.is_over.ensures c.if-is_over.false) c.in-Whole.ensures
    (room_left g.R.LinkRelay.gives c.args.limit c.args.self.now c.frames.self c.args.input.now c.frames.taken c.args.records.now c.frames.written c.frames.records
    c.frames.invariant.took c.if-written-records.false)
    (c.in-Err.ensures.refused, inl refl))

pub returns-in-NoMemory : goal.returns-in-NoMemory
returns-in-NoMemory g c = says g.R.LinkRelay.gives c.args.limit c.args.self.now c.take_one.new.self c.args.input.now c.args.records.now c.frames.records
    c.stopped-in-NoMemory.result (record { status = status.NoMemory; taken = c.frames.taken; written = c.frames.written; wanted = 0 }) c.stopped-in-NoMemory.ensures
    (not_run g.R.LinkRelay.gives c.args.limit c.args.self.now c.frames.self c.take_one.new.self c.args.input.now c.frames.taken c.in-Whole.size c.args.records.now
    c.frames.written c.frames.records c.frames.invariant.took (goes_on c.frames.self c.is_over.result c.is_over.ensures c.if-is_over.false) c.in-Whole.ensures
    (room_left g.R.LinkRelay.gives c.args.limit c.args.self.now c.frames.self c.args.input.now c.frames.taken c.args.records.now c.frames.written c.frames.records
    c.frames.invariant.took c.if-written-records.false)
    c.in-NoMemory.ensures)

pub frames-preserved-in-Nothing : goal.frames-preserved-in-Nothing
frames-preserved-in-Nothing g c = record {
  took = told_nothing g.R.LinkRelay.gives c.args.limit c.args.self.now c.frames.self c.take_one.new.self c.args.input.now c.frames.taken c.in-Whole.size
      c.args.records.now c.frames.written c.frames.records c.frames.invariant.took (goes_on c.frames.self c.is_over.result c.is_over.ensures c.if-is_over.false) c.in-Whole.ensures c.in-Nothing.ensures;
  copy = c.in-Ok.ensures.copy;
  from = let h : c.in-Ok.copied.start ≤ c.frames.taken = c.in-Ok.ensures.from in omega arith;
}

pub frames-preserved : goal.frames-preserved
frames-preserved g c = record {
  took = subst (λ (b : Bool). Took g.R.LinkRelay.gives c.args.limit c.args.self.now c.args.input.now (c.frames.taken + c.in-Whole.size) c.args.records.now
      (c.frames.written + 1) b c.take_one.new.self (slice_set c.frames.records c.frames.written c.in-One.record))
      (sym c.is_wanted.ensures ∙ c.if-is_wanted.false)
      (told_one g.R.LinkRelay.gives c.args.limit c.args.self.now c.frames.self c.take_one.new.self c.args.input.now c.frames.taken c.in-Whole.size
      c.args.records.now c.frames.written c.frames.records c.frames.invariant.took (goes_on c.frames.self c.is_over.result c.is_over.ensures c.if-is_over.false)
      c.in-Whole.ensures c.in-One.record
      (slice_set c.frames.records c.frames.written c.in-One.record)
      (room_left g.R.LinkRelay.gives c.args.limit c.args.self.now c.frames.self c.args.input.now c.frames.taken c.args.records.now c.frames.written c.frames.records
      c.frames.invariant.took c.if-written-records.false)
      refl c.in-One.ensures);
  copy = c.in-Ok.ensures.copy;
  from = let h : c.in-Ok.copied.start ≤ c.frames.taken = c.in-Ok.ensures.from in omega arith;
}

pub returns-then-is_wanted : goal.returns-then-is_wanted
returns-then-is_wanted g c = says g.R.LinkRelay.gives c.args.limit c.args.self.now c.take_one.new.self c.args.input.now c.args.records.now
    (slice_set c.frames.records c.frames.written c.in-One.record) c.stopped-then-is_wanted.result
    (record { status = status.Again; taken = c.frames.taken + c.in-Whole.size; written = c.frames.written + 1; wanted = 0 }) c.stopped-then-is_wanted.ensures (
      subst (λ (b : Bool). Took g.R.LinkRelay.gives c.args.limit c.args.self.now c.args.input.now (c.frames.taken + c.in-Whole.size) c.args.records.now
          (c.frames.written + 1) b c.take_one.new.self (slice_set c.frames.records c.frames.written c.in-One.record))
          (sym c.is_wanted.ensures ∙ c.if-is_wanted.true)
          (told_one g.R.LinkRelay.gives c.args.limit c.args.self.now c.frames.self c.take_one.new.self c.args.input.now c.frames.taken c.in-Whole.size
          c.args.records.now c.frames.written c.frames.records c.frames.invariant.took (goes_on c.frames.self c.is_over.result c.is_over.ensures c.if-is_over.false)
          c.in-Whole.ensures c.in-One.record
          (slice_set c.frames.records c.frames.written c.in-One.record)
          (room_left g.R.LinkRelay.gives c.args.limit c.args.self.now c.frames.self c.args.input.now c.frames.taken c.args.records.now c.frames.written c.frames.records
          c.frames.invariant.took c.if-written-records.false)
          refl c.in-One.ensures),
      refl,
    )
