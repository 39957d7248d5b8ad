-- Part: inner.
-- What a `Slot` owns: a box's block where a client lies in it, else nothing. Assumes nothing: this is a definition.
use Rattle.std.specs.declared.option.Option.{Option}
use Rattle.std.specs.declared.option.Option.TheVariants.{None, Some}
use Rattle.std.specs.Global.{Global}
use Rattle.std.specs.contracts.impls.GlobalAllocator.TheImpl.{ghosts}
use Rattle.std.specs.Box.Ownership.{box_owns}
use Rattle.amqp1.specs.OccupantView.{OccupantView}
use Rattle.amqp1.specs.contracts.occupant.Occupant.{the_row}
use base.Fml.{Fml, ftrue}
use denote.RawPtr.{Ptr}

abbrev pub slot_owns : Global → Ptr → Option OccupantView → Fml
slot_owns alloc p None = ftrue
slot_owns alloc p (Some x) = box_owns (ghosts.dealloc_token alloc) the_row p x
