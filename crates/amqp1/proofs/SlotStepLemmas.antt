-- What the walks of `Slot` share. Assumes `Logic`.
use Rattle.std.proofs.Common.{◌≡◌, List, [], refl, sym, subst}
use Rattle.std.specs.Prelude.{IsSome}
use Rattle.std.proofs.lemmas.Bool.{false≢true}
use seplogic.Ra.Ura.{Ura}
use mir.Syntax.{impl, tnil, dnil}
use mir.Val.{Val}
use base.Logic.{ent, id⊢}
use types.Logic.{Logic, sem}
use denote.RattleType.{RattleType}
use Rattle.raw_box.specs.contracts.RawBox as raws
use Rattle.std.proofs.alloc.Calls.{Al}
use Rattle.std.proofs.BoxSteps.Form.{Bx, D, B}
use Rattle.std.specs.declared.option.Option.{Option}
use Rattle.std.specs.declared.option.Option.TheVariants.{None, Some}
use Rattle.std.specs.contracts.impls.GlobalAllocator.TheImpl.{ghosts}
use Rattle.std.specs.contracts.alloc.Global as heap
use Rattle.std.proofs.alloc.Global.TheLaws as heap_laws
use Rattle.amqp1.specs.OccupantView.{OccupantView}
use Rattle.amqp1.specs.contracts.occupant.Occupant as occupant
use Rattle.amqp1.proofs.occupant.Occupant.TheLaws as occupant_laws
use Rattle.amqp1.specs.declared.slot.Slot.{Slot}
use Rattle.amqp1.specs.contracts.slot.Slot as slot

-- the handle of the heap, and a box of a state from it
abbrev pub heap_al : Al
heap_al = record { row = heap.the_row; laws = heap_laws.the_row_laws; g = ghosts; d = impl [] tnil dnil; drops = impl [] tnil dnil }

abbrev pub Held : Bx
Held = record { row = occupant.the_row; laws = occupant_laws.the_row_laws; al = heap_al }

-- its parts
abbrev pub From : RattleType
From = raws.the_row occupant.the_row heap.the_row ghosts

-- the box that lies in a slot
abbrev pub held_box : Slot → OccupantView → D Held
held_box s x = record { ptr = s.at; alloc = s.alloc; value = x }

module _ {M : Type 1} {𝓤 : Ura M} (𝓛 : Logic 𝓤) where
  pub holds : (s : Slot) (x : OccupantView) (vs : List Val) → s.held ≡ Some x → ent 𝓤 (sem 𝓛 (slot.the_row.own_val s vs)) (sem 𝓛 ((B Held).own_val (held_box s x) vs))
  holds s x vs e = subst (λ (h : Option OccupantView). ent 𝓤 (sem 𝓛 (slot.the_row.own_val (record { at = s.at; alloc = s.alloc; held = h }) vs)) (sem 𝓛 ((B Held).own_val (held_box s x) vs))) (sym e) (id⊢ 𝓤 _)

-- the state that lies there
pub held_in : (h : Option OccupantView) → IsSome h → (x : OccupantView) × (h ≡ Some x)
held_in None t = absurd (false≢true t)
held_in (Some x) t = (x, refl)
