-- The row of what a box is made of. Assumes nothing: this is a definition.
use denote.RattleType.{RattleType}
use Rattle.std.proofs.BoxSteps.Form.{Bx, R, P}
use Rattle.raw_box.specs.contracts.RawBox as raws

abbrev pub Raw : Bx → RattleType
Raw E = raws.the_row (R E) (P E) E.al.g
