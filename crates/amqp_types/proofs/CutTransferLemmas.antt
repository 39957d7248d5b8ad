-- The transfers of a delivery that is cut hold what its whole transfer holds, so their canonical texts are in the grammar.
use Rattle.std.proofs.Common.{subst}
use Rattle.amqp_types.specs.declared.performatives.Performative.{Performative}
use Rattle.amqp_types.specs.declared.performatives.Performative.TheVariants.{Transfer}
use Rattle.amqp_types.specs.declared.performatives.transfer.TransferFragment.{TransferFragment}
use Rattle.amqp_types.specs.declared.performatives.transfer.TransferFragment.TheVariants.{Whole, First, Middle, Last}
use Rattle.amqp_types.specs.Transfer.{TransferModel, said_in}
use Rattle.amqp_types.specs.Inner.Held.{TransferHeld, Held}
use Rattle.amqp_types.specs.Spelled.{CutIsSpelled, TextsAreSpelled}
use Rattle.amqp_types.proofs.PerformativeCanonicalLemmas.{performative_canonical}

held_in : (text : TransferFragment) (t : TransferModel) → TransferHeld t → TransferHeld (said_in text t)
held_in Whole t h = h
held_in First t h = record { handle = h.handle; delivery_id = h.delivery_id; message_format = h.message_format; state = h.state }
held_in Middle t h = record { handle = h.handle; delivery_id = tt; message_format = tt; state = h.state }
held_in Last t h = record { handle = h.handle; delivery_id = tt; message_format = tt; state = h.state }

pub texts_spelled : (t : TransferModel) → TransferHeld t → TextsAreSpelled t
texts_spelled t h text = performative_canonical (Transfer (said_in text t)) (held_in text t h)

pub cut_spelled : (p : Performative) → Held p → CutIsSpelled p
cut_spelled p h t e = texts_spelled t (subst (λ (x : Performative). Held x) e h)
