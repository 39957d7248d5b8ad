-- The canonical text of each performative that a program holds is in the grammar.
use Rattle.amqp_types.specs.declared.performatives.Performative.{Performative}
use Rattle.amqp_types.specs.declared.performatives.Performative.TheVariants.{Open, Begin, Attach, Flow, Transfer, Disposition, Detach, End, Close}
use Rattle.amqp_types.specs.Performatives.{IsPerformative, performative_text}
use Rattle.amqp_types.specs.Inner.Held.{Held}
use Rattle.amqp_values.proofs.SlotCanonicalLemmas.{Fits}
use Rattle.amqp_types.proofs.BodyCanonicalLemmas.{open_canonical, begin_canonical, attach_canonical, flow_canonical, transfer_canonical, disposition_canonical, detach_canonical, end_canonical, close_canonical}

pub performative_canonical : (p : Performative) → Held p → Fits (performative_text p) → IsPerformative p (performative_text p)
performative_canonical (Open p) h fits = open_canonical p h fits
performative_canonical (Begin p) h fits = begin_canonical p h fits
performative_canonical (Attach p) h fits = attach_canonical p h fits
performative_canonical (Flow p) h fits = flow_canonical p h fits
performative_canonical (Transfer p) h fits = transfer_canonical p h fits
performative_canonical (Disposition p) h fits = disposition_canonical p h fits
performative_canonical (Detach p) h fits = detach_canonical p h fits
performative_canonical (End p) h fits = end_canonical p h fits
performative_canonical (Close p) h fits = close_canonical p h fits
