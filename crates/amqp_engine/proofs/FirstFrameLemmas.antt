-- The first of the frames that wait, put out where it stands.
use Rattle.std.proofs.Common.{◌≡◌, List, ◌∷◌, Option, Some, None, ap, sym, ◌∙◌}
use Rattle.amqp_session.specs.declared.frame.SessionFrame.{SessionFrame}
use Rattle.amqp_frames.specs.declared.frame.Frame.{Frame}
use Rattle.amqp_engine.specs.Waits.{sent, waits, InFront}
use Rattle.amqp_engine.specs.Inner.Putting.{DropsFirst}

-- the next one stands where the first one stood
pub dropped : (front next : Option Frame) (fs fs' : List SessionFrame) → InFront front fs → waits next fs' ≡ sent fs → DropsFirst (waits front fs) (waits next fs')
dropped None next fs fs' none same = (None, (ap sent none, same ∙ ap sent none))
dropped (Some f) next fs fs' none same = (Some f, ap (λ (xs : List Frame). f ∷ xs) (sym same))
