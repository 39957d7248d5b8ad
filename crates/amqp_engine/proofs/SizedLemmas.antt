-- Under the limit of a max-frame-size each piece has a size.
use Rattle.std.proofs.Common.{◌≡◌, ℕ, ◌-◌, ◌^◌, ◌≤◌, ◌⊎◌, List, Result, Ok, Err, subst}
use Rattle.std.specs.Prelude.{IfErr}
use Rattle.amqp_memory.specs.Refusal.{SomeRefused}
use Rattle.amqp_frames.specs.declared.frame.Frame.{Frame}
use Rattle.amqp_frames.specs.declared.error.Error.{Error}
use Rattle.amqp_frames.specs.declared.error.Error.TheVariants as no
use Rattle.amqp_frames.specs.Cut.{Fits}
use Rattle.amqp_frames.specs.Wire.{EncodesTo, HasNoSize, HasRoomFor, IsNotSent, SendBufferView}
use Rattle.amqp_frames.proofs.SentFrameLemmas.{lacking_under, refused_under}

-- so what is not sent for want of memory was refused it
pub refused_sized : (f : Frame) (m : ℕ) (old new : List ℕ) (r : Result (Unit {0}) Error) → m ≤ 2 ^ 32 - 5 → EncodesTo f m old r new → IfErr r (λ e. e ≡ no.OutOfMemory → SomeRefused)
refused_sized f m old new (Ok u) le e = tt
refused_sized f m old new (Err x) le e = λ is. refused_under f m le (subst (λ y. IsNotSent f m y) is e.0)

-- and it fits, and had no room
pub lacking_sized : (f : Frame) (m : ℕ) (old new : List ℕ) (out : SendBufferView) (r : Result (Unit {0}) Error) → m ≤ 2 ^ 32 - 5 → EncodesTo f m old r new
    → IfErr r (λ e. e ≡ no.OutOfMemory → HasNoSize f m ⊎ ¬ HasRoomFor f m out) → IfErr r (λ e. e ≡ no.OutOfMemory → Fits f m × ¬ HasRoomFor f m out)
lacking_sized f m old new out (Ok u) le sent lacks = tt
lacking_sized f m old new out (Err x) le sent lacks = λ is. ((subst (λ y. IsNotSent f m y) is sent.0).0, lacking_under f m out le (lacks is))
