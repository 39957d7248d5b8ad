-- When a session flow is due.
use Rattle.std.proofs.Common.{◌≡◌, ◌⊎◌, ◌<◌, ◌/◌, ℕ, Bool, true, false, cond, nat_le, Option, Some, None, inl, inr, ap, sym, subst, arith}
use Rattle.std.proofs.lemmas.Bool.Decides.{nat_tests}
use Rattle.std.proofs.lemmas.Grind.{common_steps}
use Rattle.amqp_session.specs.declared.frame.SessionOutgoingItem.{SessionOutgoingItem}
use Rattle.amqp_session.specs.declared.frame.SessionOutgoingItem.TheVariants.{SingleFrame, MultipleFrames}
use Rattle.amqp_session.specs.States.{is_mapped}
use Rattle.amqp_session.specs.Session.{SessionView}
use Rattle.amqp_session.specs.Step.{SessionFlowStep}

below_half : (mapped : Bool) (half count : ℕ) → mapped ≡ true → cond mapped (nat_le half count) false ≡ false → count < half
below_half mapped half count e f =
    let t : nat_le half count ≡ false = subst (λ b. cond b (nat_le half count) false ≡ false) e f in
    grind (arith, nat_tests, common_steps)

pub flows_law : {R : Type 0} → (v w : SessionView R) (item : Option SessionOutgoingItem) → SessionFlowStep v item w → is_mapped v.state ≡ true →
    (w.receiving.unreported ≡ 0) ⊎ (w.receiving.unreported < v.settings.incoming_window / 2)
flows_law v w None s m =
    let below = below_half (is_mapped v.state) (v.settings.incoming_window / 2) v.receiving.unreported m s.0 in
    inr (subst (λ (u : SessionView _). u.receiving.unreported < v.settings.incoming_window / 2) (sym s.1) below)
flows_law v w (Some (SingleFrame f)) s m = inl (ap (λ (u : SessionView _). u.receiving.unreported) s.2)
flows_law v w (Some (MultipleFrames fs)) s m = absurd s
