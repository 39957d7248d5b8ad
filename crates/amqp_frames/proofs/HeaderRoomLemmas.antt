-- What is left of the room from which heads are cut.
use Rattle.std.proofs.Common.{◌≡◌, ℕ, ◌+◌, length, refl, sym, subst, arith}
use Rattle.std.specs.Prelude.{Result, Ok, Err, OnOk}
use Rattle.amqp_frames.specs.declared.frame.Frame.{Frame}
use Rattle.amqp_frames.specs.declared.error.Error.{Error}
use Rattle.amqp_frames.specs.declared.error.Error.TheVariants as no
use Rattle.amqp_frames.specs.Frame.{text_of}
use Rattle.amqp_frames.specs.Cut.{Whole}
use Rattle.amqp_frames.specs.HeaderPool.{GivesRoom, IsTooLong, CutsOrLeaves, CutsHead, CutsOff, RoomAfter}

-- After the header and a text of so many bytes the rest of the room is kept.
pub head_cut : {S X E : Type 0} (too_long : S → ℕ → Type 0) (gives : S → ℕ → ℕ → Type 0) (keeps : ℕ → S → Type 0) (before after : S) (len text spare room : ℕ) (r : Result X E)
    → ¬ too_long before (4 + len) → gives before (4 + len) (spare + 4) → len ≡ text → room + text ≡ spare → OnOk r (keeps room after)
    → OnOk r (CutsOrLeaves too_long (CutsOff gives keeps) before (4 + text) after)
head_cut too_long gives keeps before after len text spare room (Ok x) short g l s k =
    let all : spare + 4 ≡ room + (4 + text) = omega arith in (
      λ _. record { room = room; given = subst (λ (n : ℕ). gives before (4 + text) n) all (subst (λ (n : ℕ). gives before (4 + n) (spare + 4)) l g); kept = k },
      λ long. absurd (short (subst (λ (n : ℕ). too_long before (4 + n)) (sym l) long)),
    )
head_cut too_long gives keeps before after len text spare room (Err e) short g l s k = tt

-- a head that is too long leaves the room as it was
pub head_left : {S X E : Type 0} (too_long : S → ℕ → Type 0) (cuts : S → ℕ → S → Type 0) (before : S) (len text : ℕ) (r : Result X E) → too_long before (4 + len) → len ≡ text
    → OnOk r (CutsOrLeaves too_long cuts before (4 + text) before)
head_left too_long cuts before len text (Ok x) long l = (λ short. absurd (short (subst (λ (n : ℕ). too_long before (4 + n)) l long)), λ _. refl)
head_left too_long cuts before len text (Err e) long l = tt

-- where the frame is not whole, no head is cut off
pub room_kept : {S X : Type 0} (cuts : S → ℕ → S → Type 0) (before after : S) (f : Frame) (m : ℕ) (r : Result X Error) → ¬ Whole f m → after ≡ before → RoomAfter cuts before f m r after
room_kept cuts before after f m (Ok x) big same = (λ whole. absurd (big whole), λ _. same)
room_kept cuts before after f m (Err no.OutOfMemory) big same = tt
room_kept cuts before after f m (Err no.TooLarge) big same = same
room_kept cuts before after f m (Err no.DecodeError) big same = same
room_kept cuts before after f m (Err no.NotImplemented) big same = same
room_kept cuts before after f m (Err (no.Io text)) big same = same

cut_from : (before len after : ℕ) → CutsOff GivesRoom (λ room left. left ≡ room) before len after → GivesRoom before len (after + len)
cut_from before len after c = subst (λ (n : ℕ). GivesRoom before len (n + len)) (sym c.kept) c.given

-- the same in the words of a room of many heads
pub room_after : {X : Type 0} (before after : ℕ) (f : Frame) (m : ℕ) (r : Result X Error)
    → RoomAfter (CutsOrLeaves IsTooLong (CutsOff GivesRoom (λ room left. left ≡ room))) before f m r after → RoomAfter CutsHead before f m r after
room_after before after f m (Ok x) a = (λ whole. let c = a.0 whole in (λ short. cut_from before (4 + length (text_of f.body)) after (c.0 short), c.1), a.1)
room_after before after f m (Err no.OutOfMemory) a = tt
room_after before after f m (Err no.TooLarge) a = a
room_after before after f m (Err no.DecodeError) a = a
room_after before after f m (Err no.NotImplemented) a = a
room_after before after f m (Err (no.Io text)) a = a
