-- A frame that is whole, after what was to be sent; and how much room pieces take up there.
use Rattle.std.proofs.Common.{◌≡◌, ℕ, ◌+◌, ◌-◌, ◌<◌, ◌^◌, ◌≤◌, ◌⊎◌, List, [], ◌∷◌, ◌++◌, length, min, refl, sym, ap, ◌∙◌, arith, inl, inr, length-append, Bool, true, false}
use Rattle.std.specs.Prelude.{if◌then◌else◌, nat_le}
use Rattle.std.specs.Int.{w32, to_be_bytes}
use Rattle.std.proofs.lemmas.List.{append-nil}
use Rattle.std.specs.Prelude.{Ok}
use Rattle.amqp_memory.specs.Refusal.{SomeRefused}
use Rattle.amqp_frames.specs.declared.frame.Frame.{Frame}
use Rattle.amqp_frames.specs.declared.error.Error.TheVariants as no
use Rattle.amqp_frames.specs.Frame.{header_text, text_of, payload_of}
use Rattle.amqp_frames.specs.Piece.{PieceParts, piece_bytes}
use Rattle.amqp_frames.specs.Cut.{IsWholePiece, Whole}
use Rattle.amqp_frames.specs.ReadBack.{DecodesTo}
use Rattle.amqp_frames.specs.Wire.{EncodesTo, HasNoSize, HasRoomFor, IsNotSent, SendBufferView, sized, wire_of}
use Rattle.amqp_frames.specs.Inner.Woven.{piece_room, pieces_room}

pub sent_whole : (f : Frame) (m : ℕ) (old new : List ℕ) → Whole f m → ((p : PieceParts) → IsWholePiece f p → DecodesTo f (piece_bytes p))
    → new ≡ old ++ sized ((header_text f.channel ++ text_of f.body) ++ payload_of f.body) → EncodesTo f m old (Ok tt) new
sent_whole f m old new whole decoded sent =
    let p : PieceParts = record { head = header_text f.channel ++ text_of f.body; payload = payload_of f.body } in (
      p ∷ [],
      omega arith,
      (inl whole, inl (whole, (p, refl, (refl, refl))), inl (whole, (p, refl, decoded p (refl, refl)))),
      sent ∙ ap (λ (bytes : List ℕ). old ++ bytes) (sym (append-nil (sized (piece_bytes p)))),
    )

-- under a limit that a max-frame-size allows every piece has a size, so nothing but a refusal answers OutOfMemory
pub refused_under : (f : Frame) (m : ℕ) → m ≤ 2 ^ 32 - 5 → IsNotSent f m no.OutOfMemory → SomeRefused
refused_under f m le n = go n.1
  where
    go : SomeRefused ⊎ HasNoSize f m → SomeRefused
    go (inl r) = r
    go (inr big) = absurd (omega (arith, le, big))

-- such a piece has room, where any has
pub lacking_under : (f : Frame) (m : ℕ) (out : SendBufferView) → m ≤ 2 ^ 32 - 5 → HasNoSize f m ⊎ ¬ HasRoomFor f m out → ¬ HasRoomFor f m out
lacking_under f m out le (inl big) = absurd (omega (arith, le, big))
lacking_under f m out le (inr lacks) = lacks

-- ---- the room that is left

at_most : (b : Bool) (n : ℕ) → (if b then n else 0) ≤ n
at_most true n = omega arith
at_most false n = omega arith

within_piece : (most : ℕ) (p : PieceParts) → piece_room most p ≤ length (sized (piece_bytes p))
within_piece most p = omega (
  arith,
  at_most (nat_le (length p.payload) most) (length p.payload),
  length-append (to_be_bytes w32 (length (piece_bytes p) + 4)) (piece_bytes p),
  length-append p.head p.payload,
)

-- pieces take up no more than their bytes
within_wire : (most : ℕ) (ps : List PieceParts) → pieces_room most ps ≤ length (wire_of ps)
within_wire most [] = omega arith
within_wire most (p ∷ ps) = omega (
  arith,
  within_wire most ps,
  within_piece most p,
  length-append (sized (piece_bytes p)) (wire_of ps),
)

-- what is appended takes up no more room than its bytes
pub room_after : (most : ℕ) (ps : List PieceParts) (old there left : ℕ) (before after : List ℕ) → old ≤ there → there ≤ left + pieces_room most ps
    → after ≡ before ++ wire_of ps → old + length before ≤ left + length after
room_after most ps old there left before after more taken sent = omega (arith, more, taken, within_wire most ps, ap length sent, length-append before (wire_of ps))

-- where no piece is left, what was counted is all, or the greatest number
pub counted : (most total : ℕ) (rest all : List PieceParts) → length rest ≡ 0 → total < 2 ^ 64
    → min (total + pieces_room most rest) (2 ^ 64 - 1) ≡ min (pieces_room most all) (2 ^ 64 - 1) → total ≡ min (pieces_room most all) (2 ^ 64 - 1)
counted most total [] all none small e = omega (arith, small, e)
counted most total (p ∷ rest) all none small e = absurd (omega (arith, none))
