-- What was encoded is decoded: the canonical text of a frame that fits a limit is short enough to spell its performative.
use Rattle.std.proofs.Common.{◌≡◌, ℕ, ◌<◌, ◌^◌, List, length, refl, ap, arith}
use Rattle.std.proofs.lemmas.List.Elements.{All-weaker}
use Rattle.amqp_types.specs.declared.performatives.Performative.{Performative}
use Rattle.amqp_types.specs.declared.performatives.Performative.TheVariants as performative
use Rattle.amqp_types.specs.declared.performatives.transfer.TransferFragment.TheVariants as text
use Rattle.amqp_types.specs.Performatives.{performative_text}
use Rattle.amqp_types.specs.Spelled.{IsSpelledIfShort, CutIsSpelled, TextsAreSpelled}
use Rattle.amqp_types.specs.Transfer.{TransferModel, said_in}
use Rattle.amqp_frames.specs.declared.frame.FrameBody.TheVariants.{Transfer, Empty}
use Rattle.amqp_frames.specs.Frame.{body_of, text_of}
use Rattle.amqp_frames.specs.Piece.{PieceParts, piece_bytes}
use Rattle.amqp_frames.specs.ReadBack.{DecodedAs, AreDecoded}
use Rattle.amqp_frames.specs.Cut.{IsCut, Whole, first_text, middle_text, last_text}
use Rattle.amqp_frames.specs.RoundTrip.{IsSpelled, IsSpelledBody, Carries, WholeIsDecoded, CutIsDecoded, EmptyIsDecoded, frame_of}
use Rattle.amqp_frames.proofs.PayloadCutLemmas.{piece_len}
use Rattle.amqp_frames.proofs.RoundTripLemmas.{wholes_are_read, cuts_are_read, frames_are_decoded}

-- ---- a frame that is whole

spelled_body : (p : Performative) (payload : List ℕ) → IsSpelled p → IsSpelledBody (body_of p payload).0
spelled_body (performative.Attach q) payload is = is
spelled_body (performative.Flow q) payload is = is
spelled_body (performative.Transfer q) payload is = is
spelled_body (performative.Disposition q) payload is = is
spelled_body (performative.Detach q) payload is = is
spelled_body (performative.Begin q) payload is = is
spelled_body (performative.End q) payload is = is
spelled_body (performative.Open q) payload is = is
spelled_body (performative.Close q) payload is = is

text_is : (p : Performative) (payload : List ℕ) → text_of (body_of p payload).0 ≡ performative_text p
text_is (performative.Attach q) payload = refl
text_is (performative.Flow q) payload = refl
text_is (performative.Transfer q) payload = refl
text_is (performative.Disposition q) payload = refl
text_is (performative.Detach q) payload = refl
text_is (performative.Begin q) payload = refl
text_is (performative.End q) payload = refl
text_is (performative.Open q) payload = refl
text_is (performative.Close q) payload = refl

whole_short : (channel m : ℕ) (p : Performative) (payload : List ℕ) → m < 2 ^ 32 → Whole (frame_of channel p payload) m → length (performative_text p) < 2 ^ 32
whole_short channel m p payload limit whole = let e = ap length (text_is p payload) in omega arith

pub whole_is_decoded : (p : Performative) → IsSpelledIfShort p → WholeIsDecoded p
whole_is_decoded p spelled channel m payload pieces lt limit whole cut =
    let is = spelled_body p payload (spelled (whole_short channel m p payload limit whole)) in
    let h = wholes_are_read (frame_of channel p payload) m pieces lt is whole cut in
    (h.0, h.1, h.3)

pub empty_is_decoded : EmptyIsDecoded
empty_is_decoded channel m pieces lt cut =
    let h = wholes_are_read (record { channel = channel; body = Empty }) m pieces lt tt (omega arith) cut in
    (h.0, h.1, h.3)

-- ---- a transfer that is cut

first_short : (channel m : ℕ) (t : TransferModel) (payload : List ℕ) (pieces : List PieceParts) → m < 2 ^ 32 → IsCut channel t payload m pieces → length (first_text t) < 2 ^ 32
first_short channel m t payload pieces limit c = let l = piece_len c.first channel (first_text t) c.first_is in let e = c.first_full in omega arith

middle_short : (channel m : ℕ) (t : TransferModel) (payload : List ℕ) (pieces : List PieceParts) → m < 2 ^ 32 → IsCut channel t payload m pieces → length (middle_text t) < 2 ^ 32
middle_short channel m t payload pieces limit c = let some = c.last_some in let fits = c.last_fits in omega arith

last_short : (channel m : ℕ) (t : TransferModel) (payload : List ℕ) (pieces : List PieceParts) → m < 2 ^ 32 → IsCut channel t payload m pieces → length (last_text t) < 2 ^ 32
last_short channel m t payload pieces limit c = let l = piece_len c.last channel (last_text t) c.last_is in let e = c.last_within in omega arith

decoded_as : (channel : ℕ) (t : TransferModel) (p : PieceParts) → Carries channel t p → DecodedAs channel t p
decoded_as channel t p h = frames_are_decoded (record { channel = channel; body = Transfer t p.payload }) (piece_bytes p) h

pub transfer_is_decoded : (t : TransferModel) (channel m : ℕ) (payload : List ℕ) (pieces : List PieceParts) → TextsAreSpelled t → channel < 2 ^ 16 → m < 2 ^ 32
    → IsCut channel t payload m pieces → AreDecoded channel t payload pieces
transfer_is_decoded t channel m payload pieces spelled lt limit c =
    let read = cuts_are_read channel m t payload pieces lt
    (spelled text.First (first_short channel m t payload pieces limit c))
    (spelled text.Middle (middle_short channel m t payload pieces limit c))
    (spelled text.Last (last_short channel m t payload pieces limit c)) c in
    record {
      first = read.first;
      middle = read.middle;
      last = read.last;
      pieces_are = read.pieces_are;
      first_is = decoded_as channel (said_in text.First t) read.first read.first_is;
      middle_are = All-weaker (Carries channel (said_in text.Middle t)) (DecodedAs channel (said_in text.Middle t)) (decoded_as channel (said_in text.Middle t)) read.middle read.middle_are;
      last_is = decoded_as channel (said_in text.Last t) read.last read.last_is;
      parts = c.parts;
    }

pub cut_is_decoded : (p : Performative) → CutIsSpelled p → CutIsDecoded p
cut_is_decoded p spelled t channel m payload pieces is lt limit c = transfer_is_decoded t channel m payload pieces (spelled t is) lt limit c
