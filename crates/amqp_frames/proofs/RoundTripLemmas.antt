-- The pieces of every frame keep the limit, carry the payload, and are read back.
use Rattle.std.proofs.Common.{◌≡◌, ℕ, suc, ◌+◌, ◌<◌, ◌≤◌, ◌^◌, List, [], ◌∷◌, ◌++◌, length, map, refl, sym, ap, ◌∙◌, arith, inl, inr}
use Rattle.std.specs.List.{All}
use Rattle.std.specs.Prelude.{Ok, Err, slice_index_or}
use Rattle.std.specs.Int.{w16, to_be_bytes}
use Rattle.std.proofs.lemmas.Nat.{from_be_bytes-to_be_bytes_2}
use Rattle.std.proofs.lemmas.List.{length-append, append-nil}
use Rattle.std.proofs.lemmas.List.Elements.{All-nil, All-cons, All-push, All-same, All-weaker}
use Rattle.amqp_values.specs.Reading.{joined}
use Rattle.amqp_types.specs.declared.performatives.Performative.{Performative}
use Rattle.amqp_types.specs.declared.performatives.Performative.TheVariants as performative
use Rattle.amqp_types.specs.Performatives.{IsPerformative}
use Rattle.amqp_types.specs.declared.performatives.transfer.TransferFragment.TheVariants as text
use Rattle.amqp_types.specs.Transfer.{TransferModel, said_in}
use Rattle.amqp_frames.specs.declared.frame.Frame.{Frame}
use Rattle.amqp_frames.specs.declared.frame.FrameBody.{FrameBody}
use Rattle.amqp_frames.specs.declared.frame.FrameBody.TheVariants.{Attach, Flow, Transfer, Disposition, Detach, Begin, End, Open, Close, Empty}
use Rattle.amqp_frames.specs.declared.error.Error.TheVariants as no
use Rattle.amqp_frames.specs.Frame.{IsFrame, HasHeader, header_text, text_of, payload_of, body_of}
use Rattle.amqp_frames.specs.Piece.{PieceParts, piece_bytes, payload_part}
use Rattle.amqp_frames.specs.ReadBack.{DecodesTo}
use Rattle.amqp_frames.specs.Cut.{IsCut, IsCutBody, IsWholePiece, room, transfer_text}
use Rattle.amqp_frames.specs.RoundTrip.{KeepsLimit, CarriesPayload, IsSpelled, IsSpelledBody, Carries, CutsAreRead, FramesAreDecoded, WholesAreRead}
use Rattle.amqp_frames.proofs.PayloadCutLemmas.{piece_len}

-- ---- the limit

abbrev pub Within : ℕ → PieceParts → Type 0
Within m p = length (piece_bytes p) ≤ m

whole_within : (channel m : ℕ) (body : FrameBody) (p : PieceParts) → 4 ≤ m → length (text_of body) + length (payload_of body) ≤ room m
    → p.head ≡ header_text channel ++ text_of body → p.payload ≡ payload_of body → Within m p
whole_within channel m body p four fits head payload = within_at channel m (text_of body) (payload_of body) p four fits head payload
  where
    within_at : (channel m : ℕ) (text payload : List ℕ) (p : PieceParts) → 4 ≤ m → length text + length payload ≤ room m → p.head ≡ header_text channel ++ text → p.payload ≡ payload → Within m p
    within_at channel m text payload p four fits head is = let l = piece_len p channel text head in let n = ap length is in omega arith

cut_within : (channel m : ℕ) (t : TransferModel) (payload : List ℕ) (pieces : List PieceParts) → IsCut channel t payload m pieces → All (Within m) pieces
cut_within channel m t payload pieces c =
    All-same (Within m) pieces (c.first ∷ c.middle ++ c.last ∷ []) c.pieces_are
    (All-cons (Within m) c.first (c.middle ++ c.last ∷ []) (le_of c.first_full)
    (All-push (Within m) c.middle c.last (All-weaker (λ p. length (piece_bytes p) ≡ m) (Within m) (λ p e. le_of e) c.middle c.middle_full) c.last_within))
  where
    le_of : {a b : ℕ} → a ≡ b → a ≤ b
    le_of e = omega arith

cut_body_within : (channel m : ℕ) (body : FrameBody) (pieces : List PieceParts) → IsCutBody channel body m pieces → All (Within m) pieces
cut_body_within channel m (Transfer t payload) pieces c = cut_within channel m t payload pieces c
cut_body_within channel m body pieces c = absurd c

pub keeps_limit : KeepsLimit
keeps_limit f m pieces four (inl w) = All-same (Within m) pieces (w.1.0 ∷ []) w.1.1 (All-cons (Within m) w.1.0 [] (whole_within f.channel m f.body w.1.0 four w.0 w.1.2.0 w.1.2.1) (All-nil (Within m)))
keeps_limit f m pieces four (inr c) = cut_body_within f.channel m f.body pieces c.1

-- ---- the payload

cut_body_joined : (channel m : ℕ) (body : FrameBody) (pieces : List PieceParts) → IsCutBody channel body m pieces → joined (map payload_part pieces) ≡ payload_of body
cut_body_joined channel m (Transfer t payload) pieces c = c.parts
cut_body_joined channel m body pieces c = absurd c

pub carries_payload : CarriesPayload
carries_payload f m pieces (inl w) = ap (λ (x : List PieceParts). joined (map payload_part x)) w.1.1 ∙ append-nil w.1.0.payload ∙ w.1.2.1
carries_payload f m pieces (inr c) = cut_body_joined f.channel m f.body pieces c.1

-- ---- reading back

-- header, text and what is after it are a frame
reads : (channel : ℕ) (q : Performative) (text : List ℕ) (body : FrameBody) (p : PieceParts) → channel < 2 ^ 16 → IsPerformative q text
    → ◌≡◌ {A = FrameBody × List ℕ} (body_of q p.payload) (body, []) → p.head ≡ header_text channel ++ text → IsFrame (record { channel = channel; body = body }) (piece_bytes p) []
reads channel q text body p lt is says head = record {
  channel = to_be_bytes w16 channel;
  body = text ++ p.payload;
  two = refl;
  channel_is = sym (from_be_bytes-to_be_bytes_2 channel lt);
  whole = ap (λ (x : List ℕ). x ++ p.payload) head;
  says = inr (record { performative = q; text = text; after = p.payload; is = is; whole = refl; says = says });
}

empty_reads : (channel : ℕ) (p : PieceParts) → channel < 2 ^ 16 → p.head ≡ header_text channel ++ [] → p.payload ≡ [] → IsFrame (record { channel = channel; body = Empty }) (piece_bytes p) []
empty_reads channel p lt head payload = record {
  channel = to_be_bytes w16 channel;
  body = p.payload;
  two = refl;
  channel_is = sym (from_be_bytes-to_be_bytes_2 channel lt);
  whole = ap (λ (x : List ℕ). x ++ p.payload) head;
  says = inl (payload, refl, refl);
}

-- after what is no transfer nothing is left
alone : (body : FrameBody) (payload : List ℕ) → payload ≡ [] → ◌≡◌ {A = FrameBody × List ℕ} (body, payload) (body, [])
alone body payload e = ap (λ (x : List ℕ). let r : FrameBody × List ℕ = (body, x) in r) e

whole_reads : (channel : ℕ) (body : FrameBody) (p : PieceParts) → channel < 2 ^ 16 → IsSpelledBody body → p.head ≡ header_text channel ++ text_of body → p.payload ≡ payload_of body
    → IsFrame (record { channel = channel; body = body }) (piece_bytes p) []
whole_reads channel (Attach q) p lt is head payload = reads channel (performative.Attach q) (text_of (Attach q)) (Attach q) p lt is (alone (Attach q) p.payload payload) head
whole_reads channel (Flow q) p lt is head payload = reads channel (performative.Flow q) (text_of (Flow q)) (Flow q) p lt is (alone (Flow q) p.payload payload) head
whole_reads channel (Transfer q all) p lt is head payload =
    reads channel (performative.Transfer q) (text_of (Transfer q all)) (Transfer q all) p lt is (ap (λ (x : List ℕ). let r : FrameBody × List ℕ = (Transfer q x, []) in r) payload) head
whole_reads channel (Disposition q) p lt is head payload = reads channel (performative.Disposition q) (text_of (Disposition q)) (Disposition q) p lt is (alone (Disposition q) p.payload payload) head
whole_reads channel (Detach q) p lt is head payload = reads channel (performative.Detach q) (text_of (Detach q)) (Detach q) p lt is (alone (Detach q) p.payload payload) head
whole_reads channel (Begin q) p lt is head payload = reads channel (performative.Begin q) (text_of (Begin q)) (Begin q) p lt is (alone (Begin q) p.payload payload) head
whole_reads channel (End q) p lt is head payload = reads channel (performative.End q) (text_of (End q)) (End q) p lt is (alone (End q) p.payload payload) head
whole_reads channel (Open q) p lt is head payload = reads channel (performative.Open q) (text_of (Open q)) (Open q) p lt is (alone (Open q) p.payload payload) head
whole_reads channel (Close q) p lt is head payload = reads channel (performative.Close q) (text_of (Close q)) (Close q) p lt is (alone (Close q) p.payload payload) head
whole_reads channel Empty p lt is head payload = empty_reads channel p lt head payload

carried : (channel : ℕ) (t : TransferModel) (p : PieceParts) → channel < 2 ^ 16 → IsSpelled (performative.Transfer t) → p.head ≡ header_text channel ++ transfer_text t → Carries channel t p
carried channel t p lt is head = reads channel (performative.Transfer t) (transfer_text t) (Transfer t p.payload) p lt is refl head

pub cuts_are_read : CutsAreRead
cuts_are_read channel m t payload pieces lt first middle last c = record {
  first = c.first;
  middle = c.middle;
  last = c.last;
  pieces_are = c.pieces_are;
  first_is = carried channel (said_in text.First t) c.first lt first c.first_is;
  middle_are = λ k d h. carried channel (said_in text.Middle t) (slice_index_or c.middle k d) lt middle (c.middle_are k d h);
  last_is = carried channel (said_in text.Last t) c.last lt last c.last_is;
}

-- ---- decoding

frame_long : (f : Frame) (bytes : List ℕ) → IsFrame f bytes [] → 4 ≤ length bytes
frame_long f bytes h =
    let n : length bytes ≡ suc (suc (length (h.channel ++ h.body))) = ap length h.whole in
    let l = length-append h.channel h.body in
    let t = h.two in
    omega arith

frame_header : (f : Frame) (bytes : List ℕ) → IsFrame f bytes [] → HasHeader bytes
frame_header f bytes h = record { after = h.channel ++ h.body; whole = h.whole }

pub frames_are_decoded : FramesAreDecoded
frames_are_decoded f bytes h (Ok x) d = inl (ap (λ (y : Frame × List ℕ). Ok y) (sym (d.1 f [] h)))
frames_are_decoded f bytes h (Err no.DecodeError) (inl short) = absurd (let l = frame_long f bytes h in omega arith)
frames_are_decoded f bytes h (Err no.DecodeError) (inr d) = absurd (d.1 f [] h)
frames_are_decoded f bytes h (Err no.NotImplemented) d = absurd (d.1 (frame_header f bytes h))
frames_are_decoded f bytes h (Err no.OutOfMemory) d = inr refl
frames_are_decoded f bytes h (Err no.TooLarge) d = absurd d
frames_are_decoded f bytes h (Err (no.Io text)) d = absurd d

pub piece_is_decoded : (f : Frame) (p : PieceParts) → f.channel < 2 ^ 16 → IsSpelledBody f.body → IsWholePiece f p → DecodesTo f (piece_bytes p)
piece_is_decoded f p lt is w = frames_are_decoded f (piece_bytes p) (whole_reads f.channel f.body p lt is w.0 w.1)

pub wholes_are_read : WholesAreRead
wholes_are_read f m pieces lt is whole (inl w) =
    let h = whole_reads f.channel f.body w.1.0 lt is w.1.2.0 w.1.2.1 in
    (w.1.0, w.1.1, h, frames_are_decoded f (piece_bytes w.1.0) h)
wholes_are_read f m pieces lt is whole (inr c) = absurd (c.0 whole)
