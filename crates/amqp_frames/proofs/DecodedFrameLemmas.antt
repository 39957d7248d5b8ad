-- No more than one body stands after a header, and no more than one frame in bytes.
use Rattle.std.proofs.Common.{◌≡◌, ℕ, ◌≤◌, List, [], ◌∷◌, ◌++◌, length, get_or, take, drop, refl, sym, ap, subst, ◌∙◌, arith}
use Rattle.std.proofs.lemmas.List.{take_at, drop_at}
use Rattle.std.specs.Prelude.{Result, Ok, Err}
use Rattle.std.specs.Result.{IsErrAnd}
use Rattle.std.specs.Int.{w16, from_be_bytes}
use Rattle.amqp_frames.specs.declared.frame.Frame.{Frame}
use Rattle.amqp_frames.specs.declared.frame.FrameBody.{FrameBody}
use Rattle.amqp_frames.specs.declared.error.Error.{Error}
use Rattle.amqp_frames.specs.Frame.{IsBody, IsFrame, HasHeader}
use Rattle.amqp_frames.specs.declared.decoder.FrameHead.{FrameHead}
use Rattle.amqp_frames.specs.Inner.Decoding.{IsHeader}
use Rattle.amqp_frames.specs.Head.{IsHead}

-- ---- the header

at_four : (bytes : List ℕ) → 4 ≤ length bytes → bytes ≡ get_or bytes 0 0 ∷ get_or bytes 1 0 ∷ get_or bytes 2 0 ∷ get_or bytes 3 0 ∷ drop 4 bytes
at_four [] h = absurd (omega arith)
at_four (a ∷ []) h = absurd (omega arith)
at_four (a ∷ b ∷ []) h = absurd (omega arith)
at_four (a ∷ b ∷ c ∷ []) h = absurd (omega arith)
at_four (a ∷ b ∷ c ∷ d ∷ bytes) h = refl

pub header_is : (bytes : List ℕ) (n : ℕ) → 4 ≤ length bytes → get_or bytes 0 0 ≡ 2 → get_or bytes 1 0 ≡ 0 → n ≡ from_be_bytes w16 (get_or bytes 2 0 ∷ get_or bytes 3 0 ∷ []) → IsHeader bytes n
header_is bytes n h first second is =
    let w : bytes ≡ get_or bytes 0 0 ∷ get_or bytes 1 0 ∷ (get_or bytes 2 0 ∷ get_or bytes 3 0 ∷ []) ++ drop 4 bytes = at_four bytes h in
    record {
      channel = get_or bytes 2 0 ∷ get_or bytes 3 0 ∷ [];
      two = refl;
      channel_is = is;
      whole = w ∙ ap (λ (x : ℕ). x ∷ get_or bytes 1 0 ∷ (get_or bytes 2 0 ∷ get_or bytes 3 0 ∷ []) ++ drop 4 bytes) first
          ∙ ap (λ (x : ℕ). 2 ∷ x ∷ (get_or bytes 2 0 ∷ get_or bytes 3 0 ∷ []) ++ drop 4 bytes) second;
    }

-- ---- the frame

abbrev pub framed : ℕ → Result (FrameBody × List ℕ) Error → Result (Frame × List ℕ) Error
framed n (Ok x) = Ok (record { channel = n; body = x.0 }, x.1)
framed n (Err e) = Err e

pub same_header : (bytes : List ℕ) (n : ℕ) → IsHeader bytes n → (f : Frame) (rest : List ℕ) → IsFrame f bytes rest → (f.channel ≡ n) × IsBody f.body (drop 4 bytes) rest
same_header bytes n h f rest s =
    let e : s.channel ++ s.body ≡ h.channel ++ drop 4 bytes = ap (drop 2) (sym s.whole ∙ h.whole) in
    let channel : s.channel ≡ h.channel = sym (take_at s.channel s.body 2 s.two) ∙ ap (take 2) e ∙ take_at h.channel (drop 4 bytes) 2 h.two in
    let body : s.body ≡ drop 4 bytes = sym (drop_at s.channel s.body 2 s.two) ∙ ap (drop 2) e ∙ drop_at h.channel (drop 4 bytes) 2 h.two in
    (s.channel_is ∙ ap (from_be_bytes w16) channel ∙ sym h.channel_is, subst (λ (b : List ℕ). IsBody f.body b rest) body s.says)

-- the body after this header is the one after any head
pub same_body : (bytes : List ℕ) (n : ℕ) → IsHeader bytes n → (j : FrameHead) (left : List ℕ) (is : IsHead j bytes left) → is.body ≡ drop 4 bytes
same_body bytes n h j left is =
    let e : is.channel ++ is.body ≡ h.channel ++ drop 4 bytes = ap (drop 2) (sym is.whole ∙ h.whole) in
    sym (drop_at is.channel is.body 2 is.two) ∙ ap (drop 2) e ∙ drop_at h.channel (drop 4 bytes) 2 h.two

pub has_header : (bytes : List ℕ) (n : ℕ) → IsHeader bytes n → HasHeader bytes
has_header bytes n h = record { after = h.channel ++ drop 4 bytes; whole = h.whole }

pub same_frame : (f : Frame) (rest : List ℕ) (n : ℕ) (x : FrameBody × List ℕ) → f.channel ≡ n → ◌≡◌ {A = FrameBody × List ℕ} (f.body, rest) x → ◌≡◌ {A = Frame × List ℕ} (f, rest) (record { channel = n; body = x.0 }, x.1)
same_frame f rest n x c e =
    ap (λ (k : ℕ). let r : Frame × List ℕ = (record { channel = k; body = f.body }, rest) in r) c
    ∙ ap (λ (y : FrameBody × List ℕ). let r : Frame × List ℕ = (record { channel = n; body = y.0 }, y.1) in r) e

-- what a call answers whose part answered this
pub failed : {X E : Type 0} (r : Result X E) (e : E) → IsErrAnd r (λ x. x ≡ e) → r ≡ Err e
failed (Ok x) e h = absurd h
failed (Err x) e h = ap (λ y. Err y) h
