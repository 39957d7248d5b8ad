-- A frame, its header, and what stands after it.
use Rattle.std.proofs.Common.{◌≡◌, ◌≢◌, ◌≤◌, ◌+◌, ◌-◌, ℕ, List, [], ◌∷◌, ◌++◌, length, take, drop, get_or, Some, None, refl, sym, ap, subst, ◌∙◌, arith}
use Rattle.std.specs.Int.{w32, from_be_bytes}
use Rattle.std.proofs.lemmas.List.{take-append-drop, drop-drop, length-take, length-take-le, length-drop}
use Rattle.std.proofs.Math.Seq.{drop-length}
use Rattle.std.specs.Prelude.{Result, Ok, Err}
use Rattle.amqp_sasl.specs.declared.frame.FrameFault.{FrameFault}
use Rattle.amqp_sasl.specs.declared.frame.FrameFault.TheVariants as no
use Rattle.amqp_sasl.specs.declared.frame.ReceivedFrame.{ReceivedFrame}
use Rattle.amqp_sasl.specs.declared.frame.ReceivedFrame.TheVariants.{Wants, Frame}
use Rattle.amqp_sasl.specs.SaslFrame.{Said, IsBody, IsFrame}
use Rattle.amqp_sasl.specs.ReadFrame.{size_at, IsSize, offset_at, HasOffset, HasWhole, ReadsWhole, ReadsFrame}
use Rattle.amqp_sasl.specs.Inner.Reading.{body_at}
use Rattle.amqp_sasl.proofs.BodyLemmas.{body_reader}
use Rattle.std.proofs.lemmas.List.{append-nil}

-- the eight bytes of the header, and what follows
eight : (xs : List ℕ) → 8 ≤ length xs → xs ≡ take 4 xs ++ (get_or xs 4 0 ∷ get_or xs 5 0 ∷ (get_or xs 6 0 ∷ get_or xs 7 0 ∷ []) ++ drop 8 xs)
eight (a ∷ b ∷ c ∷ d ∷ e ∷ f ∷ g ∷ h ∷ xs) l = refl
eight [] l = absurd (omega arith)
eight (a ∷ []) l = absurd (omega arith)
eight (a ∷ b ∷ []) l = absurd (omega arith)
eight (a ∷ b ∷ c ∷ []) l = absurd (omega arith)
eight (a ∷ b ∷ c ∷ d ∷ []) l = absurd (omega arith)
eight (a ∷ b ∷ c ∷ d ∷ e ∷ []) l = absurd (omega arith)
eight (a ∷ b ∷ c ∷ d ∷ e ∷ f ∷ []) l = absurd (omega arith)
eight (a ∷ b ∷ c ∷ d ∷ e ∷ f ∷ g ∷ []) l = absurd (omega arith)

-- what follows the header is an extended one, and then the body
extends : (o : ℕ) (xs : List ℕ) → 8 ≤ o → take (o - 8) (drop 8 xs) ++ drop o xs ≡ drop 8 xs
extends o xs l =
    let same : 8 + (o - 8) ≡ o = omega arith in
    ap (λ (y : List ℕ). take (o - 8) (drop 8 xs) ++ y) (ap (λ n. drop n xs) (sym same) ∙ sym (drop-drop (o - 8) 8 xs)) ∙ take-append-drop (o - 8) (drop 8 xs)

pub is_frame : (s : Said) (frame : List ℕ) (end : ℕ) → size_at frame ≡ length frame → IsSize (length frame) → HasOffset frame → get_or frame 5 0 ≡ 1
    → body_at (drop (offset_at frame) frame) ≡ Some (s, drop end frame) → end ≡ length frame → IsFrame s frame
is_frame s frame end size sized offset type read ends =
    let o = offset_at frame in
    let f = body_reader.found (drop o frame) s (drop end frame) read in
    let none : drop end frame ≡ [] = ap (λ n. drop n frame) ends ∙ drop-length frame in
    let text : drop o frame ≡ f.0 = f.2 ∙ ap (λ (r : List ℕ). f.0 ++ r) none ∙ append-nil f.0 in
    record {
      size = take 4 frame;
      offset = get_or frame 4 0;
      ignored = get_or frame 6 0 ∷ get_or frame 7 0 ∷ [];
      extended = take (o - 8) (drop 8 frame);
      body = drop o frame;
      four = length-take-le 4 frame (omega arith);
      size_is = size;
      short = sized.1;
      two = refl;
      offset_is = omega (arith, length-take (o - 8) (drop 8 frame), length-drop 8 frame, offset);
      whole =
          eight frame (omega arith) ∙ ap (λ t. take 4 frame ++ (get_or frame 4 0 ∷ t ∷ (get_or frame 6 0 ∷ get_or frame 7 0 ∷ []) ++ drop 8 frame)) type
          ∙ ap (λ (r : List ℕ). take 4 frame ++ (get_or frame 4 0 ∷ 1 ∷ (get_or frame 6 0 ∷ get_or frame 7 0 ∷ []) ++ r)) (sym (extends o frame offset.0));
      says = subst (IsBody s) (sym text) f.1;
    }

pub no_body : (bytes : List ℕ) → body_at bytes ≡ None → (s : Said) (text rest : List ℕ) → IsBody s text → bytes ≡ text ++ rest → ⊥
no_body bytes none s text rest h e = let r = ap body_at e ∙ body_reader.again s text rest h in absurd cc

pub trailing : (s : Said) (bytes after : List ℕ) → body_at bytes ≡ Some (s, after) → after ≢ [] → (said : Said) × (text : List ℕ) × (rest : List ℕ) × IsBody said text × (bytes ≡ text ++ rest) × (rest ≢ [])
trailing s bytes after read some = let f = body_reader.found bytes s after read in (s, f.0, after, f.1, f.2, some)

pub more_after : (end : ℕ) (xs : List ℕ) → end ≤ length xs → end ≢ length xs → drop end xs ≢ []
more_after end xs inside other = λ none. absurd (omega (arith, ap length none, length-drop end xs, inside, other))

-- what is read of a whole frame is read at the front
pub whole_read : (input : List ℕ) (r : Result ReceivedFrame FrameFault) → HasWhole input → ReadsWhole (take (size_at input) input) r → ReadsFrame input r
whole_read input (Ok (Wants n)) h w = absurd w
whole_read input (Ok (Frame len body)) h w = (h, w)
whole_read input (Err no.Size) h w = absurd w
whole_read input (Err no.Offset) h w = (h, w)
whole_read input (Err no.Type) h w = (h, w)
whole_read input (Err no.Body) h w = (h, w)
whole_read input (Err no.Trailing) h w = (h, w)

four_bytes : (xs : List ℕ) → 4 ≤ length xs → get_or xs 0 0 ∷ get_or xs 1 0 ∷ get_or xs 2 0 ∷ get_or xs 3 0 ∷ [] ≡ take 4 xs
four_bytes (a ∷ b ∷ c ∷ d ∷ xs) l = refl
four_bytes [] l = absurd (omega arith)
four_bytes (a ∷ []) l = absurd (omega arith)
four_bytes (a ∷ b ∷ []) l = absurd (omega arith)
four_bytes (a ∷ b ∷ c ∷ []) l = absurd (omega arith)

pub size_read : (input : List ℕ) (n : ℕ) → 4 ≤ length input → n ≡ from_be_bytes w32 (get_or input 0 0 ∷ get_or input 1 0 ∷ get_or input 2 0 ∷ get_or input 3 0 ∷ []) → n ≡ size_at input
size_read input n l e = e ∙ ap (from_be_bytes w32) (four_bytes input l)

pub front_read : (input : List ℕ) (n : ℕ) (r : Result ReceivedFrame FrameFault) → 4 ≤ length input → n ≡ size_at input → IsSize n → n ≤ length input → ReadsWhole (take n input) r → ReadsFrame input r
front_read input n r l e sized inside w =
    whole_read input r (subst (λ m. (4 ≤ length input) × IsSize m × (m ≤ length input)) e (l, sized, inside)) (subst (λ m. ReadsWhole (take m input) r) e w)
