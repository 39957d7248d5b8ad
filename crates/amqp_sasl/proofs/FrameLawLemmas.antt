-- A frame at the front is read, and of a part of one more is wanted.
use Rattle.std.proofs.Common.{◌≡◌, ◌≢◌, ◌≤◌, ◌<◌, ◌*◌, ◌+◌, ℕ, List, [], ◌∷◌, ◌++◌, length, take, drop, get_or, Some, refl, sym, ap, subst, ◌∙◌, arith, inl, inr}
use Rattle.std.specs.Prelude.{Result, Ok, Err}
use Rattle.std.specs.Int.{w32, from_be_bytes}
use Rattle.std.proofs.lemmas.List.{append-nil, drop-drop, length-append, take-append-le}
use Rattle.std.proofs.Math.Seq.{take-append_seam}
use Rattle.amqp_values.proofs.ReaderLemmas.{pair_is}
use Rattle.amqp_sasl.specs.declared.body.Body.{Body}
use Rattle.amqp_sasl.specs.declared.frame.FrameFault.{FrameFault}
use Rattle.amqp_sasl.specs.declared.frame.FrameFault.TheVariants as no
use Rattle.amqp_sasl.specs.declared.frame.ReceivedFrame.{ReceivedFrame}
use Rattle.amqp_sasl.specs.declared.frame.ReceivedFrame.TheVariants.{Wants, Frame}
use Rattle.amqp_sasl.specs.SaslFrame.{Said, IsFrame, said_in}
use Rattle.amqp_sasl.specs.ReadFrame.{size_at, IsSize, offset_at, HasHeader, HasWhole, ReadsWhole}
use Rattle.amqp_sasl.specs.FrameLaws.{FramesAreRead, FrontsWantMore}
use Rattle.amqp_sasl.specs.Inner.Reading.{body_at}
use Rattle.amqp_sasl.proofs.BodyLemmas.{body_reader}

past : (front rest : List ℕ) → drop (length front) (front ++ rest) ≡ rest
past [] rest = refl
past (x ∷ xs) rest = past xs rest

-- ---- the header of a frame

pub record Header (offset : ℕ) (size extended body bytes : List ℕ) : Type 0 where
  pub front : take 4 bytes ≡ size
  pub offset_is : get_or bytes 4 0 ≡ offset
  pub type_is : get_or bytes 5 0 ≡ 1
  pub body_is : (o : ℕ) → o ≡ 8 + length extended → drop o bytes ≡ body
  pub long : length bytes ≡ 8 + (length extended + length body)

header_is : (size ignored extended body : List ℕ) (offset : ℕ) → length size ≡ 4 → length ignored ≡ 2 → Header offset size extended body (size ++ (offset ∷ 1 ∷ ignored ++ (extended ++ body)))
header_is (a ∷ b ∷ c ∷ d ∷ []) (e ∷ f ∷ []) extended body offset four two = record {
  front = refl;
  offset_is = refl;
  type_is = refl;
  body_is = λ o same.
      ap (λ n. drop n (a ∷ b ∷ c ∷ d ∷ offset ∷ 1 ∷ e ∷ f ∷ extended ++ body)) same ∙ sym (drop-drop (length extended) 8 (a ∷ b ∷ c ∷ d ∷ offset ∷ 1 ∷ e ∷ f ∷ extended ++ body)) ∙ past extended body;
  long = omega (arith, length-append extended body);
}
header_is [] ignored extended body offset four two = absurd (omega arith)
header_is (a ∷ []) ignored extended body offset four two = absurd (omega arith)
header_is (a ∷ b ∷ []) ignored extended body offset four two = absurd (omega arith)
header_is (a ∷ b ∷ c ∷ []) ignored extended body offset four two = absurd (omega arith)
header_is (a ∷ b ∷ c ∷ d ∷ e ∷ size) ignored extended body offset four two = absurd (omega arith)
header_is (a ∷ b ∷ c ∷ d ∷ []) [] extended body offset four two = absurd (omega arith)
header_is (a ∷ b ∷ c ∷ d ∷ []) (e ∷ []) extended body offset four two = absurd (omega arith)
header_is (a ∷ b ∷ c ∷ d ∷ []) (e ∷ f ∷ g ∷ ignored) extended body offset four two = absurd (omega arith)

header_of : (s : Said) (text : List ℕ) (h : IsFrame s text) → Header h.offset h.size h.extended h.body text
header_of s text h = subst (Header h.offset h.size h.extended h.body) (sym h.whole) (header_is h.size h.ignored h.extended h.body h.offset h.four h.two)

size_of : (s : Said) (text : List ℕ) → IsFrame s text → size_at text ≡ length text
size_of s text h = ap (from_be_bytes w32) (header_of s text h).front ∙ h.size_is

sized : (s : Said) (text : List ℕ) → IsFrame s text → IsSize (length text)
sized s text h = (omega (arith, (header_of s text h).long), h.short)

header_has : (s : Said) (text : List ℕ) → IsFrame s text → HasHeader text
header_has s text h =
    let k = header_of s text h in
    let o : get_or text 4 0 * 4 ≡ 8 + length h.extended = ap (λ n. n * 4) k.offset_is ∙ h.offset_is in
    ((omega arith, omega (arith, k.long)), k.type_is)

body_of : (s : Said) (text : List ℕ) → IsFrame s text → body_at (drop (offset_at text) text) ≡ Some (s, [])
body_of s text h =
    let k = header_of s text h in
    let o : get_or text 4 0 * 4 ≡ 8 + length h.extended = ap (λ n. n * 4) k.offset_is ∙ h.offset_is in
    ap body_at (k.body_is (get_or text 4 0 * 4) o ∙ sym (append-nil h.body)) ∙ body_reader.again s h.body [] h.says

-- ---- a whole frame

Read : Said → List ℕ → Result ReceivedFrame FrameFault → Type 0
Read said text result = (body : Body) × (result ≡ Ok (Frame (length text) body)) × (said_in text body ≡ said)

whole_is : (s : Said) (text : List ℕ) (r : Result ReceivedFrame FrameFault) → IsFrame s text → ReadsWhole text r → Read s text r
unfolding Read
whole_is s text (Ok (Wants n)) h w = absurd w
whole_is s text (Ok (Frame len body)) h w =
    let same : Some (said_in text body, []) ≡ Some (s, []) = sym (body_of (said_in text body) text w.2) ∙ body_of s text h in
    (body, ap (λ n. Ok (Frame n body)) w.0, (pair_is (said_in text body) s [] [] same).0)
whole_is s text (Err no.Size) h w = absurd w
whole_is s text (Err no.Offset) h w = absurd (w (header_has s text h).0)
whole_is s text (Err no.Type) h w = absurd (w.1 (header_has s text h).1)
whole_is s text (Err no.Body) h w =
    let f = body_reader.found (drop (offset_at text) text) s [] (body_of s text h) in absurd (w.1 s f.0 [] f.1 f.2)
whole_is s text (Err no.Trailing) h w =
    let other = ap body_at w.1.4 ∙ body_reader.again w.1.0 w.1.1 w.1.2 w.1.3 in
    let same : Some (w.1.0, w.1.2) ≡ Some (s, []) = sym other ∙ body_of s text h in
    absurd (w.1.5 (pair_is w.1.0 s w.1.2 [] same).1)

-- ---- a frame at the front

front_size : (s : Said) (front rest : List ℕ) → 4 ≤ length front → size_at (front ++ rest) ≡ size_at front
front_size s front rest l = ap (from_be_bytes w32) (take-append-le 4 front rest l)

at_front : (s : Said) (text rest : List ℕ) (r : Result ReceivedFrame FrameFault) → IsFrame s text → ReadsWhole (take (size_at (text ++ rest)) (text ++ rest)) r → Read s text r
at_front s text rest r h w =
    let n : size_at (text ++ rest) ≡ length text = front_size s text rest (omega (arith, sized s text h)) ∙ size_of s text h in
    whole_is s text r h (subst (λ (t : List ℕ). ReadsWhole t r) (ap (λ m. take m (text ++ rest)) n ∙ take-append_seam text rest) w)

pub frames_are_read : FramesAreRead
unfolding Read
frames_are_read s text rest (Ok (Wants n)) h w =
    let size : size_at (text ++ rest) ≡ length text = front_size s text rest (omega (arith, sized s text h)) ∙ size_of s text h in
    let long = length-append text rest in
    let least = sized s text h in
    absurd (elim w.1 [ inl x ↦ omega arith | inr x ↦ omega arith ])
frames_are_read s text rest (Ok (Frame len body)) h w = at_front s text rest (Ok (Frame len body)) h w.1
frames_are_read s text rest (Err no.Size) h w =
    let size : size_at (text ++ rest) ≡ length text = front_size s text rest (omega (arith, sized s text h)) ∙ size_of s text h in
    absurd (w.1 (subst IsSize (sym size) (sized s text h)))
frames_are_read s text rest (Err no.Offset) h w = at_front s text rest (Err no.Offset) h w.1
frames_are_read s text rest (Err no.Type) h w = at_front s text rest (Err no.Type) h w.1
frames_are_read s text rest (Err no.Body) h w = at_front s text rest (Err no.Body) h w.1
frames_are_read s text rest (Err no.Trailing) h w = at_front s text rest (Err no.Trailing) h w.1

-- ---- a frame that is not whole

not_empty : (rest : List ℕ) → rest ≢ [] → 0 < length rest
not_empty [] other = absurd (other refl)
not_empty (x ∷ xs) other = omega arith

-- its size is beyond what is there
beyond : (s : Said) (front rest : List ℕ) → IsFrame s (front ++ rest) → rest ≢ [] → 4 ≤ length front → (size_at front ≡ length (front ++ rest)) × (length front < length (front ++ rest))
beyond s front rest h some l = (sym (front_size s front rest l) ∙ size_of s (front ++ rest) h, omega (arith, length-append front rest, not_empty rest some))

not_whole : (s : Said) (front rest : List ℕ) → IsFrame s (front ++ rest) → rest ≢ [] → HasWhole front → ⊥
not_whole s front rest h some w = let b = beyond s front rest h some w.0 in omega arith

pub fronts_want_more : FrontsWantMore
fronts_want_more s front rest (Ok (Wants n)) h some w =
    (n, refl, elim w.1 [ inl x ↦ let least = sized s (front ++ rest) h in omega arith | inr x ↦ let b = beyond s front rest h some x.0 in omega arith ])
fronts_want_more s front rest (Ok (Frame len body)) h some w = absurd (not_whole s front rest h some w.0)
fronts_want_more s front rest (Err no.Size) h some w =
    let b = beyond s front rest h some w.0 in absurd (w.1 (subst IsSize (sym b.0) (sized s (front ++ rest) h)))
fronts_want_more s front rest (Err no.Offset) h some w = absurd (not_whole s front rest h some w.0)
fronts_want_more s front rest (Err no.Type) h some w = absurd (not_whole s front rest h some w.0)
fronts_want_more s front rest (Err no.Body) h some w = absurd (not_whole s front rest h some w.0)
fronts_want_more s front rest (Err no.Trailing) h some w = absurd (not_whole s front rest h some w.0)
