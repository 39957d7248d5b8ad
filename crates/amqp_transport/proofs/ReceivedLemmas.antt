-- Bytes that were read behind those of a buffer, of which as many are kept as came.
use Rattle.std.proofs.Common.{◌≡◌, ◌+◌, ◌-◌, ◌<◌, ◌≤◌, ◌⊎◌, ℕ, List, [], ◌++◌, length, take, drop, ap, sym, ◌∙◌, arith, Result, Ok, Err, IfErr, MatchResult, Option, inl}
use Rattle.std.specs.Io.{ReadsAtMost}
use Rattle.std.specs.Io.KnownBytes.{Consumes, Keeps, IsAtEnd, ReadConsumes}
use Rattle.std.specs.declared.io.Error.{Error}
use Rattle.std.proofs.Math.Seq.{take-append_seam, take-append-add}
use Rattle.std.proofs.Math.ListN.{drop_of_length-le}
use Rattle.std.proofs.lemmas.List.{append-nil, length-append, length-drop, length-take-le}
use Rattle.amqp_transport.specs.Failing.{ReadFailed, NoMemory}
use Rattle.amqp_transport.specs.Received.{read_count}
use borrow.Rule.Slice.PartMut.{post_of}

-- of what was read behind a front, so many bytes are kept
kept : (front places rest : List ℕ) (n at count : ℕ) → n ≡ length front + length places → at ≡ length front
    → take (at + count) (take n ((front ++ places) ++ rest)) ≡ front ++ take count places
kept front places rest n at count all is =
    let whole : n ≡ length (front ++ places) = omega (arith, all, length-append front places) in
    ap (λ (k : ℕ). take (at + count) (take k ((front ++ places) ++ rest))) whole ∙ ap (λ (xs : List ℕ). take (at + count) xs) (take-append_seam (front ++ places) rest)
    ∙ ap (λ (k : ℕ). take (k + count) (front ++ places)) is ∙ take-append-add front places count

-- what stood before the end stands there still, and what was read stands behind it
pub kept_behind : (front grown all places : List ℕ) (at most count : ℕ) → take (length front) grown ≡ front → length grown ≡ length front + most → all ≡ grown → at ≡ length front
    → length places ≡ most
    → take (at + count) (take (length grown) ((take at all ++ (places ++ post_of at (length all - at) all)) ++ drop (length (take at all ++ (places ++ post_of at (length all - at) all))) grown))
    ≡ front ++ take count places
kept_behind front grown all places at most count f g a is l =
    let long : length all ≡ at + most = ap (λ (xs : List ℕ). length xs) a ∙ g ∙ ap (λ (k : ℕ). k + most) (sym is) in
    let before : take at all ≡ front = ap (λ (k : ℕ). take k all) is ∙ ap (λ (xs : List ℕ). take (length front) xs) a ∙ f in
    let left = length-drop at all in
    let after : post_of at (length all - at) all ≡ [] = drop_of_length-le (drop at all) (omega (arith, left)) in
    let whole : length grown ≡ length front + length places = omega (arith, g, l) in
    rw (before, after, append-nil places) (kept front places _ (length grown) at count whole is)

-- what a read says, of a list that it went to the end of
pub read_done : (r : Result ℕ Error) (front now places : List ℕ) (most : ℕ) (old new : Option (List ℕ)) → ReadsAtMost r places → ReadConsumes old new r places
    → IfErr r (λ e. ReadFailed e) → length places ≡ most → 0 < most → now ≡ front ++ take (read_count r) places
    → MatchResult r (λ n. (more : List ℕ) × (length more ≡ n) × (n ≤ most) × (now ≡ front ++ more) × Consumes old new more × (n ≡ 0 → IsAtEnd new))
    (λ e. (now ≡ front) × Keeps old new × (ReadFailed e ⊎ NoMemory e))
read_done (Ok n) front now places most old new bound bytes failed l some is =
    let within : n ≤ most = omega (arith, bound, l) in
    let room : 0 < length places = omega (arith, l, some) in
    (take n places, length-take-le n places (omega (arith, within, l)), within, is, bytes.0, λ none. bytes.1 none room)
read_done (Err e) front now places most old new bound bytes failed l some is = (is ∙ append-nil front, bytes, inl failed)
