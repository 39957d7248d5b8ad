-- Cutting a payload: one more piece, and all of them.
use Rattle.std.proofs.Common.{◌≡◌, ℕ, suc, ◌+◌, ◌-◌, ◌*◌, ◌/◌, ◌<◌, ◌≤◌, List, [], ◌∷◌, ◌++◌, length, take, drop, map, sym, ap, subst, ◌∙◌, arith, append_assoc}
use Rattle.std.proofs.Math.Nat.{mul-le-mul_left}
use Rattle.std.proofs.lemmas.List.{length-append, length-take-le, length-drop, append-nil, map_push, take-append-drop}
use Rattle.std.proofs.lemmas.List.Elements.{All-push}
use Rattle.amqp_values.specs.Reading.{joined}
use Rattle.amqp_values.proofs.TrimLemmas.{joined-append}
use Rattle.amqp_types.specs.Transfer.{TransferModel}
use Rattle.amqp_frames.specs.Frame.{header_text}
use Rattle.amqp_frames.specs.Piece.{PieceParts, piece_bytes, payload_part}
use Rattle.std.specs.Prelude.{slice_index_or}
use Rattle.amqp_frames.specs.Cut.{first_text, middle_text, last_text, room, LeavesRoom, IsCut}
use Rattle.amqp_frames.specs.Inner.Pieces.{Adds, InPieces}
use Rattle.amqp_frames.proofs.TransferLengthLemmas.{middle_longer}

-- ---- pieces in the middle

joined_push : (xs : List PieceParts) (p : PieceParts) → joined (map payload_part (xs ++ p ∷ [])) ≡ joined (map payload_part xs) ++ p.payload
joined_push xs p =
    ap joined (map_push payload_part xs p) ∙ joined-append (map payload_part xs) (p.payload ∷ [])
    ∙ ap (λ (r : List ℕ). joined (map payload_part xs) ++ r) (append-nil p.payload)

pub adds_more : (head : List ℕ) (step : ℕ) (old new more : List PieceParts) (before after left : List ℕ) (n m : ℕ) (p : PieceParts)
    → Adds head step old new before after n → p.head ≡ head → p.payload ≡ take step after → step ≤ length after → left ≡ drop step after → more ≡ new ++ p ∷ [] → m ≡ n + step
    → Adds head step old more before left m
adds_more head step old new more before after left n m p a h part le left_is more_is m_is =
    let whole : p.payload ++ left ≡ after = ap (λ (r : List ℕ). r ++ left) part ∙ ap (λ (r : List ℕ). take step after ++ r) left_is ∙ take-append-drop step after in
    record {
      middle = a.middle ++ p ∷ [];
      added = more_is ∙ ap (λ (r : List PieceParts). r ++ p ∷ []) a.added ∙ append_assoc old a.middle (p ∷ []);
      heads = All-push (λ q. q.head ≡ head) a.middle p a.heads h;
      full = All-push (λ q. length q.payload ≡ step) a.middle p a.full (ap length part ∙ length-take-le step after le);
      parts = a.parts ∙ ap (λ (r : List ℕ). joined (map payload_part a.middle) ++ r) (sym whole)
          ∙ sym (append_assoc (joined (map payload_part a.middle)) p.payload left)
          ∙ ap (λ (r : List ℕ). r ++ left) (sym (joined_push a.middle p));
      left = let l = a.left in let d = ap length left_is ∙ length-drop step after in omega arith;
    }

-- there is enough for one more
pub enough : (step i count left total : ℕ) → left + step * i ≡ total → i < count → step * count ≤ total → step ≤ left
enough step i count left total e lt le = let h : i + 1 ≤ count = omega arith in let m = mul-le-mul_left step h in omega arith

-- ---- all pieces

last_size : (l front step left : ℕ) → front < l → 0 < step → left + step * ((l - front - 1) / step) ≡ l - front → (1 ≤ left) × (left ≤ step)
last_size l front step left some pos e = (omega arith, omega arith)

pub in_pieces : (channel : ℕ) (t : TransferModel) (payload : List ℕ) (front step : ℕ) (first last : PieceParts) (all done : List PieceParts) (rest after : List ℕ)
    → front < length payload → 0 < step → first.head ≡ header_text channel ++ first_text t → first.payload ≡ take front payload → rest ≡ drop front payload
    → Adds (header_text channel ++ middle_text t) step (first ∷ []) all rest after (step * ((length payload - front - 1) / step))
    → last.head ≡ header_text channel ++ last_text t → last.payload ≡ after → done ≡ all ++ last ∷ [] → InPieces channel t payload front step done
in_pieces channel t payload front step first last all done rest after some pos first_is front_is rest_is a last_is after_is done_is =
    let tail = ap length rest_is ∙ length-drop front payload in
    let l = a.left in
    let e : length after + step * ((length payload - front - 1) / step) ≡ length payload - front = omega arith in
    let size = last_size (length payload) front step (length after) some pos e in
    let n = ap length after_is in
    let pieces_are : done ≡ first ∷ a.middle ++ last ∷ [] = done_is ∙ ap (λ (r : List PieceParts). r ++ last ∷ []) a.added in
    record {
      first = first;
      middle = a.middle;
      last = last;
      pieces_are = pieces_are;
      first_is = first_is;
      middle_are = a.heads;
      last_is = last_is;
      first_front = ap length front_is ∙ length-take-le front payload (omega arith);
      middle_step = a.full;
      last_some = let h = size.0 in omega arith;
      last_step = let h = size.1 in omega arith;
      parts = ap (λ (r : List PieceParts). joined (map payload_part r)) (pieces_are)
          ∙ ap (λ (r : List ℕ). first.payload ++ r) (joined_push a.middle last)
          ∙ ap (λ (r : List ℕ). r ++ (joined (map payload_part a.middle) ++ last.payload)) front_is
          ∙ ap (λ (r : List ℕ). take front payload ++ (joined (map payload_part a.middle) ++ r)) after_is
          ∙ ap (λ (r : List ℕ). take front payload ++ r) (sym a.parts ∙ rest_is)
          ∙ take-append-drop front payload;
    }

pub adds_from : (head : List ℕ) (step : ℕ) (start old new : List PieceParts) (before after : List ℕ) (n m : ℕ) → start ≡ old → n ≡ m → Adds head step start new before after n → Adds head step old new before after m
adds_from head step start old new before after n m s e a =
    subst (λ (x : List PieceParts). Adds head step x new before after m) s (subst (λ (k : ℕ). Adds head step start new before after k) e a)

-- ---- the pieces of a transfer

pub piece_len : (p : PieceParts) (channel : ℕ) (text : List ℕ) → p.head ≡ header_text channel ++ text → length (piece_bytes p) ≡ 4 + length text + length p.payload
piece_len p channel text h =
    let a = length-append p.head p.payload in
    let b : length p.head ≡ suc (suc (suc (suc (length text)))) = ap length h in
    omega arith

full_len : (p : PieceParts) (channel m part : ℕ) (text : List ℕ) → 4 ≤ m → length text ≤ room m → part ≡ room m - length text → p.head ≡ header_text channel ++ text → length p.payload ≡ part → length (piece_bytes p) ≡ m
full_len p channel m part text four le is h e = let l = piece_len p channel text h in omega arith

last_len : (p : PieceParts) (channel m : ℕ) (text other : List ℕ) → 4 ≤ m → length other ≤ room m → length text ≤ length other → p.head ≡ header_text channel ++ text → length p.payload ≤ room m - length other → length (piece_bytes p) ≤ m
last_len p channel m text other four le shorter h e = let l = piece_len p channel text h in omega arith

pub is_cut : (channel m front step : ℕ) (t : TransferModel) (payload : List ℕ) (pieces : List PieceParts) → 4 ≤ m → LeavesRoom t m
    → front ≡ room m - length (first_text t) → step ≡ room m - length (middle_text t) → InPieces channel t payload front step pieces → IsCut channel t payload m pieces
is_cut channel m front step t payload pieces four r front_is step_is p =
    let middle_fits : length (middle_text t) ≤ room m = lt-weaken _ _ r.1 in
    record {
      first = p.first;
      middle = p.middle;
      last = p.last;
      pieces_are = p.pieces_are;
      first_is = p.first_is;
      middle_are = p.middle_are;
      last_is = p.last_is;
      first_full = full_len p.first channel m front (first_text t) four r.0 front_is p.first_is p.first_front;
      middle_full = λ k d lt. full_len (slice_index_or p.middle k d) channel m step (middle_text t) four middle_fits step_is (p.middle_are k d lt) (p.middle_step k d lt);
      last_some = p.last_some;
      last_fits = le_by p.last_step step_is;
      last_within = last_len p.last channel m (last_text t) (middle_text t) four middle_fits (middle_longer t) p.last_is (le_by p.last_step step_is);
      parts = p.parts;
    }
  where
    lt-weaken : (a b : ℕ) → a < b → a ≤ b
    lt-weaken a b h = omega arith

    le_by : {a b c : ℕ} → a ≤ b → b ≡ c → a ≤ c
    le_by h e = omega arith
