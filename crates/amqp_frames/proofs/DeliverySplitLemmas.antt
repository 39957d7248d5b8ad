-- Splitting a delivery: one more part, and all of them.
use Rattle.std.proofs.Common.{◌≡◌, ℕ, ◌+◌, ◌-◌, ◌*◌, ◌/◌, ◌<◌, ◌≤◌, List, [], ◌∷◌, ◌++◌, length, take, drop, map, true, false, sym, ap, subst, ◌∙◌, arith, append_assoc, inr}
use Rattle.std.proofs.lemmas.List.{length-take-le, length-drop, append-nil, map_push, take-append-drop}
use Rattle.std.proofs.lemmas.List.Elements.{All-push, All-cons}
use Rattle.std.specs.Prelude.{slice_index_or, All}
use Rattle.amqp_values.specs.Reading.{joined}
use Rattle.amqp_values.proofs.TrimLemmas.{joined-append}
use Rattle.amqp_types.specs.declared.performatives.transfer.TransferFragment.TheVariants as text
use Rattle.amqp_types.specs.Transfer.{TransferModel, said_in, widest}
use Rattle.amqp_frames.specs.declared.split.DeliveryPart.{DeliveryPart}
use Rattle.amqp_frames.specs.Cut.{first_text, middle_text, last_text, transfer_text, room, LeavesRoom}
use Rattle.amqp_frames.specs.Split.{numbered_widest, part_payload, IsOnePiece, IsLater, IsFull, FitsPart, IsSplit}
use Rattle.amqp_frames.specs.Inner.Parts.{AddsParts, TakesParts}
use Rattle.amqp_frames.proofs.TransferLengthLemmas.{middle_longer}

-- ---- parts in the middle

joined_push : (xs : List DeliveryPart) (p : DeliveryPart) → joined (map part_payload (xs ++ p ∷ [])) ≡ joined (map part_payload xs) ++ p.payload
joined_push xs p =
    ap joined (map_push part_payload xs p) ∙ joined-append (map part_payload xs) (p.payload ∷ [])
    ∙ ap (λ (r : List ℕ). joined (map part_payload xs) ++ r) (append-nil p.payload)

pub adds_more : (t : TransferModel) (step : ℕ) (old new more : List DeliveryPart) (before after left : List ℕ) (n m : ℕ) (p : DeliveryPart)
    → AddsParts t step old new before after n → IsLater t p → p.payload ≡ take step after → step ≤ length after → left ≡ drop step after → more ≡ new ++ p ∷ [] → m ≡ n + step
    → AddsParts t step old more before left m
adds_more t step old new more before after left n m p a h part le left_is more_is m_is =
    let whole : p.payload ++ left ≡ after = ap (λ (r : List ℕ). r ++ left) part ∙ ap (λ (r : List ℕ). take step after ++ r) left_is ∙ take-append-drop step after in
    record {
      middle = a.middle ++ p ∷ [];
      added = more_is ∙ ap (λ (r : List DeliveryPart). r ++ p ∷ []) a.added ∙ append_assoc old a.middle (p ∷ []);
      are = All-push (IsLater t) a.middle p a.are h;
      full = All-push (λ q. length q.payload ≡ step) a.middle p a.full (ap length part ∙ length-take-le step after le);
      parts = a.parts ∙ ap (λ (r : List ℕ). joined (map part_payload a.middle) ++ r) (sym whole)
          ∙ sym (append_assoc (joined (map part_payload a.middle)) p.payload left)
          ∙ ap (λ (r : List ℕ). r ++ left) (sym (joined_push a.middle p));
      left = let l = a.left in let d = ap length left_is ∙ length-drop step after in omega arith;
    }

-- ---- all parts

last_size : (l front step left : ℕ) → front < l → 0 < step → left + step * ((l - front - 1) / step) ≡ l - front → (1 ≤ left) × (left ≤ step)
last_size l front step left some pos e = (omega arith, omega arith)

pub in_parts : (t : TransferModel) (payload : List ℕ) (front step : ℕ) (first last : DeliveryPart) (all done : List DeliveryPart) (rest after : List ℕ)
    → front < length payload → 0 < step → (first.is_first ≡ true) × (first.transfer ≡ said_in text.First t) → first.payload ≡ take front payload → rest ≡ drop front payload
    → AddsParts (said_in text.Middle t) step (first ∷ []) all rest after (step * ((length payload - front - 1) / step))
    → IsLater (said_in text.Last t) last → last.payload ≡ after → done ≡ all ++ last ∷ [] → TakesParts t payload front step done
in_parts t payload front step first last all done rest after some pos first_is front_is rest_is a last_is after_is done_is =
    let tail = ap length rest_is ∙ length-drop front payload in
    let l = a.left in
    let e : length after + step * ((length payload - front - 1) / step) ≡ length payload - front = omega arith in
    let size = last_size (length payload) front step (length after) some pos e in
    let n = ap length after_is in
    let parts_are : done ≡ first ∷ a.middle ++ last ∷ [] = done_is ∙ ap (λ (r : List DeliveryPart). r ++ last ∷ []) a.added in
    record {
      first = first;
      middle = a.middle;
      last = last;
      parts_are = parts_are;
      first_is = first_is;
      middle_are = a.are;
      last_is = last_is;
      first_front = ap length front_is ∙ length-take-le front payload (omega arith);
      middle_step = a.full;
      last_some = let h = size.0 in omega arith;
      last_step = let h = size.1 in omega arith;
      joined_are = ap (λ (r : List DeliveryPart). joined (map part_payload r)) (parts_are)
          ∙ ap (λ (r : List ℕ). first.payload ++ r) (joined_push a.middle last)
          ∙ ap (λ (r : List ℕ). r ++ (joined (map part_payload a.middle) ++ last.payload)) front_is
          ∙ ap (λ (r : List ℕ). take front payload ++ (joined (map part_payload a.middle) ++ r)) after_is
          ∙ ap (λ (r : List ℕ). take front payload ++ r) (sym a.parts ∙ rest_is)
          ∙ take-append-drop front payload;
    }

pub adds_from : (t : TransferModel) (step : ℕ) (start old new : List DeliveryPart) (before after : List ℕ) (n m : ℕ) → start ≡ old → n ≡ m → AddsParts t step start new before after n → AddsParts t step old new before after m
adds_from t step start old new before after n m s e a =
    subst (λ (x : List DeliveryPart). AddsParts t step x new before after m) s (subst (λ (k : ℕ). AddsParts t step start new before after k) e a)

-- ---- each part is one piece

-- the text of a part is that of what it was made of
text_is : (p : DeliveryPart) (first : _) (t : TransferModel) → p.is_first ≡ first → p.transfer ≡ t
    → length (transfer_text (numbered_widest p.is_first p.transfer)) ≡ length (transfer_text (numbered_widest first t))
text_is p first t f e = ap (λ b. length (transfer_text (numbered_widest b p.transfer))) f ∙ ap (λ x. length (transfer_text (numbered_widest first x))) e

full_is : (p : DeliveryPart) (m size part : ℕ) → length (transfer_text (numbered_widest p.is_first p.transfer)) ≡ size → size ≤ room m → part ≡ room m - size → length p.payload ≡ part → IsFull m p
full_is p m size part e le is l = omega arith

full_fits : (m : ℕ) (p : DeliveryPart) → IsFull m p → FitsPart m p
full_fits m p f = omega arith

last_fits : (m size other : ℕ) (p : DeliveryPart) → length (transfer_text (numbered_widest p.is_first p.transfer)) ≡ size → size ≤ other → other ≤ room m → length p.payload ≤ room m - other → FitsPart m p
last_fits m size other p e le fits short = omega arith

pub is_split : (t : TransferModel) (payload : List ℕ) (m front step : ℕ) (parts : List DeliveryPart) → LeavesRoom (widest t) m → ¬ IsOnePiece m true t payload
    → front ≡ room m - length (first_text (widest t)) → step ≡ room m - length (middle_text (widest t)) → TakesParts t payload front step parts → IsSplit t payload m parts
is_split t payload m front step parts r big front_is step_is p =
    let first_full : IsFull m p.first = full_is p.first m (length (first_text (widest t))) front (text_is p.first true (said_in text.First t) p.first_is.0 p.first_is.1) r.0 front_is p.first_front in
    let middle_full : All (IsFull m) p.middle = λ k d lt. let h = p.middle_are k d lt in
    full_is (slice_index_or p.middle k d) m (length (middle_text t)) step (text_is (slice_index_or p.middle k d) false (said_in text.Middle t) h.0 h.1) (weaken r.1) step_is (p.middle_step k d lt) in
    let last_fits : FitsPart m p.last = last_fits m (length (last_text t)) (length (middle_text t)) p.last
    (text_is p.last false (said_in text.Last t) p.last_is.0 p.last_is.1) (middle_longer t) (weaken r.1) (le_by p.last_step step_is) in
    record {
      shape = inr (
        big,
        record {
          first = p.first;
          middle = p.middle;
          last = p.last;
          parts_are = p.parts_are;
          first_is = p.first_is;
          middle_are = p.middle_are;
          last_is = p.last_is;
          first_full = first_full;
          middle_full = middle_full;
          last_some = p.last_some;
        },
      );
      joined_are = p.joined_are;
      each_fits = subst (All (FitsPart m)) (sym p.parts_are)
          (All-cons (FitsPart m) p.first (p.middle ++ p.last ∷ []) (full_fits m p.first first_full)
          (All-push (FitsPart m) p.middle p.last (λ k d lt. full_fits m (slice_index_or p.middle k d) (middle_full k d lt)) last_fits));
    }
  where
    weaken : {a b : ℕ} → a < b → a ≤ b
    weaken h = omega arith

    le_by : {a b c : ℕ} → a ≤ b → b ≡ c → a ≤ c
    le_by h e = omega arith
