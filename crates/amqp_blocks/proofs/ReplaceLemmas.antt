-- An item in the place of another.
use Rattle.std.proofs.Common.{◌≡◌, ℕ, suc, zero, ◌+◌, ◌<◌, arith, List, [], ◌∷◌, ◌++◌, length, take, ap, sym, subst, ◌∙◌, refl, get_or, set, length-append, length-set}
use Rattle.amqp_blocks.specs.Chunked.{Block, in_block, items_of, start_of, ends_from, IsChunked, EachSome, places_of}
use Rattle.amqp_blocks.specs.Inner.Changes.{IsReplaced}
use Rattle.amqp_blocks.proofs.LeaveLemmas.{some_at, some_set}
use Rattle.amqp_blocks.proofs.PassLemmas.{ends_same, count_same}

module _ {X : Type 0} where
  set_front : (xs ys : List X) (i : ℕ) (x : X) → i < length xs → set xs i x ++ ys ≡ set (xs ++ ys) i x
  set_front [] ys i x h = absurd (omega arith)
  set_front (z ∷ zs) ys zero x h = refl
  set_front (z ∷ zs) ys (suc i) x h = ap (λ ws. z ∷ ws) (set_front zs ys i x (omega arith))

  set_after : (xs ys : List X) (i k : ℕ) (x : X) → k ≡ length xs + i → xs ++ set ys i x ≡ set (xs ++ ys) k x
  set_after [] ys i k x e = let z : i ≡ k = omega (arith, e) in ap (λ n. set ys n x) z
  set_after (z ∷ zs) ys i zero x e = absurd (omega (arith, e))
  set_after (z ∷ zs) ys i (suc k) x e = ap (λ ws. z ∷ ws) (set_after zs ys i k x (omega (arith, e)))

module _ {T : Type 0} where
  items_set : (bs : List (Block T)) (i at r : ℕ) (b c : Block T) (x : T) → i < length bs → b ≡ get_or bs i b → at < length b.items → c.items ≡ set b.items at x → r ≡ start_of bs i + at → items_of (set bs i c) ≡ set (items_of bs) r x
  items_set [] i at r b c x h e w f q = absurd (omega arith)
  items_set (d ∷ ds) zero at r b c x h e w f q =
      let same : b.items ≡ d.items = ap in_block e in
      let z : at ≡ r = omega (arith, q) in
      ap (λ (xs : List T). xs ++ items_of ds) (f ∙ ap (λ (xs : List T). set xs at x) same) ∙ set_front d.items (items_of ds) at x (omega (arith, w, ap length same)) ∙ ap (λ n. set (d.items ++ items_of ds) n x) z
  items_set (d ∷ ds) (suc i) at r b c x h e w f q =
      let l = length-append d.items (items_of (take i ds)) in
      ap (λ (xs : List T). d.items ++ xs) (items_set ds i at (start_of ds i + at) b c x (omega arith) e w f refl) ∙ set_after d.items (items_of ds) (start_of ds i + at) r x (omega (arith, q, l))

  pub items_replaced : (bs cs : List (Block T)) (i at r : ℕ) (x : T) → i < length bs → (u : IsReplaced bs i at x cs) → at < length u.from.items → r ≡ start_of bs i + at → items_of cs ≡ set (items_of bs) r x
  items_replaced bs cs i at r x h u w q = ap items_of u.set ∙ items_set bs i at r u.from u.to x h u.was w u.items q

  pub replaced_chunked : (base : ℕ) (bs cs : List (Block T)) (ends : List ℕ) (i at : ℕ) (x : T) → i < length bs → IsReplaced bs i at x cs → IsChunked base bs ends → IsChunked base cs ends
  replaced_chunked base bs cs ends i at x h u v =
      let same : length u.to.items ≡ length u.from.items = ap length u.items ∙ length-set u.from.items at x in
      let size = some_at bs i u.from v.some h u.was in
      record {
        stops = v.stops ∙ sym (ap (ends_from base) u.set ∙ ends_same base bs i u.from u.to h u.was same);
        some = subst EachSome (sym u.set) (some_set bs i u.to v.some (omega (arith, same, size.0)) (omega (arith, same, size.1)));
        low = v.low;
        few = omega (arith, ap (λ (xs : List (Block T)). length (items_of xs)) u.set, count_same bs i u.from u.to h u.was same, v.few);
      }

  places_at : (bs : List (Block T)) (i : ℕ) (b c : Block T) → i < length bs → b ≡ get_or bs i b → c.cap ≡ b.cap → places_of (set bs i c) ≡ places_of bs
  places_at [] i b c h e m = absurd (omega arith)
  places_at (d ∷ ds) zero b c h e m = let same = ap (λ (x : Block T). x.cap) e in omega (arith, same, m)
  places_at (d ∷ ds) (suc i) b c h e m = let r = places_at ds i b c (omega arith) e m in omega (arith, r)

  pub places_same : (bs cs : List (Block T)) (i at : ℕ) (x : T) → i < length bs → IsReplaced bs i at x cs → places_of cs ≡ places_of bs
  places_same bs cs i at x h u = ap places_of u.set ∙ places_at bs i u.from u.to h u.was u.places
