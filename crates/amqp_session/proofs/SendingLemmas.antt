-- The books of the sending half: numbers, window and what waits.
use Rattle.std.proofs.Common.{◌≡◌, ℕ, suc, zero, ◌<◌, ◌≤◌, ◌-◌, ◌+◌, ◌%◌, ◌^◌, ◌++◌, [], ◌∷◌, List, length, take, drop, refl, ap, arith, sym, ◌∙◌, min, append_assoc, append-nil, length-append, length-take, length-drop, Bool, true, false, cond, Option, Some, None, is_some, slice_get, unwrap_or}
use Rattle.std.proofs.lemmas.List.{take-append-le, take-append-drop, drop-append-le, drop-drop, take_min, drop_min}
use Rattle.amqp_session.specs.declared.frame.SessionFrame.{SessionFrame}
use Rattle.amqp_session.specs.declared.frame.SessionOutgoingItem.{SessionOutgoingItem}
use Rattle.amqp_session.specs.declared.frame.SessionOutgoingItem.TheVariants.{SingleFrame, MultipleFrames}
use Rattle.amqp_session.specs.Serial.{In, remaining}
use Rattle.amqp_session.specs.Transfers.{RequestedTransfer, frame_of, first_of, numbered, firsts}
use Rattle.amqp_session.specs.Sending.{SendingView, joined, moved, begun, let_out, drained}
use Rattle.amqp_session.specs.Items.{HandsOut, item_frames}
use Rattle.amqp_session.specs.Headline.{transfer_in, transfers_in, carried, SendingMatches}
use Rattle.amqp_session.proofs.HandedOutLemmas.{numbered_same}

-- ---- numbers past the wrap

pub inside_at : (t base width k : ℕ) → t < 2 ^ 32 → base < 2 ^ 32 → width < 2 ^ 32 → k < remaining t (base, width) → In ((t + k) % 2 ^ 32) (base, width)
inside_at t base width k ht hb hw h = omega arith

pub remaining_after : (t base width n : ℕ) → t < 2 ^ 32 → base < 2 ^ 32 → width < 2 ^ 32 → n ≤ remaining t (base, width) → remaining ((t + n) % 2 ^ 32) (base, width) ≡ remaining t (base, width) - n
remaining_after t base width n ht hb hw h = omega arith

pub used_up : (t base width : ℕ) → remaining t (base, width) ≡ 0 → In t (base, width) → 0 < 0
used_up t base width z i = omega arith

-- ---- lists

pub length-numbered : (c n : ℕ) (hs : List RequestedTransfer) → length (numbered c n hs) ≡ length hs
length-numbered c n [] = refl
length-numbered c n (h ∷ hs) = ap (λ k. suc k) (length-numbered c (n + first_of h) hs)

pub numbered-append : (c n : ℕ) (xs ys : List RequestedTransfer) → numbered c n (xs ++ ys) ≡ numbered c n xs ++ numbered c (n + firsts xs) ys
numbered-append c n [] ys = ap (λ k. numbered c k ys) (omega arith)
numbered-append c n (x ∷ xs) ys =
    let e : (n + first_of x) + firsts xs ≡ n + (first_of x + firsts xs) = omega arith in
    ap (λ ts. frame_of c n x ∷ ts) (numbered-append c (n + first_of x) xs ys ∙ ap (λ k. numbered c (n + first_of x) xs ++ numbered c k ys) e)

pub firsts-append : (xs ys : List RequestedTransfer) → firsts (xs ++ ys) ≡ firsts xs + firsts ys
firsts-append [] ys = omega arith
firsts-append (x ∷ xs) ys = omega (arith, firsts-append xs ys)

pub take-nil : (n : ℕ) → take n (let e : List RequestedTransfer = [] in e) ≡ []
take-nil zero = refl
take-nil (suc n) = refl

pub take-add : (n m : ℕ) (xs : List RequestedTransfer) → take (n + m) xs ≡ take n xs ++ take m (drop n xs)
take-add zero m xs = ap (λ k. take k xs) (omega arith)
take-add (suc n) m [] = take-nil (suc n + m) ∙ sym (take-nil m)
take-add (suc n) m (x ∷ xs) =
    let e : suc n + m ≡ suc (n + m) = omega arith in
    rw e (ap (λ ts. x ∷ ts) (take-add n m xs))

pub transfers_in-append : (xs ys : List SessionFrame) → transfers_in (xs ++ ys) ≡ transfers_in xs ++ transfers_in ys
transfers_in-append [] ys = refl
transfers_in-append (x ∷ xs) ys = ap (λ ts. transfer_in x.body x ++ ts) (transfers_in-append xs ys) ∙ sym (append_assoc (transfer_in x.body x) (transfers_in xs) (transfers_in ys))

pub transfers_in-numbered : (c n : ℕ) (hs : List RequestedTransfer) → transfers_in (numbered c n hs) ≡ numbered c n hs
transfers_in-numbered c n [] = refl
transfers_in-numbered c n (h ∷ hs) = ap (λ ts. frame_of c n h ∷ ts) (transfers_in-numbered c (n + first_of h) hs)

pub hands_frames : (b : Bool) (fs : List SessionFrame) (item : Option SessionOutgoingItem) → HandsOut b fs item → item_frames item ≡ fs
hands_frames b fs None h = sym h
hands_frames b fs (Some (SingleFrame f)) h = sym h.1
hands_frames b fs (Some (MultipleFrames v)) h = sym h.1

-- a frame carries a delivery-id where it is the first of its delivery
is_some_if : (b : Bool) (n : ℕ) → is_some (cond b (Some n) None) ≡ b
is_some_if true n = refl
is_some_if false n = refl

pub numbered_first : (c n m k : ℕ) (hs : List RequestedTransfer) (h : RequestedTransfer) (f : SessionFrame) → slice_get hs k ≡ Some h → slice_get (numbered c n (take m hs)) k ≡ Some f → is_some (carried f.body) ≡ h.is_first
numbered_first c n m k [] h f e g = absurd (cc)
numbered_first c n zero k (x ∷ hs) h f e g = absurd (cc)
numbered_first c n (suc m) zero (x ∷ hs) h f e g =
    let same : x ≡ h = ap (λ o. unwrap_or o x) e in
    let frame : frame_of c n x ≡ f = ap (λ o. unwrap_or o f) g in
    ap (λ (y : SessionFrame). is_some (carried y.body)) (sym frame) ∙ is_some_if x.is_first (n % 2 ^ 32) ∙ ap (λ (y : RequestedTransfer). y.is_first) same
numbered_first c n (suc m) (suc k) (x ∷ hs) h f e g = numbered_first c (n + first_of x) m k hs h f e g

-- ---- the number of the next delivery that is accepted

pub firsts-cut : (n : ℕ) (held : List RequestedTransfer) → firsts held ≡ firsts (take n held) + firsts (drop n held)
firsts-cut n held = ap firsts (sym (take-append-drop n held)) ∙ firsts-append (take n held) (drop n held)

-- what goes out is numbered, and no longer waits: the number after all of them stays
pub number_drained : (shown n m count : ℕ) (held left : List RequestedTransfer) → shown ≡ (n + firsts held) % 2 ^ 32
    → m ≡ (n + firsts (take count held)) % 2 ^ 32 → left ≡ drop count held → shown ≡ (m + firsts left) % 2 ^ 32
number_drained shown n m count held left kept next rest =
    let cut = firsts-cut count held in
    let same : firsts left ≡ firsts (drop count held) = ap firsts rest in
    omega (arith, kept, next, cut, same)

-- one more waits
pub number_joined : (shown shown' n : ℕ) (h : RequestedTransfer) (held held' : List RequestedTransfer) → shown ≡ (n + firsts held) % 2 ^ 32
    → shown' ≡ (shown + first_of h) % 2 ^ 32 → held' ≡ held ++ h ∷ [] → shown' ≡ (n + firsts held') % 2 ^ 32
number_joined shown shown' n h held held' kept next rest =
    let same : firsts held' ≡ firsts held + (first_of h + 0) = ap firsts rest ∙ firsts-append held (h ∷ []) in
    omega (arith, kept, next, same)

-- ---- the books of the sending half

pub SendingMatches-joined : (c i : ℕ) (A : List RequestedTransfer) (F : List SessionFrame) (w : ℕ × ℕ) (v : SendingView) (h : RequestedTransfer) → SendingMatches c i A F w v → SendingMatches c i (A ++ h ∷ []) F w (joined v h)
SendingMatches-joined c i A F w v h b =
    let taken : take (length F) (A ++ h ∷ []) ≡ take (length F) A = take-append-le (length F) A (h ∷ []) b.no_more in
    let dropped : drop (length F) (A ++ h ∷ []) ≡ drop (length F) A ++ h ∷ [] = drop-append-le (length F) A (h ∷ []) b.no_more in
    record {
      next_is = b.next_is;
      delivery_is = b.delivery_is ∙ sym (ap (λ xs. firsts xs % 2 ^ 32) taken);
      held_is = ap (λ xs. xs ++ h ∷ []) b.held_is ∙ sym dropped;
      window_is = b.window_is;
      base_fits = b.base_fits;
      width_fits = b.width_fits;
      handed_out = b.handed_out ∙ sym (ap (λ xs. numbered c 0 xs) taken);
      no_more = omega (arith, b.no_more, length-append A (h ∷ []));
    }

pub SendingMatches-moved : (c i : ℕ) (A : List RequestedTransfer) (F : List SessionFrame) (w : ℕ × ℕ) (v : SendingView) (base width : ℕ) → width < 2 ^ 32 → base < 2 ^ 32 → SendingMatches c i A F w v → SendingMatches c i A F (base, width) (moved v base width)
SendingMatches-moved c i A F w v base width hw hb b = record {
  next_is = b.next_is;
  delivery_is = b.delivery_is;
  held_is = b.held_is;
  window_is = refl;
  base_fits = hb;
  width_fits = hw;
  handed_out = b.handed_out;
  no_more = b.no_more;
}

pub SendingMatches-begun : (c i : ℕ) (A : List RequestedTransfer) (F : List SessionFrame) (w : ℕ × ℕ) (v : SendingView) (n : ℕ) → n < 2 ^ 32 → SendingMatches c i A F w v → SendingMatches c i A F ((i + length F) % 2 ^ 32, n) (begun v n)
SendingMatches-begun c i A F w v n fits b = record {
  next_is = b.next_is;
  delivery_is = b.delivery_is;
  held_is = b.held_is;
  window_is = omega (arith, b.next_is);
  base_fits = omega arith;
  width_fits = fits;
  handed_out = b.handed_out;
  no_more = b.no_more;
}

pub SendingMatches-drained : (c i : ℕ) (A : List RequestedTransfer) (F : List SessionFrame) (w : ℕ × ℕ) (v : SendingView) → SendingMatches c i A F w v → SendingMatches c i A (F ++ let_out c v) w (drained v)
SendingMatches-drained c i A F w v b =
    let more : length (F ++ let_out c v) ≡ length F + min v.remote_incoming_window (length v.held) =
    length-append F (let_out c v) ∙ ap (λ k. length F + k) (length-numbered c v.next_delivery (take v.remote_incoming_window v.held) ∙ length-take v.remote_incoming_window v.held) in
    let left : length v.held ≡ length A - length F = ap length b.held_is ∙ length-drop (length F) A in
    let taken : take (length (F ++ let_out c v)) A ≡ take (length F) A ++ take v.remote_incoming_window v.held =
    ap (λ k. take k A) more ∙ take-add (length F) (min v.remote_incoming_window (length v.held)) A ∙ ap (λ xs. take (length F) A ++ take (min v.remote_incoming_window (length v.held)) xs) (sym b.held_is) ∙ ap (λ xs. take (length F) A ++ xs) (take_min v.remote_incoming_window v.held) in
    let next_fits : v.next_outgoing_id < 2 ^ 32 = omega (arith, b.next_is) in
    let few : min v.remote_incoming_window (length v.held) ≤ remaining v.next_outgoing_id w = omega (arith, b.window_is) in
    let lost : remaining v.next_outgoing_id w - min v.remote_incoming_window (length v.held) ≡ v.remote_incoming_window - length v.held = omega (arith, b.window_is) in
    let counted : (firsts (take (length F) A) + firsts (take v.remote_incoming_window v.held)) % 2 ^ 32 ≡ (v.next_delivery + firsts (take v.remote_incoming_window v.held)) % 2 ^ 32 = omega (arith, b.delivery_is) in
    let same : v.next_delivery % 2 ^ 32 ≡ (0 + firsts (take (length F) A)) % 2 ^ 32 = omega (arith, b.delivery_is) in
    let out : numbered c v.next_delivery (take v.remote_incoming_window v.held) ≡ numbered c (0 + firsts (take (length F) A)) (take v.remote_incoming_window v.held) =
    numbered_same c (take v.remote_incoming_window v.held) v.next_delivery (0 + firsts (take (length F) A)) same in
    record {
      next_is = omega (arith, more, b.next_is);
      delivery_is = sym (ap (λ xs. firsts xs % 2 ^ 32) taken ∙ ap (λ k. k % 2 ^ 32) (firsts-append (take (length F) A) (take v.remote_incoming_window v.held)) ∙ counted);
      held_is = sym (ap (λ k. drop k A) more ∙ sym (drop-drop (min v.remote_incoming_window (length v.held)) (length F) A) ∙ ap (λ xs. drop (min v.remote_incoming_window (length v.held)) xs) (sym b.held_is) ∙ drop_min v.remote_incoming_window v.held);
      window_is = sym (remaining_after v.next_outgoing_id w.0 w.1 (min v.remote_incoming_window (length v.held)) next_fits b.base_fits b.width_fits few ∙ lost);
      base_fits = b.base_fits;
      width_fits = b.width_fits;
      handed_out = sym (ap (λ xs. numbered c 0 xs) taken ∙ numbered-append c 0 (take (length F) A) (take v.remote_incoming_window v.held) ∙ ap (λ ts. ts ++ numbered c (0 + firsts (take (length F) A)) (take v.remote_incoming_window v.held)) (sym b.handed_out) ∙ ap (λ ts. F ++ ts) (sym out));
      no_more = omega (arith, more, left, b.no_more);
    }

-- what goes out of a sending half on a channel, where it may or may not
abbrev pub Goes : Bool → ℕ → SendingView → List SessionFrame → SendingView → Type 0
Goes true c v out w = (out ≡ let_out c v) × (w ≡ drained v)
Goes false c v out w = (out ≡ []) × (w ≡ v)

pub SendingMatches-goes : (b : Bool) (c i : ℕ) (A : List RequestedTransfer) (F out : List SessionFrame) (w : ℕ × ℕ) (v u : SendingView) → Goes b c v out u → SendingMatches c i A F w v → SendingMatches c i A (F ++ out) w u
SendingMatches-goes true c i A F out w v u g b = rw (g.0, g.1) (SendingMatches-drained c i A F w v b)
SendingMatches-goes false c i A F out w v u g b = rw (g.0, g.1, append-nil F) b

pub goes_by : (b : Bool) (c : ℕ) (v u : SendingView) (out : List SessionFrame) → out ≡ transfers_in (cond b (let_out c v) []) → u ≡ cond b (drained v) v → Goes b c v out u
goes_by true c v u out e q = (e ∙ transfers_in-numbered c v.next_delivery (take v.remote_incoming_window v.held), q)
goes_by false c v u out e q = (e, q)
