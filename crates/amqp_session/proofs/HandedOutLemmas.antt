-- Transfers that are handed out, one at a time.
use Rattle.std.proofs.Common.{◌≡◌, ℕ, suc, ◌<◌, ◌-◌, drop, ◌+◌, ◌%◌, ◌^◌, ◌++◌, take, append_assoc, List, [], ◌∷◌, refl, ap, arith, cond, Some, None, ◌∙◌, length, min}
use Rattle.std.specs.Option.{option_map}
use Rattle.amqp_session.specs.declared.deliveries.Delivery.{Delivery}
use Rattle.amqp_session.specs.declared.frame.SessionFrame.{SessionFrame}
use Rattle.amqp_session.specs.declared.frame.SessionFrameBody.TheVariants as Body
use Rattle.amqp_session.specs.Deliveries.{with_record}
use Rattle.amqp_session.specs.Sending.{SendingView, drained}
use Rattle.amqp_session.specs.Transfers.{RequestedTransfer, frame_of, first_of, numbered, firsts, kept_tag, record_of, opened}

-- a delivery's number counts only modulo 2 ^ 32
pub frame_same : (c a b : ℕ) (h : RequestedTransfer) → a % 2 ^ 32 ≡ b % 2 ^ 32 → frame_of c a h ≡ frame_of c b h
frame_same c a b h e = ap (λ n. let f : SessionFrame = record { channel = c; body = Body.Transfer (record h.transfer { delivery_id = cond h.is_first (Some n) None }) h.payload } in f) e

pub record_same : (a b : ℕ) (h : RequestedTransfer) → a % 2 ^ 32 ≡ b % 2 ^ 32 → record_of a h ≡ record_of b h
record_same a b h e = ap (λ n. option_map (λ tag. let d : Delivery = record { number = n; input_handle = record { 0 = h.input_handle }; tag = record { 0 = tag } } in d) (kept_tag h.is_first h.transfer)) e

pub numbered_same : (c : ℕ) (hs : List RequestedTransfer) (a b : ℕ) → a % 2 ^ 32 ≡ b % 2 ^ 32 → numbered c a hs ≡ numbered c b hs
numbered_same c [] a b e = refl
numbered_same c (h ∷ hs) a b e =
    let more : (a + first_of h) % 2 ^ 32 ≡ (b + first_of h) % 2 ^ 32 = omega (arith, e) in
    let f = frame_same c a b h e in
    let r = numbered_same c hs (a + first_of h) (b + first_of h) more in
    cc

pub opened_same : (hs : List RequestedTransfer) (a b : ℕ) (rows : List Delivery) → a % 2 ^ 32 ≡ b % 2 ^ 32 → opened a hs rows ≡ opened b hs rows
opened_same [] a b rows e = refl
opened_same (h ∷ hs) a b rows e =
    let more : (a + first_of h) % 2 ^ 32 ≡ (b + first_of h) % 2 ^ 32 = omega (arith, e) in
    ap (λ d. opened (a + first_of h) hs (with_record d rows)) (record_same a b h e) ∙ opened_same hs (a + first_of h) (b + first_of h) _ more

-- one more is taken from the front and handed out
pub said_more : (c n : ℕ) (h : RequestedTransfer) (hs : List RequestedTransfer) (out : List SessionFrame) (a b : ℕ) → b ≡ (a + first_of h) % 2 ^ 32 → (out ++ frame_of c a h ∷ []) ++ numbered c b (take n hs) ≡ out ++ numbered c a (take (suc n) (h ∷ hs))
said_more c n h hs out a b e =
    let same : b % 2 ^ 32 ≡ (a + first_of h) % 2 ^ 32 = omega (arith, e) in
    append_assoc out (frame_of c a h ∷ []) (numbered c b (take n hs)) ∙ ap (λ ts. out ++ frame_of c a h ∷ ts) (numbered_same c (take n hs) b (a + first_of h) same)

pub firsts_more : (n : ℕ) (h : RequestedTransfer) (hs : List RequestedTransfer) (a b : ℕ) → b ≡ (a + first_of h) % 2 ^ 32 → (b + firsts (take n hs)) % 2 ^ 32 ≡ (a + firsts (take (suc n) (h ∷ hs))) % 2 ^ 32
firsts_more n h hs a b e = omega (arith, e)

pub opened_more : (n : ℕ) (h : RequestedTransfer) (hs : List RequestedTransfer) (rows : List Delivery) (a b : ℕ) → b ≡ (a + first_of h) % 2 ^ 32 → opened b (take n hs) (with_record (record_of a h) rows) ≡ opened a (take (suc n) (h ∷ hs)) rows
opened_more n h hs rows a b e =
    let same : b % 2 ^ 32 ≡ (a + first_of h) % 2 ^ 32 = omega (arith, e) in
    opened_same (take n hs) b (a + first_of h) _ same

-- a turn of the loop that hands out: what is still to come, with what is there, stays
pub turn : (c i count : ℕ) (h : RequestedTransfer) (old new : List RequestedTransfer) (f : SessionFrame) (out out' : List SessionFrame) (rows rows' : List Delivery) (a b : ℕ) →
    i < count → old ≡ h ∷ new → out' ≡ out ++ f ∷ [] → f ≡ frame_of c a h → rows' ≡ with_record (record_of a h) rows → b ≡ (a + first_of h) % 2 ^ 32 →
    (drop (count - (i + 1)) new ≡ drop (count - i) old)
    × (out' ++ numbered c b (take (count - (i + 1)) new) ≡ out ++ numbered c a (take (count - i) old))
    × ((b + firsts (take (count - (i + 1)) new)) % 2 ^ 32 ≡ (a + firsts (take (count - i) old)) % 2 ^ 32)
    × (opened b (take (count - (i + 1)) new) rows' ≡ opened a (take (count - i) old) rows)
turn c i count h old new f out out' rows rows' a b lt eo eout ef er eb =
    let n : count - i ≡ suc (count - (i + 1)) = omega arith in
    rw (n, eo, eout, ef, er) (refl, said_more c (count - (i + 1)) h new out a b eb, firsts_more (count - (i + 1)) h new a b eb, opened_more (count - (i + 1)) h new rows a b eb)

-- where the window is used up, nothing goes out
pub still : (next window delivery : ℕ) (held : List RequestedTransfer) → window ≡ 0 → next < 2 ^ 32 → delivery < 2 ^ 32 →
    (let v : SendingView = record { next_outgoing_id = next; remote_incoming_window = window; next_delivery = delivery; held = held } in drained v ≡ v)
still next window delivery held e hn hd =
    let en : (next + min window (length held)) % 2 ^ 32 ≡ next = omega arith in
    let ew : window - length held ≡ window = omega arith in
    let et : take window held ≡ [] = ap (λ k. take k held) e in
    let ed : (delivery + firsts (take window held)) % 2 ^ 32 ≡ delivery = omega (arith, ap firsts et) in
    let eh : drop window held ≡ held = ap (λ k. drop k held) e in
    rw (en, ew, ed, eh) refl
