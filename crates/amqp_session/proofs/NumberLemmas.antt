-- The number of a delivery is known as its first transfer is accepted.
use Rattle.std.proofs.Common.{◌≡◌, ◌<◌, ◌+◌, ◌%◌, ◌^◌, ℕ, zero, suc, List, [], ◌∷◌, ◌++◌, true, Option, Some, Ok, length, take, drop, refl, ap, sym, ◌∙◌, arith, length-append}
use Rattle.std.proofs.lemmas.List.Concat.{flat_map-cons}
use Rattle.std.proofs.lemmas.Grind.{flat_map-append}
use Rattle.amqp_session.specs.declared.frame.SessionFrame.{SessionFrame}
use Rattle.amqp_session.specs.declared.frame.SessionOutgoingItem.{SessionOutgoingItem}
use Rattle.amqp_session.specs.Headline.{Accounts, SendingMatches, accepted, accepted_by, carried, handed}
use Rattle.amqp_session.specs.History.{LeadsTo, Made, SessionCall, SendsTransfer}
use Rattle.amqp_session.specs.Numbers.{NumbersAreKnown, number_after}
use Rattle.amqp_session.specs.Relay.{Relays}
use Rattle.amqp_session.specs.Sending.{SendingView, number_shown}
use Rattle.amqp_session.specs.Session.{SessionView}
use Rattle.amqp_session.specs.Transfers.{RequestedTransfer, delivery_id, first_of, firsts, frame_of, numbered}
use Rattle.amqp_session.proofs.SendingLemmas.{firsts-cut, length-numbered, numbered-append}
use Rattle.amqp_session.proofs.SessionViewLemmas.{headline_law, stands_law}

same_place : {X : Type 0} (fs ns more q : List X) (f k : X) → fs ++ f ∷ more ≡ ns ++ k ∷ q → length fs ≡ length ns → f ≡ k
same_place [] [] more q f k e l = let h : f ∷ more ≡ k ∷ q = e in cc
same_place [] (n ∷ ns) more q f k e l = absurd (omega arith)
same_place (x ∷ fs) [] more q f k e l = absurd (omega arith)
same_place (x ∷ fs) (n ∷ ns) more q f k e l =
    let h : x ∷ (fs ++ f ∷ more) ≡ n ∷ (ns ++ k ∷ q) = e in
    same_place fs ns more q f k (let t : fs ++ f ∷ more ≡ ns ++ k ∷ q = cc in t) (omega arith)

-- so many that one after ps is among them
front : (ps rest : List RequestedTransfer) (h : RequestedTransfer) (n : ℕ) → length ps < n
    → (q : List RequestedTransfer) × (take n (ps ++ h ∷ rest) ≡ ps ++ h ∷ q)
front ps rest h zero l = absurd (omega arith)
front [] rest h (suc n) l = (take n rest, refl)
front (p ∷ ps) rest h (suc n) l = let c = front ps rest h n (omega arith) in (c.0, ap (λ (xs : List RequestedTransfer). p ∷ xs) c.1)

accepted-split : {R : Type 0} (before after : List (SessionCall R)) (h : RequestedTransfer) (item : Option SessionOutgoingItem)
    → accepted (before ++ SendsTransfer h (Ok item) ∷ after) ≡ accepted before ++ h ∷ accepted after
accepted-split before after h item = flat_map-append accepted_by before (SendsTransfer h (Ok item) ∷ after)
    ∙ ap (λ (xs : List RequestedTransfer). accepted before ++ xs) (flat_map-cons accepted_by (SendsTransfer h (Ok item)) after)

number_first : (m : ℕ) (f : SessionFrame) (n : ℕ) (h : RequestedTransfer) → f ≡ frame_of m n h → h.is_first ≡ true → carried f.body ≡ Some (n % 2 ^ 32)
number_first m f n h e first = ap (λ (x : SessionFrame). carried x.body) e ∙ ap (λ b. delivery_id n b) first

pub numbers_known : {R : Type 0} (m : Made) (H : List (SessionCall R)) → Accounts m H → NumbersAreKnown m H
numbers_known m H acc before after h item fs more f split hand place =
    let ps : List RequestedTransfer = accepted before in
    let a : accepted H ≡ accepted before ++ h ∷ accepted after = ap accepted split ∙ accepted-split before after h item in
    let l : length (handed H) ≡ length fs + length (f ∷ more) = ap length hand ∙ length-append fs (f ∷ more) in
    let below : length (accepted before) < length (handed H) = omega arith in
    let c = front (accepted before) (accepted after) h (length (handed H)) below in
    let e : fs ++ f ∷ more ≡ numbered m.channel 0 (accepted before) ++ numbered m.channel (0 + firsts (accepted before)) (h ∷ c.0) =
    sym hand ∙ acc.handed_out ∙ ap (λ (xs : List RequestedTransfer). numbered m.channel 0 (take (length (handed H)) xs)) a
    ∙ ap (λ (xs : List RequestedTransfer). numbered m.channel 0 xs) c.1 ∙ numbered-append m.channel 0 (accepted before) (h ∷ c.0) in
    let z : 0 + firsts (accepted before) ≡ firsts (accepted before) = omega arith in
    let r : f ≡ frame_of m.channel (firsts (accepted before)) h =
    same_place fs (numbered m.channel 0 (accepted before)) more (numbered m.channel (0 + firsts (accepted before) + first_of h) c.0) f
    (frame_of m.channel (0 + firsts (accepted before)) h) e
    (place ∙ sym (length-numbered m.channel 0 (accepted before)))
    ∙ ap (λ k. frame_of m.channel k h) z in
    (r, λ first. number_first m.channel f (firsts (accepted before)) h r first)

pub numbers_shown : (channel initial : ℕ) (A : List RequestedTransfer) (F : List SessionFrame) (w : ℕ × ℕ) (v : SendingView)
    → SendingMatches channel initial A F w v → number_shown v ≡ firsts A % 2 ^ 32
numbers_shown channel initial A F w v s =
    let next : v.next_delivery ≡ firsts (take (length F) A) % 2 ^ 32 = s.delivery_is in
    let left : firsts v.held ≡ firsts (drop (length F) A) = ap firsts s.held_is in
    let all = firsts-cut (length F) A in
    omega (arith, next, left, all)

module _ {R : Type 0} (g : Relays R) where
  pub known_law : (m : Made) (H : List (SessionCall R)) (v : SessionView R) → LeadsTo g m H v → NumbersAreKnown m H
  known_law m H v l = numbers_known m H (headline_law g m H v l).accounts

  pub shown_law : (m : Made) (H : List (SessionCall R)) (v : SessionView R) → LeadsTo g m H v → number_shown v.sending ≡ number_after H
  shown_law m H v l = let b = stands_law g m H v l in numbers_shown _ _ _ _ _ v.sending b.sending_is
