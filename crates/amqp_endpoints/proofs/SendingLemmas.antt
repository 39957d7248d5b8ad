-- A transfer that is sent: it is prepared, handed to the stream, and finished or cancelled.
use Rattle.std.proofs.Common.{ℕ, ◌^◌, ◌<◌, ◌≡◌, Bool, true, false, List, Option, Some, None, Result, Ok, Err, sym, ap, subst, ◌∙◌}
use Rattle.amqp_credit.specs.declared.part.PartEnd.{PartEnd}
use Rattle.amqp_session.specs.Relay.{Relays}
use Rattle.amqp_driver.specs.declared.head.TransferHead.{TransferHead}
use Rattle.amqp_driver.specs.Stream.{StreamView}
use Rattle.amqp_links.specs.declared.end.End.{End}
use Rattle.amqp_links.specs.declared.end.End.TheVariants.{Sending, Receiving}
use Rattle.amqp_links.specs.declared.session.sending.PreparedPart.{PreparedPart}
use Rattle.amqp_links.specs.declared.session.sending.SentPart.{SentPart}
use Rattle.amqp_links.specs.declared.session.sending.SendPartError.TheVariants.{NoSender}
use Rattle.amqp_links.specs.Ends.{end_at}
use Rattle.amqp_links.specs.Preparing.{CancelsSend, FinishesAt, NotesIf, PreparesAt, opens, prepared_of}
use Rattle.amqp_links.specs.Sending.{is_none}
use Rattle.amqp_links.specs.SendingParts.{SendsAt}
use Rattle.amqp_links.specs.Session.{LinksView}
use Rattle.amqp_links.proofs.HalvesLemmas.{halves_send}
use Rattle.amqp_links.proofs.PreparedLemmas.{cancel_restores}
use Rattle.amqp_endpoints.specs.declared.endpoint.sending.SendFailure.{SendFailure}
use Rattle.amqp_endpoints.specs.declared.endpoint.sending.SendFailure.TheVariants.{Link, Refused, Stopped}
use Rattle.amqp_endpoints.specs.declared.endpoint.sending.SentDelivery.{SentDelivery}
use Rattle.amqp_endpoints.specs.Endpoint.{EndpointView, OnLinks}
use Rattle.amqp_endpoints.specs.Sending.{AsksPart, NotesSent, PostsHead, PostsIf, PostsLast, PostsPart, SendsPart, is_first_of}

abbrev is_fine : {A E : Type 0} → Result A E → Type 0
is_fine (Ok x) = Unit {0}
is_fine (Err e) = ⊥

ok≢err : {A E : Type 0} (x : A) (y : E) → Ok x ≡ Err y → ⊥
ok≢err {A} {E} x y e = subst (λ (r : Result A E). is_fine r) e tt

-- the part is the one that was asked for, and begins a delivery where none is under way
of_notes : (b : Bool) (q r : PreparedPart) (v m : LinksView) → NotesIf b q v (Ok r) m → r ≡ q
of_notes true q r v m s = s.0
of_notes false q r v m s = s.0

asked_for : (e : Option End) (v m : LinksView) (h : ℕ) (p : SentPart) (q : PreparedPart) → PreparesAt e v h p (Ok q) m
    → (q.part ≡ p) × (q.sendable.is_first ≡ is_first_of e)
asked_for None v m h p q x = absurd (ok≢err q NoSender x.0)
asked_for (Some (Receiving s)) v m h p q x = absurd (ok≢err q NoSender x.0)
asked_for (Some (Sending s)) v m h p q x =
    let is = of_notes (opens (is_none s.under_way) p) (prepared_of s x.0 h p) q v m x.2 in
    (ap (λ (y : PreparedPart). y.part) is, ap (λ (y : PreparedPart). y.sendable.is_first) is)

-- the stream is handed the same, whatever the links are
same_head : {R : Type 0} (g : Relays R) (v : EndpointView) (m : LinksView) (s s' : StreamView R) (head : TransferHead) (bytes : List ℕ) (first : Bool)
    (result : Result (Unit {0}) SendFailure) → PostsHead g (record v { links = m }) s head bytes first result s' → PostsHead g v s head bytes first result s'
same_head g v m s s' head bytes first (Ok done) x = x
same_head g v m s s' head bytes first (Err (Refused why)) x = x
same_head g v m s s' head bytes first (Err (Stopped why)) x = x
same_head g v m s s' head bytes first (Err (Link e)) x = absurd x

same_last : {R : Type 0} (done : Bool) (g : Relays R) (v : EndpointView) (m : LinksView) (s s' : StreamView R) (head : TransferHead) (bytes : List ℕ)
    (result : Result (Unit {0}) SendFailure) → PostsIf done g (record v { links = m }) s head bytes result s' → PostsIf done g v s head bytes result s'
same_last true g v m s s' head bytes result x = same_head g v m s s' head bytes false result x
same_last false g v m s s' head bytes result x = x

same_part : {R : Type 0} (lets : Bool) (g : Relays R) (v : EndpointView) (m : LinksView) (s s' : StreamView R) (head : TransferHead) (bytes : List ℕ) (first : Bool)
    (n k : ℕ) (result : Result (Unit {0}) SendFailure) → n ≡ k → PostsPart lets g (record v { links = m }) s head bytes first n result s'
    → PostsPart lets g v s head bytes first k result s'
same_part true g v m s s' head bytes first n k result is x =
    let y : PostsLast g v s head bytes n result s' = (x.0, x.1, x.2, same_last x.0 g v m x.1 s' head bytes result x.3) in
    subst (λ i. PostsLast g v s head bytes i result s') is y
same_part false g v m s s' head bytes first n k result is x = same_head g v m s s' head bytes first result x

-- ---- it is finished, or cancelled

-- what is begun on a link, by what its links do
begins : (b : Bool) (v w : EndpointView) (m : LinksView) (h n : ℕ) (Step Whole : LinksView → LinksView → Type 0)
    → (Step m w.links → Whole v.links w.links) → NotesSent b (record v { links = m }) h n Step w → NotesSent b v h n Whole w
begins b v w m h n Step Whole whole x = (whole x.0, x.1, x.2)

finished : {R : Type 0} (lets : Bool) (g : Relays R) (v w : EndpointView) (m : LinksView) (s s' : StreamView R) (head : TransferHead) (bytes : List ℕ) (p : SentPart)
    (first : Bool) (q : PreparedPart) (told : SentDelivery) → q.part ≡ p → q.sendable.is_first ≡ first
    → PreparesAt (end_at v.links.ends head.link) v.links head.link p (Ok q) m
    → AsksPart lets g (record v { links = m }) s head bytes first q (Ok told) s' w → SendsPart lets g v s head bytes p first (Ok told) s' w
finished lets g v w m s s' head bytes p first q told part is prepares x =
    let number : q.part.number ≡ p.number = ap (λ (y : SentPart). y.number) part in
    let begun : NotesSent first (record v { links = m }) head.link p.number (λ l n. FinishesAt (end_at l.ends q.handle) q l told.settled n) w =
    subst (λ n. NotesSent first (record v { links = m }) head.link n (λ l n. FinishesAt (end_at l.ends q.handle) q l told.settled n) w) number
    (subst (λ b. NotesSent b (record v { links = m }) head.link q.part.number (λ l n. FinishesAt (end_at l.ends q.handle) q l told.settled n) w) is x.1.1) in (
      same_part lets g v m s s' head bytes first q.part.number p.number (Ok tt) number x.0,
      x.1.0 ∙ number,
      begins first v w m head.link p.number (λ l n. FinishesAt (end_at l.ends q.handle) q l told.settled n)
          (λ l n. SendsAt (end_at l.ends head.link) l head.link p (Ok told.settled) n)
          (λ y. halves_send v.links m w.links head.link p q told.settled prepares y) begun,
    )

-- nothing has changed
cancels : (v w : EndpointView) (m : LinksView) (h : ℕ) (p : SentPart) (q : PreparedPart) → p.number < 2 ^ 32
    → PreparesAt (end_at v.links.ends h) v.links h p (Ok q) m → OnLinks (λ l n. CancelsSend q l n) (record v { links = m }) w → w ≡ v
cancels v w m h p q small prepares x =
    x.1 ∙ ap (λ (l : LinksView). record v { links = l }) (cancel_restores v.links m w.links h p q small prepares x.0)

number_is : (v : EndpointView) (m : LinksView) (head : TransferHead) (p : SentPart) (q : PreparedPart)
    → PreparesAt (end_at v.links.ends head.link) v.links head.link p (Ok q) m → q.part.number ≡ p.number
number_is v m head p q prepares = ap (λ (y : SentPart). y.number) (asked_for (end_at v.links.ends head.link) v.links m head.link p q prepares).0

pub sends_part : {R : Type 0} (lets : Bool) (g : Relays R) (v w : EndpointView) (m : LinksView) (s s' : StreamView R) (head : TransferHead) (bytes : List ℕ)
    (p : SentPart) (first : Bool) (q : PreparedPart) (result : Result SentDelivery SendFailure) → p.number < 2 ^ 32 → first ≡ is_first_of (end_at v.links.ends head.link)
    → PreparesAt (end_at v.links.ends head.link) v.links head.link p (Ok q) m
    → AsksPart lets g (record v { links = m }) s head bytes first q result s' w → SendsPart lets g v s head bytes p first result s' w
sends_part lets g v w m s s' head bytes p first q (Ok told) small is prepares x =
    let asked = asked_for (end_at v.links.ends head.link) v.links m head.link p q prepares in
    finished lets g v w m s s' head bytes p first q told asked.0 (asked.1 ∙ sym is) prepares x
sends_part lets g v w m s s' head bytes p first q (Err (Refused why)) small is prepares x = (
  same_part lets g v m s s' head bytes first q.part.number p.number (Err (Refused why)) (number_is v m head p q prepares) x.0,
  cancels v w m head.link p q small prepares x.1,
)
sends_part lets g v w m s s' head bytes p first q (Err (Stopped why)) small is prepares x = (
  same_part lets g v m s s' head bytes first q.part.number p.number (Err (Stopped why)) (number_is v m head p q prepares) x.0,
  cancels v w m head.link p q small prepares x.1,
)
sends_part lets g v w m s s' head bytes p first q (Err (Link e)) small is prepares x = absurd x

-- ---- the part

pub parts_same : (given n n' size size' : ℕ) (end end' : PartEnd) (settled settled' : Bool) → n ≡ n' → size ≡ size' → end ≡ end' → settled ≡ settled'
    → ◌≡◌ {A = SentPart} (record { number = n; size = size; end = end; settled = settled; given = given })
    (record { number = n'; size = size'; end = end'; settled = settled'; given = given })
parts_same given n n' size size' end end' settled settled' a b c d =
    ap (λ k. record { number = k; size = size; end = end; settled = settled; given = given }) a
    ∙ ap (λ k. record { number = n'; size = k; end = end; settled = settled; given = given }) b
    ∙ ap (λ k. record { number = n'; size = size'; end = k; settled = settled; given = given }) c
    ∙ ap (λ k. record { number = n'; size = size'; end = end'; settled = k; given = given }) d
