-- What a call of a session's links makes of the end that has its handle, and of the others.
use Rattle.std.proofs.Common.{ℕ, zero, suc, ◌^◌, ◌<◌, ◌≡◌, nat_eq, cond, Bool, true, false, List, [], ◌∷◌, Option, Some, None, Result, Ok, Err, option_map, refl, sym, ap, subst, ◌∙◌, true≢false}
use Rattle.std.proofs.lemmas.Option.{none-some}
use Rattle.std.proofs.lemmas.Bool.{eqb-true, eq-eqb}
use Rattle.amqp_credit.specs.Chain.{Chain}
use Rattle.amqp_credit.proofs.ChainLemmas.{joined}
use Rattle.amqp_credit.specs.declared.part.PartHead.{PartHead}
use Rattle.amqp_credit.specs.declared.receiver.Grant.{Grant}
use Rattle.amqp_links.specs.declared.end.End.{End}
use Rattle.amqp_links.specs.declared.end.End.TheVariants.{Sending, Receiving}
use Rattle.amqp_links.specs.declared.life.Life.{Life}
use Rattle.amqp_links.specs.declared.life.Life.TheVariants as life
use Rattle.amqp_links.specs.declared.life.LinkEnd.{LinkEnd}
use Rattle.amqp_links.specs.declared.receiving.LinkFault.{LinkFault}
use Rattle.amqp_links.specs.declared.sending.CreditFlow.{CreditFlow}
use Rattle.amqp_links.specs.declared.sending.SenderFlow.{SenderFlow}
use Rattle.amqp_links.specs.declared.session.AddError.TheVariants as add
use Rattle.amqp_links.specs.declared.session.RemoveError.{RemoveError}
use Rattle.amqp_links.specs.declared.session.RemoveError.TheVariants as rem
use Rattle.amqp_links.specs.declared.session.attaching.PeerAttach.{PeerAttach}
use Rattle.amqp_links.specs.declared.session.granting.LinkFlow.{LinkFlow}
use Rattle.amqp_links.specs.declared.session.sending.SentPart.{SentPart}
use Rattle.amqp_links.specs.declared.session.sending.SendPartError.{SendPartError}
use Rattle.amqp_links.specs.declared.session.sending.SendPartError.TheVariants as send
use Rattle.amqp_links.specs.declared.session.taking.ReceivedPart.{ReceivedPart}
use Rattle.amqp_links.specs.declared.session.taking.TakePartError.{TakePartError}
use Rattle.amqp_links.specs.declared.session.taking.TakePartError.TheVariants as take
use Rattle.amqp_links.specs.Ends.{end_at, Puts}
use Rattle.amqp_links.specs.Sending.{SendingView, new_sending}
use Rattle.amqp_links.specs.Receiving.{ReceivingView, new_receiving}
use Rattle.amqp_links.specs.SendingHistory.{SendingCall, SendingStep}
use Rattle.amqp_links.specs.SendingHistory as sending
use Rattle.amqp_links.specs.ReceivingHistory.{ReceivingCall, ReceivingStep}
use Rattle.amqp_links.specs.ReceivingHistory as receiving
use Rattle.amqp_links.specs.Session.{LinksView, no_links, RemovesEnd}
use Rattle.amqp_links.specs.Attaching.{AttachesAt, DetachesAt, EndsAt}
use Rattle.amqp_links.specs.Granting.{FlowsAt, AnswersAt, GrantsAt, DrainsAt, RenewsAt, of_receiver, of_sender, SaysOrNot}
use Rattle.amqp_links.specs.SendingParts.{SendsAt}
use Rattle.amqp_links.specs.TakingParts.{TakesAt}
use Rattle.amqp_links.specs.Settling.{LeavesNext, LeavesSent, LeavesReceived}
use Rattle.amqp_unsettled.specs.declared.entry.Entry.{Entry}
use Rattle.amqp_links.proofs.ReceivingLemmas.{ok≢err}
use Rattle.amqp_links.specs.SessionHistory.{LinksCall, LinksStep, Owner, nobody, a_sender, a_receiver, IsOwn, going_on, sender_calls, receiver_calls, as_sender, as_grant}
use Rattle.amqp_links.specs.SessionHistory.{OfLinks, EachIsAlone, owner_after, owner_by, if_at}
use Rattle.amqp_links.specs.SessionHistory.{MakesRoom, AddsSender, AddsReceiver, Attaches, Detaches, Ends, Flows, Answers, Grants, Drains, Renews, Sends, Takes, Leaves, Removes, SettlesOfSent, SettlesOfReceived, LeavesOfSent, LeavesOfReceived, AsksEnd, AsksSent, AsksReceived}

abbrev or_else : {X : Type 0} → X → Option X → X
or_else x None = x
or_else x (Some y) = y

some_same : {X : Type 0} (x y : X) → Some x ≡ Some y → x ≡ y
some_same x y e = ap (λ o. or_else x o) e

-- the end goes on by a call, as one that is alone
abbrev pub Goes : LinksCall → Option End → Option End → Type 0
Goes c None e = e ≡ None
Goes c (Some (Sending s)) (Some (Sending t)) = Chain SendingStep s (sender_calls c) t
Goes c (Some (Receiving s)) (Some (Receiving t)) = Chain ReceivingStep s (receiver_calls c) t
Goes c e f = ⊥

-- the end of a handle goes on by a call, and each other one stays
pub record Effect (v : LinksView) (k : ℕ) (c : LinksCall) (e : Option End) (w : LinksView) : Type 0 where
  pub next : Option End
  pub puts : Puts v.ends k next w.ends
  pub goes : Goes c e next

-- nothing changes where the call is none of the end's
still : (v w : LinksView) (k : ℕ) (c : LinksCall) (e : Option End) → end_at v.ends k ≡ e → w.ends ≡ v.ends → Goes c e e → Effect v k c e w
still v w k c e q same goes = record {
  next = e;
  puts = record {
    there = ap (λ x. end_at x k) same ∙ q;
    others = λ j d. ap (λ x. end_at x j) same;
  };
  goes = goes;
}

pub attaches : (v w : LinksView) (k : ℕ) (a : PeerAttach) (answer : Option Life) (e : Option End) → end_at v.ends k ≡ e
    → a.initial_delivery_count < 2 ^ 32 → AttachesAt e v k a answer w → Effect v k (Attaches k a answer) e w
attaches v w k a answer None q small s = still v w k (Attaches k a answer) None q (ap (λ x. x.ends) s.1) refl
attaches v w k a answer (Some (Sending x)) q small s = record { next = Some (Sending s.0); puts = s.2.0; goes = (s.0, s.1, refl) }
attaches v w k a answer (Some (Receiving x)) q small s = record { next = Some (Receiving s.0); puts = s.2.0; goes = (s.0, (small, s.1), refl) }

pub detaches : (v w : LinksView) (k : ℕ) (answer : Option Life) (e : Option End) → end_at v.ends k ≡ e
    → DetachesAt e v k answer w → Effect v k (Detaches k answer) e w
detaches v w k answer None q s = still v w k (Detaches k answer) None q (ap (λ x. x.ends) s.1) refl
detaches v w k answer (Some (Sending x)) q s = record { next = Some (Sending s.0); puts = s.2.0; goes = (s.0, s.1, refl) }
detaches v w k answer (Some (Receiving x)) q s = record { next = Some (Receiving s.0); puts = s.2.0; goes = (s.0, s.1, refl) }

pub ends : (v w : LinksView) (k : ℕ) (answer : Option LinkEnd) (e : Option End) → end_at v.ends k ≡ e
    → EndsAt e v k answer w → Effect v k (Ends k answer) e w
ends v w k answer None q s = still v w k (Ends k answer) None q (ap (λ x. x.ends) s.1) refl
ends v w k (Some told) (Some (Sending x)) q s = record {
  next = Some (Sending s.0);
  puts = s.3.0;
  goes = (s.0, subst (λ n. SendingStep x (sending.Ends n) s.0) (some_same _ _ (sym s.4)) s.2, refl);
}
ends v w k (Some told) (Some (Receiving x)) q s = record {
  next = Some (Receiving s.0);
  puts = s.3.0;
  goes = (s.0, subst (λ n. ReceivingStep x (receiving.Ends n) s.0) (some_same _ _ (sym s.4)) s.2, refl);
}
ends v w k None (Some (Sending x)) q s = absurd (none-some _ s.4)
ends v w k None (Some (Receiving x)) q s = absurd (none-some _ s.4)

pub flows : (v w : LinksView) (k : ℕ) (f : CreditFlow) (answer : Option (Result ℕ LinkFault)) (e : Option End) → end_at v.ends k ≡ e
    → FlowsAt e v k f answer w → Effect v k (Flows k f answer) e w
flows v w k f answer None q s = still v w k (Flows k f answer) None q (ap (λ x. x.ends) s.1) refl
flows v w k f answer (Some (Sending x)) q s = record { next = Some (Sending s.0); puts = s.2.0; goes = (s.0, s.1, refl) }
flows v w k f (Some used) (Some (Receiving x)) q s = record {
  next = Some (Receiving s.0);
  puts = s.3.0;
  goes = (s.0, subst (λ n. ReceivingStep x (receiving.Hears f.delivery_count f.echo n) s.0) (some_same _ _ (sym s.4)) s.2, refl);
}
flows v w k f None (Some (Receiving x)) q s = absurd (none-some _ s.4)

-- what a receiving end says in a flow, or does not
abbrev says : (Option Grant → ReceivingCall) → LinksCall → Option LinkFlow → Type 0
says call c None = receiver_calls c ≡ []
says call c (Some f) = receiver_calls c ≡ call (Some (as_grant f)) ∷ []

receiver_says_by : (v w : LinksView) (k : ℕ) (c : LinksCall) (call : Option Grant → ReceivingCall) (x next : ReceivingView) (answer : Option LinkFlow)
    (told : Option Grant) → ReceivingStep x (call told) next → answer ≡ option_map of_receiver told → SaysOrNot told v k (Receiving next) w
    → end_at v.ends k ≡ Some (Receiving x) → says call c answer → Effect v k c (Some (Receiving x)) w
receiver_says_by v w k c call x next None None step r left q is =
    still v w k c (Some (Receiving x)) q (ap (λ y. y.ends) left) (subst (λ cs. Chain ReceivingStep x cs x) (sym is) refl)
receiver_says_by v w k c call x next (Some f) None step r left q is = absurd (none-some _ (sym r))
receiver_says_by v w k c call x next None (Some g) step r left q is = absurd (none-some _ r)
receiver_says_by v w k c call x next (Some f) (Some g) step r left q is =
    let same : g ≡ as_grant f = ap as_grant (sym (some_same _ _ r)) in
    record {
      next = Some (Receiving next);
      puts = left.0;
      goes = subst (λ cs. Chain ReceivingStep x cs next) (sym is) (next, subst (λ h. ReceivingStep x (call (Some h)) next) same step, refl);
    }

sender_says_by : (v w : LinksView) (k available : ℕ) (x next : SendingView) (answer : Option LinkFlow)
    (told : Option SenderFlow) → SendingStep x (sending.Answers available told) next → answer ≡ option_map of_sender told
    → SaysOrNot told v k (Sending next) w → end_at v.ends k ≡ Some (Sending x) → Effect v k (Answers k available answer) (Some (Sending x)) w
sender_says_by v w k available x next None None step r left q = still v w k (Answers k available None) (Some (Sending x)) q (ap (λ y. y.ends) left) refl
sender_says_by v w k available x next (Some f) None step r left q = absurd (none-some _ (sym r))
sender_says_by v w k available x next None (Some g) step r left q = absurd (none-some _ r)
sender_says_by v w k available x next (Some f) (Some g) step r left q =
    let same : g ≡ as_sender f = ap as_sender (sym (some_same _ _ r)) in
    record {
      next = Some (Sending next);
      puts = left.0;
      goes = (next, subst (λ h. SendingStep x (sending.Answers available (Some h)) next) same step, refl);
    }

said_answers : (k available : ℕ) (answer : Option LinkFlow) → says receiving.Answers (Answers k available answer) answer
said_answers k available None = refl
said_answers k available (Some f) = refl

said_grants : (k credit : ℕ) (answer : Option LinkFlow) → says (receiving.Grants credit) (Grants k credit answer) answer
said_grants k credit None = refl
said_grants k credit (Some f) = refl

said_drains : (k : ℕ) (answer : Option LinkFlow) → says receiving.Drains (Drains k answer) answer
said_drains k None = refl
said_drains k (Some f) = refl

said_renews : (k : ℕ) (answer : Option LinkFlow) → says receiving.Renews (Renews k answer) answer
said_renews k None = refl
said_renews k (Some f) = refl

pub answers : (v w : LinksView) (k available : ℕ) (answer : Option LinkFlow) (e : Option End) → end_at v.ends k ≡ e
    → AnswersAt e v k available answer w → Effect v k (Answers k available answer) e w
answers v w k available answer None q s = still v w k (Answers k available answer) None q (ap (λ x. x.ends) s.1) refl
answers v w k available answer (Some (Sending x)) q s = sender_says_by v w k available x s.next answer s.told s.step s.says s.left q
answers v w k available answer (Some (Receiving x)) q s =
    receiver_says_by v w k (Answers k available answer) receiving.Answers x s.next answer s.told s.step s.says s.left q (said_answers k available answer)

pub grants : (v w : LinksView) (k credit : ℕ) (answer : Option LinkFlow) (e : Option End) → end_at v.ends k ≡ e
    → GrantsAt e v k credit answer w → Effect v k (Grants k credit answer) e w
grants v w k credit answer None q s = still v w k (Grants k credit answer) None q (ap (λ x. x.ends) s.1) refl
grants v w k credit answer (Some (Sending x)) q s = still v w k (Grants k credit answer) (Some (Sending x)) q (ap (λ x. x.ends) s.1) refl
grants v w k credit answer (Some (Receiving x)) q s =
    receiver_says_by v w k (Grants k credit answer) (receiving.Grants credit) x s.next answer s.told s.step s.says s.left q (said_grants k credit answer)

pub drains : (v w : LinksView) (k : ℕ) (answer : Option LinkFlow) (e : Option End) → end_at v.ends k ≡ e
    → DrainsAt e v k answer w → Effect v k (Drains k answer) e w
drains v w k answer None q s = still v w k (Drains k answer) None q (ap (λ x. x.ends) s.1) refl
drains v w k answer (Some (Sending x)) q s = still v w k (Drains k answer) (Some (Sending x)) q (ap (λ x. x.ends) s.1) refl
drains v w k answer (Some (Receiving x)) q s =
    receiver_says_by v w k (Drains k answer) receiving.Drains x s.next answer s.told s.step s.says s.left q (said_drains k answer)

pub renews : (v w : LinksView) (k : ℕ) (answer : Option LinkFlow) (e : Option End) → end_at v.ends k ≡ e
    → RenewsAt e v k answer w → Effect v k (Renews k answer) e w
renews v w k answer None q s = still v w k (Renews k answer) None q (ap (λ x. x.ends) s.1) refl
renews v w k answer (Some (Sending x)) q s = still v w k (Renews k answer) (Some (Sending x)) q (ap (λ x. x.ends) s.1) refl
renews v w k answer (Some (Receiving x)) q s =
    receiver_says_by v w k (Renews k answer) receiving.Renews x s.next answer s.told s.step s.says s.left q (said_renews k answer)

pub sends : (v w : LinksView) (k : ℕ) (p : SentPart) (answer : Result (Option ℕ) SendPartError) (e : Option End) → end_at v.ends k ≡ e
    → SendsAt e v k p answer w → Effect v k (Sends k p answer) e w
sends v w k p answer None q s = still v w k (Sends k p answer) None q (ap (λ x. x.ends) s.1) refl
sends v w k p (Ok given) (Some (Receiving x)) q s = still v w k (Sends k p (Ok given)) (Some (Receiving x)) q (ap (λ x. x.ends) s.1) refl
sends v w k p (Err error) (Some (Receiving x)) q s = still v w k (Sends k p (Err error)) (Some (Receiving x)) q (ap (λ x. x.ends) s.1) refl
sends v w k p (Ok given) (Some (Sending x)) q s = record { next = Some (Sending s.0); puts = s.2.1; goes = (s.0, s.1, refl) }
sends v w k p (Err (send.Link error)) (Some (Sending x)) q s =
    still v w k (Sends k p (Err (send.Link error))) (Some (Sending x)) q (ap (λ x. x.ends) s.1) refl
sends v w k p (Err send.NoSender) (Some (Sending x)) q s = absurd s.2
sends v w k p (Err send.NotNext) (Some (Sending x)) q s =
    still v w k (Sends k p (Err send.NotNext)) (Some (Sending x)) q (ap (λ x. x.ends) s.2.1) refl
sends v w k p (Err send.OutOfMemory) (Some (Sending x)) q s =
    still v w k (Sends k p (Err send.OutOfMemory)) (Some (Sending x)) q (ap (λ x. x.ends) s.2.1) refl

pub takes : (v w : LinksView) (k : ℕ) (head : PartHead) (given : ℕ) (answer : Result ReceivedPart TakePartError) (e : Option End) → end_at v.ends k ≡ e
    → TakesAt e v k head given answer w → Effect v k (Takes k head given answer) e w
takes v w k head given answer None q s = still v w k (Takes k head given answer) None q (ap (λ x. x.ends) s.1) refl
takes v w k head given answer (Some (Sending x)) q s = still v w k (Takes k head given answer) (Some (Sending x)) q (ap (λ x. x.ends) s.1) refl
takes v w k head given (Ok told) (Some (Receiving x)) q s = record {
  next = Some (Receiving s.0);
  puts = s.3.2;
  goes = (s.0, subst (λ p. ReceivingStep x (receiving.Takes head (Ok p)) s.0) (sym s.3.0) s.2, refl);
}
takes v w k head given (Err (take.Link error)) (Some (Receiving x)) q s = record { next = Some (Receiving s.0); puts = s.2.0; goes = (s.0, s.1, refl) }
takes v w k head given (Err take.NoReceiver) (Some (Receiving x)) q s = absurd s.3
takes v w k head given (Err take.NotNext) (Some (Receiving x)) q s =
    still v w k (Takes k head given (Err take.NotNext)) (Some (Receiving x)) q (ap (λ x. x.ends) s.3.1) refl
takes v w k head given (Err take.OutOfMemory) (Some (Receiving x)) q s =
    still v w k (Takes k head given (Err take.OutOfMemory)) (Some (Receiving x)) q (ap (λ x. x.ends) s.3.1) refl

-- ---- one call, of this handle or another one

pub none_there : (h : ℕ) → end_at no_links.ends h ≡ None
none_there zero = refl
none_there (suc h) = refl

sent_same : (v w : LinksView) (h : ℕ) (given : Option Entry) (life : Life) → LeavesSent life v h given w → w.ends ≡ v.ends
sent_same v w h given life.Attaching s = ap (λ x. x.ends) s.1
sent_same v w h given life.Refused s = ap (λ x. x.ends) s.1
sent_same v w h given life.Attached s = ap (λ x. x.ends) s.1
sent_same v w h given life.Detaching s = ap (λ x. x.ends) s.1
sent_same v w h given life.Detached s = ap (λ x. x.ends) s.1

received_same : (v w : LinksView) (h : ℕ) (given : Option Entry) (life : Life) → LeavesReceived life v h given w → w.ends ≡ v.ends
received_same v w h given life.Attaching s = ap (λ x. x.ends) s.1
received_same v w h given life.Refused s = ap (λ x. x.ends) s.1
received_same v w h given life.Attached s = ap (λ x. x.ends) s.1
received_same v w h given life.Detaching s = ap (λ x. x.ends) s.1
received_same v w h given life.Detached s = ap (λ x. x.ends) s.1

-- what is alone stays so, where it goes on
goes_own : (c : LinksCall) (o : Owner) (e f : Option End) → IsOwn o e → Goes c e f → IsOwn (going_on c o) f
goes_own c nobody None f own goes = goes
goes_own c nobody (Some e) f own goes = absurd (none-some _ (sym own))
goes_own c (a_sender i K) None f own goes = absurd own
goes_own c (a_sender i K) (Some (Receiving s)) f own goes = absurd own
goes_own c (a_sender i K) (Some (Sending s)) None own goes = absurd goes
goes_own c (a_sender i K) (Some (Sending s)) (Some (Receiving t)) own goes = absurd goes
goes_own c (a_sender i K) (Some (Sending s)) (Some (Sending t)) own goes =
    (own.0, joined SendingStep (new_sending i) s t K (sender_calls c) own.1 goes)
goes_own c (a_receiver r l K) None f own goes = absurd own
goes_own c (a_receiver r l K) (Some (Sending s)) f own goes = absurd own
goes_own c (a_receiver r l K) (Some (Receiving s)) None own goes = absurd goes
goes_own c (a_receiver r l K) (Some (Receiving s)) (Some (Sending t)) own goes = absurd goes
goes_own c (a_receiver r l K) (Some (Receiving s)) (Some (Receiving t)) own goes =
    joined ReceivingStep (new_receiving r l) s t K (receiver_calls c) own goes

-- a handle has this owner where the call is of it, and else the one before
placed : (v w : LinksView) (h k : ℕ) (next : Option End) (there other : Owner) → Puts v.ends k next w.ends
    → (k ≡ h → IsOwn there next) → IsOwn other (end_at v.ends h) → (b : Bool) → nat_eq k h ≡ b → IsOwn (cond b there other) (end_at w.ends h)
placed v w h k next there other puts new old true e =
    let q : k ≡ h = eqb-true k h e in
    subst (λ x. IsOwn there x) (sym puts.there ∙ ap (λ n. end_at w.ends n) q) (new q)
placed v w h k next there other puts new old false e =
    subst (λ x. IsOwn other x) (sym (puts.others h (λ q. true≢false (sym (eq-eqb k h (sym q)) ∙ e)))) old

goes_at : (v w : LinksView) (h k : ℕ) (c : LinksCall) (o : Owner) → IsOwn o (end_at v.ends h) → Effect v k c (end_at v.ends k) w
    → IsOwn (if_at h k (going_on c o) o) (end_at w.ends h)
goes_at v w h k c o own s = placed v w h k s.next (going_on c o) o s.puts
    (λ q. goes_own c o (end_at v.ends k) s.next (subst (λ n. IsOwn o (end_at v.ends n)) (sym q) own) s.goes) own (nat_eq k h) refl

-- nothing of the ends changes
same_ends : (v w : LinksView) (h : ℕ) (o : Owner) → IsOwn o (end_at v.ends h) → w.ends ≡ v.ends → IsOwn o (end_at w.ends h)
same_ends v w h o own q = subst (λ x. IsOwn o (end_at x h)) (sym q) own

left_same : (v w : LinksView) (h : ℕ) (given : Option Entry) (e : Option End) → LeavesNext e v h given w → w.ends ≡ v.ends
left_same v w h given None s = ap (λ x. x.ends) s.1
left_same v w h given (Some (Sending x)) s = sent_same v w h given x.life s
left_same v w h given (Some (Receiving x)) s = received_same v w h given x.life s

removes_at : (v w : LinksView) (h k : ℕ) (o : Owner) (answer : Result (Unit {0}) RemoveError) (e : Option End) → IsOwn o (end_at v.ends h)
    → RemovesEnd e v k answer w → IsOwn (owner_after h (Removes k answer) o) (end_at w.ends h)
removes_at v w h k o (Ok done) None own s = absurd (ok≢err s.0)
removes_at v w h k o (Err error) None own s = same_ends v w h o own (ap (λ x. x.ends) s.1)
removes_at v w h k o (Ok done) (Some e) own s = placed v w h k None nobody o s.2 (λ q. refl) own (nat_eq k h) refl
removes_at v w h k o (Err rem.NoLink) (Some e) own s = absurd s
removes_at v w h k o (Err rem.NotDetached) (Some e) own s = same_ends v w h o own (ap (λ x. x.ends) s.1)
removes_at v w h k o (Err rem.Unsettled) (Some e) own s = same_ends v w h o own (ap (λ x. x.ends) s.2)

-- each call keeps that every end is alone
pub alone : (v w : LinksView) (c : LinksCall) (h : ℕ) (o : Owner) → IsOwn o (end_at v.ends h) → LinksStep v c w → IsOwn (owner_after h c o) (end_at w.ends h)
alone v w (MakesRoom k) h o own s = subst (λ x. IsOwn o x) (sym (s.0 h)) own
alone v w (AddsSender k i (Ok done)) h o own s = placed v w h k (Some (Sending (new_sending i))) (a_sender i []) o s.1.1.0 (λ q. (s.0, refl)) own (nat_eq k h) refl
alone v w (AddsSender k i (Err add.InUse)) h o own s = same_ends v w h o own (ap (λ x. x.ends) s.1.1)
alone v w (AddsSender k i (Err add.OutOfMemory)) h o own s = same_ends v w h o own (ap (λ x. x.ends) s.1.1)
alone v w (AddsReceiver k r l (Ok done)) h o own s = placed v w h k (Some (Receiving (new_receiving r l))) (a_receiver r l []) o s.1.0 (λ q. refl) own (nat_eq k h) refl
alone v w (AddsReceiver k r l (Err add.InUse)) h o own s = same_ends v w h o own (ap (λ x. x.ends) s.1)
alone v w (AddsReceiver k r l (Err add.OutOfMemory)) h o own s = same_ends v w h o own (ap (λ x. x.ends) s.1)
alone v w (Attaches k a answer) h o own s = goes_at v w h k (Attaches k a answer) o own (attaches v w k a answer (end_at v.ends k) refl s.0 s.1)
alone v w (Detaches k answer) h o own s = goes_at v w h k (Detaches k answer) o own (detaches v w k answer (end_at v.ends k) refl s)
alone v w (Ends k answer) h o own s = goes_at v w h k (Ends k answer) o own (ends v w k answer (end_at v.ends k) refl s)
alone v w (Flows k f answer) h o own s = goes_at v w h k (Flows k f answer) o own (flows v w k f answer (end_at v.ends k) refl s)
alone v w (Answers k n answer) h o own s = goes_at v w h k (Answers k n answer) o own (answers v w k n answer (end_at v.ends k) refl s)
alone v w (Grants k n answer) h o own s = goes_at v w h k (Grants k n answer) o own (grants v w k n answer (end_at v.ends k) refl s)
alone v w (Drains k answer) h o own s = goes_at v w h k (Drains k answer) o own (drains v w k answer (end_at v.ends k) refl s)
alone v w (Renews k answer) h o own s = goes_at v w h k (Renews k answer) o own (renews v w k answer (end_at v.ends k) refl s)
alone v w (Sends k p answer) h o own s = goes_at v w h k (Sends k p answer) o own (sends v w k p answer (end_at v.ends k) refl s.1)
alone v w (Takes k head given answer) h o own s = goes_at v w h k (Takes k head given answer) o own (takes v w k head given answer (end_at v.ends k) refl s.1)
alone v w (Leaves k given) h o own s = same_ends v w h o own (left_same v w k given (end_at v.ends k) s)
alone v w (Removes k answer) h o own s = removes_at v w h k o answer (end_at v.ends k) own s
alone v w (SettlesOfSent first last given) h o own s = same_ends v w h o own (ap (λ x. x.ends) s.1)
alone v w (SettlesOfReceived first last given) h o own s = same_ends v w h o own (ap (λ x. x.ends) s.1)
alone v w (LeavesOfSent given) h o own s = same_ends v w h o own (ap (λ x. x.ends) s.1)
alone v w (LeavesOfReceived given) h o own s = same_ends v w h o own (ap (λ x. x.ends) s.1)
alone v w (AsksEnd k answer) h o own s = same_ends v w h o own (ap (λ x. x.ends) s.1)
alone v w (AsksSent n answer) h o own s = same_ends v w h o own (ap (λ x. x.ends) s.1)
alone v w (AsksReceived n answer) h o own s = same_ends v w h o own (ap (λ x. x.ends) s.1)

all_alone : (v w : LinksView) (H : List LinksCall) (h : ℕ) (o : Owner) → IsOwn o (end_at v.ends h) → Chain LinksStep v H w → IsOwn (owner_by h o H) (end_at w.ends h)
all_alone v w [] h o own chain = same_ends v w h o own (ap (λ x. x.ends) chain)
all_alone v w (c ∷ cs) h o own chain = all_alone chain.0 w cs h (owner_after h c o) (alone v chain.0 c h o own chain.1) chain.2

pub each_is_alone : OfLinks EachIsAlone
each_is_alone H v leads h = all_alone no_links v H h nobody (none_there h) leads
