-- What each call does to the links of a session, by one table over the calls and their answers.
use Rattle.std.proofs.Common.{[], ◌∷◌, inl, inr, ◌≡◌, ℕ, List, Option, Some, None, Result, Ok, Err, Bool, true, false, cond, nat_eq, refl, ap, sym, subst, ◌∙◌}
use Rattle.std.specs.FinMap as map
use Rattle.amqp_types.specs.Flow.{FlowModel}
use Rattle.amqp_types.specs.Attach.{AttachModel}
use Rattle.amqp_session.specs.declared.link.LiveLink.{LiveLink}
use Rattle.amqp_session.specs.declared.link.AttachedLink.{AttachedLink}
use Rattle.amqp_session.specs.declared.flow.LinkFlow.{LinkFlow}
use Rattle.amqp_session.specs.declared.error.LinkRelayError.{LinkRelayError}
use Rattle.amqp_session.specs.declared.error.SessionInnerError.{SessionInnerError}
use Rattle.amqp_session.specs.declared.error.SessionInnerError.TheVariants as Refused
use Rattle.amqp_session.specs.declared.error.SessionStateError.TheVariants as Begins
use Rattle.amqp_session.specs.declared.frame.SessionOutgoingItem.{SessionOutgoingItem}
use Rattle.amqp_session.specs.declared.frame.SessionOutgoingItem.TheVariants.{SingleFrame}
use Rattle.amqp_session.specs.Links.{LinksView, put_at}
use Rattle.amqp_session.specs.Relay.{Relays, Question, DispositionQuestion, FlowQuestion, AttachQuestion, goes_on}
use Rattle.amqp_session.specs.Session.{SessionView}
use Rattle.amqp_session.specs.Step.{flow_moved, counted_by, asked_at, FlowAnswered, FlowUnasked, FlowTaken, TransferAnswered, TransferUnasked}
use Rattle.amqp_session.specs.Linking.{live_name, linked, Releases, Leaves, AttachAnswered, Attaches}
use Rattle.amqp_types.specs.Disposition.{DispositionModel}
use Rattle.amqp_session.specs.declared.deliveries.Delivery.{Delivery}
use Rattle.amqp_session.specs.Disposing.{AsksAt, AsksEach, prepended}
use Rattle.amqp_session.specs.Linked.{asked_from, live_by, input_by, where_goes, speaks_of, handle_of}
use Rattle.amqp_session.specs.History.{SessionCall, AllocatesLink, AllocatesIncomingLink, DeallocatesLink, TakesAttach, TakesDetach, SendsAttach, SendsDetach, SendsBegin, SendsEnd, TakesBegin, TakesEnd, TakesFlow, TakesTransfer, TakesDisposition, SendsDisposition, SendsFlow, SendsTransfer, SendsSessionFlow, RecordsStop, Settles, SessionStep}
use Rattle.amqp_session.proofs.OutputHandleLemmas.{at_insert, at_remove}
use Rattle.amqp_session.proofs.CallEffectLemmas.{attach_keeps}
use Rattle.amqp_session.proofs.LinkNameLemmas.{same_number, Agree, agree_like, agree_linked, agree_release, agree_leave, agree_dropped, names_linked, names_release, names_leave, attach_waits}

module _ {R : Type 0} (g : Relays R) where
  -- ---- the relays under input handles

  -- a relay that was asked goes on
  asked_there : {Q A : Type 0} → (l : LinksView R) (q : Question R Q A) (input h : ℕ) →
      map.get l.inputs input ≡ Some (record { handle = q.handle; relay = q.before }) →
      map.get (map.insert l.inputs input (goes_on q)) h ≡ cond (nat_eq h input) (where_goes q.after (map.get l.inputs h))
      (map.get l.inputs h)
  asked_there l q input h is = at_insert l.inputs input h (goes_on q) ∙ by (nat_eq h input) refl
    where
      by : (b : Bool) → nat_eq h input ≡ b →
          cond b (Some (goes_on q)) (map.get l.inputs h) ≡ cond b (where_goes q.after (map.get l.inputs h)) (map.get l.inputs h)
      by true t = sym (ap (where_goes q.after) (ap (map.get l.inputs) (same_number h input t) ∙ is))
      by false t = refl

  -- after an attach
  attach_puts : (l new : LinksView R) (a : AttachModel) (n : LiveLink R) (q : AttachQuestion R) (answer : Result (Unit {0}) LinkRelayError)
      (result : Result (Unit {0}) SessionInnerError) → AttachAnswered l a n q answer result new →
      (h : ℕ) → map.get new.inputs h ≡ input_by h (map.get l.inputs h) (TakesAttach a (Some q) result)
  attach_puts l new a n q (Ok u) (Ok r) t h = ap (λ (x : LinksView R). map.get x.inputs h) t ∙ at_insert l.inputs a.handle h (goes_on q)
  attach_puts l new a n q (Err e) (Err x) t h = ap (λ (y : LinksView R). map.get y.inputs h) t.1
  attach_puts l new a n q (Ok u) (Err x) t h = absurd t
  attach_puts l new a n q (Err e) (Ok r) t h = absurd t

  attach_inputs : (l new : LinksView R) (a : AttachModel) (asked : Option (AttachQuestion R))
      (result : Result (Unit {0}) SessionInnerError) → Attaches g.attach_gives l a asked result new →
      (h : ℕ) → map.get new.inputs h ≡ input_by h (map.get l.inputs h) (TakesAttach a asked result)
  attach_inputs l new a None (Ok u) t h = absurd t
  attach_inputs l new a None (Err e) t h = ap (λ (x : LinksView R). map.get x.inputs h) t.1
  attach_inputs l new a (Some q) result t h = attach_puts l new a t.1.link q q.answer result t.3 h

  attach_agrees : (l new : LinksView R) (a : AttachModel) (asked : Option (AttachQuestion R))
      (result : Result (Unit {0}) SessionInnerError) → Agree l →
      Attaches g.attach_gives l a asked result new → Agree new
  attach_agrees l new a asked result h t =
      let handles = attach_keeps g l new a asked result t in
      agree_like l new (attach_waits g.attach_gives l new a asked result t).same (λ k. ap (λ m. live_name (map.get m k)) handles) h

  -- ---- flows and transfers of the peer

  answered_links : (v w : SessionView R) (a : Result (Option LinkFlow) LinkRelayError)
      (result : Result (Option SessionOutgoingItem) SessionInnerError) → FlowAnswered v a result w → w.links ≡ v.links
  answered_links v w (Ok echo) (Ok item) t = ap (λ (x : SessionView R). x.links) t.1
  answered_links v w (Err e) (Err x) t = ap (λ (y : SessionView R). y.links) t.1
  answered_links v w (Ok echo) (Err x) t = absurd t
  answered_links v w (Err e) (Ok item) t = absurd t

  unasked_links : (v w : SessionView R) (h : Option ℕ) (result : Result (Option SessionOutgoingItem) SessionInnerError) →
      FlowUnasked v h result w → w.links ≡ v.links
  unasked_links v w h (Ok item) t = ap (λ (x : SessionView R). x.links) t.1.1
  unasked_links v w None (Err Refused.UnattachedHandle) t = absurd t
  unasked_links v w (Some h) (Err Refused.UnattachedHandle) t = ap (λ (x : SessionView R). x.links) t.1
  unasked_links v w h (Err Refused.OutOfMemory) t = ap (λ (x : SessionView R). x.links) t.1
  unasked_links v w None (Err e) t = absurd t
  unasked_links v w (Some h) (Err e) t = absurd t

  flow_unasked : (v w : SessionView R) (f : FlowModel) (h : Option ℕ) (result : Result (Option SessionOutgoingItem) SessionInnerError) →
      FlowTaken g.flow_gives v f h None result w → w.links ≡ v.links
  flow_unasked v w f None result t = unasked_links v w None result t
  flow_unasked v w f (Some h) result t = unasked_links v w (Some h) result t

  -- the links where a relay was asked: it alone goes on
  pub record Goes {Q A : Type 0} (l : LinksView R) (input : Option ℕ) (q : Question R Q A) (new : LinksView R) : Type 0 where
    pub names : new.names ≡ l.names
    pub handles : new.handles ≡ l.handles
    pub inputs : (h : ℕ) → map.get new.inputs h ≡ cond (speaks_of h input) (where_goes q.after (map.get l.inputs h)) (map.get l.inputs h)

  goes : {Q A : Type 0} → (l new : LinksView R) (input : ℕ) (q : Question R Q A) →
      map.get l.inputs input ≡ Some (record { handle = q.handle; relay = q.before }) → new ≡ put_at input (goes_on q) l →
      Goes l (Some input) q new
  goes l new input q is put = record {
    names = ap (λ (x : LinksView R). x.names) put;
    handles = ap (λ (x : LinksView R). x.handles) put;
    inputs = λ h. ap (λ (x : LinksView R). map.get x.inputs h) put ∙ asked_there l q input h is;
  }

  flow_asked : (v w : SessionView R) (f : FlowModel) (h : Option ℕ) (q : FlowQuestion R)
      (result : Result (Option SessionOutgoingItem) SessionInnerError) → FlowTaken g.flow_gives v f h (Some q) result w →
      Goes v.links h q w.links
  flow_asked v w f None q result t = absurd t
  flow_asked v w f (Some h) q result t = goes v.links w.links h q t.1.attached (answered_links (asked_at v h q) w q.answer result t.2)

  transfer_answered : (v w : SessionView R) (h : ℕ) (a : _) (result : _) → TransferAnswered v h a result w → w.links ≡ v.links
  transfer_answered v w h (Ok named) (Ok reply) t = ap (λ (x : SessionView R). x.links) t.2
  transfer_answered v w h (Err e) (Err x) t = ap (λ (y : SessionView R). y.links) t.1
  transfer_answered v w h (Ok named) (Err x) t = absurd t
  transfer_answered v w h (Err e) (Ok reply) t = absurd t

  transfer_unasked : (v w : SessionView R) (h : ℕ) (result : _) → TransferUnasked v h result w → w.links ≡ v.links
  transfer_unasked v w h (Ok reply) t = absurd t
  transfer_unasked v w h (Err Refused.UnattachedHandle) t = ap (λ (x : SessionView R). x.links) t.1
  transfer_unasked v w h (Err Refused.OutOfMemory) t = ap (λ (x : SessionView R). x.links) t.1
  transfer_unasked v w h (Err e) t = absurd t

  -- ---- dispositions of the peer

  -- the links where relays were asked in turn: they alone go on
  pub record GoEach (l : LinksView R) (asked : List (DispositionQuestion R)) (new : LinksView R) : Type 0 where
    pub names : new.names ≡ l.names
    pub handles : new.handles ≡ l.handles
    pub inputs : (h : ℕ) → map.get new.inputs h ≡ asked_from h (map.get l.inputs h) asked

  go_after : (d : DispositionModel) (r : Delivery) (one : Option (DispositionQuestion R)) (others asked : List (DispositionQuestion R)) (l m new : LinksView R) →
      AsksAt g.disposition_gives d r one l m → GoEach m others new → asked ≡ prepended one others → GoEach l asked new
  go_after d r None others asked l m new a i e = rw e (subst (λ x. GoEach x others new) a.1 i)
  go_after d r (Some q) others asked l m new a i e =
      let go = goes l m r.input_handle.0 q a.1.attached a.2 in
      rw e record {
        names = i.names ∙ go.names;
        handles = i.handles ∙ go.handles;
        inputs = λ h. i.inputs h ∙ ap (λ o. asked_from h o others)
            (go.inputs h ∙ ap (λ x. cond (nat_eq h x.delivery.input_handle.0) (where_goes q.after (map.get l.inputs h)) (map.get l.inputs h)) (sym a.0));
      }

  go_each : (d : DispositionModel) (rs : List Delivery) (asked : List (DispositionQuestion R)) (l new : LinksView R) →
      AsksEach g.disposition_gives d rs asked l new → GoEach l asked new
  go_each d [] asked l new t = rw (t.0, t.1) record { names = refl; handles = refl; inputs = λ h. refl }
  go_each d (r ∷ rs) asked l new t = go_after d r t.0 t.1 asked l t.2 new t.3 (go_each d rs t.1 t.2 new t.4) t.5

  -- ---- the table

  -- names and input handles are as the call says, and names and output handles agree after it
  pub record LinksBy (old : LinksView R) (e : SessionCall R) (new : LinksView R) : Type 0 where
    pub names_are : (name : List ℕ) → map.get new.names name ≡ live_by name (map.get old.names name) e
    pub inputs_are : (h : ℕ) → map.get new.inputs h ≡ input_by h (map.get old.inputs h) e
    pub agree : Agree new

  abbrev links_of : SessionView R → LinksView R
  links_of v = v.links

  -- a call that leaves all links
  kept : (old new : LinksView R) (e : SessionCall R) → Agree old → new ≡ old → ((name : List ℕ) (o : Option (LiveLink R)) → o ≡ live_by name o e) →
      ((h : ℕ) (o : Option (AttachedLink R)) → o ≡ input_by h o e) → LinksBy old e new
  kept old new e a same names inputs = record {
    names_are = λ name. ap (λ (x : LinksView R). map.get x.names name) same ∙ names name (map.get old.names name);
    inputs_are = λ h. ap (λ (x : LinksView R). map.get x.inputs h) same ∙ inputs h (map.get old.inputs h);
    agree = subst (λ x. Agree x) (sym same) a;
  }

  -- a call that leaves those under input handles
  named : (old new : LinksView R) (e : SessionCall R) → Agree new →
      ((name : List ℕ) → map.get new.names name ≡ live_by name (map.get old.names name) e) → new.inputs ≡ old.inputs →
      ((h : ℕ) (o : Option (AttachedLink R)) → o ≡ input_by h o e) → LinksBy old e new
  named old new e a names same inputs =
      record { names_are = names; inputs_are = λ h. ap (λ m. map.get m h) same ∙ inputs h (map.get old.inputs h); agree = a }

  -- a call that asks a relay
  asks : {Q A : Type 0} → (old new : LinksView R) (e : SessionCall R) (input : Option ℕ) (q : Question R Q A) → Agree old →
      Goes old input q new → ((name : List ℕ) (o : Option (LiveLink R)) → o ≡ live_by name o e) →
      ((h : ℕ) (o : Option (AttachedLink R)) → cond (speaks_of h input) (where_goes q.after o) o ≡ input_by h o e) → LinksBy old e new
  asks old new e input q a t names inputs = record {
    names_are = λ name. ap (λ m. map.get m name) t.names ∙ names name (map.get old.names name);
    inputs_are = λ h. t.inputs h ∙ inputs h (map.get old.inputs h);
    agree = agree_like old new (λ name. ap (λ m. handle_of (map.get m name)) t.names)
        (λ h. ap (λ m. live_name (map.get m h)) t.handles) a;
  }

  -- a disposition
  disposes : (old new : LinksView R) (d : DispositionModel) (asked : List (DispositionQuestion R)) (result : _) → Agree old → GoEach old asked new →
      LinksBy old (TakesDisposition d asked result) new
  disposes old new d asked result a t = record {
    names_are = λ name. ap (λ m. map.get m name) t.names;
    inputs_are = t.inputs;
    agree = agree_like old new (λ name. ap (λ m. handle_of (map.get m name)) t.names)
        (λ h. ap (λ m. live_name (map.get m h)) t.handles) a;
  }

  release_inputs : (l new : LinksView R) (h : ℕ) (was : Bool) → Releases l h was new → new.inputs ≡ l.inputs
  release_inputs l new h true r = ap (λ (x : LinksView R). x.inputs) r.2
  release_inputs l new h false r = ap (λ (x : LinksView R). x.inputs) r.1

  leave_inputs : (l new : LinksView R) (h : ℕ) (expects_echo went : Bool) → Leaves l h expects_echo went new → new.inputs ≡ l.inputs
  leave_inputs l new h true true r = ap (λ (x : LinksView R). x.inputs) r.2
  leave_inputs l new h true false r = ap (λ (x : LinksView R). x.inputs) r.1
  leave_inputs l new h false true r = release_inputs l new h r.0 r.1
  leave_inputs l new h false false r = absurd r

  pub links_by : (v w : SessionView R) (e : SessionCall R) → Agree v.links → SessionStep g v e w → LinksBy v.links e w.links
  links_by v w (AllocatesLink name relay (Ok h)) a s =
      subst (λ (x : SessionView R). LinksBy v.links (AllocatesLink name relay (Ok h)) x.links) (sym s.3)
      (named v.links (record (linked name h relay None v.links) { next = w.links.next }) (AllocatesLink name relay (Ok h)) (agree_linked v.links name h relay None s.0.1 s.1 a)
      (λ q. names_linked v.links name h relay None q) refl (λ k o. refl))
  links_by v w (AllocatesIncomingLink name relay input (Ok h)) a s =
      subst (λ (x : SessionView R). LinksBy v.links (AllocatesIncomingLink name relay input (Ok h)) x.links) (sym s.3) record {
        names_are = λ q. names_linked v.links name h None (Some input) q;
        inputs_are = λ k. at_insert v.links.inputs input.0 k (record { handle = h; relay = relay });
        agree = agree_linked v.links name h None (Some input) s.0.1 s.1 a;
      }
  links_by v w (DeallocatesLink handle was) a s =
      named v.links w.links _ (agree_release v.links w.links handle.0 was a s.0)
      (λ q. names_release v.links w.links handle.0 was a s.0 q) (release_inputs v.links w.links handle.0 was s.0) (λ k o. refl)
  links_by v w (TakesAttach x asked result) a s = record {
    names_are = (attach_waits g.attach_gives v.links w.links x asked result s.0).names_are;
    inputs_are = attach_inputs v.links w.links x asked result s.0;
    agree = attach_agrees v.links w.links x asked result a s.0;
  }
  links_by v w (TakesDetach d None (Ok answer)) a s = kept v.links w.links _ a s.0.2 (λ n o. refl) (λ k o. refl)
  links_by v w (TakesDetach d (Some q) (Ok answer)) a s =
      subst (λ x. LinksBy v.links (TakesDetach d (Some q) (Ok answer)) x) (sym s.0.3) record {
        names_are = λ n. refl;
        inputs_are = λ k. at_remove v.links.inputs d.handle k;
        agree = agree_dropped v.links d.handle q.handle.0 a;
      }
  links_by v w (SendsDetach d expects_echo (Ok (Some f))) a s =
      named v.links w.links _ (agree_leave v.links w.links d.handle expects_echo true a s.1)
      (λ q. names_leave v.links w.links d.handle expects_echo true a s.1 q) (leave_inputs v.links w.links d.handle expects_echo true s.1)
      (λ k o. refl)
  links_by v w (SendsDetach d expects_echo (Ok None)) a s =
      named v.links w.links _ (agree_leave v.links w.links d.handle expects_echo false a s.0)
      (λ q. names_leave v.links w.links d.handle expects_echo false a s.0 q)
      (leave_inputs v.links w.links d.handle expects_echo false s.0) (λ k o. refl)
  links_by v w (TakesFlow f None result) a s =
      kept v.links w.links _ a (flow_unasked (flow_moved v f) w f f.handle result s.1) (λ n o. refl) (λ k o. refl)
  links_by v w (TakesFlow f (Some q) result) a s =
      asks v.links w.links _ f.handle q a (flow_asked (flow_moved v f) w f f.handle q result s.1) (λ n o. refl) (λ k o. refl)
  links_by v w (TakesTransfer t payload None result) a s =
      kept v.links w.links _ a (transfer_unasked (counted_by v) w t.handle result s) (λ n o. refl) (λ k o. refl)
  links_by v w (TakesTransfer t payload (Some q) result) a s =
      asks v.links w.links _ (Some t.handle) q a
      (goes v.links w.links t.handle q s.1.attached
      (transfer_answered (asked_at (counted_by v) t.handle q) w t.handle q.answer result s.2)) (λ n o. refl) (λ k o. refl)
  links_by v w (AllocatesLink name relay (Err e)) a s = kept v.links w.links _ a (ap links_of s.1) (λ n o. refl) (λ k o. refl)
  links_by v w (AllocatesIncomingLink name relay input (Err e)) a s =
      kept v.links w.links _ a (ap links_of s.1) (λ n o. refl) (λ k o. refl)
  links_by v w (SendsBegin (Ok f)) a s = kept v.links w.links _ a (ap links_of s.2) (λ n o. refl) (λ k o. refl)
  links_by v w (SendsBegin (Err Begins.IllegalState)) a s = kept v.links w.links _ a (ap links_of s.1) (λ n o. refl) (λ k o. refl)
  links_by v w (SendsBegin (Err Begins.OutOfMemory)) a s = kept v.links w.links _ a (ap links_of s.1) (λ n o. refl) (λ k o. refl)
  links_by v w (SendsEnd error (Ok f)) a s = kept v.links w.links _ a (ap links_of s.2) (λ n o. refl) (λ k o. refl)
  links_by v w (SendsEnd error (Err Begins.IllegalState)) a s = kept v.links w.links _ a (ap links_of s.1) (λ n o. refl) (λ k o. refl)
  links_by v w (TakesBegin channel b (Ok u)) a s = kept v.links w.links _ a (ap links_of s.2) (λ n o. refl) (λ k o. refl)
  links_by v w (TakesBegin channel b (Err Begins.IllegalState)) a s =
      kept v.links w.links _ a (ap links_of s.1) (λ n o. refl) (λ k o. refl)
  links_by v w (TakesEnd channel e (Ok u)) a s = kept v.links w.links _ a (ap links_of s.3) (λ n o. refl) (λ k o. refl)
  links_by v w (TakesEnd channel e (Err Begins.RemoteEnded)) a s = kept v.links w.links _ a (ap links_of s.3) (λ n o. refl) (λ k o. refl)
  links_by v w (TakesEnd channel e (Err (Begins.RemoteEndedWithError x))) a s =
      kept v.links w.links _ a (ap links_of s.2) (λ n o. refl) (λ k o. refl)
  links_by v w (TakesEnd channel e (Err Begins.IllegalState)) a s = kept v.links w.links _ a (ap links_of s.1) (λ n o. refl) (λ k o. refl)
  links_by v w (SendsAttach x f) a s = kept v.links w.links _ a (ap links_of s.1) (λ n o. refl) (λ k o. refl)
  links_by v w (SendsFlow l f) a s = kept v.links w.links _ a (ap links_of s.1) (λ n o. refl) (λ k o. refl)
  links_by v w (SendsTransfer h (Ok item)) a s = kept v.links w.links _ a (ap links_of s.3) (λ n o. refl) (λ k o. refl)
  links_by v w (SendsTransfer h (Err Refused.IllegalState)) a s = kept v.links w.links _ a (ap links_of s.1) (λ n o. refl) (λ k o. refl)
  links_by v w (SendsTransfer h (Err Refused.OutOfMemory)) a s = kept v.links w.links _ a (ap links_of s.2) (λ n o. refl) (λ k o. refl)
  links_by v w (SendsSessionFlow None) a s = kept v.links w.links _ a (ap links_of s.1) (λ n o. refl) (λ k o. refl)
  links_by v w (SendsSessionFlow (Some (SingleFrame f))) a s = kept v.links w.links _ a (ap links_of s.2) (λ n o. refl) (λ k o. refl)
  links_by v w (RecordsStop reason) a s = kept v.links w.links _ a (ap links_of s) (λ n o. refl) (λ k o. refl)
  links_by v w (Settles role first last count) a s = kept v.links w.links _ a (ap links_of s.1) (λ n o. refl) (λ k o. refl)
  links_by v w (SendsDisposition d terminal f) a s = kept v.links w.links _ a (ap links_of s.2) (λ n o. refl) (λ k o. refl)
  links_by v w (TakesDisposition d asked (Ok None)) a s = disposes v.links w.links d asked _ a (go_each d _ asked v.links w.links s.1)
  links_by v w (TakesDisposition d asked (Ok (Some echoes))) a s = disposes v.links w.links d asked _ a (go_each d _ asked v.links w.links s.1.0)
  links_by v w (TakesDisposition d asked (Err Refused.OutOfMemory)) a s =
      disposes v.links w.links d asked _ a (elim s.2 [
        | inl x ↦ rw (x.0) record { names = ap (λ (y : SessionView R). y.links.names) x.1; handles = ap (λ (y : SessionView R). y.links.handles) x.1; inputs = λ h. ap (λ (y : SessionView R). map.get y.links.inputs h) x.1 }
        | inr x ↦ go_each d _ asked v.links w.links x.1.0
      ])
  links_by v w e a s = absurd s
