-- The laws of links: names and output handles agree, and a detach is awaited once for each allotment.
use Rattle.std.proofs.Common.{◌≡◌, ◌↔◌, ℕ, List, [], ◌∷◌, ◌++◌, Option, Some, None, Ok, Bool, true, false, cond, is_some, nat_eq, arith, refl, ap, sym, subst, ◌∙◌}
use Rattle.std.proofs.lemmas.Bool.Decides.{nat_tests}
use Rattle.std.proofs.lemmas.Grind.{common_steps}
use Rattle.std.specs.Ordering.{nat_cmp}
use Rattle.std.specs.FinMap as map
use Rattle.std.specs.FinMap.{get-empty}
use Rattle.amqp_session.specs.Links.{LinksView, attached_at}
use Rattle.amqp_session.specs.declared.link.AttachedLink.{AttachedLink}
use Rattle.amqp_session.specs.declared.link.LiveLink.{LiveLink}
use Rattle.amqp_session.specs.declared.numbers.InputHandle.{InputHandle}
use Rattle.amqp_session.specs.declared.numbers.OutputHandle.{OutputHandle}
use Rattle.amqp_session.specs.Relay.{Relays}
use Rattle.amqp_session.specs.Session.{SessionView, new_session}
use Rattle.amqp_session.specs.History.{SessionCall, AllocatesLink, AllocatesIncomingLink, DeallocatesLink, TakesDetach, SendsDetach, Made, SessionChain, LeadsTo}
use Rattle.amqp_session.specs.Received.{has_kind}
use Rattle.amqp_session.specs.Linking.{live_name, name_at, named_so, link_at, live_output, output_at, is_link, while_under, live_input, Leaves}
use Rattle.amqp_session.specs.Linked.{HandleUse, taken_by, without_live, left_by_detach, handle_of, OneToOne, HandlesMeet, LinksAgree, ShownAgree, allots, AwaitedOnce}
use Rattle.amqp_session.proofs.CallEffectLemmas.{does}
use Rattle.amqp_session.proofs.OutputHandleLemmas.{at_insert, not_live_stays, not_live_left}
use Rattle.amqp_session.proofs.LinkNameLemmas.{one, one_live, taken_live, live_answered, same_number}
use Rattle.amqp_session.proofs.SessionViewLemmas.{stands_law, agree_law, chain-split}

-- ---- names and output handles

one_to_one : (handle : List ℕ → Option ℕ) (taken : ℕ → HandleUse) →
    ((name : List ℕ) (h : ℕ) → handle name ≡ Some h ↔ taken h ≡ Some (Some name)) →
    OneToOne handle taken
one_to_one handle taken a = record {
  agree = a;
  one_name = λ name other h e f. one_live name other (sym ((a name h).0 e) ∙ (a other h).0 f);
  one_handle = λ name h k e f. one (sym ((a name h).1 e) ∙ (a name k).1 f);
  never_awaited = λ name h e awaited. let x : Some None ≡ Some (Some name) = sym awaited ∙ (a name h).0 e in absurd (cc);
}

-- ---- a handle that is not allotted has no live link

same : (h : ℕ) → nat_eq h h ≡ true
same h = grind (arith, nat_tests, common_steps)

either : (b : Bool) (x y : HandleUse) → live_name x ≡ None → live_name y ≡ None → live_name (cond b x y) ≡ None
either true x y e n = e
either false x y e n = n

not_live_by : {R : Type 0} → (k : ℕ) (o : HandleUse) (e : SessionCall R) → allots k e ≡ false → live_name o ≡ None →
    live_name (taken_by k o e) ≡ None
not_live_by k o (AllocatesLink name relay (Ok h)) none n = ap (λ b. live_name (cond b (Some (Some name)) o)) none ∙ n
not_live_by k o (AllocatesIncomingLink name relay input (Ok h)) none n = ap (λ b. live_name (cond b (Some (Some name)) o)) none ∙ n
not_live_by k o (DeallocatesLink h was) none n = either (nat_eq k h.0) (without_live o) o (ap live_name (not_live_stays o n) ∙ n) n
not_live_by k o (SendsDetach d expects_echo result) none n =
    either (nat_eq k d.handle) (left_by_detach expects_echo o) o (ap live_name (not_live_left expects_echo o n) ∙ n) n
not_live_by k o (TakesDetach d (Some q) result) none n = live_answered (nat_eq k q.handle.0) o ∙ n
not_live_by k o e none n = n

first_is_not : {R : Type 0} → (kind : SessionCall R → Bool) (e : SessionCall R) (H : List (SessionCall R)) → has_kind kind (e ∷ H) ≡ false →
    (kind e ≡ false) × (has_kind kind H ≡ false)
first_is_not kind e H h = by (kind e) refl h
  where
    by : (b : Bool) → kind e ≡ b → cond b true (has_kind kind H) ≡ false → (kind e ≡ false) × (has_kind kind H ≡ false)
    by true t x = absurd (cc)
    by false t x = (t, x)

-- ---- the input handle of a live link

module _ {R : Type 0} (l : LinksView R) (a : (name : List ℕ) (h : ℕ) → handle_of (map.get l.names name) ≡ Some h ↔ map.get l.handles h ≡ Some (Some name)) where
  meet_at : (h : ℕ) (name : List ℕ) (o : OutputHandle) (input i : InputHandle) (x : Option (AttachedLink R)) → name_at h l ≡ Some name → o.0 ≡ h
      → attached_at i.0 l ≡ x → cond (is_link o x) (Some i) None ≡ Some input → output_at input.0 l ≡ Some (record { 0 = h })
  meet_at h name o input i None n e at t = absurd (let no : None ≡ Some input = t in cc)
  meet_at h name o input i (Some y) n e at t = by (nat_eq y.handle.0 o.0) refl t
    where
      by : (b : Bool) → nat_eq y.handle.0 o.0 ≡ b → cond b (Some i) None ≡ Some input → output_at input.0 l ≡ Some (record { 0 = h })
      by false s t = absurd (let no : None ≡ Some input = t in cc)
      by true s t =
          let same : i ≡ input = one t in
          let there : attached_at input.0 l ≡ Some y = ap (λ (k : InputHandle). attached_at k.0 l) (sym same) ∙ at in
          let is : y.handle.0 ≡ h = same_number y.handle.0 o.0 s ∙ e in
          ap (λ z. live_output z l) there
          ∙ ap (λ m. cond (is_some (name_at m l)) (Some (let k : OutputHandle = record { 0 = m } in k)) None) is
          ∙ ap (λ z. cond (is_some z) (Some (let k : OutputHandle = record { 0 = h } in k)) None) n

  meet_by : (h : ℕ) (name : List ℕ) (input : InputHandle) (n : LiveLink R) (i : Option InputHandle) → name_at h l ≡ Some name → n.handle.0 ≡ h
      → n.input ≡ i → while_under n.handle i l ≡ Some input → output_at input.0 l ≡ Some (record { 0 = h })
  meet_by h name input n None t e is k = absurd (let no : None ≡ Some input = k in cc)
  meet_by h name input n (Some i) t e is k = meet_at h name n.handle input i (attached_at i.0 l) t e refl k

  meet : (h : ℕ) (input : InputHandle) (name : Option (List ℕ)) (n : Option (LiveLink R)) → name_at h l ≡ name → named_so name l ≡ n
      → live_input n l ≡ Some input → output_at input.0 l ≡ Some (record { 0 = h })
  meet h input None n t e k = absurd (let no : None ≡ Some input = ap (λ z. live_input z l) e ∙ k in cc)
  meet h input (Some name) None t e k = absurd (let no : None ≡ Some input = k in cc)
  meet h input (Some name) (Some n) t e k =
      let on : Some n.handle.0 ≡ Some h = sym (ap handle_of e) ∙ (a name h).1 (taken_live (map.get l.handles h) name t) in
      meet_by h name input n n.input t (one on) refl k

module _ {R : Type 0} (g : Relays R) where
  not_live_chain : (k : ℕ) (H : List (SessionCall R)) (v w : SessionView R) → has_kind (allots k) H ≡ false → name_at k v.links ≡ None →
      SessionChain g v H w →
      name_at k w.links ≡ None
  not_live_chain k [] v w none n c = subst (λ (x : SessionView R). name_at k x.links ≡ None) (sym c) n
  not_live_chain k (e ∷ H) v w none n c =
      let f = first_is_not (allots k) e H none in
      let d = does g v c.0 e c.1 in
      not_live_chain k H c.0 w f.1 (ap live_name (d.handles_are k) ∙ not_live_by k (map.get v.links.handles k) e f.0 n) c.2

  -- a link was live, so its handle was allotted
  must_allot : (k : ℕ) (H : List (SessionCall R)) (v w : SessionView R) (name : List ℕ) → name_at k v.links ≡ None → SessionChain g v H w →
      name_at k w.links ≡ Some name →
      has_kind (allots k) H ≡ true
  must_allot k H v w name n c live = by (has_kind (allots k) H) refl
    where
      by : (b : Bool) → has_kind (allots k) H ≡ b → b ≡ true
      by true t = refl
      by false t = let x : None ≡ Some name = sym (not_live_chain k H v w t n c) ∙ live in absurd (cc)

  -- after a detach that is awaited its handle has no live link
  awaited_after : (l new : LinksView R) (h : ℕ) → Leaves l h true true new → name_at h new ≡ None
  awaited_after l new h r =
      ap (λ (x : LinksView R). name_at h x) r.2
      ∙ ap live_name (at_insert l.handles h h None ∙ ap (λ b. cond b (Some None) (map.get l.handles h)) (same h))

  -- ---- the laws

  pub links_agree : (m : Made) (H : List (SessionCall R)) (v : SessionView R) → LeadsTo g m H v → LinksAgree H
  links_agree m H v l =
      let b = stands_law g m H v l in
      let a = agree_law g m H v l in
      one_to_one _ _ (λ name h. (
        λ e. sym (b.handles_are h) ∙ (a name h).0 (ap handle_of (b.names_are name) ∙ e),
        λ e. sym (ap handle_of (b.names_are name)) ∙ (a name h).1 (b.handles_are h ∙ e),
      ))

  pub shown_agree : (m : Made) (H : List (SessionCall R)) (v : SessionView R) → LeadsTo g m H v → ShownAgree v.links
  shown_agree m H v l = one_to_one _ _ (agree_law g m H v l)

  pub handles_meet : (m : Made) (H : List (SessionCall R)) (v : SessionView R) → LeadsTo g m H v → HandlesMeet v.links
  handles_meet m H v l h input e = meet v.links (agree_law g m H v l) h input (name_at h v.links) (link_at h v.links) refl refl e

  pub awaited_once : (m : Made) (H : List (SessionCall R)) (v : SessionView R) → LeadsTo g m H v → AwaitedOnce H
  awaited_once m H v l =
      let new : SessionView R = new_session l.0 m.settings m.channel m.state m.stop in record {
        allotted = λ before after d f is.
            let r = chain-split g before (SendsDetach d true (Ok (Some f)) ∷ after) new v (subst (λ K. SessionChain g new K v) is l.2) in
            must_allot d.handle before new r.0 r.2.1.1.0 (ap live_name (get-empty nat_cmp d.handle)) r.1 r.2.1.1.1;
        again = λ before between after d e f h is same.
            let rest : List (SessionCall R) = between ++ SendsDetach e true (Ok (Some h)) ∷ after in
            let r = chain-split g before (SendsDetach d true (Ok (Some f)) ∷ rest) new v (subst (λ K. SessionChain g new K v) is l.2) in
            let q = chain-split g between (SendsDetach e true (Ok (Some h)) ∷ after) r.2.0 v r.2.2 in
            must_allot d.handle between r.2.0 q.0 q.2.1.1.0 (awaited_after r.0.links r.2.0.links d.handle r.2.1.1) q.1
            (ap (λ k. name_at k q.0.links) same ∙ q.2.1.1.1);
      }
