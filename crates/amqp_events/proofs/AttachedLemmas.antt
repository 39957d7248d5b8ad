-- What a session's history tells the relay of a link is a run of that relay.
use Rattle.std.proofs.Common.{◌≡◌, ◌⊎◌, inl, inr, ℕ, suc, Bool, true, false, not, cond, nat_eq, List, [], ◌∷◌, ◌++◌, All, Option, Some, None, Result, Ok, Err, refl, ap, sym, subst, ◌∙◌, arith}
use Rattle.std.specs.FinMap as map
use Rattle.amqp_types.specs.Flow.{FlowModel}
use Rattle.amqp_types.specs.Disposition.{DispositionModel}
use Rattle.amqp_types.specs.Detach.{DetachModel}
use Rattle.amqp_session.specs.declared.link.AttachedLink.{AttachedLink}
use Rattle.amqp_session.specs.declared.deliveries.Delivery.{Delivery}
use Rattle.amqp_session.specs.declared.error.SessionInnerError.{SessionInnerError}
use Rattle.amqp_session.specs.declared.error.SessionInnerError.TheVariants as Refused
use Rattle.amqp_session.specs.Links.{LinksView, attached_at}
use Rattle.amqp_session.specs.Relay.{Relays, FlowQuestion, TransferQuestion, DispositionQuestion, DetachQuestion, Asks, goes_on, of_transfer}
use Rattle.amqp_session.specs.Session.{SessionView}
use Rattle.amqp_session.specs.Step.{FlowTaken, flow_moved}
use Rattle.amqp_session.specs.Linking.{TakeDetachStep}
use Rattle.amqp_session.specs.Disposing.{AsksAt, AsksEach, HasAsked, SaysStateAgain, TakeDispositionStep, prepended}
use Rattle.amqp_session.specs.History.{SessionCall, Made, LeadsTo, SessionChain, SessionStep, SendsBegin, SendsEnd, TakesBegin, TakesEnd, AllocatesLink, AllocatesIncomingLink, DeallocatesLink, TakesAttach, TakesFlow, TakesTransfer, TakesDisposition, TakesDetach, SendsAttach, SendsFlow, SendsTransfer, SendsDisposition, SendsDetach, SendsSessionFlow, RecordsStop, Settles}
use Rattle.amqp_session.specs.Linked.{input_at, input_by, asked_from, where_goes, speaks_of}
use Rattle.amqp_session.specs.Inner.Histories.{input_from}
use Rattle.amqp_session.specs.Headline.{Stands}
use Rattle.amqp_session.proofs.LinkNameLemmas.{same_number}
use Rattle.amqp_session.proofs.OutputHandleLemmas.{at_insert}
use Rattle.amqp_events.specs.Runs.{Told, ToldFlow, ToldTransfer, ToldDisposition, Queued, Run}
use Rattle.amqp_events.specs.Attached.{told_of, told_by, told_in, stays_under, StaysUnder}

module _ (g : Relays Queued) where
  -- ---- runs

  run_on : (xs ys : List Told) (a b c : Queued) → Run g a xs b → Run g b ys c → Run g a (xs ++ ys) c
  run_on [] ys a b c r s = subst (λ (q : Queued). Run g q ys c) r s
  run_on (t ∷ xs) ys a b c r s = (r.0, r.1, run_on xs ys r.0 b c r.2 s)

  -- a relay was told this, and stands under the handle afterwards
  pub record Goes (link : AttachedLink Queued) (told : List Told) (now : Option (AttachedLink Queued)) : Type 0 where
    pub after : Queued
    pub stands : now ≡ Some (record link { relay = after })
    pub run : Run g link.relay told after

  untold : (link : AttachedLink Queued) → Goes link [] (Some link)
  untold link = record { after = link.relay; stands = refl; run = refl }

  one_link : (a b : AttachedLink Queued) (o : Option (AttachedLink Queued)) → o ≡ Some a → o ≡ Some b → a ≡ b
  one_link a b o x y = cc

  -- ---- one question

  flow_told : (f : FlowModel) (handle : Option ℕ) (h : ℕ) (v w : SessionView Queued) (link : AttachedLink Queued) (q : FlowQuestion Queued) (result : _)
      → attached_at h v.links ≡ Some link → FlowTaken g.flow_gives v f handle (Some q) result w
      → Goes link (cond (speaks_of h handle) (ToldFlow q.handle q.asked q.answer ∷ []) []) (cond (speaks_of h handle) (where_goes q.after (Some link)) (Some link))
  flow_told f None h v w link q result at t = absurd t
  flow_told f (Some k) h v w link q result at t = by (nat_eq h k) refl
    where
      by : (b : Bool) → nat_eq h k ≡ b → Goes link (cond b (ToldFlow q.handle q.asked q.answer ∷ []) []) (cond b (where_goes q.after (Some link)) (Some link))
      by true e =
          let there = ap (λ n. attached_at n v.links) (same_number h k e) ∙ t.1.attached in
          let is = one_link link (record { handle = q.handle; relay = q.before }) (attached_at h v.links) at there in
          record { after = q.after; stands = refl; run = (q.after, subst (λ (r : Queued). g.flow_gives r q.handle q.asked q.answer q.after) (sym (ap (λ (l : AttachedLink Queued). l.relay) is)) t.1.stands, refl) }
      by false e = untold link

  transfer_told : (k h : ℕ) (l : LinksView Queued) (link : AttachedLink Queued) (q : TransferQuestion Queued)
      → attached_at h l ≡ Some link → Asks (of_transfer g.transfer_gives) (attached_at k l) q
      → Goes link (cond (nat_eq h k) (ToldTransfer q.asked.0 q.asked.1 q.answer ∷ []) []) (cond (nat_eq h k) (where_goes q.after (Some link)) (Some link))
  transfer_told k h l link q at t = by (nat_eq h k) refl
    where
      by : (b : Bool) → nat_eq h k ≡ b → Goes link (cond b (ToldTransfer q.asked.0 q.asked.1 q.answer ∷ []) []) (cond b (where_goes q.after (Some link)) (Some link))
      by true e =
          let there = ap (λ n. attached_at n l) (same_number h k e) ∙ t.attached in
          let is = one_link link (record { handle = q.handle; relay = q.before }) (attached_at h l) at there in
          record { after = q.after; stands = refl; run = (q.after, subst (λ (r : Queued). g.transfer_gives r q.asked.0 q.asked.1 q.answer q.after) (sym (ap (λ (x : AttachedLink Queued). x.relay) is)) t.stands, refl) }
      by false e = untold link

  -- ---- the questions of a disposition

  -- a relay under a handle after one question
  disposed_one : (d : DispositionModel) (r : Delivery) (h : ℕ) (l m : LinksView Queued) (link : AttachedLink Queued) (q : DispositionQuestion Queued)
      → attached_at h l ≡ Some link → AsksAt g.disposition_gives d r (Some q) l m → (b : Bool) → nat_eq h q.asked.delivery.input_handle.0 ≡ b
      → (after : Queued) × Run g link.relay (cond b (ToldDisposition q.asked.role q.asked.settled q.asked.state q.asked.delivery.tag q.answer ∷ []) []) after
      × (attached_at h m ≡ Some (record link { relay = after })) × (cond b (where_goes q.after (Some link)) (Some link) ≡ Some (record link { relay = after }))
  disposed_one d r h l m link q at a true e =
      let k = ap (λ x. x.delivery.input_handle.0) a.0 in
      let same : h ≡ r.input_handle.0 = same_number h q.asked.delivery.input_handle.0 e ∙ k in
      let is = one_link link (record { handle = q.handle; relay = q.before }) (attached_at h l) at (ap (λ n. attached_at n l) same ∙ a.1.attached) in
      let test : nat_eq h r.input_handle.0 ≡ true = sym (ap (λ n. nat_eq h n) k) ∙ e in
      let put : attached_at h m ≡ Some (goes_on q) =
      ap (attached_at h) a.2 ∙ at_insert l.inputs r.input_handle.0 h (goes_on q) ∙ ap (λ b. cond b (Some (goes_on q)) (map.get l.inputs h)) test in
      let now : goes_on q ≡ record link { relay = q.after } = ap (λ (x : AttachedLink Queued). record x { relay = q.after }) (sym is) in (
        q.after,
        (q.after, subst (λ (x : Queued). g.disposition_gives x q.asked.role q.asked.settled q.asked.state q.asked.delivery.tag q.answer q.after) (sym (ap (λ (x : AttachedLink Queued). x.relay) is)) a.1.stands, refl),
        put ∙ ap Some now,
        refl,
      )
  disposed_one d r h l m link q at a false e =
      let test : nat_eq h r.input_handle.0 ≡ false = sym (ap (λ x. nat_eq h x.delivery.input_handle.0) a.0) ∙ e in (
        link.relay,
        refl,
        ap (attached_at h) a.2 ∙ at_insert l.inputs r.input_handle.0 h (goes_on q) ∙ ap (λ b. cond b (Some (goes_on q)) (map.get l.inputs h)) test ∙ at,
        refl,
      )

  disposed_each : (d : DispositionModel) (rs : List Delivery) (asked : List (DispositionQuestion Queued)) (h : ℕ) (l new : LinksView Queued) (link : AttachedLink Queued)
      → attached_at h l ≡ Some link → AsksEach g.disposition_gives d rs asked l new → Goes link (told_of h asked) (asked_from h (Some link) asked)
  disposed_each d [] asked h l new link at t = subst (λ qs. Goes link (told_of h qs) (asked_from h (Some link) qs)) (sym t.0) (untold link)
  disposed_each d (r ∷ rs) asked h l new link at t =
      subst (λ qs. Goes link (told_of h qs) (asked_from h (Some link) qs)) (sym t.5) (by t.0 t.3 (λ x p. disposed_each d rs t.1 h t.2 new x p t.4))
    where
      by : (one : Option (DispositionQuestion Queued)) → AsksAt g.disposition_gives d r one l t.2
          → ((x : AttachedLink Queued) → attached_at h t.2 ≡ Some x → Goes x (told_of h t.1) (asked_from h (Some x) t.1))
          → Goes link (told_of h (prepended one t.1)) (asked_from h (Some link) (prepended one t.1))
      by None a others = others link (ap (attached_at h) a.1 ∙ at)
      by (Some q) a others =
          let o = disposed_one d r h l t.2 link q at a (nat_eq h q.asked.delivery.input_handle.0) refl in
          let i = others (record link { relay = o.0 }) o.2 in
          record {
            after = i.after;
            stands = ap (λ x. asked_from h x t.1) o.3 ∙ i.stands;
            run = run_on _ (told_of h t.1) link.relay o.0 i.after o.1 i.run;
          }

  disposition_told : (d : DispositionModel) (asked : List (DispositionQuestion Queued)) (result : _) (h : ℕ) (v w : SessionView Queued) (link : AttachedLink Queued)
      → attached_at h v.links ≡ Some link → TakeDispositionStep g.disposition_gives v d asked result w → Goes link (told_of h asked) (asked_from h (Some link) asked)
  disposition_told d asked (Ok None) h v w link at t = disposed_each d _ asked h v.links w.links link at t.1
  disposition_told d asked (Ok (Some echoes)) h v w link at t = disposed_each d _ asked h v.links w.links link at t.1.0
  disposition_told d asked (Err Refused.OutOfMemory) h v w link at t = by t.2
    where
      by : ((asked ≡ []) × (w ≡ v)) ⊎ (SaysStateAgain d asked × HasAsked g.disposition_gives v d asked w) → Goes link (told_of h asked) (asked_from h (Some link) asked)
      by (inl x) = subst (λ qs. Goes link (told_of h qs) (asked_from h (Some link) qs)) (sym x.0) (untold link)
      by (inr x) = disposed_each d _ asked h v.links w.links link at x.1.0
  disposition_told d asked (Err e) h v w link at t = absurd t

  -- ---- one call

  -- where no other relay is put there
  seated : (b : Bool) (link : AttachedLink Queued) (o : Option (AttachedLink Queued)) → not b ≡ true → Goes link [] (cond b o (Some link))
  seated true link o s = absurd cc
  seated false link o s = untold link

  one_call : (e : SessionCall Queued) (h : ℕ) (v w : SessionView Queued) (link : AttachedLink Queued) → attached_at h v.links ≡ Some link → stays_under h e ≡ true
      → SessionStep g v e w → Goes link (told_by h e) (input_by h (Some link) e)
  one_call (SendsBegin r) h v w link at s t = untold link
  one_call (SendsEnd x r) h v w link at s t = untold link
  one_call (TakesBegin c b r) h v w link at s t = untold link
  one_call (TakesEnd c x r) h v w link at s t = untold link
  one_call (AllocatesLink n x r) h v w link at s t = untold link
  one_call (AllocatesIncomingLink n x i (Ok k)) h v w link at s t = seated (nat_eq h i.0) link (Some (record { handle = k; relay = x })) s
  one_call (AllocatesIncomingLink n x i (Err r)) h v w link at s t = untold link
  one_call (DeallocatesLink k was) h v w link at s t = untold link
  one_call (TakesAttach a None r) h v w link at s t = untold link
  one_call (TakesAttach a (Some q) (Ok u)) h v w link at s t = seated (nat_eq h a.handle) link (Some (goes_on q)) s
  one_call (TakesAttach a (Some q) (Err r)) h v w link at s t = untold link
  one_call (TakesFlow f None r) h v w link at s t = untold link
  one_call (TakesFlow f (Some q) r) h v w link at s t = flow_told f f.handle h (flow_moved v f) w link q r at t.1
  one_call (TakesTransfer x p None r) h v w link at s t = untold link
  one_call (TakesTransfer x p (Some q) r) h v w link at s t = transfer_told x.handle h v.links link q at t.1
  one_call (TakesDisposition d asked r) h v w link at s t = disposition_told d asked r h v w link at t
  one_call (TakesDetach d None r) h v w link at s t = untold link
  one_call (TakesDetach d (Some q) r) h v w link at s t = seated (nat_eq h d.handle) link None s
  one_call (SendsAttach a f) h v w link at s t = untold link
  one_call (SendsFlow l f) h v w link at s t = untold link
  one_call (SendsTransfer x r) h v w link at s t = untold link
  one_call (SendsDisposition d b f) h v w link at s t = untold link
  one_call (SendsDetach d b r) h v w link at s t = untold link
  one_call (SendsSessionFlow i) h v w link at s t = untold link
  one_call (RecordsStop r) h v w link at s t = untold link
  one_call (Settles x a b n) h v w link at s t = untold link

  -- the relay that stands there is told the peer's detach
  pub detach_told : (d : DetachModel) (q : DetachQuestion Queued) (result : Result (Option DetachModel) SessionInnerError) (v w : SessionView Queued)
      → TakeDetachStep g.detach_gives v d (Some q) result w
      → (attached_at d.handle v.links ≡ Some (record { handle = q.handle; relay = q.before })) × g.detach_gives q.before q.handle d q.asked.1 q.answer q.after
  detach_told d q (Ok answer) v w t =
      (t.0.1.attached, subst (λ x. g.detach_gives q.before q.handle x q.asked.1 q.answer q.after) (ap (λ x. x.0) t.0.0) t.0.1.stands)
  detach_told d q (Err e) v w t = absurd t

  -- ---- a history

  pub chain_split : (xs ys : List (SessionCall Queued)) (v w : SessionView Queued) → SessionChain g v (xs ++ ys) w → (u : SessionView Queued) × SessionChain g v xs u × SessionChain g u ys w
  chain_split [] ys v w c = (v, refl, c)
  chain_split (x ∷ xs) ys v w c = let r = chain_split xs ys c.0 w c.2 in (r.0, (c.0, c.1, r.1), r.2)

  chain_more : (xs : List (SessionCall Queued)) (e : SessionCall Queued) (v u w : SessionView Queued) → SessionChain g v xs u → SessionStep g u e w → SessionChain g v (xs ++ e ∷ []) w
  chain_more [] e v u w c s = (w, subst (λ (x : SessionView Queued). SessionStep g x e w) c s, refl)
  chain_more (x ∷ xs) e v u w c s = (c.0, c.1, chain_more xs e c.0 u w c.2 s)

  pub input_on : (h : ℕ) (xs ys : List (SessionCall Queued)) (o : Option (AttachedLink Queued)) → input_from h o (xs ++ ys) ≡ input_from h (input_from h o xs) ys
  input_on h [] ys o = refl
  input_on h (x ∷ xs) ys o = input_on h xs ys (input_by h o x)

  pub hears : (m : Made) (es before : List (SessionCall Queued)) (v w : SessionView Queued) (h : ℕ) (link : AttachedLink Queued)
      → ((H : List (SessionCall Queued)) (x : SessionView Queued) → LeadsTo g m H x → Stands m H x)
      → LeadsTo g m before v → input_at h before ≡ Some link → All (StaysUnder h) es → SessionChain g v es w
      → Goes link (told_in h es) (input_from h (Some link) es)
  hears m [] before v w h link shown l at all c = untold link
  hears m (e ∷ es) before v w h link shown l at all c =
      let one = one_call e h v c.0 link ((shown before v l).inputs_are h ∙ at) (all 0 e (omega arith)) c.1 in
      let next = record link { relay = one.after } in
      let there : input_at h (before ++ e ∷ []) ≡ Some next = input_on h before (e ∷ []) None ∙ ap (λ o. input_by h o e) at ∙ one.stands in
      let others = hears m es (before ++ e ∷ []) c.0 w h next shown (l.0, l.1, chain_more before e _ v c.0 l.2 c.1) there (λ k d p. all (suc k) d (omega (arith, p))) c.2 in
      record {
        after = others.after;
        stands = ap (λ o. input_from h o es) one.stands ∙ others.stands;
        run = run_on (told_by h e) (told_in h es) link.relay one.after others.after one.run others.run;
      }
