-- Which link is live by each name after each call for links, and that names and output handles agree.
use Rattle.std.proofs.Common.{◌≡◌, ◌↔◌, ℕ, List, Option, Some, None, Result, Ok, Err, Bool, true, false, cond, nat_eq, bytes_eq, arith, refl, ap, sym, subst, ◌∙◌}
use Rattle.std.proofs.lemmas.Bool.Decides.{nat_tests}
use Rattle.std.proofs.lemmas.Grind.{common_steps}
use Rattle.std.proofs.lemmas.Slice.Eq.{bytes_eq-Decides}
use Rattle.std.specs.Ordering.{nat_cmp}
use Rattle.std.specs.Cmp.Lexicographic.{slice_cmp, nat_list_cmp_total}
use Rattle.std.specs.FinMap as map
use Rattle.std.specs.FinMap.{get-empty, get-insert, get-remove}
use Rattle.amqp_types.specs.Attach.{AttachModel}
use Rattle.amqp_session.specs.declared.keys.KeyHash.{KeyHash}
use Rattle.amqp_session.specs.declared.link.LiveLink.{LiveLink}
use Rattle.amqp_session.specs.declared.numbers.OutputHandle.{OutputHandle}
use Rattle.amqp_session.specs.declared.numbers.InputHandle.{InputHandle}
use Rattle.amqp_session.specs.declared.error.LinkRelayError.{LinkRelayError}
use Rattle.amqp_session.specs.declared.error.SessionInnerError.{SessionInnerError}
use Rattle.amqp_session.specs.History.{TakesAttach}
use Rattle.amqp_session.specs.Links.{LinksView, no_links}
use Rattle.amqp_session.specs.Relay.{AttachGives, AttachQuestion}
use Rattle.amqp_session.specs.Linking.{live_name, name_at, linked, released, left_awaited, Releases, Leaves, AttachAnswered, Attaches, dropped}
use Rattle.amqp_session.specs.Linked.{HandleUse, answered, unless_on, where_waits, where_attached, handle_of, live_by}
use Rattle.amqp_session.proofs.FiniteMapLemmas.{same_text}
use Rattle.amqp_session.proofs.OutputHandleLemmas.{at_insert, at_remove, taken_drop}

-- ---- small facts

text_insert : {X : Type 0} → (m : map.FinMap (slice_cmp nat_cmp) X) (n q : List ℕ) (x : X) →
    map.get (map.insert m n x) q ≡ cond (bytes_eq q n) (Some x) (map.get m q)
text_insert m n q x = get-insert nat_list_cmp_total m n x q ∙ ap (λ b. cond b (Some x) (map.get m q)) (same_text q n)

text_remove : {X : Type 0} → (m : map.FinMap (slice_cmp nat_cmp) X) (n q : List ℕ) →
    map.get (map.remove m n) q ≡ cond (bytes_eq q n) None (map.get m q)
text_remove m n q = get-remove nat_list_cmp_total m n q ∙ ap (λ b. cond b None (map.get m q)) (same_text q n)

same_name : (q n : List ℕ) → bytes_eq q n ≡ true → q ≡ n
same_name q n t = (bytes_eq-Decides q n).0 t

other_name : (q n : List ℕ) → bytes_eq q n ≡ false → q ≡ n → ⊥
other_name q n t e = let same = (bytes_eq-Decides q n).1 e in cc

pub same_number : (h k : ℕ) → nat_eq h k ≡ true → h ≡ k
same_number h k t = grind (arith, nat_tests, common_steps)

other_number : (h k : ℕ) → nat_eq h k ≡ false → h ≡ k → ⊥
other_number h k t e = grind (arith, nat_tests, common_steps)

pub one : {A : Type 0} → {x y : A} → Some x ≡ Some y → x ≡ y
one e = cc

pub one_live : (x y : List ℕ) → Some (Some x) ≡ Some (Some y) → x ≡ y
one_live x y e = one (one e)

pub taken_live : (o : HandleUse) (name : List ℕ) → live_name o ≡ Some name → o ≡ Some (Some name)
taken_live None name e = absurd (cc)
taken_live (Some None) name e = absurd (cc)
taken_live (Some (Some n)) name e = ap Some e

not_live : (y : HandleUse) (name : List ℕ) → live_name y ≡ None → y ≡ Some (Some name) → ⊥
not_live y name none e = let x : None ≡ Some name = sym none ∙ ap live_name e in cc

pub live_answered : (b : Bool) (o : HandleUse) → live_name (cond b (answered o) o) ≡ live_name o
live_answered false o = refl
live_answered true None = refl
live_answered true (Some None) = refl
live_answered true (Some (Some n)) = refl

module _ {R : Type 0} where
  -- ---- names and output handles agree

  abbrev pub Agree : LinksView R → Type 0
  Agree l = (name : List ℕ) (h : ℕ) → handle_of (map.get l.names name) ≡ Some h ↔ map.get l.handles h ≡ Some (Some name)

  agree_put : (l : LinksView R) (n : List ℕ) (k : OutputHandle) (w : Option R) (i : Option InputHandle) → map.get l.names n ≡ None →
      map.get l.handles k.0 ≡ None → Agree l → (q : List ℕ) (h : ℕ) (b c : Bool) → bytes_eq q n ≡ b → nat_eq h k.0 ≡ c →
      handle_of (cond b (Some (record { handle = k; waiting = w; input = i })) (map.get l.names q)) ≡ Some h ↔
      cond c (Some (Some n)) (map.get l.handles h) ≡ Some (Some q)
  agree_put l n k w i none free a q h true true s t =
      (λ _. ap (λ y. Some (Some y)) (sym (same_name q n s)), λ _. ap Some (sym (same_number h k.0 t)))
  agree_put l n k w i none free a q h true false s t = (
    λ e. absurd (other_number h k.0 t (sym (one e))),
    λ e. let x : None ≡ Some h = sym (ap handle_of (ap (map.get l.names) (same_name q n s) ∙ none)) ∙ (a q h).1 e in absurd (cc),
  )
  agree_put l n k w i none free a q h false true s t = (
    λ e. let x : None ≡ Some (Some q) = sym free ∙ ap (map.get l.handles) (sym (same_number h k.0 t)) ∙ (a q h).0 e in absurd (cc),
    λ e. absurd (other_name q n s (sym (one_live n q e))),
  )
  agree_put l n k w i none free a q h false false s t = a q h

  agree_gone : (l : LinksView R) (n : List ℕ) (k : ℕ) (y : HandleUse) → live_name y ≡ None → map.get l.handles k ≡ Some (Some n) → Agree l →
      (q : List ℕ) (h : ℕ) (b c : Bool) → bytes_eq q n ≡ b → nat_eq h k ≡ c →
      handle_of (cond b None (map.get l.names q)) ≡ Some h ↔ cond c y (map.get l.handles h) ≡ Some (Some q)
  agree_gone l n k y dead was a q h true true s t = (λ e. absurd (cc), λ e. absurd (not_live y q dead e))
  agree_gone l n k y dead was a q h true false s t = (
    λ e. absurd (cc),
    λ e.
        let x : Some h ≡ Some k = sym ((a q h).1 e) ∙ ap (λ m. handle_of (map.get l.names m)) (same_name q n s) ∙ (a n k).1 was in
        absurd (other_number h k t (one x)),
  )
  agree_gone l n k y dead was a q h false true s t = (
    λ e.
        let x : Some (Some q) ≡ Some (Some n) = sym ((a q h).0 e) ∙ ap (map.get l.handles) (same_number h k t) ∙ was in
        absurd (other_name q n s (one_live q n x)),
    λ e. absurd (not_live y q dead e),
  )
  agree_gone l n k y dead was a q h false false s t = a q h

  pub agree_linked : (l : LinksView R) (n : List ℕ) (k : OutputHandle) (w : Option R) (i : Option InputHandle) → map.get l.names n ≡ None →
      map.get l.handles k.0 ≡ None → Agree l → Agree (linked n k w i l)
  agree_linked l n k w i none free a q h =
      rw (text_insert l.names n q (record { handle = k; waiting = w; input = i }), at_insert l.handles k.0 h (Some n))
      (agree_put l n k w i none free a q h (bytes_eq q n) (nat_eq h k.0) refl refl)

  agree_released : (l : LinksView R) (n : List ℕ) (k : ℕ) → map.get l.handles k ≡ Some (Some n) → Agree l → Agree (released n k l)
  agree_released l n k was a q h =
      rw (text_remove l.names n q, at_remove l.handles k h) (agree_gone l n k None refl was a q h (bytes_eq q n) (nat_eq h k) refl refl)

  agree_left : (l : LinksView R) (n : List ℕ) (k : ℕ) → map.get l.handles k ≡ Some (Some n) → Agree l → Agree (left_awaited n k l)
  agree_left l n k was a q h =
      rw (text_remove l.names n q, at_insert l.handles k h None)
      (agree_gone l n k (Some None) refl was a q h (bytes_eq q n) (nat_eq h k) refl refl)

  pub agree_release : (l new : LinksView R) (h : ℕ) (was : Bool) → Agree l → Releases l h was new → Agree new
  agree_release l new h true a r = subst (λ x. Agree x) (sym r.2) (agree_released l r.0 h (taken_live (map.get l.handles h) r.0 r.1) a)
  agree_release l new h false a r = subst (λ x. Agree x) (sym r.1) a

  pub agree_leave : (l new : LinksView R) (h : ℕ) (expects_echo went : Bool) → Agree l → Leaves l h expects_echo went new → Agree new
  agree_leave l new h true true a r = subst (λ x. Agree x) (sym r.2) (agree_left l r.0 h (taken_live (map.get l.handles h) r.0 r.1) a)
  agree_leave l new h true false a r = subst (λ x. Agree x) (sym r.1) a
  agree_leave l new h false true a r = agree_release l new h r.0 a r.1
  agree_leave l new h false false a r = absurd r

  -- where names keep their handles, and handles their live links
  pub agree_like : (l new : LinksView R) → ((q : List ℕ) → handle_of (map.get new.names q) ≡ handle_of (map.get l.names q)) →
      ((h : ℕ) → live_name (map.get new.handles h) ≡ live_name (map.get l.handles h)) → Agree l → Agree new
  agree_like l new names handles a q h = (
    λ e. taken_live _ q (handles h ∙ ap live_name ((a q h).0 (sym (names q) ∙ e))),
    λ e. names q ∙ (a q h).1 (taken_live _ q (sym (handles h) ∙ ap live_name e)),
  )

  pub agree_dropped : (l : LinksView R) (input h : ℕ) → Agree l → Agree (dropped input h l)
  agree_dropped l input h a =
      agree_like l (dropped input h l) (λ q. refl)
      (λ k. ap live_name (taken_drop l input h k) ∙ live_answered (nat_eq k h) (map.get l.handles k)) a

  -- ---- the link of a name

  gone_on : (o : Option (LiveLink R)) (h : ℕ) → handle_of o ≡ Some h → unless_on h o ≡ None
  gone_on None h e = absurd (cc)
  gone_on (Some n) h e = let same : n.handle.0 ≡ h = one e in let t : nat_eq n.handle.0 h ≡ true =
      grind (arith, nat_tests, common_steps) in ap (λ b. cond b None (Some n)) t

  stays_on : (o : Option (LiveLink R)) (h : ℕ) → (handle_of o ≡ Some h → ⊥) → unless_on h o ≡ o
  stays_on None h other = refl
  stays_on (Some n) h other = by (nat_eq n.handle.0 h) refl
    where
      by : (b : Bool) → nat_eq n.handle.0 h ≡ b → cond b None (Some n) ≡ Some n
      by true t = absurd (other (ap Some (same_number n.handle.0 h t)))
      by false t = refl

  names_gone : (l : LinksView R) (h : ℕ) (n : List ℕ) → Agree l → map.get l.handles h ≡ Some (Some n) → (q : List ℕ) →
      map.get (map.remove l.names n) q ≡ unless_on h (map.get l.names q)
  names_gone l h n a was q = text_remove l.names n q ∙ by (bytes_eq q n) refl
    where
      by : (b : Bool) → bytes_eq q n ≡ b → cond b None (map.get l.names q) ≡ unless_on h (map.get l.names q)
      by true t = sym (gone_on (map.get l.names q) h ((a q h).1 (was ∙ ap (λ m. Some (Some m)) (sym (same_name q n t)))))
      by false t = sym (stays_on (map.get l.names q) h (λ e. other_name q n t (one_live q n (sym ((a q h).0 e) ∙ was))))

  names_stay : (l : LinksView R) (h : ℕ) → Agree l → name_at h l ≡ None → (q : List ℕ) →
      map.get l.names q ≡ unless_on h (map.get l.names q)
  names_stay l h a none q = sym (stays_on (map.get l.names q) h (λ e. not_live (map.get l.handles h) q none ((a q h).0 e)))

  pub names_release : (l new : LinksView R) (h : ℕ) (was : Bool) → Agree l → Releases l h was new → (q : List ℕ) →
      map.get new.names q ≡ unless_on h (map.get l.names q)
  names_release l new h true a r q =
      ap (λ (x : LinksView R). map.get x.names q) r.2 ∙ names_gone l h r.0 a (taken_live (map.get l.handles h) r.0 r.1) q
  names_release l new h false a r q = ap (λ (x : LinksView R). map.get x.names q) r.1 ∙ names_stay l h a r.0 q

  pub names_leave : (l new : LinksView R) (h : ℕ) (expects_echo went : Bool) → Agree l → Leaves l h expects_echo went new → (q : List ℕ) →
      map.get new.names q ≡ unless_on h (map.get l.names q)
  names_leave l new h true true a r q =
      ap (λ (x : LinksView R). map.get x.names q) r.2 ∙ names_gone l h r.0 a (taken_live (map.get l.handles h) r.0 r.1) q
  names_leave l new h true false a r q = ap (λ (x : LinksView R). map.get x.names q) r.1 ∙ names_stay l h a r.0 q
  names_leave l new h false true a r q = names_release l new h r.0 a r.1 q
  names_leave l new h false false a r q = absurd r

  pub names_linked : (l : LinksView R) (n : List ℕ) (k : OutputHandle) (w : Option R) (i : Option InputHandle) (q : List ℕ) →
      map.get (linked n k w i l).names q ≡ cond (bytes_eq q n) (Some (record { handle = k; waiting = w; input = i })) (map.get l.names q)
  names_linked l n k w i q = text_insert l.names n q (record { handle = k; waiting = w; input = i })

  -- ---- the peer's attach

  -- the link of the name, which goes on so
  names_go : (l : LinksView R) (n q : List ℕ) (was now : LiveLink R) (goes : Option (LiveLink R) → Option (LiveLink R)) →
      map.get l.names n ≡ Some was → goes (Some was) ≡ Some now →
      map.get (map.insert l.names n now) q ≡ cond (bytes_eq q n) (goes (map.get l.names q)) (map.get l.names q)
  names_go l n q was now goes is so = text_insert l.names n q now ∙ by (bytes_eq q n) refl
    where
      by : (b : Bool) → bytes_eq q n ≡ b → cond b (Some now) (map.get l.names q) ≡ cond b (goes (map.get l.names q)) (map.get l.names q)
      by true t = sym (ap goes (ap (map.get l.names) (same_name q n t) ∙ is) ∙ so)
      by false t = refl

  same_handle : (b : Bool) (x o : Option (LiveLink R)) → handle_of x ≡ handle_of o → handle_of (cond b x o) ≡ handle_of o
  same_handle false x o e = refl
  same_handle true x o e = e

  waits_on : (relay : R) (o : Option (LiveLink R)) → handle_of (where_waits relay o) ≡ handle_of o
  waits_on relay None = refl
  waits_on relay (Some n) = refl

  attached_on : (input : ℕ) (o : Option (LiveLink R)) → handle_of (where_attached input o) ≡ handle_of o
  attached_on input None = refl
  attached_on input (Some n) = refl

  -- what an attach does to names: this, and handles stay
  pub record Waits (l : LinksView R) (a : AttachModel) (asked : Option (AttachQuestion R)) (result : Result (Unit {0}) SessionInnerError)
      (new : LinksView R) : Type 0 where
    pub names_are : (q : List ℕ) → map.get new.names q ≡ live_by q (map.get l.names q) (TakesAttach a asked result)
    pub same : (q : List ℕ) → handle_of (map.get new.names q) ≡ handle_of (map.get l.names q)

  attach_answered : (l new : LinksView R) (a : AttachModel) (n : LiveLink R) (q : AttachQuestion R) (answer : Result (Unit {0}) LinkRelayError)
      (result : Result (Unit {0}) SessionInnerError) → map.get l.names a.name ≡ Some n → AttachAnswered l a n q answer result new →
      Waits l a (Some q) result new
  attach_answered l new a n q (Ok u) (Ok r) is t =
      let names : (m : List ℕ) → map.get new.names m ≡ live_by m (map.get l.names m) (TakesAttach a (Some q) (Ok r)) =
      λ m. ap (λ (x : LinksView R). map.get x.names m) t ∙ names_go l a.name m n _ (where_attached a.handle) is refl in
      record {
        names_are = names;
        same = λ m. ap handle_of (names m) ∙ same_handle (bytes_eq m a.name) _ (map.get l.names m) (attached_on a.handle (map.get l.names m));
      }
  attach_answered l new a n q (Err e) (Err x) is t =
      let names : (m : List ℕ) → map.get new.names m ≡ live_by m (map.get l.names m) (TakesAttach a (Some q) (Err x)) =
      λ m. ap (λ (y : LinksView R). map.get y.names m) t.1 ∙ names_go l a.name m n _ (where_waits q.after) is refl in
      record {
        names_are = names;
        same = λ m. ap handle_of (names m) ∙ same_handle (bytes_eq m a.name) _ (map.get l.names m) (waits_on q.after (map.get l.names m));
      }
  attach_answered l new a n q (Ok u) (Err x) is t = absurd t
  attach_answered l new a n q (Err e) (Ok r) is t = absurd t

  pub attach_waits : (gives : AttachGives R) (l new : LinksView R) (a : AttachModel) (asked : Option (AttachQuestion R))
      (result : Result (Unit {0}) SessionInnerError) → Attaches gives l a asked result new → Waits l a asked result new
  attach_waits gives l new a None (Ok u) t = absurd t
  attach_waits gives l new a None (Err e) t =
      record {
        names_are = λ q. ap (λ (x : LinksView R). map.get x.names q) t.1;
        same = λ q. ap
            (λ (x : LinksView R). handle_of (map.get x.names q)) t.1;
      }
  attach_waits gives l new a (Some q) result t = attach_answered l new a t.1.link q q.answer result t.1.is t.3

-- no link is live in a new session
pub agree_new : (R : Type 0) (hash : KeyHash) → Agree (no_links {R = R} hash)
agree_new R hash q h = (
  λ e. let x : None ≡ Some h = sym (ap handle_of (get-empty (slice_cmp nat_cmp) q)) ∙ e in absurd (cc),
  λ e. let x : None ≡ Some (Some q) = sym (get-empty nat_cmp h) ∙ e in absurd (cc),
)
