-- How output handles are taken after each call for links.
use Rattle.std.proofs.Common.{◌≡◌, ℕ, List, Some, None, Bool, true, false, cond, nat_eq, arith, refl, ap, sym, ◌∙◌}
use Rattle.std.proofs.lemmas.Bool.Decides.{nat_tests}
use Rattle.std.proofs.lemmas.Grind.{common_steps}
use Rattle.std.specs.Ordering.{nat_cmp}
use Rattle.std.specs.Cmp.{nat_cmp_total}
use Rattle.std.specs.FinMap as map
use Rattle.std.specs.FinMap.{get-insert, get-remove}
use Rattle.amqp_session.specs.Links.{LinksView, Handles}
use Rattle.amqp_session.specs.Linking.{live_name, is_awaited, awaits, Releases, Leaves, dropped}
use Rattle.amqp_session.specs.Linked.{HandleUse, without_live, left_by_detach, answered}
use Rattle.amqp_session.proofs.FiniteMapLemmas.{same_test}

pub at_insert : {X : Type 0} → (m : map.FinMap nat_cmp X) (h k : ℕ) (x : X) → map.get (map.insert m h x) k ≡ cond (nat_eq k h) (Some x) (map.get m k)
at_insert m h k x = get-insert nat_cmp_total m h x k ∙ ap (λ b. cond b (Some x) (map.get m k)) (same_test k h)

pub at_remove : {X : Type 0} → (m : map.FinMap nat_cmp X) (h k : ℕ) → map.get (map.remove m h) k ≡ cond (nat_eq k h) None (map.get m k)
at_remove m h k = get-remove nat_cmp_total m h k ∙ ap (λ b. cond b None (map.get m k)) (same_test k h)

-- a change at one handle, by what was there
changed : (m : Handles) (h k : ℕ) (f : HandleUse → HandleUse) (x : HandleUse) → f (map.get m h) ≡ x → cond (nat_eq k h) x (map.get m k) ≡ cond (nat_eq k h) (f (map.get m k)) (map.get m k)
changed m h k f x e = by (nat_eq k h) refl
  where
    by : (b : Bool) → nat_eq k h ≡ b → cond b x (map.get m k) ≡ cond b (f (map.get m k)) (map.get m k)
    by true t = let is : h ≡ k = grind (arith, nat_tests, common_steps) in sym e ∙ ap (λ n. f (map.get m n)) is
    by false t = refl

unchanged : (m : Handles) (h k : ℕ) (f : HandleUse → HandleUse) → f (map.get m h) ≡ map.get m h → map.get m k ≡ cond (nat_eq k h) (f (map.get m k)) (map.get m k)
unchanged m h k f e = by (nat_eq k h) refl
  where
    by : (b : Bool) → nat_eq k h ≡ b → map.get m k ≡ cond b (f (map.get m k)) (map.get m k)
    by true t = let is : h ≡ k = grind (arith, nat_tests, common_steps) in ap (map.get m) (sym is) ∙ sym e ∙ ap (λ n. f (map.get m n)) is
    by false t = refl

live_gone : (o : HandleUse) (name : List ℕ) → live_name o ≡ Some name → without_live o ≡ None
live_gone None name e = refl
live_gone (Some None) name e = absurd (cc)
live_gone (Some (Some n)) name e = refl

pub not_live_stays : (o : HandleUse) → live_name o ≡ None → without_live o ≡ o
not_live_stays None e = refl
not_live_stays (Some None) e = refl
not_live_stays (Some (Some n)) e = absurd (cc)

live_left : (o : HandleUse) (name : List ℕ) → live_name o ≡ Some name → left_by_detach true o ≡ Some None
live_left None name e = absurd (cc)
live_left (Some None) name e = refl
live_left (Some (Some n)) name e = refl

pub not_live_left : (b : Bool) (o : HandleUse) → live_name o ≡ None → left_by_detach b o ≡ o
not_live_left b None e = refl
not_live_left b (Some None) e = refl
not_live_left b (Some (Some n)) e = absurd (cc)

released_is_left : (o : HandleUse) → without_live o ≡ left_by_detach false o
released_is_left None = refl
released_is_left (Some None) = refl
released_is_left (Some (Some n)) = refl

pub taken_release : {R : Type 0} → (l new : LinksView R) (h k : ℕ) (was : Bool) → Releases l h was new → map.get new.handles k ≡ cond (nat_eq k h) (without_live (map.get l.handles k)) (map.get l.handles k)
taken_release l new h k true r = ap (λ (x : LinksView _). map.get x.handles k) r.2 ∙ at_remove l.handles h k ∙ changed l.handles h k without_live None (live_gone (map.get l.handles h) r.0 r.1)
taken_release l new h k false r = ap (λ (x : LinksView _). map.get x.handles k) r.1 ∙ unchanged l.handles h k without_live (not_live_stays (map.get l.handles h) r.0)

pub taken_leave : {R : Type 0} → (l new : LinksView R) (h k : ℕ) (expects_echo went : Bool) → Leaves l h expects_echo went new → map.get new.handles k ≡ cond (nat_eq k h) (left_by_detach expects_echo (map.get l.handles k)) (map.get l.handles k)
taken_leave l new h k true true r = ap (λ (x : LinksView _). map.get x.handles k) r.2 ∙ at_insert l.handles h k None ∙ changed l.handles h k (left_by_detach true) (Some None) (live_left (map.get l.handles h) r.0 r.1)
taken_leave l new h k true false r = ap (λ (x : LinksView _). map.get x.handles k) r.1 ∙ unchanged l.handles h k (left_by_detach true) (not_live_left true (map.get l.handles h) r.0)
taken_leave l new h k false true r = taken_release l new h k r.0 r.1 ∙ ap (λ o. cond (nat_eq k h) o (map.get l.handles k)) (released_is_left (map.get l.handles k))
taken_leave l new h k false false r = absurd r

taken_answer : (m : Handles) (h k : ℕ) (b : Bool) → is_awaited (map.get m h) ≡ b → map.get (cond b (map.remove m h) m) k ≡ cond (nat_eq k h) (answered (map.get m k)) (map.get m k)
taken_answer m h k true e = at_remove m h k ∙ changed m h k answered None (by (map.get m h) e)
  where
    by : (o : HandleUse) → is_awaited o ≡ true → answered o ≡ None
    by None x = refl
    by (Some None) x = refl
    by (Some (Some n)) x = absurd (cc)
taken_answer m h k false e = unchanged m h k answered (by (map.get m h) e)
  where
    by : (o : HandleUse) → is_awaited o ≡ false → answered o ≡ o
    by None x = refl
    by (Some None) x = absurd (cc)
    by (Some (Some n)) x = refl

pub taken_drop : {R : Type 0} → (l : LinksView R) (i h k : ℕ) → map.get (dropped i h l).handles k ≡ cond (nat_eq k h) (answered (map.get l.handles k)) (map.get l.handles k)
taken_drop l i h k = taken_answer l.handles h k (awaits h l) refl
