-- What a relay answers is what the links answer, and they keep it as their table of input handles does.
use Rattle.std.proofs.Common.{◌≡◌, ℕ, List, IsSome, ap, sym, subst, ◌∙◌, nat_eq}
use Rattle.std.specs.Map.{lookup, set_value}
use Rattle.std.specs.FinMap.{from_entries}
use Rattle.amqp_session.specs.declared.keys.KeyHash.{KeyHash}
use Rattle.amqp_session.specs.declared.link.AttachedLink.{AttachedLink}
use Rattle.amqp_session.specs.Links.{LinksView, Names, Handles, attached_at, inputs_of, put_at}
use Rattle.amqp_session.specs.Relay.{Gives, Asked}
use Rattle.amqp_session.proofs.FiniteMapLemmas.{get_at, written}

module _ {R : Type 0} (hash : KeyHash) (names : Names R) (handles : Handles) (next : ℕ) where
  abbrev pub with_inputs : List (ℕ × AttachedLink R) → LinksView R
  with_inputs es = record { hash = hash; names = names; handles = handles; inputs = inputs_of es; next = next }

  -- a relay that the links have is in the table
  pub in_table : (v : LinksView R) (es : List (ℕ × AttachedLink R)) (h : ℕ) → with_inputs es ≡ v → IsSome (attached_at h v) →
      IsSome (lookup (nat_eq h) es)
  in_table v es h is some = subst IsSome (ap (attached_at h) (sym is) ∙ get_at es h) some

  pub asked : {Q A : Type 0} (gives : Gives R Q A) (old new : List (ℕ × AttachedLink R)) (h : ℕ) (q : Q) (answer : A) → IsSome (lookup (nat_eq h) old) →
      Asked gives (lookup (nat_eq h) old) q answer (λ link. new ≡ set_value (nat_eq h) old link) →
      Asked gives (attached_at h (with_inputs old)) q answer (λ link. with_inputs new ≡ put_at h link (with_inputs old))
  asked gives old new h q answer there a = record {
    handle = a.handle;
    before = a.before;
    after = a.after;
    attached = get_at old h ∙ a.attached;
    stands = a.stands;
    put = ap (λ m. record { hash = hash; names = names; handles = handles; inputs = m; next = next }) (ap (λ es. from_entries es) a.put ∙ written old h _ there);
  }
