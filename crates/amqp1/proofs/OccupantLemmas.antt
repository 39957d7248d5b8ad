-- The links of sessions, in a map of which one value is lent.
use Rattle.std.proofs.Common.{◌≡◌, ℕ, List, Option, Some, None, true, false, IsSome, refl, sym, subst, ap, ◌∙◌, nat_eq, is_some}
use Rattle.std.specs.FinMap.{get, insert, from_entries}
use Rattle.std.specs.Map.{lookup, set_value}
use Rattle.std.specs.Ordering.{nat_cmp}
use Rattle.amqp_session.proofs.FiniteMapLemmas.{get_at, written}
use Rattle.amqp_endpoints.specs.Endpoint.{EndpointView, new_endpoint}
use Rattle.amqp1.specs.ClientView.{ClientView}
use Rattle.amqp1.specs.Occupant.{Provides, ProvidesBy, credit_at, links_of}
use Rattle.amqp1.specs.OccupantView.{OccupantView}

-- the entries of its map
abbrev Entries : Type 0
Entries = List (ℕ × EndpointView)

-- what a session has, by the map's entries
pub links_at : (o : OccupantView) (es : Entries) (n : ℕ) (r : Option EndpointView) → o.links ≡ from_entries es → lookup (nat_eq n) es ≡ r → links_of o n ≡ r
links_at o es n r is there = ap (λ m. get m n) is ∙ get_at es n ∙ there

pub credit_is : (o : OccupantView) (es : Entries) (n h x : ℕ) (r : Option EndpointView) → o.links ≡ from_entries es → lookup (nat_eq n) es ≡ r → x ≡ credit_at r h
    → x ≡ credit_at (links_of o n) h
credit_is o es n h x r is there e = e ∙ sym (ap (λ l. credit_at l h) (links_at o es n r is there))

provided_by : (r : Option EndpointView) (o : OccupantView) (n : ℕ) → is_some r ≡ true → ProvidesBy r o n o
provided_by None o n h = absurd cc
provided_by (Some v) o n h = refl

pub provided : (o : OccupantView) (es : Entries) (n : ℕ) → o.links ≡ from_entries es → is_some (lookup (nat_eq n) es) ≡ true → Provides o n o
provided o es n is h = provided_by (links_of o n) o n (ap is_some (links_at o es n _ is refl) ∙ h)

none_there : (r : Option EndpointView) → is_some r ≡ false → r ≡ None
none_there None h = refl
none_there (Some v) h = absurd cc

pub provided_anew : (o : OccupantView) (es new : Entries) (n : ℕ) (v : EndpointView) (c : ClientView) → o ≡ record { client = c; links = from_entries es }
    → is_some (lookup (nat_eq n) es) ≡ false → v ≡ new_endpoint (record { 0 = n }) → from_entries {R = nat_cmp} new ≡ insert (from_entries es) n v
    → Provides o n (record { client = c; links = from_entries new })
provided_anew o es new n v c is h made put = subst (λ r. ProvidesBy r o n (record { client = c; links = from_entries new }))
    (sym (links_at o es n _ (ap (λ x. x.links) is) refl ∙ none_there _ h))
    (ap (λ m. record { client = c; links = m }) (put ∙ ap (insert (from_entries es) n) made)
    ∙ ap (λ (x : OccupantView). record x { links = insert x.links n (new_endpoint (record { 0 = n })) }) (sym is))

-- ---- what is said of what a session has, by the map's entries

pub found_there : (F : Option EndpointView → OccupantView → Type 0) (n : ℕ) (o : OccupantView) (c : ClientView) (es : Entries) (r : Option EndpointView)
    → o ≡ record { client = c; links = from_entries es } → lookup (nat_eq n) es ≡ r → F r (record { client = c; links = from_entries es }) → F (links_of o n) o
found_there F n o c es r is there x = subst (λ (y : OccupantView). F (links_of y n) y) (sym is)
    (subst (λ q. F q (record { client = c; links = from_entries es })) (sym (links_at (record { client = c; links = from_entries es }) es n r refl there)) x)

-- the value of a key that has one is written over, in the map of these entries
pub lent : (es new : Entries) (n : ℕ) (v w : EndpointView) → lookup (nat_eq n) es ≡ Some v → new ≡ set_value (nat_eq n) es w
    → from_entries {R = nat_cmp} new ≡ insert (from_entries es) n w
lent es new n v w there e = ap from_entries e ∙ written es n w (subst IsSome (sym there) refl)
