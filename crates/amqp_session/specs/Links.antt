-- Part: every call exactly; inner.
-- What contracts see of a session's links (AMQP 1.0 part 2, section 2.6).
use Rattle.std.specs.Prelude.{ℕ, List, Option, Some, None, refl, string_bytes, String, map as each}
use Rattle.amqp_session.specs.declared.link.handles.HandleSlot.{HandleSlot}
use Rattle.amqp_session.specs.declared.link.handles.HandleSlot.TheVariants.{Live, Awaited}
use Rattle.slab.specs.Slab as slab
use Rattle.slab.specs.Slab.{Slab}
use Rattle.std.specs.Ordering.{nat_cmp}
use Rattle.std.specs.Cmp.Lexicographic.{slice_cmp}
use Rattle.std.specs.FinMap as map
use Rattle.std.specs.Coded.{Coded, code_by, coded×, coded_ℕ, coded_list, coded_option}
use Rattle.amqp_session.specs.declared.keys.KeyHash.{KeyHash}
use Rattle.amqp_session.specs.Hashing.{hash_code}
use Rattle.amqp_session.specs.declared.link.AttachedLink.{AttachedLink}
use Rattle.amqp_session.specs.declared.link.LiveLink.{LiveLink}
use Rattle.amqp_session.specs.declared.numbers.InputHandle.{InputHandle}

-- the live links by name, each with its output handle, the relay that waits for the peer's attach, if any, and the input handle of the
-- peer's last attach
abbrev pub Names : Type 0 → Type 0
Names R = map.FinMap (slice_cmp nat_cmp) (LiveLink R)

-- The output handles that are taken, each with the name of its live link; or with none, where the link is gone and the peer's
-- answer to its detach is awaited.
abbrev pub Handles : Type 0
Handles = map.FinMap nat_cmp (Option (List ℕ))

-- the relays that are attached, by input handle, each with the output handle of its link
abbrev pub Inputs : Type 0 → Type 0
Inputs R = map.FinMap nat_cmp (AttachedLink R)

pub record LinksView (R : Type 0) : Type 0 where
  pub hash : KeyHash  -- by which names and input handles are found
  pub names : Names R
  pub handles : Handles
  pub inputs : Inputs R
  pub next : ℕ  -- the output handle that is given out next

abbrev pub no_links : {R : Type 0} → KeyHash → LinksView R
no_links hash = record { hash = hash; names = map.empty; handles = map.empty; inputs = map.empty; next = 0 }

-- the relay under an input handle, with the output handle of its link
abbrev pub attached_at : {R : Type 0} → ℕ → LinksView R → Option (AttachedLink R)
attached_at h v = map.get v.inputs h

-- the relay under an input handle goes on to another state
abbrev pub put_at : {R : Type 0} → ℕ → AttachedLink R → LinksView R → LinksView R
put_at h a v = record v { inputs = map.insert v.inputs h a }

-- ---- the maps that the code's tables are

abbrev pub names_of : {R Z : Type 0} → List (String Z × LiveLink R) → Names R
names_of es = map.from_entries (each (λ e. (string_bytes e.0, e.1)) es)

-- what is known of a place: the name of the handle's live link, or none
abbrev pub place_name : HandleSlot → Option (List ℕ)
place_name (Live name) = Some (string_bytes name)
place_name Awaited = None

abbrev pub handles_of : Slab HandleSlot → Handles
handles_of s = map.from_entries (each (λ e. (e.0, place_name e.1)) (slab.entries s))

abbrev pub inputs_of : {R : Type 0} → List (ℕ × AttachedLink R) → Inputs R
inputs_of es = map.from_entries es

-- ---- codes: a link is stored as the tuple of its parts, and so is each map

abbrev pub input_code : Coded InputHandle
input_code = code_by ℕ coded_ℕ (λ i. i.0) (λ n. record { 0 = n }) (λ _. refl)

abbrev pub named_code : {R : Type 0} → Coded R → Coded (LiveLink R)
named_code {R} code =
    code_by (ℕ × (Option R × Option InputHandle)) (coded× coded_ℕ (coded× (coded_option code) (coded_option input_code)))
    (λ n. (n.handle.0, (n.waiting, n.input)))
    (λ p. record { handle = record { 0 = p.0 }; waiting = p.1.0; input = p.1.1 }) (λ _. refl)

abbrev pub attached_code : {R : Type 0} → Coded R → Coded (AttachedLink R)
attached_code {R} code =
    code_by (ℕ × R) (coded× coded_ℕ code) (λ a. (a.handle.0, a.relay))
    (λ p. record { handle = record { 0 = p.0 }; relay = p.1 }) (λ _. refl)

abbrev pub names_code : {R : Type 0} → Coded R → Coded (Names R)
names_code code = map.code (coded_list coded_ℕ) (named_code code)

abbrev pub handles_code : Coded Handles
handles_code = map.code coded_ℕ (coded_option (coded_list coded_ℕ))

abbrev pub inputs_code : {R : Type 0} → Coded R → Coded (Inputs R)
inputs_code code = map.code coded_ℕ (attached_code code)

abbrev pub links_code : {R : Type 0} → Coded R → Coded (LinksView R)
links_code {R} code =
    code_by (KeyHash × (Names R × (Handles × (Inputs R × ℕ))))
    (coded× hash_code (coded× (names_code code) (coded× handles_code (coded× (inputs_code code) coded_ℕ))))
    (λ l. (l.hash, (l.names, (l.handles, (l.inputs, l.next)))))
    (λ p. record { hash = p.0; names = p.1.0; handles = p.1.1.0; inputs = p.1.1.1.0; next = p.1.1.1.1 }) (λ _. refl)
