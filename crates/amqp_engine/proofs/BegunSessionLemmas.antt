-- A session that begins: it stands at the end of the list, or its channel is free as before.
use Rattle.std.proofs.Common.{◌≡◌, ℕ, List, [], ◌∷◌, ◌++◌, Bool, true, false, refl, ap, sym, ◌∙◌, Option, Some, None, Err, cond, is_some, nat_eq, arith, subst}
use Rattle.std.proofs.lemmas.Bool.Decides.{nat_tests}
use Rattle.std.specs.Map.{lookup}
use Rattle.std.specs.Cmp.{nat_cmp_total}
use Rattle.std.specs.Ordering.{nat_cmp, eq_by_cmp}
use Rattle.std.specs.FinMap.{same_map, nat_cmp-IsAntisymmetric, get-insert, get-remove}
use Rattle.std.specs.FinMap as map
use Rattle.indexmap.specs.IndexMap.{insert_entry}
use Rattle.amqp_memory.specs.Refusal.{SomeRefused}
use Rattle.amqp_types.specs.declared.states.SessionState.TheVariants.{Unmapped}
use Rattle.amqp_connection.specs.Channels.{ChannelTable}
use Rattle.amqp_connection.specs.declared.error.AllocSessionError.{AllocSessionError}
use Rattle.amqp_connection.specs.declared.error.AllocSessionError.TheVariants as full
use Rattle.amqp_connection.specs.Connection.{ConnectionView, AllocateStep, DeallocateStep, given_back}
use Rattle.amqp_session.specs.declared.error.SessionStateError.{SessionStateError}
use Rattle.amqp_session.specs.declared.error.SessionStateError.TheVariants as unbegun
use Rattle.amqp_session.specs.declared.stop.ConnectionStopReason.{ConnectionStopReason}
use Rattle.amqp_session.specs.Settings.{SettingsModel}
use Rattle.amqp_session.specs.declared.keys.KeyHash.{KeyHash}
use Rattle.amqp_session.specs.Session.{SessionView, new_session}
use Rattle.amqp_session.specs.States.{sends_begin}
use Rattle.amqp_session.specs.Step.{SendBeginStep}
use Rattle.amqp_session.proofs.FiniteMapLemmas.{same_test}

pub not_some : {X : Type 0} → (o : Option X) (b : Bool) → b ≡ is_some o → b ≡ false → o ≡ None
not_some None b e f = refl
not_some (Some x) b e f = cc

pub some_none : {X : Type 0} {x : X} → Some x ≡ None → ⊥
some_none e = cc

same_number : (n k : ℕ) → nat_eq n k ≡ true → n ≡ k
same_number n k p = grind (arith, nat_tests)

-- a key that was not there goes to the end
pub appended : {X : Type 0} (es : List (ℕ × X)) (n : ℕ) (x : X) → lookup (nat_eq n) es ≡ None → insert_entry nat_eq es n x ≡ es ++ (n, x) ∷ []
appended [] n x none = refl
appended (e ∷ es) n x none = by (λ h. appended es n x h) (nat_eq n e.0) refl
  where
    by : (lookup (nat_eq n) es ≡ None → insert_entry nat_eq es n x ≡ es ++ (n, x) ∷ []) → (b : Bool) → nat_eq n e.0 ≡ b → insert_entry nat_eq (e ∷ es) n x ≡ (e ∷ es) ++ (n, x) ∷ []
    by rest true p = absurd (some_none (sym (ap (λ b. cond b (Some e.1) (lookup (nat_eq n) es)) p) ∙ none))
    by rest false p = ap (λ b. cond b ((e.0, x) ∷ es) (e ∷ insert_entry nat_eq es n x)) p ∙ ap (λ xs. e ∷ xs) (rest (sym (ap (λ b. cond b (Some e.1) (lookup (nat_eq n) es)) p) ∙ none))

-- a channel that was free is free again
pub free_again : (m : ChannelTable) (c n : ℕ) → map.get m c ≡ None → map.remove (map.insert m c n) c ≡ m
free_again m c n none = same_map nat_cmp_total nat_cmp-IsAntisymmetric (map.remove (map.insert m c n) c) m
    (λ q. get-remove nat_cmp_total (map.insert m c n) c q ∙ ap (λ o. cond (eq_by_cmp nat_cmp q c) None o) (get-insert nat_cmp_total m c n q) ∙ ap (λ b. cond b None (cond b (Some n) (map.get m q))) (same_test q c) ∙ by q (nat_eq q c) refl)
  where
    by : (q : ℕ) (b : Bool) → nat_eq q c ≡ b → cond (nat_eq q c) None (cond (nat_eq q c) (Some n) (map.get m q)) ≡ map.get m q
    by q true p = rw p (sym (ap (λ x. map.get m x) (same_number q c p) ∙ none))
    by q false p = rw p refl

-- the session of that channel is there
pub held_now : (m : ChannelTable) (c n : ℕ) → map.get (map.insert m c n) c ≡ Some n
held_now m c n =
    let here : nat_eq c c ≡ true = grind (arith, nat_tests) in
    get-insert nat_cmp_total m c n c ∙ ap (λ b. cond b (Some n) (map.get m c)) (same_test c c ∙ here)

pub given_back_again : (v k w : ConnectionView) (c n : ℕ) (b : Bool) → map.get v.session_by_outgoing_channel c ≡ None → k ≡ record v { session_by_outgoing_channel = map.insert v.session_by_outgoing_channel c n } → DeallocateStep k c b w → w ≡ v
given_back_again v k w c n true none is d = d.1 ∙ ap (λ (x : ConnectionView). given_back x c) is ∙ ap (λ h. record v { session_by_outgoing_channel = h }) (free_again v.session_by_outgoing_channel c n none)
given_back_again v k w c n false none is d = absurd (some_none (sym (ap (λ (x : ConnectionView). map.get x.session_by_outgoing_channel c) is ∙ held_now v.session_by_outgoing_channel c n) ∙ d.0))

-- where no channel is given, the connection is as it was
pub unallocated : (v k : ConnectionView) (n : ℕ) (e : AllocSessionError) → AllocateStep v n (Err e) k → k ≡ v
unallocated v k n full.ConnectionNotOpened a = a.1
unallocated v k n (full.ConnectionStopped reason) a = a.2
unallocated v k n full.ChannelMaxReached a = a.2
unallocated v k n full.OutOfMemory a = a.2

-- a new session lacks nothing but memory for its Begin
pub begun_short : {R : Type 0} (hash : KeyHash) (settings : SettingsModel) (channel : ℕ) (stop : Option ConnectionStopReason) (v w : SessionView R) (e : SessionStateError)
    → v ≡ new_session hash settings channel Unmapped stop → SendBeginStep v (Err e) w → (e ≡ unbegun.OutOfMemory) × SomeRefused
begun_short hash settings channel stop v w unbegun.IllegalState is s = absurd (let none = subst (λ (x : SessionView _). sends_begin x.state ≡ None) is s.0 in cc)
begun_short hash settings channel stop v w unbegun.OutOfMemory is s = (refl, s.2)
begun_short hash settings channel stop v w e is s = absurd s
