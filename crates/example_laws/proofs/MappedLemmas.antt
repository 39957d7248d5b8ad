-- A transfer that is done was asked in Mapped, by the headline.
use Rattle.std.proofs.Common.{◌≡◌, ℕ, List, [], ◌∷◌, ◌++◌, Bool, true, cond, Option, Some, None, Result, Ok, Err, nat_eq, refl, ap, sym, ◌∙◌, subst, arith}
use Rattle.std.proofs.lemmas.Bool.Decides.{nat_tests}
use Rattle.std.proofs.lemmas.List.Concat.{flat_map-cons}
use Rattle.std.proofs.lemmas.Grind.{flat_map-append}
use Rattle.fe2o3_amqp.specs.amqp_types.declared.states.ConnectionState.{ConnectionState}
use Rattle.fe2o3_amqp.specs.amqp_types.Open.{OpenModel}
use Rattle.fe2o3_amqp.specs.amqp_session.declared.error.SessionInnerError.{SessionInnerError}
use Rattle.fe2o3_amqp.specs.amqp_session.declared.frame.SessionOutgoingItem.{SessionOutgoingItem}
use Rattle.fe2o3_amqp.specs.amqp_session.History.{Made, SessionCall, SendsTransfer}
use Rattle.fe2o3_amqp.specs.amqp_session.Transfers.{RequestedTransfer}
use Rattle.fe2o3_amqp.specs.amqp_engine.Entry.{Entry}
use Rattle.fe2o3_amqp.specs.amqp_engine.Event.{is_number}
use Rattle.fe2o3_amqp.specs.amqp_engine.ByHistory.{begun, calls_at, live, of_session, session_state}
use Rattle.fe2o3_amqp.specs.amqp_engine.Calls.{names, session_refusal}
use Rattle.fe2o3_amqp.specs.amqp_engine.Headline.{Asked, Headline, ReachesNamed, asked_calls}
use Rattle.example_laws.specs.Mapped.{DoneInMapped, WasMapped}

some_none : {X : Type 0} {x : X} → Some x ≡ None → ⊥
some_none e = cc

-- what is done was not refused
reached : {R : Type 0} (m : Option Made) (n : ℕ) (e : Entry R) → e.refusal ≡ None → ReachesNamed m n e → e.reached ≡ Some n
reached None n e done r = absurd (some_none (sym r.1 ∙ done))
reached (Some m) n e done r = r.0

accepted : (a : Result (Option SessionOutgoingItem) SessionInnerError) → session_refusal a ≡ None → (item : Option SessionOutgoingItem) × (a ≡ Ok item)
accepted (Ok item) e = (item, refl)
accepted (Err x) e = absurd (some_none e)

none_there : {X : Type 0} (xs ys : List X) (y : X) → xs ++ y ∷ ys ≡ [] → ⊥
none_there [] ys y e = let h : y ∷ ys ≡ [] = e in cc
none_there (x ∷ xs) ys y e = let h : x ∷ (xs ++ y ∷ ys) ≡ [] = e in cc

-- the calls of a session, with those of one entry in between
parted : {R : Type 0} (n : ℕ) (H before after : List (Entry R)) (e : Entry R) (c : SessionCall R) → H ≡ before ++ e ∷ after → e.reached ≡ Some n → e.calls ≡ c ∷ []
    → of_session n H ≡ of_session n before ++ c ∷ of_session n after
parted n H before after e c is r calls =
    let yes : nat_eq n n ≡ true = grind (arith, nat_tests) in
    let here : calls_at n e ≡ c ∷ [] = ap (λ o. cond (is_number n o) e.calls []) r ∙ ap (λ b. cond b e.calls []) yes ∙ calls in
    ap (of_session n) is ∙ flat_map-append (calls_at n) before (e ∷ after)
    ∙ ap (λ xs. of_session n before ++ xs) (flat_map-cons (calls_at n) e after ∙ ap (λ (xs : List (SessionCall _)). xs ++ of_session n after) here)

pub done_in_mapped : {R : Type 0} (s : ConnectionState) (o : OpenModel) (H : List (Entry R)) → Headline s o H → DoneInMapped s H
done_in_mapped s o H head before after e is n h t payload first asks done = by (begun s n.0 H) refl
  where
    request : RequestedTransfer
    request = record { input_handle = h.0; transfer = t; payload = payload; is_first = first }

    reaches : e.reached ≡ Some n.0
    reaches = reached (live s n.0 before) n.0 e done (head.requests_reach before after e is n.0 (ap names asks) (λ w. some_none (sym w ∙ done)) (λ w. some_none (sym w ∙ done)))

    asked : (a : Result (Option SessionOutgoingItem) SessionInnerError) × (e.calls ≡ SendsTransfer request a ∷ []) × (e.refusal ≡ session_refusal a)
    asked = subst (λ i. asked_calls i e.received (session_state n.0 before) e.calls e.refusal) asks
        (subst (λ r. Asked before r e) reaches (head.all_asked before after e is) (λ w. some_none (sym w ∙ done)))

    taken : (item : Option SessionOutgoingItem) × (asked.0 ≡ Ok item)
    taken = accepted asked.0 (sym asked.2 ∙ done)

    split : of_session n.0 H ≡ of_session n.0 before ++ SendsTransfer request (Ok taken.0) ∷ of_session n.0 after
    split = parted n.0 H before after e (SendsTransfer request (Ok taken.0)) is reaches (asked.1 ∙ ap (λ a. SendsTransfer request a ∷ []) taken.1)

    by : (b : Option Made) → begun s n.0 H ≡ b → WasMapped s n.0 H before
    by None b = absurd (none_there (of_session n.0 before) (of_session n.0 after) (SendsTransfer request (Ok taken.0)) (sym split ∙ head.unknown n.0 b))
    by (Some m) b = (m, b, ((head.each n.0 m b).all_answered (of_session n.0 before) (of_session n.0 after) request (Ok taken.0) split).0)
