-- A transfer that goes out alone.
use Rattle.std.proofs.Common.{◌≡◌, refl, ap, ◌∙◌, ℕ, zero, suc, ◌<◌, ◌^◌, ◌%◌, ◌∷◌, [], ◌++◌, true, List, take, Option, Some, None, arith}
use Rattle.std.specs.Option.{option_map}
use Rattle.amqp_types.specs.declared.definitions.DeliveryTag.{DeliveryTag}
use Rattle.amqp_session.specs.declared.deliveries.Delivery.{Delivery}
use Rattle.amqp_session.specs.declared.numbers.InputHandle.{InputHandle}
use Rattle.amqp_session.specs.Deliveries.{with_record}
use Rattle.amqp_session.specs.Transfers.{RequestedTransfer, kept_tag, opened, numbered}
use Rattle.amqp_session.specs.Step.{is_some_held}

-- the record of its delivery, under the tag that was kept
abbrev pub delivery_of : ℕ → InputHandle → DeliveryTag → Delivery
delivery_of n input t = record { number = n; input_handle = input; tag = t }

-- a window that is not used up lets it out
take_one : (w : ℕ) (h : RequestedTransfer) → h ∷ [] ≡ take (suc w) (h ∷ [])
take_one zero h = refl
take_one (suc w) h = refl

-- the number is below 2 ^ 32 already
pub opened_alone : (n w : ℕ) (h : RequestedTransfer) (tag : Option DeliveryTag) (rows : List Delivery) → n < 2 ^ 32 → 0 < w →
    option_map (λ (t : DeliveryTag). t.0) tag ≡ kept_tag h.is_first h.transfer →
    with_record (option_map (delivery_of n (record { 0 = h.input_handle })) tag) rows ≡ opened n (take w (h ∷ [])) rows
opened_alone n zero h tag rows ln lw e = elim lw [ ]
opened_alone n (suc w) h None rows ln lw e =
    ap (λ k. with_record (option_map (λ (t : List ℕ). delivery_of (n % 2 ^ 32) (record { 0 = h.input_handle }) (record { 0 = t })) k) rows) e
    ∙ ap (λ hs. opened n hs rows) (take_one w h)
opened_alone n (suc w) h (Some t) rows ln lw e =
    let m : n ≡ n % 2 ^ 32 = omega (arith, ln) in
    ap (λ k. with_record (Some (delivery_of k (record { 0 = h.input_handle }) t)) rows) m
    ∙ ap (λ k. with_record (option_map (λ (t : List ℕ). delivery_of (n % 2 ^ 32) (record { 0 = h.input_handle }) (record { 0 = t })) k) rows) e
    ∙ ap (λ hs. opened n hs rows) (take_one w h)

-- A transfer that goes out after others, one at least, does not go out alone.
pub goes_after : (c n w : ℕ) (hs : List RequestedTransfer) (h : RequestedTransfer) → (hs ≡ [] → w ≡ 0) → ¬ (w ≡ 0) →
    (is_some_held hs ≡ true) × ¬ (numbered c n (take w (hs ++ h ∷ [])) ≡ [])
goes_after c n w [] h waits lets = absurd (lets (waits refl))
goes_after c n zero (x ∷ xs) h waits lets = absurd (lets refl)
goes_after c n (suc w) (x ∷ xs) h waits lets = (refl, λ e. absurd (cc))
