-- Channels and routes are what the history says; what is held or routed is a session that is there, and no session holds two
-- channels.
use Rattle.std.proofs.Common.{◌≡◌, ◌⊎◌, ℕ, List, [], ◌∷◌, Option, Some, None, refl, ap, sym, subst, ◌∙◌, inl, inr, cond, nat_eq, Bool, true, false, arith}
use Rattle.std.proofs.lemmas.Bool.Decides.{nat_tests}
use Rattle.std.specs.Map.{lookup}
use Rattle.std.specs.FinMap as map
use Rattle.std.specs.FinMap.{get-empty}
use Rattle.std.specs.Ordering.{nat_cmp}
use Rattle.amqp_types.specs.declared.states.ConnectionState.{ConnectionState}
use Rattle.amqp_types.specs.Open.{OpenModel}
use Rattle.amqp_session.specs.Settings.{SettingsModel}
use Rattle.amqp_session.specs.Relay.{Relays}
use Rattle.amqp_session.specs.declared.keys.KeyHash.{KeyHash}
use Rattle.amqp_session.specs.Session.{SessionView, new_session}
use Rattle.amqp_session.specs.History as session
use Rattle.amqp_session.proofs.CallEffectLemmas.{Rest, does}
use Rattle.amqp_types.specs.declared.states.SessionState.TheVariants.{Unmapped}
use Rattle.amqp_connection.specs.Channels.{ChannelTable}
use Rattle.amqp_connection.specs.Connection.{ConnectionView, Holds}
use Rattle.amqp_engine.specs.EngineView.{EngineView, new_engine}
use Rattle.amqp_engine.specs.Entry.{Entry}
use Rattle.amqp_engine.specs.Event.{Event, Quiet, SentOpen, SentClose, AcceptedOpen, CameClose, Began, Released, Forgot, Routed, Unrouted, event, is_number}
use Rattle.amqp_engine.proofs.BareHistoryLemmas.{OutputTaken, Chain, LeadsTo}
use Rattle.amqp_engine.specs.ByHistory.{calls_at, forgotten_by, held_by, held, route_by, route}
use Rattle.amqp_engine.specs.Inner.ByHistory.{held_from, route_from}
use Rattle.amqp_engine.specs.Inner.Headline.{HeldOnce}
use Rattle.amqp_connection.proofs.HistoryLemmas.{inserted_at, removed_at, went}
use Rattle.amqp_engine.proofs.BegunSessionLemmas.{some_none}
use Rattle.amqp_engine.proofs.StepEffectLemmas.{Moved, Effect, Forgets, NoneMoves}
use Rattle.amqp_engine.proofs.StepChainLemmas.{Passage, passage, by_history, came}
use Rattle.amqp_engine.proofs.SessionProjectionLemmas.{same_number, same_some, at_end, not_gone, one}

abbrev pub IsThere : {R : Type 0} → EngineView R → ℕ → Type 0
IsThere v n = (s : SessionView _) × (lookup (nat_eq n) v.sessions ≡ Some s)

same_value : (a b : ℕ) → Some a ≡ Some b → a ≡ b
same_value a b e = cc

-- ---- one more channel, or one less

-- what one more holds, it or an older one does
more_at : (m : ChannelTable) (c k q n : ℕ) → map.get (map.insert m c k) q ≡ Some n → ((q ≡ c) × (n ≡ k)) ⊎ (map.get m q ≡ Some n)
more_at m c k q n e = by (nat_eq q c) refl
  where
    by : (b : Bool) → nat_eq q c ≡ b → ((q ≡ c) × (n ≡ k)) ⊎ (map.get m q ≡ Some n)
    by true p = inl (same_number q c p, sym (same_value k n (sym (inserted_at m c k q ∙ ap (λ b. cond b (Some k) (map.get m q)) p) ∙ e)))
    by false p = inr (sym (inserted_at m c k q ∙ ap (λ b. cond b (Some k) (map.get m q)) p) ∙ e)

less_at : (m : ChannelTable) (c q n : ℕ) → map.get (map.remove m c) q ≡ Some n → map.get m q ≡ Some n
less_at m c q n e = by (nat_eq q c) refl
  where
    by : (b : Bool) → nat_eq q c ≡ b → map.get m q ≡ Some n
    by true p = absurd (some_none (sym (sym (removed_at m c q ∙ ap (λ b. cond b None (map.get m q)) p) ∙ e)))
    by false p = sym (removed_at m c q ∙ ap (λ b. cond b None (map.get m q)) p) ∙ e

-- ---- how an event moves the channels and the routes

pub record Kept-held (v : ConnectionView) (ev : Event) (w : ConnectionView) : Type 0 where
  pub held_is : w.session_by_outgoing_channel ≡ v.session_by_outgoing_channel
  pub said : (c : ℕ) (old : Option ℕ) → held_by c ev old ≡ old

pub record More-held (v : ConnectionView) (ev : Event) (w : ConnectionView) : Type 0 where
  pub number : ℕ
  pub settings : SettingsModel
  pub channel : ℕ
  pub is : ev ≡ Began number settings channel
  pub held_is : w.session_by_outgoing_channel ≡ map.insert v.session_by_outgoing_channel channel number

pub record Less-held (v : ConnectionView) (ev : Event) (w : ConnectionView) : Type 0 where
  pub number : ℕ
  pub channel : ℕ
  pub is : ev ≡ Released number
  pub holds : Holds v channel number
  pub held_is : w.session_by_outgoing_channel ≡ map.remove v.session_by_outgoing_channel channel

abbrev MovesHeld : ConnectionView → Event → ConnectionView → Type 0
MovesHeld v ev w = Kept-held v ev w ⊎ (More-held v ev w ⊎ Less-held v ev w)

H : (x y : ConnectionView) → x ≡ y → x.session_by_outgoing_channel ≡ y.session_by_outgoing_channel
H x y e = ap (λ (z : ConnectionView). z.session_by_outgoing_channel) e

moves_held : (v w : ConnectionView) (ev : Event) → Moved v ev w → MovesHeld v ev w
moves_held v w Quiet m = inl (record { held_is = H w _ (went v w m.calls _ m.happens m.chain); said = λ c old. refl })
moves_held v w SentOpen m = inl (record { held_is = H w _ (went v w m.calls _ m.happens m.chain); said = λ c old. refl })
moves_held v w (SentClose error) m = inl (record { held_is = H w _ (went v w m.calls _ m.happens m.chain); said = λ c old. refl })
moves_held v w (AcceptedOpen o) m = inl (record { held_is = H w _ (went v w m.calls _ m.happens m.chain); said = λ c old. refl })
moves_held v w (CameClose c) m = inl (record { held_is = H w _ (came v w c m); said = λ d old. refl })
moves_held v w (Began n settings c) m = inr (inl (record { number = n; settings = settings; channel = c; is = refl; held_is = H w _ (went v w m.calls _ m.happens m.chain) }))
moves_held v w (Released n) m = inr (inr (record { number = n; channel = m.happens.0; is = refl; holds = m.happens.1; held_is = H w _ (went v w m.calls _ m.happens.2 m.chain) }))
moves_held v w (Forgot n) m = inl (record { held_is = H w _ (went v w m.calls _ m.happens m.chain); said = λ d old. refl })
moves_held v w (Routed c n) m = inl (record { held_is = H w _ (went v w m.calls _ m.happens.2 m.chain); said = λ d old. refl })
moves_held v w (Unrouted c) m = inl (record { held_is = H w _ (went v w m.calls _ m.happens.1 m.chain); said = λ d old. refl })

pub record Kept-routes (v : ConnectionView) (ev : Event) (w : ConnectionView) : Type 0 where
  pub routes_are : w.session_by_incoming_channel ≡ v.session_by_incoming_channel
  pub said : (c : ℕ) (old : Option ℕ) → route_by c ev old ≡ old

pub record More-routes (v : ConnectionView) (ev : Event) (w : ConnectionView) : Type 0 where
  pub channel : ℕ
  pub number : ℕ
  pub is : ev ≡ Routed channel number
  pub holds : (d : ℕ) × (map.get v.session_by_outgoing_channel d ≡ Some number)
  pub routes_are : w.session_by_incoming_channel ≡ map.insert v.session_by_incoming_channel channel number

pub record Less-routes (v : ConnectionView) (ev : Event) (w : ConnectionView) : Type 0 where
  pub channel : ℕ
  pub is : ev ≡ Unrouted channel
  pub routes_are : w.session_by_incoming_channel ≡ map.remove v.session_by_incoming_channel channel

abbrev MovesRoutes : ConnectionView → Event → ConnectionView → Type 0
MovesRoutes v ev w = Kept-routes v ev w ⊎ (More-routes v ev w ⊎ Less-routes v ev w)

R' : (x y : ConnectionView) → x ≡ y → x.session_by_incoming_channel ≡ y.session_by_incoming_channel
R' x y e = ap (λ (z : ConnectionView). z.session_by_incoming_channel) e

moves_routes : (v w : ConnectionView) (ev : Event) → Moved v ev w → MovesRoutes v ev w
moves_routes v w Quiet m = inl (record { routes_are = R' w _ (went v w m.calls _ m.happens m.chain); said = λ c old. refl })
moves_routes v w SentOpen m = inl (record { routes_are = R' w _ (went v w m.calls _ m.happens m.chain); said = λ c old. refl })
moves_routes v w (SentClose error) m = inl (record { routes_are = R' w _ (went v w m.calls _ m.happens m.chain); said = λ c old. refl })
moves_routes v w (AcceptedOpen o) m = inl (record { routes_are = R' w _ (went v w m.calls _ m.happens m.chain); said = λ c old. refl })
moves_routes v w (CameClose c) m = inl (record { routes_are = R' w _ (came v w c m); said = λ d old. refl })
moves_routes v w (Began n settings c) m = inl (record { routes_are = R' w _ (went v w m.calls _ m.happens m.chain); said = λ d old. refl })
moves_routes v w (Released n) m = inl (record { routes_are = R' w _ (went v w m.calls _ m.happens.2 m.chain); said = λ d old. refl })
moves_routes v w (Forgot n) m = inl (record { routes_are = R' w _ (went v w m.calls _ m.happens m.chain); said = λ d old. refl })
moves_routes v w (Routed c n) m = inr (inl (record { channel = c; number = n; is = refl; holds = (m.happens.0, m.happens.1); routes_are = R' w _ (went v w m.calls _ m.happens.2 m.chain) }))
moves_routes v w (Unrouted c) m = inr (inr (record { channel = c; is = refl; routes_are = R' w _ (went v w m.calls _ m.happens.1 m.chain) }))

-- ---- what is held or routed is there

-- the session is there, and on this channel
abbrev pub IsOn : {R : Type 0} → EngineView R → ℕ → ℕ → Type 0
IsOn v n c = (s : SessionView _) × (lookup (nat_eq n) v.sessions ≡ Some s) × (s.outgoing_channel ≡ c)

-- no call moves a session to another channel
on_it_still : {R : Type 0} (g : Relays R) (cs : List (session.SessionCall R)) (s t : SessionView R) → session.SessionChain g s cs t → t.outgoing_channel ≡ s.outgoing_channel
on_it_still g [] s t c = ap (λ (x : SessionView _). x.outgoing_channel) c
on_it_still g (e ∷ cs) s t c = on_it_still g cs c.0 t c.2 ∙ ap (λ (x : Rest). x.outgoing_channel) (does g s c.0 e c.1).rest_is

pub record Kept {R : Type 0} (v : EngineView R) : Type 0 where
  pub known : (c n : ℕ) → map.get v.connection.session_by_outgoing_channel c ≡ Some n → IsOn v n c
  pub once : (c d n : ℕ) → map.get v.connection.session_by_outgoing_channel c ≡ Some n → map.get v.connection.session_by_outgoing_channel d ≡ Some n → c ≡ d
  pub routed : (c n : ℕ) → map.get v.connection.session_by_incoming_channel c ≡ Some n → IsThere v n

pub kept_taken : {R : Type 0} (v u : EngineView R) → OutputTaken v u → Kept v → Kept u
kept_taken v u t k =
    let held : u.connection.session_by_outgoing_channel ≡ v.connection.session_by_outgoing_channel = H u.connection v.connection t.connection_is in
    let routes : u.connection.session_by_incoming_channel ≡ v.connection.session_by_incoming_channel = R' u.connection v.connection t.connection_is in
    let there : (n : ℕ) → IsThere v n → IsThere u n = λ n x. (x.0, ap (lookup (nat_eq n)) t.sessions_is ∙ x.1) in
    let on : (c n : ℕ) → IsOn v n c → IsOn u n c = λ c n x. (x.0, ap (lookup (nat_eq n)) t.sessions_is ∙ x.1, x.2) in
    record {
      known = λ c n e. on c n (k.known c n (ap (λ (m : ChannelTable). map.get m c) (sym held) ∙ e));
      once = λ c d n e f. k.once c d n (ap (λ (m : ChannelTable). map.get m c) (sym held) ∙ e) (ap (λ (m : ChannelTable). map.get m d) (sym held) ∙ f);
      routed = λ c n e. there n (k.routed c n (ap (λ (m : ChannelTable). map.get m c) (sym routes) ∙ e));
    }

-- what a session is in use by: a channel that it holds, or a route to it
abbrev InUse : {R : Type 0} → EngineView R → ℕ → Type 0
InUse v n = ((c : ℕ) × (map.get v.connection.session_by_outgoing_channel c ≡ Some n)) ⊎ ((c : ℕ) × (map.get v.connection.session_by_incoming_channel c ≡ Some n))

-- one that is in use is not forgotten
in_use : {R : Type 0} (v w : EngineView R) (e : Entry R) (n : ℕ) → Kept v → (x : Forgets v e w) → InUse v n → nat_eq n x.number ≡ true → ⊥
in_use v w e n k x (inl h) p =
    let on = k.known h.0 n h.1 in
    let number = same_number n x.number p in
    let same : x.before ≡ on.0 = same_some x.before on.0 _ x.known (ap (λ q. lookup (nat_eq q) v.sessions) (sym number) ∙ on.1) in
    let channel : x.before.outgoing_channel ≡ h.0 = ap (λ (s : SessionView _). s.outgoing_channel) same ∙ on.2 in
    x.over.gave_back (ap (λ c. map.get v.connection.session_by_outgoing_channel c) channel ∙ h.1 ∙ ap (λ q. Some q) number)
in_use v w e n k x (inr h) p = x.over.unrouted h.0 (h.1 ∙ ap (λ q. Some q) (same_number n x.number p))

not_let_go : {R : Type 0} (g : Relays R) (v w : EngineView R) (e : Entry R) (n : ℕ) → Passage g v e w → Kept v → InUse v n → forgotten_by n (event e) false ≡ false
not_let_go g v w e n p k u = by p.effect
  where
    by : Effect g v e w → forgotten_by n (event e) false ≡ false
    by (inl x) = not_gone n (event e) false x.0
    by (inr (inl x)) = ap (λ ev. forgotten_by n ev false) x.event_is
    by (inr (inr x)) = apart (nat_eq n x.number) refl
      where
        apart : (b : Bool) → nat_eq n x.number ≡ b → forgotten_by n (event e) false ≡ false
        apart true t = absurd (in_use v w e n k x u t)
        apart false t = ap (λ ev. forgotten_by n ev false) x.event_is ∙ ap (λ b. cond b true false) t

-- sessions stay
stays : {R : Type 0} (g : Relays R) (v w : EngineView R) (e : Entry R) (n : ℕ) → Passage g v e w → forgotten_by n (event e) false ≡ false → IsThere v n → IsThere w n
stays g v w e n p r x = let a = one g n v w e x.0 p.effect x.1 in (a.0, a.1 ∙ ap (λ b. cond b None (Some a.0)) r)

stays_on : {R : Type 0} (g : Relays R) (v w : EngineView R) (e : Entry R) (n c : ℕ) → Passage g v e w → forgotten_by n (event e) false ≡ false → IsOn v n c → IsOn w n c
stays_on g v w e n c p r x = let a = one g n v w e x.0 p.effect x.1 in (a.0, a.1 ∙ ap (λ b. cond b None (Some a.0)) r, on_it_still g (calls_at n e) x.0 a.0 a.2 ∙ x.2)

-- a session that begins was not there, and is
same_began : (n k c d : ℕ) (s t : SettingsModel) → Began n s c ≡ Began k t d → n ≡ k
same_began n k c d s t e = cc

forgot_none : (k n : ℕ) (s : SettingsModel) (c : ℕ) → Forgot k ≡ Began n s c → ⊥
forgot_none k n s c e = cc

same_channel : (n k c d : ℕ) (s t : SettingsModel) → Began n s c ≡ Began k t d → c ≡ d
same_channel n k c d s t e = cc

begun_now : {R : Type 0} (g : Relays R) (v w : EngineView R) (e : Entry R) (n : ℕ) (settings : SettingsModel) (c : ℕ) → Passage g v e w → event e ≡ Began n settings c → (lookup (nat_eq n) v.sessions ≡ None) × IsOn w n c
begun_now g v w e n settings c p is = by p.effect
  where
    by : Effect g v e w → (lookup (nat_eq n) v.sessions ≡ None) × IsOn w n c
    by (inl x) = absurd (subst NoneMoves is x.0)
    by (inr (inr x)) = absurd (forgot_none x.number n settings c (sym x.event_is ∙ is))
    by (inr (inl x)) =
        let same : x.number ≡ n = same_began x.number n x.channel c x.settings settings (sym x.event_is ∙ is) in
        let absent : lookup (nat_eq n) v.sessions ≡ None = ap (λ k. lookup (nat_eq k) v.sessions) (sym same) ∙ x.absent in
        let here : nat_eq n x.number ≡ true = grind (arith, nat_tests, same) in (
          absent,
          (
            x.after,
            ap (lookup (nat_eq n)) x.sessions_is ∙ at_end v.sessions n x.number x.after absent ∙ ap (λ b. cond b (Some x.after) None) here,
            on_it_still g e.calls (new_session v.connection.hash x.settings x.channel Unmapped v.connection.stop_reason) x.after x.chain ∙ same_channel x.number n x.channel c x.settings settings (sym x.event_is ∙ is),
          ),
        )

held_known : {R : Type 0} (g : Relays R) (v w : EngineView R) (e : Entry R) → Passage g v e w → Kept v → MovesHeld v.connection (event e) w.connection → (c n : ℕ) → map.get w.connection.session_by_outgoing_channel c ≡ Some n → IsOn w n c
held_known g v w e p k (inl x) c n h = let was = ap (λ (m : ChannelTable). map.get m c) (sym x.held_is) ∙ h in stays_on g v w e n c p (not_let_go g v w e n p k (inl (c, was))) (k.known c n was)
held_known g v w e p k (inr (inl x)) c n h = by (more_at v.connection.session_by_outgoing_channel x.channel x.number c n (ap (λ (m : ChannelTable). map.get m c) (sym x.held_is) ∙ h))
  where
    by : ((c ≡ x.channel) × (n ≡ x.number)) ⊎ (map.get v.connection.session_by_outgoing_channel c ≡ Some n) → IsOn w n c
    by (inl y) = let b = begun_now g v w e x.number x.settings x.channel p x.is in (b.1.0, ap (λ q. lookup (nat_eq q) w.sessions) y.1 ∙ b.1.1, b.1.2 ∙ sym y.0)
    by (inr y) = stays_on g v w e n c p (not_let_go g v w e n p k (inl (c, y))) (k.known c n y)
held_known g v w e p k (inr (inr x)) c n h =
    let was = less_at v.connection.session_by_outgoing_channel x.channel c n (ap (λ (m : ChannelTable). map.get m c) (sym x.held_is) ∙ h) in stays_on g v w e n c p (not_let_go g v w e n p k (inl (c, was))) (k.known c n was)

held_once : {R : Type 0} (g : Relays R) (v w : EngineView R) (e : Entry R) → Passage g v e w → Kept v → MovesHeld v.connection (event e) w.connection → (c d n : ℕ) → map.get w.connection.session_by_outgoing_channel c ≡ Some n → map.get w.connection.session_by_outgoing_channel d ≡ Some n → c ≡ d
held_once g v w e p k (inl x) c d n a b = k.once c d n (ap (λ (m : ChannelTable). map.get m c) (sym x.held_is) ∙ a) (ap (λ (m : ChannelTable). map.get m d) (sym x.held_is) ∙ b)
held_once g v w e p k (inr (inl x)) c d n a b =
    by (more_at v.connection.session_by_outgoing_channel x.channel x.number c n (ap (λ (m : ChannelTable). map.get m c) (sym x.held_is) ∙ a)) (more_at v.connection.session_by_outgoing_channel x.channel x.number d n (ap (λ (m : ChannelTable). map.get m d) (sym x.held_is) ∙ b))
  where
    -- the new session held nothing before
    free : (q : ℕ) → n ≡ x.number → map.get v.connection.session_by_outgoing_channel q ≡ Some n → ⊥
    free q is h = let t = k.known q n h in some_none (sym t.1 ∙ ap (λ z. lookup (nat_eq z) v.sessions) is ∙ (begun_now g v w e x.number x.settings x.channel p x.is).0)

    by : ((c ≡ x.channel) × (n ≡ x.number)) ⊎ (map.get v.connection.session_by_outgoing_channel c ≡ Some n) → ((d ≡ x.channel) × (n ≡ x.number)) ⊎ (map.get v.connection.session_by_outgoing_channel d ≡ Some n) → c ≡ d
    by (inl y) (inl z) = y.0 ∙ sym z.0
    by (inl y) (inr z) = absurd (free d y.1 z)
    by (inr y) (inl z) = absurd (free c z.1 y)
    by (inr y) (inr z) = k.once c d n y z
held_once g v w e p k (inr (inr x)) c d n a b =
    k.once c d n (less_at v.connection.session_by_outgoing_channel x.channel c n (ap (λ (m : ChannelTable). map.get m c) (sym x.held_is) ∙ a)) (less_at v.connection.session_by_outgoing_channel x.channel d n (ap (λ (m : ChannelTable). map.get m d) (sym x.held_is) ∙ b))

route_known : {R : Type 0} (g : Relays R) (v w : EngineView R) (e : Entry R) → Passage g v e w → Kept v → MovesRoutes v.connection (event e) w.connection → (c n : ℕ) → map.get w.connection.session_by_incoming_channel c ≡ Some n → IsThere w n
route_known g v w e p k (inl x) c n h = let was = ap (λ (m : ChannelTable). map.get m c) (sym x.routes_are) ∙ h in stays g v w e n p (not_let_go g v w e n p k (inr (c, was))) (k.routed c n was)
route_known g v w e p k (inr (inl x)) c n h = by (more_at v.connection.session_by_incoming_channel x.channel x.number c n (ap (λ (m : ChannelTable). map.get m c) (sym x.routes_are) ∙ h))
  where
    by : ((c ≡ x.channel) × (n ≡ x.number)) ⊎ (map.get v.connection.session_by_incoming_channel c ≡ Some n) → IsThere w n
    by (inl y) =
        let holds = x.holds.1 ∙ ap (λ q. Some q) (sym y.1) in
        let on = k.known x.holds.0 n holds in stays g v w e n p (not_let_go g v w e n p k (inl (x.holds.0, holds))) (on.0, on.1)
    by (inr y) = stays g v w e n p (not_let_go g v w e n p k (inr (c, y))) (k.routed c n y)
route_known g v w e p k (inr (inr x)) c n h =
    let was = less_at v.connection.session_by_incoming_channel x.channel c n (ap (λ (m : ChannelTable). map.get m c) (sym x.routes_are) ∙ h) in stays g v w e n p (not_let_go g v w e n p k (inr (c, was))) (k.routed c n was)

kept_step : {R : Type 0} (g : Relays R) (v w : EngineView R) (e : Entry R) → Passage g v e w → Kept v → Kept w
kept_step g v w e p k =
    let held = moves_held v.connection w.connection (event e) p.moved in
    record {
      known = held_known g v w e p k held;
      once = held_once g v w e p k held;
      routed = route_known g v w e p k (moves_routes v.connection w.connection (event e) p.moved);
    }

pub kept : {R : Type 0} (g : Relays R) (es : List (Entry R)) (v w : EngineView R) → Chain g v es w → Kept v → Kept w
kept g [] v w c k = kept_taken v w c k
kept g (e ∷ es) v w c k = kept g es c.1 w c.4 (kept_step g c.0 c.1 e (passage g c.0 c.1 e c.3) (kept_taken v c.0 c.2 k))

pub kept_new : {R : Type 0} (hash : KeyHash) (made : ConnectionState) (o : OpenModel) → Kept {R = R} (new_engine hash made o)
kept_new hash made o = record {
  known = λ c n e. absurd (some_none (sym e ∙ get-empty nat_cmp c));
  once = λ c d n e f. absurd (some_none (sym e ∙ get-empty nat_cmp c));
  routed = λ c n e. absurd (some_none (sym e ∙ get-empty nat_cmp c));
}

-- ---- the channels that are held are what the history says

less_said : (m : ChannelTable) (c n q : ℕ) → ((d : ℕ) → map.get m d ≡ Some n → d ≡ c) → map.get m c ≡ Some n → map.get (map.remove m c) q ≡ cond (is_number n (map.get m q)) None (map.get m q)
less_said m c n q once holds = removed_at m c q ∙ by (nat_eq q c) (map.get m q) refl refl
  where
    by : (b : Bool) (o : Option ℕ) → nat_eq q c ≡ b → map.get m q ≡ o → cond b None (map.get m q) ≡ cond (is_number n (map.get m q)) None (map.get m q)
    by true o p h = let here : map.get m q ≡ Some n = ap (λ x. map.get m x) (same_number q c p) ∙ holds in
        let yes : nat_eq n n ≡ true = grind (arith, nat_tests) in
        sym (ap (λ x. cond (is_number n x) None x) here ∙ ap (λ t. cond t None (Some n)) yes)
    by false None p h = h ∙ sym (ap (λ x. cond (is_number n x) None x) h)
    by false (Some k) p h = other (nat_eq n k) refl
      where
        other : (t : Bool) → nat_eq n k ≡ t → map.get m q ≡ cond (is_number n (map.get m q)) None (map.get m q)
        other true y =
            let same : q ≡ c = once q (h ∙ ap (λ x. Some x) (sym (same_number n k y))) in
            let here : nat_eq q c ≡ true = grind (arith, nat_tests, same) in
            absurd (ff p here)
          where
            ff : nat_eq q c ≡ false → nat_eq q c ≡ true → ⊥
            ff a b = cc
        other false y = h ∙ sym (ap (λ x. cond (is_number n x) None x) h ∙ ap (λ t. cond t None (Some k)) y)

step_holds : {R : Type 0} (v w : EngineView R) (ev : Event) (c : ℕ) → Kept v → MovesHeld v.connection ev w.connection → map.get w.connection.session_by_outgoing_channel c ≡ held_by c ev (map.get v.connection.session_by_outgoing_channel c)
step_holds v w ev c k (inl x) = ap (λ (m : ChannelTable). map.get m c) x.held_is ∙ sym (x.said c (map.get v.connection.session_by_outgoing_channel c))
step_holds v w ev c k (inr (inl x)) = ap (λ (m : ChannelTable). map.get m c) x.held_is ∙ inserted_at v.connection.session_by_outgoing_channel x.channel x.number c ∙ ap (λ i. held_by c i (map.get v.connection.session_by_outgoing_channel c)) (sym x.is)
step_holds v w ev c k (inr (inr x)) =
    ap (λ (m : ChannelTable). map.get m c) x.held_is ∙ less_said v.connection.session_by_outgoing_channel x.channel x.number c (λ d h. k.once d x.channel x.number h x.holds) x.holds ∙ ap (λ i. held_by c i (map.get v.connection.session_by_outgoing_channel c)) (sym x.is)

held_law : {R : Type 0} (g : Relays R) (c : ℕ) (es : List (Entry R)) (v w : EngineView R) → Kept v → Chain g v es w → map.get w.connection.session_by_outgoing_channel c ≡ held_from c (map.get v.connection.session_by_outgoing_channel c) es
held_law g c [] v w k h = ap (λ (x : ConnectionView). map.get x.session_by_outgoing_channel c) h.connection_is
held_law g c (e ∷ es) v w k h =
    let u = kept_taken v h.0 h.2 k in
    let p = passage g h.0 h.1 e h.3 in
    held_law g c es h.1 w (kept_step g h.0 h.1 e p u) h.4
    ∙ ap (λ o. held_from c o es) (step_holds h.0 h.1 (event e) c u (moves_held h.0.connection h.1.connection (event e) p.moved) ∙ ap (λ (x : ConnectionView). held_by c (event e) (map.get x.session_by_outgoing_channel c)) h.2.connection_is)

pub holds : {R : Type 0} (g : Relays R) (c : ℕ) (made : ConnectionState) (o : OpenModel) (H : List (Entry R)) (w : EngineView R) → LeadsTo g made o H w → map.get w.connection.session_by_outgoing_channel c ≡ held c H
holds g c made o H w l = held_law g c H (new_engine l.0 made o) w (kept_new l.0 made o) l.1 ∙ ap (λ x. held_from c x H) (get-empty nat_cmp c)

pub once_held : {R : Type 0} (g : Relays R) (made : ConnectionState) (o : OpenModel) (H : List (Entry R)) (w : EngineView R) → LeadsTo g made o H w → HeldOnce H
once_held g made o H w l c d n a b = (kept g H (new_engine l.0 made o) w l.1 (kept_new l.0 made o)).once c d n (holds g c made o H w l ∙ a) (holds g d made o H w l ∙ b)

-- ---- so are the routes

step_routes : (v w : ConnectionView) (ev : Event) (c : ℕ) → MovesRoutes v ev w → map.get w.session_by_incoming_channel c ≡ route_by c ev (map.get v.session_by_incoming_channel c)
step_routes v w ev c (inl x) = ap (λ (m : ChannelTable). map.get m c) x.routes_are ∙ sym (x.said c (map.get v.session_by_incoming_channel c))
step_routes v w ev c (inr (inl x)) = ap (λ (m : ChannelTable). map.get m c) x.routes_are ∙ inserted_at v.session_by_incoming_channel x.channel x.number c ∙ ap (λ i. route_by c i (map.get v.session_by_incoming_channel c)) (sym x.is)
step_routes v w ev c (inr (inr x)) = ap (λ (m : ChannelTable). map.get m c) x.routes_are ∙ removed_at v.session_by_incoming_channel x.channel c ∙ ap (λ i. route_by c i (map.get v.session_by_incoming_channel c)) (sym x.is)

route_law : {R : Type 0} (g : Relays R) (c : ℕ) (es : List (Entry R)) (v w : EngineView R) → Chain g v es w → map.get w.connection.session_by_incoming_channel c ≡ route_from c (map.get v.connection.session_by_incoming_channel c) es
route_law g c = by_history g (λ v. map.get v.connection.session_by_incoming_channel c) (λ e o. route_by c (event e) o) (route_from c) (λ x. refl) (λ x e es. refl)
    (λ v w t. ap (λ (k : ConnectionView). map.get k.session_by_incoming_channel c) t.connection_is) (λ v w e p. step_routes v.connection w.connection (event e) c (moves_routes v.connection w.connection (event e) p.moved))

pub routes : {R : Type 0} (g : Relays R) (c : ℕ) (made : ConnectionState) (o : OpenModel) (H : List (Entry R)) (w : EngineView R) → LeadsTo g made o H w → map.get w.connection.session_by_incoming_channel c ≡ route c H
routes g c made o H w l = route_law g c H (new_engine l.0 made o) w l.1 ∙ ap (λ x. route_from c x H) (get-empty nat_cmp c)
