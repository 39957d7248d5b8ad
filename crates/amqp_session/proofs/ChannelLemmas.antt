-- All frames that a session hands out are on its channel.
use Rattle.std.proofs.Common.{◌≡◌, ℕ, List, [], ◌∷◌, refl, ap, subst, ◌∙◌}
use Rattle.amqp_session.specs.Session.{SessionView, new_session}
use Rattle.amqp_session.specs.Relay.{Relays}
use Rattle.amqp_session.specs.History.{SessionCall, SessionChain, Made, LeadsTo}
use Rattle.amqp_session.specs.OutgoingFrames.{call_frames, calls_frames, OnChannel}
use Rattle.amqp_session.proofs.CallEffectLemmas.{Rest, on_both, does}

chain_on : {R : Type 0} (g : Relays R) (c : ℕ) (H : List (SessionCall R)) (v w : SessionView R) → v.outgoing_channel ≡ c → SessionChain g v H w → OnChannel c (calls_frames H)
chain_on g c [] v w is t = tt
chain_on g c (e ∷ H) v w is t =
    let d = does g v t.0 e t.1 in
    let next = ap (λ (x : Rest). x.outgoing_channel) d.rest_is ∙ is in
    on_both c (call_frames e) (calls_frames H) (subst (λ n. OnChannel n (call_frames e)) is d.on_channel) (chain_on g c H t.0 w next t.2)

pub channels_law : {R : Type 0} (g : Relays R) (m : Made) (H : List (SessionCall R)) (v : SessionView R) → LeadsTo g m H v → OnChannel m.channel (calls_frames H)
channels_law g m H v l = chain_on g m.channel H (new_session l.0 m.settings m.channel m.state m.stop) v refl l.2
