-- What the tallies of a pair say.
use Rattle.std.proofs.Common.{◌≡◌, ◌<◌, ◌≤◌, ◌+◌, ◌%◌, ◌^◌, [], ℕ, List, length, refl, ap, arith, ◌∙◌, Bool, true, false}
use Rattle.amqp_types.specs.declared.states.SessionState.TheVariants.{Unmapped}
use Rattle.amqp_session.specs.declared.frame.SessionFrame.{SessionFrame}
use Rattle.amqp_session.specs.Settings.{SettingsModel}
use Rattle.amqp_session.specs.Serial.{past}
use Rattle.amqp_session.specs.Headline.{transfers_in}
use Rattle.amqp_session.specs.Pair.{PairView, swapped, WindowHolds, PairHolds}
use Rattle.amqp_session.specs.PairLedger.{has_received, Place, Leads, Core, core, Keeps, run_of, FitsSettings, Tallies}
use Rattle.amqp_session.proofs.PairRunLemmas.{leads_sent, leads_offered}

-- the other way round
pub turned : (a b : Core) (to_a to_b : List SessionFrame) → Tallies a b to_a to_b → Tallies b a to_b to_a
turned a b to_a to_b st =
    let l = st.ledger in
    record {
      put_a = st.put_b;
      taken_a = st.taken_b;
      put_b = st.put_a;
      taken_b = st.taken_a;
      ledger = record {
        a_keeps = l.b_keeps;
        b_keeps = l.a_keeps;
        a_comes = l.b_comes;
        b_comes = l.a_comes;
        a_fits = l.b_fits;
        b_fits = l.a_fits;
      };
    }

abbrev start : Place
start = record { begun = false; sent = 0; offered = 0 }

abbrev pub new_core : SettingsModel → Core
new_core s = record { state = Unmapped; settings = s; next = s.next_outgoing_id; window = 0; incoming = 0; count = 0 }

new_keeps : (s t : SettingsModel) → FitsSettings s → Keeps (new_core s) start start t
new_keeps s t hs = record {
  begun_is = refl;
  received_is = refl;
  next_is = let h = hs.0 in omega (arith, h);
  incoming_is = λ e. absurd (cc);
  window_is = λ e. absurd (cc);
  early = λ _. (refl, refl, refl);
  offers = omega arith;
  count_is = omega arith;
}

pub new_tallies : (s t : SettingsModel) → FitsSettings s → FitsSettings t → Tallies (new_core s) (new_core t) [] []
new_tallies s t hs ht = record {
  put_a = start;
  taken_a = start;
  put_b = start;
  taken_b = start;
  ledger = record { a_keeps = new_keeps s t hs; b_keeps = new_keeps t s ht; a_comes = refl; b_comes = refl; a_fits = hs; b_fits = ht };
}

between : (i s r n next incoming : ℕ) → s ≡ r + n → next ≡ (i + s) % 2 ^ 32 → incoming ≡ (i + r) % 2 ^ 32 → n < 2 ^ 32 →
    n ≡ past next incoming
between i s r n next incoming e1 e2 e3 h = omega arith

-- before the other's Begin came nothing goes out; after it the window bounds what is on the way
by_received : (a b : Core) (to_a to_b : List SessionFrame) (st : Tallies a b to_a to_b) (d : Bool) → st.taken_a.begun ≡ d →
    length (transfers_in to_b) ≤ b.settings.incoming_window
by_received a b to_a to_b st true e =
    let l = st.ledger in
    let on = leads_sent (run_of a b.settings) st.taken_b st.put_a to_b l.b_comes in
    let back = leads_offered (run_of b a.settings) st.taken_a st.put_b to_a l.a_comes in
    let w = l.a_keeps.window_is e in
    omega (arith, w, on, back, l.b_keeps.offers)
by_received a b to_a to_b st false e =
    let l = st.ledger in
    let on = leads_sent (run_of a b.settings) st.taken_b st.put_a to_b l.b_comes in
    let z = (l.a_keeps.early e).0 in
    omega (arith, on, z)

pub window_holds : {R : Type 0} (p : PairView R) → Tallies (core p.a) (core p.b) p.to_a p.to_b → WindowHolds p
window_holds p st =
    let l = st.ledger in
    let on = leads_sent (run_of (core p.a) p.b.settings) st.taken_b st.put_a p.to_b l.b_comes in
    let back = leads_offered (run_of (core p.b) p.a.settings) st.taken_a st.put_b p.to_a l.a_comes in
    let few : length (transfers_in p.to_b) ≤ p.b.settings.incoming_window =
    by_received (core p.a) (core p.b) p.to_a p.to_b st st.taken_a.begun refl in
    record {
      bounded = few;
      never_over = λ m. let w = l.a_keeps.window_is (l.a_keeps.received_is ∙ ap has_received m) in
          omega (arith, w, on, back, l.b_keeps.offers);
      exact = λ o.
          let n = l.a_keeps.next_is in
          let i = l.b_keeps.incoming_is (l.b_keeps.received_is ∙ ap has_received o.1) in
          between p.a.settings.next_outgoing_id st.put_a.sent st.taken_b.sent (length (transfers_in p.to_b)) p.a.sending.next_outgoing_id
          p.b.receiving.next_incoming_id on n i (omega (arith, few, l.b_fits.1));
      at_most = λ o r.
          let w = l.a_keeps.window_is (l.a_keeps.received_is ∙ ap has_received o.0) in
          omega (arith, w, on, back, l.b_keeps.offers);
      at_least = λ o r.
          let w = l.a_keeps.window_is (l.a_keeps.received_is ∙ ap has_received o.0) in
          let z : length (transfers_in p.to_b) ≡ 0 = ap (λ (L : List SessionFrame). length (transfers_in L)) r.1 in
          let same : Leads (run_of (core p.b) p.a.settings) st.taken_a [] st.put_b = rw r.0 at l.a_comes in
          let at_end : st.taken_a.offered ≡ st.put_b.offered = ap (λ (x : Place). x.offered) same in
          omega (arith, w, on, z, at_end, l.b_keeps.count_is, l.b_fits.1);
      whole = λ o r told.
          let w = l.a_keeps.window_is (l.a_keeps.received_is ∙ ap has_received o.0) in
          let z : length (transfers_in p.to_b) ≡ 0 = ap (λ (L : List SessionFrame). length (transfers_in L)) r.1 in
          let same : Leads (run_of (core p.b) p.a.settings) st.taken_a [] st.put_b = rw r.0 at l.a_comes in
          let at_end : st.taken_a.offered ≡ st.put_b.offered = ap (λ (x : Place). x.offered) same in
          omega (arith, w, on, z, at_end, l.b_keeps.count_is, l.b_keeps.offers, told);
    }

pub pair_holds : {R : Type 0} (p : PairView R) → Tallies (core p.a) (core p.b) p.to_a p.to_b → PairHolds p
pair_holds p st = record { to_b = window_holds p st; to_a = window_holds (swapped p) (turned (core p.a) (core p.b) p.to_a p.to_b st) }
