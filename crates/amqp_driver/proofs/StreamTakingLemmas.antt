-- What a stream does at a size that no frame may have.
use Rattle.std.proofs.Common.{◌≡◌, ◌==◌, ℕ, List, [], ◌∷◌, ◌++◌, length, Bool, true, false, if◌then◌else◌, refl, sym, ap, subst, ◌∙◌}
use Rattle.std.specs.Prelude.{codes}
use Rattle.amqp_session.specs.Relay.{Relays}
use Rattle.amqp_driver.specs.declared.status.Status.{Status}
use Rattle.amqp_driver.specs.declared.status.Status.TheVariants as status
use Rattle.amqp_driver.specs.declared.record.Record.{Record}
use Rattle.amqp_driver.specs.Driver.{DriverView}
use Rattle.amqp_driver.specs.Taking.{Takes}
use Rattle.amqp_driver.specs.Stream.{StreamView, is_running, waiting}
use Rattle.amqp_driver.specs.StreamTaking.{ClosesFor, ClosesIf, TakesFrames, heard, is_bad_size}
use Rattle.amqp_driver.specs.StreamTicking.{beat_for, beaten}

pub closes_bad : {R : Type 0} (g : Relays R) (s : Status) (d d' : DriverView R) → is_bad_size s ≡ true
    → ClosesFor g (codes "amqp:connection:framing-error") d d' → ClosesIf g s d d'
closes_bad g status.BadSize d d' is x = x
closes_bad g status.Done d d' is x = absurd cc
closes_bad g status.Full d d' is x = absurd cc
closes_bad g status.NoMemory d d' is x = absurd cc
closes_bad g status.Short d d' is x = absurd cc
closes_bad g status.Again d d' is x = absurd cc
closes_bad g status.Waits d d' is x = absurd cc
closes_bad g status.Over d d' is x = absurd cc
closes_bad g status.TooLarge d d' is x = absurd cc

pub closes_none : {R : Type 0} (g : Relays R) (s : Status) (d d' : DriverView R) → is_bad_size s ≡ false → d' ≡ d → ClosesIf g s d d'
closes_none g status.BadSize d d' is x = absurd cc
closes_none g status.Done d d' is x = x
closes_none g status.Full d d' is x = x
closes_none g status.NoMemory d d' is x = x
closes_none g status.Short d d' is x = x
closes_none g status.Again d d' is x = x
closes_none g status.Waits d d' is x = x
closes_none g status.Over d d' is x = x
closes_none g status.TooLarge d d' is x = x

-- The driver took frames, the clock was told, and the stream closed or did not: `a` is the view before, `h` that behind the clock.
pub took_frames : {R : Type 0} (g : Relays R) (v a h w : StreamView R) (now : ℕ) (input : List ℕ) (old : List Record) (s : Status) (n m k : ℕ)
    (new : List Record) (between after : DriverView R) (bad : Bool) → a ≡ v → h ≡ record a { clock = heard n now a.clock; driver = between }
    → Takes g a.driver.engine.connection.local_open.max_frame_size a.driver input old s n m k between new → bad ≡ is_bad_size s
    → ClosesIf g s h.driver after → w ≡ record h { is_bad = bad; driver = after } → TakesFrames g v now input old s n m k w new
took_frames g v a h w now input old s n m k new between after bad before heard_is takes bad_is closes after_is =
    let driver_is : w.driver ≡ after = ap (λ (x : StreamView _). x.driver) after_is in
    record {
      between = between;
      takes = subst (λ (x : StreamView _). Takes g x.driver.engine.connection.local_open.max_frame_size x.driver input old s n m k between new) before takes;
      closes = subst (λ (d : DriverView _). ClosesIf g s between d) (sym driver_is)
          (subst (λ (d : DriverView _). ClosesIf g s d after) (ap (λ (x : StreamView _). x.driver) heard_is) closes);
      rest = after_is ∙ ap (λ (x : StreamView _). record x { is_bad = bad; driver = after }) heard_is
          ∙ ap (λ (x : StreamView _). record x { clock = heard n now x.clock; is_bad = bad; driver = after }) before
          ∙ ap (λ (b : Bool). record v { clock = heard n now v.clock; is_bad = b; driver = after }) bad_is
          ∙ ap (λ (d : DriverView _). record v { clock = heard n now v.clock; is_bad = is_bad_size s; driver = d }) (sym driver_is);
    }

-- no empty frame goes out of a stream that is not running
pub not_beaten : {R : Type 0} (v a : StreamView R) → a ≡ v → is_running v ≡ false → a ≡ beaten v
not_beaten v a same stands =
    same ∙ sym (ap (λ (b : Bool). if b then record v { beat = beat_for (waiting v) v.beat } else v) stands)

same_beat : (waits out rest : List ℕ) (n : ℕ) → waits ≡ out ++ rest → length out == 0 ≡ false → beat_for waits n ≡ n
same_beat waits [] rest n same some = absurd cc
same_beat waits (b ∷ bs) rest n same some = ap (λ (xs : List ℕ). beat_for xs n) same

if_same : {R : Type 0} (b : Bool) (v : StreamView R) → (if b then v else v) ≡ v
if_same true v = refl
if_same false v = refl

-- nor where something else waits
pub not_beside : {R : Type 0} (v a : StreamView R) (out rest : List ℕ) → a ≡ v → waiting v ≡ out ++ rest → length out == 0 ≡ false → a ≡ beaten v
not_beside v a out rest same front some =
    same ∙ sym (ap (λ (n : ℕ). if is_running v then record v { beat = n } else v) (same_beat (waiting v) out rest v.beat front some)
    ∙ if_same (is_running v) v)

-- A Close was requested of the stream's driver, and nothing else was done: `a` is the view before.
pub closes_alone : {R : Type 0} (g : Relays R) (condition : List ℕ) (v a w : StreamView R) (after : DriverView R) → a ≡ v
    → ClosesFor g condition a.driver after → w ≡ record a { driver = after } → ClosesFor g condition v.driver w.driver × (w ≡ record v { driver = w.driver })
closes_alone g condition v a w after before closes after_is =
    let driver_is : w.driver ≡ after = ap (λ (x : StreamView _). x.driver) after_is in (
      subst (λ (d : DriverView _). ClosesFor g condition v.driver d) (sym driver_is)
          (subst (λ (x : StreamView _). ClosesFor g condition x.driver after) before closes),
      after_is ∙ ap (λ (x : StreamView _). record x { driver = after }) before ∙ ap (λ (d : DriverView _). record v { driver = d }) (sym driver_is),
    )
