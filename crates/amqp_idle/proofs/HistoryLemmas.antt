-- What a history says of the view that it leads to.
use Rattle.std.proofs.Common.{◌≡◌, ℕ, ◌||◌, max, Bool, true, false, List, [], ◌∷◌, ◌++◌, Option, if◌then◌else◌}
use Rattle.std.proofs.Common.{refl, sym, ap, ap₂, ◌∙◌, subst}
use Rattle.amqp_idle.specs.declared.due.Due.{Due}
use Rattle.amqp_idle.specs.declared.due.Due.TheVariants.{Nothing, Beat, OpeningLate, PeerSilent}
use Rattle.amqp_idle.specs.declared.due.Tick.{Tick}
use Rattle.amqp_idle.specs.declared.phase.Phase.{Phase}
use Rattle.amqp_idle.specs.declared.phase.Phase.TheVariants.{Opening, Open, Over}
use Rattle.amqp_idle.specs.Idle.{IdleView, lasting, halved, due_at, is_opening, new_clock, sent_at, received_at}
use Rattle.amqp_idle.specs.Idle.{opened_at, having_told, ticked}
use Rattle.amqp_idle.specs.History.{IdleCall, IdleStep, IdleChain, LeadsTo, time_after, time_of, last_by, sends}
use Rattle.amqp_idle.specs.History.{receives, is_beat, ends}
use Rattle.amqp_idle.specs.History.{last_sent, last_received, is_opened, ours_of, peers_of, is_ended}
use Rattle.amqp_idle.specs.History.{Opens, Sends, Receives, Ticks, AsksNext}

-- ---- a call

-- the view after a call
abbrev pub after : IdleView → IdleCall → IdleView
after v (Opens t ours peers taken) = if is_opening v.phase then opened_at v.seen ours peers t else v
after v (Sends t) = sent_at t v
after v (Receives t) = received_at t v
after v (Ticks t answer) = ticked t v
after v (AsksNext next) = v

pub after_is : (v m : IdleView) (c : IdleCall) → IdleStep v c m → m ≡ after v c
after_is v m (Opens t ours peers taken) h = h.1.1
after_is v m (Sends t) h = h.1
after_is v m (Receives t) h = h.1
after_is v m (Ticks t answer) h = h.1.1
after_is v m (AsksNext next) h = h.1

told_seen : (d : Due) (now : ℕ) (v : IdleView) → (having_told d now v).seen ≡ now
told_seen Nothing now v = refl
told_seen Beat now v = refl
told_seen OpeningLate now v = refl
told_seen PeerSilent now v = refl

told_sent : (d : Due) (now : ℕ) (v : IdleView) → (having_told d now v).sent ≡ (if is_beat d then now else v.sent)
told_sent Nothing now v = refl
told_sent Beat now v = refl
told_sent OpeningLate now v = refl
told_sent PeerSilent now v = refl

told_received : (d : Due) (now : ℕ) (v : IdleView) → (having_told d now v).received ≡ v.received
told_received Nothing now v = refl
told_received Beat now v = refl
told_received OpeningLate now v = refl
told_received PeerSilent now v = refl

told_phase : (d : Due) (now : ℕ) (v : IdleView) → (having_told d now v).phase ≡ (if ends d then Over else v.phase)
told_phase Nothing now v = refl
told_phase Beat now v = refl
told_phase OpeningLate now v = refl
told_phase PeerSilent now v = refl

opened_field : {X : Type 0} (f : IdleView → X) (b : Bool) (v w : IdleView) →
    f (if b then w else v) ≡ (if b then f w else f v)
opened_field f true v w = refl
opened_field f false v w = refl

-- the same where the answer stands for the test
opened_by : {X : Type 0} (f : IdleView → X) (taken b : Bool) (v w : IdleView) → taken ≡ b →
    f (if b then w else v) ≡ (if taken then f w else f v)
opened_by f taken b v w e = opened_field f b v w ∙ ap (λ x. if x then f w else f v) (sym e)

-- what is due is what was answered
pub due_is : (v m : IdleView) (t : ℕ) (answer : Tick) → IdleStep v (Ticks t answer) m →
    due_at v (max v.seen t) ≡ answer.due
due_is v m t answer h = sym (ap (λ (x : Tick). x.due) h.1.0)

pub step_seen : (v m : IdleView) (c : IdleCall) → IdleStep v c m → m.seen ≡ time_after v.seen c
step_seen v m c h = ap (λ (x : IdleView). x.seen) (after_is v m c h) ∙ by c h
  where
    by : (c : IdleCall) → IdleStep v c m → (after v c).seen ≡ time_after v.seen c
    by (Opens t ours peers taken) h =
        opened_by (λ (x : IdleView). x.seen) taken (is_opening v.phase) v (opened_at v.seen ours peers t) h.1.0
    by (Sends t) h = refl
    by (Receives t) h = refl
    by (Ticks t answer) h = told_seen (due_at v (max v.seen t)) (max v.seen t) v
    by (AsksNext next) h = refl

pub step_sent : (v m : IdleView) (c : IdleCall) → IdleStep v c m →
    m.sent ≡ (if sends c then time_after v.seen c else v.sent)
step_sent v m c h = ap (λ (x : IdleView). x.sent) (after_is v m c h) ∙ by c h
  where
    opens_sent : (taken : Bool) (n : ℕ) →
        (if taken then n else v.sent) ≡ (if taken then (if taken then n else v.seen) else v.sent)
    opens_sent true n = refl
    opens_sent false n = refl

    by : (c : IdleCall) → IdleStep v c m → (after v c).sent ≡ (if sends c then time_after v.seen c else v.sent)
    by (Opens t ours peers taken) h =
        opened_by (λ (x : IdleView). x.sent) taken (is_opening v.phase) v (opened_at v.seen ours peers t) h.1.0
        ∙ opens_sent taken (max v.seen t)
    by (Sends t) h = refl
    by (Receives t) h = refl
    by (Ticks t answer) h =
        told_sent (due_at v (max v.seen t)) (max v.seen t) v
        ∙ ap (λ d. if is_beat d then max v.seen t else v.sent) (due_is v m t answer h)
    by (AsksNext next) h = refl

pub step_received : (v m : IdleView) (c : IdleCall) → IdleStep v c m →
    m.received ≡ (if receives c then time_after v.seen c else v.received)
step_received v m c h = ap (λ (x : IdleView). x.received) (after_is v m c h) ∙ by c h
  where
    opens_received : (taken : Bool) (n : ℕ) →
        (if taken then n else v.received) ≡ (if taken then (if taken then n else v.seen) else v.received)
    opens_received true n = refl
    opens_received false n = refl

    by : (c : IdleCall) → IdleStep v c m →
        (after v c).received ≡ (if receives c then time_after v.seen c else v.received)
    by (Opens t ours peers taken) h =
        opened_by (λ (x : IdleView). x.received) taken (is_opening v.phase) v (opened_at v.seen ours peers t) h.1.0
        ∙ opens_received taken (max v.seen t)
    by (Sends t) h = refl
    by (Receives t) h = refl
    by (Ticks t answer) h = told_received (due_at v (max v.seen t)) (max v.seen t) v
    by (AsksNext next) h = refl

-- the phase after a call, by its answer
abbrev pub phase_after : Phase → IdleCall → Phase
phase_after p (Opens t ours peers taken) = if taken then Open (lasting ours) (halved (lasting peers)) else p
phase_after p (Ticks t answer) = if ends answer.due then Over else p
phase_after p c = p

pub step_phase : (v m : IdleView) (c : IdleCall) → IdleStep v c m → m.phase ≡ phase_after v.phase c
step_phase v m c h = ap (λ (x : IdleView). x.phase) (after_is v m c h) ∙ by c h
  where
    by : (c : IdleCall) → IdleStep v c m → (after v c).phase ≡ phase_after v.phase c
    by (Opens t ours peers taken) h =
        opened_by (λ (x : IdleView). x.phase) taken (is_opening v.phase) v (opened_at v.seen ours peers t) h.1.0
    by (Sends t) h = refl
    by (Receives t) h = refl
    by (Ticks t answer) h =
        told_phase (due_at v (max v.seen t)) (max v.seen t) v
        ∙ ap (λ d. if ends d then Over else v.phase) (due_is v m t answer h)
    by (AsksNext next) h = refl

-- ---- a chain of them

pub chain_seen : (v w : IdleView) (cs : List IdleCall) → IdleChain v cs w → w.seen ≡ time_of v.seen cs
chain_seen v w [] h = ap (λ (x : IdleView). x.seen) h
chain_seen v w (c ∷ cs) h = chain_seen h.0 w cs h.2 ∙ ap (λ n. time_of n cs) (step_seen v h.0 c h.1)

pub chain_sent : (v w : IdleView) (cs : List IdleCall) → IdleChain v cs w → w.sent ≡ last_by sends v.seen v.sent cs
chain_sent v w [] h = ap (λ (x : IdleView). x.sent) h
chain_sent v w (c ∷ cs) h =
    chain_sent h.0 w cs h.2 ∙ ap₂ (λ n last. last_by sends n last cs) (step_seen v h.0 c h.1) (step_sent v h.0 c h.1)

pub chain_received : (v w : IdleView) (cs : List IdleCall) → IdleChain v cs w →
    w.received ≡ last_by receives v.seen v.received cs
chain_received v w [] h = ap (λ (x : IdleView). x.received) h
chain_received v w (c ∷ cs) h =
    chain_received h.0 w cs h.2
    ∙ ap₂ (λ n last. last_by receives n last cs) (step_seen v h.0 c h.1) (step_received v h.0 c h.1)

either : (b : Bool) (p q : Phase) → p ≡ q → (if b then q else p) ≡ q
either true p q e = refl
either false p q e = e

-- an opening is not taken where the clock is not opening
refused : (b taken : Bool) (p q : Phase) → taken ≡ b → b ≡ false → (if taken then q else p) ≡ p
refused b taken p q e f = ap (λ x. if x then q else p) (e ∙ f)

pub over_step : (v m : IdleView) (c : IdleCall) → v.phase ≡ Over → IdleStep v c m → phase_after v.phase c ≡ Over
over_step v m (Opens t ours peers taken) p h = refused _ taken v.phase _ h.1.0 (ap is_opening p) ∙ p
over_step v m (Sends t) p h = p
over_step v m (Receives t) p h = p
over_step v m (Ticks t answer) p h = either (ends answer.due) v.phase Over p
over_step v m (AsksNext next) p h = p

over_chain : (v w : IdleView) (cs : List IdleCall) → v.phase ≡ Over → IdleChain v cs w → w.phase ≡ Over
over_chain v w [] p h = ap (λ (x : IdleView). x.phase) h ∙ p
over_chain v w (c ∷ cs) p h = over_chain h.0 w cs (step_phase v h.0 c h.1 ∙ over_step v h.0 c p h.1) h.2

-- what a call says of the phase in the end, where it is known what follows if the call leaves the phase
open_call : (v m w : IdleView) (c : IdleCall) (cs : List IdleCall) (s b : Option ℕ) → v.phase ≡ Open s b →
    IdleStep v c m → IdleChain m cs w →
    (m.phase ≡ Open s b → w.phase ≡ (if is_ended cs then Over else Open s b)) →
    w.phase ≡ (if is_ended (c ∷ cs) then Over else Open s b)
open_call v m w c cs s b p step rest goes_on = by c step
  where
    after_tick : (d : Due) → m.phase ≡ (if ends d then Over else v.phase) →
        w.phase ≡ (if (ends d || is_ended cs) then Over else Open s b)
    after_tick Nothing e = goes_on (e ∙ p)
    after_tick Beat e = goes_on (e ∙ p)
    after_tick OpeningLate e = over_chain m w cs e rest
    after_tick PeerSilent e = over_chain m w cs e rest

    by : (c : IdleCall) → IdleStep v c m → w.phase ≡ (if is_ended (c ∷ cs) then Over else Open s b)
    by (Opens t ours peers taken) h =
        goes_on (step_phase v m (Opens t ours peers taken) h ∙ refused _ taken v.phase _ h.1.0 (ap is_opening p) ∙ p)
    by (Sends t) h = goes_on (step_phase v m (Sends t) h ∙ p)
    by (Receives t) h = goes_on (step_phase v m (Receives t) h ∙ p)
    by (Ticks t answer) h = after_tick answer.due (step_phase v m (Ticks t answer) h)
    by (AsksNext next) h = goes_on (step_phase v m (AsksNext next) h ∙ p)

open_chain : (v w : IdleView) (cs : List IdleCall) (s b : Option ℕ) → v.phase ≡ Open s b → IdleChain v cs w →
    w.phase ≡ (if is_ended cs then Over else Open s b)
open_chain v w [] s b p h = ap (λ (x : IdleView). x.phase) h ∙ p
open_chain v w (c ∷ cs) s b p h = open_call v h.0 w c cs s b p h.1 h.2 (λ e. open_chain h.0 w cs s b e h.2)

-- the phase that a history gives
abbrev pub phase_where : Bool → Bool → ℕ → Option ℕ → List IdleCall → Phase
phase_where ended opened start limit H =
    if ended then Over else (if opened then Open (ours_of H) (halved (peers_of H)) else Opening start limit)

abbrev pub phase_by : ℕ → Option ℕ → List IdleCall → Phase
phase_by start limit H = phase_where (is_ended H) (is_opened H) start limit H

opening_call : (v m w : IdleView) (c : IdleCall) (cs : List IdleCall) (start : ℕ) (limit : Option ℕ) →
    v.phase ≡ Opening start limit →
    IdleStep v c m → IdleChain m cs w → (m.phase ≡ Opening start limit → w.phase ≡ phase_by start limit cs) →
    w.phase ≡ phase_by start limit (c ∷ cs)
opening_call v m w c cs start limit p step rest goes_on = by c step
  where
    open_now : Phase
    open_now = if is_opened cs then Open (ours_of cs) (halved (peers_of cs)) else Opening start limit

    after_tick : (d : Due) → m.phase ≡ (if ends d then Over else v.phase) →
        w.phase ≡ (if (ends d || is_ended cs) then Over else open_now)
    after_tick Nothing e = goes_on (e ∙ p)
    after_tick Beat e = goes_on (e ∙ p)
    after_tick OpeningLate e = over_chain m w cs e rest
    after_tick PeerSilent e = over_chain m w cs e rest

    after_open : (t : ℕ) (ours peers : Option ℕ) (taken : Bool) →
        m.phase ≡ (if taken then Open (lasting ours) (halved (lasting peers)) else v.phase) →
        w.phase ≡ phase_by start limit (Opens t ours peers taken ∷ cs)
    after_open t ours peers true e = open_chain m w cs (lasting ours) (halved (lasting peers)) e rest
    after_open t ours peers false e = goes_on (e ∙ p)

    by : (c : IdleCall) → IdleStep v c m → w.phase ≡ phase_by start limit (c ∷ cs)
    by (Opens t ours peers taken) h = after_open t ours peers taken (step_phase v m (Opens t ours peers taken) h)
    by (Sends t) h = goes_on (step_phase v m (Sends t) h ∙ p)
    by (Receives t) h = goes_on (step_phase v m (Receives t) h ∙ p)
    by (Ticks t answer) h = after_tick answer.due (step_phase v m (Ticks t answer) h)
    by (AsksNext next) h = goes_on (step_phase v m (AsksNext next) h ∙ p)

opening_chain : (v w : IdleView) (cs : List IdleCall) (start : ℕ) (limit : Option ℕ) → v.phase ≡ Opening start limit →
    IdleChain v cs w →
    w.phase ≡ phase_by start limit cs
opening_chain v w [] start limit p h = ap (λ (x : IdleView). x.phase) h ∙ p
opening_chain v w (c ∷ cs) start limit p h =
    opening_call v h.0 w c cs start limit p h.1 h.2 (λ e. opening_chain h.0 w cs start limit e h.2)

-- what a view is that a history leads to
pub record Stands (start : ℕ) (limit : Option ℕ) (H : List IdleCall) (v : IdleView) : Type 0 where
  pub seen_is : v.seen ≡ time_of start H
  pub sent_is : v.sent ≡ last_sent start H
  pub received_is : v.received ≡ last_received start H
  pub phase_is : v.phase ≡ phase_by start limit H

pub stands : (start : ℕ) (limit : Option ℕ) (H : List IdleCall) (v : IdleView) →
    IdleChain (new_clock start limit) H v → Stands start limit H v
stands start limit H v h = record {
  seen_is = chain_seen (new_clock start limit) v H h;
  sent_is = chain_sent (new_clock start limit) v H h;
  received_is = chain_received (new_clock start limit) v H h;
  phase_is = opening_chain (new_clock start limit) v H start limit refl h;
}

-- ---- a call among others

pub record Split (v : IdleView) (before : List IdleCall) (c : IdleCall) (rest : List IdleCall)
    (w : IdleView) : Type 0 where
  pub at : IdleView
  pub reached : IdleChain v before at
  pub next : IdleView
  pub step : IdleStep at c next
  pub onward : IdleChain next rest w

pub split : (v w : IdleView) (before rest : List IdleCall) (c : IdleCall) → IdleChain v (before ++ c ∷ rest) w →
    Split v before c rest w
split v w [] rest c h = record { at = v; reached = refl; next = h.0; step = h.1; onward = h.2 }
split v w (b ∷ before) rest c h =
    let s = split h.0 w before rest c h.2 in
    record { at = s.at; reached = (h.0, h.1, s.reached); next = s.next; step = s.step; onward = s.onward }

pub split_of : (start : ℕ) (limit : Option ℕ) (H before rest : List IdleCall) (c : IdleCall) (v : IdleView) →
    LeadsTo start limit H v →
    H ≡ before ++ c ∷ rest → Split (new_clock start limit) before c rest v
split_of start limit H before rest c v h e =
    split (new_clock start limit) v before rest c (subst (λ xs. IdleChain (new_clock start limit) xs v) e h.1)
