-- How many Opens and Closes a history hands out, from what each state may still hand out.
use Rattle.std.proofs.Common.{◌≡◌, ℕ, ◌+◌, List, [], ◌∷◌, ◌++◌, Option, Some, None, is_some, Result, Ok, Err, refl, sym, ap, subst, ◌∙◌, arith, unwrap_or}
use Rattle.amqp_types.specs.declared.states.ConnectionState.{ConnectionState}
use Rattle.amqp_types.specs.Error.{ErrorModel}
use Rattle.amqp_types.specs.Open.{OpenModel}
use Rattle.amqp_frames.specs.declared.frame.Frame.{Frame}
use Rattle.amqp_connection.specs.declared.error.ConnectionStateError.{ConnectionStateError}
use Rattle.amqp_connection.specs.declared.error.ConnectionStateError.TheVariants as state
use Rattle.amqp_connection.specs.States.{sends_close, takes_close}
use Rattle.amqp_connection.specs.Connection.{ConnectionView, new_connection, SendOpenStep, SendCloseStep, IncomingOpenStep}
use Rattle.amqp_connection.specs.History.{Entry, SendOpen, SendClose, IncomingOpen, IncomingClose, Stop, Allocate, Deallocate, IncomingBegin}
use Rattle.amqp_connection.specs.History.{IncomingEnd, OutgoingBegin, OutgoingEnd, Step, Chain, LeadsTo}
use Rattle.amqp_connection.specs.ByHistory.{frames_of, handed, opens, closes, OneEach}
use Rattle.amqp_connection.proofs.HistoryLemmas.{after, after_is}
use Rattle.amqp_connection.proofs.StateTableLemmas.{Spends, open_left, close_left, sends_open_spends, takes_open_spends, sends_close_spends, sends_close_with_error_spends, takes_close_spends}

pub spends_none : (s t : ConnectionState) → t ≡ s → Spends 0 0 s t
spends_none s t e = subst (λ x. Spends 0 0 s x) (sym e) (record { open_spent = omega arith; close_spent = omega arith })

ends_at : (i j : ℕ) (s : ConnectionState) (v w : ConnectionView) → w ≡ v → Spends i j s v.state → Spends i j s w.state
ends_at i j s v w e m = subst (λ (k : ConnectionView). Spends i j s k.state) (sym e) m

closes_by_spends : (error : Option ErrorModel) (s t : ConnectionState) → sends_close (is_some error) s ≡ Some t → Spends 0 1 s t
closes_by_spends None s t e = sends_close_spends s t e
closes_by_spends (Some x) s t e = sends_close_with_error_spends s t e

came_spends : (s : ConnectionState) (next : Option ConnectionState) → takes_close s ≡ next → Spends 0 0 s (unwrap_or next s)
came_spends s None e = spends_none s s refl
came_spends s (Some t) e = takes_close_spends s t e

same_state : (v w : ConnectionView) → w ≡ v → w.state ≡ v.state
same_state v w e = ap (λ (k : ConnectionView). k.state) e

-- so many Opens and Closes go out with these frames
abbrev pub Goes : List Frame → ConnectionState → ConnectionState → Type 0
Goes fs s t = Spends (opens fs) (closes fs) s t

-- ---- a call

open_goes : (v w : ConnectionView) (r : Result Frame ConnectionStateError) → SendOpenStep v r w → Goes (frames_of (SendOpen r)) v.state w.state
open_goes v w (Ok f) s =
    subst (λ (x : Frame). Goes (x ∷ []) v.state w.state) (sym s.2) (ends_at 1 0 v.state (record v { state = s.0 }) w s.3 (sends_open_spends v.state s.0 s.1))
open_goes v w (Err state.IllegalState) s = spends_none v.state w.state (same_state v w s.1)
open_goes v w (Err state.OutOfMemory) s = spends_none v.state w.state (same_state v w s.1)
open_goes v w (Err e) s = absurd s

close_goes : (v w : ConnectionView) (error : Option ErrorModel) (r : Result Frame ConnectionStateError) → SendCloseStep v error r w → Goes (frames_of (SendClose error r)) v.state w.state
close_goes v w error (Ok f) s =
    subst (λ (x : Frame). Goes (x ∷ []) v.state w.state) (sym s.2) (ends_at 0 1 v.state (record v { state = s.0 }) w s.3 (closes_by_spends error v.state s.0 s.1))
close_goes v w error (Err state.IllegalState) s = spends_none v.state w.state (same_state v w s.1)
close_goes v w error (Err e) s = absurd s

opened_goes : (v w : ConnectionView) (o : OpenModel) (r : Option ConnectionStateError) → IncomingOpenStep v o r w → Goes [] v.state w.state
opened_goes v w o None s = ends_at 0 0 v.state _ w s.2 (takes_open_spends v.state s.0 s.1)
opened_goes v w o (Some state.IllegalState) s = spends_none v.state w.state (same_state v w s.1)
opened_goes v w o (Some e) s = absurd s

-- a call that hands out neither, and leaves the state
rests : (v w : ConnectionView) (e : Entry) → Step v e w → (after v e).state ≡ v.state → Goes [] v.state w.state
rests v w e s same = spends_none v.state w.state (same_state (after v e) w (after_is v w e s) ∙ same)

call_goes : (v w : ConnectionView) (e : Entry) → Step v e w → Goes (frames_of e) v.state w.state
call_goes v w (SendOpen r) s = open_goes v w r s
call_goes v w (SendClose error r) s = close_goes v w error r s
call_goes v w (IncomingOpen o r) s = opened_goes v w o r s
call_goes v w (IncomingClose c r) s = ends_at 0 0 v.state _ w (after_is v w (IncomingClose c r) s) (came_spends v.state (takes_close v.state) refl)
call_goes v w (Stop r) s = rests v w (Stop r) s refl
call_goes v w (Allocate n r) s = rests v w (Allocate n r) s refl
call_goes v w (Deallocate c b) s = rests v w (Deallocate c b) s refl
call_goes v w (IncomingBegin c remote r) s = rests v w (IncomingBegin c remote r) s refl
call_goes v w (IncomingEnd c r) s = rests v w (IncomingEnd c r) s refl
call_goes v w (OutgoingBegin c b) s = rests v w (OutgoingBegin c b) s refl
call_goes v w (OutgoingEnd c e) s = rests v w (OutgoingEnd c e) s refl

-- ---- a chain of them

pub opens-append : (xs ys : List Frame) → opens (xs ++ ys) ≡ opens xs + opens ys
opens-append [] ys = omega arith
opens-append (f ∷ xs) ys = omega (arith, opens-append xs ys)

pub closes-append : (xs ys : List Frame) → closes (xs ++ ys) ≡ closes xs + closes ys
closes-append [] ys = omega arith
closes-append (f ∷ xs) ys = omega (arith, closes-append xs ys)

pub chain_goes : (H : List Entry) (v w : ConnectionView) → Chain v H w → Goes (handed H) v.state w.state
chain_goes [] v w c = spends_none v.state w.state (same_state v w c)
chain_goes (e ∷ H) v w c =
    let first : Goes (frames_of e) v.state c.0.state = call_goes v c.0 e c.1 in
    let rest : Goes (handed H) c.0.state w.state = chain_goes H c.0 w c.2 in
    record {
      open_spent = omega (arith, first.open_spent, rest.open_spent, opens-append (frames_of e) (handed H));
      close_spent = omega (arith, first.close_spent, rest.close_spent, closes-append (frames_of e) (handed H));
    }

pub one_each : (s : ConnectionState) (o : OpenModel) (H : List Entry) (v : ConnectionView) → LeadsTo s o H v → OneEach s H
one_each s o H v l =
    let all : Goes (handed H) s v.state = chain_goes H (new_connection l.0 s o) v l.1 in
    record {
      one_open = λ e. omega (arith, all.open_spent, ap open_left e);
      one_close = λ e. omega (arith, all.close_spent, ap close_left e);
    }
