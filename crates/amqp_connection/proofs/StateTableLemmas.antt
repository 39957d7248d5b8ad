-- What each state may still hand out, and that no move lets it hand out more.
use Rattle.std.proofs.Common.{◌≡◌, ℕ, ◌+◌, ◌≤◌, true, false, Some, subst, arith}
use Rattle.amqp_types.specs.declared.states.ConnectionState.{ConnectionState}
use Rattle.amqp_types.specs.declared.states.ConnectionState.TheVariants as at
use Rattle.amqp_values.proofs.ReaderLemmas.{some_is}
use Rattle.amqp_connection.specs.States.{sends_open, takes_open, sends_close, takes_close}

-- how many Opens may still go out
abbrev pub open_left : ConnectionState → ℕ
open_left at.HeaderExchange = 1
open_left at.OpenReceived = 1
open_left at.HeaderSent = 1
open_left s = 0

-- how many Closes may still go out
abbrev pub close_left : ConnectionState → ℕ
close_left at.HeaderExchange = 1
close_left at.OpenReceived = 1
close_left at.OpenSent = 1
close_left at.Opened = 1
close_left at.CloseReceived = 1
close_left at.HeaderSent = 2
close_left at.OpenPipe = 2
close_left at.OpenClosePipe = 1
close_left s = 0

-- so many Opens and Closes go out between these states
pub record Spends (open_count close_count : ℕ) (s t : ConnectionState) : Type 0 where
  pub open_spent : open_count + open_left t ≤ open_left s
  pub close_spent : close_count + close_left t ≤ close_left s

lands : (i j : ℕ) (s t u : ConnectionState) → Some u ≡ Some t → Spends i j s u → Spends i j s t
lands i j s t u e m = subst (λ (x : ConnectionState). Spends i j s x) (some_is u t e) m

pub sends_open_spends : (s t : ConnectionState) → sends_open s ≡ Some t → Spends 1 0 s t
sends_open_spends at.HeaderSent t e = lands 1 0 at.HeaderSent t at.OpenPipe e (record { open_spent = omega arith; close_spent = omega arith })
sends_open_spends at.HeaderExchange t e = lands 1 0 at.HeaderExchange t at.OpenSent e (record { open_spent = omega arith; close_spent = omega arith })
sends_open_spends at.OpenReceived t e = lands 1 0 at.OpenReceived t at.Opened e (record { open_spent = omega arith; close_spent = omega arith })
sends_open_spends s t e = absurd cc

pub takes_open_spends : (s t : ConnectionState) → takes_open s ≡ Some t → Spends 0 0 s t
takes_open_spends at.HeaderExchange t e = lands 0 0 at.HeaderExchange t at.OpenReceived e (record { open_spent = omega arith; close_spent = omega arith })
takes_open_spends at.OpenSent t e = lands 0 0 at.OpenSent t at.Opened e (record { open_spent = omega arith; close_spent = omega arith })
takes_open_spends at.ClosePipe t e = lands 0 0 at.ClosePipe t at.CloseSent e (record { open_spent = omega arith; close_spent = omega arith })
takes_open_spends s t e = absurd cc

pub sends_close_spends : (s t : ConnectionState) → sends_close false s ≡ Some t → Spends 0 1 s t
sends_close_spends at.OpenPipe t e = lands 0 1 at.OpenPipe t at.OpenClosePipe e (record { open_spent = omega arith; close_spent = omega arith })
sends_close_spends at.OpenSent t e = lands 0 1 at.OpenSent t at.ClosePipe e (record { open_spent = omega arith; close_spent = omega arith })
sends_close_spends at.Opened t e = lands 0 1 at.Opened t at.CloseSent e (record { open_spent = omega arith; close_spent = omega arith })
sends_close_spends at.CloseReceived t e = lands 0 1 at.CloseReceived t at.End e (record { open_spent = omega arith; close_spent = omega arith })
sends_close_spends s t e = absurd cc

pub sends_close_with_error_spends : (s t : ConnectionState) → sends_close true s ≡ Some t → Spends 0 1 s t
sends_close_with_error_spends at.OpenPipe t e = lands 0 1 at.OpenPipe t at.Discarding e (record { open_spent = omega arith; close_spent = omega arith })
sends_close_with_error_spends at.OpenSent t e = lands 0 1 at.OpenSent t at.Discarding e (record { open_spent = omega arith; close_spent = omega arith })
sends_close_with_error_spends at.Opened t e = lands 0 1 at.Opened t at.Discarding e (record { open_spent = omega arith; close_spent = omega arith })
sends_close_with_error_spends at.CloseReceived t e = lands 0 1 at.CloseReceived t at.End e (record { open_spent = omega arith; close_spent = omega arith })
sends_close_with_error_spends s t e = absurd cc

pub takes_close_spends : (s t : ConnectionState) → takes_close s ≡ Some t → Spends 0 0 s t
takes_close_spends at.OpenPipe t e = lands 0 0 at.OpenPipe t at.CloseReceived e (record { open_spent = omega arith; close_spent = omega arith })
takes_close_spends at.OpenClosePipe t e = lands 0 0 at.OpenClosePipe t at.CloseReceived e (record { open_spent = omega arith; close_spent = omega arith })
takes_close_spends at.OpenReceived t e = lands 0 0 at.OpenReceived t at.CloseReceived e (record { open_spent = omega arith; close_spent = omega arith })
takes_close_spends at.OpenSent t e = lands 0 0 at.OpenSent t at.CloseReceived e (record { open_spent = omega arith; close_spent = omega arith })
takes_close_spends at.Opened t e = lands 0 0 at.Opened t at.CloseReceived e (record { open_spent = omega arith; close_spent = omega arith })
takes_close_spends at.CloseSent t e = lands 0 0 at.CloseSent t at.End e (record { open_spent = omega arith; close_spent = omega arith })
takes_close_spends at.Discarding t e = lands 0 0 at.Discarding t at.End e (record { open_spent = omega arith; close_spent = omega arith })
takes_close_spends s t e = absurd cc
