-- What follows from a refusal, without what one is.
use Rattle.std.proofs.Common.{ℕ, ◌≤◌, ◌^◌, Result, Ok, Err, OnErr, arith}
use Rattle.amqp_memory.specs.Refusal.{RefusedWithin, SomeRefused}

pub within : {a b : ℕ} → a ≤ b → RefusedWithin a → RefusedWithin b
within p w = record { places = w.places; at_most = omega (arith, p, w.at_most); was = w.was }

pub some : {a : ℕ} → a ≤ 2 ^ 34 → RefusedWithin a → SomeRefused
some p w = record { places = w.places; few = omega (arith, p, w.at_most); was = w.was }

pub on_err_within : {X E : Type 0} (r : Result X E) {a b : ℕ} → a ≤ b → OnErr r (RefusedWithin a) → OnErr r (RefusedWithin b)
on_err_within (Ok x) p w = tt
on_err_within (Err e) p w = within p w

pub on_err_some : {X E : Type 0} (r : Result X E) {a : ℕ} → a ≤ 2 ^ 34 → OnErr r (RefusedWithin a) → OnErr r SomeRefused
on_err_some (Ok x) p w = tt
on_err_some (Err e) p w = some p w

pub err_within : {X E : Type 0} (r : Result X E) {a b : ℕ} → a ≤ b → RefusedWithin a → OnErr r (RefusedWithin b)
err_within (Ok x) p w = tt
err_within (Err e) p w = within p w

pub err_some : {X E : Type 0} (r : Result X E) {a : ℕ} → a ≤ 2 ^ 34 → RefusedWithin a → OnErr r SomeRefused
err_some (Ok x) p w = tt
err_some (Err e) p w = some p w
