-- Part: inner.
-- What a history says from any value on, as proofs go along it.
use Rattle.std.specs.Prelude.{ℕ, List, Option, fold}
use Rattle.amqp_session.specs.declared.link.AttachedLink.{AttachedLink}
use Rattle.amqp_session.specs.declared.link.LiveLink.{LiveLink}
use Rattle.amqp_session.specs.History.{SessionCall}
use Rattle.amqp_session.specs.Linked.{HandleUse, taken_by, live_by, input_by}
use Rattle.amqp_session.specs.Received.{announced_by, channel_by}

abbrev pub taken_from : {R : Type 0} → ℕ → HandleUse → List (SessionCall R) → HandleUse
taken_from k old H = fold (taken_by k) old H

abbrev pub live_from : {R : Type 0} → List ℕ → Option (LiveLink R) → List (SessionCall R) → Option (LiveLink R)
live_from name old H = fold (live_by name) old H

abbrev pub input_from : {R : Type 0} → ℕ → Option (AttachedLink R) → List (SessionCall R) → Option (AttachedLink R)
input_from h old H = fold (input_by h) old H

abbrev pub announced_from : {R : Type 0} → ℕ × ℕ → List (SessionCall R) → ℕ × ℕ
announced_from old H = fold announced_by old H

abbrev pub channel_from : {R : Type 0} → Option ℕ → List (SessionCall R) → Option ℕ
channel_from old H = fold channel_by old H
