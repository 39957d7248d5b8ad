-- Part: inner.
-- What a history gives from any value on, as proofs go along it.
use Rattle.std.specs.Prelude.{ℕ, List, Option, Bool, fold}
use Rattle.amqp_types.specs.Open.{OpenModel}
use Rattle.amqp_frames.specs.declared.frame.Frame.{Frame}
use Rattle.amqp_engine.specs.Entry.{Entry}
use Rattle.amqp_engine.specs.ByHistory.{along, channel_max_by, remote_open_by, held_by, route_by, forgotten_by, waiting_by}

abbrev pub channel_max_from : {R : Type 0} → OpenModel → ℕ → List (Entry R) → ℕ
channel_max_from own old H = along (channel_max_by own) old H

abbrev pub remote_open_from : {R : Type 0} → Option OpenModel → List (Entry R) → Option OpenModel
remote_open_from old H = along remote_open_by old H

abbrev pub held_from : {R : Type 0} → ℕ → Option ℕ → List (Entry R) → Option ℕ
held_from c old H = along (held_by c) old H

abbrev pub route_from : {R : Type 0} → ℕ → Option ℕ → List (Entry R) → Option ℕ
route_from c old H = along (route_by c) old H

abbrev pub forgotten_from : {R : Type 0} → ℕ → Bool → List (Entry R) → Bool
forgotten_from n old H = along (forgotten_by n) old H

abbrev pub last_frames_from : {R : Type 0} → List Frame → List (Entry R) → List Frame
last_frames_from old H = fold (λ fs e. waiting_by e.refusal e fs) old H
