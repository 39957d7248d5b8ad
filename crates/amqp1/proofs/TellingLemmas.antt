-- Memory that was refused for a part of a text was refused for the text.
use Rattle.std.proofs.Common.{◌≡◌, ◌≤◌, ◌+◌, inl, ℕ, List, ◌∷◌, ◌++◌, length, arith}
use Rattle.std.proofs.lemmas.List.{length-append}
use Rattle.amqp_memory.specs.Refusal.{RefusedWithin}
use Rattle.amqp1.specs.declared.status.Status.{Status}
use Rattle.amqp1.specs.declared.status.Status.TheVariants as status
use Rattle.amqp1.specs.Telling.{Ungranted, WritesIfGranted, lines}
use Rattle.amqp1.specs.Writing.{Writes}

within : (a b : ℕ) → a ≤ b → RefusedWithin a → RefusedWithin b
within a b h r = record { places = r.places; at_most = let k : r.places ≤ a = r.at_most in omega arith; was = r.was }

length_lines : (f s t : List ℕ) → length (lines f s t) ≡ length f + (1 + (length s + (1 + length t)))
length_lines f s t = rw (length-append f (10 ∷ (s ++ (10 ∷ t))), length-append s (10 ∷ t)) (omega arith)

pub of_first : (f s t : List ℕ) → RefusedWithin (length f) → Ungranted (lines f s t)
of_first f s t r = inl (within (length f) (length (lines f s t)) (let e = length_lines f s t in omega arith) r)

pub of_feed : (f s t : List ℕ) → RefusedWithin 1 → Ungranted (lines f s t)
of_feed f s t r = inl (within 1 (length (lines f s t)) (let e = length_lines f s t in omega arith) r)

pub of_second : (f s t : List ℕ) → RefusedWithin (length s) → Ungranted (lines f s t)
of_second f s t r = inl (within (length s) (length (lines f s t)) (let e = length_lines f s t in omega arith) r)

pub of_third : (f s t : List ℕ) → RefusedWithin (length t) → Ungranted (lines f s t)
of_third f s t r = inl (within (length t) (length (lines f s t)) (let e = length_lines f s t in omega arith) r)

-- what is written is written if memory is granted
pub written : (text old : List ℕ) (s : Status) (n : ℕ) (new : List ℕ) → Writes text old s n new → WritesIfGranted text old s n new
written text old status.NoMemory n new h = absurd h
written text old s n new h = h
