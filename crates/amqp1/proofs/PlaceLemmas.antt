-- What the exports owe, from what the calls that they make give. Assumes nothing but the calls' contracts.
use Rattle.std.proofs.Common.{◌≡◌, ◌⊎◌, refl, sym, subst, ap, ◌∙◌, ℕ, ℤ, List, Option, None, Some, Result, Ok, inl, inr, pos, w32, of_z, to_z}
use Rattle.std.specs.Prelude.{IsSomeAnd}
use Rattle.amqp_memory.specs.Refusal.{SomeRefused}
use Rattle.amqp_session.specs.Relay.{Relays}
use Rattle.amqp_driver.specs.declared.head.Sent.{Sent}
use Rattle.amqp_driver.specs.declared.head.TransferHead.{TransferHead}
use Rattle.amqp_driver.specs.declared.plain.PlainRelay.{PlainRelay}
use Rattle.amqp_driver.specs.declared.record.Record.{Record}
use Rattle.amqp_driver.specs.declared.status.Status.{Status as DriverStatus}
use Rattle.amqp_driver.specs.declared.cut.Cut.{Cut}
use Rattle.amqp_driver.specs.Cutting.{cut_of}
use Rattle.amqp_driver.specs.Driver.{seen}
use Rattle.amqp_driver.specs.StreamTaking.{TakesStream, heard}
use Rattle.amqp_driver.specs.StreamTicking.{PostsStream, TicksStream}
use Rattle.amqp_idle.specs.declared.due.Tick.{Tick}
use Rattle.amqp1.specs.declared.exports.Took.{Took}
use Rattle.amqp1.specs.declared.exports.Ticked.{Ticked}
use Rattle.amqp1.specs.declared.exports.Went.{Went}
use Rattle.amqp1.specs.declared.how.How.{How}
use Rattle.amqp1.specs.declared.logins.LoginHead.{LoginHead}
use Rattle.amqp1.specs.Ticking.{ticked_of}
use Rattle.amqp1.specs.Answering.{AnswersOne}
use Rattle.amqp1.specs.Client.{Calls}
use Rattle.amqp1.specs.ClientView.{ClientView}
use Rattle.amqp1.specs.Making.{Makes}
use Rattle.amqp1.specs.Status.{status_number, taken_status}
use Rattle.amqp1.specs.declared.operation.Operation.{Operation}
use Rattle.amqp1.specs.declared.status.Status.{Status}
use Rattle.amqp1.specs.declared.status.Status.TheVariants as status
use Rattle.amqp1.specs.Occupant.{newly}
use Rattle.amqp1.specs.OccupantView.{OccupantView}
use Rattle.amqp1.specs.Place.{CallsOne, CutsOne, DoesThere, HearsOne, Is, LiesAgain, MadeThere, SendsOne, TakesOne, TicksOne}

-- what is said of what is there is so
pub of_some : {B : Type 0} (P : B → Type 0) (r : Option B) (x : B) → r ≡ Some x → IsSomeAnd r P → P x
of_some P r x e h = subst (λ (s : Option _). IsSomeAnd s P) e h

-- a status is what it is as a number of 32 bits
kept_number : (s : Status) → to_z w32 (of_z w32 (pos (status_number s))) ≡ pos (status_number s)
kept_number status.Done = refl
kept_number status.Refused = refl
kept_number status.NoMemory = refl
kept_number status.TooSmall = refl
kept_number status.BadArgument = refl
kept_number status.NoEngine = refl
kept_number status.Full = refl
kept_number status.BadSize = refl
kept_number status.Short = refl
kept_number status.Again = refl
kept_number status.Waits = refl
kept_number status.Over = refl
kept_number status.TooLarge = refl
kept_number status.Nothing = refl
kept_number status.Lost = refl
kept_number status.Broken = refl
kept_number status.NotReleased = refl
kept_number status.NotForgotten = refl
kept_number status.NotDetached = refl
kept_number status.Unsettled = refl
kept_number status.NotNext = refl
kept_number status.NoLink = refl
kept_number status.InUse = refl
kept_number status.HeldBack = refl

kept : (s : Status) (z : ℤ) → z ≡ pos (status_number s) → to_z w32 (of_z w32 z) ≡ z
kept s z e = subst (λ (x : ℤ). to_z w32 (of_z w32 x) ≡ x) (sym e) (kept_number s)

kept_of : (g : Relays PlainRelay) (o : Option Operation) (c : ClientView) (input old : List ℕ) (z : ℤ) (n : ℕ) (c' : ClientView) (new : List ℕ)
    → Calls g o c input old z n c' new → to_z w32 (of_z w32 z) ≡ z
kept_of g None c input old z n c' new h = kept status.BadArgument z h.0
kept_of g (Some o) c input old z n c' new h = kept h.0 z h.1

-- what lay in a place takes a step, and lies there again
pub lies_again : (before after : Option OccupantView) (Step : OccupantView → OccupantView → Type 0) (was is : OccupantView) → before ≡ Some was → after ≡ Some is
    → Step was is → LiesAgain before after Step
lies_again before after Step was is b f steps = record { was = was; is = is; lay_there = b; lies_there = f; steps = steps }

pub is_status : (s : Status) (z : ℤ) → z ≡ pos (status_number s) → Is (to_z w32 (of_z w32 z)) s
is_status s z e = kept s z e ∙ e

-- and C is answered this status
pub does_there : (before after : Option OccupantView) (z : ℤ) (Step : OccupantView → Status → OccupantView → Type 0) (s : Status) (was is : OccupantView)
    → before ≡ Some was → after ≡ Some is → z ≡ pos (status_number s) → Step was s is → DoesThere before (to_z w32 (of_z w32 z)) after Step
does_there before after z Step s was is b f e steps = lies_again before after _ was is b f (s, is_status s z e, steps)

-- a client that was made lies there, or there was no memory for its box
pub made_there : (g : Relays PlainRelay) (how : How) (open_bytes : List ℕ) (heads : List LoginHead) (bytes : List ℕ) (z : ℤ) (full : ℕ)
    (held : Option OccupantView) (r : Result ClientView ℤ) (c : ClientView) (o : OccupantView) → r ≡ Ok c → Makes g how open_bytes heads bytes r → o ≡ newly c
    → ((z ≡ pos 0) × (full ≡ 1) × (held ≡ Some o)) ⊎ ((z ≡ pos 2) × (full ≡ 0) × SomeRefused)
    → MadeThere g how open_bytes heads bytes (to_z w32 (of_z w32 z)) full held
made_there g how open_bytes heads bytes z full held r c o is makes new (inl h) = subst (λ (y : ℤ). MadeThere g how open_bytes heads bytes y full held) (sym (kept status.Done z h.0))
    (inl (h.0, h.1, c, h.2 ∙ ap Some new, subst (λ (x : Result ClientView ℤ). Makes g how open_bytes heads bytes x) is makes))
made_there g how open_bytes heads bytes z full held r c o is makes new (inr h) = subst (λ (y : ℤ). MadeThere g how open_bytes heads bytes y full held) (sym (kept status.NoMemory z h.0))
    (inr (h.1, inl (h.0, h.2)))

-- ---- the steps of a client, with the number that C is answered

pub calls_one : (g : Relays PlainRelay) (operation : ℕ) (input old : List ℕ) (z : ℤ) (n : ℕ) (new : List ℕ) (c c' : ClientView)
    → CallsOne g operation input old z n new c c' → CallsOne g operation input old (to_z w32 (of_z w32 z)) n new c c'
calls_one g operation input old z n new c c' calls = subst (λ (x : ℤ). CallsOne g operation input old x n new c c')
    (sym (kept_of g calls.0 c input old z n c' new calls.2)) calls

pub takes_one : (g : Relays PlainRelay) (now : ℕ) (input : List ℕ) (old new : List Record) (z : ℤ) (a : Took) (s : DriverStatus) (c c' : ClientView)
    → z ≡ pos (status_number (taken_status s)) → TakesStream g c.stream now (seen input) old s a.taken a.written a.wanted c'.stream new → c'.last ≡ c.last
    → TakesOne g now input old (to_z w32 (of_z w32 z)) a new c c'
takes_one g now input old new z a s c c' e takes last = (s, is_status (taken_status s) z e, takes, last)

pub sends_one : (g : Relays PlainRelay) (heads : List TransferHead) (bytes : List ℕ) (old new : List Sent) (z : ℤ) (a : Went) (s : DriverStatus) (c c' : ClientView)
    → z ≡ pos (status_number (taken_status s)) → PostsStream g c.stream heads bytes old s a.taken a.used c'.stream new → c'.last ≡ c.last
    → SendsOne g heads bytes old (to_z w32 (of_z w32 z)) a new c c'
sends_one g heads bytes old new z a s c c' e sends last = (s, is_status (taken_status s) z e, sends, last)

pub hears_one : (now : ℕ) (z : ℤ) (c c' : ClientView) → z ≡ pos (status_number status.Done) → c'.stream ≡ record c.stream { clock = heard 1 now c.stream.clock }
    → c'.last ≡ c.last → HearsOne now (to_z w32 (of_z w32 z)) c c'
hears_one now z c c' e hears last = (is_status status.Done z e, hears, last)

pub ticks_one : (g : Relays PlainRelay) (now : ℕ) (z : ℤ) (a : Ticked) (t : Tick) (c c' : ClientView) → z ≡ pos (status_number status.Done)
    → TicksStream g c.stream now t c'.stream → c'.last ≡ c.last → a ≡ ticked_of t → TicksOne g now (to_z w32 (of_z w32 z)) a c c'
ticks_one g now z a t c c' e ticks last answer = (is_status status.Done z e, (t, ticks, answer), last)

pub answers_one : (g : Relays PlainRelay) (flags n : ℕ) (r : Record) (input : List ℕ) (z : ℤ) (s : Status) (c c' : ClientView) → z ≡ pos (status_number s)
    → AnswersOne g c flags n r input s c' → (said : Status) × Is (to_z w32 (of_z w32 z)) said × AnswersOne g c flags n r input said c'
answers_one g flags n r input z s c c' e answers = (s, is_status s z e, answers)

-- a head was cut, or memory was refused
pub cuts_one : (head : TransferHead) (bytes : List ℕ) (old new : Cut) (z : ℤ) (c : ClientView) → z ≡ pos (status_number status.Done)
    → new ≡ cut_of c.stream.driver.engine.limit head bytes → CutsOne head bytes old (to_z w32 (of_z w32 z)) new c c
cuts_one head bytes old new z c e is = (refl, inl (is_status status.Done z e, is))

pub cuts_none : (head : TransferHead) (bytes : List ℕ) (old new : Cut) (z : ℤ) (c : ClientView) → z ≡ pos (status_number status.NoMemory) → new ≡ old → SomeRefused
    → CutsOne head bytes old (to_z w32 (of_z w32 z)) new c c
cuts_none head bytes old new z c e is r = (refl, inr (is_status status.NoMemory z e, is, r))
