-- Part: other calls.
-- Two runs in a row.
use Rattle.std.specs.Prelude.{◌≡◌, ℕ, zero, suc, ◌+◌, List, [], ◌++◌, length, map, Option, Some, None}
use Rattle.amqp_session.specs.Relay.{Relays}
use Rattle.amqp_engine.specs.declared.engine.input.Input.{Input}
use Rattle.amqp_engine.specs.declared.engine.answer.Answer.{Answer}
use Rattle.amqp_engine.specs.declared.engine.refusal.Refusal.{Refusal}
use Rattle.amqp_engine.specs.declared.engine.refusal.Refusal.TheVariants as refusal
use Rattle.amqp_engine.specs.EngineView.{EngineView}
use Rattle.amqp_engine.specs.Entry.{Entry}
use Rattle.amqp_engine.specs.Promise.{inputs_of}
use Rattle.amqp_engine.specs.Ran.{Ran}
use Rattle.amqp_engine.specs.RunInto.{RanInto}

-- A run leaves inputs and, perhaps, frames that wait. A second one goes on with those inputs and more. Then one run over both lists
-- of inputs may put out just this: what the first one put out, and after it what the second one did.
abbrev pub TwoRunsAreOne : {R : Type 0} → Relays R → Type 0
TwoRunsAreOne g =
    (wished : List (Entry _)) (v u w : EngineView _) (inputs left more rest : List (Input _)) (answers others first second : List Answer)
    → Ran g wished v inputs answers u left (answers ++ first)
    → Ran g [] u (left ++ more) others w rest (others ++ second)
    → Ran g wished v (inputs ++ more) answers w rest (answers ++ (first ++ second))

-- ---- a second run with wishes of its own

-- between two runs wishes were noted, and nothing else changed
abbrev pub OnlyWished : {R : Type 0} → EngineView R → EngineView R → Type 0
OnlyWished u t = t ≡ record u { wishes = t.wishes }

-- The second run asks for its own wishes first. Then inputs are taken from the front of both lists, and one run may put out just this that is
-- asked for all the entries, in order: the wishes and inputs of the first one, and after them the wishes and inputs of the second.
abbrev pub WishedRunsAreOne : {R : Type 0} → Relays R → Type 0
WishedRunsAreOne g =
    (wished own : List (Entry _)) (v u t w : EngineView _) (inputs left more rest : List (Input _))
    (answers others first second : List Answer)
    → (a : Ran g wished v inputs answers u left (answers ++ first))
    → OnlyWished u t
    → (b : Ran g own t (left ++ more) others w rest (others ++ second))
    → (inputs ++ more ≡ inputs_of (a.entries ++ b.entries) ++ rest)
    × Ran g ((wished ++ a.entries) ++ (own ++ b.entries)) v [] answers w [] (answers ++ (first ++ second))

-- ---- two runs into a buffer

-- The place of an input of a later run, where an earlier one took so many: it counts from the first input of that one. What waited from
-- before the later run is of the last input that the earlier one took.
abbrev pub counted_on : ℕ → Option ℕ → Option ℕ
counted_on taken (Some place) = Some (taken + place)
counted_on zero None = None
counted_on (suc last) None = Some last

abbrev pub refused_on : ℕ → Refusal → Refusal
refused_on taken (refusal.Input place e) = refusal.Input (taken + place) e
refused_on taken (refusal.Frame place f) = refusal.Frame (counted_on taken place) f

-- The first run took so many inputs. What both append is what one run appends: the bytes of the second after those of the first, and so the
-- refusals, with the places of the second counted on.
abbrev pub RunsIntoAreOne : {R : Type 0} → Relays R → Type 0
RunsIntoAreOne g =
    (v u w : EngineView _) (inputs left more rest : List (Input _)) (taken : ℕ)
    (out others sent sent' : List ℕ) (refusals noted told told' : List Refusal)
    → length inputs ≡ taken + length left
    → RanInto g v inputs out refusals u left (out ++ sent) (refusals ++ told)
    → RanInto g u (left ++ more) others noted w rest (others ++ sent') (noted ++ told')
    → RanInto g v (inputs ++ more) out refusals w rest (out ++ (sent ++ sent')) (refusals ++ (told ++ map (refused_on taken) told'))
