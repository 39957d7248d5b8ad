use Rattle.std.proofs.Common.{◌<◌, ◌≤◌, ◌^◌, ◌≡◌, ◌++◌, ◌∙◌, Ok, ℕ, List, length, ap, sym, subst, arith}
use Rattle.amqp_types.specs.declared.performatives.Performative.TheVariants as performative
use Rattle.amqp_types.specs.Begin.{BeginModel}
use Rattle.amqp_types.specs.Performatives.{performative_text}
use Rattle.amqp_frames.specs.declared.frame.Frame.{Frame}
use Rattle.amqp_frames.specs.Frame.{header_text}
use Rattle.amqp_engine.specs.RunFrame.{ReadFrom}
use Rattle.amqp_driver.specs.declared.answered.BeginAnswer.{BeginAnswer}
use Rattle.amqp_driver.specs.Answering.{TakesIn}
use Rattle.amqp_driver.specs.Driver.{RunsRead}
use Rattle.amqp_driver.specs.Turn.{begin_frame}
use Rattle.amqp_driver.proofs.AnsweringLemmas.{begin_reads, takes_in}
use Rattle.amqp_driver.proofs.driver.Driver.take_theirs.Goals as goal

pub returns : goal.returns
returns g c =
    let b : BeginModel = c.as_answer-theirs.result in
    let bytes : List ℕ = header_text c.args.remote ++ performative_text (performative.Begin b) in
    let value : c.encoded_len.result ≡ length (performative_text (performative.Begin b)) = c.encoded_len.ensures.value in
    let most : c.from.result ≡ 4294967295 = c.from.ensures in
    let less : c.encoded_len.result ≤ c.from.result = c.if-encoded_len-from.false in
    let short : length (performative_text (performative.Begin b)) < 2 ^ 32 = omega arith in
    let from : ReadFrom bytes (Ok (begin_frame c.args.remote b)) =
    begin_reads c.kinds_are_read.ensures c.lists_are_read.ensures c.args.remote b c.ranges.remote.fits (c.begin_is_spelled.ensures short) in
    subst (λ (a : BeginAnswer). TakesIn g.R.LinkRelay.gives c.args.self.now c.args.remote c.args.theirs c.args.channel c.args.number a c.run_read.new.self)
    (sym c.taken_as.ensures)
    (takes_in g.R.LinkRelay.gives c.args.self.now c.run_read.new.self c.args.remote c.args.theirs c.args.channel c.args.number bytes c.run_read.result c.requires
    (subst (λ (x : BeginModel). ReadFrom bytes (Ok (begin_frame c.args.remote x))) c.as_answer-theirs.ensures from)
    (subst (λ (f : Frame). RunsRead g.R.LinkRelay.gives c.args.self.now (Ok f) c.run_read.result c.run_read.new.self)
    (c.new-frame.ensures ∙ ap (λ (x : BeginModel). begin_frame c.args.remote x) c.as_answer-theirs.ensures) c.run_read.ensures))
