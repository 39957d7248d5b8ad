use Rattle.std.proofs.Common.{rules, sym, subst, ◌∙◌}
use Rattle.std.proofs.lemmas.Bool.{eqb-true}
use Rattle.std.proofs.lemmas.List.{nil_from_length}
use Rattle.std.specs.Prelude.{Result, Ok, Err, Some, None}
use Rattle.amqp_frames.specs.declared.decoder.FrameHead.{FrameHead}
use Rattle.amqp_frames.specs.declared.error.Error.{Error}
use Rattle.amqp_frames.specs.FrameError.{error_of}
use Rattle.amqp_frames.specs.Head.{Opens}
use Rattle.amqp_frames.proofs.DecodedFrameLemmas.{failed}
use Rattle.amqp_frames.proofs.FrameHeadLemmas.{opened_from, unnamed}
use Rattle.amqp_frames.proofs.decoder.FrameDecoder.head.Goals as goal

pub returns-then-is_empty : goal.returns-then-is_empty
returns-then-is_empty c =
    let none = nil_from_length c.advance.new.self (eqb-true _ 0 (sym c.is_empty.ensures ∙ c.if-is_empty.true)) in
    opened_from c.kinds_are_read.ensures c.args.bytes.now c.as_slice-header.result.now c.advance.new.self c.advance.new.self c.from_be_bytes-channel.result c.as_slice-header.ensures c.advance.ensures
    c.if-header-lt4.false c.if-header-ne2.false c.if-header-ne0.false c.from_be_bytes-channel.ensures (Ok None) (none, none)

pub returns-in_err-read : goal.returns-in_err-read
returns-in_err-read c =
    let e = failed c.from_residual.result (error_of c.in_err-read.field-0.0) c.from_residual.ensures.1 in
    let none = unnamed c.in_err-read.field-0.0 c.advance.new.self c.read.new.bytes (search rules) c.in_err-read.ensures.malformed c.in_err-read.ensures.gives in
    subst (λ (r : Result FrameHead Error). Opens c.args.bytes.now c.read.new.bytes r) (sym e)
    (opened_from c.kinds_are_read.ensures c.args.bytes.now c.as_slice-header.result.now c.advance.new.self c.read.new.bytes c.from_be_bytes-channel.result c.as_slice-header.ensures c.advance.ensures
    c.if-header-lt4.false c.if-header-ne2.false c.if-header-ne0.false c.from_be_bytes-channel.ensures (Err (error_of c.in_err-read.field-0.0)) none)

pub returns : goal.returns
returns c =
    opened_from c.kinds_are_read.ensures c.args.bytes.now c.as_slice-header.result.now c.advance.new.self c.read.new.bytes c.from_be_bytes-channel.result c.as_slice-header.ensures c.advance.ensures
    c.if-header-lt4.false c.if-header-ne2.false c.if-header-ne0.false c.from_be_bytes-channel.ensures (Ok (Some c.in_ok-read.field-0)) (search rules, c.in_ok-read.ensures.gives)
