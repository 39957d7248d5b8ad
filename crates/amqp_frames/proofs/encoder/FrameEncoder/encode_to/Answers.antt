use Rattle.std.proofs.Common.{rules}
use Rattle.amqp_frames.specs.Cut.{Whole}
use Rattle.amqp_frames.proofs.SentFrameLemmas.{sent_whole}
use Rattle.amqp_frames.proofs.encoder.FrameEncoder.encode_to.Goals as goal

pub returns-then-is_within-clause-sent : goal.returns-then-is_within-clause-sent
returns-then-is_within-clause-sent c =
    let whole : Whole c.args.frame.now c.args.self.now = search rules in
    sent_whole c.args.frame.now c.args.self.now c.args.out.now.bytes c.put_frame.new.self.bytes whole (search rules) (search rules)
