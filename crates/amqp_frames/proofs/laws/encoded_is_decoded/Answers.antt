use Rattle.amqp_frames.proofs.EncodedFrameLemmas.{whole_is_decoded, cut_is_decoded, empty_is_decoded}
use Rattle.amqp_frames.proofs.laws.encoded_is_decoded.Goals as goal

pub returns : goal.returns
returns c = record {
  whole = whole_is_decoded c.args.performative.now c.text_is_read.ensures.spelled;
  cut = cut_is_decoded c.args.performative.now c.text_is_read.ensures.cut;
  empty = empty_is_decoded;
}
