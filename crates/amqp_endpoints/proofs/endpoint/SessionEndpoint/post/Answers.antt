use Rattle.std.proofs.Common.{[], ◌∷◌, refl, slice_index_or, subst}
use Rattle.amqp_driver.specs.StreamTicking.{PostsStream}
use Rattle.amqp_endpoints.specs.Sending.{no_sent}
use Rattle.amqp_endpoints.proofs.endpoint.SessionEndpoint.post.Goals as goal

pub returns-in_default : goal.returns-in_default
returns-in_default g c = (
  slice_index_or c.send-posted.new.sent 0 no_sent,
  c.in_default.not-Done,
  (
    c.send-posted.result.taken,
    c.send-posted.result.used,
    c.send-posted.new.sent,
    subst
        (λ h. PostsStream g.R.LinkRelay.gives c.args.stream.now (h ∷ []) c.args.bytes.now (no_sent ∷ []) c.send-posted.result.status
        c.send-posted.result.taken c.send-posted.result.used c.send-posted.new.self c.send-posted.new.sent)
        c.whole_head-whole.ensures c.send-posted.ensures,
    refl,
  ),
)
