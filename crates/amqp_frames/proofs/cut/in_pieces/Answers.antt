use Rattle.std.proofs.Common.{◌≡◌, ◌++◌, ◌-◌, ◌*◌, ◌/◌, [], ◌∷◌, ℕ, take, drop, length, ap, ◌∙◌}
use Rattle.amqp_frames.specs.Frame.{header_text}
use Rattle.amqp_frames.specs.Piece.{PieceParts}
use Rattle.amqp_frames.specs.Cut.{middle_text}
use Rattle.amqp_frames.proofs.PayloadCutLemmas.{in_pieces, adds_from}
use Rattle.amqp_frames.proofs.cut.in_pieces.Goals as goal

pub returns-clause-pieces : goal.returns-clause-pieces
returns-clause-pieces c =
    let t = c.args.transfer.now in
    let p = c.args.payload.now in
    let clone : c.in_ok-rest.rest ≡ p = c.in_ok-rest.ensures.ok in
    let one = c.push_reserved.ensures.items ∙ ap (λ r. r ++ c.own.result ∷ []) c.in_ok-pieces.ensures.items in
    let done = c.push_reserved-2.ensures.items in
    in_pieces c.args.channel t p c.args.front c.args.step c.own.result c.own-2.result c.put_middle.new.pieces.items c.push_reserved-2.new.self.items c.front_of.new.bytes c.put_middle.new.rest
    c.requires.some c.requires.step
    (ap (λ (x : PieceParts). x.head) c.own.ensures ∙ c.in_ok-head.ensures.head)
    (ap (λ (x : PieceParts). x.payload) c.own.ensures ∙ c.in_ok-part.ensures.front ∙ ap (take c.args.front) clone)
    (c.in_ok-part.ensures.rest ∙ ap (drop c.args.front) clone)
    (adds_from (header_text c.args.channel ++ middle_text t) c.args.step c.push_reserved.new.self.items (c.own.result ∷ []) c.put_middle.new.pieces.items c.front_of.new.bytes c.put_middle.new.rest
    (c.args.step * ((c.len.result - c.args.front - 1) / c.args.step)) (c.args.step * ((length p - c.args.front - 1) / c.args.step))
    one (ap (λ (n : ℕ). c.args.step * ((n - c.args.front - 1) / c.args.step)) c.len.ensures.value) c.in_ok-put_middle.ensures.added)
    (ap (λ (x : PieceParts). x.head) c.own-2.ensures ∙ c.in_ok-head-2.ensures.head)
    (ap (λ (x : PieceParts). x.payload) c.own-2.ensures)
    done
