use Rattle.std.proofs.Common.{◌≡◌, ◌<◌, ◌^◌, Ok, ap, subst, ◌∙◌}
use Rattle.amqp_driver.specs.Heads.{has}
use Rattle.amqp_links.specs.declared.session.sending.SentPart.{SentPart}
use Rattle.amqp_links.specs.Ends.{end_at}
use Rattle.amqp_links.specs.Preparing.{PreparesAt}
use Rattle.amqp_endpoints.specs.Endpoint.{EndpointView}
use Rattle.amqp_endpoints.specs.Sending.{AsksPart, SendsAs, end_of, is_first_of, lets_go, number_of, part_of}
use Rattle.amqp_endpoints.proofs.SendingLemmas.{parts_same, sends_part}
use Rattle.amqp_endpoints.proofs.endpoint.SessionEndpoint.send.Goals as goal

pub returns-in-Ok : goal.returns-in-Ok
returns-in-Ok g c =
    let v = c.args.self.now in
    let head = c.args.head.now in
    let begins = c.is_first_of-is_first.result in
    let q = c.in-Ok.prepared in
    let m = c.prepare_send.new.self in
    let first : begins ≡ is_first_of (end_at v.links.ends head.link) =
    c.is_first_of-is_first.ensures ∙ ap is_first_of (c.end.ensures ∙ ap (λ (x : EndpointView). end_at x.links.ends head.link) c.self.view_is) in
    let p = part_of v c.args.stream.now head c.args.given begins in
    let asked : SentPart = record {
      number = c.number_of.result;
      size = c.from.result;
      end = c.end_of.result;
      settled = c.is_set.result;
      given = c.args.given;
    } in
    let number : c.number_of.result ≡ number_of v c.args.stream.now head.link begins = c.number_of.ensures in
    let same = parts_same c.args.given c.number_of.result (number_of v c.args.stream.now head.link begins) c.from.result head.payload
    c.end_of.result (end_of head.flags) c.is_set.result (has head.flags 2) number c.from.ensures c.end_of.ensures c.is_set.ensures in
    let prepares : PreparesAt (end_at v.links.ends head.link) v.links head.link p (Ok q) m =
    subst (λ y. PreparesAt (end_at v.links.ends head.link) v.links head.link y (Ok q) m) same
    (subst (λ (x : EndpointView). PreparesAt (end_at x.links.ends head.link) x.links head.link asked (Ok q) m) c.self.view_is c.in-Ok.ensures) in
    let lets : c.lets_go-lets_go.result ≡ lets_go v p begins = c.lets_go-lets_go.ensures ∙ ap (λ (y : SentPart). lets_go v y begins) same in
    let asks : AsksPart (lets_go v p begins) g.R.LinkRelay.gives (record v { links = m }) c.args.stream.now head c.args.bytes.now begins q c.ask_part.result
    c.ask_part.new.stream c.ask_part.new.self =
    subst (λ b. AsksPart b g.R.LinkRelay.gives (record v { links = m }) c.args.stream.now head c.args.bytes.now begins q c.ask_part.result
    c.ask_part.new.stream c.ask_part.new.self) lets
    (subst (λ (x : EndpointView). AsksPart c.lets_go-lets_go.result g.R.LinkRelay.gives (record x { links = m }) c.args.stream.now head c.args.bytes.now begins q
    c.ask_part.result c.ask_part.new.stream c.ask_part.new.self) c.self.view_is c.ask_part.ensures) in
    subst (λ b. SendsAs g.R.LinkRelay.gives v c.args.stream.now head c.args.bytes.now (part_of v c.args.stream.now head c.args.given b) b c.ask_part.result
    c.ask_part.new.stream c.ask_part.new.self) first
    (sends_part (lets_go v p begins) g.R.LinkRelay.gives v c.ask_part.new.self m c.args.stream.now c.ask_part.new.stream head c.args.bytes.now p begins q
    c.ask_part.result (subst (λ n. n < 2 ^ 32) number c.number_of.type_inv) first prepares asks)
