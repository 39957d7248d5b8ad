use Rattle.indexmap.specs.IndexMap.{hasher_of}
use Rattle.amqp_session.specs.Links.{names_of, handles_of}
use Rattle.amqp_session.proofs.RelayAnswerLemmas.{in_table, asked}
use Rattle.amqp_session.proofs.link.Links.ask_flow.Goals as goal

pub ask_flow-requires : goal.ask_flow-requires
ask_flow-requires g c = in_table _ _ _ _ _ _ c.args.input.0 c.self.view_is c.requires

pub returns : goal.returns
returns g c =
    let there = in_table _ _ _ _ _ _ c.args.input.0 c.self.view_is c.requires in
    rw (← c.self.view_is) (asked (hasher_of c.self.inside.names) (names_of c.self.inside.names.entries) (handles_of c.self.inside.handles) c.self.inside.handles.vacant_key _ _ _ _ _ _ there c.ask_flow.ensures.asked)
