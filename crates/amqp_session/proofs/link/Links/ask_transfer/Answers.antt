use Rattle.std.proofs.Common.{◌≡◌, IsSome, refl, ap, sym, subst, ◌∙◌, nat_eq, lit≤}
use Rattle.amqp_types.specs.Transfer.{TransferModel}
use Rattle.std.specs.Map.{lookup, set_value}
use Rattle.indexmap.specs.IndexMap.{set_value_at, hasher_of}
use Rattle.amqp_session.specs.Links.{names_of, handles_of}
use Rattle.amqp_session.specs.Relay.{Asked, of_transfer}
use Rattle.amqp_session.proofs.AbsenceLemmas.{none_found, some_found, some_is}
use Rattle.amqp_session.proofs.FiniteMapLemmas.{get_at}
use Rattle.amqp_session.proofs.NumberedMapLemmas.{lent_at}
use Rattle.amqp_session.proofs.RelayAnswerLemmas.{asked}
use Rattle.amqp_session.proofs.link.Links.ask_transfer.Goals as goal

pub returns-in_default-clause-unasked : goal.returns-in_default-clause-unasked
returns-in_default-clause-unasked g c =
    let handle : c.transfer.inside.handle.0 ≡ c.args.transfer.handle = ap (λ (t : TransferModel). t.handle) c.transfer.view_is in
    let none = none_found _ _ c.index_of.ensures.found c.in_default.is in
    rw (← c.self.view_is, ← handle) (get_at c.self.inside.inputs.entries c.transfer.inside.handle.0 ∙ none, refl)

pub returns-in_default-reserve-clause-unasked : goal.returns-in_default-reserve-clause-unasked
returns-in_default-reserve-clause-unasked g c =
    let handle : c.transfer.inside.handle.0 ≡ c.args.transfer.handle = ap (λ (t : TransferModel). t.handle) c.transfer.view_is in
    let some = some_found _ _ _ c.index_of.ensures.found c.in-Some.is in
    rw (← c.self.view_is, ← handle) ((subst IsSome (sym (get_at c.self.inside.inputs.entries c.transfer.inside.handle.0)) some, c.in_default-reserve.ensures.refused (lit≤ tt)), refl)

pub returns-clause-asked : goal.returns-clause-asked
returns-clause-asked g c =
    let handle : c.transfer.inside.handle.0 ≡ c.args.transfer.handle = ap (λ (t : TransferModel). t.handle) c.transfer.view_is in
    let found = rw (handle) at c.in-Some.ensures.there in
    let lent = rw c.unwrap-link.ensures at c.get_index_mut.ensures.value in
    let at = lent_at c.self.inside.inputs.entries c.in-Some.at c.args.transfer.handle found.0 c.unwrap-link.result.now c.get_index_mut.ensures.unique found.1 lent in
    let told : Asked (of_transfer g.R.LinkRelay.gives.transfer_gives) (lookup (nat_eq c.args.transfer.handle) c.self.inside.inputs.entries)
    (c.args.transfer, c.args.payload) c.on_incoming_transfer.result
    (λ link. set_value_at c.self.inside.inputs.entries c.in-Some.at (record { handle = c.unwrap-link.result.now.handle; relay = c.on_incoming_transfer.new.self })
    ≡ set_value (nat_eq c.args.transfer.handle) c.self.inside.inputs.entries link) = record {
      handle = c.unwrap-link.result.now.handle;
      before = c.unwrap-link.result.now.relay;
      after = _;
      attached = at.0;
      stands = c.on_incoming_transfer.ensures;
      put = at.1 _;
    } in
    rw (← c.self.view_is) (asked (hasher_of c.self.inside.names) (names_of c.self.inside.names.entries) (handles_of c.self.inside.handles) c.self.inside.handles.vacant_key _ _ _ _ _ _ (some_is _ _ told.attached) told)
