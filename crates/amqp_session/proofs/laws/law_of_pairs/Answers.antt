use Rattle.amqp_session.proofs.PairMoveLemmas.{allocate_move, begin_move, attach_move, flow_move, transfer_move, arrive_move}
use Rattle.amqp_session.proofs.PairMoveLemmas.{histories, in_order}
use Rattle.amqp_session.proofs.laws.law_of_pairs.Goals as goal

pub returns-clause-allocate_link : goal.returns-clause-allocate_link
returns-clause-allocate_link g c = allocate_move g.R.LinkRelay.gives

pub returns-clause-begin : goal.returns-clause-begin
returns-clause-begin g c = begin_move g.R.LinkRelay.gives

pub returns-clause-send_attach : goal.returns-clause-send_attach
returns-clause-send_attach g c = attach_move g.R.LinkRelay.gives

pub returns-clause-send_flow : goal.returns-clause-send_flow
returns-clause-send_flow g c = flow_move g.R.LinkRelay.gives

pub returns-clause-send_transfer : goal.returns-clause-send_transfer
returns-clause-send_transfer g c = transfer_move g.R.LinkRelay.gives

pub returns-clause-arrive : goal.returns-clause-arrive
returns-clause-arrive g c = arrive_move g.R.LinkRelay.gives

pub returns-clause-histories : goal.returns-clause-histories
returns-clause-histories g c = histories g.R.LinkRelay.gives

pub returns-clause-order : goal.returns-clause-order
returns-clause-order g c = in_order g.R.LinkRelay.gives
