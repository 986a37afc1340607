-- `replica::receive` decides on the operation and carries the decision out on the replica.
use Rattle.memory.proofs.Fullness.{FullArrays, full-replica}
use Rattle.replica.proofs.Returning.{received_so}
use Rattle.replica.proofs.receive.Goals.{Start}
use Rattle.replica.proofs.receive.Goals as goal

-- the arrays that were passed
full : (s : Start) → FullArrays s.args.replica.document
full s = full-replica s.well_formed.0

pub decide-decision-requires : goal.decide-decision-requires
decide-decision-requires c = full (goal.at.decide-decision-requires c).Start

pub carry_out-counts-requires : goal.carry_out-counts-requires
carry_out-counts-requires c =
    let f = full (goal.at.carry_out-counts-requires c).Start in
    record { characters_len = f.characters; pending_len = f.pending; feasible = c.decide-decision.ensures.feasible }

pub returns : goal.returns
returns c =
    let done = c.carry_out-counts in
    let f = full (goal.at.returns c).Start in
    received_so c.args.replica _ f (done.ensures.full_after f) _ _ _ _ _ c.answer-answer.ensures c.decide-decision.ensures done.ensures.value
