-- `delivery::defer` puts the numbers of the operation behind those that are there.
use Rattle.std.proofs.Common.{◌<◌}
use native.Mathlib.Omega.{arith}
use Rattle.memory.specs.Lent.{view}
use Rattle.memory.proofs.Stored.{document-path, document-parts, pending-count}
use Rattle.delivery.proofs.Changes.{pushed_parts}
use Rattle.delivery.proofs.defer.Goals.{After-clear}
use Rattle.delivery.proofs.defer.Goals as goal

-- there is a slot still
room : (c : After-clear) → c.clear.new.document.waiting < 512
room c =
    omega (arith, (document-parts c.clear.ensures.value).waiting-is, pending-count (view c.args.document.now), c.requires.waiting_lt_pending_slots)

pub push-requires-clause-w_lt_pending_slots : goal.push-requires-clause-w_lt_pending_slots
push-requires-clause-w_lt_pending_slots c = room (goal.at.push-requires-clause-w_lt_pending_slots c).After-clear

pub overflow_add-document : goal.overflow_add-document
overflow_add-document c = omega (arith, room (goal.at.overflow_add-document c).After-clear)

pub returns-clause-value : goal.returns-clause-value
returns-clause-value c =
    let e = c.push.ensures in
    document-path (pushed_parts (document-parts c.clear.ensures.value) _ (room (goal.at.returns-clause-value c).After-clear) e.pending_after e.pending_after_2 e.pending_after_3 e.pending_after_4)
