-- `waiting::pending_formed` adds two counts, each of which a slice holds.
use Rattle.std.proofs.Common.{ℕ, not, arith}
use lib.Dec.{eqb}
use Rattle.lists.proofs.Members.{keep-length}
use Rattle.well_formed.proofs.waiting.pending_formed.Goals as goal

pub overflow_add-ids : goal.overflow_add-ids
overflow_add-ids c =
    omega (arith, c.count_inserts.ensures, keep-length (λ (k : ℕ). not (eqb k 0)) c.args.own.now)
