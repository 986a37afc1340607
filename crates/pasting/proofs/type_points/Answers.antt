-- `pasting::type_points` clears the slots of the replica, which then means the same, and types on it.
use Rattle.std.proofs.Common.{◌≡◌, length, subst, ◌∙◌}
use native.Mathlib.Omega.{arith}
use lib.Seq.{length-take-le}
use Rattle.woot.specs.State.{State}
use Rattle.woot.specs.Memory.{code_point_column}
use Rattle.memory.specs.Lent.{view, viewed}
use Rattle.memory.proofs.Fullness.{column-length, full-view}
use Rattle.memory.proofs.Stored.{document-parts, character-count, pending-count}
use Rattle.typing.specs.Steps.{points_in, AllTyped}
use Rattle.pasting.proofs.Clearing.{some-few, clearable, cleared_meant, cleared_typeable}
use Rattle.pasting.proofs.type_points.Goals.{Start}
use Rattle.pasting.proofs.type_points.Goals as goal

-- as many code points as are counted
counted : (s : Start) → length (points_in s.args.count s.args.typed.now) ≡ s.args.count
counted s =
    length-take-le s.args.count (code_point_column s.args.typed.now)
    (omega (arith, some-few (viewed s.args.replica.now) s.requires.spacious, column-length 1024 3 s.args.typed.now (omega (arith, s.requires.typed_len))))

pub clear-requires : goal.clear-requires
clear-requires c =
    record {
      full = c.requires.full;
      lent = clearable (viewed c.args.replica.now) c.requires.spacious (full-view _ c.requires.full);
    }

pub type_all-requires : goal.type_all-requires
type_all-requires c =
    let r = viewed c.args.replica.now in
    let x = c.requires.spacious in
    record {
      full = c.clear.ensures.full_after;
      typed_len = c.requires.typed_len;
      count_le_character_slots = some-few r x;
      unwritten = c.requires.unwritten;
      typeable = cleared_typeable r x c.clear.ensures.value (counted (goal.at.type_all-requires c).Start) c.requires.typed_value;
    }

pub returns-clause-put_back : goal.returns-clause-put_back
returns-clause-put_back c none =
    let d = view c.args.replica.now.document in
    let cleared = document-parts c.clear.ensures.value in
    let kept = c.type_all.ensures.put_back none in
    (kept.0, kept.1 ∙ cleared.length-is ∙ character-count d, kept.2 ∙ cleared.waiting-is ∙ pending-count d)

pub returns-clause-value : goal.returns-clause-value
returns-clause-value c =
    let done = c.type_all in
    subst
    (λ (t : State).
    AllTyped t c.args.point (points_in c.args.count c.args.typed.now) done.new.typed (viewed done.new.replica) done.result)
    (cleared_meant (viewed c.args.replica.now) c.requires.spacious c.clear.ensures.value) done.ensures.value
