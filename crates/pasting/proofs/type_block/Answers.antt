-- `pasting::type_block` reads the code points, and types them on a copy of the replica, which is answered where all were typed.
use mathlib.Core.Path.{◌≡◌, ◌∙◌}
use native.Mathlib.Omega.{arith}
use Rattle.memory.specs.Lent.{viewed}
use Rattle.memory.proofs.Fullness.{FullArrays, full-replica}
use Rattle.typing.specs.Steps.{Unwritten, points_in}
use Rattle.pasting.specs.Replicas.{pasted_as}
use Rattle.pasting.proofs.Clearing.{some-few}
use Rattle.pasting.proofs.Finishing.{points-are, blank_unwritten, blank_length, wiped, told-stopped, told-finished, coded, stopped_so, finished_so}
use Rattle.pasting.proofs.type_block.Goals.{After-read, Start}
use Rattle.pasting.proofs.type_block.Goals as goal

-- the arrays that were passed
full : (s : Start) → FullArrays s.args.replica.document
full s = full-replica s.well_formed.0

-- what was read
written : (c : After-read) → Unwritten c.requires.pasteable.points c.read.new.typed
written c = c.read.ensures _ c.requires.pasteable.read

points : (c : After-read) → points_in c.args.count c.read.new.typed ≡ c.requires.pasteable.points
points c = points-are c.requires.pasteable.many (written c)

pub read-requires : goal.read-requires
read-requires c =
    let p = c.requires.pasteable in
    let blank = c.requires.typed_value in
    record {
      typed_len = blank_length blank;
      readable = record { points = p.points; read = p.read; few = omega (arith, some-few _ p.spacious, p.many) };
      unwritten = blank_unwritten blank;
    }

pub type_points-requires : goal.type_points-requires
type_points-requires c =
    let read = (goal.at.type_points-requires c).After-read in
    record {
      full = full (goal.at.type_points-requires c).Start;
      typed_len = c.read.auto.typed ∙ blank_length c.requires.typed_value;
      unwritten = rw (points read) (written read);
      typed_value = rw (points read) (coded c.args.replica _ _ c.requires.pasteable);
      spacious = c.requires.pasteable.spacious;
    }

pub returns-in-Some : goal.returns-in-Some
returns-in-Some c =
    let m = c.type_points in
    let read = (goal.at.returns-in-Some c).After-read in
    finished_so c.args.replica _ _ c.requires.pasteable _ m.ensures.full_after _ _
    (told-finished _ _ (points read) _ (viewed m.new.replica) m.ensures.value c.in-Some.is)

pub returns-in-None : goal.returns-in-None
returns-in-None c =
    let m = c.type_points in
    let read = (goal.at.returns-in-None c).After-read in
    let long = m.auto.typed ∙ c.read.auto.typed ∙ blank_length c.requires.typed_value in
    let clear = c.clear.ensures ∙ wiped m.new.typed long in
    (λ j. pasted_as (c.untyped.ensures j) (clear j))
    ∙ stopped_so c.args.replica _ _ c.requires.pasteable
    (told-stopped _ _ (points read) _ (viewed m.new.replica) m.ensures.value c.in-None.is)
