-- `saving::columns::measure` meets its contract, by the invariant of the loop over lines.
use Prim.Native.Nat.{ℕ, ◌+◌, ◌-◌, ◌≤◌}
use mathlib.Core.Path.{◌≡◌, ap, ◌∙◌}
use mathlib.Core.List.{List, []}
use lib.ListN.{length, take}
use Rattle.lines.specs.Room.{room_for}
use Rattle.lines.proofs.Sequences.{Measuring, measuring_begun, measuring_more, measuring_short, measuring_end}
use Rattle.saving.specs.Documents.{lists_of, lines_as, body_as}
use Rattle.saving.proofs.Documents.{lines_many, all_lines}
use Rattle.lines.specs.Lines.{concatenated}
use borrow.Author.Rules.{rules}
use native.Mathlib.Omega.{arith}
use Rattle.saving.proofs.columns.measure.Goals.{Start}
use Rattle.saving.proofs.columns.measure.Goals as goal

-- the lines that are lent
abbrev lines : Start → List (List ℕ)
lines s =
    let a = s.args in
    lines_as a.rows (lists_of a.places.now a.characters.now a.toggles.now a.n a.pending.now a.slots a.w)

many : (s : Start) → length (lines s) ≡ s.args.n + s.args.w
many s =
    let a = s.args in
    lines_many a.rows a.places.now a.characters.now a.toggles.now a.n a.pending.now a.slots a.w

whole : (s : Start) → let a = s.args in concatenated (λ l. l) (take (a.n + a.w) (lines s)) ≡ body_as a.rows (lists_of
    a.places.now a.characters.now a.toggles.now a.n a.pending.now a.slots a.w)
whole s =
    let a = s.args in
    all_lines a.rows a.places.now a.characters.now a.toggles.now a.n a.pending.now a.slots a.w

pub loop-i-init : goal.loop-i-init
loop-i-init c =
    (omega arith, measuring_begun (λ l. l) (lines (goal.at.loop-i-init c).Start) _ _ _ (omega (arith, many (goal.at.loop-i-init c).Start)) c.requires.at_le_size)

pub line-line-requires : goal.line-line-requires
line-line-requires c =
    record {
      has_slots = c.requires.has_slots;
      at_bound = c.loop-i-test.true;
    }

pub measure-room-requires : goal.measure-room-requires
measure-room-requires c = c.line-line.ensures.count_bound

pub returns-in_default : goal.returns-in_default
returns-in_default c =
    let l = c.loop-i in
    let e = c.measure-room.ensures ∙ ap (room_for c.args.size l.end) c.line-line.ensures.result_value in
    measuring_short (λ l. l) (lines (goal.at.returns-in_default c).Start) _ c.args.size c.args.at l.invariant.1 [] c.loop-i-test.true e
    c.in_default.is
    ∙ ap (room_for c.args.size c.args.at) (whole (goal.at.returns-in_default c).Start)

pub loop-i-preserved : goal.loop-i-preserved
loop-i-preserved c =
    let l = c.loop-i in
    let e = c.measure-room.ensures ∙ ap (room_for c.args.size l.end) c.line-line.ensures.result_value in (
      l.invariant.0,
      measuring_more (λ l. l) (lines (goal.at.loop-i-preserved c).Start) _ c.args.size c.args.at l.invariant.1 []
          c.loop-i-test.true e c.in-Some.is,
    )

pub returns : goal.returns
returns c =
    measuring_end (λ l. l) (lines (goal.at.returns c).Start) _ c.args.size c.args.at c.loop-i.invariant.1 c.loop-i-test.false
    ∙ ap (room_for c.args.size c.args.at) (whole (goal.at.returns c).Start)
