-- `saving::columns::put_lines` meets its contract, by the invariant of the loop over lines.
use Prim.Native.Nat.{ℕ, ◌+◌, ◌-◌, ◌≤◌}
use mathlib.Core.Path.{◌≡◌, ap, ◌∙◌}
use mathlib.Core.List.{List, []}
use lib.ListN.{length, take}
use Rattle.output.specs.Output.{placed, past}
use Rattle.output.proofs.Laws.{length-placed}
use Rattle.lines.proofs.Sequences.{Putting, putting_begun, putting_more, putting_end}
use Rattle.saving.specs.Documents.{lists_of, lines_as, body_as}
use Rattle.saving.proofs.Documents.{lines_many, all_lines}
use Rattle.lines.specs.Lines.{concatenated}
use native.Mathlib.Omega.{arith}
use Rattle.saving.proofs.columns.put_lines.Goals.{Start}
use Rattle.saving.proofs.columns.put_lines.Goals as goal

-- the lines that are lent
abbrev lines : Start → List (List ℕ)
lines s =
    let a = s.args in
    lines_as a.rows (lists_of a.places.now a.characters.now a.toggles.now a.n a.pending.now a.slots a.w)

many : (s : Start) → length (lines s) ≡ s.args.n + s.args.w
many s =
    let a = s.args in
    lines_many a.rows a.places.now a.characters.now a.toggles.now a.n a.pending.now a.slots a.w

whole : (s : Start) → let a = s.args in concatenated (λ l. l) (take (a.n + a.w) (lines s)) ≡ body_as a.rows (lists_of
    a.places.now a.characters.now a.toggles.now a.n a.pending.now a.slots a.w)
whole s =
    let a = s.args in
    all_lines a.rows a.places.now a.characters.now a.toggles.now a.n a.pending.now a.slots a.w

pub loop-i-init : goal.loop-i-init
loop-i-init c =
    let room = c.requires.w_in_bounds in
    (omega arith, putting_begun (λ l. l) (lines (goal.at.loop-i-init c).Start) _ _ _ (omega (arith, many (goal.at.loop-i-init c).Start)) (omega (arith, room, ap length (whole (goal.at.loop-i-init c).Start))))

pub line-line-requires : goal.line-line-requires
line-line-requires c =
    record {
      has_slots = c.requires.has_slots;
      at_bound = c.loop-i-test.true;
    }

pub put_numbered-end-requires : goal.put_numbered-end-requires
put_numbered-end-requires c = c.line-line.ensures.count_bound

pub loop-i-preserved : goal.loop-i-preserved
loop-i-preserved c =
    let l = c.loop-i in
    let p = c.put_numbered-end.ensures in
    let e = c.line-line.ensures.result_value in (
      l.invariant.0,
      putting_more (λ l. l) (lines (goal.at.loop-i-preserved c).Start) _ c.args.out.now c.args.at l.invariant.1 []
          c.loop-i-test.true (p.value ∙ ap (past _ _) e, p.out_after ∙ ap (placed _ _) e),
    )

pub returns : goal.returns
returns c =
    (putting_end (λ l. l) (lines (goal.at.returns c).Start) _ c.args.out.now c.args.at c.loop-i.invariant.1 c.loop-i-test.false).1
    ∙ ap (placed c.args.out.now c.args.at) (whole (goal.at.returns c).Start)

pub shape_of-out : goal.shape_of-out
shape_of-out c = ap length (returns c) ∙ length-placed _ _ _
