-- `in_ranges` makes the definition's tests: once the counts are within the arrays, the first of the others that fails decides.
use Rattle.std.proofs.Common.{◌≤◌, sym, ◌∙◌, arith}
use borrow.Author.Tests.{le-leb}
use Rattle.lists.proofs.Tests.{clash}
use Rattle.well_formed.specs.Form.{ranges_kept}
use Rattle.well_formed.proofs.in_ranges.Goals.{then-site_in_range, else-site_in_range}
use Rattle.well_formed.proofs.in_ranges.Goals as goal

pub returns-then-characters_in_range : goal.returns-then-characters_in_range
unfolding ranges_kept
returns-then-characters_in_range c =
    let few : c.args.n ≤ 1024 = omega arith in
    let fewer : c.args.w ≤ 512 = omega arith in
    elim c.if-site_in_range.branch [
      | then-site_in_range w ↦
          rw (
            le-leb _ _ few,
            le-leb _ _ fewer,
            sym c.site_in_range.ensures ∙ w.if-site_in_range.true,
            sym w.characters_in_range.ensures ∙ sym w.value-is ∙ c.if-characters_in_range.true,
          ) c.operations_in_range.ensures
      | else-site_in_range w ↦ clash c.if-characters_in_range.true (w.value-is ∙ w.if-site_in_range.false)
    ]

pub returns-else-characters_in_range : goal.returns-else-characters_in_range
unfolding ranges_kept
returns-else-characters_in_range c =
    let few : c.args.n ≤ 1024 = omega arith in
    let fewer : c.args.w ≤ 512 = omega arith in
    elim c.if-site_in_range.branch [
      | then-site_in_range w ↦
          rw (
            le-leb _ _ few,
            le-leb _ _ fewer,
            sym c.site_in_range.ensures ∙ w.if-site_in_range.true,
            sym w.characters_in_range.ensures ∙ sym w.value-is ∙ c.if-characters_in_range.false,
          ) c.if-characters_in_range.false
      | else-site_in_range w ↦
          rw (le-leb _ _ few, le-leb _ _ fewer, sym c.site_in_range.ensures ∙ w.if-site_in_range.false) c.if-characters_in_range.false
    ]
