-- `loading::filling::read_operations` meets its contract, by the invariant of `proofs/Collecting.antt`.
use Rattle.std.proofs.Common.{rules, ◌≡◌, [], length, get_or, ap, ◌∙◌, arith, is_ok}
use Rattle.std.specs.Result.{result_unwrap_or}
use Rattle.lists.proofs.Tests.{clash}
use Rattle.lines.specs.Lines.{lines}
use Rattle.lines.proofs.Lines.{rest_shorter}
use Rattle.woot.specs.State.{blank_operation}
use Rattle.saved_lines.specs.Judging.{operation_in_layout, operation_read}
use Rattle.loading.proofs.Collecting.{operation_lacking, Stored, operation_stored, operation-blank}
use Rattle.loading.proofs.Collecting.{back-begun, back-length, back_end, back-filled, back_none, back-lacks, back_more}
use Rattle.loading.proofs.filling.read_operations.Goals.{After-read_operation, After-store_operation, in-Ok, in-Err-Above}
use Rattle.loading.proofs.filling.read_operations.Goals as goal

-- the first line that is left, as it is read
line_read : (c : After-read_operation) → c.read_operation.result ≡ operation_read c.args.version (get_or (lines c.loop-left.left.now) 0 [])
line_read c = c.read_operation.ensures ∙ ap (operation_read c.args.version) c.head.ensures

pub loop-left-init : goal.loop-left-init
loop-left-init c = back-begun _ _ c.requires

pub returns-in-Err-Malformed : goal.returns-in-Err-Malformed
returns-in-Err-Malformed c =
    let l = c.loop-left in
    let r = line_read (goal.at.returns-in-Err-Malformed c).After-read_operation in
    let e = operation_lacking c.in-Err-Malformed.is (search rules) in
    record {
      value = back_none l.invariant c.loop-left-test.true _ r e;
      pending_len = back-length l.invariant;
      pending_after = λ laid. clash laid (back-lacks l.invariant c.loop-left-test.true _ r e);
    }

-- what is stored of the line
stored : (c : After-store_operation)
    → let w = c.read_operation.result in
    Stored (operation_in_layout w) (is_ok w) (result_unwrap_or w blank_operation) c.match-read_operation.operation c.loop-left.in_range c.match-read_operation.in_range
stored c =
    elim c.match-read_operation.branch [
      | in-Ok w ↦ operation_stored w.in-Ok.is w.operation-is w.in_range-is
      | in-Err-Above w ↦ operation-blank w.in-Err-Above.is (search rules) (w.operation-is ∙ w.blank_operation-operation.ensures) w.in_range-is
    ]

pub store_operation-requires : goal.store_operation-requires
store_operation-requires c = back-length c.loop-left.invariant

pub loop-left-smaller : goal.loop-left-smaller
loop-left-smaller c = omega (arith, rest_shorter c.loop-left.left.now c.loop-left-test.true, ap length c.rest-next.ensures)

pub loop-left-preserved : goal.loop-left-preserved
loop-left-preserved c =
    let at = (goal.at.loop-left-preserved c).After-store_operation in
    back_more c.loop-left.invariant c.loop-left-test.true _ (line_read (goal.at.loop-left-preserved c).After-read_operation)
    (stored at).in_layout_so (stored at) c.store_operation.ensures c.rest-next.ensures

pub returns : goal.returns
returns c =
    record {
      value = back_end c.loop-left.invariant (omega arith);
      pending_len = back-length c.loop-left.invariant;
      pending_after = λ laid. back-filled c.loop-left.invariant (omega arith);
    }
