-- `loading::filling::read_rows_at` meets its contract, by the invariant of `proofs/Collecting.antt`.
use Rattle.std.proofs.Common.{rules, ◌≡◌, ℕ, ap, ◌∙◌, is_ok}
use Rattle.loading.specs.Reading.{blank_row}
use Rattle.saved_lines.specs.Judging.{in_layout, said_or}
use Rattle.loading.proofs.Collecting.{lacking, Stored, stored_said, stored_out, stored_blank}
use Rattle.loading.proofs.Collecting.{front-begun, front-characters, front-toggles, front-end, front-past}
use Rattle.loading.proofs.Collecting.{front-begins, front-placed, front-filled, front-toggled, front-next, front-more}
use Rattle.lines.specs.Lines.{rest}
use Rattle.loading.specs.Filling.{kept_at}
use Rattle.lines.proofs.Fronts.{part_from}
use Rattle.loading.proofs.filling.read_rows_at.Goals.{After-store_at, in-Ok, in-Err-OutOfRange, in-Err-Above}
use Rattle.loading.proofs.filling.read_rows_at.Goals as goal

pub loop-row-init : goal.loop-row-init
loop-row-init c =
    let z = c.requires in front-begun _ _ _ _ z.starts_value z.places_value z.characters_value z.toggles_value

pub returns-in-Err-Malformed : goal.returns-in-Err-Malformed
returns-in-Err-Malformed c =
    let i = c.loop-row.invariant in
    let r = c.read_row_front-ahead.ensures.line_value in
    let e = lacking c.in-Err-Malformed.is (search rules) in
    record {
      front_value = front-end i _ r e;
      past = front-past i _ r e;
      starts_after = front-begins i _ r e;
      places_after = front-placed i _ r e;
      characters_after = front-filled i _ r e;
      toggles_after = front-toggled i _ r e;
    }

-- what is stored of the line
stored : (c : After-store_at)
    → let w = c.read_row_front-ahead.result.line in
    Stored (in_layout w) (is_ok w) (said_or w (blank_row c.args.rows)) c.match-ahead.row c.loop-row.in_range c.match-ahead.in_range
stored c =
    let blank = blank_row c.args.rows in
    elim c.match-ahead.branch [
      | in-Ok w ↦ stored_said blank w.in-Ok.is w.row-is w.in_range-is
      | in-Err-OutOfRange w ↦ stored_out blank w.in-Err-OutOfRange.is (search rules) w.row-is w.in_range-is
      | in-Err-Above w ↦ stored_blank blank w.in-Err-Above.is (search rules) (w.row-is ∙ w.blank_row-row.ensures) w.in_range-is
    ]

-- the bytes that are left after it
rest-is : (c : After-store_at) → part_from c.loop-row.left.now c.read_row_front-ahead.result.next ≡ rest c.loop-row.left.now
rest-is c =
    front-next c.loop-row.invariant _ c.read_row_front-ahead.ensures.line_value (stored c).in_layout_so c.read_row_front-ahead.ensures.next_value

pub store_character-requires : goal.store_character-requires
store_character-requires c = front-characters c.loop-row.invariant

pub loop-row-preserved : goal.loop-row-preserved
loop-row-preserved c =
    let l = c.loop-row in
    let at = (goal.at.loop-row-preserved c).After-store_at in
    let read = c.read_row_front-ahead in
    let kept = ap (λ (n : ℕ). kept_at n l.count c.match-ahead.row.character.toggles l.toggles) (front-toggles l.invariant) in
    front-more l.invariant _ read.ensures.line_value (stored at).in_layout_so (stored at)
    c.store_at.ensures c.store_at-in-loop-row.ensures c.store_character.ensures (c.store_at-in-loop-row-2.ensures ∙ kept) (rest-is at)
