-- `saved_lines::character_row` meets its contract: what the numbers say is the row, which has no place.
use Rattle.std.proofs.Common.{rules, ◌≡◌, Ok}
use Rattle.saved.specs.declared.Rows.TheVariants.{Saved}
use Rattle.saved_lines.specs.Judging.{row_of, row_in_range}
use Rattle.saved_lines.proofs.Judging.{says_made}
use Rattle.saved_lines.proofs.character_row.Goals as goal

pub returns : goal.returns
unfolding row_of row_in_range
returns c =
    let k = Saved c.args.version in
    let taken : c.args.numbers ≡ Ok c.in_ok-numbers.field-0 = search rules in
    says_made (row_of k) (row_in_range k) taken (λ j. record { place = 0; character = c.character_of-character.ensures j })
    c.character_in_range.ensures c.ranged.ensures
